-- What a crash leaves of a follower's log.
use Rattle.std.proofs.Common.{◌≡◌, ℕ, ◌<◌, ◌≤◌, List, [], ◌∷◌, ◌++◌, length, take, Bool}
use Rattle.std.proofs.Common.{refl, sym, ap, ◌∙◌, arith, subst, append_assoc}
use Rattle.std.specs.Prelude.{map}
use Rattle.std.specs.List.{AllByRecursion}
use Rattle.std.proofs.lemmas.List.{append-nil}
use Rattle.cdc_match.specs.Arguments.{Arguments}
use Rattle.cdc_follow.specs.declared.entries.Entry.{Entry}
use Rattle.cdc_follow.specs.Following.{FollowState, follow_all}
use Rattle.cdc_follow.specs.Saved.{CanBeSaved, book_text}
use Rattle.cdc_follow.specs.Widths.{ContentFits}
use Rattle.cdc_follow.proofs.SaveableLemmas.{can_be_saved}
use Rattle.cdc_book_log.specs.Crashes.{CrashesKeepSaves, CutBasesAreNotRead, IsAfterCrash}
use Rattle.cdc_frames.specs.Frames.{IsSplit, frame, frames}
use Rattle.cdc_frames.specs.Records.{IsText}
use Rattle.cdc_frames.proofs.FrameLemmas.{cut_first, cuts}
use Rattle.cdc_book_log.specs.Logs.{log_name}
use Rattle.cdc_book_log.specs.Replay.{change_by, changes_by, emptied}
use Rattle.cdc_book_log.proofs.ReplayLemmas.{saves_replayed}

-- a text is split into frames with these contents
abbrev Split : Bool → List ℕ → List ℕ → List (List ℕ) → List ℕ → Type 0
Split chained name text kept torn = IsSplit log_name (IsText (book_text chained name)) 0 text kept torn

-- the entries of a list fit
abbrev Fits : List Entry → Type 0
Fits entries = AllByRecursion (λ entry. ContentFits entry.content) entries

-- what changes can be saved
emptied_saved : (name : List ℕ) (state : FollowState) → CanBeSaved name state → CanBeSaved name (emptied state)
emptied_saved name state saved = record {
  line = saved.line;
  seen = saved.seen;
  last = saved.last;
  applied = saved.applied;
  book = record { fit = tt; distinct = refl };
}

changes_saved : (binding : Arguments) (name : List ℕ) (state : FollowState) (saves : List (List Entry))
    → CanBeSaved name state → AllByRecursion Fits saves
    → AllByRecursion (CanBeSaved name) (changes_by binding state saves)
changes_saved binding name state [] saved fit = tt
changes_saved binding name state (entries ∷ saves) saved fit = (
  can_be_saved binding name (emptied state) entries (emptied_saved name state saved) fit.0,
  changes_saved binding name (follow_all binding state entries) saves
      (can_be_saved binding name state entries saved fit.0) fit.1,
)

-- the first texts of the changes are those of the first saves
record Firsts (binding : Arguments) (chained : Bool) (name : List ℕ) (state : FollowState) (saves : List (List Entry))
    (kept lost : List (List ℕ)) : Type 0 where
  pub done : List (List Entry)
  pub later : List (List Entry)
  pub parted : saves ≡ done ++ later
  pub kept_is : kept ≡ map (book_text chained name) (changes_by binding state done)
  pub next : (one : List Entry) (others : List (List Entry)) → later ≡ one ∷ others
      → (first : List ℕ) × (rest : List (List ℕ)) × (lost ≡ first ∷ rest)
      × (kept ++ first ∷ [] ≡ map (book_text chained name) (changes_by binding state (done ++ one ∷ [])))

firsts : (binding : Arguments) (chained : Bool) (name : List ℕ) (state : FollowState) (saves : List (List Entry))
    (kept lost : List (List ℕ)) → map (book_text chained name) (changes_by binding state saves) ≡ kept ++ lost
    → Firsts binding chained name state saves kept lost
firsts binding chained name state saves [] lost is = record {
  done = [];
  later = saves;
  parted = refl;
  kept_is = refl;
  next = λ one others same.
      let lost_is : lost ≡ map (book_text chained name) (changes_by binding state (one ∷ others)) =
      sym is ∙ ap (λ l. map (book_text chained name) (changes_by binding state l)) same in (
        book_text chained name (change_by binding state one),
        map (book_text chained name) (changes_by binding (follow_all binding state one) others),
        lost_is,
        refl,
      );
}
firsts binding chained name state [] (k ∷ kept) lost is = absurd cc
firsts binding chained name state (entries ∷ saves) (k ∷ kept) lost is =
    let text = book_text chained name (change_by binding state entries) in
    let after = follow_all binding state entries in
    let first : k ≡ text = cc in
    let more : map (book_text chained name) (changes_by binding after saves) ≡ kept ++ lost = cc in
    let rest = firsts binding chained name after saves kept lost more in
    record {
      done = entries ∷ rest.done;
      later = rest.later;
      parted = ap (λ l. entries ∷ l) rest.parted;
      kept_is = ap (λ l. l ∷ kept) first ∙ ap (λ l. text ∷ l) rest.kept_is;
      next = λ one others same.
          let found = rest.next one others same in (
            found.0,
            found.1,
            found.2,
            ap (λ l. l ∷ (kept ++ found.0 ∷ [])) first ∙ ap (λ l. text ∷ l) found.3,
          );
    }

-- what holds of the first saves holds of all that were done
first_ones : (done lost : List (List Entry)) → AllByRecursion Fits (done ++ lost) → AllByRecursion Fits done
first_ones [] lost all = tt
first_ones (entries ∷ done) lost all = (all.0, first_ones done lost all.1)

pub crashed : CrashesKeepSaves
crashed binding chained name state saves n saved fit small late =
    let base = book_text chained name state in
    let texts = map (book_text chained name) (changes_by binding state saves) in
    let cut = cuts (IsText (book_text chained name)) log_name 0 (base ∷ texts) n (omega (arith, small)) in
    go cut.kept cut.lost cut.torn cut.parted cut.split cut.ended cut.next
  where
    base : List ℕ
    base = book_text chained name state

    texts : List (List ℕ)
    texts = map (book_text chained name) (changes_by binding state saves)

    go : (kept lost : List (List ℕ)) (torn : List ℕ) → base ∷ texts ≡ kept ++ lost
        → Split chained name (take n (frames log_name 0 (base ∷ texts))) kept torn
        → length (frames log_name 0 kept) ≤ n
        → ((first : List ℕ) (others : List (List ℕ)) → lost ≡ first ∷ others
        → n < length (frames log_name 0 (kept ++ first ∷ [])))
        → IsAfterCrash binding chained name state saves n
    go [] lost torn parted split ended next =
        let early = next base texts (sym parted) in
        let size : length (frames log_name 0 (base ∷ [])) ≡ length (frame log_name 0 base) =
        ap length (append-nil (frame log_name 0 base)) in
        absurd (omega (arith, early, size, late))
    go (k ∷ kept) lost torn parted split ended next =
        let same : k ≡ base = cc in
        let more : texts ≡ kept ++ lost = cc in
        let found = firsts binding chained name state saves kept lost more in
        let kept_is : k ∷ kept ≡ base ∷ map (book_text chained name) (changes_by binding state found.done) =
        ap (λ l. l ∷ kept) same ∙ ap (λ l. base ∷ l) found.kept_is in
        let fit_done : AllByRecursion Fits found.done =
        first_ones found.done found.later (subst (AllByRecursion Fits) found.parted fit) in
        record {
          done = found.done;
          lost = found.later;
          torn = torn;
          parted = found.parted;
          text_is = subst (λ l. Split chained name (take n (frames log_name 0 (base ∷ texts))) l torn) kept_is split;
          fits = (saved, changes_saved binding name state found.done saved fit_done);
          follower_is = saves_replayed binding state found.done;
          ended = subst (λ l. length (frames log_name 0 l) ≤ n) kept_is ended;
          next = λ one others is.
              let first = found.next one others is in
              let early = next first.0 first.1 first.2 in
              subst (λ l. n < length (frames log_name 0 l)) (ap (λ l. l ∷ (kept ++ first.0 ∷ [])) same
              ∙ ap (λ l. base ∷ l) first.3) early;
        }

pub cut_base : CutBasesAreNotRead
cut_base chained name base changes n log small early read =
    let found = book_text log.chained log.binding.items read.base in
    let others = frames log_name 1 (map (book_text log.chained log.binding.items) read.changes) in
    cut_first log_name 0 (book_text chained name base) (frames log_name 1 (map (book_text chained name) changes)) n
    (omega arith) small early found (others ++ read.torn)
    (read.text_is.whole ∙ append_assoc (frame log_name 0 found) others read.torn)

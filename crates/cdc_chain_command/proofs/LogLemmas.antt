-- The log of a chain's states: how it is read, kept and cut.
use Rattle.std.proofs.Common.{◌≡◌, ℕ, ◌+◌, ◌<◌, ◌≤◌, ◌^◌, List, [], ◌∷◌, ◌++◌, length, map, take, Bool, Option, None, Some}
use Rattle.std.proofs.Common.{refl, sym, ap, ap₂, ◌∙◌, subst, append-nil, arith}
use Rattle.std.specs.Prelude.{Err, IfOk, IfSome, IsSomeAnd, Ok, Result}
use Rattle.std.specs.declared.alloc.AllocError.{AllocError}
use Rattle.std.proofs.lemmas.List.{length-append, length-map, map-append}
use Rattle.cdc_frames.specs.Frames.{IsSplit, frame, frames}
use Rattle.cdc_frames.specs.Records.{IsReplayed, IsText}
use Rattle.cdc_frames.proofs.FrameLemmas.{cuts, frames-append}
use Rattle.cdc_frames.proofs.RecordLemmas.{record_before}
use Rattle.cdc_streams.specs.Keeping.{AppendsText, ReplacesText, last_text}
use Rattle.cdc_streams.proofs.KeepingLemmas.{last_of_more}
use Rattle.cdc_chain.specs.Chains.{ChainState}
use Rattle.cdc_chain_command.specs.Logs.{Fits, IsCut, IsRead, IsTextOf, LogsCanBeCut, Saved, log_name, log_text, saved_text}
use Rattle.cdc_chain_command.specs.Private.Reads.{saved_of}
use Rattle.cdc_chain_command.specs.Private.Steps.{FitsBy, HasRecords, Keeps}
use Rattle.cdc_chain_command.specs.States.{CanBeSaved, fresh, state_text}
use Rattle.cdc_chain_command.specs.declared.reading.SavedState.{SavedState}

-- ---- reading

-- a state that counts no duplicates is the one that is read back
fresh_is : (state : ChainState) → state.duplicates ≡ 0 → fresh state ≡ state
fresh_is state none = ap (λ (d : ℕ). let it : ChainState = record state { duplicates = d } in it) (sym none)

-- the text of a state that fits is read as that state
pub reads_as : (count : ℕ) (text : List ℕ) (read : Option SavedState)
    → ((saved : List (List ℕ)) (state : ChainState) → CanBeSaved saved state → length saved ≡ count
    → text ≡ state_text saved state → IsSomeAnd read (λ it. (it.chain ≡ fresh state)
    × (map (λ t. t.items) it.texts.items ≡ saved)))
    → (one : Saved) → Fits count one → text ≡ saved_text one → IsSomeAnd read (λ it. saved_of it ≡ one)
reads_as count text None all one fit is = all one.names one.state fit.can fit.many is
reads_as count text (Some it) all one fit is =
    let both = all one.names one.state fit.can fit.many is in
    let state = both.0 ∙ fresh_is one.state fit.fresh in
    λ i. record { names = both.1 i; state = state i }

-- a log is read if its first state is, and the states after that
pub read_whole : (count : ℕ) (text content after : List ℕ) (first : SavedState)
    (answer : Result (Option SavedState) AllocError) → text ≡ frame log_name 0 content ++ after
    → content ≡ saved_text (saved_of first)
    → IfOk answer (λ read. IfSome read (λ last. (records : ℕ) × (torn : ℕ) × IsReplayed log_name (Fits count) saved_text
    (λ before next. next) after (saved_of first) (saved_of last) records torn))
    → IfOk answer (λ read. IfSome read (λ last. IsRead count text (saved_of last)))
read_whole count text content after first (Err why) is first_is replays = tt
read_whole count text content after first (Ok None) is first_is replays = tt
read_whole count text content after first (Ok (Some last)) is first_is replays =
    let tail = replays.2 in
    record {
      first = saved_of first;
      later = tail.records;
      torn = tail.torn;
      text_is = record_before log_name (Fits count) saved_text 0 text content after tail.torn (saved_of first)
          tail.records is first_is tail.bytes_are;
      last = tail.replayed.state_is;
    }

-- ---- keeping

-- the text of a log with one more state
more_text : (names : List (List ℕ)) (states : List ChainState) (state : ChainState) (number : ℕ)
    → number ≡ length states
    → frames log_name 0 (map (state_text names) states) ++ frame log_name number (state_text names state)
    ≡ frames log_name 0 (map (state_text names) (states ++ state ∷ []))
more_text names states state number is =
    let texts = map (state_text names) states in
    let text = state_text names state in
    let same : length texts ≡ length states = length-map states (state_text names) in
    let count : 0 + length texts ≡ number = omega (arith, is, same) in
    sym (ap (frames log_name 0) (map-append (state_text names) states (state ∷ []))
    ∙ frames-append log_name 0 texts (text ∷ [])
    ∙ ap (λ l. frames log_name 0 texts ++ l)
    (append-nil (frame log_name (0 + length texts) text) ∙ ap (λ n. frame log_name n text) count))

module _ (names : List (List ℕ)) (state : ChainState) (text : List ℕ) (text_is : text ≡ state_text names state) where
  abbrev Frame : ℕ → List ℕ
  Frame number = frame log_name number text

  base_is : Frame 0 ≡ frames log_name 0 (map (state_text names) (state ∷ []))
  base_is = ap (frame log_name 0) text_is ∙ sym (append-nil (frame log_name 0 (state_text names state)))

  more_is : (states : List ChainState) (number : ℕ) → number ≡ length states
      → frames log_name 0 (map (state_text names) states) ++ Frame number
      ≡ frames log_name 0 (map (state_text names) (states ++ state ∷ []))
  more_is states number is =
      ap (λ t. frames log_name 0 (map (state_text names) states) ++ frame log_name number t) text_is
      ∙ more_text names states state number is

  pub keeps_base : (old new : Option (List (List ℕ))) → ReplacesText old new (Frame 0) → Keeps names old new state
  keeps_base None new is = tt
  keeps_base (Some before) new is = (Frame 0, is, ([], base_is))

  has_base : (old new : Option (List (List ℕ))) → ReplacesText old new (Frame 0) → HasRecords names new 0
  has_base None new is = subst (λ it. HasRecords names it 0) (sym is) tt
  has_base (Some before) new is =
      subst (λ it. HasRecords names it 0) (sym is)
      (state ∷ [], last_of_more before (Frame 0) ∙ base_is, refl)

  pub fits_base : (old new : Option (List (List ℕ))) (begun : Bool) (records : ℕ) → ReplacesText old new (Frame 0)
      → records ≡ 0 → FitsBy begun names new records
  fits_base old new begun records is none =
      λ yes. subst (HasRecords names new) (sym none) (has_base old new is)

  pub keeps_record : (old new : Option (List (List ℕ))) (records number : ℕ) → HasRecords names old records
      → number ≡ records + 1 → AppendsText old new (Frame number) → Keeps names old new state
  keeps_record None new records number has next is = tt
  keeps_record (Some before) new records number has next is = (
    last_text before ++ Frame number,
    is,
    (has.0, ap (λ t. t ++ Frame number) has.1 ∙ more_is has.0 number (next ∙ sym has.2)),
  )

  has_record : (old new : Option (List (List ℕ))) (records number : ℕ) → HasRecords names old records
      → number ≡ records + 1 → AppendsText old new (Frame number) → HasRecords names new number
  has_record None new records number has next is = subst (λ it. HasRecords names it number) (sym is) tt
  has_record (Some before) new records number has next is =
      let longer = length-append has.0 (state ∷ []) in
      let count = has.2 in
      subst (λ it. HasRecords names it number) (sym is) (
        has.0 ++ state ∷ [],
        last_of_more before (last_text before ++ Frame number) ∙ ap (λ t. t ++ Frame number) has.1
            ∙ more_is has.0 number (next ∙ sym has.2),
        omega (arith, longer, count, next),
      )

  pub fits_record : (old new : Option (List (List ℕ))) (begun : Bool) (records number later : ℕ)
      → HasRecords names old records → number ≡ records + 1 → later ≡ number → AppendsText old new (Frame number)
      → FitsBy begun names new later
  fits_record old new begun records number later has next same is =
      λ yes. subst (HasRecords names new) (sym same) (has_record old new records number has next is)

-- ---- cutting

-- a list whose images are in two parts
split_map : {X Y : Type 0} (f : X → Y) (xs : List X) (ys zs : List Y) → map f xs ≡ ys ++ zs
    → (a : List X) × (b : List X) × (xs ≡ a ++ b) × (ys ≡ map f a) × (zs ≡ map f b)
split_map f xs [] zs is = ([], xs, refl, refl, sym is)
split_map f [] (y ∷ ys) zs is = absurd cc
split_map f (x ∷ xs) (y ∷ ys) zs is =
    let first : y ≡ f x = cc in
    let more : map f xs ≡ ys ++ zs = cc in
    let rest = split_map f xs ys zs more in (
      x ∷ rest.0,
      rest.1,
      ap (λ l. x ∷ l) rest.2,
      ap₂ (λ one others. one ∷ others) first rest.3,
      rest.4,
    )

pub logs_cut : LogsCanBeCut
logs_cut first later n small within =
    let cut = cuts (IsText saved_text) log_name 0 (map saved_text (first ∷ later)) n (omega (arith, small)) in
    go cut.kept cut.lost cut.torn cut.parted cut.split cut.next
  where
    go : (kept lost : List (List ℕ)) (torn : List ℕ) → map saved_text (first ∷ later) ≡ kept ++ lost
        → IsSplit log_name (IsText saved_text) 0 (take n (log_text first later)) kept torn
        → ((one : List ℕ) (others : List (List ℕ)) → lost ≡ one ∷ others
        → n < length (frames log_name 0 (kept ++ one ∷ []))) → IsCut first later n
    go [] lost torn parted split next =
        let more = next (saved_text first) (map saved_text later) (sym parted) in absurd (omega (arith, within, more))
    go (k ∷ kept) lost torn parted split next =
        let same : k ≡ saved_text first = cc in
        let more : map saved_text later ≡ kept ++ lost = cc in
        let parts = split_map saved_text later kept lost more in
        record {
          kept = parts.0;
          lost = parts.1;
          torn = torn;
          parted = parts.2;
          text_is = subst (λ l. IsSplit log_name (IsText saved_text) 0 (take n (log_text first later)) l torn)
              (ap₂ (λ one others. one ∷ others) same parts.3) split;
          next = λ one others is.
              subst (λ l. n < length (frames log_name 0 l)) (ap₂ (λ one others. one ∷ others) same
              (ap (λ l. l ++ saved_text one ∷ []) parts.3 ∙ sym (map-append saved_text parts.0 (one ∷ []))))
              (next (saved_text one) (map saved_text others) (parts.4 ∙ ap (map saved_text) is));
        }

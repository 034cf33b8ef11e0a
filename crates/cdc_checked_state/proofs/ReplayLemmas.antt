-- The records of a log are followed one after another, and a log is cut.
use Rattle.std.proofs.Common.{◌≡◌, ◌≢◌, ℕ, ◌+◌, ◌<◌, ◌≤◌, ◌^◌, List, [], ◌∷◌, ◌++◌, append-nil, append_assoc, inl, inr, length, refl, subst, sym, take, ap, ◌∙◌, true, arith}
use Rattle.std.proofs.lemmas.List.{append_cancel_left, length-append}
use Rattle.std.proofs.lemmas.List.Sums.{fold-append}
use Rattle.cdc_match.specs.Arguments.{Arguments}
use Rattle.cdc_frames.specs.Frames.{BeginsNoFrame, IsSplit, frame, frames}
use Rattle.cdc_frames.proofs.FrameLemmas.{content_within, cuts, frame_bytes, frame_unique, frames-append}
use Rattle.cdc_checked_follow.specs.declared.streams.CheckStop.TheVariants as stop
use Rattle.cdc_checked_follow.specs.Checking.{CheckedState, bytes_checked}
use Rattle.cdc_checked_follow.specs.Standing.{CheckedFollowerState, StandsFor}
use Rattle.cdc_checked_state.specs.Logs.{AreWhole, AreWholeButLast, CanBeReplayed, IsCut, IsLogText, LogsCanBeCut, Replays, checked_all, log_name, log_text}
use Rattle.cdc_checked_state.specs.Records.{AreRecords, ChecksRecords}
use Rattle.cdc_checked_state.specs.States.{state_text}

module _ (taking : Arguments) where
  -- ---- records

  -- one more of them
  all_more : (state : CheckedState) (done : List (List ℕ)) (content : List ℕ)
      → checked_all state (done ++ content ∷ []) ≡ (bytes_checked true (checked_all state done) content).state
  all_more state done content =
      fold-append (λ so_far bytes. (bytes_checked true so_far bytes).state) state done (content ∷ [])

  whole_more : (state : CheckedState) (done : List (List ℕ)) (content : List ℕ) → AreWhole state done
      → (bytes_checked true (checked_all state done) content).stop ≡ stop.AtEnd → AreWhole state (done ++ content ∷ [])
  whole_more state [] content followed ends = (ends, tt)
  whole_more state (one ∷ done) content followed ends =
      (followed.0, whole_more (bytes_checked true state one).state done content followed.1 ends)

  -- so a follower goes on
  pub replays_more : (old now new : CheckedFollowerState) (done : List (List ℕ)) (content : List ℕ)
      → Replays taking old done now
      → ((state : CheckedState) → StandsFor taking now state → (bytes_checked true state content).stop ≡ stop.AtEnd)
      → ((state : CheckedState) → StandsFor taking now state
      → StandsFor taking new (bytes_checked true state content).state)
      → Replays taking old (done ++ content ∷ []) new
  replays_more old now new done content before ends goes state stands =
      let was = before state stands in
      let mid = checked_all state done in (
        whole_more state done content was.0 (ends mid was.1),
        subst (StandsFor taking new) (sym (all_more state done content)) (goes mid was.1),
      )

  -- the last one may be followed in part
  but_last : (state : CheckedState) (records : List (List ℕ)) → AreWhole state records
      → AreWholeButLast state records
  but_last state [] followed = tt
  but_last state (one ∷ []) followed = tt
  but_last state (one ∷ next ∷ more) followed =
      (followed.0, but_last (bytes_checked true state one).state (next ∷ more) followed.1)

  but_last_more : (state : CheckedState) (done : List (List ℕ)) (content : List ℕ) → AreWhole state done
      → AreWholeButLast state (done ++ content ∷ [])
  but_last_more state [] content followed = tt
  but_last_more state (one ∷ []) content followed = (followed.0, tt)
  but_last_more state (one ∷ next ∷ more) content followed =
      (followed.0, but_last_more (bytes_checked true state one).state (next ∷ more) content followed.1)

  -- each of them is followed
  whole_at : (state : CheckedState) (done : List (List ℕ)) (content : List ℕ) (left : List (List ℕ))
      → AreWhole state (done ++ content ∷ left)
      → (bytes_checked true (checked_all state done) content).stop ≡ stop.AtEnd
  whole_at state [] content left followed = followed.0
  whole_at state (one ∷ done) content left followed =
      whole_at (bytes_checked true state one).state done content left followed.1

  but_last_at : (state : CheckedState) (done : List (List ℕ)) (content next : List ℕ) (more : List (List ℕ))
      → AreWholeButLast state (done ++ content ∷ next ∷ more)
      → (bytes_checked true (checked_all state done) content).stop ≡ stop.AtEnd
  but_last_at state [] content next more followed = followed.0
  but_last_at state (one ∷ []) content next more followed = followed.1.0
  but_last_at state (one ∷ two ∷ done) content next more followed =
      but_last_at (bytes_checked true state one).state (two ∷ done) content next more followed.1

  -- ---- frames

  frames_more : (done : List (List ℕ)) (content : List ℕ) (count : ℕ) → count ≡ length done
      → frames log_name 1 (done ++ content ∷ []) ≡ frames log_name 1 done ++ frame log_name (count + 1) content
  frames_more done content count is =
      let number : 1 + length done ≡ count + 1 = omega (arith, is) in
      frames-append log_name 1 done (content ∷ [])
      ∙ ap (λ l. frames log_name 1 done ++ l)
      (append-nil (frame log_name (1 + length done) content) ∙ ap (λ n. frame log_name n content) number)

  -- no frame is in no bytes
  no_frame : (number : ℕ) → BeginsNoFrame log_name number []
  no_frame number content rest is =
      let some = frame_bytes log_name number content in
      let all = length-append (frame log_name number content) rest in
      let none : length (frame log_name number content ++ rest) ≡ 0 = ap length (sym is) in
      absurd (omega (arith, some, all, none))

  -- of these records some are left
  pub record Left (done : List (List ℕ)) (count : ℕ) (rest : List ℕ) (records : List (List ℕ)) (torn : List ℕ)
      : Type 0 where
    pub left : List (List ℕ)
    pub records_are : records ≡ done ++ left
    pub rest_is : rest ≡ frames log_name (count + 1) left ++ torn

  -- so many records were followed
  pub record SoFar (text : List ℕ) (old : CheckedFollowerState) (count : ℕ) (rest : List ℕ)
      (now : CheckedFollowerState) : Type 0 where
    pub done : List (List ℕ)
    pub text_is : text ≡ frames log_name 1 done ++ rest
    pub count_is : count ≡ length done
    pub bound : count + length rest ≤ length text
    pub followed : Replays taking old done now
    pub all : (records : List (List ℕ)) (torn : List ℕ) → AreRecords text records torn
        → Left done count rest records torn

  pub none_yet : (text : List ℕ) (old : CheckedFollowerState) → SoFar text old 0 text old
  none_yet text old = record {
    done = [];
    text_is = refl;
    count_is = refl;
    bound = omega arith;
    followed = λ state stands. (tt, stands);
    all = λ records torn are. record { left = records; records_are = refl; rest_is = are.0 };
  }

  -- a torn end that begins with no frame of this number, by how many records precede it
  as_torn : (done : List (List ℕ)) (count : ℕ) (rest : List ℕ) → count ≡ length done
      → BeginsNoFrame log_name (count + 1) rest → BeginsNoFrame log_name (length done + 1) rest
  as_torn done count rest is none = subst (λ n. BeginsNoFrame log_name (n + 1) rest) is none

  module _ (text : List ℕ) (old : CheckedFollowerState) (count : ℕ) (rest : List ℕ) (now : CheckedFollowerState)
      (before : SoFar text old count rest now) where
    -- the frame that is read is that of the next record
    next_left : (content after : List ℕ) (records : List (List ℕ)) (torn : List ℕ) → length text < 2 ^ 63
        → rest ≡ frame log_name (count + 1) content ++ after → AreRecords text records torn
        → (more : List (List ℕ)) × (records ≡ before.done ++ content ∷ more)
        × (after ≡ frames log_name ((count + 1) + 1) more ++ torn)
    next_left content after records torn small is are =
        let all = before.all records torn are in by all.left all.records_are all.rest_is
      where
        number : ℕ
        number = count + 1

        by : (left : List (List ℕ)) → records ≡ before.done ++ left → rest ≡ frames log_name (count + 1) left ++ torn
            → (more : List (List ℕ)) × (records ≡ before.done ++ content ∷ more)
            × (after ≡ frames log_name ((count + 1) + 1) more ++ torn)
        by [] records_are rest_is =
            let same : records ≡ before.done = records_are ∙ append-nil before.done in
            let length_is : length records ≡ count = ap length same ∙ sym before.count_is in
            absurd (subst (λ n. BeginsNoFrame log_name (n + 1) torn) length_is are.1 content after (sym rest_is ∙ is))
        by (one ∷ more) records_are rest_is =
            let others = frames log_name (number + 1) more ++ torn in
            let whole : rest ≡ frame log_name number one ++ others =
            rest_is ∙ append_assoc (frame log_name number one) (frames log_name (number + 1) more) torn in
            let bound = before.bound in
            let within = content_within log_name number content rest after is in
            let within_too = content_within log_name number one rest others whole in
            let same : content ≡ one =
            frame_unique log_name number content one after others (omega (arith, bound, small))
            (omega (arith, bound, small, within)) (omega (arith, bound, small, within_too)) (sym is ∙ whole) in (
              more,
              records_are ∙ ap (λ c. before.done ++ c ∷ more) (sym same),
              append_cancel_left (frame log_name number content) after others
                  (sym is ∙ whole ∙ ap (λ c. frame log_name number c ++ others) (sym same)),
            )

    pub one_more : (content after : List ℕ) (new : CheckedFollowerState) → length text < 2 ^ 63
        → rest ≡ frame log_name (count + 1) content ++ after
        → ((state : CheckedState) → StandsFor taking now state → (bytes_checked true state content).stop ≡ stop.AtEnd)
        → ((state : CheckedState) → StandsFor taking now state
        → StandsFor taking new (bytes_checked true state content).state)
        → SoFar text old (count + 1) after new
    one_more content after new small is ends goes =
        let done = before.done in
        let bound = before.bound in
        let count_is = before.count_is in
        let within = content_within log_name (count + 1) content rest after is in
        let counts = length-append done (content ∷ []) in
        record {
          done = done ++ content ∷ [];
          text_is = before.text_is ∙ ap (λ l. frames log_name 1 done ++ l) is
              ∙ sym (append_assoc (frames log_name 1 done) (frame log_name (count + 1) content) after)
              ∙ ap (λ l. l ++ after) (sym (frames_more done content count count_is));
          count_is = omega (arith, count_is, counts);
          bound = omega (arith, bound, within);
          followed = replays_more old now new done content before.followed ends goes;
          all = λ records torn are.
              let next = next_left content after records torn small is are in
              record {
                left = next.0;
                records_are = next.1 ∙ sym (append_assoc done (content ∷ []) next.0);
                rest_is = next.2;
              };
        }

    -- no frame is left
    pub ends : BeginsNoFrame log_name (count + 1) rest → ChecksRecords taking text old now
    ends none = record {
      records = before.done;
      torn = rest;
      text_is = (before.text_is, as_torn before.done count rest before.count_is none);
      followed = λ state stands.
          let was = before.followed state stands in (but_last state before.done was.0, was.1);
    }

    pub ends_all : BeginsNoFrame log_name (count + 1) rest → (records : List (List ℕ)) (torn : List ℕ)
        (state : CheckedState) → AreRecords text records torn → StandsFor taking old state
        → StandsFor taking now (checked_all state records)
    ends_all none records torn state are stands =
        let all = before.all records torn are in by all.left all.records_are all.rest_is
      where
        by : (left : List (List ℕ)) → records ≡ before.done ++ left → rest ≡ frames log_name (count + 1) left ++ torn
            → StandsFor taking now (checked_all state records)
        by [] records_are rest_is =
            subst (λ r. StandsFor taking now (checked_all state r)) (sym (records_are ∙ append-nil before.done))
            (before.followed state stands).1
        by (one ∷ more) records_are rest_is =
            absurd (none one (frames log_name ((count + 1) + 1) more ++ torn)
            (rest_is ∙ append_assoc (frame log_name (count + 1) one) (frames log_name ((count + 1) + 1) more) torn))

    -- a last record is followed in part
    pub ends_within : (content after : List ℕ) (new : CheckedFollowerState)
        → rest ≡ frame log_name (count + 1) content ++ after
        → after ≡ []
        → ((state : CheckedState) → StandsFor taking now state
        → StandsFor taking new (bytes_checked true state content).state)
        → ChecksRecords taking text old new
    ends_within content after new is last goes =
        let done = before.done in
        record {
          records = done ++ content ∷ [];
          torn = [];
          text_is = (
            before.text_is ∙ ap (λ l. frames log_name 1 done ++ l)
                (is ∙ ap (λ l. frame log_name (count + 1) content ++ l)
                last ∙ append-nil (frame log_name (count + 1) content))
                ∙ sym (frames_more done content count before.count_is)
                ∙ sym (append-nil (frames log_name 1 (done ++ content ∷ []))),
            no_frame (length (done ++ content ∷ []) + 1),
          );
          followed = λ state stands.
              let was = before.followed state stands in (
                but_last_more state done content was.0,
                subst (StandsFor taking new) (sym (all_more state done content)) (goes (checked_all state done) was.1),
              );
        }

    -- so it is, if records are read that can be replayed
    pub all_within : (content after : List ℕ) (new : CheckedFollowerState) → length text < 2 ^ 63
        → rest ≡ frame log_name (count + 1) content ++ after
        → ((state : CheckedState) → StandsFor taking now state → (bytes_checked true state content).stop ≢ stop.AtEnd)
        → ((state : CheckedState) → StandsFor taking now state
        → StandsFor taking new (bytes_checked true state content).state)
        → (records : List (List ℕ)) (torn : List ℕ) (state : CheckedState) → AreRecords text records torn
        → StandsFor taking old state → CanBeReplayed state records torn
        → (after ≡ []) × StandsFor taking new (checked_all state records)
    all_within content after new small is refused goes records torn state are stands can =
        let next = next_left content after records torn small is are in by next.0 next.1 next.2
      where
        was : AreWhole state before.done × StandsFor taking now (checked_all state before.done)
        was = before.followed state stands

        never : (bytes_checked true (checked_all state before.done) content).stop ≡ stop.AtEnd → ⊥
        never = refused (checked_all state before.done) was.1

        by : (more : List (List ℕ)) → records ≡ before.done ++ content ∷ more
            → after ≡ frames log_name ((count + 1) + 1) more ++ torn
            → (after ≡ []) × StandsFor taking new (checked_all state records)
        by [] same left =
            elim can [
              | inl followed ↦ absurd (never (whole_at state before.done content []
                  (subst (AreWhole state) same followed)))
              | inr part ↦ (
                left ∙ part.1,
                subst (λ r. StandsFor taking new (checked_all state r)) (sym same)
                    (subst (StandsFor taking new) (sym (all_more state before.done content))
                    (goes (checked_all state before.done) was.1)),
              )
            ]
        by (next ∷ more) same left =
            elim can [
              | inl followed ↦ absurd (never (whole_at state before.done content (next ∷ more)
                  (subst (AreWhole state) same followed)))
              | inr part ↦ absurd (never (but_last_at state before.done content next more
                  (subst (AreWholeButLast state) same part.0)))
            ]

-- ---- the base

-- the frame that a log's text begins with is that of its base
pub base_first : (text content after binding : List ℕ) (base : CheckedFollowerState) (records : List (List ℕ))
    (torn : List ℕ)
    → length text < 2 ^ 63 → text ≡ frame log_name 0 content ++ after → IsLogText text binding base records torn
    → (content ≡ state_text binding base) × AreRecords after records torn
base_first text content after binding base records torn small is log =
    let first = state_text binding base in
    let others = frames log_name 1 records ++ torn in
    let whole : text ≡ frame log_name 0 first ++ others =
    log.0 ∙ append_assoc (frame log_name 0 first) (frames log_name 1 records) torn in
    let within = content_within log_name 0 content text after is in
    let within_too = content_within log_name 0 first text others whole in
    let same : content ≡ first =
    frame_unique log_name 0 content first after others (omega arith) (omega (arith, small, within))
    (omega (arith, small, within_too)) (sym is ∙ whole) in (
      same,
      (
        append_cancel_left (frame log_name 0 content) after others
            (sym is ∙ whole ∙ ap (λ c. frame log_name 0 c ++ others) (sym same)),
        log.1,
      ),
    )

pub base_before : (text content after binding : List ℕ) (base : CheckedFollowerState) (records : List (List ℕ))
    (torn : List ℕ)
    → text ≡ frame log_name 0 content ++ after → content ≡ state_text binding base → AreRecords after records torn
    → IsLogText text binding base records torn
base_before text content after binding base records torn is same are = (
  is ∙ ap (λ c. frame log_name 0 c ++ after) same ∙ ap (λ l. frame log_name 0 (state_text binding base) ++ l) are.0
      ∙ sym (append_assoc (frame log_name 0 (state_text binding base)) (frames log_name 1 records) torn),
  are.1,
)

-- a text that begins with no base is none of a log
pub none_first : (text binding : List ℕ) (base : CheckedFollowerState) (records : List (List ℕ)) (torn : List ℕ)
    → BeginsNoFrame log_name 0 text → IsLogText text binding base records torn → ⊥
none_first text binding base records torn none log =
    none (state_text binding base) (frames log_name 1 records ++ torn)
    (log.0 ∙ append_assoc (frame log_name 0 (state_text binding base)) (frames log_name 1 records) torn)

-- ---- cuts

-- any bytes are a content
abbrev Any : List ℕ → Type 0
Any content = Unit {0}

module _ (binding : List ℕ) (base : CheckedFollowerState) (records : List (List ℕ)) (n : ℕ)
    (within : length (log_text binding base []) ≤ n) where
  cut_by : (kept lost : List (List ℕ)) (torn : List ℕ) → state_text binding base ∷ records ≡ kept ++ lost
      → IsSplit log_name Any 0 (take n (log_text binding base records)) kept torn
      → ((first : List ℕ) (others : List (List ℕ)) → lost ≡ first ∷ others
      → n < length (frames log_name 0 (kept ++ first ∷ [])))
      → IsCut binding base records n
  cut_by [] lost torn parted split next =
      let more = next (state_text binding base) records (sym parted) in absurd (omega (arith, within, more))
  cut_by (first ∷ kept) lost torn parted split next =
      let same : state_text binding base ≡ first = cc in
      let rest : records ≡ kept ++ lost = cc in
      record {
        kept = kept;
        lost = lost;
        torn = torn;
        parted = rest;
        text_is = (
          split.whole ∙ ap (λ f. frames log_name 0 (f ∷ kept) ++ torn) (sym same),
          λ content after is.
              let number : length kept + 1 ≡ 0 + length (first ∷ kept) = omega arith in
              (split.rest content after (is ∙ ap (λ k. frame log_name k content ++ after) number)).1 tt,
        );
        next = λ other others is.
            subst (λ f. n < length (frames log_name 0 (f ∷ (kept ++ other ∷ [])))) (sym same) (next other others is);
      }

pub logs_cut : LogsCanBeCut
logs_cut binding base records n small within =
    let cut = cuts Any log_name 0 (state_text binding base ∷ records) n (omega (arith, small)) in
    cut_by binding base records n within cut.kept cut.lost cut.torn cut.parted cut.split cut.next

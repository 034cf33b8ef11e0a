-- The records of a log are audited one after another, and a log is cut.
use Rattle.cdc_audit_state.proofs.Words.{AuditorState, List, None, Option, Some, [], ap, append-nil, append_assoc, arith, false, inl, inr, length, refl, state_text, subst, sym, take, ℕ, ◌++◌, ◌+◌, ◌<◌, ◌^◌, ◌∙◌, ◌∷◌, ◌≡◌, ◌≢◌}
use Rattle.std.specs.Prelude.{◌≤◌}
use Rattle.std.proofs.lemmas.List.{append_cancel_left, length-append}
use Rattle.std.proofs.lemmas.List.Sums.{fold-append}
use Rattle.cdc_frames.specs.Frames.{BeginsNoFrame, IsSplit, frame, frames}
use Rattle.cdc_frames.specs.Laws.{IsCut as AreCut}
use Rattle.cdc_frames.proofs.FrameLemmas.{content_within, cuts, frame_bytes, frame_unique, frames-append}
use Rattle.cdc_follow.specs.declared.entries.Content.{Content}
use Rattle.cdc_follow.specs.declared.entries.Content.TheVariants as content
use Rattle.cdc_follow.specs.Lines.{lines_of}
use Rattle.cdc_follow.specs.Streams.{NumberedEntry, stream_of_lines}
use Rattle.cdc_audit.specs.declared.refusals.Refusal.{Refusal}
use Rattle.cdc_audit.specs.declared.streams.AuditStop.{AuditStop}
use Rattle.cdc_audit.specs.declared.streams.AuditStop.TheVariants as stop
use Rattle.cdc_audit.specs.Audits.{AuditState, Audited, audit_entries, audited_on, bytes_audited, entry_refusal, next_audit}
use Rattle.cdc_audit.specs.Audits.{stop_at}
use Rattle.cdc_audit.specs.Standing.{StandsFor}
use Rattle.cdc_audit_state.specs.Logs.{AreAccepted, AreAcceptedButLast, CanBeReplayed, IsCut, IsLogText, LogsCanBeCut, Replays, audited_all, log_name, log_text}
use Rattle.cdc_audit_state.specs.Records.{AreRecords, AuditsRecords}

-- ---- records

-- one more of them
all_more : (state : AuditState) (done : List (List ℕ)) (content : List ℕ)
    → audited_all state (done ++ content ∷ []) ≡ (bytes_audited (audited_all state done) content).state
all_more state done content =
    fold-append (λ so_far bytes. (bytes_audited so_far bytes).state) state done (content ∷ [])

accepted_more : (state : AuditState) (done : List (List ℕ)) (content : List ℕ) → AreAccepted state done
    → (bytes_audited (audited_all state done) content).stop ≡ stop.AtEnd → AreAccepted state (done ++ content ∷ [])
accepted_more state [] content accepted ends = (ends, tt)
accepted_more state (one ∷ done) content accepted ends =
    (accepted.0, accepted_more (bytes_audited state one).state done content accepted.1 ends)

-- so an auditor goes on
pub replays_more : (old now new : AuditorState) (done : List (List ℕ)) (content : List ℕ) → Replays old done now
    → ((state : AuditState) → StandsFor now state → (bytes_audited state content).stop ≡ stop.AtEnd)
    → ((state : AuditState) → StandsFor now state → StandsFor new (bytes_audited state content).state)
    → Replays old (done ++ content ∷ []) new
replays_more old now new done content before ends goes state stands =
    let was = before state stands in
    let mid = audited_all state done in (
      accepted_more state done content was.0 (ends mid was.1),
      subst (StandsFor new) (sym (all_more state done content)) (goes mid was.1),
    )

-- the last one may be accepted in part
but_last : (state : AuditState) (records : List (List ℕ)) → AreAccepted state records
    → AreAcceptedButLast state records
but_last state [] accepted = tt
but_last state (one ∷ []) accepted = tt
but_last state (one ∷ next ∷ more) accepted =
    (accepted.0, but_last (bytes_audited state one).state (next ∷ more) accepted.1)

but_last_more : (state : AuditState) (done : List (List ℕ)) (content : List ℕ) → AreAccepted state done
    → AreAcceptedButLast state (done ++ content ∷ [])
but_last_more state [] content accepted = tt
but_last_more state (one ∷ []) content accepted = (accepted.0, tt)
but_last_more state (one ∷ next ∷ more) content accepted =
    (accepted.0, but_last_more (bytes_audited state one).state (next ∷ more) content accepted.1)

-- each of them is accepted
accepted_at : (state : AuditState) (done : List (List ℕ)) (content : List ℕ) (left : List (List ℕ))
    → AreAccepted state (done ++ content ∷ left) → (bytes_audited (audited_all state done) content).stop ≡ stop.AtEnd
accepted_at state [] content left accepted = accepted.0
accepted_at state (one ∷ done) content left accepted =
    accepted_at (bytes_audited state one).state done content left accepted.1

but_last_at : (state : AuditState) (done : List (List ℕ)) (content next : List ℕ) (more : List (List ℕ))
    → AreAcceptedButLast state (done ++ content ∷ next ∷ more)
    → (bytes_audited (audited_all state done) content).stop ≡ stop.AtEnd
but_last_at state [] content next more accepted = accepted.0
but_last_at state (one ∷ []) content next more accepted = accepted.1.0
but_last_at state (one ∷ two ∷ done) content next more accepted =
    but_last_at (bytes_audited state one).state (two ∷ done) content next more accepted.1

-- whether the stream is another ledger's stays
foreign_next : (state : AuditState) (c : Content) → (next_audit state c).foreign ≡ state.foreign
foreign_next state (content.Event e) = refl
foreign_next state content.End = refl

foreign_on : (answer : Option Refusal) (line : ℕ) (state : AuditState) (later : Audited)
    → later.state.foreign ≡ state.foreign → (audited_on answer line state later).state.foreign ≡ state.foreign
foreign_on None line state later same = same
foreign_on (Some why) line state later same = refl

foreign_entries : (entries : List NumberedEntry) (state : AuditState) (end : AuditStop)
    → (audit_entries state end entries).state.foreign ≡ state.foreign
unfolding audit_entries
foreign_entries [] state end = refl
foreign_entries (numbered ∷ rest) state end =
    let c = numbered.entry.content in
    foreign_on (entry_refusal state c) numbered.line state (audit_entries (next_audit state c) end rest)
    (foreign_entries rest (next_audit state c) end ∙ foreign_next state c)

pub foreign_all : (records : List (List ℕ)) (state : AuditState) → (audited_all state records).foreign ≡ state.foreign
foreign_all [] state = refl
foreign_all (one ∷ records) state =
    let stream = stream_of_lines false 1 (lines_of one) in
    foreign_all records (bytes_audited state one).state
    ∙ foreign_entries stream.entries state (stop_at stream.bad)

-- ---- frames

frames_more : (done : List (List ℕ)) (content : List ℕ) (count : ℕ) → count ≡ length done
    → frames log_name 1 (done ++ content ∷ []) ≡ frames log_name 1 done ++ frame log_name (count + 1) content
frames_more done content count is =
    let number : 1 + length done ≡ count + 1 = omega (arith, is) in
    frames-append log_name 1 done (content ∷ [])
    ∙ ap (λ l. frames log_name 1 done ++ l)
    (append-nil (frame log_name (1 + length done) content) ∙ ap (λ n. frame log_name n content) number)

-- no frame is in no bytes
no_frame : (number : ℕ) → BeginsNoFrame log_name number []
no_frame number content rest is =
    let some = frame_bytes log_name number content in
    let all = length-append (frame log_name number content) rest in
    let none : length (frame log_name number content ++ rest) ≡ 0 = ap length (sym is) in
    absurd (omega (arith, some, all, none))

-- of these records some are left
pub record Left (done : List (List ℕ)) (count : ℕ) (rest : List ℕ) (records : List (List ℕ)) (torn : List ℕ)
    : Type 0 where
  pub left : List (List ℕ)
  pub records_are : records ≡ done ++ left
  pub rest_is : rest ≡ frames log_name (count + 1) left ++ torn

-- so many records were audited
pub record SoFar (text : List ℕ) (old : AuditorState) (count : ℕ) (rest : List ℕ) (now : AuditorState) : Type 0 where
  pub done : List (List ℕ)
  pub text_is : text ≡ frames log_name 1 done ++ rest
  pub count_is : count ≡ length done
  pub bound : count + length rest ≤ length text
  pub audited : Replays old done now
  pub all : (records : List (List ℕ)) (torn : List ℕ) → AreRecords text records torn
      → Left done count rest records torn

pub none_yet : (text : List ℕ) (old : AuditorState) → SoFar text old 0 text old
none_yet text old = record {
  done = [];
  text_is = refl;
  count_is = refl;
  bound = omega arith;
  audited = λ state stands. (tt, stands);
  all = λ records torn are. record { left = records; records_are = refl; rest_is = are.0 };
}

-- a torn end that begins with no frame of this number, by how many records precede it
as_torn : (done : List (List ℕ)) (count : ℕ) (rest : List ℕ) → count ≡ length done
    → BeginsNoFrame log_name (count + 1) rest → BeginsNoFrame log_name (length done + 1) rest
as_torn done count rest is none = subst (λ n. BeginsNoFrame log_name (n + 1) rest) is none

module _ (text : List ℕ) (old : AuditorState) (count : ℕ) (rest : List ℕ) (now : AuditorState)
    (before : SoFar text old count rest now) where
  -- the frame that is read is that of the next record
  next_left : (content after : List ℕ) (records : List (List ℕ)) (torn : List ℕ) → length text < 2 ^ 63
      → rest ≡ frame log_name (count + 1) content ++ after → AreRecords text records torn
      → (more : List (List ℕ)) × (records ≡ before.done ++ content ∷ more)
      × (after ≡ frames log_name ((count + 1) + 1) more ++ torn)
  next_left content after records torn small is are =
      let all = before.all records torn are in by all.left all.records_are all.rest_is
    where
      number : ℕ
      number = count + 1

      by : (left : List (List ℕ)) → records ≡ before.done ++ left → rest ≡ frames log_name (count + 1) left ++ torn
          → (more : List (List ℕ)) × (records ≡ before.done ++ content ∷ more)
          × (after ≡ frames log_name ((count + 1) + 1) more ++ torn)
      by [] records_are rest_is =
          let same : records ≡ before.done = records_are ∙ append-nil before.done in
          let length_is : length records ≡ count = ap length same ∙ sym before.count_is in
          absurd (subst (λ n. BeginsNoFrame log_name (n + 1) torn) length_is are.1 content after (sym rest_is ∙ is))
      by (one ∷ more) records_are rest_is =
          let others = frames log_name (number + 1) more ++ torn in
          let whole : rest ≡ frame log_name number one ++ others =
          rest_is ∙ append_assoc (frame log_name number one) (frames log_name (number + 1) more) torn in
          let bound = before.bound in
          let within = content_within log_name number content rest after is in
          let within_too = content_within log_name number one rest others whole in
          let same : content ≡ one =
          frame_unique log_name number content one after others (omega (arith, bound, small))
          (omega (arith, bound, small, within)) (omega (arith, bound, small, within_too)) (sym is ∙ whole) in (
            more,
            records_are ∙ ap (λ c. before.done ++ c ∷ more) (sym same),
            append_cancel_left (frame log_name number content) after others
                (sym is ∙ whole ∙ ap (λ c. frame log_name number c ++ others) (sym same)),
          )

  pub one_more : (content after : List ℕ) (new : AuditorState) → length text < 2 ^ 63
      → rest ≡ frame log_name (count + 1) content ++ after
      → ((state : AuditState) → StandsFor now state → (bytes_audited state content).stop ≡ stop.AtEnd)
      → ((state : AuditState) → StandsFor now state → StandsFor new (bytes_audited state content).state)
      → SoFar text old (count + 1) after new
  one_more content after new small is ends goes =
      let done = before.done in
      let bound = before.bound in
      let count_is = before.count_is in
      let within = content_within log_name (count + 1) content rest after is in
      let counts = length-append done (content ∷ []) in
      record {
        done = done ++ content ∷ [];
        text_is = before.text_is ∙ ap (λ l. frames log_name 1 done ++ l) is
            ∙ sym (append_assoc (frames log_name 1 done) (frame log_name (count + 1) content) after)
            ∙ ap (λ l. l ++ after) (sym (frames_more done content count count_is));
        count_is = omega (arith, count_is, counts);
        bound = omega (arith, bound, within);
        audited = replays_more old now new done content before.audited ends goes;
        all = λ records torn are.
            let next = next_left content after records torn small is are in
            record {
              left = next.0;
              records_are = next.1 ∙ sym (append_assoc done (content ∷ []) next.0);
              rest_is = next.2;
            };
      }

  -- no frame is left
  pub ends : BeginsNoFrame log_name (count + 1) rest → AuditsRecords text old now
  ends none = record {
    records = before.done;
    torn = rest;
    text_is = (before.text_is, as_torn before.done count rest before.count_is none);
    audited = λ state stands.
        let was = before.audited state stands in (but_last state before.done was.0, was.1);
  }

  pub ends_all : BeginsNoFrame log_name (count + 1) rest → (records : List (List ℕ)) (torn : List ℕ)
      (state : AuditState) → AreRecords text records torn → StandsFor old state
      → StandsFor now (audited_all state records)
  ends_all none records torn state are stands =
      let all = before.all records torn are in by all.left all.records_are all.rest_is
    where
      by : (left : List (List ℕ)) → records ≡ before.done ++ left → rest ≡ frames log_name (count + 1) left ++ torn
          → StandsFor now (audited_all state records)
      by [] records_are rest_is =
          subst (λ r. StandsFor now (audited_all state r)) (sym (records_are ∙ append-nil before.done))
          (before.audited state stands).1
      by (one ∷ more) records_are rest_is =
          absurd (none one (frames log_name ((count + 1) + 1) more ++ torn)
          (rest_is ∙ append_assoc (frame log_name (count + 1) one) (frames log_name ((count + 1) + 1) more) torn))

  -- a last record is accepted in part
  pub ends_within : (content after : List ℕ) (new : AuditorState) → rest ≡ frame log_name (count + 1) content ++ after
      → after ≡ []
      → ((state : AuditState) → StandsFor now state → StandsFor new (bytes_audited state content).state)
      → AuditsRecords text old new
  ends_within content after new is last goes =
      let done = before.done in
      record {
        records = done ++ content ∷ [];
        torn = [];
        text_is = (
          before.text_is ∙ ap (λ l. frames log_name 1 done ++ l) (is ∙ ap (λ l. frame log_name (count + 1) content ++ l)
              last ∙ append-nil (frame log_name (count + 1) content))
              ∙ sym (frames_more done content count before.count_is)
              ∙ sym (append-nil (frames log_name 1 (done ++ content ∷ []))),
          no_frame (length (done ++ content ∷ []) + 1),
        );
        audited = λ state stands.
            let was = before.audited state stands in (
              but_last_more state done content was.0,
              subst (StandsFor new) (sym (all_more state done content)) (goes (audited_all state done) was.1),
            );
      }

  -- so it is, if records are read that can be replayed
  pub all_within : (content after : List ℕ) (new : AuditorState) → length text < 2 ^ 63
      → rest ≡ frame log_name (count + 1) content ++ after
      → ((state : AuditState) → StandsFor now state → (bytes_audited state content).stop ≢ stop.AtEnd)
      → ((state : AuditState) → StandsFor now state → StandsFor new (bytes_audited state content).state)
      → (records : List (List ℕ)) (torn : List ℕ) (state : AuditState) → AreRecords text records torn
      → StandsFor old state → CanBeReplayed state records torn
      → (after ≡ []) × StandsFor new (audited_all state records)
  all_within content after new small is refused goes records torn state are stands can =
      let next = next_left content after records torn small is are in by next.0 next.1 next.2
    where
      was : AreAccepted state before.done × StandsFor now (audited_all state before.done)
      was = before.audited state stands

      never : (bytes_audited (audited_all state before.done) content).stop ≡ stop.AtEnd → ⊥
      never = refused (audited_all state before.done) was.1

      by : (more : List (List ℕ)) → records ≡ before.done ++ content ∷ more
          → after ≡ frames log_name ((count + 1) + 1) more ++ torn
          → (after ≡ []) × StandsFor new (audited_all state records)
      by [] same left =
          elim can [
            | inl accepted ↦ absurd (never (accepted_at state before.done content []
                (subst (AreAccepted state) same accepted)))
            | inr part ↦ (
              left ∙ part.1,
              subst (λ r. StandsFor new (audited_all state r)) (sym same)
                  (subst (StandsFor new) (sym (all_more state before.done content))
                  (goes (audited_all state before.done) was.1)),
            )
          ]
      by (next ∷ more) same left =
          elim can [
            | inl accepted ↦ absurd (never (accepted_at state before.done content (next ∷ more)
                (subst (AreAccepted state) same accepted)))
            | inr part ↦ absurd (never (but_last_at state before.done content next more
                (subst (AreAcceptedButLast state) same part.0)))
          ]

-- ---- the base

-- the frame that a log's text begins with is that of its base
pub base_first : (text content after : List ℕ) (base : AuditorState) (records : List (List ℕ)) (torn : List ℕ)
    → length text < 2 ^ 63 → text ≡ frame log_name 0 content ++ after → IsLogText text base records torn
    → (content ≡ state_text base) × AreRecords after records torn
base_first text content after base records torn small is log =
    let first = state_text base in
    let others = frames log_name 1 records ++ torn in
    let whole : text ≡ frame log_name 0 first ++ others =
    log.0 ∙ append_assoc (frame log_name 0 first) (frames log_name 1 records) torn in
    let within = content_within log_name 0 content text after is in
    let within_too = content_within log_name 0 first text others whole in
    let same : content ≡ first =
    frame_unique log_name 0 content first after others (omega arith) (omega (arith, small, within))
    (omega (arith, small, within_too)) (sym is ∙ whole) in (
      same,
      (
        append_cancel_left (frame log_name 0 content) after others
            (sym is ∙ whole ∙ ap (λ c. frame log_name 0 c ++ others) (sym same)),
        log.1,
      ),
    )

pub base_before : (text content after : List ℕ) (base : AuditorState) (records : List (List ℕ)) (torn : List ℕ)
    → text ≡ frame log_name 0 content ++ after → content ≡ state_text base → AreRecords after records torn
    → IsLogText text base records torn
base_before text content after base records torn is same are = (
  is ∙ ap (λ c. frame log_name 0 c ++ after) same ∙ ap (λ l. frame log_name 0 (state_text base) ++ l) are.0
      ∙ sym (append_assoc (frame log_name 0 (state_text base)) (frames log_name 1 records) torn),
  are.1,
)

-- a text that begins with no base is none of a log
pub none_first : (text : List ℕ) (base : AuditorState) (records : List (List ℕ)) (torn : List ℕ)
    → BeginsNoFrame log_name 0 text → IsLogText text base records torn → ⊥
none_first text base records torn none log =
    none (state_text base) (frames log_name 1 records ++ torn)
    (log.0 ∙ append_assoc (frame log_name 0 (state_text base)) (frames log_name 1 records) torn)

-- ---- cuts

-- any bytes are a content
abbrev Any : List ℕ → Type 0
Any content = Unit {0}

module _ (base : AuditorState) (records : List (List ℕ)) (n : ℕ) (within : length (log_text base []) ≤ n) where
  cut_by : (kept lost : List (List ℕ)) (torn : List ℕ) → state_text base ∷ records ≡ kept ++ lost
      → IsSplit log_name Any 0 (take n (log_text base records)) kept torn
      → ((first : List ℕ) (others : List (List ℕ)) → lost ≡ first ∷ others
      → n < length (frames log_name 0 (kept ++ first ∷ [])))
      → IsCut base records n
  cut_by [] lost torn parted split next =
      let more = next (state_text base) records (sym parted) in absurd (omega (arith, within, more))
  cut_by (first ∷ kept) lost torn parted split next =
      let same : state_text base ≡ first = cc in
      let rest : records ≡ kept ++ lost = cc in
      record {
        kept = kept;
        lost = lost;
        torn = torn;
        parted = rest;
        text_is = (
          split.whole ∙ ap (λ f. frames log_name 0 (f ∷ kept) ++ torn) (sym same),
          λ content after is.
              let number : length kept + 1 ≡ 0 + length (first ∷ kept) = omega arith in
              (split.rest content after (is ∙ ap (λ k. frame log_name k content ++ after) number)).1 tt,
        );
        next = λ other others is.
            subst (λ f. n < length (frames log_name 0 (f ∷ (kept ++ other ∷ [])))) (sym same) (next other others is);
      }

pub logs_cut : LogsCanBeCut
logs_cut base records n small within =
    let cut = cuts Any log_name 0 (state_text base ∷ records) n (omega (arith, small)) in
    cut_by base records n within cut.kept cut.lost cut.torn cut.parted cut.split cut.next

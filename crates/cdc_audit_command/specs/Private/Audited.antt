-- What was audited of a stream so far, line by line: the ghost members of an auditor, and their laws. Cited by no
-- public contract.
use Rattle.std.proofs.Common.{◌≡◌, ℕ, ◌+◌, ◌<◌, List, [], ◌∷◌, ◌++◌, append-nil, Bool, true, false}
use Rattle.std.proofs.Common.{Option, None, Some, refl, sym, ap, ◌∙◌, subst, arith, zero-add}
use Rattle.std.specs.Prelude.{if◌then◌else◌}
use Rattle.cdc_types.specs.Timestamps.{last_timestamp}
use Rattle.cdc_follow.specs.Lines.{lines_of}
use Rattle.cdc_follow.specs.Streams.{NumberedEntry, stream_of_lines}
use Rattle.cdc_streams.proofs.EntryLemmas.{entries_of, entry_count, first_entries}
use Rattle.cdc_audit.specs.declared.refusals.Refusal.{Refusal}
use Rattle.cdc_audit.specs.declared.streams.AuditStop.{AuditStop}
use Rattle.cdc_audit.specs.declared.streams.AuditStop.TheVariants.{AtEnd}
use Rattle.cdc_audit.specs.Audits.{AuditState, Audited, audit_entries, audited_on, entry_refusal}
use Rattle.cdc_audit.specs.Audits.{next_audit, stop_at}
use Rattle.cdc_audit.specs.Standing.{AuditorState, StandsFor}
use Rattle.cdc_audit_command.specs.Auditing.{StandsAfter, audited_after}
use Rattle.cdc_audit_command.specs.Duplicates.{SkippingAudit, audit_skipping, entries_audited, is_duplicate}
use Rattle.cdc_audit_command.specs.Duplicates.{lines_audited_by, skipping_more, skipping_on}
use Rattle.cdc_audit_command.specs.declared.auditors.AuditSetup.{AuditSetup}
use Rattle.cdc_audit_command.specs.declared.auditors.StreamAudit.{StreamAudit}

-- none more
pub more_none : (later : SkippingAudit) → later ≡ skipping_more 0 later
more_none later =
    ap (λ n. let it : SkippingAudit = record { audited = later.audited; duplicates = n } in it)
    (sym (zero-add later.duplicates))

-- no lines are audited to the end
pub no_lines_by : (skips : Bool) (state : AuditState) (number : ℕ) → lines_audited_by skips state number []
    ≡ record { audited = record { state = state; stop = AtEnd }; duplicates = 0 }
unfolding stream_of_lines audit_entries audit_skipping
no_lines_by true state number = refl
no_lines_by false state number = refl

-- some lines were audited, up to this number, whatever lines come after them, and so many duplicates were skipped
pub record GoesTo (skips : Bool) (start : AuditState) (front : List (List ℕ)) (skipped : ℕ) (auditor : AuditorState)
    (number : ℕ) : Type 0 where
  pub next : AuditState
  pub stands : StandsFor auditor next
  pub leads : (rest : List (List ℕ)) → lines_audited_by skips start 1 (front ++ rest)
      ≡ skipping_more skipped (lines_audited_by skips next number rest)

-- some of the first lines of bytes were audited, which have so many entries; duplicates were skipped in fewer lines,
-- and are counted if none was skipped before
pub record HasAudited (setup : AuditSetup) (start : StreamAudit) (bytes : List ℕ) (count : ℕ) (now : StreamAudit)
    (number : ℕ) (left : List ℕ) : Type 0 where
  pub front : List (List ℕ)
  pub whole : lines_of bytes ≡ front ++ lines_of left
  pub counted : count ≡ entry_count false front
  pub skipped : ℕ
  pub fewer : skipped < number
  pub shown : start.duplicates ≡ 0 → now.duplicates ≡ skipped
  pub goes : (state : AuditState) → StandsFor start.auditor state
      → GoesTo setup.skips_duplicates state front skipped now.auditor number

pub audited_none : (setup : AuditSetup) (start : StreamAudit) (bytes : List ℕ)
    → HasAudited setup start bytes 0 start 1 bytes
unfolding stream_of_lines
audited_none setup start bytes = record {
  front = [];
  whole = refl;
  counted = refl;
  skipped = 0;
  fewer = omega arith;
  shown = λ none. none;
  goes = λ state stands. record {
    next = state;
    stands = stands;
    leads = λ rest. more_none (lines_audited_by setup.skips_duplicates state 1 rest);
  };
}

-- an answer to an entry, before audits that come to one state
any_answer : (answer : Option Refusal) (number : ℕ) (state : AuditState) (one other : Audited)
    → one.state ≡ other.state
    → (audited_on answer number state one).state ≡ (audited_on answer number state other).state
any_answer None number state one other same = same
any_answer (Some why) number state one other same = refl

-- the same if duplicates are skipped
any_answer_skipping : (answer : Option Refusal) (number : ℕ) (state : AuditState) (one other : SkippingAudit)
    → one.audited.state ≡ other.audited.state
    → (skipping_on answer number state one).audited.state ≡ (skipping_on answer number state other).audited.state
any_answer_skipping None number state one other same = same
any_answer_skipping (Some why) number state one other same = refl

-- one of two audits, by a test
any_test : (test : Bool) (one other two others : SkippingAudit) → one.audited.state ≡ two.audited.state
    → other.audited.state ≡ others.audited.state
    → (if test then one else other).audited.state ≡ (if test then two else others).audited.state
any_test true one other two others first second = first
any_test false one other two others first second = second

-- what was audited doesn't depend on how the stream ends
any_end : (state : AuditState) (one other : AuditStop) (entries : List NumberedEntry)
    → (audit_entries state one entries).state ≡ (audit_entries state other entries).state
unfolding audit_entries
any_end state one other [] = refl
any_end state one other (numbered ∷ rest) =
    let next = next_audit state numbered.entry.content in
    any_answer (entry_refusal state numbered.entry.content) numbered.line state (audit_entries next one rest)
    (audit_entries next other rest) (any_end next one other rest)

-- the same if duplicates are skipped
any_end_skipping : (state : AuditState) (one other : AuditStop) (entries : List NumberedEntry)
    → (audit_skipping state one entries).audited.state ≡ (audit_skipping state other entries).audited.state
unfolding audit_skipping
any_end_skipping state one other [] = refl
any_end_skipping state one other (numbered ∷ rest) =
    let answer = entry_refusal state numbered.entry.content in
    let next = next_audit state numbered.entry.content in
    any_test (is_duplicate (last_timestamp state.past) numbered.entry.content)
    (skipping_more 1 (audit_skipping state one rest))
    (skipping_on answer numbered.line state (audit_skipping next one rest))
    (skipping_more 1 (audit_skipping state other rest))
    (skipping_on answer numbered.line state (audit_skipping next other rest))
    (any_end_skipping state one other rest)
    (any_answer_skipping answer numbered.line state (audit_skipping next one rest) (audit_skipping next other rest)
    (any_end_skipping next one other rest))

-- the same of either audit
any_end_by : (skips : Bool) (state : AuditState) (one other : AuditStop) (entries : List NumberedEntry)
    → (entries_audited skips state one entries).audited.state
    ≡ (entries_audited skips state other entries).audited.state
any_end_by true state one other entries = any_end_skipping state one other entries
any_end_by false state one other entries = any_end state one other entries

-- what is audited of lines is what is audited of as many of the first entries, whatever lines come after
pub lines_keep : (skips : Bool) (state : AuditState) (bytes : List ℕ) (front rest : List (List ℕ))
    → lines_of bytes ≡ front ++ rest → (lines_audited_by skips state 1 front).audited.state
    ≡ audited_after skips state bytes (entry_count false front)
lines_keep skips state bytes front rest whole =
    any_end_by skips state (stop_at (stream_of_lines false 1 front).bad) AtEnd (entries_of false 1 front)
    ∙ ap (λ entries. (entries_audited skips state AtEnd entries).audited.state)
    (sym (first_entries false bytes front rest whole))

-- an auditor stands for what was audited of the lines before
so_far : (skips : Bool) (state : AuditState) (bytes : List ℕ) (front : List (List ℕ)) (skipped : ℕ)
    (auditor : AuditorState) (number : ℕ) (left : List ℕ) → lines_of bytes ≡ front ++ lines_of left
    → GoesTo skips state front skipped auditor number
    → StandsFor auditor (audited_after skips state bytes (entry_count false front))
so_far skips state bytes front skipped auditor number left whole goes =
    let same : goes.next ≡ (lines_audited_by skips state 1 front).audited.state =
    sym (ap (λ (it : SkippingAudit). it.audited.state) (no_lines_by skips goes.next number))
    ∙ sym (ap (λ (it : SkippingAudit). it.audited.state) (goes.leads []))
    ∙ ap (λ lines. (lines_audited_by skips state 1 lines).audited.state) (append-nil front) in
    subst (StandsFor auditor) (same ∙ lines_keep skips state bytes front (lines_of left) whole) goes.stands

pub stands_after : (setup : AuditSetup) (start : StreamAudit) (bytes : List ℕ) (count : ℕ) (now : StreamAudit)
    (number : ℕ) (left : List ℕ) → HasAudited setup start bytes count now number left
    → StandsAfter setup start bytes count now
stands_after setup start bytes count now number left has = λ state stands.
    subst (λ n. StandsFor now.auditor (audited_after setup.skips_duplicates state bytes n)) (sym has.counted)
    (so_far setup.skips_duplicates state bytes has.front has.skipped now.auditor number left has.whole
    (has.goes state stands))

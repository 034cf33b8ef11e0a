-- What a line makes of an audit that may skip duplicates.
use Rattle.std.proofs.Common.{◌≡◌, ◌≢◌, ℕ, ◌+◌, Bool, true, false, List, [], ◌∷◌, Option, None, Some, Result, Ok, Err}
use Rattle.std.proofs.Common.{refl, sym, ap, ◌∙◌, subst, add_assoc}
use Rattle.std.specs.Prelude.{IfOk, IfSome, IsSome, if◌then◌else◌}
use Rattle.cdc_types.specs.Timestamps.{last_timestamp}
use Rattle.cdc_types.proofs.Rising.{last_timestamp_from-push}
use Rattle.cdc_subscriber.specs.SubscriberState.{SubscriberState}
use Rattle.cdc_follow.specs.declared.entries.Content.{Content}
use Rattle.cdc_follow.specs.declared.entries.Content.TheVariants as content
use Rattle.cdc_follow.specs.declared.entries.Entry.{Entry}
use Rattle.cdc_follow.specs.declared.errors.LineError.{LineError}
use Rattle.cdc_follow.specs.declared.errors.LineError.TheVariants.{OutOfMemory, TooLong}
use Rattle.cdc_follow.specs.declared.streams.FollowError.{FollowError}
use Rattle.cdc_follow.specs.Entries.{line_entry}
use Rattle.cdc_follow.specs.LineErrors.{GivesUnlessMemory}
use Rattle.cdc_follow.specs.Lines.{FirstLineIsLong, TakesLine, lines_of}
use Rattle.cdc_follow.specs.Streams.{NumberedEntry, Stream, stream_of_lines, stream_with}
use Rattle.cdc_follow.proofs.LineLemmas.{lines_of-none}
use Rattle.cdc_follow.proofs.StopLemmas.{gives_err, gives_ok, long_entry, stream_first}
use Rattle.cdc_audit.specs.declared.refusals.Refusal.{Refusal}
use Rattle.cdc_audit.specs.declared.streams.AuditStop.{AuditStop}
use Rattle.cdc_audit.specs.declared.streams.AuditStop.TheVariants as stop
use Rattle.cdc_audit.specs.Audits.{AuditState, Audited, audit_entries, audited_on, entry_refusal, next_audit, stop_at}
use Rattle.cdc_audit.specs.Foreign.{audited_event}
use Rattle.cdc_audit.specs.Standing.{AuditorState, StandsFor}
use Rattle.cdc_audit.specs.Stops.{StepLeadsTo}
use Rattle.cdc_audit_command.specs.Duplicates.{DuplicatesAreLeftOut, EndsSkipping, SkippingAudit, audit_skipping}
use Rattle.cdc_audit_command.specs.Duplicates.{is_duplicate, last_after, lines_audited_by}
use Rattle.cdc_audit_command.specs.Duplicates.{skipping_more, skipping_on, without_duplicates}
use Rattle.cdc_audit_command.specs.Private.Audited.{more_none, no_lines_by}
use Rattle.cdc_audit_command.specs.Private.Turns.{LineTurns, Passes, StepTurns}
use Rattle.cdc_audit_command.specs.declared.turns.Turn.{Turn}
use Rattle.cdc_audit_command.specs.declared.turns.Turn.TheVariants as turn

-- ---- how many are skipped

-- whether an entry is a duplicate, by what the auditor's subscriber shows
pub test_of : (found test : Bool) (last : ℕ) (shown kept : SubscriberState) (one : Content)
    → found ≡ is_duplicate last one → last ≡ shown.last → shown ≡ kept → found ≡ test
    → is_duplicate kept.last one ≡ test
test_of found test last shown kept one tests is same answer =
    ap (λ last. is_duplicate last one) (sym (is ∙ ap (λ (k : SubscriberState). k.last) same)) ∙ sym tests ∙ answer

-- some more, and then others
pub more_more : (one other : ℕ) (later : SkippingAudit)
    → skipping_more one (skipping_more other later) ≡ skipping_more (one + other) later
more_more one other later =
    ap (λ n. let it : SkippingAudit = record { audited = later.audited; duplicates = n } in it)
    (sym (add_assoc one other later.duplicates))

-- ---- the first entry

skipping-none : (state : AuditState) (end : AuditStop)
    → audit_skipping state end [] ≡ record { audited = record { state = state; stop = end }; duplicates = 0 }
unfolding audit_skipping
skipping-none state end = refl

-- a duplicate
skipping-duplicate : (state : AuditState) (end : AuditStop) (numbered : NumberedEntry) (rest : List NumberedEntry)
    → is_duplicate (last_timestamp state.past) numbered.entry.content ≡ true
    → audit_skipping state end (numbered ∷ rest) ≡ skipping_more 1 (audit_skipping state end rest)
unfolding audit_skipping
skipping-duplicate state end numbered rest is =
    ap (λ test. if test then skipping_more 1 (audit_skipping state end rest)
    else skipping_on (entry_refusal state numbered.entry.content) numbered.line state
    (audit_skipping (next_audit state numbered.entry.content) end rest)) is

-- one that isn't a duplicate
skipping-new : (state : AuditState) (end : AuditStop) (numbered : NumberedEntry) (rest : List NumberedEntry)
    (answer : Option Refusal) → is_duplicate (last_timestamp state.past) numbered.entry.content ≡ false
    → entry_refusal state numbered.entry.content ≡ answer
    → audit_skipping state end (numbered ∷ rest)
    ≡ skipping_on answer numbered.line state (audit_skipping (next_audit state numbered.entry.content) end rest)
unfolding audit_skipping
skipping-new state end numbered rest answer is refusal =
    ap (λ test. if test then skipping_more 1 (audit_skipping state end rest)
    else skipping_on (entry_refusal state numbered.entry.content) numbered.line state
    (audit_skipping (next_audit state numbered.entry.content) end rest)) is
    ∙ ap (λ answer. skipping_on answer numbered.line state
    (audit_skipping (next_audit state numbered.entry.content) end rest)) refusal

-- ---- the first line

-- an audit of a stream that skips duplicates
abbrev stream_skipping : AuditState → Stream → SkippingAudit
stream_skipping state stream = audit_skipping state (stop_at stream.bad) stream.entries

-- by what the line has
first_line_audited : (state : AuditState) (number : ℕ) (line : List ℕ) (rest : List (List ℕ))
    (read : Result (Option Entry) LineError) → line_entry false line ≡ read
    → lines_audited_by true state number (line ∷ rest)
    ≡ stream_skipping state (stream_with number read (stream_of_lines false (number + 1) rest))
first_line_audited state number line rest read is =
    ap (stream_skipping state)
    (stream_first false number line rest
    ∙ ap (λ read. stream_with number read (stream_of_lines false (number + 1) rest)) is)

-- an audit that stops at once, of an auditor that stays
ends_here : (it : SkippingAudit) (state : AuditState) (why : AuditStop) (auditor : AuditorState)
    → StandsFor auditor state → it ≡ record { audited = record { state = state; stop = why }; duplicates = 0 }
    → EndsSkipping it why auditor 0
ends_here it state why auditor stands is =
    subst (λ (it : SkippingAudit). EndsSkipping it why auditor 0) (sym is)
    (record { ends = record { stop = refl; stands = stands }; duplicates = refl })

-- a line that is no entry
bad_line : (state : AuditState) (number : ℕ) (line : List ℕ) (rest : List (List ℕ)) (error : LineError)
    → line_entry false line ≡ Err error → lines_audited_by true state number (line ∷ rest)
    ≡ record { audited = record { state = state; stop = stop.BadLine number error }; duplicates = 0 }
bad_line state number line rest error is =
    first_line_audited state number line rest (Err error) is ∙ skipping-none state (stop.BadLine number error)

-- ---- a line, by what reading it gave and by what the auditor made of its entry

module _ (number : ℕ) (line : List ℕ) (old : AuditorState) where
  -- no entry
  pub turns_none : (read : Option Entry) → GivesUnlessMemory (Ok read) (line_entry false line) → read ≡ None
      → Passes true number line 0 old old
  turns_none read gives is state stands =
      let none : line_entry false line ≡ Ok None =
      gives_ok read (line_entry false line) gives
      ∙ ap (λ (read : Option Entry). let answer : Result (Option Entry) LineError = Ok read in answer) is in
      record {
        next = state;
        stands = stands;
        leads = λ rest. first_line_audited state number line rest (Ok None) none
            ∙ more_none (lines_audited_by true state (number + 1) rest);
      }

  -- no line of a stream
  pub turns_bad : (error : LineError) → GivesUnlessMemory (Err error) (line_entry false line)
      → (answer : Result Turn FollowError)
      → IfOk answer (λ turns. (turns ≡ turn.Stops (stop.BadLine number error)) × (error ≢ OutOfMemory))
      → IfOk answer (λ turns. LineTurns true number line old turns old)
  turns_bad error gives (Ok turns) is =
      let bad : line_entry false line ≡ Err error = gives_err error (line_entry false line) gives is.1 in
      subst (λ turns. LineTurns true number line old turns old) (sym is.0)
      (λ state stands rest. ends_here _ state (stop.BadLine number error) old stands
      (bad_line state number line rest error bad))
  turns_bad error gives (Err failed) is = tt

  -- what the line has
  entry_read : (read : Option Entry) (entry : Entry) → GivesUnlessMemory (Ok read) (line_entry false line)
      → read ≡ Some entry → line_entry false line ≡ Ok (Some entry)
  entry_read read entry gives is =
      gives_ok read (line_entry false line) gives
      ∙ ap (λ (read : Option Entry). let answer : Result (Option Entry) LineError = Ok read in answer) is

  -- whether an entry is a duplicate, by the last timestamp that the auditor knows
  test_is : (entry : Entry) (test : Bool) (state : AuditState) → StandsFor old state
      → is_duplicate old.kept.last entry.content ≡ test
      → is_duplicate (last_timestamp state.past) entry.content ≡ test
  test_is entry test state stands is =
      subst (λ last. is_duplicate last entry.content ≡ test) (ap (λ (k : SubscriberState). k.last) stands.kept) is

  -- a duplicate
  pub turns_duplicate : (read : Option Entry) (entry : Entry) → GivesUnlessMemory (Ok read) (line_entry false line)
      → read ≡ Some entry → is_duplicate old.kept.last entry.content ≡ true → Passes true number line 1 old old
  turns_duplicate read entry gives is test state stands = record {
    next = state;
    stands = stands;
    leads = λ rest.
        let later = stream_of_lines false (number + 1) rest in
        first_line_audited state number line rest (Ok (Some entry)) (entry_read read entry gives is)
        ∙ skipping-duplicate state (stop_at later.bad) (record { line = number; entry = entry }) later.entries
        (test_is entry true state stands test);
  }

  -- an entry that isn't a duplicate, by the answer to it
  new_entry : (state : AuditState) (rest : List (List ℕ)) (entry : Entry) (answer : Option Refusal)
      → StandsFor old state → line_entry false line ≡ Ok (Some entry)
      → is_duplicate old.kept.last entry.content ≡ false → entry_refusal state entry.content ≡ answer
      → lines_audited_by true state number (line ∷ rest)
      ≡ skipping_on answer number state (lines_audited_by true (next_audit state entry.content) (number + 1) rest)
  new_entry state rest entry answer stands is test refusal =
      let later = stream_of_lines false (number + 1) rest in
      first_line_audited state number line rest (Ok (Some entry)) is
      ∙ skipping-new state (stop_at later.bad) (record { line = number; entry = entry }) later.entries answer
      (test_is entry false state stands test) refusal

  -- one that is refused
  pub turns_refused : (read : Option Entry) (entry : Entry) (answer : Option Refusal) (why : Refusal)
      (new : AuditorState) → GivesUnlessMemory (Ok read) (line_entry false line) → read ≡ Some entry
      → is_duplicate old.kept.last entry.content ≡ false → answer ≡ Some why
      → ((state : AuditState) → StandsFor old state → answer ≡ entry_refusal state entry.content)
      → (IsSome answer → new ≡ old) → LineTurns true number line old (turn.Stops (stop.Refused number why)) new
  turns_refused read entry answer why new gives is test refused answers stays =
      let same : new ≡ old = stays (subst IsSome (sym refused) refl) in
      subst (LineTurns true number line old (turn.Stops (stop.Refused number why))) (sym same)
      (λ state stands rest. ends_here _ state (stop.Refused number why) old stands
      (new_entry state rest entry (Some why) stands (entry_read read entry gives is) test
      (sym (answers state stands) ∙ refused)))

  -- one that is accepted
  pub turns_accepted : (read : Option Entry) (entry : Entry) (answer : Option Refusal) (new : AuditorState)
      → GivesUnlessMemory (Ok read) (line_entry false line) → read ≡ Some entry
      → is_duplicate old.kept.last entry.content ≡ false → answer ≡ None
      → ((state : AuditState) → StandsFor old state → answer ≡ entry_refusal state entry.content)
      → ((state : AuditState) → StandsFor old state → answer ≡ None
      → StandsFor new (next_audit state entry.content))
      → Passes true number line 0 old new
  turns_accepted read entry answer new gives is test accepted answers goes state stands = record {
    next = next_audit state entry.content;
    stands = goes state stands accepted;
    leads = λ rest.
        new_entry state rest entry None stands (entry_read read entry gives is) test
        (sym (answers state stands) ∙ accepted)
        ∙ more_none (lines_audited_by true (next_audit state entry.content) (number + 1) rest);
  }

-- ---- reading a line

-- a line that was read, by what becomes of it
step_turns : (number : ℕ) (old new : AuditorState) (bytes : List ℕ) (left : Option (List ℕ)) (line : List ℕ)
    (turns : Turn) → TakesLine true bytes line left → LineTurns true number line old turns new
    → StepTurns true number old bytes turns new left
step_turns number old new bytes left line turn.Audited taken leads = (line, taken.0, taken.1, taken.2, leads)
step_turns number old new bytes left line turn.Duplicate taken leads = (line, taken.0, taken.1, taken.2, leads)
step_turns number old new bytes left line (turn.Stops why) taken leads = λ state stands.
    subst (λ lines. EndsSkipping (lines_audited_by true state number lines) why new 0) (sym taken.2)
    (leads state stands (lines_of taken.0))

-- the same of bytes that may be unknown
steps_known : (number : ℕ) (old new : AuditorState) (known left : Option (List ℕ)) (line : List ℕ) (turns : Turn)
    → IfSome known (λ bytes. TakesLine true bytes line left) → LineTurns true number line old turns new
    → IfSome known (λ bytes. StepTurns true number old bytes turns new left)
steps_known number old new None left line turns taken leads = tt
steps_known number old new (Some bytes) left line turns taken leads =
    step_turns number old new bytes left line turns taken leads

-- what reading a line and auditing it lead to
pub step_taken : (number : ℕ) (old new : AuditorState) (known left : Option (List ℕ)) (line : List ℕ) (more : Bool)
    (result : Result Turn FollowError) → more ≡ true → IfSome known (λ bytes. TakesLine more bytes line left)
    → IfOk result (λ turns. LineTurns true number line old turns new)
    → IfOk result (λ turns. IfSome known (λ bytes. StepTurns true number old bytes turns new left))
step_taken number old new known left line more (Ok turns) is taken leads =
    steps_known number old new known left line turns
    (subst (λ more. IfSome known (λ bytes. TakesLine more bytes line left)) is taken) leads
step_taken number old new known left line more (Err error) is taken leads = tt

-- no line is left
pub step_none : (number : ℕ) (auditor : AuditorState) (known left : Option (List ℕ)) (line : List ℕ) (more : Bool)
    → more ≡ false → IfSome known (λ bytes. TakesLine more bytes line left)
    → IfSome known (λ bytes. StepTurns true number auditor bytes (turn.Stops stop.AtEnd) auditor left)
step_none number auditor known left line more is taken =
    ends known (subst (λ more. IfSome known (λ bytes. TakesLine more bytes line left)) is taken)
  where
    ends : (known : Option (List ℕ)) → IfSome known (λ bytes. bytes ≡ [])
        → IfSome known (λ bytes. StepTurns true number auditor bytes (turn.Stops stop.AtEnd) auditor left)
    ends None none = tt
    ends (Some bytes) none = λ state stands.
        ends_here _ state stop.AtEnd auditor stands
        (ap (λ bytes. lines_audited_by true state number (lines_of bytes)) none
        ∙ (ap (lines_audited_by true state number) lines_of-none ∙ no_lines_by true state number))

-- a line that is too long is no entry
pub step_long : (number : ℕ) (auditor : AuditorState) (known left : Option (List ℕ)) → IfSome known FirstLineIsLong
    → IfSome known (λ bytes. StepTurns true number auditor bytes (turn.Stops (stop.BadLine number TooLong)) auditor
    left)
step_long number auditor None left long = tt
step_long number auditor (Some bytes) left long = λ state stands.
    ends_here _ state (stop.BadLine number TooLong) auditor stands
    (ap (lines_audited_by true state number) long.2
    ∙ bad_line state number long.0 long.1 TooLong (long_entry false long.0 long.3))

-- ---- a line of which duplicates aren't skipped

-- it is audited
pub plain_audited : (skips : Bool) (number : ℕ) (old new : AuditorState) (known left : Option (List ℕ))
    → skips ≡ false → IfSome known (λ bytes. StepLeadsTo number old bytes None new left)
    → IfSome known (λ bytes. StepTurns skips number old bytes turn.Audited new left)
plain_audited true number old new known left is step = cc
plain_audited false number old new None left is step = tt
plain_audited false number old new (Some bytes) left is step = (
  step.0,
  step.1,
  step.2,
  step.3,
  λ state stands.
      let on = step.4 state stands in
      record {
        next = on.next;
        stands = on.stands;
        leads = λ rest.
            ap (λ audited. let it : SkippingAudit = record { audited = audited; duplicates = 0 } in it) (on.leads rest)
            ∙ more_none (lines_audited_by false on.next (number + 1) rest);
      },
)

-- auditing stops at it
pub plain_stops : (skips : Bool) (number : ℕ) (old new : AuditorState) (why : AuditStop) (known left : Option (List ℕ))
    → skips ≡ false → IfSome known (λ bytes. StepLeadsTo number old bytes (Some why) new left)
    → IfSome known (λ bytes. StepTurns skips number old bytes (turn.Stops why) new left)
plain_stops true number old new why known left is step = cc
plain_stops false number old new why None left is step = tt
plain_stops false number old new why (Some bytes) left is step = λ state stands.
    record { ends = step state stands; duplicates = refl }

-- ---- what is left without duplicates

-- the last timestamp after an entry that is accepted
last_on : (state : AuditState) (one : Content)
    → last_timestamp (next_audit state one).past ≡ last_after (last_timestamp state.past) one
last_on state (content.Event e) =
    last_timestamp_from-push 0 state.past (audited_event state.foreign e) ∙ own_time state.foreign
  where
    own_time : (foreign : Bool) → (audited_event foreign e).timestamp ≡ e.timestamp
    own_time true = refl
    own_time false = refl
last_on state content.End = refl

-- an answer to an entry, before two audits that are the same
same_on : (answer : Option Refusal) (line : ℕ) (state : AuditState) (later : SkippingAudit) (other : Audited)
    → later.audited ≡ other
    → (skipping_on answer line state later).audited ≡ audited_on answer line state other
same_on None line state later other same = same
same_on (Some why) line state later other same = refl

-- a duplicate is left out
left-duplicate : (last : ℕ) (numbered : NumberedEntry) (rest : List NumberedEntry)
    → is_duplicate last numbered.entry.content ≡ true
    → without_duplicates last (numbered ∷ rest) ≡ without_duplicates last rest
unfolding without_duplicates
left-duplicate last numbered rest is =
    ap (λ test. if test then without_duplicates last rest
    else (numbered ∷ without_duplicates (last_after last numbered.entry.content) rest)) is

-- what isn't a duplicate is left
left-new : (last : ℕ) (numbered : NumberedEntry) (rest : List NumberedEntry)
    → is_duplicate last numbered.entry.content ≡ false
    → without_duplicates last (numbered ∷ rest)
    ≡ numbered ∷ without_duplicates (last_after last numbered.entry.content) rest
unfolding without_duplicates
left-new last numbered rest is =
    ap (λ test. if test then without_duplicates last rest
    else (numbered ∷ without_duplicates (last_after last numbered.entry.content) rest)) is

-- the audit of a first entry and others
audited-first : (state : AuditState) (end : AuditStop) (numbered : NumberedEntry) (rest : List NumberedEntry)
    → audit_entries state end (numbered ∷ rest)
    ≡ audited_on (entry_refusal state numbered.entry.content) numbered.line state
    (audit_entries (next_audit state numbered.entry.content) end rest)
unfolding audit_entries
audited-first state end numbered rest = refl

-- the same entries are audited, after a first one
left_first : (state : AuditState) (end : AuditStop) (numbered : NumberedEntry) (rest : List NumberedEntry)
    (test : Bool) → is_duplicate (last_timestamp state.past) numbered.entry.content ≡ test
    → ((next : AuditState) → (audit_skipping next end rest).audited
    ≡ audit_entries next end (without_duplicates (last_timestamp next.past) rest))
    → (audit_skipping state end (numbered ∷ rest)).audited
    ≡ audit_entries state end (without_duplicates (last_timestamp state.past) (numbered ∷ rest))
left_first state end numbered rest true is later =
    ap (λ (it : SkippingAudit). it.audited) (skipping-duplicate state end numbered rest is) ∙ later state
    ∙ ap (audit_entries state end) (sym (left-duplicate (last_timestamp state.past) numbered rest is))
left_first state end numbered rest false is later =
    let one = numbered.entry.content in
    let next = next_audit state one in
    let left = without_duplicates (last_after (last_timestamp state.past) one) rest in
    ap (λ (it : SkippingAudit). it.audited) (skipping-new state end numbered rest (entry_refusal state one) is refl)
    ∙ same_on (entry_refusal state one) numbered.line state (audit_skipping next end rest) (audit_entries next end left)
    (later next ∙ ap (λ last. audit_entries next end (without_duplicates last rest)) (last_on state one))
    ∙ sym (audited-first state end numbered left)
    ∙ ap (audit_entries state end) (sym (left-new (last_timestamp state.past) numbered rest is))

-- what is audited is what is left
pub left_out : DuplicatesAreLeftOut
unfolding audit_skipping audit_entries without_duplicates
left_out state end [] = refl
left_out state end (numbered ∷ rest) =
    left_first state end numbered rest (is_duplicate (last_timestamp state.past) numbered.entry.content) refl
    (λ next. left_out next end rest)

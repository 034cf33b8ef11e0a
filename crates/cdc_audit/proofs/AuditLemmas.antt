-- What a first line makes of an audit.
use Rattle.cdc_audit.proofs.Words.{AuditState, Audited, AuditorState, Audits, Bool, EndsAs, Err, IfOk, IfSome, IsSome, KeepsFirst, LineLeadsTo, List, None, Ok, OnErr, Option, Refusal, Result, Some, StandsFor, StepLeadsTo, [], ap, append-nil, append_assoc, audited_on, bytes_audited, entry_refusal, false, lines_audited, next_audit, refl, stop_at, subst, suc, sym, take, true, ℕ, ◌++◌, ◌+◌, ◌∙◌, ◌∷◌, ◌≡◌, ◌≢◌}
use Rattle.cdc_audit.specs.Audits.{audit_entries}
use Rattle.cdc_follow.specs.declared.entries.Entry.{Entry}
use Rattle.cdc_follow.specs.declared.errors.LineError.{LineError}
use Rattle.cdc_follow.specs.declared.errors.LineError.TheVariants.{OutOfMemory, TooLong}
use Rattle.cdc_follow.specs.declared.streams.FollowError.{FollowError}
use Rattle.cdc_follow.specs.Entries.{line_entry}
use Rattle.cdc_follow.specs.LineErrors.{GivesUnlessMemory}
use Rattle.cdc_follow.specs.Lines.{FirstLineIsLong, TakesLine, lines_of}
use Rattle.cdc_follow.specs.Streams.{Stream, NumberedEntry, stream_of_lines, stream_with}
use Rattle.cdc_follow.proofs.LineLemmas.{lines_of-none}
use Rattle.cdc_follow.proofs.StopLemmas.{gives_err, gives_ok, long_entry, stream_first}
use Rattle.cdc_audit.specs.declared.streams.AuditStop.{AuditStop}
use Rattle.cdc_audit.specs.declared.streams.AuditStop.TheVariants as stop

-- the audit of a stream
abbrev stream_audited : AuditState → Stream → Audited
stream_audited state stream = audit_entries state (stop_at stream.bad) stream.entries

entries-none : (state : AuditState) (end : AuditStop)
    → audit_entries state end [] ≡ record { state = state; stop = end }
unfolding audit_entries
entries-none state end = refl

entries-first : (state : AuditState) (end : AuditStop) (numbered : NumberedEntry) (rest : List NumberedEntry)
    (answer : Option Refusal) → entry_refusal state numbered.entry.content ≡ answer
    → audit_entries state end (numbered ∷ rest)
    ≡ audited_on answer numbered.line state (audit_entries (next_audit state numbered.entry.content) end rest)
unfolding audit_entries
entries-first state end numbered rest answer is =
    ap (λ answer. audited_on answer numbered.line state
    (audit_entries (next_audit state numbered.entry.content) end rest)) is

-- the audit of lines, by the entry of the first one
first_audited : (state : AuditState) (number : ℕ) (line : List ℕ) (rest : List (List ℕ))
    (read : Result (Option Entry) LineError) → line_entry false line ≡ read
    → lines_audited state number (line ∷ rest)
    ≡ stream_audited state (stream_with number read (stream_of_lines false (number + 1) rest))
first_audited state number line rest read is =
    ap (stream_audited state)
    (stream_first false number line rest
    ∙ ap (λ read. stream_with number read (stream_of_lines false (number + 1) rest)) is)

-- a line that is ignored
pub past_line : (state : AuditState) (number : ℕ) (line : List ℕ) (rest : List (List ℕ))
    → line_entry false line ≡ Ok None
    → lines_audited state number (line ∷ rest) ≡ lines_audited state (number + 1) rest
past_line state number line rest is = first_audited state number line rest (Ok None) is

-- a line that is no entry
pub bad_line : (state : AuditState) (number : ℕ) (line : List ℕ) (rest : List (List ℕ)) (error : LineError)
    → line_entry false line ≡ Err error
    → lines_audited state number (line ∷ rest) ≡ record { state = state; stop = stop.BadLine number error }
bad_line state number line rest error is =
    first_audited state number line rest (Err error) is ∙ entries-none state (stop.BadLine number error)

-- a line with an entry, by the answer to it
pub entry_line : (state : AuditState) (number : ℕ) (line : List ℕ) (rest : List (List ℕ)) (entry : Entry)
    (answer : Option Refusal) → line_entry false line ≡ Ok (Some entry) → entry_refusal state entry.content ≡ answer
    → lines_audited state number (line ∷ rest)
    ≡ audited_on answer number state (lines_audited (next_audit state entry.content) (number + 1) rest)
entry_line state number line rest entry answer is refusal =
    let later = stream_of_lines false (number + 1) rest in
    first_audited state number line rest (Ok (Some entry)) is
    ∙ entries-first state (stop_at later.bad) (record { line = number; entry = entry }) later.entries answer refusal

-- no lines are audited to the end
pub no_lines : (state : AuditState) (number : ℕ)
    → lines_audited state number [] ≡ record { state = state; stop = stop.AtEnd }
unfolding stream_of_lines audit_entries
no_lines state number = refl

-- an audit that stops at once, of an auditor that stays
stops_here : (audited : Audited) (state : AuditState) (why : AuditStop) (auditor : AuditorState)
    → StandsFor auditor state → audited ≡ record { state = state; stop = why } → EndsAs audited why auditor
stops_here audited state why auditor stands is = record {
  stop = ap (λ (a : Audited). a.stop) is;
  stands = subst (StandsFor auditor) (sym (ap (λ (a : Audited). a.state) is)) stands;
}

-- ---- a line, by what reading it gave and by what the auditor made of its entry

module _ (number : ℕ) (line : List ℕ) (old : AuditorState) where
  pub leads_when_none : (read : Option Entry) → GivesUnlessMemory (Ok read) (line_entry false line)
      → read ≡ None → LineLeadsTo number line old None old
  leads_when_none read gives is state stands =
      let none : line_entry false line ≡ Ok None =
      gives_ok read (line_entry false line) gives
      ∙ ap (λ (read : Option Entry). let answer : Result (Option Entry) LineError = Ok read in answer) is in
      record { next = state; stands = stands; leads = λ rest. past_line state number line rest none }

  pub leads_when_bad : (error : LineError) → GivesUnlessMemory (Err error) (line_entry false line)
      → (answer : Result (Option AuditStop) FollowError)
      → IfOk answer (λ stops. (stops ≡ Some (stop.BadLine number error)) × (error ≢ OutOfMemory))
      → IfOk answer (λ stops. LineLeadsTo number line old stops old)
  leads_when_bad error gives (Ok stops) is =
      let bad : line_entry false line ≡ Err error = gives_err error (line_entry false line) gives is.1 in
      subst (λ stops. LineLeadsTo number line old stops old) (sym is.0)
      (λ state stands rest. stops_here _ state (stop.BadLine number error) old stands
      (bad_line state number line rest error bad))
  leads_when_bad error gives (Err failed) is = tt

  -- what the line has
  entry_read : (read : Option Entry) (entry : Entry) → GivesUnlessMemory (Ok read) (line_entry false line)
      → read ≡ Some entry → line_entry false line ≡ Ok (Some entry)
  entry_read read entry gives is =
      gives_ok read (line_entry false line) gives
      ∙ ap (λ (read : Option Entry). let answer : Result (Option Entry) LineError = Ok read in answer) is

  pub leads_when_refused : (read : Option Entry) (entry : Entry) (answer : Option Refusal) (why : Refusal)
      (new : AuditorState) → GivesUnlessMemory (Ok read) (line_entry false line) → read ≡ Some entry
      → answer ≡ Some why
      → ((state : AuditState) → StandsFor old state → answer ≡ entry_refusal state entry.content)
      → (IsSome answer → new ≡ old) → LineLeadsTo number line old (Some (stop.Refused number why)) new
  leads_when_refused read entry answer why new gives is refused answers stays =
      let same : new ≡ old = stays (subst IsSome (sym refused) refl) in
      subst (LineLeadsTo number line old (Some (stop.Refused number why))) (sym same)
      (λ state stands rest. stops_here _ state (stop.Refused number why) old stands
      (entry_line state number line rest entry (Some why) (entry_read read entry gives is)
      (sym (answers state stands) ∙ refused)))

  pub leads_when_accepted : (read : Option Entry) (entry : Entry) (answer : Option Refusal) (new : AuditorState)
      → GivesUnlessMemory (Ok read) (line_entry false line) → read ≡ Some entry → answer ≡ None
      → ((state : AuditState) → StandsFor old state → answer ≡ entry_refusal state entry.content)
      → ((state : AuditState) → StandsFor old state → answer ≡ None
      → StandsFor new (next_audit state entry.content))
      → LineLeadsTo number line old None new
  leads_when_accepted read entry answer new gives is accepted answers goes state stands = record {
    next = next_audit state entry.content;
    stands = goes state stands accepted;
    leads = λ rest. entry_line state number line rest entry None (entry_read read entry gives is)
        (sym (answers state stands) ∙ accepted);
  }

-- ---- reading a line

-- a line that was read, by what it leads to
pub step_leads : (number : ℕ) (old new : AuditorState) (known left : Option (List ℕ)) (line : List ℕ)
    (stops : Option AuditStop) → IfSome known (λ bytes. TakesLine true bytes line left)
    → LineLeadsTo number line old stops new → IfSome known (λ bytes. StepLeadsTo number old bytes stops new left)
step_leads number old new None left line stops taken leads = tt
step_leads number old new (Some bytes) left line None taken leads = (line, taken.0, taken.1, taken.2, leads)
step_leads number old new (Some bytes) left line (Some why) taken leads = λ state stands.
    subst (λ lines. EndsAs (lines_audited state number lines) why new) (sym taken.2)
    (leads state stands (lines_of taken.0))

-- what reading a line and auditing it lead to
pub step_taken : (number : ℕ) (old new : AuditorState) (known left : Option (List ℕ)) (line : List ℕ) (more : Bool)
    (result : Result (Option AuditStop) FollowError) → more ≡ true
    → IfSome known (λ bytes. TakesLine more bytes line left)
    → IfOk result (λ stops. LineLeadsTo number line old stops new)
    → IfOk result (λ stops. IfSome known (λ bytes. StepLeadsTo number old bytes stops new left))
step_taken number old new known left line more (Ok stops) is taken leads =
    step_leads number old new known left line stops
    (subst (λ more. IfSome known (λ bytes. TakesLine more bytes line left)) is taken) leads
step_taken number old new known left line more (Err error) is taken leads = tt

-- no line is left
step_ends : (number : ℕ) (auditor : AuditorState) (known left : Option (List ℕ)) → IfSome known (λ bytes. bytes ≡ [])
    → IfSome known (λ bytes. StepLeadsTo number auditor bytes (Some stop.AtEnd) auditor left)
step_ends number auditor None left none = tt
step_ends number auditor (Some bytes) left none = λ state stands.
    stops_here _ state stop.AtEnd auditor stands
    (ap (λ bytes. lines_audited state number (lines_of bytes)) none
    ∙ (ap (lines_audited state number) lines_of-none ∙ no_lines state number))

pub step_none : (number : ℕ) (auditor : AuditorState) (known left : Option (List ℕ)) (line : List ℕ) (more : Bool)
    → more ≡ false → IfSome known (λ bytes. TakesLine more bytes line left)
    → IfSome known (λ bytes. StepLeadsTo number auditor bytes (Some stop.AtEnd) auditor left)
step_none number auditor known left line more is taken =
    step_ends number auditor known left
    (subst (λ more. IfSome known (λ bytes. TakesLine more bytes line left)) is taken)

-- a line that is too long is no entry
pub step_long : (number : ℕ) (auditor : AuditorState) (known left : Option (List ℕ)) → IfSome known FirstLineIsLong
    → IfSome known (λ bytes. StepLeadsTo number auditor bytes (Some (stop.BadLine number TooLong)) auditor left)
step_long number auditor None left long = tt
step_long number auditor (Some bytes) left long = λ state stands.
    stops_here _ state (stop.BadLine number TooLong) auditor stands
    (ap (lines_audited state number) long.2
    ∙ bad_line state number long.0 long.1 TooLong (long_entry false long.0 long.3))

-- ---- a loop over lines

-- some of the first lines were audited, up to this number, and the others are left
pub record AuditsTo (start : AuditState) (bytes : List ℕ) (auditor : AuditorState) (number : ℕ) (left : List ℕ)
    : Type 0 where
  pub front : List (List ℕ)
  pub whole : lines_of bytes ≡ front ++ lines_of left
  pub next : AuditState
  pub stands : StandsFor auditor next
  pub leads : (rest : List (List ℕ)) → lines_audited start 1 (front ++ rest) ≡ lines_audited next number rest

-- the same of bytes that may be unknown, for each audit for which the auditor stood
abbrev pub Goes : AuditorState → Option (List ℕ) → AuditorState → ℕ → Option (List ℕ) → Type 0
Goes start None auditor number left = Unit {0}
Goes start (Some bytes) auditor number None = ⊥
Goes start (Some bytes) auditor number (Some left) =
    (state : AuditState) → StandsFor start state → AuditsTo state bytes auditor number left

pub goes_from : (auditor : AuditorState) (known : Option (List ℕ)) → Goes auditor known auditor 1 known
goes_from auditor None = tt
goes_from auditor (Some bytes) = λ state stands.
    record { front = []; whole = refl; next = state; stands = stands; leads = λ rest. refl }

-- one more line was audited
goes_line : (start : AuditState) (old new : AuditorState) (number : ℕ) (bytes mid line rest : List ℕ)
    → AuditsTo start bytes old number mid → lines_of mid ≡ line ∷ lines_of rest
    → LineLeadsTo number line old None new → AuditsTo start bytes new (number + 1) rest
goes_line start old new number bytes mid line rest goes is leads =
    let on = leads goes.next goes.stands in
    record {
      front = goes.front ++ line ∷ [];
      whole = goes.whole ∙ ap (λ ls. goes.front ++ ls) is ∙ sym (append_assoc goes.front (line ∷ []) (lines_of rest));
      next = on.next;
      stands = on.stands;
      leads = λ others. ap (lines_audited start 1) (append_assoc goes.front (line ∷ []) others)
          ∙ goes.leads (line ∷ others) ∙ on.leads others;
    }

goes_more : (start old new : AuditorState) (number : ℕ) (known mid left : Option (List ℕ))
    → Goes start known old number mid → IfSome mid (λ bytes. StepLeadsTo number old bytes None new left)
    → Goes start known new (number + 1) left
goes_more start old new number None mid left goes step = tt
goes_more start old new number (Some bytes) None left goes step = absurd goes
goes_more start old new number (Some bytes) (Some rest) left goes step =
    subst (Goes start (Some bytes) new (number + 1)) (sym step.2)
    (λ state stands. goes_line state old new number bytes rest step.0 step.1 (goes state stands) step.3 step.4)

pub goes_on : (start old new : AuditorState) (number : ℕ) (stops : Option AuditStop) (known mid left : Option (List ℕ))
    → Goes start known old number mid → stops ≡ None
    → IfSome mid (λ bytes. StepLeadsTo number old bytes stops new left) → Goes start known new (number + 1) left
goes_on start old new number stops known mid left goes is step =
    goes_more start old new number known mid left goes
    (subst (λ stops. IfSome mid (λ bytes. StepLeadsTo number old bytes stops new left)) is step)

-- the audit stops
pub goes_stop : (start old new : AuditorState) (number : ℕ) (why : AuditStop) (known mid left : Option (List ℕ))
    → Goes start known old number mid → IfSome mid (λ bytes. StepLeadsTo number old bytes (Some why) new left)
    → IfSome known (λ bytes. Audits start bytes why new)
goes_stop start old new number why None mid left goes step = tt
goes_stop start old new number why (Some bytes) None left goes step = absurd goes
goes_stop start old new number why (Some bytes) (Some rest) left goes step = λ state stands.
    let so_far = goes state stands in
    let whole : bytes_audited state bytes ≡ lines_audited so_far.next number (lines_of rest) =
    ap (lines_audited state 1) so_far.whole ∙ so_far.leads (lines_of rest) in
    subst (λ audited. EndsAs audited why new) (sym whole) (step so_far.next so_far.stands)

-- ---- what was audited after some lines, in terms of the entries that these and others have

-- what was audited after the first so many of these entries
abbrev first_entries : AuditState → ℕ → List NumberedEntry → AuditState
first_entries start count entries = (audit_entries start stop.AtEnd (take count entries)).state

-- lines audit what some of the first entries make
abbrev KeepsSome : AuditState → ℕ → List (List ℕ) → List (List ℕ) → Type 0
KeepsSome start number front rest = (count : ℕ)
    × ((lines_audited start number front).state
    ≡ first_entries start count (stream_of_lines false number (front ++ rest)).entries)

-- an audit that stops at once audits no entries
keeps_none : (start : AuditState) (number : ℕ) (why : AuditStop) (front rest : List (List ℕ))
    → lines_audited start number front ≡ record { state = start; stop = why } → KeepsSome start number front rest
keeps_none start number why front rest is = (
  0,
  ap (λ (a : Audited). a.state) is ∙ sym (ap (λ (a : Audited). a.state) (entries-none start stop.AtEnd)),
)

-- the entry of the first line, in front of those of the others
entries_with : (number : ℕ) (line : List ℕ) (rest : List (List ℕ)) (read : Result (Option Entry) LineError)
    → line_entry false line ≡ read
    → (stream_of_lines false number (line ∷ rest)).entries
    ≡ (stream_with number read (stream_of_lines false (number + 1) rest)).entries
entries_with number line rest read is =
    ap (λ (all : Stream). all.entries) (stream_first false number line rest)
    ∙ ap (λ (read : Result (Option Entry) LineError).
    (stream_with number read (stream_of_lines false (number + 1) rest)).entries) is

-- one line in front of others, by its entry
keeps_line : (start : AuditState) (number : ℕ) (line : List ℕ) (front rest : List (List ℕ))
    (read : Result (Option Entry) LineError) → line_entry false line ≡ read
    → ((state : AuditState) → KeepsSome state (number + 1) front rest) → KeepsSome start number (line ∷ front) rest
keeps_line start number line front rest (Ok None) is later =
    let others = later start in (
      others.0,
      ap (λ (a : Audited). a.state) (past_line start number line front is) ∙ others.1
          ∙ sym (ap (first_entries start others.0) (entries_with number line (front ++ rest) (Ok None) is)),
    )
keeps_line start number line front rest (Ok (Some entry)) is later = by_answer _ refl
  where
    by_answer : (answer : Option Refusal) → entry_refusal start entry.content ≡ answer
        → KeepsSome start number (line ∷ front) rest
    by_answer (Some why) refusal =
        keeps_none start number (stop.Refused number why) (line ∷ front) rest
        (entry_line start number line front entry (Some why) is refusal)
    by_answer None refusal =
        let numbered : NumberedEntry = record { line = number; entry = entry } in
        let others = later (next_audit start entry.content) in
        let entries = (stream_of_lines false (number + 1) (front ++ rest)).entries in (
          suc others.0,
          ap (λ (a : Audited). a.state) (entry_line start number line front entry None is refusal) ∙ others.1
              ∙ sym (ap (λ (a : Audited). a.state)
              (entries-first start stop.AtEnd numbered (take others.0 entries) None refusal))
              ∙ sym (ap (first_entries start (suc others.0))
              (entries_with number line (front ++ rest) (Ok (Some entry)) is)),
        )
keeps_line start number line front rest (Err error) is later =
    keeps_none start number (stop.BadLine number error) (line ∷ front) rest
    (bad_line start number line front error is)

keeps_some : (start : AuditState) (number : ℕ) (front rest : List (List ℕ)) → KeepsSome start number front rest
keeps_some start number [] rest = keeps_none start number stop.AtEnd [] rest (no_lines start number)
keeps_some start number (line ∷ front) rest =
    keeps_line start number line front rest _ refl (λ state. keeps_some state (number + 1) front rest)

-- the auditor stands for the audit of some of the first entries, whenever the loop is left
pub goes_keeps : (start auditor : AuditorState) (number : ℕ) (known left : Option (List ℕ))
    → Goes start known auditor number left → IfSome known (λ bytes. KeepsFirst start bytes auditor)
goes_keeps start auditor number None left goes = tt
goes_keeps start auditor number (Some bytes) None goes = absurd goes
goes_keeps start auditor number (Some bytes) (Some left) goes = λ state stands.
    let so_far = goes state stands in
    let some = keeps_some state 1 so_far.front (lines_of left) in
    let all : lines_audited state 1 so_far.front ≡ record { state = so_far.next; stop = stop.AtEnd } =
    ap (lines_audited state 1) (sym (append-nil so_far.front)) ∙ so_far.leads [] ∙ no_lines so_far.next number in (
      some.0,
      subst (StandsFor auditor)
          (sym (ap (λ (a : Audited). a.state) all) ∙ some.1
          ∙ ap (λ lines. first_entries state some.0 (stream_of_lines false 1 lines).entries) (sym so_far.whole))
          so_far.stands,
    )

-- so it does after an error
pub keeps_on_error : (start old new : AuditorState) (number : ℕ) (known mid : Option (List ℕ))
    (answer : Result AuditStop FollowError) → Goes start known old number mid → new ≡ old
    → OnErr answer (IfSome known (λ bytes. KeepsFirst start bytes new))
keeps_on_error start old new number known mid (Ok stop) goes same = tt
keeps_on_error start old new number known mid (Err error) goes same =
    subst (λ auditor. IfSome known (λ bytes. KeepsFirst start bytes auditor)) (sym same)
    (goes_keeps start old number known mid goes)

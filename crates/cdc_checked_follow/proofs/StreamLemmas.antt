-- What a first line makes of checked following.
use Rattle.std.proofs.Common.{◌≡◌, ◌≢◌, ℕ, ◌+◌, suc, Bool, true, false, List, [], ◌∷◌, ◌++◌, Option, Some, None, Result, Ok, Err, take, append-nil, append_assoc, refl, sym, ap, ◌∙◌, subst}
use Rattle.std.specs.Prelude.{IfOk, IfSome, OnErr}
use Rattle.cdc_match.specs.Arguments.{Arguments}
use Rattle.cdc_follow.specs.declared.entries.Entry.{Entry}
use Rattle.cdc_follow.specs.declared.errors.LineError.{LineError}
use Rattle.cdc_follow.specs.declared.errors.LineError.TheVariants.{OutOfMemory, TooLong}
use Rattle.cdc_follow.specs.declared.streams.FollowError.{FollowError}
use Rattle.cdc_follow.specs.Entries.{line_entry}
use Rattle.cdc_follow.specs.LineErrors.{GivesUnlessMemory}
use Rattle.cdc_follow.specs.Lines.{FirstLineIsLong, TakesLine, lines_of}
use Rattle.cdc_follow.specs.Streams.{Stream, NumberedEntry, stream_of_lines, stream_with}
use Rattle.cdc_follow.proofs.LineLemmas.{lines_of-none}
use Rattle.cdc_follow.proofs.StopLemmas.{gives_err, gives_ok, long_entry, stream_first}
use Rattle.cdc_checked_follow.specs.declared.follower.Checking.{Checking}
use Rattle.cdc_checked_follow.specs.declared.streams.CheckStop.{CheckStop}
use Rattle.cdc_checked_follow.specs.declared.streams.CheckStop.TheVariants as stop
use Rattle.cdc_checked_follow.specs.declared.turns.CheckTurn.{CheckTurn}
use Rattle.cdc_checked_follow.specs.declared.turns.CheckTurn.TheVariants.{Stops}
use Rattle.cdc_checked_follow.specs.Turns.{read_state, stop_of}
use Rattle.cdc_checked_follow.specs.Checking.{Checked, CheckedState, bytes_checked, check_entries, checked_on, content_outcome, lines_checked, next_content, stop_at, stop_for}
use Rattle.cdc_checked_follow.specs.Standing.{CheckedFollowerState, StandsFor}
use Rattle.cdc_checked_follow.specs.Streams.{Checks, EndsAs, KeepsFirst, LineLeadsTo, StepLeadsTo}
use Rattle.cdc_checked_follow.proofs.StandLemmas.{unchanged_at_stop}

module _ (binding : Arguments) (skips : Bool) where
  -- following a stream
  abbrev stream_checked : CheckedState → Stream → Checked
  stream_checked state stream = check_entries skips state (stop_at stream.bad) stream.entries

  entries-none : (state : CheckedState) (end : CheckStop)
      → check_entries skips state end [] ≡ record { state = state; stop = end }
  unfolding check_entries
  entries-none state end = refl

  entries-first : (state : CheckedState) (end : CheckStop) (numbered : NumberedEntry) (rest : List NumberedEntry)
      (answer : Option CheckStop) → stop_for skips (content_outcome state numbered.entry.content) numbered.line ≡ answer
      → check_entries skips state end (numbered ∷ rest)
      ≡ checked_on answer state (check_entries skips (next_content state numbered.entry.content) end rest)
  unfolding check_entries
  entries-first state end numbered rest answer is =
      ap (λ answer. checked_on answer state (check_entries skips (next_content state numbered.entry.content) end rest)) is

  -- following lines, by the entry of the first one
  first_checked : (state : CheckedState) (number : ℕ) (line : List ℕ) (rest : List (List ℕ))
      (read : Result (Option Entry) LineError) → line_entry false line ≡ read
      → lines_checked skips state number (line ∷ rest)
      ≡ stream_checked state (stream_with number read (stream_of_lines false (number + 1) rest))
  first_checked state number line rest read is =
      ap (stream_checked state)
      (stream_first false number line rest
      ∙ ap (λ read. stream_with number read (stream_of_lines false (number + 1) rest)) is)

  -- a line that is ignored
  pub past_line : (state : CheckedState) (number : ℕ) (line : List ℕ) (rest : List (List ℕ))
      → line_entry false line ≡ Ok None
      → lines_checked skips state number (line ∷ rest) ≡ lines_checked skips state (number + 1) rest
  past_line state number line rest is = first_checked state number line rest (Ok None) is

  -- a line that is no entry
  pub bad_line : (state : CheckedState) (number : ℕ) (line : List ℕ) (rest : List (List ℕ)) (error : LineError)
      → line_entry false line ≡ Err error
      → lines_checked skips state number (line ∷ rest) ≡ record { state = state; stop = stop.BadLine number error }
  bad_line state number line rest error is =
      first_checked state number line rest (Err error) is ∙ entries-none state (stop.BadLine number error)

  -- a line with an entry, by whether following stops at it
  pub entry_line : (state : CheckedState) (number : ℕ) (line : List ℕ) (rest : List (List ℕ)) (entry : Entry)
      (answer : Option CheckStop) → line_entry false line ≡ Ok (Some entry)
      → stop_for skips (content_outcome state entry.content) number ≡ answer
      → lines_checked skips state number (line ∷ rest)
      ≡ checked_on answer state (lines_checked skips (next_content state entry.content) (number + 1) rest)
  entry_line state number line rest entry answer is stops =
      let later = stream_of_lines false (number + 1) rest in
      first_checked state number line rest (Ok (Some entry)) is
      ∙ entries-first state (stop_at later.bad) (record { line = number; entry = entry }) later.entries answer stops

  -- no lines are followed to the end
  pub no_lines : (state : CheckedState) (number : ℕ)
      → lines_checked skips state number [] ≡ record { state = state; stop = stop.AtEnd }
  unfolding stream_of_lines check_entries
  no_lines state number = refl

  -- following that stops at once
  stops_here : (followed : Checked) (state : CheckedState) (why : CheckStop) (follower : CheckedFollowerState)
      → StandsFor binding follower state → followed ≡ record { state = state; stop = why }
      → EndsAs binding followed why follower
  stops_here followed state why follower stands is = record {
    stop = ap (λ (a : Checked). a.stop) is;
    stands = subst (StandsFor binding follower) (sym (ap (λ (a : Checked). a.state) is)) stands;
  }

  -- ---- a line, by what reading it gave and by what the follower made of its entry

  module _ (number : ℕ) (line : List ℕ) (old : CheckedFollowerState) where
    pub leads_when_none : (read : Option Entry) → GivesUnlessMemory (Ok read) (line_entry false line)
        → read ≡ None → LineLeadsTo binding skips number line old None old
    leads_when_none read gives is state stands =
        let none : line_entry false line ≡ Ok None =
        gives_ok read (line_entry false line) gives
        ∙ ap (λ (read : Option Entry). let answer : Result (Option Entry) LineError = Ok read in answer) is in
        record {
          next = state;
          next_is = sym (ap (read_state state) none);
          stands = stands;
          leads = λ rest. past_line state number line rest none;
        }

    pub leads_when_bad : (error : LineError) → GivesUnlessMemory (Err error) (line_entry false line)
        → (answer : Result CheckTurn FollowError)
        → IfOk answer (λ turn. (turn ≡ Stops (stop.BadLine number error)) × (error ≢ OutOfMemory))
        → IfOk answer (λ turn. LineLeadsTo binding skips number line old (stop_of turn) old)
    leads_when_bad error gives (Ok turn) is =
        let bad : line_entry false line ≡ Err error = gives_err error (line_entry false line) gives is.1 in
        subst (λ turn. LineLeadsTo binding skips number line old (stop_of turn) old) (sym is.0)
        (λ state stands rest. stops_here _ state (stop.BadLine number error) old stands
        (bad_line state number line rest error bad))
    leads_when_bad error gives (Err failed) is = tt

    -- what the line has
    entry_read : (read : Option Entry) (entry : Entry) → GivesUnlessMemory (Ok read) (line_entry false line)
        → read ≡ Some entry → line_entry false line ≡ Ok (Some entry)
    entry_read read entry gives is =
        gives_ok read (line_entry false line) gives
        ∙ ap (λ (read : Option Entry). let answer : Result (Option Entry) LineError = Ok read in answer) is

    pub leads_when_stop : (read : Option Entry) (entry : Entry) (checking : Checking) (answer : Option CheckStop)
        (why : CheckStop) (new : CheckedFollowerState) → GivesUnlessMemory (Ok read) (line_entry false line)
        → read ≡ Some entry → answer ≡ stop_for skips checking number → answer ≡ Some why
        → ((state : CheckedState) → StandsFor binding old state → checking ≡ content_outcome state entry.content)
        → ((state : CheckedState) → StandsFor binding old state
        → StandsFor binding new (next_content state entry.content))
        → LineLeadsTo binding skips number line old (Some why) new
    leads_when_stop read entry checking answer why new gives is stops stopped answers goes state stands rest =
        let at : stop_for skips (content_outcome state entry.content) number ≡ Some why =
        ap (λ c. stop_for skips c number) (sym (answers state stands)) ∙ sym stops ∙ stopped in
        stops_here _ state why new
        (subst (StandsFor binding new) (unchanged_at_stop skips state entry.content number why at) (goes state stands))
        (entry_line state number line rest entry (Some why) (entry_read read entry gives is) at)

    pub leads_when_on : (read : Option Entry) (entry : Entry) (checking : Checking) (answer : Option CheckStop)
        (new : CheckedFollowerState) → GivesUnlessMemory (Ok read) (line_entry false line) → read ≡ Some entry
        → answer ≡ stop_for skips checking number → answer ≡ None
        → ((state : CheckedState) → StandsFor binding old state → checking ≡ content_outcome state entry.content)
        → ((state : CheckedState) → StandsFor binding old state
        → StandsFor binding new (next_content state entry.content))
        → LineLeadsTo binding skips number line old None new
    leads_when_on read entry checking answer new gives is stops on answers goes state stands =
        let made = answers state stands in
        let at : stop_for skips (content_outcome state entry.content) number ≡ None =
        ap (λ c. stop_for skips c number) (sym made) ∙ sym stops ∙ on in
        record {
          next = next_content state entry.content;
          next_is = sym (ap (read_state state) (entry_read read entry gives is));
          stands = goes state stands;
          leads = λ rest. entry_line state number line rest entry None (entry_read read entry gives is) at;
        }

  -- ---- reading a line

  -- a line that was read, by what it leads to
  pub step_leads : (number : ℕ) (old new : CheckedFollowerState) (known left : Option (List ℕ)) (line : List ℕ)
      (stops : Option CheckStop) → IfSome known (λ bytes. TakesLine true bytes line left)
      → LineLeadsTo binding skips number line old stops new
      → IfSome known (λ bytes. StepLeadsTo binding skips number old bytes stops new left)
  step_leads number old new None left line stops taken leads = tt
  step_leads number old new (Some bytes) left line None taken leads = (line, taken.0, taken.1, taken.2, leads)
  step_leads number old new (Some bytes) left line (Some why) taken leads = λ state stands.
      subst (λ lines. EndsAs binding (lines_checked skips state number lines) why new) (sym taken.2)
      (leads state stands (lines_of taken.0))

  -- what reading a line and following it lead to
  pub step_taken : (number : ℕ) (old new : CheckedFollowerState) (known left : Option (List ℕ)) (line : List ℕ)
      (more : Bool)
      (result : Result CheckTurn FollowError) → more ≡ true
      → IfSome known (λ bytes. TakesLine more bytes line left)
      → IfOk result (λ turn. LineLeadsTo binding skips number line old (stop_of turn) new)
      → IfOk result (λ turn. IfSome known (λ bytes.
      StepLeadsTo binding skips number old bytes (stop_of turn) new left))
  step_taken number old new known left line more (Ok turn) is taken leads =
      step_leads number old new known left line (stop_of turn)
      (subst (λ more. IfSome known (λ bytes. TakesLine more bytes line left)) is taken) leads
  step_taken number old new known left line more (Err error) is taken leads = tt

  -- no line is left
  step_ends : (number : ℕ) (follower : CheckedFollowerState) (known left : Option (List ℕ))
      → IfSome known (λ bytes. bytes ≡ [])
      → IfSome known (λ bytes. StepLeadsTo binding skips number follower bytes (Some stop.AtEnd) follower left)
  step_ends number follower None left none = tt
  step_ends number follower (Some bytes) left none = λ state stands.
      stops_here _ state stop.AtEnd follower stands
      (ap (λ bytes. lines_checked skips state number (lines_of bytes)) none
      ∙ (ap (lines_checked skips state number) lines_of-none ∙ no_lines state number))

  pub step_none : (number : ℕ) (follower : CheckedFollowerState) (known left : Option (List ℕ)) (line : List ℕ)
      (more : Bool)
      → more ≡ false → IfSome known (λ bytes. TakesLine more bytes line left)
      → IfSome known (λ bytes. StepLeadsTo binding skips number follower bytes (Some stop.AtEnd) follower left)
  step_none number follower known left line more is taken =
      step_ends number follower known left
      (subst (λ more. IfSome known (λ bytes. TakesLine more bytes line left)) is taken)

  -- a line that is too long is no entry
  pub step_long : (number : ℕ) (follower : CheckedFollowerState) (known left : Option (List ℕ))
      → IfSome known FirstLineIsLong
      → IfSome known (λ bytes.
      StepLeadsTo binding skips number follower bytes (Some (stop.BadLine number TooLong)) follower left)
  step_long number follower None left long = tt
  step_long number follower (Some bytes) left long = λ state stands.
      stops_here _ state (stop.BadLine number TooLong) follower stands
      (ap (lines_checked skips state number) long.2
      ∙ bad_line state number long.0 long.1 TooLong (long_entry false long.0 long.3))

  -- ---- a loop over lines

  -- some of the first lines were followed, up to this number, and the others are left
  pub record ChecksTo (start : CheckedState) (bytes : List ℕ) (follower : CheckedFollowerState) (number : ℕ)
      (left : List ℕ) : Type 0 where
    pub front : List (List ℕ)
    pub whole : lines_of bytes ≡ front ++ lines_of left
    pub next : CheckedState
    pub stands : StandsFor binding follower next
    pub leads : (rest : List (List ℕ))
        → lines_checked skips start 1 (front ++ rest) ≡ lines_checked skips next number rest

  -- the same of bytes that may be unknown, whatever the follower stood for
  abbrev pub Goes : CheckedFollowerState → Option (List ℕ) → CheckedFollowerState → ℕ → Option (List ℕ) → Type 0
  Goes start None follower number left = Unit {0}
  Goes start (Some bytes) follower number None = ⊥
  Goes start (Some bytes) follower number (Some left) =
      (state : CheckedState) → StandsFor binding start state → ChecksTo state bytes follower number left

  pub goes_from : (follower : CheckedFollowerState) (known : Option (List ℕ)) → Goes follower known follower 1 known
  goes_from follower None = tt
  goes_from follower (Some bytes) = λ state stands.
      record { front = []; whole = refl; next = state; stands = stands; leads = λ rest. refl }

  -- one more line was followed
  goes_line : (start : CheckedState) (old new : CheckedFollowerState) (number : ℕ) (bytes mid line rest : List ℕ)
      → ChecksTo start bytes old number mid → lines_of mid ≡ line ∷ lines_of rest
      → LineLeadsTo binding skips number line old None new → ChecksTo start bytes new (number + 1) rest
  goes_line start old new number bytes mid line rest goes is leads =
      let on = leads goes.next goes.stands in
      record {
        front = goes.front ++ line ∷ [];
        whole = goes.whole ∙ ap (λ ls. goes.front ++ ls) is ∙ sym (append_assoc goes.front (line ∷ []) (lines_of rest));
        next = on.next;
        stands = on.stands;
        leads = λ others. ap (lines_checked skips start 1) (append_assoc goes.front (line ∷ []) others)
            ∙ goes.leads (line ∷ others) ∙ on.leads others;
      }

  goes_more : (start old new : CheckedFollowerState) (number : ℕ) (known mid left : Option (List ℕ))
      → Goes start known old number mid → IfSome mid (λ bytes. StepLeadsTo binding skips number old bytes None new left)
      → Goes start known new (number + 1) left
  goes_more start old new number None mid left goes step = tt
  goes_more start old new number (Some bytes) None left goes step = absurd goes
  goes_more start old new number (Some bytes) (Some rest) left goes step =
      subst (Goes start (Some bytes) new (number + 1)) (sym step.2)
      (λ state stands. goes_line state old new number bytes rest step.0 step.1 (goes state stands) step.3 step.4)

  pub goes_on : (start old new : CheckedFollowerState) (number : ℕ) (stops : Option CheckStop)
      (known mid left : Option (List ℕ))
      → Goes start known old number mid → stops ≡ None
      → IfSome mid (λ bytes. StepLeadsTo binding skips number old bytes stops new left)
      → Goes start known new (number + 1) left
  goes_on start old new number stops known mid left goes is step =
      goes_more start old new number known mid left goes
      (subst (λ stops. IfSome mid (λ bytes. StepLeadsTo binding skips number old bytes stops new left)) is step)

  -- following stops
  pub goes_stop : (start old new : CheckedFollowerState) (number : ℕ) (why : CheckStop)
      (known mid left : Option (List ℕ)) → Goes start known old number mid
      → IfSome mid (λ bytes. StepLeadsTo binding skips number old bytes (Some why) new left)
      → IfSome known (λ bytes. Checks binding skips start bytes why new)
  goes_stop start old new number why None mid left goes step = tt
  goes_stop start old new number why (Some bytes) None left goes step = absurd goes
  goes_stop start old new number why (Some bytes) (Some rest) left goes step = λ state stands.
      let so_far = goes state stands in
      let whole : bytes_checked skips state bytes ≡ lines_checked skips so_far.next number (lines_of rest) =
      ap (lines_checked skips state 1) so_far.whole ∙ so_far.leads (lines_of rest) in
      subst (λ followed. EndsAs binding followed why new) (sym whole) (step so_far.next so_far.stands)

  -- ---- what was followed after some lines, in terms of the entries that these and others have

  -- what was followed after the first so many of these entries
  abbrev first_entries : CheckedState → ℕ → List NumberedEntry → CheckedState
  first_entries start count entries = (check_entries skips start stop.AtEnd (take count entries)).state

  -- what was followed of lines is what some of the first entries make
  abbrev KeepsSome : CheckedState → ℕ → List (List ℕ) → List (List ℕ) → Type 0
  KeepsSome start number front rest = (count : ℕ)
      × ((lines_checked skips start number front).state
      ≡ first_entries start count (stream_of_lines false number (front ++ rest)).entries)

  -- following that stops at once takes no entries
  keeps_none : (start : CheckedState) (number : ℕ) (why : CheckStop) (front rest : List (List ℕ))
      → lines_checked skips start number front ≡ record { state = start; stop = why }
      → KeepsSome start number front rest
  keeps_none start number why front rest is = (
    0,
    ap (λ (a : Checked). a.state) is ∙ sym (ap (λ (a : Checked). a.state) (entries-none start stop.AtEnd)),
  )

  -- the entry of the first line, in front of those of the others
  entries_with : (number : ℕ) (line : List ℕ) (rest : List (List ℕ)) (read : Result (Option Entry) LineError)
      → line_entry false line ≡ read
      → (stream_of_lines false number (line ∷ rest)).entries
      ≡ (stream_with number read (stream_of_lines false (number + 1) rest)).entries
  entries_with number line rest read is =
      ap (λ (all : Stream). all.entries) (stream_first false number line rest)
      ∙ ap (λ (read : Result (Option Entry) LineError).
      (stream_with number read (stream_of_lines false (number + 1) rest)).entries) is

  -- one line in front of others, by its entry
  keeps_line : (start : CheckedState) (number : ℕ) (line : List ℕ) (front rest : List (List ℕ))
      (read : Result (Option Entry) LineError) → line_entry false line ≡ read
      → ((state : CheckedState) → KeepsSome state (number + 1) front rest) → KeepsSome start number (line ∷ front) rest
  keeps_line start number line front rest (Ok None) is later =
      let others = later start in (
        others.0,
        ap (λ (a : Checked). a.state) (past_line start number line front is) ∙ others.1
            ∙ sym (ap (first_entries start others.0) (entries_with number line (front ++ rest) (Ok None) is)),
      )
  keeps_line start number line front rest (Ok (Some entry)) is later = by_answer _ refl
    where
      by_answer : (answer : Option CheckStop) → stop_for skips (content_outcome start entry.content) number ≡ answer
          → KeepsSome start number (line ∷ front) rest
      by_answer (Some why) stops =
          keeps_none start number why (line ∷ front) rest
          (entry_line start number line front entry (Some why) is stops)
      by_answer None stops =
          let numbered : NumberedEntry = record { line = number; entry = entry } in
          let others = later (next_content start entry.content) in
          let entries = (stream_of_lines false (number + 1) (front ++ rest)).entries in (
            suc others.0,
            ap (λ (a : Checked). a.state) (entry_line start number line front entry None is stops) ∙ others.1
                ∙ sym (ap (λ (a : Checked). a.state)
                (entries-first start stop.AtEnd numbered (take others.0 entries) None stops))
                ∙ sym (ap (first_entries start (suc others.0))
                (entries_with number line (front ++ rest) (Ok (Some entry)) is)),
          )
  keeps_line start number line front rest (Err error) is later =
      keeps_none start number (stop.BadLine number error) (line ∷ front) rest
      (bad_line start number line front error is)

  keeps_some : (start : CheckedState) (number : ℕ) (front rest : List (List ℕ)) → KeepsSome start number front rest
  keeps_some start number [] rest = keeps_none start number stop.AtEnd [] rest (no_lines start number)
  keeps_some start number (line ∷ front) rest =
      keeps_line start number line front rest _ refl (λ state. keeps_some state (number + 1) front rest)

  -- the follower stands for what some of the first entries make, whenever the loop is left
  pub goes_keeps : (start follower : CheckedFollowerState) (number : ℕ) (known left : Option (List ℕ))
      → Goes start known follower number left → IfSome known (λ bytes. KeepsFirst binding skips start bytes follower)
  goes_keeps start follower number None left goes = tt
  goes_keeps start follower number (Some bytes) None goes = absurd goes
  goes_keeps start follower number (Some bytes) (Some left) goes = λ state stands.
      let so_far = goes state stands in
      let some = keeps_some state 1 so_far.front (lines_of left) in
      let all : lines_checked skips state 1 so_far.front ≡ record { state = so_far.next; stop = stop.AtEnd } =
      ap (lines_checked skips state 1) (sym (append-nil so_far.front)) ∙ so_far.leads []
      ∙ no_lines so_far.next number in (
        some.0,
        subst (StandsFor binding follower)
            (sym (ap (λ (a : Checked). a.state) all) ∙ some.1
            ∙ ap (λ lines. first_entries state some.0 (stream_of_lines false 1 lines).entries) (sym so_far.whole))
            so_far.stands,
      )

  -- so it does after an error
  pub keeps_on_error : (start old new : CheckedFollowerState) (number : ℕ) (known mid : Option (List ℕ))
      (answer : Result CheckStop FollowError) → Goes start known old number mid → new ≡ old
      → OnErr answer (IfSome known (λ bytes. KeepsFirst binding skips start bytes new))
  keeps_on_error start old new number known mid (Ok stop) goes same = tt
  keeps_on_error start old new number known mid (Err error) goes same =
      subst (λ follower. IfSome known (λ bytes. KeepsFirst binding skips start bytes follower)) (sym same)
      (goes_keeps start old number known mid goes)

-- What a first line makes of a stream.
use Rattle.std.proofs.Common.{◌≡◌, ◌≢◌, inl, inr, ℕ, suc, ◌+◌, ◌<◌, List, [], ◌∷◌, ◌++◌, length, take, append-nil}
use Rattle.std.proofs.Common.{append_assoc, Bool, true, false, Some, None, Option, Result, Ok, Err, refl, sym, ap}
use Rattle.std.proofs.Common.{◌∙◌, cond, subst}
use Rattle.std.specs.Prelude.{IfOk, IfSome, OnErr}
use Rattle.std.proofs.lemmas.Bool.{lt-ltb}
use Rattle.cdc_match.specs.Arguments.{Arguments}
use Rattle.cdc_follow.specs.declared.entries.Entry.{Entry}
use Rattle.cdc_follow.specs.declared.entries.Content.{Content}
use Rattle.cdc_follow.specs.declared.entries.TheConstants.{LONGEST_LINE}
use Rattle.cdc_follow.specs.declared.errors.LineError.{LineError}
use Rattle.cdc_follow.specs.declared.errors.LineError.TheVariants.{OutOfMemory, TooLong}
use Rattle.cdc_follow.specs.declared.follower.Following.{Following}
use Rattle.cdc_follow.specs.declared.follower.Following.TheVariants as following
use Rattle.cdc_follow.specs.declared.streams.FollowError.{FollowError}
use Rattle.cdc_follow.specs.declared.streams.Rules.{Rules}
use Rattle.cdc_follow.specs.declared.streams.Stop.{Stop}
use Rattle.cdc_follow.specs.declared.streams.Stop.TheVariants as stop
use Rattle.cdc_follow.specs.declared.streams.Turn.{Turn}
use Rattle.cdc_follow.specs.declared.streams.Turn.TheVariants as turn
use Rattle.cdc_follow.specs.Entries.{line_entry}
use Rattle.cdc_follow.specs.Following.{FollowState, Followed, follow, next_follow, outcome_of, state_by, stops_at}
use Rattle.cdc_follow.specs.LineErrors.{GivesUnlessMemory}
use Rattle.cdc_follow.specs.Lines.{FirstLineIsLong, TakesLine, lines_of}
use Rattle.cdc_follow.specs.Stops.{KeepsFirst, LineLeadsTo, StepLeadsTo, Stopped, bytes_followed, followed}
use Rattle.cdc_follow.specs.Stops.{lines_followed, stop_by, stop_of, stopped}
use Rattle.cdc_follow.specs.Streams.{Stream, NumberedEntry, stream_of_lines, stream_with}
use Rattle.cdc_follow.proofs.LineLemmas.{lines_of-none}

-- the stream of lines has the entry of the first one in front of the others
pub stream_first : (chained : Bool) (number : ℕ) (line : List ℕ) (rest : List (List ℕ))
    → stream_of_lines chained number (line ∷ rest)
    ≡ stream_with number (line_entry chained line) (stream_of_lines chained (number + 1) rest)
unfolding stream_of_lines
stream_first chained number line rest = refl

-- a line that is ignored
pub leads_past : (binding : Arguments) (rules : Rules) (number : ℕ) (line : List ℕ) (state : FollowState)
    → line_entry rules.chained line ≡ Ok None → LineLeadsTo binding rules number line state None state
leads_past binding rules number line state is rest =
    ap (followed binding rules.skips_gaps state)
    (stream_first rules.chained number line rest
    ∙ ap (λ entry. stream_with number entry (stream_of_lines rules.chained (number + 1) rest)) is)

-- nothing is followed of no entries
pub follow-none : (binding : Arguments) (skips : Bool) (state : FollowState)
    → follow binding skips state [] ≡ record { state = state; at = None }
unfolding follow
follow-none binding skips state = refl

-- a line that is no entry
pub leads_to_bad : (binding : Arguments) (rules : Rules) (number : ℕ) (line : List ℕ) (state : FollowState)
    (error : LineError) → line_entry rules.chained line ≡ Err error
    → LineLeadsTo binding rules number line state (Some (stop.BadLine number error)) state
leads_to_bad binding rules number line state error is rest =
    ap (followed binding rules.skips_gaps state)
    (stream_first rules.chained number line rest
    ∙ ap (λ entry. stream_with number entry (stream_of_lines rules.chained (number + 1) rest)) is)
    ∙ bad_alone
  where
    bad_alone : followed binding rules.skips_gaps state
        (record { entries = []; bad = Some (record { line = number; error = error }) })
        ≡ record { state = state; stop = stop.BadLine number error }
    bad_alone = rw (follow-none binding rules.skips_gaps state) refl

-- the first entry is followed, or following stops at it
pub follow-first : (binding : Arguments) (skips : Bool) (state : FollowState) (numbered : NumberedEntry)
    (rest : List NumberedEntry) (stops : Bool)
    → stops_at skips (outcome_of binding state numbered.entry) ≡ stops
    → follow binding skips state (numbered ∷ rest) ≡ cond stops (record { state = state; at = Some numbered })
    (follow binding skips (next_follow binding state numbered.entry) rest)
unfolding follow
follow-first binding skips state numbered rest stops is = rw is refl

-- a line that has an entry, at which following doesn't stop
pub leads_on : (binding : Arguments) (rules : Rules) (number : ℕ) (line : List ℕ) (state : FollowState)
    (entry : Entry) → line_entry rules.chained line ≡ Ok (Some entry)
    → stops_at rules.skips_gaps (outcome_of binding state entry) ≡ false
    → LineLeadsTo binding rules number line state None (next_follow binding state entry)
leads_on binding rules number line state entry is goes rest =
    let later = stream_of_lines rules.chained (number + 1) rest in
    ap (followed binding rules.skips_gaps state)
    (stream_first rules.chained number line rest ∙ ap (λ entry. stream_with number entry later) is)
    ∙ ap (λ done. stopped binding done later.bad)
    (follow-first binding rules.skips_gaps state (record { line = number; entry = entry }) later.entries false goes)

-- why following stops at the entry of a line
abbrev stop_for : Arguments → FollowState → ℕ → Entry → Stop
stop_for binding state number entry =
    stop_by (outcome_of binding state entry) (record { line = number; entry = entry })

-- a line that has an entry, at which following stops
pub leads_to_stop : (binding : Arguments) (rules : Rules) (number : ℕ) (line : List ℕ) (state : FollowState)
    (entry : Entry) → line_entry rules.chained line ≡ Ok (Some entry)
    → stops_at rules.skips_gaps (outcome_of binding state entry) ≡ true
    → LineLeadsTo binding rules number line state (Some (stop_for binding state number entry)) state
leads_to_stop binding rules number line state entry is stops rest =
    let later = stream_of_lines rules.chained (number + 1) rest in
    ap (followed binding rules.skips_gaps state)
    (stream_first rules.chained number line rest ∙ ap (λ entry. stream_with number entry later) is)
    ∙ ap (λ done. stopped binding done later.bad)
    (follow-first binding rules.skips_gaps state (record { line = number; entry = entry }) later.entries true stops)

-- an entry at which following stops changes nothing
stop_keeps : (skips : Bool) (made : Following) (state : FollowState) (previous : Option ℕ) (content : Content)
    → stops_at skips made ≡ true → state_by made state previous content ≡ state
stop_keeps skips following.Applied state previous content is = cc
stop_keeps skips following.PassedBy state previous content is = cc
stop_keeps skips following.Duplicate state previous content is = refl
stop_keeps skips following.Gap state previous content is = refl
stop_keeps skips following.Ended state previous content is = cc
stop_keeps skips following.AfterEnd state previous content is = refl
stop_keeps skips following.OutOfRange state previous content is = refl

pub next-stop : (binding : Arguments) (skips : Bool) (state : FollowState) (entry : Entry)
    → stops_at skips (outcome_of binding state entry) ≡ true → next_follow binding state entry ≡ state
next-stop binding skips state entry is =
    stop_keeps skips (outcome_of binding state entry) state entry.previous entry.content is

-- a line that was read, by what it leads to
pub step_leads : (binding : Arguments) (rules : Rules) (number : ℕ) (old new : FollowState)
    (known left : Option (List ℕ)) (line : List ℕ) (stops : Option Stop)
    → IfSome known (λ bytes. TakesLine true bytes line left)
    → LineLeadsTo binding rules number line old stops new
    → IfSome known (λ bytes. StepLeadsTo binding rules number old bytes stops new left)
step_leads binding rules number old new None left line to taken leads = tt
step_leads binding rules number old new (Some bytes) left line None taken leads =
    (line, taken.0, taken.1, taken.2, leads)
step_leads binding rules number old new (Some bytes) left line (Some stop) taken leads =
    ap (lines_followed binding rules old number) taken.2 ∙ leads (lines_of taken.0)

-- no lines have no entry
none_followed : (binding : Arguments) (rules : Rules) (state : FollowState) (number : ℕ)
    → lines_followed binding rules state number [] ≡ record { state = state; stop = stop.AtEnd }
unfolding stream_of_lines follow
none_followed binding rules state number = refl

-- no line is left
step_ends : (binding : Arguments) (rules : Rules) (number : ℕ) (state : FollowState) (known left : Option (List ℕ))
    → IfSome known (λ bytes. bytes ≡ [])
    → IfSome known (λ bytes. StepLeadsTo binding rules number state bytes (Some stop.AtEnd) state left)
step_ends binding rules number state None left none = tt
step_ends binding rules number state (Some bytes) left none =
    ap (λ bytes. lines_followed binding rules state number (lines_of bytes)) none
    ∙ (ap (lines_followed binding rules state number) lines_of-none ∙ none_followed binding rules state number)

pub step_none : (binding : Arguments) (rules : Rules) (number : ℕ) (state : FollowState) (known left : Option (List ℕ))
    (line : List ℕ) (more : Bool) → more ≡ false → IfSome known (λ bytes. TakesLine more bytes line left)
    → IfSome known (λ bytes. StepLeadsTo binding rules number state bytes (Some stop.AtEnd) state left)
step_none binding rules number state known left line more is taken =
    step_ends binding rules number state known left
    (subst (λ more. IfSome known (λ bytes. TakesLine more bytes line left)) is taken)

-- a line that is too long is no entry
pub long_entry : (chained : Bool) (line : List ℕ) → LONGEST_LINE < length line → line_entry chained line ≡ Err TooLong
unfolding line_entry
long_entry chained line long = rw (lt-ltb LONGEST_LINE (length line) long) refl

pub step_long : (binding : Arguments) (rules : Rules) (number : ℕ) (state : FollowState) (known left : Option (List ℕ))
    → IfSome known FirstLineIsLong
    → IfSome known
    (λ bytes. StepLeadsTo binding rules number state bytes (Some (stop.BadLine number TooLong)) state left)
step_long binding rules number state None left long = tt
step_long binding rules number state (Some bytes) left long =
    ap (lines_followed binding rules state number) long.2
    ∙ leads_to_bad binding rules number long.0 state TooLong (long_entry rules.chained long.0 long.3) long.1

-- ---- a loop over lines

-- some of the first lines were followed, up to this number, and the others are left
pub record FollowsTo (binding : Arguments) (rules : Rules) (start : FollowState) (bytes : List ℕ) (state : FollowState)
    (number : ℕ) (left : List ℕ) : Type 0 where
  pub front : List (List ℕ)
  pub whole : lines_of bytes ≡ front ++ lines_of left
  pub leads : (rest : List (List ℕ))
      → lines_followed binding rules start 1 (front ++ rest) ≡ lines_followed binding rules state number rest

-- the same of bytes that may be unknown
abbrev pub Follows : Arguments → Rules → FollowState → Option (List ℕ) → FollowState → ℕ → Option (List ℕ) → Type 0
Follows binding rules start None state number left = Unit {0}
Follows binding rules start (Some bytes) state number None = ⊥
Follows binding rules start (Some bytes) state number (Some left) =
    FollowsTo binding rules start bytes state number left

pub follows_begins : (binding : Arguments) (rules : Rules) (state : FollowState) (known : Option (List ℕ))
    → Follows binding rules state known state 1 known
follows_begins binding rules state None = tt
follows_begins binding rules state (Some bytes) = record { front = []; whole = refl; leads = λ rest. refl }

-- one more line was followed
follows_line : (binding : Arguments) (rules : Rules) (start old new : FollowState) (number : ℕ)
    (bytes mid line rest : List ℕ) → FollowsTo binding rules start bytes old number mid
    → lines_of mid ≡ line ∷ lines_of rest → LineLeadsTo binding rules number line old None new
    → FollowsTo binding rules start bytes new (number + 1) rest
follows_line binding rules start old new number bytes mid line rest follows is leads = record {
  front = follows.front ++ line ∷ [];
  whole = follows.whole ∙ ap (λ ls. follows.front ++ ls) is
      ∙ sym (append_assoc follows.front (line ∷ []) (lines_of rest));
  leads = λ others. ap (lines_followed binding rules start 1) (append_assoc follows.front (line ∷ []) others)
      ∙ follows.leads (line ∷ others) ∙ leads others;
}

follows_more : (binding : Arguments) (rules : Rules) (start old new : FollowState) (number : ℕ)
    (known mid left : Option (List ℕ)) → Follows binding rules start known old number mid
    → IfSome mid (λ bytes. StepLeadsTo binding rules number old bytes None new left)
    → Follows binding rules start known new (number + 1) left
follows_more binding rules start old new number None mid left follows step = tt
follows_more binding rules start old new number (Some bytes) None left follows step = absurd follows
follows_more binding rules start old new number (Some bytes) (Some rest) left follows step =
    subst (Follows binding rules start (Some bytes) new (number + 1)) (sym step.2)
    (follows_line binding rules start old new number bytes rest step.0 step.1 follows step.3 step.4)

pub follows_on : (binding : Arguments) (rules : Rules) (start old new : FollowState) (number : ℕ) (stops : Option Stop)
    (known mid left : Option (List ℕ)) → Follows binding rules start known old number mid → stops ≡ None
    → IfSome mid (λ bytes. StepLeadsTo binding rules number old bytes stops new left)
    → Follows binding rules start known new (number + 1) left
follows_on binding rules start old new number stops known mid left follows is step =
    follows_more binding rules start old new number known mid left follows
    (subst (λ stops. IfSome mid (λ bytes. StepLeadsTo binding rules number old bytes stops new left)) is step)

-- following stops
pub follows_stop : (binding : Arguments) (rules : Rules) (start old new : FollowState) (number : ℕ) (stop : Stop)
    (known mid left : Option (List ℕ)) → Follows binding rules start known old number mid
    → IfSome mid (λ bytes. StepLeadsTo binding rules number old bytes (Some stop) new left)
    → IfSome known (λ bytes. bytes_followed binding rules start bytes ≡ record { state = new; stop = stop })
follows_stop binding rules start old new number stop None mid left follows step = tt
follows_stop binding rules start old new number stop (Some bytes) None left follows step = absurd follows
follows_stop binding rules start old new number stop (Some bytes) (Some rest) left follows step =
    ap (lines_followed binding rules start 1) follows.whole ∙ follows.leads (lines_of rest) ∙ step

-- ---- what is kept after some lines, in terms of the entries that these and others have

-- what is kept after the first so many of these entries
abbrev kept_first : Arguments → Bool → FollowState → ℕ → List NumberedEntry → FollowState
kept_first binding skips start count entries = (follow binding skips start (take count entries)).state

-- lines keep what some of the first entries make
abbrev KeepsSome : Arguments → Rules → FollowState → ℕ → List (List ℕ) → List (List ℕ) → Type 0
KeepsSome binding rules start number front rest = (count : ℕ) × ((lines_followed binding rules start number front).state
    ≡ kept_first binding rules.skips_gaps start count (stream_of_lines rules.chained number (front ++ rest)).entries)

-- following that stops at once keeps what no entries make
keeps_none : (binding : Arguments) (rules : Rules) (start : FollowState) (number : ℕ) (stop : Stop)
    (front rest : List (List ℕ))
    → lines_followed binding rules start number front ≡ record { state = start; stop = stop }
    → KeepsSome binding rules start number front rest
keeps_none binding rules start number stop front rest is = (
  0,
  ap (λ (s : Stopped). s.state) is
      ∙ sym (ap (λ (done : Followed). done.state) (follow-none binding rules.skips_gaps start)),
)

-- the entry of the first line, in front of those of the others
entries_first : (chained : Bool) (number : ℕ) (line : List ℕ) (rest : List (List ℕ))
    (read : Result (Option Entry) LineError) → line_entry chained line ≡ read
    → (stream_of_lines chained number (line ∷ rest)).entries
    ≡ (stream_with number read (stream_of_lines chained (number + 1) rest)).entries
entries_first chained number line rest read is =
    ap (λ (all : Stream). all.entries) (stream_first chained number line rest)
    ∙ ap (λ (read : Result (Option Entry) LineError).
    (stream_with number read (stream_of_lines chained (number + 1) rest)).entries) is

-- one line in front of others, by its entry
keeps_line : (binding : Arguments) (rules : Rules) (start : FollowState) (number : ℕ) (line : List ℕ)
    (front rest : List (List ℕ)) (read : Result (Option Entry) LineError) → line_entry rules.chained line ≡ read
    → ((state : FollowState) → KeepsSome binding rules state (number + 1) front rest)
    → KeepsSome binding rules start number (line ∷ front) rest
keeps_line binding rules start number line front rest (Ok None) is later =
    let others = later start in (
      others.0,
      ap (λ (s : Stopped). s.state) (leads_past binding rules number line start is front) ∙ others.1
          ∙ sym (ap (kept_first binding rules.skips_gaps start others.0)
          (entries_first rules.chained number line (front ++ rest) (Ok None) is)),
    )
keeps_line binding rules start number line front rest (Ok (Some entry)) is later = by_stop _ refl
  where
    by_stop : (stops : Bool) → stops_at rules.skips_gaps (outcome_of binding start entry) ≡ stops
        → KeepsSome binding rules start number (line ∷ front) rest
    by_stop true at =
        keeps_none binding rules start number (stop_for binding start number entry) (line ∷ front) rest
        (leads_to_stop binding rules number line start entry is at front)
    by_stop false on =
        let numbered : NumberedEntry = record { line = number; entry = entry } in
        let others = later (next_follow binding start entry) in
        let entries = (stream_of_lines rules.chained (number + 1) (front ++ rest)).entries in (
          suc others.0,
          ap (λ (s : Stopped). s.state) (leads_on binding rules number line start entry is on front) ∙ others.1
              ∙ sym (ap (λ (done : Followed). done.state)
              (follow-first binding rules.skips_gaps start numbered (take others.0 entries) false on))
              ∙ sym (ap (kept_first binding rules.skips_gaps start (suc others.0))
              (entries_first rules.chained number line (front ++ rest) (Ok (Some entry)) is)),
        )
keeps_line binding rules start number line front rest (Err error) is later =
    keeps_none binding rules start number (stop.BadLine number error) (line ∷ front) rest
    (leads_to_bad binding rules number line start error is front)

keeps_some : (binding : Arguments) (rules : Rules) (start : FollowState) (number : ℕ) (front rest : List (List ℕ))
    → KeepsSome binding rules start number front rest
keeps_some binding rules start number [] rest =
    keeps_none binding rules start number stop.AtEnd [] rest (none_followed binding rules start number)
keeps_some binding rules start number (line ∷ front) rest =
    keeps_line binding rules start number line front rest _ refl
    (λ state. keeps_some binding rules state (number + 1) front rest)

-- the follower keeps what some of the first entries make, whenever the loop is left
pub follows_keeps : (binding : Arguments) (rules : Rules) (start state : FollowState) (number : ℕ)
    (known left : Option (List ℕ)) → Follows binding rules start known state number left
    → IfSome known (λ bytes. KeepsFirst binding rules start bytes state)
follows_keeps binding rules start state number None left follows = tt
follows_keeps binding rules start state number (Some bytes) None follows = absurd follows
follows_keeps binding rules start state number (Some bytes) (Some left) follows =
    let some = keeps_some binding rules start 1 follows.front (lines_of left) in
    let all : lines_followed binding rules start 1 follows.front ≡ record { state = state; stop = stop.AtEnd } =
    ap (lines_followed binding rules start 1) (sym (append-nil follows.front)) ∙ follows.leads []
    ∙ none_followed binding rules state number in (
      some.0,
      sym (ap (λ (s : Stopped). s.state) all) ∙ some.1
          ∙ ap (λ lines.
          kept_first binding rules.skips_gaps start some.0 (stream_of_lines rules.chained 1 lines).entries)
          (sym follows.whole),
    )

-- so it does after an error
pub keeps_on_error : (binding : Arguments) (rules : Rules) (start old new : FollowState) (number : ℕ)
    (known mid : Option (List ℕ)) (answer : Result Stop FollowError) → Follows binding rules start known old number mid
    → new ≡ old → OnErr answer (IfSome known (λ bytes. KeepsFirst binding rules start bytes new))
keeps_on_error binding rules start old new number known mid (Ok stop) follows same = tt
keeps_on_error binding rules start old new number known mid (Err error) follows same =
    subst (λ state. IfSome known (λ bytes. KeepsFirst binding rules start bytes state)) (sym same)
    (follows_keeps binding rules start old number known mid follows)

-- ---- what reading a line gave

pub gives_ok : {T : Type 0} (value : T) (expected : Result T LineError) → GivesUnlessMemory (Ok value) expected
    → expected ≡ Ok value
gives_ok value expected (inl is) = sym is
gives_ok value expected (inr memory) = cc

pub gives_err : {T : Type 0} (error : LineError) (expected : Result T LineError)
    → GivesUnlessMemory (Err error) expected → error ≢ OutOfMemory → expected ≡ Err error
gives_err error expected (inl is) other = sym is
gives_err error expected (inr memory) other = absurd (other (cc))

-- ---- a line, by what reading it gave and by what the follower made of its entry

module _ (binding : Arguments) (rules : Rules) (number : ℕ) (line : List ℕ) (old : FollowState) where
  pub leads_when_none : (read : Option Entry) → GivesUnlessMemory (Ok read) (line_entry rules.chained line)
      → read ≡ None → LineLeadsTo binding rules number line old None old
  leads_when_none read gives is =
      leads_past binding rules number line old
      (gives_ok read (line_entry rules.chained line) gives
      ∙ ap (λ (read : Option Entry). let answer : Result (Option Entry) LineError = Ok read in answer) is)

  pub leads_when_bad : (error : LineError) → GivesUnlessMemory (Err error) (line_entry rules.chained line)
      → (answer : Result Turn FollowError)
      → IfOk answer (λ made. (made ≡ turn.Stops (stop.BadLine number error)) × (error ≢ OutOfMemory))
      → IfOk answer (λ made. LineLeadsTo binding rules number line old (stop_of made) old)
  leads_when_bad error gives (Ok made) is =
      subst (λ made. LineLeadsTo binding rules number line old (stop_of made) old) (sym is.0)
      (leads_to_bad binding rules number line old error
      (gives_err error (line_entry rules.chained line) gives is.1))
  leads_when_bad error gives (Err failed) is = tt

  -- what the line has
  entry_read : (read : Option Entry) (entry : Entry) → GivesUnlessMemory (Ok read) (line_entry rules.chained line)
      → read ≡ Some entry → line_entry rules.chained line ≡ Ok (Some entry)
  entry_read read entry gives is =
      gives_ok read (line_entry rules.chained line) gives
      ∙ ap (λ (read : Option Entry). let answer : Result (Option Entry) LineError = Ok read in answer) is

  pub leads_when_stop : (read : Option Entry) (entry : Entry) (made : Following) (new : FollowState) (why : Stop)
      → GivesUnlessMemory (Ok read) (line_entry rules.chained line) → read ≡ Some entry
      → made ≡ outcome_of binding old entry → new ≡ next_follow binding old entry
      → true ≡ stops_at rules.skips_gaps made → why ≡ stop_by made (record { line = number; entry = entry })
      → LineLeadsTo binding rules number line old (Some why) new
  leads_when_stop read entry made new why gives is becomes next stops reason =
      let at : stops_at rules.skips_gaps (outcome_of binding old entry) ≡ true =
      sym (stops ∙ ap (stops_at rules.skips_gaps) becomes) in
      let same : why ≡ stop_for binding old number entry =
      reason ∙ ap (λ made. stop_by made (record { line = number; entry = entry })) becomes in
      subst (λ why. LineLeadsTo binding rules number line old (Some why) new) (sym same)
      (subst (λ state. LineLeadsTo binding rules number line old (Some (stop_for binding old number entry)) state)
      (sym (next ∙ next-stop binding rules.skips_gaps old entry at))
      (leads_to_stop binding rules number line old entry (entry_read read entry gives is) at))

  pub leads_when_on : (read : Option Entry) (entry : Entry) (made : Following) (new : FollowState)
      → GivesUnlessMemory (Ok read) (line_entry rules.chained line) → read ≡ Some entry
      → made ≡ outcome_of binding old entry → new ≡ next_follow binding old entry
      → false ≡ stops_at rules.skips_gaps made
      → LineLeadsTo binding rules number line old None new
  leads_when_on read entry made new gives is becomes next stops =
      let goes : stops_at rules.skips_gaps (outcome_of binding old entry) ≡ false =
      sym (stops ∙ ap (stops_at rules.skips_gaps) becomes) in
      subst (λ state. LineLeadsTo binding rules number line old None state) (sym next)
      (leads_on binding rules number line old entry (entry_read read entry gives is) goes)

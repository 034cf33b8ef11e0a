-- What is printed so far, line by line.
use Rattle.std.proofs.Common.{◌≡◌, ℕ, ◌+◌, List, [], ◌++◌, length, take, append_assoc, append-nil, Bool, true, false}
use Rattle.std.proofs.Common.{Option, None, Some, Result, Ok, Err, refl, sym, ap, ◌∙◌, subst}
use Rattle.std.specs.Prelude.{IfErr, IfOk, IfSome, OnOk}
use Rattle.std.specs.Io.KnownBytes.{Appends}
use Rattle.std.proofs.KnownBytes.{Appends-trans}
use Rattle.std.proofs.Math.Seq.{take-append-add, take-append_seam}
use Rattle.std.proofs.lemmas.List.{take-append-drop}
use Rattle.std.proofs.Common.{drop}
use Rattle.cdc_match.specs.Arguments.{Arguments}
use Rattle.cdc_output.specs.declared.faults.ProgramFault.{ProgramFault}
use Rattle.cdc_subscriber.specs.SubscriberState.{SubscriberState}
use Rattle.cdc_follow.specs.declared.streams.Rules.{Rules}
use Rattle.cdc_follow.specs.declared.streams.Stop.{Stop}
use Rattle.cdc_follow.specs.declared.streams.Taken.{Taken}
use Rattle.cdc_follow.specs.declared.streams.Turn.{Turn}
use Rattle.cdc_follow.specs.declared.streams.Turn.TheVariants.{GoesOn, Stops}
use Rattle.cdc_follow.specs.Following.{FollowState}
use Rattle.cdc_follow.specs.Turns.{StepTurns}
use Rattle.cdc_follow.proofs.StopLemmas.{Follows}
use Rattle.cdc_streams.specs.Saving.{IfStopped, PrintsAll, PrintsBy, PrintsFault, is_write_fault}
use Rattle.cdc_streams.specs.declared.endings.StreamEnding.{StreamEnding}
use Rattle.cdc_streams.specs.declared.endings.StreamEnding.TheVariants.{Stopped, Failed}
use Rattle.cdc_streams.proofs.SavingLemmas.{appends_nothing, fault_prints, part_more, prints_all}
use Rattle.cdc_expect.specs.Expect.{expect_text, lines_text, turn_text}
use Rattle.cdc_expect.specs.Printing.{PrintsExpected, PrintsFirst}
use Rattle.cdc_expect.proofs.TextLemmas.{text_begins, text_on, text_stop}

-- ---- the first bytes of a text

-- a text that others begin with was printed
first_whole : (why : ProgramFault) (done more text : List ℕ) (old new : Option (List ℕ)) → text ≡ done ++ more
    → Appends old new done → PrintsFirst why text old new
first_whole why done more text old new is adds =
    let same : take (length done) text ≡ done = ap (take (length done)) is ∙ take-append_seam done more in (
      length done,
      prints_all {T = Unit {0}} (take (length done) text) old new (Err why) (subst (Appends old new) (sym same) adds),
    )

-- nothing was
pub first_none : (why : ProgramFault) (text : List ℕ) (known : Option (List ℕ)) → PrintsFirst why text known known
first_none why text known = first_whole why [] text text known known refl (appends_nothing known)

-- a part of it was
pub first_part : (why : ProgramFault) (failed : Bool) (done more text : List ℕ) (old new : Option (List ℕ))
    → text ≡ done ++ more → PrintsBy failed old new done → PrintsFirst why text old new
first_part why true done more text old new is part =
    let n = part.0 in
    first_whole why (take n done) (drop n done ++ more) text old new
    (is ∙ ap (λ (all : List ℕ). all ++ more) (sym (take-append-drop n done))
    ∙ append_assoc (take n done) (drop n done) more) part.1
first_part why false done more text old new is adds = first_whole why done more text old new is adds

-- a text was printed, and then the first bytes of what comes after it
by_after : (failed : Bool) (done rest : List ℕ) (count : ℕ) (old mid new : Option (List ℕ)) → Appends old mid done
    → PrintsBy failed mid new (take count rest) → PrintsBy failed old new (done ++ take count rest)
by_after true done rest count old mid new first part = part_more done (take count rest) old mid new first part
by_after false done rest count old mid new first adds =
    Appends-trans old mid new done (take count rest) first adds

pub first_after : (why : ProgramFault) (done rest text : List ℕ) (old mid new : Option (List ℕ)) → text ≡ done ++ rest
    → Appends old mid done → PrintsFirst why rest mid new → PrintsFirst why text old new
first_after why done rest text old mid new is first later = (
  length done + later.0,
  subst (PrintsBy (is_write_fault why) old new)
      (sym (ap (take (length done + later.0)) is ∙ take-append-add done rest later.0))
      (by_after (is_write_fault why) done rest later.0 old mid new first later.1),
)

-- the write of a text failed
pub write_fails : {T : Type 0} (answer : Result T ProgramFault) (text wanted : List ℕ) (old new : Option (List ℕ))
    → text ≡ wanted → IfErr answer (λ why. PrintsBy (is_write_fault why) old new text)
    → IfErr answer (λ why. PrintsFirst why wanted old new)
write_fails (Ok done) text wanted old new is prints = tt
write_fails (Err why) text wanted old new is prints =
    first_part why (is_write_fault why) text [] wanted old new (sym is ∙ sym (append-nil text)) prints

-- a text was written, or a part of it if a write failed
pub part_prints : {T : Type 0} (answer : Result T ProgramFault) (text wanted : List ℕ) (old new : Option (List ℕ))
    → text ≡ wanted → PrintsAll old new text answer → OnOk answer (Appends old new wanted)
part_prints (Ok done) text wanted old new is prints = subst (Appends old new) is prints
part_prints (Err why) text wanted old new is prints = tt

pub part_fails : {T : Type 0} (answer : Result T ProgramFault) (text wanted : List ℕ) (old new : Option (List ℕ))
    → text ≡ wanted → PrintsAll old new text answer → IfErr answer (λ why. PrintsFirst why wanted old new)
part_fails (Ok done) text wanted old new is prints = tt
part_fails {T = T} (Err why) text wanted old new is prints = write_fails {T = T} (Err why) text wanted old new is prints

-- the text of a turn was printed
pub write_prints : (answer : Result Turn ProgramFault) (number : ℕ) (turn : Turn) (kept : SubscriberState)
    (text : List ℕ) (old new : Option (List ℕ)) → text ≡ turn_text number turn kept → IfOk answer (λ it. it ≡ turn)
    → IfOk answer (λ _. Appends old new text) → IfOk answer (λ it. Appends old new (turn_text number it kept))
write_prints (Ok it) number turn kept text old new is same adds =
    subst (Appends old new) (is ∙ ap (λ (t : Turn). turn_text number t kept) (sym same)) adds
write_prints (Err why) number turn kept text old new is same adds = tt

-- ---- one line

-- the first bytes of its text are the first ones of that of all lines from it on
pub line_fails : (binding : Arguments) (rules : Rules) (number : ℕ) (before after : FollowState) (turn : Turn)
    (why : ProgramFault) (mid left old new : Option (List ℕ))
    → IfSome mid (λ bytes. StepTurns binding rules number before bytes turn after left)
    → PrintsFirst why (turn_text number turn after.kept) old new
    → IfSome mid (λ bytes. PrintsFirst why (lines_text binding rules before number bytes) old new)
line_fails binding rules number before after turn why None left old new step prints = tt
line_fails binding rules number before after turn why (Some bytes) left old new step prints =
    let text = turn_text number turn after.kept in
    let n = prints.0 in
    let begins = text_begins binding rules before number after bytes turn left step in
    first_part why (is_write_fault why) (take n text) (drop n text ++ begins.0)
    (lines_text binding rules before number bytes) old new
    (begins.1 ∙ ap (λ (all : List ℕ). all ++ begins.0) (sym (take-append-drop n text))
    ∙ append_assoc (take n text) (drop n text) begins.0) prints.1

pub any_fails : (binding : Arguments) (rules : Rules) (number : ℕ) (before after : FollowState) (turn : Turn)
    (answer : Result Turn ProgramFault) (mid left old new : Option (List ℕ))
    → IfSome mid (λ bytes. StepTurns binding rules number before bytes turn after left)
    → IfErr answer (λ why. PrintsFirst why (turn_text number turn after.kept) old new)
    → IfErr answer (λ why. IfSome mid (λ bytes. PrintsFirst why (lines_text binding rules before number bytes) old new))
any_fails binding rules number before after turn (Ok it) mid left old new step fails = tt
any_fails binding rules number before after turn (Err why) mid left old new step fails =
    line_fails binding rules number before after turn why mid left old new step fails

-- what holds of a turn holds of the same one
pub same_turn : (P : Turn → Type 0) (turn : Turn) (answer : Result Turn ProgramFault)
    → IfOk answer (λ it. it ≡ turn) → P turn → IfOk answer P
same_turn P turn (Ok it) is holds = subst P (sym is) holds
same_turn P turn (Err why) is holds = tt

pub none_printed : (binding : Arguments) (rules : Rules) (number : ℕ) (before : FollowState) (why : ProgramFault)
    (mid now : Option (List ℕ))
    → IfSome mid (λ bytes. PrintsFirst why (lines_text binding rules before number bytes) now now)
none_printed binding rules number before why None now = tt
none_printed binding rules number before why (Some bytes) now =
    first_none why (lines_text binding rules before number bytes) now

-- ---- the lines so far

module _ (binding : Arguments) (rules : Rules) (start : FollowState) (known old : Option (List ℕ)) where
  -- the text of the lines before this one was printed
  abbrev pub HasPrinted : FollowState → ℕ → Option (List ℕ) → Option (List ℕ) → Type 0
  HasPrinted state number left now = IfSome known (λ bytes. IfSome left (λ rest.
      (done : List ℕ) × Appends old now done
      × (expect_text binding rules start bytes ≡ done ++ lines_text binding rules state number rest)))

pub printed_begins : (binding : Arguments) (rules : Rules) (start : FollowState) (known old : Option (List ℕ))
    → HasPrinted binding rules start known old start 1 known old
printed_begins binding rules start None old = tt
printed_begins binding rules start (Some bytes) old = ([], appends_nothing old, refl)

printed_line : (binding : Arguments) (rules : Rules) (start before after : FollowState) (number : ℕ) (taken : Taken)
    (known mid left old now new : Option (List ℕ))
    → Follows binding rules start known before number mid
    → HasPrinted binding rules start known old before number mid now
    → IfSome mid (λ bytes. StepTurns binding rules number before bytes (GoesOn taken) after left)
    → Appends now new (turn_text number (GoesOn taken) after.kept)
    → HasPrinted binding rules start known old after (number + 1) left new
printed_line binding rules start before after number taken None mid left old now new follows has step adds = tt
printed_line binding rules start before after number taken (Some bytes) None left old now new follows has step adds =
    absurd follows
printed_line binding rules start before after number taken (Some bytes) (Some mid) None old now new follows has step
    adds = tt
printed_line binding rules start before after number taken (Some bytes) (Some mid) (Some rest) old now new follows has
    step adds =
    let takes = step.takes in
    let same : takes.1 ≡ rest = cc takes.2 in
    let text = turn_text number (GoesOn taken) after.kept in
    let later = lines_text binding rules after (number + 1) rest in (
      has.0 ++ text,
      Appends-trans old now new has.0 text has.1 adds,
      has.2
          ∙ ap (λ (l : List ℕ). has.0 ++ l)
          (text_on binding rules before number after mid takes.0 takes.1 taken (Some rest) takes.3 step
          ∙ ap (λ (r : List ℕ). text ++ lines_text binding rules after (number + 1) r) same)
          ∙ sym (append_assoc has.0 text later),
    )

-- what holds before a line
pub record SoFar (binding : Arguments) (rules : Rules) (start : FollowState) (known old : Option (List ℕ))
    (state : FollowState) (number : ℕ) (left now : Option (List ℕ)) : Type 0 where
  pub follows : Follows binding rules start known state number left
  pub printed : HasPrinted binding rules start known old state number left now

pub so_far_line : (binding : Arguments) (rules : Rules) (start before after : FollowState) (number : ℕ) (turn : Turn)
    (taken : Taken) (known mid left old now new : Option (List ℕ))
    → Follows binding rules start known after (number + 1) left → turn ≡ GoesOn taken
    → SoFar binding rules start known old before number mid now
    → IfSome mid (λ bytes. StepTurns binding rules number before bytes turn after left)
    → Appends now new (turn_text number turn after.kept)
    → SoFar binding rules start known old after (number + 1) left new
so_far_line binding rules start before after number turn taken known mid left old now new follows is so_far step adds =
    record {
      follows = follows;
      printed = printed_line binding rules start before after number taken known mid left old now new so_far.follows
          so_far.printed
          (subst (λ (it : Turn). IfSome mid (λ bytes. StepTurns binding rules number before bytes it after left)) is
          step)
          (subst (λ (it : Turn). Appends now new (turn_text number it after.kept)) is adds);
    }

-- following stops
pub printed_stops : (binding : Arguments) (rules : Rules) (start before after : FollowState) (number : ℕ)
    (turn : Turn) (stop : Stop) (known mid left old now new : Option (List ℕ)) → turn ≡ Stops stop
    → SoFar binding rules start known old before number mid now
    → IfSome mid (λ bytes. StepTurns binding rules number before bytes turn after left)
    → Appends now new (turn_text number turn after.kept)
    → IfSome known (λ bytes. Appends old new (expect_text binding rules start bytes))
printed_stops binding rules start before after number turn stop None mid left old now new is so_far step adds = tt
printed_stops binding rules start before after number turn stop (Some bytes) None left old now new is so_far step
    adds = absurd so_far.follows
printed_stops binding rules start before after number turn stop (Some bytes) (Some mid) left old now new is so_far
    step adds =
    let has = so_far.printed in
    let text = turn_text number (Stops stop) after.kept in
    let whole : expect_text binding rules start bytes ≡ has.0 ++ text =
    has.2 ∙ ap (λ (l : List ℕ). has.0 ++ l) (text_stop binding rules before number after mid stop left
    (subst (λ (it : Turn). StepTurns binding rules number before mid it after left) is step)) in
    subst (Appends old new) (sym whole)
    (Appends-trans old now new has.0 text has.1
    (subst (λ (it : Turn). Appends now new (turn_text number it after.kept)) is adds))

-- a line fails
pub printed_fails : (binding : Arguments) (rules : Rules) (start before : FollowState) (number : ℕ)
    (why : ProgramFault) (known mid old now new : Option (List ℕ))
    → SoFar binding rules start known old before number mid now
    → IfSome mid (λ bytes. PrintsFirst why (lines_text binding rules before number bytes) now new)
    → IfSome known (λ bytes. PrintsFirst why (expect_text binding rules start bytes) old new)
printed_fails binding rules start before number why None mid old now new so_far fails = tt
printed_fails binding rules start before number why (Some bytes) None old now new so_far fails = absurd so_far.follows
printed_fails binding rules start before number why (Some bytes) (Some mid) old now new so_far fails =
    let has = so_far.printed in
    first_after why has.0 (lines_text binding rules before number mid) (expect_text binding rules start bytes) old now
    new has.2 has.1 fails

-- there are too many lines
pub printed_so_far : (binding : Arguments) (rules : Rules) (start before : FollowState) (number : ℕ)
    (why : ProgramFault) (known mid old now : Option (List ℕ))
    → SoFar binding rules start known old before number mid now
    → IfSome known (λ bytes. PrintsFirst why (expect_text binding rules start bytes) old now)
printed_so_far binding rules start before number why known mid old now so_far =
    printed_fails binding rules start before number why known mid old now now so_far
    (none_printed binding rules number before why mid now)

-- ---- the command

pub command_fails : {T : Type 0} (fails : ProgramFault → List ℕ → Type 0) (fault : ProgramFault)
    (known old mid new : Option (List ℕ)) (whole : List ℕ → List ℕ) (ending : StreamEnding T)
    → IfSome known (λ bytes. PrintsFirst fault (whole bytes) old mid)
    → IfStopped ending (λ stop. ⊥) → PrintsFault fails [] mid new fault ending
    → (is_write_fault fault ≡ true → (ending ≡ Failed fault) × Appends mid new [])
    → IfSome known (λ bytes. PrintsExpected fails (whole bytes) old new ending)
command_fails fails fault None old mid new whole ending first never last quiet = tt
command_fails fails fault (Some bytes) old mid new whole (Stopped stop) first never last quiet = absurd never
command_fails fails fault (Some bytes) old mid new whole (Failed why) first never last quiet = (
  first.0,
  fault,
  fault_prints (take first.0 (whole bytes)) old mid new (Failed why) fails fault first.1 last quiet,
)

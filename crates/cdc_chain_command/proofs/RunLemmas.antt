-- What is printed and saved so far.
use Rattle.std.proofs.Common.{◌≡◌, ℕ, ◌+◌, List, [], ◌∷◌, ◌++◌, length, take, Bool, true, false, Option, None, Some}
use Rattle.std.proofs.Common.{Result, Ok, Err, refl, sym, ap, ap₂, ◌∙◌, subst, append-nil, append_assoc}
use Rattle.std.specs.Prelude.{IfSome, IsTrue, OnErr, not}
use Rattle.std.specs.List.{AllByRecursion}
use Rattle.std.specs.Io.KnownBytes.{Appends}
use Rattle.std.proofs.KnownBytes.{Appends-trans}
use Rattle.std.proofs.Math.Seq.{take-append-add, take-append_seam}
use Rattle.std.proofs.lemmas.List.Concat.{flat_map-append}
use Rattle.cdc_match.specs.Arguments.{Arguments}
use Rattle.cdc_follow.specs.Lines.{lines_of}
use Rattle.cdc_output.specs.declared.faults.ProgramFault.{ProgramFault}
use Rattle.cdc_queue_lines.specs.Lines.{ended}
use Rattle.cdc_streams.specs.Saving.{PrintsPart}
use Rattle.cdc_streams.specs.declared.endings.StreamEnding.{StreamEnding}
use Rattle.cdc_streams.specs.declared.endings.StreamEnding.TheVariants.{Stopped, Failed}
use Rattle.cdc_streams.proofs.KeepingLemmas.{adds_none, adds_one, adds_same}
use Rattle.cdc_streams.proofs.SavingLemmas.{appends_nothing}
use Rattle.cdc_chain.specs.declared.streams.ChainStop.{ChainStop}
use Rattle.cdc_chain.specs.declared.streams.ChainStop.TheVariants as stop
use Rattle.cdc_chain.specs.Chains.{ChainState, Made, chain, made_first, made_then, nothing, stopped}
use Rattle.cdc_chain.specs.Lines.{QueueLine, line_text, lines_text}
use Rattle.cdc_chain.specs.Private.Steps.{GoesOn, StepMakes}
use Rattle.cdc_chain.proofs.LawLemmas.{first_of_all}
use Rattle.cdc_chain.proofs.LineLemmas.{chain_none}
use Rattle.cdc_chain_command.specs.Printing.{ChainsFirst, IsPrinted, PrintsChain}
use Rattle.cdc_chain_command.specs.Private.Steps.{AllTaken, HasFailed, HasRun, Keeps, SavesState, TakesLines, Writes}
use Rattle.cdc_chain_command.specs.Logs.{IsTextOf}

-- ---- texts

-- all was written, since nothing is left
pub whole_write : {T : Type 0} (done : T) (old new : Option (List ℕ)) (before after : List ℕ)
    → Writes old new before after (Ok done) → after ≡ [] → Appends old new before
whole_write done old new before after writes none =
    subst (Appends old new) (sym (writes.2 ∙ ap (λ rest. writes.0 ++ rest) none ∙ append-nil writes.0)) writes.1

-- what holds anyway holds after an error
pub on_err : {T E X : Type 0} (result : Result T E) → X → OnErr result X
on_err (Ok done) holds = tt
on_err (Err why) holds = holds

-- ---- lists

all_more : {X : Type 0} (P : X → Type 0) (xs : List X) (x : X) → AllByRecursion P xs → P x
    → AllByRecursion P (xs ++ x ∷ [])
all_more P [] x all is = (is, tt)
all_more P (y ∷ ys) x all is = (all.0, all_more P ys x all.1 is)

all_map : {X : Type 0} (P Q : X → Type 0) → ((x : X) → P x → Q x) → (xs : List X) → AllByRecursion P xs
    → AllByRecursion Q xs
all_map P Q maps [] all = tt
all_map P Q maps (x ∷ xs) all = (maps x all.0, all_map P Q maps xs all.1)

lines_then : (one two : List QueueLine) → lines_text (one ++ two) ≡ lines_text one ++ lines_text two
lines_then one two = flat_map-append (λ line. ended (line_text line)) one two

-- nothing is made afterwards
nothing_after : (made : Made) (state : ChainState) (why : ChainStop)
    → made_first made (stopped state why) ≡ record { made = made; state = state; stop = why }
nothing_after made state why =
    ap₂ (λ events lines. record { made = record { events = events; lines = lines }; state = state; stop = why })
    (append-nil made.events) (append-nil made.lines)

module _ (bindings : List Arguments) (names : List (List ℕ)) (start : ChainState) where
  -- some of the first lines of these bytes were taken, up to this number, and the others are left
  pub record TakenTo (bytes : List ℕ) (state : ChainState) (number : ℕ) (left : List ℕ) (made : Made) : Type 0 where
    pub front : List (List ℕ)
    pub whole : lines_of bytes ≡ front ++ lines_of left
    pub leads : (rest : List (List ℕ))
        → chain bindings start 1 (front ++ rest) ≡ made_first made (chain bindings state number rest)

  pub first_chained : (bytes : List ℕ) (state : ChainState) (number : ℕ) (left : List ℕ) (made : Made)
      → TakenTo bytes state number left made → ChainsFirst bindings start bytes made state
  first_chained bytes state number left made taken = record {
    front = taken.front;
    rest = lines_of left;
    whole = taken.whole;
    chained = ap (chain bindings start 1) (sym (append-nil taken.front)) ∙ taken.leads []
        ∙ ap (made_first made) (chain_none bindings state number) ∙ nothing_after made state stop.AtEnd;
  }

  -- a text that is saved is that of a log, and this is its last state
  abbrev IsText : List ℕ → ChainState → Type 0
  IsText text state = IsTextOf names text state

  -- what was printed before is printed still
  more_printed : (bytes text more : List ℕ) (state : ChainState) → IsPrinted bindings start bytes text state
      → IsPrinted bindings start bytes (text ++ more) state
  more_printed bytes text more state is = record {
    made = is.made;
    first = is.first;
    later = is.later ++ more;
    begins = ap (λ t. t ++ more) is.begins ∙ append_assoc (lines_text is.made.lines) is.later more;
  }

  all_printed : (bytes text more : List ℕ) (states : List ChainState)
      → AllByRecursion (IsPrinted bindings start bytes text) states
      → AllByRecursion (IsPrinted bindings start bytes (text ++ more)) states
  all_printed bytes text more states all =
      all_map (IsPrinted bindings start bytes text) (IsPrinted bindings start bytes (text ++ more))
      (more_printed bytes text more) states all

  module _ (old : Option (List ℕ)) (held : Option (List (List ℕ))) (bytes : List ℕ) where
    -- what was printed and saved of these bytes, of which that is taken
    abbrev RunBy : (Made → Type 0) → Option (List ℕ) → List ℕ → Option (List (List ℕ)) → Type 0
    RunBy Taken now pending holds = HasRun bindings names start bytes old held Taken now pending holds

    -- some of the pending text was written
    pub wrote : (Taken : Made → Type 0) (now new : Option (List ℕ)) (before after text : List ℕ)
        (holds : Option (List (List ℕ))) → RunBy Taken now before holds → Appends now new text → before ≡ text ++ after
        → RunBy Taken new after holds
    wrote Taken now new before after text holds run adds is = record {
      made = run.made;
      taken = run.taken;
      text = run.text ++ text;
      printed = Appends-trans old now new run.text text run.printed adds;
      makes = append_assoc run.text text after ∙ ap (λ t. run.text ++ t) (sym is) ∙ run.makes;
      states = run.states;
      saved = run.saved;
      are = all_printed bytes run.text text run.states run.are;
    }

    -- all of it was written, and the state was saved
    pub saved_so : (Taken : Made → Type 0) (state : ChainState) (now new : Option (List ℕ)) (before after : List ℕ)
        (holds later : Option (List (List ℕ))) → ((made : Made) → Taken made
        → ChainsFirst bindings start bytes made state)
        → RunBy Taken now before holds → Appends now new before → after ≡ []
        → Keeps names holds later state → RunBy Taken new after later
    saved_so Taken state now new before after holds later first run adds none replaces =
        let whole = run.text ++ before in record {
          made = run.made;
          taken = run.taken;
          text = whole;
          printed = Appends-trans old now new run.text before run.printed adds;
          makes = ap (λ t. whole ++ t) none ∙ append-nil whole ∙ run.makes;
          states = run.states ++ state ∷ [];
          saved = adds_one IsText held holds later run.states state run.saved
              replaces;
          are = all_more (IsPrinted bindings start bytes whole) run.states state
              (all_printed bytes run.text before run.states run.are)
              (record {
                made = run.made;
                first = first run.made run.taken;
                later = [];
                begins = run.makes ∙ sym (append-nil (lines_text run.made.lines));
              });
        }

    -- a part of the pending text was written, and nothing was saved
    pub failed : (Taken : Made → Type 0) (now new : Option (List ℕ)) (before : List ℕ)
        (holds later : Option (List (List ℕ))) → ((made : Made) → Taken made
        → (state : ChainState) × ChainsFirst bindings start bytes made state)
        → RunBy Taken now before holds → PrintsPart now new before → later ≡ holds
        → HasFailed bindings names start bytes old held new later
    failed Taken now new before holds later first run part same = record {
      text = run.text ++ take part.0 before;
      printed = Appends-trans old now new run.text (take part.0 before) run.printed part.1;
      states = run.states;
      saved = adds_same IsText held holds later run.states same run.saved;
      are = all_printed bytes run.text (take part.0 before) run.states run.are;
      part = record {
        made = run.made;
        state = (first run.made run.taken).0;
        first = (first run.made run.taken).1;
        n = length run.text + part.0;
        text_is = sym (ap (take (length run.text + part.0)) (sym run.makes)
            ∙ take-append-add run.text before part.0);
      };
    }

    -- the command ends after a last save
    pub ends_saved : (ending : StreamEnding ChainStop) (state : ChainState) (now new : Option (List ℕ))
        (before after : List ℕ) (holds later : Option (List (List ℕ)))
        → TakesLines bindings names start bytes old held (Ok ending) state now before holds
        → Appends now new before → after ≡ [] → Keeps names holds later state
        → PrintsChain bindings names start bytes old new held later state ending
    ends_saved (Stopped why) state now new before after holds later run adds none replaces = record {
      text = run.text ++ before;
      printed = Appends-trans old now new run.text before run.printed adds;
      states = run.states ++ state ∷ [];
      saved = adds_one IsText held holds later run.states state run.saved
          replaces;
      ends = (
        run.states,
        refl,
        all_printed bytes run.text before run.states run.are,
        record { made = run.made; all = run.taken.0; text_is = run.makes },
      );
    }
    ends_saved (Failed why) state now new before after holds later run adds none replaces =
        let done = saved_so (λ made. ChainsFirst bindings start bytes made state) state now new before [] holds later
        (λ made first. first) run adds refl replaces in record {
          text = done.text;
          printed = done.printed;
          states = done.states;
          saved = done.saved;
          ends = (
            done.are,
            record {
              made = done.made;
              state = state;
              first = done.taken;
              n = length done.text;
              text_is = sym (ap (take (length done.text)) (sym done.makes)
                  ∙ take-append_seam done.text []);
            },
          );
        }

    -- or that save fails
    pub ends_failed : (ending : StreamEnding ChainStop) (why : ProgramFault) (state final : ChainState)
        (now new : Option (List ℕ)) (before : List ℕ) (holds later : Option (List (List ℕ)))
        → TakesLines bindings names start bytes old held (Ok ending) state now before holds
        → PrintsPart now new before → later ≡ holds
        → PrintsChain bindings names start bytes old new held later final (Failed why)
    ends_failed ending why state final now new before holds later run part same =
        so (by_ending ending run)
      where
        so : HasFailed bindings names start bytes old held new later
            → PrintsChain bindings names start bytes old new held later final (Failed why)
        so done = record {
          text = done.text;
          printed = done.printed;
          states = done.states;
          saved = done.saved;
          ends = (done.are, done.part);
        }

        by_ending : (ending : StreamEnding ChainStop)
            → TakesLines bindings names start bytes old held (Ok ending) state now before holds
            → HasFailed bindings names start bytes old held new later
        by_ending (Stopped stop) run =
            failed (AllTaken bindings start bytes state stop) now new before holds later (λ made all. all.1) run part
            same
        by_ending (Failed fault) run =
            failed (λ made. ChainsFirst bindings start bytes made state) now new before holds later
            (λ made first. (state, first)) run part same

    -- ---- the loop

    -- the lines up to this number were taken
    abbrev pub Run : ChainState → ℕ → List ℕ → Option (List ℕ) → List ℕ → Option (List (List ℕ)) → Type 0
    Run state number left now pending holds = RunBy (TakenTo bytes state number left) now pending holds

    run_from : Run start 1 bytes old [] held
    run_from = record {
      made = nothing;
      taken = record { front = []; whole = refl; leads = λ rest. refl };
      text = [];
      printed = appends_nothing old;
      makes = refl;
      states = [];
      saved = adds_none IsText held;
      are = tt;
    }

    -- one more line was taken
    run_more : (before after : ChainState) (number : ℕ) (mid line rest : List ℕ) (now : Option (List ℕ))
        (pending longer : List ℕ) (holds : Option (List (List ℕ))) → Run before number mid now pending holds
        → lines_of mid ≡ line ∷ lines_of rest → GoesOn bindings number line before after pending longer
        → Run after (number + 1) rest now longer holds
    run_more before after number mid line rest now pending longer holds run is on = record {
      made = made_then run.made on.made;
      taken = record {
        front = run.taken.front ++ line ∷ [];
        whole = run.taken.whole ∙ ap (λ lines. run.taken.front ++ lines) is
            ∙ sym (append_assoc run.taken.front (line ∷ []) (lines_of rest));
        leads = λ others. ap (chain bindings start 1) (append_assoc run.taken.front (line ∷ []) others)
            ∙ run.taken.leads (line ∷ others) ∙ ap (made_first run.made) (on.leads others)
            ∙ first_of_all run.made on.made (chain bindings after (number + 1) others);
      };
      text = run.text;
      printed = run.printed;
      makes = ap (λ t. run.text ++ t) on.text ∙ sym (append_assoc run.text pending (lines_text on.made.lines))
          ∙ ap (λ t. t ++ lines_text on.made.lines) run.makes ∙ sym (lines_then run.made.lines on.made.lines);
      states = run.states;
      saved = run.saved;
      are = run.are;
    }

    -- chaining stops
    run_ends : (before after : ChainState) (number : ℕ) (why : ChainStop) (mid : List ℕ) (now : Option (List ℕ))
        (pending same : List ℕ) (holds : Option (List (List ℕ))) → Run before number mid now pending holds
        → chain bindings before number (lines_of mid) ≡ stopped after why → same ≡ pending
        → TakesLines bindings names start bytes old held (Ok (Stopped why)) after now same holds
    run_ends before after number why mid now pending same holds run stops is = record {
      made = run.made;
      taken = (
        ap (chain bindings start 1) run.taken.whole ∙ run.taken.leads (lines_of mid)
            ∙ ap (made_first run.made) stops ∙ nothing_after run.made after why,
        (before, first_chained bytes before number mid run.made run.taken),
      );
      text = run.text;
      printed = run.printed;
      makes = ap (λ t. run.text ++ t) is ∙ run.makes;
      states = run.states;
      saved = run.saved;
      are = run.are;
    }

    -- a read fails
    run_cut : (state final : ChainState) (number : ℕ) (why : ProgramFault) (mid : List ℕ) (now : Option (List ℕ))
        (pending same : List ℕ) (holds : Option (List (List ℕ))) → Run state number mid now pending holds
        → final ≡ state → same ≡ pending
        → TakesLines bindings names start bytes old held (Ok (Failed why)) final now same holds
    run_cut state final number why mid now pending same holds run stays is = record {
      made = run.made;
      taken = subst (ChainsFirst bindings start bytes run.made) (sym stays)
          (first_chained bytes state number mid run.made run.taken);
      text = run.text;
      printed = run.printed;
      makes = ap (λ t. run.text ++ t) is ∙ run.makes;
      states = run.states;
      saved = run.saved;
      are = run.are;
    }

    -- the command fails
    run_fails : (state : ChainState) (number : ℕ) (mid : List ℕ) (now new : Option (List ℕ)) (pending : List ℕ)
        (holds later : Option (List (List ℕ))) → Run state number mid now pending holds
        → PrintsPart now new pending → later ≡ holds → HasFailed bindings names start bytes old held new later
    run_fails state number mid now new pending holds later run part same =
        failed (TakenTo bytes state number mid) now new pending holds later
        (λ made taken. (state, first_chained bytes state number mid made taken)) run part same

  -- ---- the loop over bytes that may be unknown

  module _ (old : Option (List ℕ)) (held : Option (List (List ℕ))) (known : Option (List ℕ)) where
    abbrev pub Goes : ChainState → ℕ → Option (List ℕ) → Option (List ℕ) → List ℕ → Option (List (List ℕ)) → Type 0
    Goes state number left now pending holds = IfSome known (λ bytes. (rest : List ℕ) × (left ≡ Some rest)
        × Run old held bytes state number rest now pending holds)

    abbrev Takes : Result (StreamEnding ChainStop) ProgramFault → ChainState → Option (List ℕ) → List ℕ
        → Option (List (List ℕ)) → Type 0
    Takes result state now pending holds =
        IfSome known (λ bytes. TakesLines bindings names start bytes old held result state now pending holds)

    -- nothing is taken yet
    goes_known : (all : Option (List ℕ)) → IfSome all (λ bytes. (rest : List ℕ) × (all ≡ Some rest)
        × Run old held bytes start 1 rest old [] held)
    goes_known None = tt
    goes_known (Some bytes) = (bytes, refl, run_from old held bytes)

    pub goes_from : (pending : List ℕ) → pending ≡ [] → Goes start 1 known old pending held
    goes_from pending none = subst (λ p. Goes start 1 known old p held) (sym none) (goes_known known)

    -- what holds of bytes that may be unknown
    by_known : (A B : List ℕ → Type 0) → ((bytes : List ℕ) → A bytes → B bytes) → (all : Option (List ℕ)) → IfSome all A
        → IfSome all B
    by_known A B maps None holds = tt
    by_known A B maps (Some bytes) holds = maps bytes holds

    -- a save, if it is due and done
    pub goes_due : (due : Bool) (state : ChainState) (number : ℕ) (left now new : Option (List ℕ)) (before after :
        List ℕ)
        (holds later : Option (List (List ℕ))) → Goes state number left now before holds
        → (IsTrue due → SavesState names now new before after holds later state)
        → (IsTrue (not due) → (new ≡ now) × (after ≡ before) × (later ≡ holds))
        → Goes state number left new after later
    goes_due true state number left now new before after holds later goes saves same =
        let done = saves refl in
        by_known (λ bytes. (rest : List ℕ) × (left ≡ Some rest) × Run old held bytes state number rest now before holds)
        (λ bytes. (rest : List ℕ) × (left ≡ Some rest) × Run old held bytes state number rest new after later)
        (λ bytes so. (
          so.0,
          so.1,
          saved_so old held bytes (TakenTo bytes state number so.0) state now new before after holds later
              (first_chained bytes state number so.0) so.2 done.0 done.1 done.2,
        )) known goes
    goes_due false state number left now new before after holds later goes saves same =
        let none = same refl in
        subst (λ it. Goes state number left it after later) (sym none.0)
        (subst (λ it. Goes state number left now it later) (sym none.1)
        (subst (λ it. Goes state number left now before it) (sym none.2) goes))

    -- a write or a save fails
    pub part_fails : (state final : ChainState) (number : ℕ) (left now new : Option (List ℕ)) (before after : List ℕ)
        (holds later : Option (List (List ℕ))) (why : ProgramFault) → Goes state number left now before holds
        → PrintsPart now new before → later ≡ holds → Takes (Err why) final new after later
    part_fails state final number left now new before after holds later why goes part same =
        by_known (λ bytes. (rest : List ℕ) × (left ≡ Some rest) × Run old held bytes state number rest now before holds)
        (λ bytes. TakesLines bindings names start bytes old held (Err why) final new after later)
        (λ bytes so. run_fails old held bytes state number so.0 now new before holds later so.2 part same) known goes

    -- memory runs out, and nothing was written since
    pub memory_fails : (state final : ChainState) (number : ℕ) (left now : Option (List ℕ)) (before after : List ℕ)
        (holds : Option (List (List ℕ))) (why : ProgramFault) → Goes state number left now before holds
        → Takes (Err why) final now after holds
    memory_fails state final number left now before after holds why goes =
        part_fails state final number left now now before after holds holds why goes (0, appends_nothing now) refl

    -- a step from what is left
    step_of : (Steps : List ℕ → Type 0) (left : Option (List ℕ)) (rest : List ℕ) → left ≡ Some rest
        → IfSome left Steps → Steps rest
    step_of Steps left rest is some = subst (λ (it : Option (List ℕ)). IfSome it Steps) is some

    -- one more line was taken
    pub goes_on : (before after : ChainState) (number : ℕ) (stops : Option ChainStop) (left rest now : Option (List ℕ))
        (pending longer : List ℕ) (holds : Option (List (List ℕ))) → Goes before number left now pending holds
        → stops ≡ None
        → IfSome left (λ bytes. StepMakes bindings number before bytes stops after rest pending longer)
        → Goes after (number + 1) rest now longer holds
    goes_on before after number stops left rest now pending longer holds goes none makes =
        by_known (λ bytes. (mid : List ℕ) × (left ≡ Some mid) × Run old held bytes before number mid now pending holds)
        (λ bytes. (mid : List ℕ) × (rest ≡ Some mid) × Run old held bytes after (number + 1) mid now longer holds)
        (λ bytes so. let step = step_of
        (λ (bytes : List ℕ). StepMakes bindings number before bytes None after rest pending longer) left so.0 so.1
        (subst (λ (it : Option ChainStop). IfSome left (λ bytes. StepMakes bindings number before bytes it after rest
        pending longer)) none makes) in (
          step.1,
          step.2,
          run_more old held bytes before after number so.0 step.0 step.1 now pending longer holds so.2 step.3 step.4,
        )) known goes

    -- chaining stops
    pub goes_end : (before after : ChainState) (number : ℕ) (stop : ChainStop) (left rest now : Option (List ℕ))
        (pending same : List ℕ) (holds : Option (List (List ℕ))) → Goes before number left now pending holds
        → IfSome left (λ bytes. StepMakes bindings number before bytes (Some stop) after rest pending same)
        → Takes (Ok (Stopped stop)) after now same holds
    goes_end before after number stop left rest now pending same holds goes makes =
        by_known (λ bytes. (mid : List ℕ) × (left ≡ Some mid) × Run old held bytes before number mid now pending holds)
        (λ bytes. TakesLines bindings names start bytes old held (Ok (Stopped stop)) after now same holds)
        (λ bytes so. let step = step_of
        (λ (bytes : List ℕ). StepMakes bindings number before bytes (Some stop) after rest pending same) left so.0 so.1
        makes in
        run_ends old held bytes before after number stop so.0 now pending same holds so.2 step.0 step.1) known goes

    -- a read fails
    pub goes_cut : (state final : ChainState) (number : ℕ) (why : ProgramFault) (left now : Option (List ℕ))
        (pending same : List ℕ) (holds : Option (List (List ℕ))) → Goes state number left now pending holds
        → final ≡ state → same ≡ pending → Takes (Ok (Failed why)) final now same holds
    goes_cut state final number why left now pending same holds goes stays is =
        by_known (λ bytes. (mid : List ℕ) × (left ≡ Some mid) × Run old held bytes state number mid now pending holds)
        (λ bytes. TakesLines bindings names start bytes old held (Ok (Failed why)) final now same holds)
        (λ bytes so. run_cut old held bytes state final number why so.0 now pending same holds so.2 stays is) known goes

    -- some lines were written
    pub goes_wrote : {T : Type 0} (done : T) (state : ChainState) (number : ℕ) (left now new : Option (List ℕ))
        (before after : List ℕ) (holds : Option (List (List ℕ))) → Goes state number left now before holds
        → Writes now new before after (Ok done) → Goes state number left new after holds
    goes_wrote done state number left now new before after holds goes writes =
        by_known (λ bytes. (rest : List ℕ) × (left ≡ Some rest) × Run old held bytes state number rest now before holds)
        (λ bytes. (rest : List ℕ) × (left ≡ Some rest) × Run old held bytes state number rest new after holds)
        (λ bytes so. (
          so.0,
          so.1,
          wrote old held bytes (TakenTo bytes state number so.0) now new before after writes.0 holds so.2 writes.1
              writes.2,
        )) known goes

    -- ---- the command

    -- the last save
    pub ends_by : (ending : StreamEnding ChainStop) (state final : ChainState) (now new : Option (List ℕ))
        (before after : List ℕ) (holds later : Option (List (List ℕ)))
        → Takes (Ok ending) state now before holds → final ≡ state
        → SavesState names now new before after holds later state
        → IfSome known (λ bytes. PrintsChain bindings names start bytes old new held later final ending)
    ends_by ending state final now new before after holds later takes same saves =
        subst (λ it. IfSome known (λ bytes. PrintsChain bindings names start bytes old new held later it ending))
        (sym same)
        (by_known (λ bytes. TakesLines bindings names start bytes old held (Ok ending) state now before holds)
        (λ bytes. PrintsChain bindings names start bytes old new held later state ending)
        (λ bytes taken. ends_saved old held bytes ending state now new before after holds later taken saves.0 saves.1
        saves.2) known takes)

    pub ends_short : (ending : StreamEnding ChainStop) (why : ProgramFault) (state final : ChainState)
        (now new : Option (List ℕ)) (before : List ℕ) (holds later : Option (List (List ℕ)))
        → Takes (Ok ending) state now before holds → PrintsPart now new before → later ≡ holds
        → IfSome known (λ bytes. PrintsChain bindings names start bytes old new held later final (Failed why))
    ends_short ending why state final now new before holds later takes part same =
        by_known (λ bytes. TakesLines bindings names start bytes old held (Ok ending) state now before holds)
        (λ bytes. PrintsChain bindings names start bytes old new held later final (Failed why))
        (λ bytes taken. ends_failed old held bytes ending why state final now new before holds later taken part same)
        known takes

    pub ends_at_once : (why : ProgramFault) (state final : ChainState) (now : Option (List ℕ)) (pending : List ℕ)
        (holds : Option (List (List ℕ))) → Takes (Err why) state now pending holds
        → IfSome known (λ bytes. PrintsChain bindings names start bytes old now held holds final (Failed why))
    ends_at_once why state final now pending holds takes =
        by_known (λ bytes. TakesLines bindings names start bytes old held (Err why) state now pending holds)
        (λ bytes. PrintsChain bindings names start bytes old now held holds final (Failed why))
        (λ bytes failed. record {
          text = failed.text;
          printed = failed.printed;
          states = failed.states;
          saved = failed.saved;
          ends = (failed.are, failed.part);
        }) known takes

-- What was taken and saved of a stream so far, and the lines that were printed.
use Rattle.std.proofs.Common.{◌≡◌, ℕ, ◌+◌, ◌≤◌, List, [], ◌∷◌, ◌++◌, Bool, true, false, Option, None, Some, Result, Ok}
use Rattle.std.proofs.Common.{Err, refl, sym, subst, ap, arith}
use Rattle.std.specs.Prelude.{IfOk, IfSome, IsTrue, is_some, not}
use Rattle.std.specs.Io.KnownBytes.{Appends}
use Rattle.std.proofs.KnownBytes.{Appends-trans}
use Rattle.std.proofs.Math.Nat.{le_refl}
use Rattle.cdc_output.specs.declared.faults.ProgramFault.{ProgramFault}
use Rattle.cdc_streams.specs.Keeping.{HasKept, KeepsMore}
use Rattle.cdc_streams.specs.Saving.{AreSaved, EndWith, PrintsBy, PrintsPart, PrintsSaves, SaveFails, SavesOne}
use Rattle.cdc_streams.specs.Saving.{StandInOrder, is_write_fault, save_text, saves_text}
use Rattle.cdc_streams.specs.Taking.{LeadsOn}
use Rattle.cdc_streams.proofs.OrderLemmas.{StandTo, further, in_order, one_more}
use Rattle.cdc_streams.proofs.SavingLemmas.{appends_nothing, kept_no_more, kept_none, kept_same, part_more, prints_all}
use Rattle.cdc_streams.proofs.SavingLemmas.{prints_same, saves_more, saves_none}

-- so many entries of bytes that may be unknown were taken, and meanwhile these were saved one after another
abbrev pub Has : {S : Type 0} → (List ℕ → ℕ → S → ℕ → List ℕ → Type 0) → (List ℕ → ℕ → S → Type 0)
    → Option (List ℕ) → S → ℕ → Option (List ℕ) → List S → Type 0
Has Taken Stands None state number left states = Unit {0}
Has Taken Stands (Some bytes) state number None states = ⊥
Has Taken Stands (Some bytes) state number (Some left) states =
    (count : ℕ) × Taken bytes count state number left × StandTo (Stands bytes) 0 count states

-- a line of this number leads on from this state, from whatever start it was reached
abbrev pub Steps : {S T : Type 0} → (S → List ℕ → ℕ → S → ℕ → List ℕ → Type 0) → (S → List ℕ → T → S → Type 0)
    → (S → List ℕ → ℕ → S → Type 0) → S → ℕ → Option (List ℕ) → Option T → S → Option (List ℕ) → Type 0
Steps Taken Stops Stands old number mid stop new left =
    IfSome mid (λ rest. (start : _) (bytes : List ℕ) (count : ℕ) → Taken start bytes count old number rest
    → LeadsOn (Taken start bytes) (Stops start bytes) (Stands start bytes) count number stop new left)

-- it was taken up to this line, and what was saved was kept, and its lines printed
pub record HasRun {K S : Type 0} (prints : S → List ℕ) (Taken : List ℕ → ℕ → S → ℕ → List ℕ → Type 0)
    (Stands : List ℕ → ℕ → S → Type 0) (Kept : K → K → List S → Type 0) (first : Option K)
    (known old : Option (List ℕ)) (state : S) (number : ℕ) (store : Option K) (left now : Option (List ℕ)) : Type 0
  where
    pub states : List S
    pub has : Has Taken Stands known state number left states
    pub kept : HasKept Kept first store states
    pub printed : Appends old now (saves_text prints (is_some first) states)

module _ {K S T : Type 0} (prints : S → List ℕ) (Taken : S → List ℕ → ℕ → S → ℕ → List ℕ → Type 0)
    (Stops : S → List ℕ → T → S → Type 0) (Stands : S → List ℕ → ℕ → S → Type 0)
    (begins : (start : S) (bytes : List ℕ) → Taken start bytes 0 start 1 bytes)
    (stands_so : (start : S) (bytes : List ℕ) (count : ℕ) (state : S) (number : ℕ) (left : List ℕ)
    → Taken start bytes count state number left → Stands start bytes count state)
    (Kept : K → K → List S → Type 0) (start : S) (first : Option K) (known old : Option (List ℕ)) where
  -- up to this line
  abbrev pub Run : S → ℕ → Option K → Option (List ℕ) → Option (List ℕ) → Type 0
  Run = HasRun prints (Taken start) (Stands start) Kept first known old

  -- the lines of saves
  abbrev all_lines : List S → List ℕ
  all_lines = saves_text prints (is_some first)

  -- what was saved, and what is printed of it in the end
  abbrev pub Prints : Option K → Option (List ℕ) → S → Result T ProgramFault → Type 0
  Prints store now final result =
      PrintsSaves (AreSaved (Stands start) Kept known first store) all_lines old now final result

  has_begun : (all : Option (List ℕ)) → Has (Taken start) (Stands start) all start 1 all []
  has_begun None = tt
  has_begun (Some bytes) = (0, begins start bytes, omega arith)

  -- nothing was taken yet
  pub run_begins : ((it : K) → Kept it it []) → (state : S) → state ≡ start → Run state 1 first known old
  run_begins none state is = subst (λ s. Run s 1 first known old) (sym is) (record {
    states = [];
    has = has_begun known;
    kept = kept_none Kept none first;
    printed = subst (Appends old old) (sym (saves_none prints (is_some first))) (appends_nothing old);
  })

  has_saved : (all : Option (List ℕ)) (state : S) (number : ℕ) (left : Option (List ℕ)) (states : List S)
      → Has (Taken start) (Stands start) all state number left states
      → Has (Taken start) (Stands start) all state number left (states ++ state ∷ [])
  has_saved None state number left states has = tt
  has_saved (Some bytes) state number None states has = absurd has
  has_saved (Some bytes) state number (Some left) states has = (
    has.0,
    has.1,
    one_more (Stands start bytes) 0 has.0 has.0 states state has.2 (le_refl has.0)
        (stands_so start bytes has.0 state number left has.1),
  )

  -- the line of one more save
  abbrev Line : Option K → S → List ℕ
  Line store state = save_text prints (is_some store) state

  -- a save, if it is done
  pub run_saves : (state : S) (number : ℕ) (store later : Option K) (left mid new : Option (List ℕ))
      → Run state number store left mid → KeepsMore Kept store later (state ∷ [])
      → Appends mid new (Line store state) → Run state number later left new
  run_saves state number store later left mid new run keeps adds = record {
    states = run.states ++ state ∷ [];
    has = has_saved known state number left run.states run.has;
    kept = keeps first run.states run.kept;
    printed = subst (Appends old new) (sym (saves_more prints (is_some first) run.states state))
        (Appends-trans old mid new (all_lines run.states) (save_text prints (is_some first) state) run.printed
        (subst (λ kept. Appends mid new (save_text prints kept state))
        (kept_same Kept first store run.states run.kept) adds));
  }

  -- a save if it is due
  pub run_due : {U : Type 0} (done : U) (due : Bool) (state after : S) (number : ℕ) (store later : Option K)
      (left mid new : Option (List ℕ)) → Run state number store left mid → after ≡ state
      → (IsTrue due → SavesOne (KeepsMore Kept store later) mid new state (Line store state) (Ok done))
      → (IsTrue (not due) → (later ≡ store) × (new ≡ mid)) → Run after number later left new
  run_due done true state after number store later left mid new run is saves same =
      let one = saves refl in
      subst (λ s. Run s number later left new) (sym is)
      (run_saves state number store later left mid new run one.0 one.1)
  run_due done false state after number store later left mid new run is saves same =
      let none = same refl in
      subst (λ s. Run s number later left new) (sym is)
      (subst (Run state number later left) (sym none.1) (subst (λ it. Run state number it left mid) (sym none.0) run))

  has_on : (all : Option (List ℕ)) (before after : S) (number : ℕ) (stops : Option T) (left rest : Option (List ℕ))
      (states : List S) → Has (Taken start) (Stands start) all before number left states → stops ≡ None
      → Steps Taken Stops Stands before number left stops after rest
      → Has (Taken start) (Stands start) all after (number + 1) rest states
  has_on None before after number stops left rest states has is step = tt
  has_on (Some bytes) before after number stops None rest states has is step = absurd has
  has_on (Some bytes) before after number (Some stop) (Some left) rest states has is step = cc
  has_on (Some bytes) before after number None (Some left) rest states has is step =
      let on = step start bytes has.0 has.1 in
      subst (λ (it : Option (List ℕ)). Has (Taken start) (Stands start) (Some bytes) after (number + 1) it states)
      (sym on.1)
      (on.2, on.4, further (Stands start bytes) 0 has.0 on.2 states has.2 on.3)

  -- one more line was taken
  pub run_on : (before after : S) (number : ℕ) (stops : Option T) (store : Option K) (left rest now : Option (List ℕ))
      → Run before number store left now → stops ≡ None
      → Steps Taken Stops Stands before number left stops after rest
      → Run after (number + 1) store rest now
  run_on before after number stops store left rest now run is step = record {
    states = run.states;
    has = has_on known before after number stops left rest run.states run.has is step;
    kept = run.kept;
    printed = run.printed;
  }

  stand_in_order : (all : Option (List ℕ)) (state : S) (number : ℕ) (left : Option (List ℕ)) (states : List S)
      → Has (Taken start) (Stands start) all state number left states
      → IfSome all (λ bytes. StandInOrder (Stands start bytes) 0 states)
  stand_in_order None state number left states has = tt
  stand_in_order (Some bytes) state number None states has = absurd has
  stand_in_order (Some bytes) state number (Some left) states has = in_order (Stands start bytes) 0 has.0 states has.2

  -- taking fails, and no write did
  pub run_fails : (state final : S) (number : ℕ) (store : Option K) (left now : Option (List ℕ)) (why : ProgramFault)
      → Run state number store left now → Prints store now final (Err why)
  run_fails state final number store left now why run = (
    run.states,
    record { stand = stand_in_order known state number left run.states run.has; kept = run.kept },
    prints_all {T = T} (all_lines run.states) old now (Err why) run.printed,
    tt,
  )

  -- this state may be saved next
  pub record CanSave (state : S) (store : Option K) (now : Option (List ℕ)) : Type 0 where
    pub states : List S
    pub stand : IfSome known (λ bytes. (count : ℕ) × StandTo (Stands start bytes) 0 count states
        × ((more : ℕ) × (count ≤ more) × Stands start bytes more state))
    pub kept : HasKept Kept first store states
    pub printed : Appends old now (all_lines states)

  may_stand : (all : Option (List ℕ)) (state : S) (number : ℕ) (left : Option (List ℕ)) (states : List S)
      → Has (Taken start) (Stands start) all state number left states
      → IfSome all (λ bytes. (count : ℕ) × StandTo (Stands start bytes) 0 count states
      × ((more : ℕ) × (count ≤ more) × Stands start bytes more state))
  may_stand None state number left states has = tt
  may_stand (Some bytes) state number None states has = absurd has
  may_stand (Some bytes) state number (Some left) states has =
      (has.0, has.2, (has.0, le_refl has.0, stands_so start bytes has.0 state number left has.1))

  pub can_save : (state : S) (number : ℕ) (store : Option K) (left now : Option (List ℕ))
      → Run state number store left now → CanSave state store now
  can_save state number store left now run = record {
    states = run.states;
    stand = may_stand known state number left run.states run.has;
    kept = run.kept;
    printed = run.printed;
  }

  stand_at_stop : (all : Option (List ℕ)) (before after : S) (number : ℕ) (stop : T) (left rest : Option (List ℕ))
      (states : List S) → Has (Taken start) (Stands start) all before number left states
      → Steps Taken Stops Stands before number left (Some stop) after rest
      → IfSome all (λ bytes. (count : ℕ) × StandTo (Stands start bytes) 0 count states
      × ((more : ℕ) × (count ≤ more) × Stands start bytes more after))
  stand_at_stop None before after number stop left rest states has step = tt
  stand_at_stop (Some bytes) before after number stop None rest states has step = absurd has
  stand_at_stop (Some bytes) before after number stop (Some left) rest states has step =
      (has.0, has.2, (step start bytes has.0 has.1).1)

  -- the state at which taking stops may be saved
  pub can_save_last : (before after : S) (number : ℕ) (stop : T) (store : Option K) (left rest now : Option (List ℕ))
      → Run before number store left now → Steps Taken Stops Stands before number left (Some stop) after rest
      → CanSave after store now
  can_save_last before after number stop store left rest now run step = record {
    states = run.states;
    stand = stand_at_stop known before after number stop left rest run.states run.has step;
    kept = run.kept;
    printed = run.printed;
  }

  add_last : (all : Option (List ℕ)) (state : S) (states : List S)
      → IfSome all (λ bytes. (count : ℕ) × StandTo (Stands start bytes) 0 count states
      × ((more : ℕ) × (count ≤ more) × Stands start bytes more state))
      → IfSome all (λ bytes. StandInOrder (Stands start bytes) 0 (states ++ state ∷ []))
  add_last None state states stand = tt
  add_last (Some bytes) state states stand =
      in_order (Stands start bytes) 0 stand.2.0 (states ++ state ∷ [])
      (one_more (Stands start bytes) 0 stand.0 stand.2.0 states state stand.1 stand.2.1 stand.2.2)

  leave_last : (all : Option (List ℕ)) (state : S) (states : List S)
      → IfSome all (λ bytes. (count : ℕ) × StandTo (Stands start bytes) 0 count states
      × ((more : ℕ) × (count ≤ more) × Stands start bytes more state))
      → IfSome all (λ bytes. StandInOrder (Stands start bytes) 0 states)
  leave_last None state states stand = tt
  leave_last (Some bytes) state states stand = in_order (Stands start bytes) 0 stand.0 states stand.1

  -- the line of the save, by the first store
  line_of_first : (state : S) (store : Option K) (now : Option (List ℕ)) → (can : CanSave state store now)
      → Line store state ≡ save_text prints (is_some first) state
  line_of_first state store now can =
      ap (λ kept. save_text prints kept state) (kept_same Kept first store can.states can.kept)

  -- it was saved, and taking ends so
  pub save_ends : (state final : S) (store later : Option K) (now new : Option (List ℕ)) (result : Result T
      ProgramFault)
      → CanSave state store now → final ≡ state → KeepsMore Kept store later (state ∷ [])
      → Appends now new (Line store state) → Prints later new final result
  save_ends state final store later now new result can same keeps adds = (
    can.states ++ state ∷ [],
    record { stand = add_last known state can.states can.stand; kept = keeps first can.states can.kept },
    prints_all (all_lines (can.states ++ state ∷ [])) old new result
        (subst (Appends old new) (sym (saves_more prints (is_some first) can.states state))
        (Appends-trans old now new (all_lines can.states) (save_text prints (is_some first) state) can.printed
        (subst (Appends now new) (line_of_first state store now can) adds))),
    is_last result,
  )
    where
      is_last : (it : Result T ProgramFault) → IfOk it (λ stop. EndWith (can.states ++ state ∷ []) final)
      is_last (Ok stop) = (can.states, ap (λ s. can.states ++ s ∷ []) (sym same))
      is_last (Err why) = tt

  save_no_more : (state final : S) (store later : Option K) (now new : Option (List ℕ)) (why : ProgramFault)
      → CanSave state store now → KeepsMore Kept store later [] → Appends now new [] → Prints later new final (Err why)
  save_no_more state final store later now new why can keeps adds = (
    can.states,
    record {
      stand = leave_last known state can.states can.stand;
      kept = kept_no_more Kept first store later can.states can.kept keeps;
    },
    prints_all {T = T} (all_lines can.states) old new (Err why)
        (prints_same (all_lines can.states) old now new can.printed adds),
    tt,
  )

  -- the save fails
  pub save_fails : (U : Type 0) (state final : S) (store later : Option K) (now new : Option (List ℕ))
      (why : ProgramFault) → CanSave state store now
      → SavesOne {T = U} (KeepsMore Kept store later) now new state (Line store state) (Err why)
      → Prints later new final (Err why)
  save_fails U state final store later now new why can saves = go (is_write_fault why) refl saves
    where
      go : (failed : Bool) → is_write_fault why ≡ failed
          → SaveFails failed (KeepsMore Kept store later) now new state (Line store state)
          → Prints later new final (Err why)
      go true is one = (
        can.states ++ state ∷ [],
        record { stand = add_last known state can.states can.stand; kept = one.0 first can.states can.kept },
        subst (λ f. PrintsBy f old new (all_lines (can.states ++ state ∷ []))) (sym is)
            (subst (PrintsPart old new) (sym (saves_more prints (is_some first) can.states state))
            (part_more (all_lines can.states) (save_text prints (is_some first) state) old now new can.printed
            (subst (PrintsPart now new) (line_of_first state store now can) one.1))),
        tt,
      )
      go false is one = save_no_more state final store later now new why can one.0 one.1

  -- a save that is due fails
  pub due_fails : (U : Type 0) (due : Bool) (state final : S) (store later : Option K) (now new : Option (List ℕ))
      (why : ProgramFault) → CanSave state store now
      → (IsTrue due → SavesOne {T = U} (KeepsMore Kept store later) now new state (Line store state) (Err why))
      → (IsTrue (not due) → ⊥) → Prints later new final (Err why)
  due_fails U true state final store later now new why can saves never =
      save_fails U state final store later now new why can (saves refl)
  due_fails U false state final store later now new why can saves never = absurd (never refl)

  has_stopped : (all : Option (List ℕ)) (before after : S) (number : ℕ) (stop : T) (left rest : Option (List ℕ))
      (states : List S) → Has (Taken start) (Stands start) all before number left states
      → Steps Taken Stops Stands before number left (Some stop) after rest
      → IfSome all (λ bytes. Stops start bytes stop after)
  has_stopped None before after number stop left rest states has step = tt
  has_stopped (Some bytes) before after number stop None rest states has step = absurd has
  has_stopped (Some bytes) before after number stop (Some left) rest states has step = (step start bytes has.0 has.1).0

  -- taking stopped for this reason
  pub run_stops : (before after : S) (number : ℕ) (stop : T) (store : Option K) (left rest now : Option (List ℕ))
      → Run before number store left now → Steps Taken Stops Stands before number left (Some stop) after rest
      → IfSome known (λ bytes. Stops start bytes stop after)
  run_stops before after number stop store left rest now run step =
      has_stopped known before after number stop left rest run.states run.has step

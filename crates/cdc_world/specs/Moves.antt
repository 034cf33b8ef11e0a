-- What a world keeps after a step, and after a play.
use Rattle.std.specs.Prelude.{◌≡◌, ◌≤◌, ℕ, IsTrue, IsOk, is_some, Option, Some, None, Result, Ok, Err, List, [], ◌∷◌, length, take, drop}
use Rattle.std.specs.List.{list_any}
use Rattle.cdc_progress.specs.Stores.{IsCounted, Risks, no_risks}
use Rattle.cdc_progress.specs.StoreError.TheVariants as store
use Rattle.cdc_types.specs.declared.steps.Step.{Step}
use Rattle.cdc_world.specs.Closed.{AllStay}
use Rattle.cdc_world.specs.declared.steps.Did.{Did}
use Rattle.cdc_world.specs.declared.steps.StepError.{StepError}
use Rattle.cdc_world.specs.declared.steps.StepError.TheVariants.{NotEnabled, Refused, Store, SessionsExhausted, OutOfMemory, StartNotAllowed}
use Rattle.cdc_world.specs.Moved.{ReportsMoved, did_of}
use Rattle.cdc_world.specs.declared.moved.Moved.{Moved}
use Rattle.cdc_world.specs.Next.{Next, NextOver, loads}
use Rattle.cdc_world.specs.Parts.{Parts}
use Rattle.cdc_world.specs.Stands.{Stands}
use Rattle.cdc_world.specs.Worlds.{WorldState}

-- the kept state changes like this: whatever world it represented, it now represents one that this relation leads to
abbrev pub GoesOn : Parts → (WorldState → WorldState → Type 0) → Parts → Type 0
GoesOn p LeadsTo p' = (w : WorldState) → Stands p w → (w' : WorldState) × (Stands p' w' × LeadsTo w w')

-- how a step may be answered, and the world after it
abbrev pub Going : Type 1
Going = WorldState → Step → Result Did StepError → WorldState → Type 0

-- by a step that is taken like this and answered so; a step that loads needs an honest store
abbrev pub MovesBy : Going → Parts → Step → Result Did StepError → Parts → Type 0
MovesBy Goes p step answer p' =
    (IsTrue (loads step) → IsTrue p.honest) → GoesOn p (λ w w'. Goes w step answer w') p'

-- by one over a store of the risks that are kept
abbrev pub Moves : Parts → Step → Result Did StepError → Parts → Type 0
Moves p = MovesBy (NextOver p.risks) p

-- by one that reports what it moved
abbrev pub MovesReported : Parts → Step → Result (Did × Option Moved) StepError → Parts → Type 0
MovesReported p step answer p' = (IsTrue (loads step) → IsTrue p.honest)
    → GoesOn p (λ w w'. NextOver p.risks w step (did_of answer) w' × ReportsMoved w step answer w') p'

-- by one, and no closed subscriber has received anything more after it, and each has its binding
abbrev pub StepFixesClosed : Parts → Step → Result Did StepError → Parts → Type 0
StepFixesClosed p step answer p' =
    (IsTrue (loads step) → IsTrue p.honest) → GoesOn p (λ w w'. Next w step answer w' × AllStay w w') p'

-- steps that are all done, each like this, lead from one state to another
abbrev pub DoesAll : Going → WorldState → List Step → WorldState → Type 0
DoesAll Goes w [] w' = w' ≡ w
DoesAll Goes w (step ∷ steps) w' =
    (did : Did) × (between : WorldState) × (Goes w step (Ok did) between × DoesAll Goes between steps w')

-- after the steps that are done none is left, or the next one is refused
abbrev pub StopsAt : Going → WorldState → List Step → Option StepError → WorldState → Type 0
StopsAt Goes w [] None w' = w' ≡ w
StopsAt Goes w [] (Some why) w' = ⊥
StopsAt Goes w (step ∷ steps) None w' = ⊥
StopsAt Goes w (step ∷ steps) (Some why) w' = Goes w step (Err why) w'

-- a play of steps, each taken like this, of which this many are done; after them no step is left, or one is refused
pub record IsPlayBy (Goes : Going) (w : WorldState) (steps : List Step) (done : ℕ) (refusal : Option StepError)
    (w' : WorldState) : Type 0 where
  pub count : done ≤ length steps
  pub before : WorldState
  pub does : DoesAll Goes w (take done steps) before
  pub stops : StopsAt Goes before (drop done steps) refusal w'

-- a play of steps, each taken once, over a store of these risks
abbrev pub IsPlay : Risks → WorldState → List Step → ℕ → Option StepError → WorldState → Type 0
IsPlay risks = IsPlayBy (NextOver risks)

-- the kept state changes by a play; if one of its steps loads, this needs an honest store
abbrev pub PlaysBy : Going → Parts → List Step → ℕ → Option StepError → Parts → Type 0
PlaysBy Goes p steps done refusal p' =
    (IsTrue (list_any loads steps) → IsTrue p.honest) → GoesOn p (λ w w'. IsPlayBy Goes w steps done refusal w') p'

-- by one that takes each step once
abbrev pub Plays : Parts → List Step → ℕ → Option StepError → Parts → Type 0
Plays p = PlaysBy (NextOver p.risks) p

-- the same, and no closed subscriber has received anything more after it, and each has its binding
abbrev pub PlayFixesClosedBy : Going → Parts → List Step → ℕ → Option StepError → Parts → Type 0
PlayFixesClosedBy Goes p steps done refusal p' =
    (IsTrue (list_any loads steps) → IsTrue p.honest)
    → GoesOn p (λ w w'. IsPlayBy Goes w steps done refusal w' × AllStay w w') p'

-- by one that takes each step once
abbrev pub PlayFixesClosed : Parts → List Step → ℕ → Option StepError → Parts → Type 0
PlayFixesClosed p = PlayFixesClosedBy (NextOver p.risks) p

-- a step that is answered so leaves the store's count of failures as it is, unless it is refused for a read or a write
-- that failed, which counts
abbrev pub IsStoreCounted : ℕ → ℕ → Result Did StepError → Type 0
IsStoreCounted before after (Ok did) = after ≡ before
IsStoreCounted before after (Err (Store store.ReadFault)) = IsCounted before after
IsStoreCounted before after (Err (Store store.WriteFault)) = IsCounted before after
IsStoreCounted before after (Err (Store store.BadRecord)) = after ≡ before
IsStoreCounted before after (Err (Store store.OutOfMemory)) = ⊥
IsStoreCounted before after (Err NotEnabled) = after ≡ before
IsStoreCounted before after (Err (Refused why)) = after ≡ before
IsStoreCounted before after (Err SessionsExhausted) = after ≡ before
IsStoreCounted before after (Err OutOfMemory) = after ≡ before
IsStoreCounted before after (Err StartNotAllowed) = after ≡ before

-- a play with this outcome, each of its steps taken once, leaves the count as it is, except for a step that is
-- refused
abbrev pub IsPlayCounted : ℕ → ℕ → Option StepError → Type 0
IsPlayCounted before after None = after ≡ before
IsPlayCounted before after (Some why) = IsStoreCounted before after (Err why)

-- a session that runs saves its progress, if the store can't fail
abbrev pub SavesSafely : Parts → Result Did StepError → Type 0
SavesSafely p answer = IsTrue (is_some p.actors.session) → p.risks ≡ no_risks → IsOk answer

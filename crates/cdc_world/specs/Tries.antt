-- Steps that are tried again.
use Rattle.std.specs.Prelude.{◌≡◌, ◌≤◌, ℕ, zero, suc, Bool, true, false, IsTrue, Option, Result, Ok, Err}
use Rattle.cdc_types.specs.declared.steps.Step.{Step}
use Rattle.cdc_world.specs.declared.steps.Did.{Did}
use Rattle.cdc_world.specs.declared.steps.StepError.{StepError}
use Rattle.cdc_world.specs.declared.steps.StepError.TheVariants.{NotEnabled, Refused, Store, SessionsExhausted, OutOfMemory, StartNotAllowed}
use Rattle.cdc_progress.specs.Stores.{Risks}
use Rattle.cdc_world.specs.Moves.{IsPlayCounted, IsStoreCounted, MovesBy}
use Rattle.cdc_world.specs.Next.{NextOver}
use Rattle.cdc_world.specs.Parts.{Parts}
use Rattle.cdc_world.specs.Worlds.{WorldState}

-- a try that is answered so may be made again: the store failed, or memory ran out
abbrev pub is_passing : Result Did StepError → Bool
is_passing (Ok did) = false
is_passing (Err NotEnabled) = false
is_passing (Err (Refused why)) = false
is_passing (Err (Store why)) = true
is_passing (Err SessionsExhausted) = false
is_passing (Err OutOfMemory) = true
is_passing (Err StartNotAllowed) = false

-- this many tries of a step over a store of these risks, one after another, each of them answered so
abbrev pub FailsTimes : Risks → ℕ → WorldState → Step → WorldState → Type 0
FailsTimes risks zero w step w' = w' ≡ w
FailsTimes risks (suc failed) w step w' =
    (answer : Result Did StepError) × (between : WorldState)
    × (FailsTimes risks failed w step between × (IsTrue (is_passing answer) × NextOver risks between step answer w'))

-- a step that is tried again after such an answer, at most this many times more: the tries that failed, and the last
-- one, whose answer is the step's; that one too may have failed only if as many failed before it as may be tried
-- again
pub record NextPast (risks : Risks) (tries : ℕ) (w : WorldState) (step : Step) (answer : Result Did StepError)
    (w' : WorldState) : Type 0 where
  pub failed : ℕ
  pub within : failed ≤ tries
  pub before : WorldState
  pub fails : FailsTimes risks failed w step before
  pub last : NextOver risks before step answer w'
  pub spent : IsTrue (is_passing answer) → failed ≡ tries

-- each try that failed may have counted in the store; if no step is tried again, none did
abbrev pub HaveTriesCounted : ℕ → ℕ → ℕ → Type 0
HaveTriesCounted tries before between = (before ≤ between) × (tries ≡ 0 → between ≡ before)

-- so may those of a step that is answered so, and then its last try
abbrev pub IsStoreCountedPast : ℕ → ℕ → ℕ → Result Did StepError → Type 0
IsStoreCountedPast tries before after answer =
    (between : ℕ) × (HaveTriesCounted tries before between × IsStoreCounted between after answer)

-- and those of a play with this outcome, and then the last try of a step that is refused
abbrev pub IsPlayCountedPast : ℕ → ℕ → ℕ → Option StepError → Type 0
IsPlayCountedPast tries before after refusal =
    (between : ℕ) × (HaveTriesCounted tries before between × IsPlayCounted between after refusal)

-- the kept state changes by a step that is tried so; a step that loads needs an honest store
abbrev pub MovesPast : ℕ → Parts → Step → Result Did StepError → Parts → Type 0
MovesPast tries p = MovesBy (NextPast p.risks tries) p

-- What holds of the definitions themselves.
use Rattle.std.specs.Prelude.{◌≡◌, ℕ, List, Option, Some, Result}
use Rattle.cdc_laws.specs.Faithful.{IsFaithful}
use Rattle.cdc_match.specs.Arguments.{Arguments}
use Rattle.cdc_progress.specs.Records.{Saved}
use Rattle.cdc_progress.specs.Stores.{Risks}
use Rattle.cdc_types.specs.declared.steps.Step.{Step}
use Rattle.cdc_world.specs.Closed.{AllStay}
use Rattle.cdc_world.specs.declared.steps.Did.{Did}
use Rattle.cdc_world.specs.declared.steps.StepError.{StepError}
use Rattle.cdc_world.specs.Moves.{IsPlay, IsPlayBy}
use Rattle.cdc_world.specs.Next.{IsAtStart, IsReached, Next}
use Rattle.cdc_world.specs.Tries.{NextPast}
use Rattle.cdc_world.specs.Worlds.{Subscription, WorldState, new_world, numbered, start_of}

-- every subscriber is faithful in every world that steps lead to, including crashes, packets and confirms that come
-- late, again or never, deliveries that are duplicated or broken off, and closes
abbrev pub SubscribersAreFaithful : Type 0
SubscribersAreFaithful = (w : WorldState) → IsReached w
    → (i : ℕ) (s : Subscription) → numbered w.subscriptions i ≡ Some s
    → IsFaithful w.history (start_of w) s.binding s.reception

-- no step changes what a closed subscriber has received, or any subscriber's binding
abbrev pub ClosedSubscribersStay : Type 0
ClosedSubscribersStay = (w : WorldState) (step : Step) (answer : Result Did StepError)
    → (w' : WorldState) → Next w step answer w' → AllStay w w'

-- steps lead to a world in which nothing has happened, over a store that holds nothing, or a timestamp that is its
-- start
abbrev pub NewWorldsAreReached : Type 0
NewWorldsAreReached = (bindings : List Arguments) (window : ℕ) (held : Option Saved)
    → IsAtStart held → IsReached (new_world bindings window held)

-- and from a world that they lead to they go on to the next one by a step, whatever its answer
abbrev pub StepsGoOn : Type 0
StepsGoOn = (w : WorldState) (step : Step) (answer : Result Did StepError) (w' : WorldState)
    → IsReached w → Next w step answer w' → IsReached w'

-- and by a play
abbrev pub PlaysGoOn : Type 0
PlaysGoOn = (risks : Risks) (w : WorldState) (steps : List Step) (done : ℕ) (refusal : Option StepError)
    → (w' : WorldState) → IsReached w → IsPlay risks w steps done refusal w' → IsReached w'

-- and by a play that tries again what was refused because the store failed or memory ran out
abbrev pub PlaysPastGoOn : Type 0
PlaysPastGoOn = (risks : Risks) (tries : ℕ) (w : WorldState) (steps : List Step) (done : ℕ)
    → (refusal : Option StepError) (w' : WorldState) → IsReached w
    → IsPlayBy (NextPast risks tries) w steps done refusal w' → IsReached w'

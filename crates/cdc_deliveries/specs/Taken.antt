-- What a simulation's own subscriber took up to its close: just what arrives.
use Rattle.std.specs.Prelude.{◌≡◌, ◌⊎◌, ◌↔◌, ℕ, ◌<◌, ◌≤◌, ◌==◌, false, Option, Some, None, List, [], ◌∷◌, ◌++◌, Contains, fold, if◌then◌else◌}
use Rattle.std.specs.List.{AllZip, filter_map}
use Rattle.cdc_types.specs.declared.events.Event.{Event}
use Rattle.cdc_types.specs.declared.steps.Step.TheVariants.{Close}
use Rattle.cdc_ledger.specs.Events.{events}
use Rattle.cdc_message.specs.declared.items.Delivery.{Delivery}
use Rattle.cdc_match.specs.Arguments.{Arguments}
use Rattle.cdc_match.specs.Queue.{feed}
use Rattle.cdc_script.specs.declared.scripts.ClientBatch.{ClientBatch}
use Rattle.cdc_script.specs.declared.step_files.Act.{Act}
use Rattle.cdc_script.specs.declared.step_files.Act.TheVariants as act
use Rattle.cdc_subscriber.specs.Reception.{Reception, nothing}
use Rattle.cdc_world.specs.declared.steps.StepError.{StepError}
use Rattle.cdc_world.specs.Moved.{item_name}
use Rattle.cdc_world.specs.Worlds.{Subscription, numbered}
use Rattle.cdc_commands.specs.Simulations.{Plan, PlaysActs, Stage, at_start}
use Rattle.cdc_deliveries.specs.declared.arrivals.Arrival.{Arrival}
use Rattle.cdc_deliveries.specs.declared.feeds.Placed.{Placed}
use Rattle.cdc_deliveries.specs.declared.steps.DeliveryStep.{DeliveryStep}
use Rattle.cdc_deliveries.specs.declared.steps.DeliveryStep.TheVariants as delivery
use Rattle.cdc_deliveries.specs.Arrivals.{arrivals, arriving}
use Rattle.cdc_deliveries.specs.Expected.{item_of, next_placed}
use Rattle.cdc_deliveries.specs.Feeds.{placed}
use Rattle.cdc_deliveries.specs.Recorded.{delivery_steps}

-- an arrival is a delivery that was taken: it has its position, and the name of its item, under which a feed has that
-- very item, so there is a line for it
pub record IsArrivalOf (fed : List Event) (arrival : Arrival) (taken : Delivery) : Type 0 where
  pub position : arrival.position ≡ taken.position
  pub item : arrival.item ≡ item_name taken.item
  pub place : Placed
  pub found : placed fed arrival.item ≡ Some place
  pub brings : item_of place.event ≡ taken.item

-- the first of these acts closes the subscriber of this number
abbrev pub ClosesFirst : ℕ → List Act → Type 0
ClosesFirst i [] = ⊥
ClosesFirst i (a ∷ acts) = a ≡ act.Step (Close i)

-- the last stage of a play at which the subscriber of this number is open: no act is done after it, or the next one
-- closes the subscriber
pub record LastOpen (i : ℕ) (batches : List ClientBatch) (before : Stage) (acts : List Act)
    (refusal : Option StepError) (end : Stage) : Type 0 where
  pub stage : Stage
  pub done : List Act
  pub left : List Act
  pub all : acts ≡ done ++ left
  pub leads : PlaysActs batches before done None stage
  pub goes_on : PlaysActs batches stage left refusal end
  pub ends : (end.done ≡ stage.done) ⊎ ClosesFirst i left
  pub subscription : Subscription
  pub here : numbered stage.world.subscriptions i ≡ Some subscription
  pub is_open : subscription.reception.closed ≡ false

-- the position that a step sends to the subscriber of this number, if it sends one
abbrev pub sent_to : ℕ → DeliveryStep → Option ℕ
sent_to i (delivery.Sent j position) = if j == i then Some position else None
sent_to i (delivery.Lost j) = None
sent_to i (delivery.Taken j position item answer) = None

-- the positions that are sent to the subscriber of this number, in order
abbrev pub positions_sent : ℕ → List DeliveryStep → List ℕ
positions_sent i steps = filter_map (sent_to i) steps

-- the positions that were sent are those from 1 to the greatest one, so one that isn't beyond it was sent before
abbrev pub AreAllUpTo : ℕ → List ℕ → Type 0
AreAllUpTo greatest sent = (position : ℕ) → Contains sent position ↔ ((0 < position) × (position ≤ greatest))

-- what a subscriber has received of these arrivals from a feed
abbrev pub received : List Event → List Arrival → Reception
received fed arrived = fold (λ reception arrival. next_placed reception (placed fed arrival.item)) nothing arrived

-- what arrives at the subscriber of this number and binding in a play of a plan, which comes to this stage: one for
-- one and in order, the deliveries that the world's subscriber took while it was open; what it has received in the end
-- is what is received of the arrivals; and its queue has sent the positions up to the greatest one
pub record ArrivesAsTaken (i : ℕ) (binding : Arguments) (plan : Plan) (refusal : Option StepError) (end : Stage)
    : Type 0 where
  pub last : LastOpen i plan.script.batches (at_start plan.script.bindings plan.window) plan.acts refusal end
  pub taken : AllZip (IsArrivalOf (feed (events end.world.history) binding)) (arrivals i (delivery_steps end.seen))
      last.subscription.taken
  pub subscription : Subscription
  pub here : numbered end.world.subscriptions i ≡ Some subscription
  pub binds : subscription.binding ≡ binding
  pub received_so : record subscription.reception { closed = false }
      ≡ received (feed (events end.world.history) binding) (arrivals i (delivery_steps end.seen))
  pub sent : AreAllUpTo (arriving i (delivery_steps end.seen)).furthest (positions_sent i (delivery_steps end.seen))

-- What arrives at a subscriber: each delivery that it takes up to its close.
use Rattle.std.specs.Prelude.{ℕ, ◌==◌, max, nat_le, Bool, true, false, List, [], ◌∷◌, ◌++◌, fold, if◌then◌else◌}
use Rattle.cdc_subscriber.specs.declared.subscriber.Taking.{Taking}
use Rattle.cdc_subscriber.specs.declared.subscriber.Taking.TheVariants.{Applied, Repeat, Ended, AfterClose}
use Rattle.cdc_world.specs.declared.moved.ItemName.{ItemName}
use Rattle.cdc_deliveries.specs.declared.arrivals.Arrival.{Arrival}
use Rattle.cdc_deliveries.specs.declared.steps.DeliveryStep.{DeliveryStep}
use Rattle.cdc_deliveries.specs.declared.steps.DeliveryStep.TheVariants as delivery

-- for each delivery in flight whether its queue had sent the position before, the greatest position ever sent, and what
-- has arrived
pub record Arriving : Type 0 where
  pub flight : List Bool
  pub furthest : ℕ
  pub arrived : List Arrival

abbrev pub nothing_sent : Arriving
nothing_sent = record { flight = []; furthest = 0; arrived = [] }

-- a position is sent: again, if it isn't beyond the greatest one
abbrev pub with_sent : Arriving → ℕ → Arriving
with_sent before position = record before {
  flight = before.flight ++ nat_le position before.furthest ∷ [];
  furthest = max before.furthest position;
}

-- all that is in flight is lost
abbrev pub with_lost : Arriving → Arriving
with_lost before = record before { flight = [] }

-- a closed subscriber answers so
abbrev pub is_closed : Taking → Bool
is_closed AfterClose = true
is_closed Applied = false
is_closed Repeat = false
is_closed Ended = false

-- the first delivery in flight is taken; it arrives, unless the subscriber is closed
abbrev pub with_first : Arriving → Arrival → List Bool → Bool → Arriving
with_first before arrival flight closed = record before {
  flight = flight;
  arrived = if closed then before.arrived else before.arrived ++ arrival ∷ [];
}

abbrev pub with_taken : Arriving → List Bool → ℕ → ItemName → Taking → Arriving
with_taken before [] position item answer = before
with_taken before (redelivered ∷ flight) position item answer =
    with_first before (record { position = position; redelivered = redelivered; item = item }) flight (is_closed answer)

-- after a step of this subscriber's deliveries
abbrev pub with_own : Arriving → DeliveryStep → Arriving
with_own before (delivery.Sent i position) = with_sent before position
with_own before (delivery.Lost i) = with_lost before
with_own before (delivery.Taken i position item answer) = with_taken before before.flight position item answer

-- whose deliveries a step is about
abbrev pub subscriber_of : DeliveryStep → ℕ
subscriber_of (delivery.Sent i position) = i
subscriber_of (delivery.Lost i) = i
subscriber_of (delivery.Taken i position item answer) = i

-- after a step of the deliveries of some subscriber
abbrev pub with_step : ℕ → Arriving → DeliveryStep → Arriving
with_step i before step = if subscriber_of step == i then with_own before step else before

-- what has arrived at the subscriber of this number after these steps, in order
abbrev pub arriving : ℕ → List DeliveryStep → Arriving
arriving i steps = fold (with_step i) nothing_sent steps

abbrev pub arrivals : ℕ → List DeliveryStep → List Arrival
arrivals i steps = (arriving i steps).arrived

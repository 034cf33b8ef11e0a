-- How many deliveries of events a subscriber took before its close, and how many of them it applied.
use Rattle.std.specs.Prelude.{ℕ, ◌==◌, Bool, true, false, ◌&&◌, not, List, filter, length}
use Rattle.cdc_subscriber.specs.declared.subscriber.Taking.{Taking}
use Rattle.cdc_subscriber.specs.declared.subscriber.Taking.TheVariants.{Applied, Repeat, Ended, AfterClose}
use Rattle.cdc_world.specs.declared.moved.ItemName.TheVariants.{Event, EndMark}
use Rattle.cdc_deliveries.specs.Arrivals.{is_closed, subscriber_of}
use Rattle.cdc_deliveries.specs.declared.counts.Count.{Count}
use Rattle.cdc_deliveries.specs.declared.steps.DeliveryStep.{DeliveryStep}
use Rattle.cdc_deliveries.specs.declared.steps.DeliveryStep.TheVariants as delivery

-- the subscriber took an event while it was open
abbrev pub brings_event : DeliveryStep → Bool
brings_event (delivery.Sent i position) = false
brings_event (delivery.Lost i) = false
brings_event (delivery.Taken i position (Event t) answer) = not (is_closed answer)
brings_event (delivery.Taken i position EndMark answer) = false

abbrev pub is_applying : Taking → Bool
is_applying Applied = true
is_applying Repeat = false
is_applying Ended = false
is_applying AfterClose = false

-- the subscriber took an event and applied it
abbrev pub applies_event : DeliveryStep → Bool
applies_event (delivery.Sent i position) = false
applies_event (delivery.Lost i) = false
applies_event (delivery.Taken i position item answer) = is_applying answer

-- how many steps of this subscriber's deliveries have a property
abbrev pub count_with : (DeliveryStep → Bool) → ℕ → List DeliveryStep → ℕ
count_with has i steps = length (filter (λ step. (subscriber_of step == i) && has step) steps)

abbrev pub count : ℕ → List DeliveryStep → Count
count i steps =
    record { applied = count_with applies_event i steps; deliveries = count_with brings_event i steps }

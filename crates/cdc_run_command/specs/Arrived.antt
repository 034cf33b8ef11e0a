-- What a subscriber of a run was delivered: of each delivery its position, whether it is redelivered, and its item.
use Rattle.std.specs.Prelude.{ℕ, max, nat_le, List, [], ◌∷◌, Option, Some, None}
use Rattle.cdc_run.specs.Arrival.{Arrival as Received}
use Rattle.cdc_world.specs.declared.moved.ItemName.{ItemName}
use Rattle.cdc_world.specs.declared.moved.ItemName.TheVariants.{Event, EndMark}
use Rattle.cdc_deliveries.specs.declared.arrivals.Arrival.{Arrival}

-- an item by name
abbrev pub item_named : Option ℕ → ItemName
item_named (Some timestamp) = Event timestamp
item_named None = EndMark

-- a delivery after others whose greatest position is this
abbrev pub arrival_after : ℕ → Received → Arrival
arrival_after furthest delivery = record {
  position = delivery.position;
  redelivered = nat_le delivery.position furthest;
  item = item_named delivery.event;
}

-- deliveries one after another
abbrev pub arrived_from : ℕ → List Received → List Arrival
arrived_from furthest [] = []
arrived_from furthest (delivery ∷ rest) =
    arrival_after furthest delivery ∷ arrived_from (max furthest delivery.position) rest

abbrev pub arrived : List Received → List Arrival
arrived received = arrived_from 0 received

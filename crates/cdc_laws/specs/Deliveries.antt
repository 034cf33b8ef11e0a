-- The items of a queue as it hands them out: each with its position.
use Rattle.std.specs.Prelude.{ℕ, ◌+◌, List, [], ◌∷◌, map}
use Rattle.cdc_message.specs.declared.items.Delivery.{Delivery}
use Rattle.cdc_message.specs.declared.items.Item.{Item}

-- the items with their positions, from this position on
abbrev pub deliveries_from : ℕ → List Item → List Delivery
deliveries_from position [] = []
deliveries_from position (item ∷ items) =
    record { position = position; item = item } ∷ deliveries_from (position + 1) items

-- the items with their positions, from 1 on
abbrev pub deliveries : List Item → List Delivery
deliveries items = deliveries_from 1 items

-- the items of deliveries
abbrev pub items_in : List Delivery → List Item
items_in ds = map (λ (d : Delivery). d.item) ds

-- their positions
abbrev pub positions_in : List Delivery → List ℕ
positions_in ds = map (λ (d : Delivery). d.position) ds

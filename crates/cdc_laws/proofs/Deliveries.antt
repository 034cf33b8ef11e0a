-- Laws of the deliveries of a queue.
use Rattle.std.proofs.Common.{◌≡◌, ℕ, zero, suc, ◌+◌, ◌<◌, Some, List, [], ◌∷◌, ◌++◌, length, get_or, refl, sym, ap, ap₂, ◌∙◌, arith}
use Rattle.std.specs.Prelude.{slice_get}
use Rattle.std.proofs.lemmas.List.{length-map}
use Rattle.std.proofs.lemmas.Option.{get_or_from_slice_get, slice_get-get_or}
use Rattle.cdc_message.specs.declared.items.Delivery.{Delivery}
use Rattle.cdc_message.specs.declared.items.Item.{Item}
use Rattle.cdc_message.specs.declared.items.Item.TheVariants.{EndMark}
use Rattle.cdc_message.specs.Replays.{HasNoneTwice}
use Rattle.cdc_laws.specs.Deliveries.{deliveries, deliveries_from, items_in}

-- a delivery of this position
abbrev pub delivery_at : ℕ → Item → Delivery
delivery_at position item = record { position = position; item = item }

-- deliveries have the items that they were made of, from whatever position on
items_from : (p : ℕ) (items : List Item) → items_in (deliveries_from p items) ≡ items
items_from p [] = refl
items_from p (item ∷ items) = ap (λ more. item ∷ more) (items_from (p + 1) items)

-- so the items of all deliveries of a queue are the queue
pub items_in-deliveries : (items : List Item) → items_in (deliveries items) ≡ items
items_in-deliveries items = items_from 1 items

-- a queue gives out as many positions as it has items
pub length-deliveries : (items : List Item) → length (deliveries items) ≡ length items
length-deliveries items =
    sym (length-map (deliveries items) (λ (d : Delivery). d.item))
    ∙ ap (λ (x : List Item). length x) (items_from 1 items)

-- further items continue with the position after the last one
append_from : (p : ℕ) (items more : List Item)
    → deliveries_from p (items ++ more) ≡ deliveries_from p items ++ deliveries_from (p + length items) more
append_from p [] more = ap (λ n. deliveries_from n more) (omega arith)
append_from p (item ∷ items) more =
    ap (λ ds. delivery_at p item ∷ ds) (append_from (p + 1) items more)
    ∙ ap (λ n. delivery_at p item ∷ deliveries_from (p + 1) items ++ deliveries_from n more) (omega arith)

-- so a queue that grows keeps the positions of what it has
pub deliveries-append : (items more : List Item)
    → deliveries (items ++ more) ≡ deliveries items ++ deliveries_from (1 + length items) more
deliveries-append items more = append_from 1 items more

-- an item's position is as far on from the first one as its place is
found_from : (p k : ℕ) (items : List Item) (item : Item) → slice_get items k ≡ Some item
    → slice_get (deliveries_from p items) k ≡ Some (delivery_at (p + k) item)
found_from p k [] item found = cc
found_from p zero (x ∷ items) item found =
    let is : x ≡ item = cc in ap₂ (λ n y. Some (delivery_at n y)) (omega arith) is
found_from p (suc k) (x ∷ items) item found =
    found_from (p + 1) k items item found ∙ ap (λ n. Some (delivery_at n item)) (omega arith)

-- the delivery of an item
pub slice_get-deliveries : (items : List Item) (k : ℕ) (item : Item) → slice_get items k ≡ Some item
    → slice_get (deliveries items) k ≡ Some (delivery_at (k + 1) item)
slice_get-deliveries items k item found =
    found_from 1 k items item found ∙ ap (λ n. Some (delivery_at n item)) (omega arith)

-- the position of a delivery
pub position-deliveries : (items : List Item) (k : ℕ) (d : Delivery) → k < length items
    → (get_or (deliveries items) k d).position ≡ k + 1
position-deliveries items k d below =
    let there = slice_get-deliveries items k _ (slice_get-get_or items k EndMark below) in
    ap (λ (x : Delivery). x.position) (get_or_from_slice_get (deliveries items) k _ d there)

-- no two are the same
pub HasNoneTwice-deliveries : (items : List Item) → HasNoneTwice (deliveries items)
HasNoneTwice-deliveries items i j d before below is =
    let within : j < length items = omega (arith, length-deliveries items) in
    let early = position-deliveries items i d (omega (arith, within)) in
    let late = position-deliveries items j d within in
    let same = ap (λ (x : Delivery). x.position) is in
    absurd (omega (arith, early, late, same))

-- How far a queue has come, in the list of all items and by its own count.
use Rattle.std.proofs.Common.{◌≡◌, ℕ, suc, ◌+◌, ◌<◌, ◌≤◌, true, false, cond, List, [], ◌∷◌, ◌++◌, refl, sym, ap, ◌∙◌, Some, length, length-append, not, take, drop, get_or, take_all, drop-cons, add-zero, ⊎_elim, ◌⊎◌, arith}
use Rattle.std.specs.Prelude.{filter, slice_get}
use Rattle.std.proofs.lemmas.Bool.{cases_lt}
use Rattle.std.proofs.lemmas.List.{length-take, take-append-drop, take-append-le, take-take}
use Rattle.std.proofs.lemmas.List.Elements.{filter-append}
use Rattle.std.proofs.lemmas.List.Filters.{length-filter_both, length-filter_more}
use Rattle.std.proofs.lemmas.Option.{slice_get-get_or}
use Rattle.cdc_match.specs.Arguments.{Arguments}
use Rattle.cdc_match.specs.Queue.{queue, takes_item}
use Rattle.cdc_message.specs.declared.items.Item.{Item}
use Rattle.cdc_broker.specs.declared.queue.Mark.{Mark}
use Rattle.cdc_broker.specs.Kept.{IsMark}

-- if not all of the queue's items are before an index, the index is inside the list
pub inside_by_count : (accepted : List Item) (binding : Arguments) (place : ℕ)
    → length (queue (take place accepted) binding) < length (queue accepted binding) → place < length accepted
inside_by_count accepted binding place fewer =
    let inside_or_not : (place < length accepted) ⊎ (length accepted ≤ place) = cases_lt place (length accepted) in
    ⊎_elim
    (λ inside. inside)
    (λ past.
    let all : length (queue (take place accepted) binding) ≡ length (queue accepted binding) =
    ap (λ items. length (queue items binding)) (take_all place accepted past) in
    absurd (omega arith))
    inside_or_not

-- an item that doesn't belong to the queue isn't counted
pub skipped : (accepted : List Item) (binding : Arguments) (place : ℕ) (item : Item) → place < length accepted
    → item ≡ get_or accepted place item → takes_item binding item ≡ false
    → length (queue (take (place + 1) accepted) binding) ≡ length (queue (take place accepted) binding)
skipped accepted binding place item inside found is =
    length-filter_more (takes_item binding) accepted place item inside
    ∙ ap (λ b. length (queue (take place accepted) binding) + cond b 1 0) (ap (takes_item binding) (sym found) ∙ is)
    ∙ add-zero (length (queue (take place accepted) binding))

-- one that does is
pub counted : (accepted : List Item) (binding : Arguments) (place : ℕ) (item : Item) → place < length accepted
    → item ≡ get_or accepted place item → takes_item binding item ≡ true
    → length (queue (take (place + 1) accepted) binding) ≡ length (queue (take place accepted) binding) + 1
counted accepted binding place item inside found is =
    length-filter_more (takes_item binding) accepted place item inside
    ∙ ap (λ b. length (queue (take place accepted) binding) + cond b 1 0) (ap (takes_item binding) (sym found) ∙ is)

-- the element between two lists
seam : {X : Type 0} (xs : List X) (x : X) (ys : List X) → slice_get (xs ++ x ∷ ys) (length xs) ≡ Some x
seam [] x ys = refl
seam (y ∷ xs) x ys = seam xs x ys

-- and its item is the next one of the queue after those before the index
pub found_by_count : (accepted : List Item) (binding : Arguments) (place : ℕ) (item : Item) → place < length accepted
    → item ≡ get_or accepted place item → takes_item binding item ≡ true
    → slice_get accepted place
    ≡ slice_get (queue accepted binding) (length (queue (take place accepted) binding))
found_by_count accepted binding place item inside found is =
    let rest = drop (suc place) accepted in
    let tests = takes_item binding in
    let parts : filter tests accepted ≡ filter tests (take place accepted) ++ item ∷ filter tests rest =
    ap (filter tests) (sym (take-append-drop place accepted))
    ∙ filter-append tests (take place accepted) (drop place accepted)
    ∙ ap (λ items. filter tests (take place accepted) ++ filter tests items)
    (drop-cons accepted place item inside ∙ ap (λ x. x ∷ rest) (sym found))
    ∙ ap (λ b. filter tests (take place accepted) ++ cond b (item ∷ filter tests rest) (filter tests rest)) is in
    slice_get-get_or accepted place item inside ∙ ap Some (sym found)
    ∙ sym (ap (λ items. slice_get items (length (filter tests (take place accepted)))) parts
    ∙ seam (filter tests (take place accepted)) item (filter tests rest))

-- no more belong to a queue than there are
pub count_all_within : (accepted : List Item) (binding : Arguments)
    → length (queue accepted binding) ≤ length accepted
count_all_within accepted binding =
    let tests = takes_item binding in
    let parts = length-filter_both tests (λ x. not (tests x)) (λ x. refl) accepted in
    omega arith

-- no more items are counted than there are before the index
pub count_within : (accepted : List Item) (binding : Arguments) (place : ℕ)
    → length (queue (take place accepted) binding) ≤ place
count_within accepted binding place =
    let few = count_all_within (take place accepted) binding in
    omega (arith, length-take place accepted)

-- the end of the list is a mark of a queue that has come to its last item
pub mark_at_end : (accepted : List Item) (binding : Arguments) (mark : Mark)
    → mark.position ≡ length (queue accepted binding)
    → IsMark accepted binding (record mark { place = length accepted })
mark_at_end accepted binding mark is = record {
  within = omega arith;
  counts = is
      ∙ ap (λ (items : List Item). length (queue items binding))
      (sym (take_all (length accepted) accepted (omega arith)));
}

-- a mark remains one when the list grows
pub mark_stays : (accepted items : List Item) (binding : Arguments) (mark : Mark) → IsMark accepted binding mark
    → IsMark (accepted ++ items) binding mark
mark_stays accepted items binding mark is =
    let within = is.within in
    let same : take mark.place (accepted ++ items) ≡ take mark.place accepted =
    take-append-le mark.place accepted items within in
    record {
      within = omega (arith, length-append accepted items);
      counts = is.counts ∙ ap (λ (front : List Item). length (queue front binding)) (sym same);
    }

-- up to an earlier place there are no more items of the queue
pub fewer_before : (accepted : List Item) (binding : Arguments) (earlier place : ℕ) → earlier ≤ place
    → length (queue (take earlier accepted) binding) ≤ length (queue (take place accepted) binding)
fewer_before accepted binding earlier place before =
    let tests = takes_item binding in
    let front = take place accepted in
    let rest = filter tests (drop earlier front) in
    let parts : filter tests front ≡ filter tests (take earlier front) ++ rest =
    ap (filter tests) (sym (take-append-drop earlier front))
    ∙ filter-append tests (take earlier front) (drop earlier front) in
    let same : length (filter tests (take earlier front)) ≡ length (filter tests (take earlier accepted)) =
    ap (λ items. length (filter tests items)) (take-take earlier place accepted before) in
    omega (arith, ap length parts, same, length-append (filter tests (take earlier front)) rest)

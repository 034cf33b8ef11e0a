use Rattle.std.proofs.Common.{◌≡◌, ◌-◌, ◌<◌, ◌≤◌, Ok, Err, Result, length, subst, sym, ap, ◌∙◌, List, arith}
use Rattle.std.specs.FinSet.{insert as with_one}
use Rattle.std.specs.List.{insert}
use Rattle.std.specs.Result.{OnOk, OnErr}
use Rattle.std.specs.VecDeque.{deque_capacity}
use Rattle.std.proofs.lemmas.List.Edits.{length-insert}
use Rattle.cdc_expiry.specs.declared.triple.Triple.{Triple}
use Rattle.cdc_expiry.specs.Triples.{Index, IsKept, IsNewTimestamp}
use Rattle.cdc_expiry.proofs.InOrder.{IsKept-insert, set_of-insert}
use Rattle.cdc_expiry.proofs.Lists.{set_of, others-set_of}
use Rattle.cdc_expiry.proofs.index.DueIndex.add.Goals as goal

-- a success's postcondition holds if failure is impossible
not_refused : {T E : Type 0} (r : Result T E) (P Q : Type 0) → OnOk r P → OnErr r Q → (Q → ⊥) → P
not_refused (Ok x) P Q ok err never = ok
not_refused (Err e) P Q ok err never = absurd (never err)

-- there is room for the triple
room_left : (c : goal.After-insert-added) → length c.self.inside.triples.items < c.self.inside.capacity
room_left c =
    let same : c.self.inside.capacity - c.self.inside.triples.len ≡ c.args.self.now.room =
    ap (λ (i : Index). i.room) c.self.view_is in
    omega (arith, c.requires.room)

-- so it went in at its place
added : (c : goal.After-insert-added)
    → c.insert-added.new.self.items ≡ insert c.self.inside.triples.items c.place_of-place.result c.args.triple
added c =
    let left = room_left c in
    let backed = c.self.invariant.backed in
    not_refused c.insert-added.result _ _ c.insert-added.ensures.items c.insert-added.ensures.full
    (λ (full : deque_capacity c.self.inside.triples ≤ c.self.inside.triples.len). omega arith)

pub invariant_of-self : goal.invariant_of-self
invariant_of-self c =
    let z = c.args.triple in
    let xs = c.self.inside.triples.items in
    let IsNew = λ (i : Index). IsNewTimestamp i.triples z.timestamp in
    let others = others-set_of xs z.timestamp (subst IsNew (sym c.self.view_is) c.requires.fresh) in
    let made = c.self.inside.capacity in
    let more = deque_capacity c.insert-added.new.self in
    subst (λ (ys : List Triple). IsKept ys made more) (sym (added c))
    (IsKept-insert xs made (deque_capacity c.self.inside.triples) more c.place_of-place.result z c.self.invariant
    c.insert-added.ensures.capacity (room_left c) (omega (arith, c.place_of-place.ensures.bound))
    c.place_of-place.ensures.parts others)

pub returns-clause-room : goal.returns-clause-room
returns-clause-room c =
    let xs = c.self.inside.triples.items in
    let i = c.place_of-place.result in
    let left = room_left c in
    let within : i ≤ length xs = omega (arith, c.place_of-place.ensures.bound) in
    let same : c.self.inside.capacity - c.self.inside.triples.len ≡ c.args.self.now.room =
    ap (λ (i : Index). i.room) c.self.view_is in
    let one_more = length-insert xs i c.args.triple within in
    let long = ap length (added c) in
    omega arith

pub returns-clause-triples : goal.returns-clause-triples
returns-clause-triples c =
    ap set_of (added c)
    ∙ set_of-insert c.self.inside.triples.items c.place_of-place.result c.args.triple
    ∙ ap (λ (i : Index). with_one i.triples c.args.triple) c.self.view_is

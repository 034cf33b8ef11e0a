use Rattle.std.proofs.Common.{◌≡◌, ℕ, ◌-◌, ◌<◌, true, false, List, length, Option, Some, None, refl, sym, ap, ◌∙◌, subst, arith}
use Rattle.std.specs.List.{All, HoldsAt, remove}
use Rattle.std.specs.Option.{IsSome, OnSome}
use Rattle.std.specs.VecDeque.{deque_capacity}
use Rattle.std.proofs.lemmas.Bool.{true≢false}
use Rattle.std.proofs.lemmas.List.Edits.{length-remove}
use Rattle.std.proofs.lemmas.Option.{MatchOption-at_none, MatchOption-at_some}
use Rattle.cdc_expiry.specs.declared.triple.Triple.{Triple}
use Rattle.cdc_expiry.specs.Triples.{Index, has_numbers, HasNumbers, IsFound, IsKept, without}
use Rattle.cdc_expiry.proofs.InOrder.{IsKept-remove}
use Rattle.cdc_expiry.proofs.Lists.{set_of}
use Rattle.cdc_expiry.proofs.Taken.{found_at, not_found, without_none, without_taken}
use Rattle.cdc_expiry.proofs.index.DueIndex.remove.Goals as goal

-- the place is in the list, and the triple there has the two numbers
record Place (xs : List Triple) (e t i : ℕ) : Type 0 where
  within : i < length xs
  has : HoldsAt (λ x. has_numbers e t x ≡ true) xs i

place : (xs : List Triple) (e t i : ℕ) (answer : Option ℕ) → answer ≡ Some i → IsFound xs e t answer → Place xs e t i
place xs e t i answer is found =
    let at = MatchOption-at_some (All (λ x. has_numbers e t x ≡ false) xs)
    (λ i. (i < length xs) × HoldsAt (λ x. has_numbers e t x ≡ true) xs i) i is found in
    record { within = at.0; has = at.1 }

-- a removal that answers with a triple has taken it out
answered : (o : Option Triple) (P : Type 0) → IsSome o → OnSome o P → P
answered None P some out = absurd (true≢false (sym some))
answered (Some x) P some out = out

there : (c : goal.After-remove-taken)
    → Place c.self.inside.triples.items c.args.expires_at c.args.timestamp c.in-Some.place
there c =
    place c.self.inside.triples.items c.args.expires_at c.args.timestamp c.in-Some.place c.find.result c.in-Some.is
    c.find.ensures

taken : (c : goal.After-remove-taken)
    → c.remove-taken.new.self.items ≡ remove c.self.inside.triples.items c.in-Some.place
taken c =
    let p = there c in
    let within = p.within in
    answered c.remove-taken.result _ (c.remove-taken.ensures.variant.1 (omega arith)) c.remove-taken.ensures.items

pub invariant_of-self : goal.invariant_of-self
invariant_of-self c =
    let p = there c in
    let xs = c.self.inside.triples.items in
    let made = c.self.inside.capacity in
    let capacity = deque_capacity c.self.inside.triples in
    subst (λ (n : ℕ). IsKept c.remove-taken.new.self.items made n) (sym c.remove-taken.ensures.capacity)
    (subst (λ (ys : List Triple). IsKept ys made capacity) (sym (taken c))
    (IsKept-remove xs made capacity c.in-Some.place c.self.invariant p.within))

pub returns-in-Some-clause-room : goal.returns-in-Some-clause-room
returns-in-Some-clause-room c =
    let p = there c in
    let same : c.self.inside.capacity - c.self.inside.triples.len ≡ c.args.self.now.room =
    ap (λ (i : Index). i.room) c.self.view_is in
    let fits = c.self.invariant.fits in
    let one_less = length-remove c.self.inside.triples.items c.in-Some.place p.within in
    let long = ap length (taken c) in
    omega arith

pub returns-in-Some-clause-found : goal.returns-in-Some-clause-found
returns-in-Some-clause-found c =
    let p = there c in
    let e = c.args.expires_at in
    let t = c.args.timestamp in
    let found = found_at c.self.inside.triples.items c.in-Some.place e t p.within p.has in
    (λ _. subst (λ (i : Index). HasNumbers i.triples e t) c.self.view_is found, λ _. refl)

pub returns-in-Some-clause-triples : goal.returns-in-Some-clause-triples
returns-in-Some-clause-triples c =
    let p = there c in
    let e = c.args.expires_at in
    let t = c.args.timestamp in
    ap set_of (taken c)
    ∙ without_taken c.self.inside.triples.items c.in-Some.place e t p.within p.has c.self.invariant.apart
    ∙ ap (λ (i : Index). without i.triples e t) c.self.view_is

-- no triple has the two numbers
none_has : (c : goal.In-None)
    → All (λ x. has_numbers c.args.expires_at c.args.timestamp x ≡ false) c.self.inside.triples.items
none_has c =
    let xs = c.self.inside.triples.items in
    let e = c.args.expires_at in
    let t = c.args.timestamp in
    MatchOption-at_none (All (λ x. has_numbers e t x ≡ false) xs)
    (λ i. (i < length xs) × HoldsAt (λ x. has_numbers e t x ≡ true) xs i) c.in-None.is c.find.ensures

pub returns-in-None-clause-found : goal.returns-in-None-clause-found
returns-in-None-clause-found c =
    let e = c.args.expires_at in
    let t = c.args.timestamp in (
      λ never. absurd (true≢false (sym never)),
      λ found. absurd (not_found c.self.inside.triples.items e t (none_has c)
          (subst (λ (i : Index). HasNumbers i.triples e t) (sym c.self.view_is) found)),
    )

pub returns-in-None-clause-triples : goal.returns-in-None-clause-triples
returns-in-None-clause-triples c =
    let e = c.args.expires_at in
    let t = c.args.timestamp in
    subst (λ (i : Index). i.triples ≡ without i.triples e t) c.self.view_is
    (without_none c.self.inside.triples.items e t (none_has c))

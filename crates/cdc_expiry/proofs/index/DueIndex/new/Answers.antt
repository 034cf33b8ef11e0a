use Rattle.std.proofs.Common.{ℕ, List, [], subst, sym, arith}
use Rattle.std.specs.VecDeque.{deque_capacity}
use Rattle.cdc_expiry.specs.declared.triple.Triple.{Triple}
use Rattle.cdc_expiry.specs.Triples.{IsKept}
use Rattle.cdc_expiry.proofs.index.DueIndex.new.Goals as goal

-- an empty list, with no room made
nothing_kept : (capacity : ℕ) → IsKept [] 0 capacity
nothing_kept capacity = record {
  in_order = λ i j d low within. absurd (omega arith);
  apart = tt;
  fits = omega arith;
  backed = omega arith;
}

pub invariant_of-result : goal.invariant_of-result
invariant_of-result c =
    let capacity = deque_capacity c.new.result in
    subst (λ (xs : List Triple). IsKept xs 0 capacity) (sym c.new.ensures.items) (nothing_kept capacity)

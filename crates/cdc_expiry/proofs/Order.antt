-- The order of triples is total, and distinguishes any two triples.
use Rattle.std.proofs.Common.{◌≡◌, true, refl}
use Rattle.std.specs.Cmp.{IsTotalOrder, then_total, on_total, nat_cmp_total, Equal-is}
use Rattle.std.specs.FinSet.{IsAntisymmetric, nat_cmp-IsAntisymmetric}
use Rattle.std.specs.Ordering.{eq_by_cmp, ordering_then, nat_cmp}
use Rattle.std.specs.declared.cmp.Ordering.{Ordering}
use Rattle.std.specs.declared.cmp.Ordering.TheVariants.{Less, Equal, Greater}
use Rattle.cdc_expiry.specs.declared.triple.Triple.{Triple}
use Rattle.cdc_expiry.specs.Triples.{triple_cmp}

-- any two triples can be compared, which sets of them and the search for the least rest on
pub triple_cmp_total : IsTotalOrder triple_cmp
triple_cmp_total =
    let by_end = on_total (λ (x : Triple). x.expires_at) nat_cmp_total in
    let by_timestamp = on_total (λ (x : Triple). x.timestamp) nat_cmp_total in
    let by_slot = on_total (λ (x : Triple). x.slot) nat_cmp_total in
    then_total by_end (then_total by_timestamp by_slot)

-- a chain of two comparisons ties only if both comparisons do
ties_both : (a b : Ordering) → ordering_then a b ≡ Equal → (a ≡ Equal) × (b ≡ Equal)
ties_both Less b tied = cc
ties_both Equal b tied = (refl, tied)
ties_both Greater b tied = cc

-- triples that tie have the same expiry time, timestamp and slot, so they are equal
pub triple_cmp-IsAntisymmetric : IsAntisymmetric triple_cmp
triple_cmp-IsAntisymmetric x y tied =
    let ends = ties_both (nat_cmp x.expires_at y.expires_at) _ tied in
    let rest = ties_both (nat_cmp x.timestamp y.timestamp) _ ends.1 in
    let end : x.expires_at ≡ y.expires_at = nat_cmp-IsAntisymmetric _ _ ends.0 in
    let timestamp : x.timestamp ≡ y.timestamp = nat_cmp-IsAntisymmetric _ _ rest.0 in
    let slot : x.slot ≡ y.slot = nat_cmp-IsAntisymmetric _ _ rest.1 in
    λ i. record { expires_at = end i; timestamp = timestamp i; slot = slot i }

-- the test that a set's `contains` makes distinguishes triples
pub same_triple : (x y : Triple) → eq_by_cmp triple_cmp x y ≡ true → x ≡ y
same_triple x y tied = triple_cmp-IsAntisymmetric x y ((Equal-is (triple_cmp x y)).0 tied)

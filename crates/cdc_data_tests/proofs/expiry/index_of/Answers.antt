use Rattle.std.proofs.Common.{◌≡◌, ℕ, ◌+◌, ◌<◌, true, inl, inr, subst, ap, ◌∙◌, arith}
use Rattle.std.specs.FinSet.{contains, insert}
use Rattle.cdc_expiry.specs.declared.triple.Triple.{Triple}
use Rattle.cdc_expiry.specs.Triples.{Triples}
use Rattle.cdc_expiry.proofs.Lists.{empty_lacks, added_or_there}
use Rattle.cdc_data_tests.proofs.expiry.index_of.Goals as goal

pub loop-place-init : goal.loop-place-init
loop-place-init c = record {
  room = omega (arith, c.in_ok-reserve.ensures.room);
  later = λ x there.
      let is_empty = c.reserve.ensures.triples ∙ c.new-index.ensures in
      absurd (empty_lacks c.reserve.new.self.triples x is_empty there);
}

-- the timestamps of a set to which the triple of the next place is added
still_later : (s : Triples) (z : Triple) (place : ℕ) → z.timestamp ≡ place
    → ((x : Triple) → contains s x ≡ true → x.timestamp < place)
    → (x : Triple) → contains (insert s z) x ≡ true → x.timestamp < place + 1
still_later s z place at later x there =
    elim (added_or_there s z x there) [
      | inl added ↦ let same : x.timestamp ≡ z.timestamp = ap (λ (v : Triple). v.timestamp) added in omega arith
      | inr before ↦ let below : x.timestamp < place = later x before in omega arith
    ]

pub loop-place-preserved : goal.loop-place-preserved
loop-place-preserved c = record {
  room = omega arith;
  later = λ x there.
      let at = ap (λ (v : Triple). v.timestamp) c.triple.ensures in
      still_later c.loop-place.index.triples c.triple.result c.loop-place.place at
      c.loop-place.invariant.later x (subst (λ (s : Triples). contains s x ≡ true) c.add.ensures.triples there);
}

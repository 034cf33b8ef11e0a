-- How many messages were received over a link.
use Rattle.std.proofs.Common.{◌≡◌, ℕ, ◌+◌, ◌≤◌, ap, ◌∙◌, length, arith}
use Rattle.std.proofs.lemmas.List.{length_push}
use Rattle.cdc_links.specs.Links.{Incoming, with_received}

module _ {M N : Type 0} (old new : Incoming M N) (entry : ℕ × (M × N)) (is : new ≡ with_received old entry) where
  -- one more
  pub one_received : length new.received ≡ length old.received + 1
  one_received =
      ap (λ (i : Incoming M N). length i.received) is ∙ length_push old.received entry

  -- so no more than one and so many further ones
  pub few_received : (more : ℕ) → length new.received ≤ length old.received + 1 + more
  few_received more = omega (arith, one_received)

-- The two endpoints of a link with one sender, and what is known of them once they are put together. And when actors
-- that were to be put together are refused.
use Rattle.std.specs.Prelude.{◌⊎◌, ◌≡◌, ℕ, List, [], ◌∷◌}
use Rattle.cdc_actor_work.specs.declared.faults.RunFault.{RunFault}
use Rattle.cdc_actor_work.specs.declared.faults.RunFault.TheVariants.{NotOneSystem, OutOfMemory}
use Rattle.cdc_links.specs.Links.{IsAccount, Incoming, Outgoing}

module _ {M N : Type 0} where
  -- they are of one link, which has no other sender
  pub record IsOnlySender (into : Incoming M N) (out : Outgoing M N) : Type 0 where
    pub link : out.link ≡ into.link
    pub alone : into.senders ≡ 1

  -- with what was left in the link, what was received is what was sent
  pub record IsAccounted (into : Incoming M N) (out : Outgoing M N) : Type 0 where
    pub left : List (ℕ × (M × N))
    pub account : IsAccount into (out ∷ []) left

-- there was no memory to put actors together, or they aren't as required
abbrev pub IsRefused : Type 0 → RunFault → Type 0
IsRefused AreFit fault = (fault ≡ OutOfMemory) ⊎ ((fault ≡ NotOneSystem) × (AreFit → ⊥))

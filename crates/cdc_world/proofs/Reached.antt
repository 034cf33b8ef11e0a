-- What a subscriber may rely on in each world that steps lead to.
use Rattle.cdc_world.proofs.Words.{IsOrderly, IsReached, IsReplay, Some, Subscription, WorldState, kept_of, numbered, queue_in, start_of, taken_items, ℕ, ◌≡◌}
use Rattle.cdc_laws.specs.Faithful.{IsFaithful, kept_from}
use Rattle.cdc_laws.proofs.Faithful.{IsFaithful-queue, kept_of-queue}
use Rattle.cdc_world.proofs.OrderlyWorlds.{IsOrderly-reached, IsReplay-orderly}
use Rattle.cdc_world.proofs.ServedSubscribers.{IsReplay-served}
use Rattle.cdc_world.proofs.ServedWorlds.{AreQueued-reached}

module _ (w : WorldState) (i : ℕ) (s : Subscription) (reached : IsReached w)
    (found : numbered w.subscriptions i ≡ Some s) where
  -- ledger, connector and broker are in order
  orderly : IsOrderly w
  orderly = IsOrderly-reached w reached

  -- what it received is a replay of its queue
  receives : IsReplay s.reception.items (queue_in w s)
  receives = IsReplay-served (queue_in w s) s (AreQueued-reached w reached i s found)

  -- so each subscriber is faithful
  pub faithful-reached : IsFaithful w.history (start_of w) s.binding s.reception
  faithful-reached =
      IsFaithful-queue w.history (start_of w) s.binding s.reception orderly.sound (taken_items w)
      (IsReplay-orderly w orderly) receives

  -- and its state, as its getters return it, is determined by what it has applied
  pub kept-reached : kept_of s.reception ≡ kept_from s.reception
  kept-reached =
      kept_of-queue w.history (start_of w) s.binding s.reception orderly.sound (taken_items w)
      (IsReplay-orderly w orderly) receives

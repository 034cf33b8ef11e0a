-- How the actors of a run are wired together, before anything was sent.
use Rattle.std.specs.Prelude.{◌≡◌, ℕ, zero, suc, ◌+◌, List, [], ◌∷◌, All, length, map}
use Rattle.cdc_links.specs.Links.{Incoming, LinkId, Outgoing, fresh_endpoint}
use Rattle.cdc_run.specs.declared.wires.Wires.{Wires}

module _ {M N : Type 0} where
  -- senders' endpoints of one link that have sent nothing, numbered from this number on
  abbrev pub fresh_from : LinkId M → ℕ → ℕ → List (Outgoing M N)
  fresh_from link number zero = []
  fresh_from link number (suc n) = fresh_endpoint link number ∷ fresh_from link (number + 1) n

  -- a receiver's endpoint of a link with so many senders, which has received nothing
  pub record IsFresh (count : ℕ) (into : Incoming M N) : Type 0 where
    pub senders : into.senders ≡ count
    pub received : into.received ≡ []

  -- the sender's endpoint of a link that has no other sender
  abbrev pub only_sender : Incoming M N → Outgoing M N
  only_sender into = fresh_endpoint into.link 0

  -- links of one sender each, by place
  pub record AreOwn (outs : List (Outgoing M N)) (ins : List (Incoming M N)) : Type 0 where
    pub sender : outs ≡ map only_sender ins
    pub fresh : All (IsFresh 1) ins

-- of a run with n clients and m subscribers: to the ledger lead the connector, as number 0, and each client under its
-- own number; to the connector the ledger, as number 0, and the broker; to the broker the connector, as number 0, and
-- each subscriber under its own number; and one link leads from the ledger to each client, and from the broker to each
-- subscriber
pub record AreWired (n m : ℕ) (w : Wires) : Type 0 where
  pub to_ledger : IsFresh (n + 1) w.to_ledger
  pub polls : w.polls ≡ fresh_endpoint w.to_ledger.link 0
  pub requests : w.requests.items ≡ fresh_from w.to_ledger.link 1 n
  pub replies : AreOwn w.replies.items w.answers.items
  pub clients : length w.answers.items ≡ n
  pub to_connector : IsFresh 2 w.to_connector
  pub poll_replies : w.poll_replies ≡ fresh_endpoint w.to_connector.link 0
  pub confirms : w.confirms ≡ fresh_endpoint w.to_connector.link 1
  pub to_broker : IsFresh (m + 1) w.to_broker
  pub packets : w.packets ≡ fresh_endpoint w.to_broker.link 0
  pub acks : w.acks.items ≡ fresh_from w.to_broker.link 1 m
  pub deliveries : AreOwn w.deliveries.items w.inboxes.items
  pub subscribers : length w.inboxes.items ≡ m

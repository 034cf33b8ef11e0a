use Rattle.std.proofs.Common.{◌≡◌, ◌+◌, ◌∙◌, sym, ap, subst, length}
use Rattle.cdc_broker_actors.specs.Broker.{IsBrokerActor}
use Rattle.cdc_broker_actors.proofs.BrokerLemmas.Finishing.{IsBrokerActor-first}
use Rattle.cdc_actors.proofs.broker.BrokerEnd.new.Goals as goal

pub of-requires : goal.of-requires
of-requires c =
    let a = c.args in
    let r = c.requires in
    let count : a.links.len ≡ length a.links.items = a.links.ok.0 in
    subst IsBrokerActor (sym c.in_ok-work.ensures)
    (IsBrokerActor-first a.inbox a.confirms a.links.items a.bindings.items a.plan a.prefetch r.fresh
    (r.senders ∙ ap (λ n. n + 1) count) r.own r.silent r.fresh_links (sym a.bindings.ok.0 ∙ r.queues ∙ count) r.some
    r.few)

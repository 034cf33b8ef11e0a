use Rattle.cdc_run.proofs.Words.{Placed, YieldsList-end, YieldsList-from_vec, ap, rules, ◌∙◌}
use Rattle.cdc_run.specs.declared.actors.Actor.TheVariants as actor
use Rattle.cdc_run.proofs.Found.{Found, all_found, found_client, found_step, found_subscriber, is_there, of_parts, same_placed}
use Rattle.cdc_run.proofs.runs.actors_of.Goals as goal

pub loop-end-preserved-in-Ledger : goal.loop-end-preserved-in-Ledger
loop-end-preserved-in-Ledger g c =
    found_step c.loop-end.yielded c.in-Some.end (actor.Ledger c.in-Ledger.end) _ c.loop-end.invariant c.in-Ledger.is

pub loop-end-preserved-in-Continue-1 : goal.loop-end-preserved-in-Continue-1
loop-end-preserved-in-Continue-1 g c =
    found_client c.loop-end.yielded c.in-Some.end c.in-Client.end _ _ c.loop-end.invariant c.in-Client.is
    c.in_ok-push-in-Client.ensures.items

pub loop-end-preserved-in-Connector : goal.loop-end-preserved-in-Connector
loop-end-preserved-in-Connector g c =
    found_step c.loop-end.yielded c.in-Some.end (actor.Connector c.in-Connector.end) _ c.loop-end.invariant
    c.in-Connector.is

pub loop-end-preserved-in-Broker : goal.loop-end-preserved-in-Broker
loop-end-preserved-in-Broker g c =
    found_step c.loop-end.yielded c.in-Some.end (actor.Broker c.in-Broker.end) _ c.loop-end.invariant c.in-Broker.is

pub loop-end-preserved : goal.loop-end-preserved
loop-end-preserved g c =
    found_subscriber c.loop-end.yielded c.in-Some.end c.in-Subscriber.end _ _ c.loop-end.invariant c.in-Subscriber.is
    c.in_ok-push-in-Subscriber.ensures.items

pub unwrap-requires : goal.unwrap-requires
unwrap-requires g c =
    let end = YieldsList-end
    (YieldsList-from_vec {s = c.into_iter-end-iterator.result} c.args.left.items (cc) (search rules))
    c.loop-end.yielded c.loop-end.end-iterator c.loop-end.yielded_by c.next.result c.next.new.self c.in-None.is
    c.next.ensures.steps in
    let found = all_found g.row.S.Denot c.requires.0 c.loop-end.yielded c.args.left.items _ c.loop-end.invariant end.0
    c.requires.1 in
    is_there c.loop-end.ledger c.requires.0.ledger (ap (λ (f : Found). f.ledger) found)

pub unwrap-requires-2 : goal.unwrap-requires-2
unwrap-requires-2 g c =
    let end = YieldsList-end
    (YieldsList-from_vec {s = c.into_iter-end-iterator.result} c.args.left.items (cc) (search rules))
    c.loop-end.yielded c.loop-end.end-iterator c.loop-end.yielded_by c.next.result c.next.new.self c.in-None.is
    c.next.ensures.steps in
    let found = all_found g.row.S.Denot c.requires.0 c.loop-end.yielded c.args.left.items _ c.loop-end.invariant end.0
    c.requires.1 in
    is_there c.loop-end.connector c.requires.0.connector (ap (λ (f : Found). f.connector) found)

pub unwrap-requires-3 : goal.unwrap-requires-3
unwrap-requires-3 g c =
    let end = YieldsList-end
    (YieldsList-from_vec {s = c.into_iter-end-iterator.result} c.args.left.items (cc) (search rules))
    c.loop-end.yielded c.loop-end.end-iterator c.loop-end.yielded_by c.next.result c.next.new.self c.in-None.is
    c.next.ensures.steps in
    let found = all_found g.row.S.Denot c.requires.0 c.loop-end.yielded c.args.left.items _ c.loop-end.invariant end.0
    c.requires.1 in
    is_there c.loop-end.broker c.requires.0.broker (ap (λ (f : Found). f.broker) found)

pub returns : goal.returns
returns g c = λ p same.
    let end = YieldsList-end
    (YieldsList-from_vec {s = c.into_iter-end-iterator.result} c.args.left.items (cc) (search rules))
    c.loop-end.yielded c.loop-end.end-iterator c.loop-end.yielded_by c.next.result c.next.new.self c.in-None.is
    c.next.ensures.steps in
    let found = all_found g.row.S.Denot p c.loop-end.yielded c.args.left.items _ c.loop-end.invariant end.0
    same in
    let new : Placed = record {
      ledger = c.unwrap.result;
      clients = c.loop-end.clients.items;
      connector = c.unwrap-2.result;
      broker = c.unwrap-3.result;
      subscribers = c.loop-end.subscribers.items;
    } in
    same_placed p new
    (of_parts c.loop-end.ledger c.loop-end.connector c.loop-end.broker new c.unwrap.ensures c.unwrap-2.ensures
    c.unwrap-3.ensures ∙ found)

use Rattle.cdc_run.proofs.Words.{List, Task, YieldsList-end, YieldsList-from_vec, YieldsList-from_zip, [], ap, places_of, rules, ◌++◌, ◌∙◌, ◌∷◌}
use Rattle.cdc_run.specs.declared.tasks.Task.TheVariants as task
use Rattle.cdc_run.proofs.Listed.{all_listed, client_push, subscriber_push}
use Rattle.cdc_run.proofs.runs.tasks_of.Goals as goal

-- the ledger actor comes first
pub loop-client-init : goal.loop-client-init
loop-client-init g c =
    c.in_ok-push.ensures.items
    ∙ ap (λ (l : List (Task g.row.S.Denot)). l ++ task.Ledger c.args.ends.ledger ∷ []) c.new-tasks.ensures.items

-- one client more
pub loop-client-preserved : goal.loop-client-preserved
loop-client-preserved g c =
    client_push g.row.S.Denot c.loop-client.yielded (c.in-Some.client, c.in-Some.script) c.args.ends.ledger c.new.result
    c.loop-client.tasks.items c.push-in-loop-client.new.self.items c.loop-client.invariant c.new.ensures
    c.in_ok-push-2.ensures.items

-- one subscriber more
pub loop-subscriber-preserved : goal.loop-subscriber-preserved
loop-subscriber-preserved g c =
    subscriber_push g.row.S.Denot c.loop-subscriber.yielded c.in-Some-subscriber.subscriber _ _ _
    c.loop-subscriber.invariant c.in_ok-push-5.ensures.items

-- all are listed
pub returns : goal.returns
returns g c =
    let pairs = YieldsList-end
    (YieldsList-from_zip {s = c.into_iter-client-iterator.result}
    (YieldsList-from_vec c.args.ends.clients.items (search rules) (search rules))
    (YieldsList-from_vec c.args.scripts.items (search rules) (search rules)))
    c.loop-client.yielded c.loop-client.client-iterator c.loop-client.yielded_by c.next.result c.next.new.self
    c.in-None.is c.next.ensures.steps in
    let subscribers = YieldsList-end
    (YieldsList-from_vec {s = c.into_iter-subscriber-iterator.result} c.args.ends.subscribers.items (cc) (search rules))
    c.loop-subscriber.yielded c.loop-subscriber.subscriber-iterator c.loop-subscriber.yielded_by
    c.next-in-loop-subscriber.result c.next-in-loop-subscriber.new.self c.in-None-subscriber.is
    c.next-in-loop-subscriber.ensures.steps in
    all_listed g.row.S.Denot (places_of c.args.ends) c.args.scripts.items c.loop-client.yielded
    c.loop-subscriber.yielded c.loop-client.tasks.items c.push-2.new.self.items c.push-3.new.self.items
    c.loop-subscriber.tasks.items
    c.loop-client.invariant pairs.0 c.in_ok-push-3.ensures.items c.in_ok-push-4.ensures.items
    c.loop-subscriber.invariant subscribers.0

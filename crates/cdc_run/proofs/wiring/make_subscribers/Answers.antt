use Rattle.cdc_run.proofs.Words.{AreFreshSubscribers, Incoming, Outgoing, ToBroker, ToSubscriber, [], ap, arith, length, length_push, subst, ◌++◌, ◌+◌, ◌∙◌, ◌∷◌, ◌≡◌}
use Rattle.cdc_run.proofs.ActorsMade.{subscriber_more}
use Rattle.cdc_run.proofs.Paired.{all_pairs, is_over, next_pair}
use Rattle.cdc_run.proofs.wiring.make_subscribers.Goals as goal

-- the endpoint for acknowledgements has the subscriber's number, and neither endpoint was used
pub new-requires : goal.new-requires
new-requires c =
    let loop = c.loop-ack in
    let z = c.zip-ack-items.ensures in
    let over = is_over c.args.acks.items c.args.inboxes.items c.into_iter.result c.zip-ack-items.result
    c.into_iter-ack-iterator.result c.into_iter.ensures.rest (c.into_iter.ensures.len ∙ c.args.acks.ok.0) z.first
    z.second.0 (z.second.1 ∙ c.args.inboxes.ok.0) c.into_iter-ack-iterator.ensures.into_iter_gives in
    let pair = next_pair c.args.acks.items c.args.inboxes.items c.into_iter-ack-iterator.result
    loop.ack-iterator c.next.new.self loop.yielded c.next.result over loop.yielded_by
    c.next.ensures.steps c.requires.acks.0 (c.in-Some.ack, c.in-Some.inbox) c.in-Some.is
    c.requires.acks.1 c.requires.inboxes in
    record {
      first = omega arith;
      own = omega (arith, ap (λ (out : Outgoing ToBroker (Unit {0})). out.number) pair.0);
      silent = ap (λ (out : Outgoing ToBroker (Unit {0})). out.sent) pair.0;
      fresh = pair.1.received;
      alone = pair.1.senders;
    }

-- one subscriber more
pub loop-ack-preserved : goal.loop-ack-preserved
loop-ack-preserved c =
    let loop = c.loop-ack in
    let pushed = c.in_ok-push.ensures in
    let pair : Outgoing ToBroker (Unit {0}) × Incoming ToSubscriber (Unit {0}) = (c.in-Some.ack, c.in-Some.inbox) in
    let z = c.zip-ack-items.ensures in
    let over = is_over c.args.acks.items c.args.inboxes.items c.into_iter.result c.zip-ack-items.result
    c.into_iter-ack-iterator.result c.into_iter.ensures.rest (c.into_iter.ensures.len ∙ c.args.acks.ok.0) z.first
    z.second.0 (z.second.1 ∙ c.args.inboxes.ok.0) c.into_iter-ack-iterator.ensures.into_iter_gives in
    let number : c.len.result + 1 ≡ 1 + length loop.yielded = omega arith in (
      omega (arith, pushed.len, length_push loop.yielded pair),
      λ link are.
          let more = subscriber_more c.args.system link c.args.faults.now.close.items loop.yielded pair
          loop.subscribers.items (c.len.result + 1) c.close_after-close_after.result (loop.invariant.1 link are) number
          c.close_after-close_after.ensures
          (next_pair c.args.acks.items c.args.inboxes.items c.into_iter-ack-iterator.result
          loop.ack-iterator c.next.new.self loop.yielded c.next.result over loop.yielded_by
          c.next.ensures.steps link pair c.in-Some.is are c.requires.inboxes) in
          let items : c.push.new.self.items ≡ loop.subscribers.items ++ c.new.result ∷ [] = pushed.items in
          rw (items, c.new.ensures) more,
    )

-- once all have been yielded, there is a subscriber for each
pub returns : goal.returns
returns c =
    let loop = c.loop-ack in
    let z = c.zip-ack-items.ensures in
    let over = is_over c.args.acks.items c.args.inboxes.items c.into_iter.result c.zip-ack-items.result
    c.into_iter-ack-iterator.result c.into_iter.ensures.rest (c.into_iter.ensures.len ∙ c.args.acks.ok.0) z.first
    z.second.0 (z.second.1 ∙ c.args.inboxes.ok.0) c.into_iter-ack-iterator.ensures.into_iter_gives in
    λ link are.
    subst (λ links. AreFreshSubscribers c.args.system link c.args.faults.now.close.items links loop.subscribers.items)
    (all_pairs c.args.acks.items c.args.inboxes.items c.into_iter-ack-iterator.result
    loop.ack-iterator c.next.new.self loop.yielded c.next.result over loop.yielded_by
    c.next.ensures.steps link c.in-None.is are)
    (loop.invariant.1 link are)

use Rattle.cdc_run.proofs.Words.{Incoming, Outgoing, Past, Reply, ToLedger, [], ap, arith, length, length_push, made_clients, ◌++◌, ◌+◌, ◌∙◌, ◌∷◌, ◌≡◌}
use Rattle.cdc_run.proofs.ActorsMade.{client_more}
use Rattle.cdc_run.proofs.Paired.{all_pairs, is_over, next_pair}
use Rattle.cdc_run.proofs.wiring.make_clients.Goals as goal

-- the endpoint for requests has the client's number, and neither endpoint was used
pub new-requires : goal.new-requires
new-requires c =
    let loop = c.loop-request in
    let z = c.zip-request-items.ensures in
    let over = is_over c.args.requests.items c.args.answers.items c.into_iter.result c.zip-request-items.result
    c.into_iter-request-iterator.result c.into_iter.ensures.rest (c.into_iter.ensures.len ∙ c.args.requests.ok.0)
    z.first z.second.0 (z.second.1 ∙ c.args.answers.ok.0) c.into_iter-request-iterator.ensures.into_iter_gives in
    let pair = next_pair c.args.requests.items c.args.answers.items c.into_iter-request-iterator.result
    loop.request-iterator c.next.new.self loop.yielded c.next.result over loop.yielded_by
    c.next.ensures.steps c.requires.requests.0 (c.in-Some.request, c.in-Some.answer) c.in-Some.is
    c.requires.requests.1 c.requires.answers in
    record {
      first = omega arith;
      own = omega (arith, ap (λ (out : Outgoing ToLedger (Unit {0})). out.number) pair.0);
      silent = ap (λ (out : Outgoing ToLedger (Unit {0})). out.sent) pair.0;
      fresh = pair.1.received;
      alone = pair.1.senders;
    }

-- one client more
pub loop-request-preserved : goal.loop-request-preserved
loop-request-preserved c =
    let loop = c.loop-request in
    let pushed = c.in_ok-push.ensures in
    let pair : Outgoing ToLedger (Unit {0}) × Incoming Reply Past = (c.in-Some.request, c.in-Some.answer) in
    let z = c.zip-request-items.ensures in
    let over = is_over c.args.requests.items c.args.answers.items c.into_iter.result c.zip-request-items.result
    c.into_iter-request-iterator.result c.into_iter.ensures.rest (c.into_iter.ensures.len ∙ c.args.requests.ok.0)
    z.first z.second.0 (z.second.1 ∙ c.args.answers.ok.0) c.into_iter-request-iterator.ensures.into_iter_gives in
    let number : c.len.result + 1 ≡ 1 + length loop.yielded = omega arith in (
      omega (arith, pushed.len, length_push loop.yielded pair),
      λ link are.
          pushed.items ∙ ap (λ e. loop.clients.items ++ e ∷ []) c.new.ensures
          ∙ client_more c.args.system link loop.yielded pair loop.clients.items (c.len.result + 1)
          (loop.invariant.1 link are) number
          (next_pair c.args.requests.items c.args.answers.items c.into_iter-request-iterator.result
          loop.request-iterator c.next.new.self loop.yielded c.next.result over loop.yielded_by
          c.next.ensures.steps link pair c.in-Some.is are c.requires.answers),
    )

-- once all have been yielded, there is a client for each
pub returns : goal.returns
returns c =
    let loop = c.loop-request in
    let z = c.zip-request-items.ensures in
    let over = is_over c.args.requests.items c.args.answers.items c.into_iter.result c.zip-request-items.result
    c.into_iter-request-iterator.result c.into_iter.ensures.rest (c.into_iter.ensures.len ∙ c.args.requests.ok.0)
    z.first z.second.0 (z.second.1 ∙ c.args.answers.ok.0) c.into_iter-request-iterator.ensures.into_iter_gives in
    λ link are.
    loop.invariant.1 link are
    ∙ ap (λ links. made_clients c.args.system link 1 links)
    (all_pairs c.args.requests.items c.args.answers.items c.into_iter-request-iterator.result
    loop.request-iterator c.next.new.self loop.yielded c.next.result over loop.yielded_by
    c.next.ensures.steps link c.in-None.is are)

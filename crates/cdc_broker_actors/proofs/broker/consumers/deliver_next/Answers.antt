use Rattle.cdc_broker_actors.proofs.Words.{◌-◌, ◌<◌, ◌∙◌, ◌≡◌, arith, goes_back, length, sym, true}
use Rattle.cdc_broker_actors.proofs.BrokerLemmas.Lanes.{both_hold, has_delivered}
use Rattle.cdc_broker_actors.proofs.broker.consumers.deliver_next.Goals as goal

pub returns-then-is_repeated-clause-becomes : goal.returns-then-is_repeated-clause-becomes
returns-then-is_repeated-clause-becomes g c =
    let old = c.args.broker.now in
    let number = c.args.number in
    let d = c.in-Some.delivery in
    let inside : number - 1 < length old.queues = omega arith in
    let goes : goes_back c.args.repeat.now number c.args.consumer.now d ≡ true =
    both_hold c.args.consumer.now.delivered d.position _ c.if-first.true
    (sym c.is_repeated.ensures ∙ c.if-is_repeated.true) in
    has_delivered c.args.repeat.now number old c.next_for.new.self c.rewind.new.self c.args.consumer.now
    c.send_copy.new.self d true inside (sym c.in_ok-delivery.ensures.answer ∙ c.in-Some.is) c.in_ok-delivery.ensures.ok
    c.in_ok-send_copy.ensures.after goes c.rewind.ensures.state

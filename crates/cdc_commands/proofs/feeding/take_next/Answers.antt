use Rattle.cdc_commands.proofs.Terms.{Delivery, Option, Reception, Some, ap, arith, kept_of, length, next_delivery, queue_of, receiving_delivery, rules, sym, with_delivery, with_queue, with_taken, ◌-◌, ◌<◌, ◌∙◌, ◌≡◌}
use Rattle.cdc_commands.proofs.TakerLemmas.{acknowledges}
use Rattle.cdc_commands.proofs.feeding.take_next.Goals as goal

pub returns-in_ok-map_err : goal.returns-in_ok-map_err
returns-in_ok-map_err c =
    let s = c.args.broker.now in
    let q = queue_of s c.args.i in
    let d = c.in-Some.delivery in
    let given : Some d ≡ next_delivery q = sym c.in-Some.is ∙ c.in_ok-delivery.ensures.answer in
    let inside : c.args.i - 1 < length s.queues = omega (arith, c.requires.first, c.requires.last) in
    let first : c.next_for.new.self ≡ with_queue c.args.i (with_delivery (Some d) q) s =
    c.in_ok-delivery.ensures.ok
    ∙ ap (λ (x : Option Delivery). with_queue c.args.i (with_delivery x q) s) (sym given) in
    let received : (reception : Reception) → c.args.subscriber.now ≡ kept_of reception
    → c.take.new.self ≡ kept_of (receiving_delivery (next_delivery q) reception) = search rules in (
      acknowledges s c.next_for.new.self c.ack.new.self c.args.i d.position (with_delivery (Some d) q) c.ack.result
          inside first c.ack.ensures.answer c.ack.ensures.state
          ∙ ap (λ (x : Option Delivery). with_queue c.args.i (with_taken x q) s) given,
      received,
    )

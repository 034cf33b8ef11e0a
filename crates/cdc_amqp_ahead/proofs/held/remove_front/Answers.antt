use Rattle.std.proofs.Common.{◌≡◌, ◌-◌, length, take, drop, ap, ◌∙◌, arith, rules}
use Rattle.std.proofs.lemmas.List.{with_items_is, places}
use Rattle.cdc_amqp_ahead.proofs.HeldLemmas.{rest_moved}
use Rattle.cdc_amqp_ahead.proofs.held.remove_front.Goals as goal

pub returns-clause-items : goal.returns-clause-items
returns-clause-items c =
    let all = c.as_mut_slice.result.now in
    let size = c.len-len.result in
    let whole : length all ≡ size = search rules in
    c.truncate.ensures.items
    ∙ ap (take (size - c.args.count))
    (with_items_is c.args.bytes.now c.copy_within.new.self (search (rules, places)) ∙ c.copy_within.ensures.after)
    ∙ rest_moved all c.args.count size whole (omega arith)
    ∙ ap (drop c.args.count) c.as_mut_slice.ensures.value

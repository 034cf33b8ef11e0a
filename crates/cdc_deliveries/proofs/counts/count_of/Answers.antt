use Rattle.cdc_deliveries.proofs.Words.{refl, rules, subscriber_of, tests, ◌&&◌, ◌==◌, ◌≡◌}
use Rattle.std.proofs.lemmas.Iterator.{YieldsList-from_slice}
use Rattle.std.proofs.lemmas.Iterator.Consumers.{YieldsList-from_filter, count_from_yields_List}
use Rattle.cdc_deliveries.specs.Counts.{applies_event, brings_event, count_with}
use Rattle.cdc_deliveries.proofs.counts.count_of.Goals as goal

pub returns : goal.returns
returns c =
    let applied : c.count.result ≡ count_with applies_event c.args.subscriber c.args.steps.now =
    count_from_yields_List c.filter.result c.count.result c.count.ensures.ran
    (YieldsList-from_filter _ (λ step. (subscriber_of step == c.args.subscriber) && applies_event step)
    (YieldsList-from_slice c.args.steps.now cc) c.filter.ensures.closure (λ x r q k. search (rules, tests))) in
    let deliveries : c.count-2.result ≡ count_with brings_event c.args.subscriber c.args.steps.now =
    count_from_yields_List c.filter-2.result c.count-2.result c.count-2.ensures.ran
    (YieldsList-from_filter _ (λ step. (subscriber_of step == c.args.subscriber) && brings_event step)
    (YieldsList-from_slice c.args.steps.now cc) c.filter-2.ensures.closure (λ x r q k. search (rules, tests))) in
    rw (applied, deliveries) refl

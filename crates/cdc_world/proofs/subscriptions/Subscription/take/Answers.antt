use Rattle.cdc_world.proofs.Words.{List, Ok, OnOk, Result, TakeError, Taking, [], ap, arith, kept_of, length, refl, subscription_parts, subst, ℕ, ◌++◌, ◌<◌, ◌∙◌, ◌∷◌, ◌≡◌}
use Rattle.cdc_world.proofs.SubscriberMoves.{answered_is, mapped_ok, taken_is}
use Rattle.cdc_subscriber.specs.Reception.{next}
use Rattle.cdc_world.proofs.subscriptions.Subscription.take.Goals as goal

pub returns : goal.returns
returns c =
    let delivery = c.in-Some.delivery.now in
    let is : c.take.result ≡ Ok c.in_ok-taking.taking =
    mapped_ok _ c.take.result c.in_ok-taking.taking _ c.in_ok-taking.ensures.cases c.in_ok-taking.ensures.variant in
    let some : 0 < length c.args.self.now.flight.items =
    omega (arith, c.in-Some.ensures.variant.0 refl, c.args.self.now.flight.ok.0) in
    taken_is (subscription_parts c.args.self.now) _ delivery c.args.self.now.flight.items c.in_ok-taking.taking
    c.in-Some.ensures.lookup some c.pop_front.ensures.rest
    (answered_is c.args.self.now.subscriber delivery.item c.in_ok-taking.taking c.take.result c.take.ensures.answer is)
    (c.push_reserved.ensures.items ∙ ap (λ (xs : List ℕ). xs ++ delivery.position ∷ []) c.reserve.ensures.items)
    (λ reception kept. subst (λ (r : Result Taking TakeError). OnOk r (c.take.new.self
    ≡ kept_of (next reception delivery.item))) is (c.take.ensures.stands reception kept))

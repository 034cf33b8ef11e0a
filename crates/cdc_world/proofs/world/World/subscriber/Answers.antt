use Rattle.cdc_world.proofs.Words.{ActorsStand, Parts, SubscriptionParts, ap, subscription_parts, subst, sym, ◌∙◌}
use Rattle.cdc_world.proofs.Reached.{faithful-reached, kept-reached}
use Rattle.cdc_world.proofs.SubscriberMoves.{parts_read}
use Rattle.cdc_world.proofs.world.World.subscriber.Goals as goal

pub returns-clause-applied : goal.returns-clause-applied
returns-clause-applied g c = λ w st reached s there.
    ap (λ (t : SubscriptionParts). t.kept)
    (parts_read c.self.inside.actors w c.args.i (subscription_parts c.subscription.result.now) s
    (subst (λ (p : Parts). ActorsStand p.actors w) (sym c.self.view_is) st.actors) c.requires.first
    c.subscription.ensures there)
    ∙ kept-reached w c.args.i s reached there

pub returns-clause-faithful : goal.returns-clause-faithful
returns-clause-faithful g c = λ w st reached s there. faithful-reached w c.args.i s reached there

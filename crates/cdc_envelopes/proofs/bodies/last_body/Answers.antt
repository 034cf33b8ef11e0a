use Rattle.cdc_envelopes.proofs.BodyLemmas.{own_end}
use Rattle.cdc_envelopes.proofs.bodies.last_body.Goals as goal

pub returns-in-Some-clause-body : goal.returns-in-Some-clause-body
returns-in-Some-clause-body c =
    own_end c.args.text.now c.in-Some.event c.in-Some.ensures.text.0 c.in-Some.ensures.text.1

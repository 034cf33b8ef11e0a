use Rattle.cdc_envelopes.proofs.FrontLemmas.{not_redelivered, redelivered}
use Rattle.cdc_envelopes.proofs.fronts.skip_flag.Goals as goal

pub returns-in_ok-literal : goal.returns-in_ok-literal
returns-in_ok-literal c = redelivered _ _ c.in_ok-literal.ensures.text

pub returns-in_ok-literal-2 : goal.returns-in_ok-literal-2
returns-in_ok-literal-2 c = not_redelivered _ _ c.in_ok-literal-2.ensures.text

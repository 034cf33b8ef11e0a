use Rattle.cdc_envelopes.proofs.FrontLemmas.{brace_if}
use Rattle.cdc_envelopes.proofs.fronts.skip_front.Goals as goal

pub returns-in_default-clause-begins : goal.returns-in_default-clause-begins
returns-in_default-clause-begins c = brace_if c.literal.result _ _ c.literal.ensures.text

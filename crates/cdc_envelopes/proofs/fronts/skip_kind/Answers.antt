use Rattle.cdc_message.proofs.OwnParts.{not_none}
use Rattle.cdc_envelopes.proofs.FrontLemmas.{message_front}
use Rattle.cdc_envelopes.proofs.fronts.skip_kind.Goals as goal

pub returns-in_err-literal-clause-complete : goal.returns-in_err-literal-clause-complete
returns-in_err-literal-clause-complete c rest is = not_none c.in_err-literal.was (c.literal.ensures.complete rest is).0

pub returns-clause-begins : goal.returns-clause-begins
returns-clause-begins c = message_front _ _ c.in_ok-literal.ensures.text

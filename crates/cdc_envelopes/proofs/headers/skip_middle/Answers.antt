use Rattle.cdc_message.proofs.OwnParts.{not_none}
use Rattle.cdc_envelopes.proofs.FrontLemmas.{middle_skipped}
use Rattle.cdc_envelopes.proofs.headers.skip_middle.Goals as goal

pub returns-in_err-skip_headers-clause-complete : goal.returns-in_err-skip_headers-clause-complete
returns-in_err-skip_headers-clause-complete c headers seconds rest fits seconds_fit is =
    not_none c.in_err-skip_headers.was (c.skip_headers.ensures.complete headers seconds rest fits seconds_fit is).0

pub returns-in_ok-skip_headers-clause-skips : goal.returns-in_ok-skip_headers-clause-skips
returns-in_ok-skip_headers-clause-skips c = middle_skipped _ _ c.in_ok-skip_headers.ensures.text

use Rattle.std.proofs.Common.{refl, string_bytes}
use Rattle.cdc_message.proofs.Parts.{event_in_is, belong}
use Rattle.cdc_message.proofs.message.Message.of.Goals as goal

pub invariant_of-result : goal.invariant_of-result
invariant_of-result c =
    let written = c.in_ok-body.ensures in
    belong _ _ _ c.args.event.now c.headers_of.ensures refl written.text written.reads_back
    written.fits

pub returns : goal.returns
returns c =
    let written = c.in_ok-body.ensures in
    event_in_is (string_bytes c.in_ok-body.body) c.args.event.now written.reads_back

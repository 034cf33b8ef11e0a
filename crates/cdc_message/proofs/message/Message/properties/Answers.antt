use Rattle.std.proofs.Common.{string_bytes, subst, sym}
use Rattle.cdc_message.specs.Headers.{AreProperties}
use Rattle.cdc_message.specs.Messages.{event_in}
use Rattle.cdc_message.proofs.message.Message.properties.Goals as goal

pub returns : goal.returns
returns c =
    subst (AreProperties c.properties_at.result) c.self.view_is
    (c.properties_at.ensures (event_in (string_bytes c.self.inside.body)) (sym c.self.invariant.timestamp_is))

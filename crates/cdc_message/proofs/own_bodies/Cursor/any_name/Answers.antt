use Rattle.std.proofs.Common.{◌∙◌}
use Rattle.cdc_message.proofs.own_bodies.Cursor.any_name.Goals as goal

pub returns : goal.returns
returns c = c.spaces.ensures ∙ c.in_ok-name-2.ensures

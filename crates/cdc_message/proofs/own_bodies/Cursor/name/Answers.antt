use Rattle.cdc_message.proofs.Unordered.{name_lexes}
use Rattle.cdc_message.proofs.own_bodies.Cursor.name.Goals as goal

pub returns : goal.returns
returns c =
    name_lexes c.args.name _ _ _ _ _ c.in_ok-sign.ensures c.in_ok-key.ensures c.in_ok-byte.ensures
    c.in_ok-sign-2.ensures

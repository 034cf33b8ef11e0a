use Rattle.std.proofs.Common.{ap, ◌∙◌}
use Rattle.json.specs.Lex.{lex, between}
use Rattle.cdc_message.proofs.own_bodies.Cursor.sign.Goals as goal

pub returns : goal.returns
returns c = c.spaces.ensures ∙ ap (lex between) c.in_ok-byte.ensures

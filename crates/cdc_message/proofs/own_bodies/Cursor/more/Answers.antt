use Rattle.std.proofs.Common.{ap, ◌∙◌}
use Rattle.json.specs.Lex.{lex, between}
use Rattle.cdc_message.proofs.own_bodies.Cursor.more.Goals as goal

pub returns-in_ok-byte : goal.returns-in_ok-byte
unfolding lex
returns-in_ok-byte c = c.spaces.ensures ∙ ap (lex between) c.in_ok-byte.ensures

pub returns-in_ok-byte-2 : goal.returns-in_ok-byte-2
unfolding lex
returns-in_ok-byte-2 c = c.spaces.ensures ∙ ap (lex between) c.in_ok-byte-2.ensures

use Rattle.std.proofs.Common.{ap, sym, ◌∙◌}
use Rattle.json.specs.Lex.{lex, between}
use Rattle.cdc_message.proofs.Unordered.{lex_space}
use Rattle.cdc_message.proofs.own_bodies.Cursor.spaces.Goals as goal

pub loop-first-preserved : goal.loop-first-preserved
loop-first-preserved c =
    c.loop-first.invariant ∙ ap (lex between) c.in-Some.ensures.cases.0
    ∙ lex_space c.in-Some.first.now c.in-Some.rest.now (sym c.if-not-is_space.ensures)

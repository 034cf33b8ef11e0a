use Rattle.std.specs.Prelude.{IfSome}
use Rattle.cdc_follow.specs.Stops.{StepLeadsTo, stop_of}
use Rattle.cdc_follow.specs.Turns.{StepTurns}
use Rattle.cdc_expect.proofs.PrintLemmas.{any_fails, none_printed, same_turn}
use Rattle.cdc_expect.proofs.commands.expect_line.Goals as goal

pub returns-in-Err-clause-fails : goal.returns-in-Err-clause-fails
returns-in-Err-clause-fails g c =
    none_printed c.args.binding.now c.args.rules c.args.number c.args.follower.now c.fault_of.result
    (g.B.Read.remaining c.args.reader.now) (g.W.Write.contents c.args.writer.now)

pub returns-in-Ok-clause-leads : goal.returns-in-Ok-clause-leads
returns-in-Ok-clause-leads g c =
    same_turn (λ it. IfSome (g.B.Read.remaining c.args.reader.now) (λ bytes. StepLeadsTo c.args.binding.now c.args.rules
    c.args.number c.args.follower.now bytes (stop_of it) c.follow_line.new.follower
    (g.B.Read.remaining c.follow_line.new.reader))) c.in-Ok.turn c.print_turn.result c.print_turn.ensures.same
    c.in-Ok.ensures.leads

pub returns-in-Ok-clause-turns : goal.returns-in-Ok-clause-turns
returns-in-Ok-clause-turns g c =
    same_turn (λ it. IfSome (g.B.Read.remaining c.args.reader.now) (λ bytes. StepTurns c.args.binding.now c.args.rules
    c.args.number c.args.follower.now bytes it c.follow_line.new.follower
    (g.B.Read.remaining c.follow_line.new.reader))) c.in-Ok.turn c.print_turn.result c.print_turn.ensures.same
    c.in-Ok.ensures.turns

pub returns-in-Ok-clause-fails : goal.returns-in-Ok-clause-fails
returns-in-Ok-clause-fails g c =
    any_fails c.args.binding.now c.args.rules c.args.number c.args.follower.now c.follow_line.new.follower c.in-Ok.turn
    c.print_turn.result (g.B.Read.remaining c.args.reader.now) (g.B.Read.remaining c.follow_line.new.reader)
    (g.W.Write.contents c.args.writer.now) (g.W.Write.contents c.print_turn.new.writer) c.in-Ok.ensures.turns
    (rw c.subscriber.ensures at c.print_turn.ensures.fails)

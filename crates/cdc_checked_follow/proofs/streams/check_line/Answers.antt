use Rattle.std.proofs.Common.{None, subst}
use Rattle.std.specs.Prelude.{IfOk}
use Rattle.std.proofs.lemmas.Result.{IfOk-weaker}
use Rattle.cdc_checked_follow.specs.Streams.{IsTaken, LineLeadsTo}
use Rattle.cdc_checked_follow.proofs.StreamLemmas.{step_long, step_none, step_taken}
use Rattle.cdc_checked_follow.specs.Turns.{LineTurns, stop_of}
use Rattle.cdc_checked_follow.proofs.TurnLemmas.{step_turns_end, step_turns_line, step_turns_long}
use Rattle.cdc_checked_follow.proofs.streams.check_line.Goals as goal

pub returns-in-Ok-true-clause-leads : goal.returns-in-Ok-true-clause-leads
returns-in-Ok-true-clause-leads g c =
    step_taken c.args.binding.now c.args.skips_gaps c.args.number c.args.follower.now _
    (g.B.Read.remaining c.args.reader.now) (g.B.Read.remaining c.read_line.new.reader) c.read_line.new.line.items
    c.in-Ok-true.field-0 c.check_bytes.result c.in-Ok-true.field-0-test c.in-Ok-true.ensures.line
    (subst (λ l. IfOk c.check_bytes.result (λ turn. LineLeadsTo c.args.binding.now c.args.skips_gaps c.args.number l
    c.args.follower.now (stop_of turn) c.check_bytes.new.follower)) c.deref.ensures.value c.check_bytes.ensures.leads)

pub returns-in-Ok-false-clause-leads : goal.returns-in-Ok-false-clause-leads
returns-in-Ok-false-clause-leads g c =
    step_none c.args.binding.now c.args.skips_gaps c.args.number c.args.follower.now
    (g.B.Read.remaining c.args.reader.now) (g.B.Read.remaining c.read_line.new.reader) c.read_line.new.line.items
    c.in-Ok-false.field-0 c.in-Ok-false.field-0-test c.in-Ok-false.ensures.line

pub returns-in-Err-TooLong-clause-leads : goal.returns-in-Err-TooLong-clause-leads
returns-in-Err-TooLong-clause-leads g c =
    step_long c.args.binding.now c.args.skips_gaps c.args.number c.args.follower.now
    (g.B.Read.remaining c.args.reader.now) None (c.in-Err-TooLong.ensures.long c.in-Err-TooLong.field-0-is)

pub returns-in-Ok-true-clause-taken : goal.returns-in-Ok-true-clause-taken
returns-in-Ok-true-clause-taken g c =
    IfOk-weaker c.check_bytes.result _ _ (λ turn taken is. (
      c.in-Ok-true.ensures.clean,
      subst (λ l. IsTaken c.args.binding.now l c.args.follower.now c.check_bytes.new.follower) c.deref.ensures.value
          (taken is),
    )) c.check_bytes.ensures.taken

pub returns-in-Ok-true-clause-turns : goal.returns-in-Ok-true-clause-turns
returns-in-Ok-true-clause-turns g c =
    step_turns_line c.args.binding.now c.args.skips_gaps c.args.number c.args.follower.now
    (g.B.Read.remaining c.args.reader.now) (g.B.Read.remaining c.read_line.new.reader) c.read_line.new.line.items
    c.in-Ok-true.field-0 c.check_bytes.result c.in-Ok-true.field-0-test c.in-Ok-true.ensures.line
    (subst (λ l. IfOk c.check_bytes.result (λ turn. LineTurns c.args.binding.now c.args.skips_gaps c.args.number l
    c.args.follower.now turn)) c.deref.ensures.value c.check_bytes.ensures.turns)

pub returns-in-Ok-false-clause-turns : goal.returns-in-Ok-false-clause-turns
returns-in-Ok-false-clause-turns g c =
    step_turns_end c.args.binding.now c.args.skips_gaps c.args.number c.args.follower.now
    (g.B.Read.remaining c.args.reader.now) (g.B.Read.remaining c.read_line.new.reader) c.read_line.new.line.items
    c.in-Ok-false.field-0 c.in-Ok-false.field-0-test c.in-Ok-false.ensures.line

pub returns-in-Err-TooLong-clause-turns : goal.returns-in-Err-TooLong-clause-turns
returns-in-Err-TooLong-clause-turns g c =
    step_turns_long c.args.binding.now c.args.skips_gaps c.args.number c.args.follower.now
    (g.B.Read.remaining c.args.reader.now) (c.in-Err-TooLong.ensures.long c.in-Err-TooLong.field-0-is)

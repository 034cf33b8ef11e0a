use Rattle.std.proofs.Common.{ap, subst}
use Rattle.cdc_output.specs.declared.faults.ProgramFault.TheVariants.{ReadFault}
use Rattle.cdc_checked_follow.specs.Turns.{stop_of}
use Rattle.cdc_checked_follow.proofs.StreamLemmas.{goes_from, goes_on, goes_stop}
use Rattle.cdc_expect.proofs.CheckedPrintLemmas.{printed_begins, printed_fails, printed_on, printed_so_far, printed_stops}
use Rattle.cdc_expect.proofs.checked_commands.expect_lines.Goals as goal

pub loop-number-init : goal.loop-number-init
loop-number-init g c = record {
  goes = goes_from c.args.binding.now c.args.skips_gaps c.args.follower.now (g.B.Read.remaining c.args.reader.now);
  printed = printed_begins c.args.binding.now c.args.skips_gaps c.args.follower.now
      (g.B.Read.remaining c.args.reader.now) (g.W.Write.contents c.args.writer.now);
}

pub loop-number-preserved : goal.loop-number-preserved
loop-number-preserved g c = record {
  goes = goes_on c.args.binding.now c.args.skips_gaps c.args.follower.now c.loop-number.follower
      c.expect_line.new.follower c.loop-number.number (stop_of c.in-Ok-GoesOn.field-0)
      (g.B.Read.remaining c.args.reader.now) (g.B.Read.remaining c.loop-number.reader)
      (g.B.Read.remaining c.expect_line.new.reader) c.loop-number.invariant.goes
      (ap stop_of c.in-Ok-GoesOn.field-0-is) c.in-Ok-GoesOn.ensures.leads;
  printed = printed_on c.args.binding.now c.args.skips_gaps c.args.follower.now c.loop-number.follower
      c.expect_line.new.follower c.loop-number.number c.in-Ok-GoesOn.field-0 _ _
      (g.B.Read.remaining c.args.reader.now) (g.B.Read.remaining c.loop-number.reader)
      (g.B.Read.remaining c.expect_line.new.reader) (g.W.Write.contents c.args.writer.now)
      (g.W.Write.contents c.loop-number.writer) (g.W.Write.contents c.expect_line.new.writer)
      c.in-Ok-GoesOn.field-0-is c.loop-number.invariant c.in-Ok-GoesOn.ensures.leads c.in-Ok-GoesOn.ensures.turns
      c.in-Ok-GoesOn.ensures.printed;
}

pub returns-in-Ok-Stops-clause-printed : goal.returns-in-Ok-Stops-clause-printed
returns-in-Ok-Stops-clause-printed g c =
    printed_stops c.args.binding.now c.args.skips_gaps c.args.follower.now c.loop-number.follower
    c.expect_line.new.follower c.loop-number.number c.in-Ok-Stops.field-0 c.in-Ok-Stops.stop
    (g.B.Read.remaining c.args.reader.now) (g.B.Read.remaining c.loop-number.reader)
    (g.W.Write.contents c.args.writer.now) (g.W.Write.contents c.loop-number.writer)
    (g.W.Write.contents c.expect_line.new.writer) c.in-Ok-Stops.field-0-is c.loop-number.invariant
    c.in-Ok-Stops.ensures.turns c.in-Ok-Stops.ensures.stays c.in-Ok-Stops.ensures.printed

pub returns-in-Ok-Stops-clause-stops : goal.returns-in-Ok-Stops-clause-stops
returns-in-Ok-Stops-clause-stops g c =
    goes_stop c.args.binding.now c.args.skips_gaps c.args.follower.now c.loop-number.follower
    c.expect_line.new.follower c.loop-number.number c.in-Ok-Stops.stop (g.B.Read.remaining c.args.reader.now)
    (g.B.Read.remaining c.loop-number.reader) (g.B.Read.remaining c.expect_line.new.reader)
    c.loop-number.invariant.goes (rw c.in-Ok-Stops.field-0-is at c.in-Ok-Stops.ensures.leads)

pub returns-in-Err-clause-printed : goal.returns-in-Err-clause-printed
returns-in-Err-clause-printed g c =
    printed_fails c.args.binding.now c.args.skips_gaps c.args.follower.now c.loop-number.follower c.loop-number.number
    c.in-Err.fault (g.B.Read.remaining c.args.reader.now) (g.B.Read.remaining c.loop-number.reader)
    (g.W.Write.contents c.args.writer.now) (g.W.Write.contents c.loop-number.writer)
    (g.W.Write.contents c.expect_line.new.writer) c.loop-number.invariant c.in-Err.ensures.fails

pub returns-clause-printed : goal.returns-clause-printed
returns-clause-printed g c =
    printed_so_far c.args.binding.now c.args.skips_gaps c.args.follower.now c.loop-number.follower
    c.loop-number.number (ReadFault c.from.result) (g.B.Read.remaining c.args.reader.now)
    (g.B.Read.remaining c.loop-number.reader) (g.W.Write.contents c.args.writer.now)
    (g.W.Write.contents c.loop-number.writer) c.loop-number.invariant

use Rattle.std.proofs.Common.{◌-◌, drop, length, take}
use Rattle.cdc_streams.proofs.SavingLemmas.{part_kept, part_on, part_stops}
use Rattle.cdc_streams.proofs.writing.write_part.Goals as goal
use Rattle.cdc_streams.proofs.writing.write_part.Goals.{in-Ok, in-Err}

pub returns-in-Ok-eq0-clause-printed : goal.returns-in-Ok-eq0-clause-printed
returns-in-Ok-eq0-clause-printed g c =
    let rest = c.loop.rest.now in
    let n = c.in-Ok-eq0.field-0 in
    part_stops c.args.text.now (take (length rest - n) (drop n rest)) (g.W.Write.contents c.args.writer.now)
    (g.W.Write.contents c.write.new.self)
    (part_on c.args.text.now rest n (g.W.Write.contents c.args.writer.now)
    (g.W.Write.contents c.loop.writer) (g.W.Write.contents c.write.new.self) c.loop.invariant.part
    (rw c.in-Ok-eq0.is at c.write.ensures.bytes))

pub returns-in-Err-2-clause-printed : goal.returns-in-Err-2-clause-printed
returns-in-Err-2-clause-printed g c =
    part_stops c.args.text.now c.loop.rest.now (g.W.Write.contents c.args.writer.now)
    (g.W.Write.contents c.write.new.self)
    (part_kept c.args.text.now c.loop.rest.now (g.W.Write.contents c.args.writer.now)
    (g.W.Write.contents c.loop.writer) (g.W.Write.contents c.write.new.self) c.loop.invariant.part
    c.in-Err-2.ensures.bytes)

pub loop-preserved : goal.loop-preserved
loop-preserved g c =
    elim c.match-write.branch [
      | in-Ok w ↦ record {
        part = rw w.rest-is (part_on c.args.text.now c.loop.rest.now w.in-Ok.count
            (g.W.Write.contents c.args.writer.now) (g.W.Write.contents c.loop.writer)
            (g.W.Write.contents c.write.new.self) c.loop.invariant.part w.in-Ok.ensures.bytes);
      }
      | in-Err w ↦ record {
        part = rw w.rest-is (part_kept c.args.text.now c.loop.rest.now (g.W.Write.contents c.args.writer.now)
            (g.W.Write.contents c.loop.writer) (g.W.Write.contents c.write.new.self) c.loop.invariant.part
            w.in-Err.ensures.bytes);
      }
    ]

pub returns-in-Ok-2-clause-printed : goal.returns-in-Ok-2-clause-printed
returns-in-Ok-2-clause-printed g c =
    part_stops c.args.text.now c.loop.rest.now (g.W.Write.contents c.args.writer.now)
    (g.W.Write.contents c.flush.new.self)
    (part_kept c.args.text.now c.loop.rest.now (g.W.Write.contents c.args.writer.now)
    (g.W.Write.contents c.loop.writer) (g.W.Write.contents c.flush.new.self) c.loop.invariant.part
    c.flush.ensures.bytes)

pub returns-in-Err-flush-clause-printed : goal.returns-in-Err-flush-clause-printed
returns-in-Err-flush-clause-printed g c =
    part_stops c.args.text.now c.loop.rest.now (g.W.Write.contents c.args.writer.now)
    (g.W.Write.contents c.flush.new.self)
    (part_kept c.args.text.now c.loop.rest.now (g.W.Write.contents c.args.writer.now)
    (g.W.Write.contents c.loop.writer) (g.W.Write.contents c.flush.new.self) c.loop.invariant.part
    c.flush.ensures.bytes)

use Rattle.std.proofs.Common.{◌-◌, drop, length, refl, take}
use Rattle.cdc_amqp_dialogue.proofs.WritingLemmas.{part_kept, part_on, part_stops}
use Rattle.cdc_amqp_dialogue.proofs.writing.send.Goals as goal
use Rattle.cdc_amqp_dialogue.proofs.writing.send.Goals.{in-Ok, in-Err}

pub returns-in-Ok-eq0 : goal.returns-in-Ok-eq0
returns-in-Ok-eq0 g c =
    let rest = c.loop.rest.now in
    let n = c.in-Ok-eq0.field-0 in (
      refl,
      part_stops c.args.bytes.now (take (length rest - n) (drop n rest)) (g.W.Write.contents c.args.writer.now)
          (g.W.Write.contents c.write.new.self)
          (part_on c.args.bytes.now rest n (g.W.Write.contents c.args.writer.now)
          (g.W.Write.contents c.loop.writer) (g.W.Write.contents c.write.new.self) c.loop.invariant
          (rw c.in-Ok-eq0.is at c.write.ensures.bytes)),
    )

pub returns-in-Err-2 : goal.returns-in-Err-2
returns-in-Err-2 g c = (
  refl,
  part_stops c.args.bytes.now c.loop.rest.now (g.W.Write.contents c.args.writer.now)
      (g.W.Write.contents c.write.new.self)
      (part_kept c.args.bytes.now c.loop.rest.now (g.W.Write.contents c.args.writer.now)
      (g.W.Write.contents c.loop.writer) (g.W.Write.contents c.write.new.self) c.loop.invariant
      c.in-Err-2.ensures.bytes),
)

pub loop-preserved : goal.loop-preserved
loop-preserved g c =
    elim c.match-write.branch [
      | in-Ok w ↦ rw w.rest-is (part_on c.args.bytes.now c.loop.rest.now w.in-Ok.count
          (g.W.Write.contents c.args.writer.now) (g.W.Write.contents c.loop.writer)
          (g.W.Write.contents c.write.new.self) c.loop.invariant w.in-Ok.ensures.bytes)
      | in-Err w ↦ rw w.rest-is (part_kept c.args.bytes.now c.loop.rest.now (g.W.Write.contents c.args.writer.now)
          (g.W.Write.contents c.loop.writer) (g.W.Write.contents c.write.new.self) c.loop.invariant
          w.in-Err.ensures.bytes)
    ]

pub returns-in-Ok-2 : goal.returns-in-Ok-2
returns-in-Ok-2 g c = (
  refl,
  part_stops c.args.bytes.now c.loop.rest.now (g.W.Write.contents c.args.writer.now)
      (g.W.Write.contents c.flush.new.self)
      (part_kept c.args.bytes.now c.loop.rest.now (g.W.Write.contents c.args.writer.now)
      (g.W.Write.contents c.loop.writer) (g.W.Write.contents c.flush.new.self) c.loop.invariant
      c.flush.ensures.bytes),
)

pub returns-in-Err-flush : goal.returns-in-Err-flush
returns-in-Err-flush g c = (
  refl,
  part_stops c.args.bytes.now c.loop.rest.now (g.W.Write.contents c.args.writer.now)
      (g.W.Write.contents c.flush.new.self)
      (part_kept c.args.bytes.now c.loop.rest.now (g.W.Write.contents c.args.writer.now)
      (g.W.Write.contents c.loop.writer) (g.W.Write.contents c.flush.new.self) c.loop.invariant
      c.flush.ensures.bytes),
)

use Rattle.cdc_files.proofs.Writing.{part_kept, part_more}
use Rattle.cdc_files.proofs.replacing.write_text.Goals as goal
use Rattle.cdc_files.proofs.replacing.write_text.Goals.{in-Ok, in-Err}

pub loop-preserved : goal.loop-preserved
loop-preserved g c =
    let old = g.W.Write.contents c.args.writer.now in
    let new = g.W.Write.contents c.write.new.self in
    elim c.match-write.branch [
      | in-Ok w ↦ record {
        part = rw w.rest-is (part_more old (g.W.Write.contents c.loop.writer) new c.args.text.now c.loop.rest.now
            w.in-Ok.count c.min-size.result c.loop.invariant.part w.if-count-size.true w.in-Ok.ensures.bytes);
      }
      | in-Err w ↦ record {
        part = rw w.rest-is (part_kept old (g.W.Write.contents c.loop.writer) new c.args.text.now c.loop.rest.now
            c.loop.invariant.part w.in-Err.ensures.bytes);
      }
    ]

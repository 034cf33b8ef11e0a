use Rattle.std.proofs.Common.{◌-◌, rules, length, sym, subst}
use Rattle.std.specs.Io.KnownBytes.{Consumes}
use Rattle.std.proofs.KnownBytes.{Consumes-trans}
use Rattle.cdc_files.proofs.Filling.{filled_more}
use Rattle.cdc_files.proofs.replacing.fill.Goals as goal

pub loop-filled-preserved : goal.loop-filled-preserved
loop-filled-preserved g c =
    let from = c.loop-filled.filled in
    let here = c.loop-filled.invariant in record {
      size = search rules;
      bound = search rules;
      text = subst (Consumes _ _)
          (sym (filled_more from (length c.loop-filled.buffer - from) c.in_ok-count.count c.loop-filled.buffer
          c.read.new.buf here.bound c.in_ok-count.ensures.bound.0))
          (Consumes-trans _ _ _ _ _ here.text c.in_ok-count.ensures.bytes.0);
    }

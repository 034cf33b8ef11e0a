use Rattle.std.proofs.Common.{arith, length-take-le}
use Rattle.cdc_progress.proofs.FileBytes.{none_read, record_read}
use Rattle.cdc_progress.proofs.files.record_in.Goals as goal

pub returns-in-Some-clause-record : goal.returns-in-Some-clause-record
returns-in-Some-clause-record g c =
    record_read _ _ _ c.in-Some.progress c.in-Some.ensures.fits c.in-Some.ensures.record c.in-Ok.ensures.text
    (λ short. c.in-Ok.ensures.whole (omega (
      arith,
      short,
      length-take-le c.in-Ok.count c.fill.new.buffer c.in-Ok.ensures.count,
      c.in-Ok.ensures.size,
    )))

pub returns-in-None-clause-record : goal.returns-in-None-clause-record
returns-in-None-clause-record g c =
    none_read _ _ _ c.in-None.ensures.record c.in-Ok.ensures.text
    (λ short. c.in-Ok.ensures.whole (omega (
      arith,
      short,
      length-take-le c.in-Ok.count c.fill.new.buffer c.in-Ok.ensures.count,
      c.in-Ok.ensures.size,
    )))

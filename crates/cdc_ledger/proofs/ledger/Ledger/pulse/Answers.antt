use Rattle.cdc_types.specs.declared.batches.Batch.TheVariants as batch
use Rattle.cdc_types.specs.declared.batches.BatchResults.TheVariants as results
use Rattle.cdc_ledger.proofs.Legal.{IsLegal-answered, on_ok}
use Rattle.cdc_ledger.proofs.ledger.Ledger.pulse.Goals as goal

pub invariant_of-self : goal.invariant_of-self
invariant_of-self c = (
  IsLegal-answered results.Pulsed c.self.inside.tables.history c.pulse.new.self.history
      (batch.Pulse c.args.now) c.pulse.result c.self.invariant.0
      (on_ok _ c.pulse.result c.ranges.now.fits) c.pulse.ensures.answers,
  c.pulse.ensures.emitted,
)

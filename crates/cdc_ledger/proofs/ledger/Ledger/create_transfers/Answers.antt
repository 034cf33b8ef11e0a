use Rattle.cdc_types.specs.declared.batches.Batch.TheVariants as batch
use Rattle.cdc_types.specs.declared.batches.BatchResults.TheVariants as results
use Rattle.cdc_ledger.proofs.Legal.{IsLegal-answered}
use Rattle.cdc_ledger.proofs.ledger.Ledger.create_transfers.Goals as goal

pub invariant_of-self : goal.invariant_of-self
invariant_of-self c = (
  IsLegal-answered (λ v. results.Transfers v.items) c.self.inside.tables.history
      c.create_transfers.new.self.history
      (batch.Transfers c.args.now c.args.requests.now) c.create_transfers.result c.self.invariant.0
      c.create_transfers.ensures.fit c.create_transfers.ensures.answers,
  c.create_transfers.ensures.emitted,
)

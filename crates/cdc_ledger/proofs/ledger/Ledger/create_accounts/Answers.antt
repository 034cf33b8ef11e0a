use Rattle.cdc_types.specs.declared.batches.Batch.TheVariants as batch
use Rattle.cdc_types.specs.declared.batches.BatchResults.TheVariants as results
use Rattle.cdc_ledger.proofs.KeptLaws.{IsSound-from_legal}
use Rattle.cdc_ledger.proofs.EmittedLaws.{IsEmitted-accounts}
use Rattle.cdc_ledger.proofs.Legal.{IsLegal-answered}
use Rattle.cdc_ledger.proofs.ledger.Ledger.create_accounts.Goals as goal

pub invariant_of-self : goal.invariant_of-self
invariant_of-self c = (
  IsLegal-answered (λ v. results.Accounts v.items) c.self.inside.tables.history
      c.create_accounts.new.self.history
      (batch.Accounts c.args.now c.args.requests.now) c.create_accounts.result c.self.invariant.0
      c.create_accounts.ensures.fit c.create_accounts.ensures.answers,
  IsEmitted-accounts (λ v. results.Accounts v.items) c.self.inside.tables.history
      c.create_accounts.new.self.history c.self.inside.emitted c.args.now c.args.requests.now c.create_accounts.result
      (IsSound-from_legal c.self.inside.tables.history c.self.invariant.0) c.self.invariant.1
      c.create_accounts.ensures.answers,
)

use Rattle.cdc_ledger.proofs.Words.{◌∙◌, sym}
use Rattle.cdc_ledger.proofs.Validated.{IsSome-place}
use Rattle.cdc_ledger.proofs.tables.Tables.settling.Goals as goal

pub unwrap-requires : goal.unwrap-requires
unwrap-requires c =
    IsSome-place c.args.self.now.history c.args.entry.transfer.debit_account_id c.account_place.result c.requires.0
    c.account_place.ensures

pub unwrap-requires-2 : goal.unwrap-requires-2
unwrap-requires-2 c =
    IsSome-place c.args.self.now.history c.args.entry.transfer.credit_account_id c.account_place-2.result
    c.requires.1 c.account_place-2.ensures

pub returns-clause-placed : goal.returns-clause-placed
returns-clause-placed c = record {
  debit = sym c.account_place.ensures ∙ c.unwrap.ensures;
  credit = sym c.account_place-2.ensures ∙ c.unwrap-2.ensures;
}

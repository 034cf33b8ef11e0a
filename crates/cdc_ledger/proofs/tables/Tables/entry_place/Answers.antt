use Rattle.cdc_ledger.proofs.Words.{◌∙◌, Contents, ap, stored_place}
use Rattle.cdc_ledger.proofs.tables.Tables.entry_place.Goals as goal

pub returns : goal.returns
returns c =
    c.find.ensures ∙ c.self.invariant.transfers_placed c.args.id
    ∙ ap (λ (v : Contents). stored_place v.history.entries c.args.id) c.self.view_is

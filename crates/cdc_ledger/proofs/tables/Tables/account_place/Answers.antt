use Rattle.cdc_ledger.proofs.Words.{◌∙◌, Account, Contents, List, account_place, accounts_now, ap}
use Rattle.cdc_ledger.proofs.tables.Tables.account_place.Goals as goal

pub returns : goal.returns
returns c =
    c.find.ensures ∙ c.self.invariant.accounts_placed c.args.id
    ∙ ap (λ (xs : List Account). account_place xs c.args.id) c.self.invariant.balanced
    ∙ ap (λ (v : Contents). account_place (accounts_now v.history) c.args.id) c.self.view_is

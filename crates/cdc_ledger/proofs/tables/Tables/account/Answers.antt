use Rattle.cdc_ledger.proofs.Words.{◌∙◌, Account, List, Some, account_now, account_with, accounts_now, ap, get_or, no_balances, nobody, option_copied, option_map, sym}
use Rattle.cdc_ledger.proofs.Found.{find-accounts_now}
use Rattle.cdc_ledger.proofs.Validated.{unopened-no_place}
use Rattle.cdc_ledger.proofs.AccountPlaces.{place-find}
use Rattle.cdc_ledger.proofs.tables.Tables.account.Goals as goal

pub returns-in_err-place-clause-account : goal.returns-in_err-place-clause-account
returns-in_err-place-clause-account c =
    let h = c.args.self.now.history in
    ap option_copied c.from_residual.ensures
    ∙ ap (option_map (account_now h))
    (sym (unopened-no_place h c.args.id (sym c.account_place.ensures ∙ c.in_err-place.was)))

pub returns-clause-account : goal.returns-clause-account
returns-clause-account c =
    let h = c.args.self.now.history in
    let place = c.in_ok-place.place in
    let none : Account = account_with nobody no_balances in
    ap (λ (xs : List Account). Some (get_or xs place none)) c.accounts-accounts.ensures.accounts
    ∙ sym (place-find (accounts_now h) c.args.id place none (sym c.account_place.ensures ∙ c.in_ok-place.was))
    ∙ find-accounts_now h c.args.id

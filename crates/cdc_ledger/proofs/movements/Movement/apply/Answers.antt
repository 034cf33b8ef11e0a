use Rattle.cdc_ledger.proofs.Words.{◌∙◌, Account, Effect, account_with, ap, credited_account, debited_account, effect_of_movement, get_or, no_balances, nobody, set}
use Rattle.cdc_ledger.proofs.AccountPlaces.{place-inside, place-id, credit-unchanged, both-changed}
use Rattle.cdc_ledger.proofs.movements.Movement.apply.Goals as goal

pub debit-requires : goal.debit-requires
debit-requires c =
    let m = c.args.self.now in
    let xs = c.args.accounts.now in
    let d : Account = account_with nobody no_balances in
    rw c.effect-effect.ensures
    ((c.requires.fits m.debit d (place-inside xs m.entry.transfer.debit_account_id m.debit d c.requires.placed.debit)).0
    (place-id xs m.entry.transfer.debit_account_id m.debit d c.requires.placed.debit))

pub credit-requires : goal.credit-requires
credit-requires c =
    let m = c.args.self.now in
    let xs = c.args.accounts.now in
    let d : Account = account_with nobody no_balances in
    rw (c.effect-effect.ensures, credit-unchanged xs m c.requires.placed c.requires.apart d c.debit.new.account)
    ((c.requires.fits m.credit d
    (place-inside xs m.entry.transfer.credit_account_id m.credit d c.requires.placed.credit)).1
    (place-id xs m.entry.transfer.credit_account_id m.credit d c.requires.placed.credit))

pub returns : goal.returns
returns c =
    let m = c.args.self.now in
    let xs = c.args.accounts.now in
    let d : Account = account_with nobody no_balances in
    both-changed xs m c.requires.placed c.requires.apart d c.debit.new.account c.credit.new.account c.requires.unique
    (c.debit.ensures ∙ ap (λ (f : Effect). debited_account f (get_or xs m.debit d)) c.effect-effect.ensures)
    (c.credit.ensures ∙ ap (λ (f : Effect). credited_account f (get_or (set xs m.debit c.debit.new.account) m.credit d))
    c.effect-effect.ensures
    ∙ ap (credited_account (effect_of_movement m))
    (credit-unchanged xs m c.requires.placed c.requires.apart d c.debit.new.account))

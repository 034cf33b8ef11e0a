use Rattle.cdc_ledger.proofs.Words.{◌∙◌, Contents, IsSound, accounts_now, ap, subst}
use Rattle.cdc_ledger.proofs.tables.Tables.accounts.Goals as goal

pub returns-clause-accounts : goal.returns-clause-accounts
returns-clause-accounts c =
    c.as_slice.ensures.value ∙ c.self.invariant.balanced ∙ ap (λ (v : Contents). accounts_now v.history) c.self.view_is

pub returns-clause-sound : goal.returns-clause-sound
returns-clause-sound c = subst (λ (v : Contents). IsSound v.history) c.self.view_is c.self.invariant.sound

use Rattle.cdc_ledger.proofs.Words.{◌∙◌, ◌≡◌, Account, ap, option_copied, option_map, rules}
use Rattle.cdc_ledger.proofs.Legal.{balances-account_now, debits_bounded, credits_bounded}
use Rattle.cdc_ledger.proofs.ledger.Ledger.balances.Goals as goal

found : goal.returns-clause-balances
found c =
    let mapped : c.map.result ≡ option_map (λ (a : Account). a.balances) (option_copied c.account.result) =
    search rules in
    mapped ∙ ap (option_map (λ (a : Account). a.balances)) c.account.ensures.account
    ∙ balances-account_now c.args.self.now c.args.id

pub returns-clause-balances : goal.returns-clause-balances
returns-clause-balances c = found c

pub returns-clause-debits : goal.returns-clause-debits
returns-clause-debits c = debits_bounded c.args.self.now c.args.id c.map.result c.account.ensures.bounded (found c)

pub returns-clause-credits : goal.returns-clause-credits
returns-clause-credits c = credits_bounded c.args.self.now c.args.id c.map.result c.account.ensures.bounded (found c)

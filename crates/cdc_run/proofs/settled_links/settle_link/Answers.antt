use Rattle.cdc_run.proofs.Words.{All, CanSend, IsAccount, subst}
use Rattle.cdc_run.proofs.settled_links.settle_link.Goals as goal

pub returns-clause-account : goal.returns-clause-account
returns-clause-account g c =
    let account = c.settle-tally.ensures.account in
    (account.0, subst (λ all. IsAccount c.args.into all account.0) c.in_ok-all.ensures account.1)

pub returns-clause-lawful : goal.returns-clause-lawful
returns-clause-lawful g c =
    subst (λ all. All (λ end. CanSend g.M.Message.may_follow end.number end.sent) all) c.in_ok-all.ensures
    c.settle-tally.ensures.lawful

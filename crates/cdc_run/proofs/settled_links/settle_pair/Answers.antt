use Rattle.cdc_run.proofs.Words.{IsAccount, [], ap, subst, ◌++◌, ◌∙◌, ◌∷◌, ◌≡◌}
use Rattle.cdc_run.proofs.settled_links.settle_pair.Goals as goal

pub returns-clause-account : goal.returns-clause-account
returns-clause-account g c =
    let account = c.in_ok-settle_link.ensures.account in
    let made : c.push_reserved.new.self.items ≡ c.args.second ∷ [] =
    c.push_reserved.ensures.items
    ∙ ap (λ all. all ++ c.args.second ∷ []) c.in_ok-others.ensures.items in
    (account.0, subst (λ all. IsAccount c.args.into (c.args.first ∷ all) account.0) made account.1)

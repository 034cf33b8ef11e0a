use Rattle.cdc_run.proofs.Words.{IsAccount, [], ap₂, subst, ◌++◌, ◌∙◌, ◌∷◌, ◌≡◌}
use Rattle.cdc_run.proofs.settled_links.settle_one.Goals as goal

pub returns : goal.returns
returns g c =
    let account = c.settle-tally.ensures.account in
    let made : c.push_reserved.new.self.items ≡ c.args.out ∷ [] =
    c.push_reserved.ensures.items
    ∙ ap₂ (λ all out. all ++ out ∷ []) c.in_ok-all.ensures.items c.hand_back.ensures in
    record {
      left = account.0;
      account = subst (λ all. IsAccount c.args.into all account.0) made account.1;
    }

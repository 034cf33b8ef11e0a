use Rattle.cdc_ledger.proofs.Words.{◌≤◌, Contents, subst, sym}
use Rattle.cdc_ledger.proofs.Kept.{IsKept-timed}
use Rattle.cdc_ledger.proofs.tables.Tables.take_timestamp.Goals as goal

pub invariant_of-self : goal.invariant_of-self
invariant_of-self c =
    IsKept-timed c.self.inside c.args.timestamp c.self.invariant
    (subst (λ (v : Contents). v.history.last ≤ c.args.timestamp) (sym c.self.view_is) c.requires.later)
    c.requires.within

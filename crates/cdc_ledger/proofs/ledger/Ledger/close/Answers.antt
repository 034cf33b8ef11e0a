use Rattle.cdc_ledger.proofs.Words.{◌∙◌, History, IsEmitted, ap, subst, sym, true}
use Rattle.cdc_ledger.proofs.ledger.Ledger.close.Goals as goal

pub invariant_of-self : goal.invariant_of-self
invariant_of-self c = (
  record {
    batches = c.self.invariant.0.batches;
    close = true;
    fit = c.self.invariant.0.fit;
    made = c.close.ensures ∙ ap (λ (h : History). record h { closed = true }) c.self.invariant.0.made;
  },
  subst (λ (h : History). IsEmitted h c.self.inside.emitted) (sym c.close.ensures)
      (record { logged = c.self.invariant.1.logged; indexed = c.self.invariant.1.indexed }),
)

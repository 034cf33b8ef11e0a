use Rattle.cdc_ledger.proofs.Words.{◌∙◌, IsLegal, ap, events, index_of, subst, sym}
use Rattle.cdc_ledger.proofs.LegalLaws.{IsLegal-empty}
use Rattle.cdc_ledger.proofs.ledger.Ledger.new.Goals as goal

pub invariant_of-result : goal.invariant_of-result
invariant_of-result c = (
  subst IsLegal (sym c.new.ensures) IsLegal-empty,
  record {
    logged = c.new-2.ensures.events ∙ ap events (sym c.new.ensures);
    indexed = c.new-2.ensures.triples ∙ ap index_of (sym c.new.ensures);
  },
)

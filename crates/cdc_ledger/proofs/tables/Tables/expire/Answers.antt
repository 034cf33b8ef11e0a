use Rattle.cdc_ledger.proofs.Words.{◌∙◌, Follows, IfSome, IsStoredAt, Option, Pending, ap, option_map, settled_by, subst, sym}
use Rattle.cdc_ledger.proofs.tables.Tables.expire.Goals as goal

pub take-requires-clause-movement : goal.take-requires-clause-movement
take-requires-clause-movement c = record {
  placed = c.settling-movement.ensures.placed;
  settled = ap (option_map (λ (p : Pending). p.transfer)) c.settling-movement.ensures.settled
      ∙ sym (ap (settled_by c.args.self.now.history) c.settling-movement.ensures.entry);
  found = subst (λ (o : Option Pending). IfSome o (λ p. IsStoredAt c.args.self.now.history p.transfer.id p.place))
      (sym c.settling-movement.ensures.settled) c.requires.found;
}

pub take-requires-clause-follows : goal.take-requires-clause-follows
take-requires-clause-follows c =
    subst (Follows c.args.self.now.history) (sym c.settling-movement.ensures.entry) c.requires.follows

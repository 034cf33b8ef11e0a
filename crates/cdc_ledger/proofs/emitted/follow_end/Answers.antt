use Rattle.cdc_ledger.proofs.Words.{◌∙◌, Option, Pending, ap, ends_after, option_map, sym, without}
use Rattle.cdc_ledger.proofs.emitted.follow_end.Goals as goal

pub returns-in-Some-clause-triples : goal.returns-in-Some-clause-triples
returns-in-Some-clause-triples c =
    c.remove-had_an_end.ensures.triples
    ∙ ap (λ n. without c.args.index.now.triples n c.in-Some.pending.transfer.timestamp) c.expires_at.ensures
    ∙ ap (λ (o : Option Pending). ends_after (option_map (λ p. p.transfer) o) c.args.movement.now.entry c.args.place
    c.args.index.now.triples) (sym c.in-Some.is)

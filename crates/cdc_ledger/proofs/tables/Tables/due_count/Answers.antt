use Rattle.cdc_ledger.proofs.Pulsed.{due_count-kept}
use Rattle.cdc_ledger.proofs.tables.Tables.due_count.Goals as goal

pub returns : goal.returns
returns c =
    due_count-kept c.args.self.now.history c.args.emitted.now.index.triples c.args.now c.due_count.result
    c.entries-entries.ensures.sound c.requires.indexed c.due_count.ensures

use Rattle.cdc_ledger.proofs.Words.{rules}
use Rattle.cdc_ledger.proofs.BatchLaws.{no_entry}
use Rattle.cdc_ledger.proofs.Expiring.{IsSome-answer, IsDueNext-read, IsStoredAt-read, slot-inside}
use Rattle.cdc_ledger.proofs.tables.Tables.first_due.Goals as goal

pub unwrap-first-requires : goal.unwrap-first-requires
unwrap-first-requires c =
    IsSome-answer c.args.self.now.history c.args.emitted.now.index.triples c.args.now c.due.result
    c.requires.emitted.indexed c.requires.some c.due.ensures

pub bounds-entries-first : goal.bounds-entries-first
bounds-entries-first c =
    slot-inside c.args.self.now.history c.args.emitted.now.index.triples c.args.now c.due.result c.unwrap-first.result
    c.entries-entries.ensures.sound c.requires.emitted.indexed c.due.ensures c.unwrap-first.ensures
    c.entries-entries.result.now c.entries-entries.ensures.entries no_entry

pub returns : goal.returns
returns c = record {
  next = IsDueNext-read c.args.self.now.history c.args.emitted.now.index.triples c.args.now c.due.result
      c.unwrap-first.result c.entries-entries.ensures.sound c.requires.emitted.indexed c.due.ensures
      c.unwrap-first.ensures c.entries-entries.result.now c.entries-entries.ensures.entries no_entry;
  found = IsStoredAt-read c.args.self.now.history c.args.emitted.now.index.triples c.args.now c.due.result
      c.unwrap-first.result c.entries-entries.ensures.sound c.requires.emitted.indexed c.due.ensures
      c.unwrap-first.ensures c.entries-entries.result.now c.entries-entries.ensures.entries no_entry;
}

pub offset_bounds-entries-first : goal.offset_bounds-entries-first
offset_bounds-entries-first c =
    let inside = slot-inside c.args.self.now.history c.args.emitted.now.index.triples c.args.now c.due.result
    c.unwrap-first.result c.entries-entries.ensures.sound c.requires.emitted.indexed c.due.ensures
    c.unwrap-first.ensures c.entries-entries.result.now c.entries-entries.ensures.entries no_entry in
    search rules

use Rattle.std.proofs.Common.{◌≡◌, length, map}
use Rattle.std.specs.Prelude.{string_bytes}
use Rattle.cdc_chain_command.proofs.RunLemmas.{Goes}
use Rattle.cdc_chain_command.specs.Private.Steps.{FitsLog}
use Rattle.cdc_chain_command.proofs.commands.take_lines.Given as goal

-- the lines up to this number were taken
abbrev pub invariant-loop-number : goal.invariant-loop-number
invariant-loop-number g l = record {
  queues : length l.chain.places ≡ length l.fn.chain.places;
  fits : FitsLog g.L.LogStore.texts (map (λ t. t.items) l.setup.texts.items) l.store;
  goes : Goes l.setup.bindings.items (map (λ t. t.items) l.setup.texts.items) l.fn.chain
      (g.W.Write.contents l.fn.writer) (g.L.LogStore.texts l.fn.store.log.store) (g.B.Read.remaining l.fn.reader) l.chain l.number
      (g.B.Read.remaining l.reader) (g.W.Write.contents l.writer) (string_bytes l.lines) (g.L.LogStore.texts l.store.log.store);
}

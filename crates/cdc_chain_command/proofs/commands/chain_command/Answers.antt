use Rattle.std.proofs.Common.{map, refl}
use Rattle.std.specs.Prelude.{string_bytes}
use Rattle.cdc_chain_command.proofs.RunLemmas.{ends_at_once, ends_by, ends_short}
use Rattle.cdc_chain_command.proofs.commands.chain_command.Goals as goal

pub returns-in-Err : goal.returns-in-Err
returns-in-Err g c =
    ends_at_once c.args.setup.now.bindings.items (map (λ t. t.items) c.args.setup.now.texts.items) c.args.chain.now
    (g.W.Write.contents c.args.writer.now) (g.L.LogStore.texts c.args.store.now.log.store) (g.B.Read.remaining c.args.reader.now)
    c.in-Err.fault c.take_lines.new.chain c.take_lines.new.chain (g.W.Write.contents c.take_lines.new.writer)
    (string_bytes c.take_lines.new.lines) (g.L.LogStore.texts c.take_lines.new.store.log.store) c.in-Err.ensures.takes

pub returns-in-Err-save : goal.returns-in-Err-save
returns-in-Err-save g c =
    ends_short c.args.setup.now.bindings.items (map (λ t. t.items) c.args.setup.now.texts.items) c.args.chain.now
    (g.W.Write.contents c.args.writer.now) (g.L.LogStore.texts c.args.store.now.log.store) (g.B.Read.remaining c.args.reader.now)
    c.in-Ok.ending c.in-Err-save.fault c.take_lines.new.chain c.take_lines.new.chain
    (g.W.Write.contents c.take_lines.new.writer) (g.W.Write.contents c.save.new.writer)
    (string_bytes c.take_lines.new.lines) (g.L.LogStore.texts c.take_lines.new.store.log.store)
    (g.L.LogStore.texts c.save.new.store.log.store) c.in-Ok.ensures.takes c.in-Err-save.ensures.err.0 c.in-Err-save.ensures.err.1

pub returns : goal.returns
returns g c =
    ends_by c.args.setup.now.bindings.items (map (λ t. t.items) c.args.setup.now.texts.items) c.args.chain.now
    (g.W.Write.contents c.args.writer.now) (g.L.LogStore.texts c.args.store.now.log.store) (g.B.Read.remaining c.args.reader.now)
    c.in-Ok.ending c.take_lines.new.chain c.take_lines.new.chain (g.W.Write.contents c.take_lines.new.writer)
    (g.W.Write.contents c.save.new.writer) (string_bytes c.take_lines.new.lines) (string_bytes c.save.new.lines)
    (g.L.LogStore.texts c.take_lines.new.store.log.store) (g.L.LogStore.texts c.save.new.store.log.store) c.in-Ok.ensures.takes refl
    c.in_default.ensures.saved

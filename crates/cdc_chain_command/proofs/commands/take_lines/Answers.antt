use Rattle.std.proofs.Common.{◌+◌, ◌∙◌, ap, map, refl}
use Rattle.std.specs.Prelude.{Err, Option, Result, string_bytes}
use Rattle.cdc_follow.specs.declared.streams.FollowError.{FollowError}
use Rattle.cdc_output.specs.declared.faults.ProgramFault.TheVariants.{OutOfMemory, ReadFault}
use Rattle.cdc_chain.specs.declared.streams.ChainStop.{ChainStop}
use Rattle.cdc_chain_command.proofs.RunLemmas.{goes_cut, goes_due, goes_end, goes_from, goes_on, goes_wrote}
use Rattle.cdc_chain_command.proofs.RunLemmas.{memory_fails, part_fails}
use Rattle.cdc_chain_command.proofs.commands.take_lines.Goals as goal

pub loop-number-init : goal.loop-number-init
loop-number-init g c = record {
  queues = refl;
  fits = c.requires.fits;
  goes = goes_from c.args.setup.now.bindings.items (map (λ t. t.items) c.args.setup.now.texts.items) c.args.chain.now
      (g.W.Write.contents c.args.writer.now) (g.L.LogStore.texts c.args.store.now.log.store) (g.B.Read.remaining
      c.args.reader.now)
      (string_bytes c.args.lines.now) c.requires.none;
}

pub returns-in-Err-clause-takes : goal.returns-in-Err-clause-takes
returns-in-Err-clause-takes g c =
    part_fails c.args.setup.now.bindings.items (map (λ t. t.items) c.args.setup.now.texts.items) c.args.chain.now
    (g.W.Write.contents c.args.writer.now) (g.L.LogStore.texts c.args.store.now.log.store) (g.B.Read.remaining c.args.reader.now)
    c.loop-number.chain c.loop-number.chain c.loop-number.number (g.B.Read.remaining c.loop-number.reader)
    (g.W.Write.contents c.loop-number.writer) (g.W.Write.contents c.save_if_due.new.writer)
    (string_bytes c.loop-number.lines) (string_bytes c.save_if_due.new.lines) (g.L.LogStore.texts c.loop-number.store.log.store)
    (g.L.LogStore.texts c.save_if_due.new.store.log.store) c.in-Err.fault c.loop-number.invariant.goes c.in-Err.ensures.err.0
    c.in-Err.ensures.err.1

pub returns-in-Err-write_if_many-clause-takes : goal.returns-in-Err-write_if_many-clause-takes
returns-in-Err-write_if_many-clause-takes g c =
    let so_far = goes_due c.args.setup.now.bindings.items (map (λ t. t.items) c.args.setup.now.texts.items)
    c.args.chain.now
    (g.W.Write.contents c.args.writer.now) (g.L.LogStore.texts c.args.store.now.log.store) (g.B.Read.remaining c.args.reader.now)
    _ c.loop-number.chain c.loop-number.number (g.B.Read.remaining c.has_line-waits.new.self)
    (g.W.Write.contents c.loop-number.writer) (g.W.Write.contents c.save_if_due.new.writer)
    (string_bytes c.loop-number.lines) (string_bytes c.save_if_due.new.lines) (g.L.LogStore.texts c.loop-number.store.log.store)
    (g.L.LogStore.texts c.save_if_due.new.store.log.store) (rw c.has_line-waits.ensures.left c.loop-number.invariant.goes)
    c.in_default.ensures.saved
    (λ no. let same = c.in_default.ensures.same no in
    (ap g.W.Write.contents same.0, ap string_bytes same.1, ap (λ s. g.L.LogStore.texts s.log.store) same.2)) in
    let goes = goes_on c.args.setup.now.bindings.items (map (λ t. t.items) c.args.setup.now.texts.items)
    c.args.chain.now
    (g.W.Write.contents c.args.writer.now) (g.L.LogStore.texts c.args.store.now.log.store) (g.B.Read.remaining c.args.reader.now)
    c.loop-number.chain c.chain_line.new.chain c.loop-number.number c.in-Ok-None.field-0
    (g.B.Read.remaining c.has_line-waits.new.self) (g.B.Read.remaining c.chain_line.new.reader)
    (g.W.Write.contents c.save_if_due.new.writer) (string_bytes c.save_if_due.new.lines)
    (string_bytes c.chain_line.new.text) (g.L.LogStore.texts c.save_if_due.new.store.log.store) so_far c.in-Ok-None.field-0-is
    (rw c.as_slice.ensures.value at c.in-Ok-None.ensures.makes) in
    part_fails c.args.setup.now.bindings.items (map (λ t. t.items) c.args.setup.now.texts.items) c.args.chain.now
    (g.W.Write.contents c.args.writer.now) (g.L.LogStore.texts c.args.store.now.log.store) (g.B.Read.remaining c.args.reader.now)
    c.chain_line.new.chain c.chain_line.new.chain (c.loop-number.number + 1)
    (g.B.Read.remaining c.chain_line.new.reader) (g.W.Write.contents c.save_if_due.new.writer)
    (g.W.Write.contents c.write_if_many.new.writer) (string_bytes c.chain_line.new.text)
    (string_bytes c.write_if_many.new.lines) (g.L.LogStore.texts c.save_if_due.new.store.log.store)
    (g.L.LogStore.texts c.save_if_due.new.store.log.store) c.in-Err-write_if_many.fault goes
    c.in-Err-write_if_many.ensures.writes refl

pub returns-in-Ok-Some-clause-takes : goal.returns-in-Ok-Some-clause-takes
returns-in-Ok-Some-clause-takes g c =
    let so_far = goes_due c.args.setup.now.bindings.items (map (λ t. t.items) c.args.setup.now.texts.items)
    c.args.chain.now
    (g.W.Write.contents c.args.writer.now) (g.L.LogStore.texts c.args.store.now.log.store) (g.B.Read.remaining c.args.reader.now)
    _ c.loop-number.chain c.loop-number.number (g.B.Read.remaining c.has_line-waits.new.self)
    (g.W.Write.contents c.loop-number.writer) (g.W.Write.contents c.save_if_due.new.writer)
    (string_bytes c.loop-number.lines) (string_bytes c.save_if_due.new.lines) (g.L.LogStore.texts c.loop-number.store.log.store)
    (g.L.LogStore.texts c.save_if_due.new.store.log.store) (rw c.has_line-waits.ensures.left c.loop-number.invariant.goes)
    c.in_default.ensures.saved
    (λ no. let same = c.in_default.ensures.same no in
    (ap g.W.Write.contents same.0, ap string_bytes same.1, ap (λ s. g.L.LogStore.texts s.log.store) same.2)) in
    goes_end c.args.setup.now.bindings.items (map (λ t. t.items) c.args.setup.now.texts.items) c.args.chain.now
    (g.W.Write.contents c.args.writer.now) (g.L.LogStore.texts c.args.store.now.log.store) (g.B.Read.remaining c.args.reader.now)
    c.loop-number.chain c.chain_line.new.chain c.loop-number.number c.in-Ok-Some.stop
    (g.B.Read.remaining c.has_line-waits.new.self) (g.B.Read.remaining c.chain_line.new.reader)
    (g.W.Write.contents c.save_if_due.new.writer) (string_bytes c.save_if_due.new.lines)
    (string_bytes c.chain_line.new.text) (g.L.LogStore.texts c.save_if_due.new.store.log.store) so_far
    (rw (c.in-Ok-Some.field-0-is, c.as_slice.ensures.value) at c.in-Ok-Some.ensures.makes)

pub returns-in-Err-OutOfMemory-clause-takes : goal.returns-in-Err-OutOfMemory-clause-takes
returns-in-Err-OutOfMemory-clause-takes g c =
    let so_far = goes_due c.args.setup.now.bindings.items (map (λ t. t.items) c.args.setup.now.texts.items)
    c.args.chain.now
    (g.W.Write.contents c.args.writer.now) (g.L.LogStore.texts c.args.store.now.log.store) (g.B.Read.remaining c.args.reader.now)
    _ c.loop-number.chain c.loop-number.number (g.B.Read.remaining c.has_line-waits.new.self)
    (g.W.Write.contents c.loop-number.writer) (g.W.Write.contents c.save_if_due.new.writer)
    (string_bytes c.loop-number.lines) (string_bytes c.save_if_due.new.lines) (g.L.LogStore.texts c.loop-number.store.log.store)
    (g.L.LogStore.texts c.save_if_due.new.store.log.store) (rw c.has_line-waits.ensures.left c.loop-number.invariant.goes)
    c.in_default.ensures.saved
    (λ no. let same = c.in_default.ensures.same no in
    (ap g.W.Write.contents same.0, ap string_bytes same.1, ap (λ s. g.L.LogStore.texts s.log.store) same.2)) in
    memory_fails c.args.setup.now.bindings.items (map (λ t. t.items) c.args.setup.now.texts.items) c.args.chain.now
    (g.W.Write.contents c.args.writer.now) (g.L.LogStore.texts c.args.store.now.log.store) (g.B.Read.remaining c.args.reader.now)
    c.loop-number.chain c.chain_line.new.chain c.loop-number.number (g.B.Read.remaining c.has_line-waits.new.self)
    (g.W.Write.contents c.save_if_due.new.writer) (string_bytes c.save_if_due.new.lines)
    (string_bytes c.chain_line.new.text) (g.L.LogStore.texts c.save_if_due.new.store.log.store) OutOfMemory so_far

pub returns-in-Err-Read-clause-takes : goal.returns-in-Err-Read-clause-takes
returns-in-Err-Read-clause-takes g c =
    let so_far = goes_due c.args.setup.now.bindings.items (map (λ t. t.items) c.args.setup.now.texts.items)
    c.args.chain.now
    (g.W.Write.contents c.args.writer.now) (g.L.LogStore.texts c.args.store.now.log.store) (g.B.Read.remaining c.args.reader.now)
    _ c.loop-number.chain c.loop-number.number (g.B.Read.remaining c.has_line-waits.new.self)
    (g.W.Write.contents c.loop-number.writer) (g.W.Write.contents c.save_if_due.new.writer)
    (string_bytes c.loop-number.lines) (string_bytes c.save_if_due.new.lines) (g.L.LogStore.texts c.loop-number.store.log.store)
    (g.L.LogStore.texts c.save_if_due.new.store.log.store) (rw c.has_line-waits.ensures.left c.loop-number.invariant.goes)
    c.in_default.ensures.saved
    (λ no. let same = c.in_default.ensures.same no in
    (ap g.W.Write.contents same.0, ap string_bytes same.1, ap (λ s. g.L.LogStore.texts s.log.store) same.2)) in
    let same = c.in-Err-Read.ensures.read c.in-Err-Read.error
    (ap (λ (e : FollowError). let r : Result (Option ChainStop) FollowError = Err e in r) c.in-Err-Read.field-0-is) in
    goes_cut c.args.setup.now.bindings.items (map (λ t. t.items) c.args.setup.now.texts.items) c.args.chain.now
    (g.W.Write.contents c.args.writer.now) (g.L.LogStore.texts c.args.store.now.log.store) (g.B.Read.remaining c.args.reader.now)
    c.loop-number.chain c.chain_line.new.chain c.loop-number.number c.fault_of.result
    (g.B.Read.remaining c.has_line-waits.new.self) (g.W.Write.contents c.save_if_due.new.writer)
    (string_bytes c.save_if_due.new.lines) (string_bytes c.chain_line.new.text)
    (g.L.LogStore.texts c.save_if_due.new.store.log.store) so_far same.0 same.1

pub loop-number-preserved : goal.loop-number-preserved
loop-number-preserved g c =
    let so_far = goes_due c.args.setup.now.bindings.items (map (λ t. t.items) c.args.setup.now.texts.items)
    c.args.chain.now
    (g.W.Write.contents c.args.writer.now) (g.L.LogStore.texts c.args.store.now.log.store) (g.B.Read.remaining c.args.reader.now)
    _ c.loop-number.chain c.loop-number.number (g.B.Read.remaining c.has_line-waits.new.self)
    (g.W.Write.contents c.loop-number.writer) (g.W.Write.contents c.save_if_due.new.writer)
    (string_bytes c.loop-number.lines) (string_bytes c.save_if_due.new.lines) (g.L.LogStore.texts c.loop-number.store.log.store)
    (g.L.LogStore.texts c.save_if_due.new.store.log.store) (rw c.has_line-waits.ensures.left c.loop-number.invariant.goes)
    c.in_default.ensures.saved
    (λ no. let same = c.in_default.ensures.same no in
    (ap g.W.Write.contents same.0, ap string_bytes same.1, ap (λ s. g.L.LogStore.texts s.log.store) same.2)) in
    let goes = goes_on c.args.setup.now.bindings.items (map (λ t. t.items) c.args.setup.now.texts.items)
    c.args.chain.now
    (g.W.Write.contents c.args.writer.now) (g.L.LogStore.texts c.args.store.now.log.store) (g.B.Read.remaining c.args.reader.now)
    c.loop-number.chain c.chain_line.new.chain c.loop-number.number c.in-Ok-None.field-0
    (g.B.Read.remaining c.has_line-waits.new.self) (g.B.Read.remaining c.chain_line.new.reader)
    (g.W.Write.contents c.save_if_due.new.writer) (string_bytes c.save_if_due.new.lines)
    (string_bytes c.chain_line.new.text) (g.L.LogStore.texts c.save_if_due.new.store.log.store) so_far c.in-Ok-None.field-0-is
    (rw c.as_slice.ensures.value at c.in-Ok-None.ensures.makes) in record {
      queues = c.in-Ok-None.ensures.many ∙ c.loop-number.invariant.queues;
      fits = c.in_default.ensures.fits;
      goes = goes_wrote c.args.setup.now.bindings.items (map (λ t. t.items) c.args.setup.now.texts.items)
          c.args.chain.now
          (g.W.Write.contents c.args.writer.now) (g.L.LogStore.texts c.args.store.now.log.store) (g.B.Read.remaining
          c.args.reader.now)
          c.in_default-write_if_many.field-0 c.chain_line.new.chain (c.loop-number.number + 1)
          (g.B.Read.remaining c.chain_line.new.reader) (g.W.Write.contents c.save_if_due.new.writer)
          (g.W.Write.contents c.write_if_many.new.writer) (string_bytes c.chain_line.new.text)
          (string_bytes c.write_if_many.new.lines) (g.L.LogStore.texts c.save_if_due.new.store.log.store) goes
          c.in_default-write_if_many.ensures.writes;
    }

pub returns-clause-takes : goal.returns-clause-takes
returns-clause-takes g c =
    goes_cut c.args.setup.now.bindings.items (map (λ t. t.items) c.args.setup.now.texts.items) c.args.chain.now
    (g.W.Write.contents c.args.writer.now) (g.L.LogStore.texts c.args.store.now.log.store) (g.B.Read.remaining c.args.reader.now)
    c.loop-number.chain c.loop-number.chain c.loop-number.number (ReadFault c.from.result)
    (g.B.Read.remaining c.loop-number.reader) (g.W.Write.contents c.loop-number.writer)
    (string_bytes c.loop-number.lines) (string_bytes c.loop-number.lines) (g.L.LogStore.texts c.loop-number.store.log.store)
    c.loop-number.invariant.goes refl refl

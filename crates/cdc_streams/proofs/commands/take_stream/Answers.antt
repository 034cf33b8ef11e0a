use Rattle.std.proofs.Common.{Ok, Err, ap, subst, sym}
use Rattle.std.specs.Prelude.{IfSome}
use Rattle.cdc_output.specs.declared.faults.ProgramFault.TheVariants.{ReadFault}
use Rattle.cdc_streams.proofs.RunLemmas.{CanSave, can_save, can_save_last, due_fails, run_begins, run_due, run_fails}
use Rattle.cdc_streams.proofs.RunLemmas.{run_on, run_stops, save_ends, save_fails}
use Rattle.cdc_streams.proofs.SavingLemmas.{some_any, some_map}
use Rattle.cdc_streams.proofs.commands.take_stream.Goals as goal
use Rattle.cdc_streams.proofs.commands.take_stream.Goals.{in-Ok-Some, in-Err-take_line}

pub loop-number-init : goal.loop-number-init
loop-number-init g c = record {
  run = run_begins (g.C.Consumer.prints_saved c.args.setup.now) (g.C.Consumer.has_taken c.args.setup.now)
      (g.C.Consumer.stops c.args.setup.now) (g.C.Consumer.stands c.args.setup.now)
      (g.met.C.Consumer.begins c.args.setup.now) (g.met.C.Consumer.stands_for_it c.args.setup.now)
      (g.K.Keeps.has_kept c.args.setup.now) (g.C.Saved.state c.args.consumer.now) c.args.saver.now.store
      (g.B.Read.remaining c.args.reader.now) (g.W.Write.contents c.args.writer.now)
      (g.met.K.Keeps.has_kept_none c.args.setup.now) (g.C.Saved.state c.forget_changes.new.self)
      c.forget_changes.ensures.state;
  fits = some_any (λ store. g.K.Keeps.fits c.args.setup.now store c.forget_changes.new.self)
      (λ store. g.met.K.Keeps.fits_untracked c.args.setup.now store c.forget_changes.new.self
      c.forget_changes.ensures.untracked) c.args.saver.now.store;
}

pub returns-in-Err-clause-saved : goal.returns-in-Err-clause-saved
returns-in-Err-clause-saved g c =
    due_fails (g.C.Consumer.prints_saved c.args.setup.now) (g.C.Consumer.has_taken c.args.setup.now)
    (g.C.Consumer.stops c.args.setup.now) (g.C.Consumer.stands c.args.setup.now)
    (g.met.C.Consumer.begins c.args.setup.now) (g.met.C.Consumer.stands_for_it c.args.setup.now)
    (g.K.Keeps.has_kept c.args.setup.now) (g.C.Saved.state c.args.consumer.now) c.args.saver.now.store
    (g.B.Read.remaining c.args.reader.now) (g.W.Write.contents c.args.writer.now)
    (Unit {0}) _ (g.C.Saved.state c.loop-number.consumer) (g.C.Saved.state c.save_if_due.new.consumer)
    c.loop-number.saver.store c.save_if_due.new.self.store (g.W.Write.contents c.loop-number.writer)
    (g.W.Write.contents c.save_if_due.new.writer) c.in-Err.fault
    (can_save (g.C.Consumer.prints_saved c.args.setup.now) (g.C.Consumer.has_taken c.args.setup.now)
    (g.C.Consumer.stops c.args.setup.now) (g.C.Consumer.stands c.args.setup.now)
    (g.met.C.Consumer.begins c.args.setup.now) (g.met.C.Consumer.stands_for_it c.args.setup.now)
    (g.K.Keeps.has_kept c.args.setup.now) (g.C.Saved.state c.args.consumer.now) c.args.saver.now.store
    (g.B.Read.remaining c.args.reader.now) (g.W.Write.contents c.args.writer.now)
    (g.C.Saved.state c.loop-number.consumer) c.loop-number.number c.loop-number.saver.store
    (g.B.Read.remaining c.loop-number.reader) (g.W.Write.contents c.loop-number.writer) c.loop-number.invariant.run)
    (λ due. c.in-Err.ensures.saved due c.loop-number.invariant.fits) c.in-Err.ensures.fine

pub loop-number-preserved : goal.loop-number-preserved
loop-number-preserved g c =
    let so_far = run_due (g.C.Consumer.prints_saved c.args.setup.now) (g.C.Consumer.has_taken c.args.setup.now)
    (g.C.Consumer.stops c.args.setup.now) (g.C.Consumer.stands c.args.setup.now)
    (g.met.C.Consumer.begins c.args.setup.now) (g.met.C.Consumer.stands_for_it c.args.setup.now)
    (g.K.Keeps.has_kept c.args.setup.now) (g.C.Saved.state c.args.consumer.now) c.args.saver.now.store
    (g.B.Read.remaining c.args.reader.now) (g.W.Write.contents c.args.writer.now)
    c.in_default.field-0 _ (g.C.Saved.state c.loop-number.consumer) (g.C.Saved.state c.save_if_due.new.consumer)
    c.loop-number.number c.loop-number.saver.store c.save_if_due.new.self.store
    (g.B.Read.remaining c.has_line-waits.new.self) (g.W.Write.contents c.loop-number.writer)
    (g.W.Write.contents c.save_if_due.new.writer) (rw c.has_line-waits.ensures.left c.loop-number.invariant.run)
    c.in_default.ensures.state
    (λ due. c.in_default.ensures.saved due c.loop-number.invariant.fits)
    (λ no. let same = c.in_default.ensures.same no in
    (ap (λ s. s.store) same.0, ap g.W.Write.contents same.2)) in record {
      run = rw c.count_line.ensures (run_on (g.C.Consumer.prints_saved c.args.setup.now) (g.C.Consumer.has_taken
          c.args.setup.now)
          (g.C.Consumer.stops c.args.setup.now) (g.C.Consumer.stands c.args.setup.now)
          (g.met.C.Consumer.begins c.args.setup.now) (g.met.C.Consumer.stands_for_it c.args.setup.now)
          (g.K.Keeps.has_kept c.args.setup.now) (g.C.Saved.state c.args.consumer.now) c.args.saver.now.store
          (g.B.Read.remaining c.args.reader.now) (g.W.Write.contents c.args.writer.now)
          (g.C.Saved.state c.save_if_due.new.consumer) (g.C.Saved.state c.take_line.new.self) c.loop-number.number
          c.in-Ok-None.field-0 c.save_if_due.new.self.store (g.B.Read.remaining c.has_line-waits.new.self)
          (g.B.Read.remaining c.take_line.new.reader) (g.W.Write.contents c.save_if_due.new.writer) so_far
          c.in-Ok-None.field-0-is c.in-Ok-None.ensures.leads);
      fits = rw c.count_line.ensures (some_map (λ store. g.K.Keeps.fits c.args.setup.now store
          c.save_if_due.new.consumer)
          (λ store. g.K.Keeps.fits c.args.setup.now store c.take_line.new.self)
          (λ store. g.met.K.Keeps.fits_on c.args.setup.now store c.save_if_due.new.consumer c.take_line.new.self
          c.in-Ok-None.ensures.moves)
          c.save_if_due.new.self.store (c.in_default.ensures.fits c.loop-number.invariant.fits));
    }

pub returns-in-Err-save-clause-saved : goal.returns-in-Err-save-clause-saved
returns-in-Err-save-clause-saved g c =
    let so_far = run_due (g.C.Consumer.prints_saved c.args.setup.now) (g.C.Consumer.has_taken c.args.setup.now)
    (g.C.Consumer.stops c.args.setup.now) (g.C.Consumer.stands c.args.setup.now)
    (g.met.C.Consumer.begins c.args.setup.now) (g.met.C.Consumer.stands_for_it c.args.setup.now)
    (g.K.Keeps.has_kept c.args.setup.now) (g.C.Saved.state c.args.consumer.now) c.args.saver.now.store
    (g.B.Read.remaining c.args.reader.now) (g.W.Write.contents c.args.writer.now)
    c.in_default.field-0 _ (g.C.Saved.state c.loop-number.consumer) (g.C.Saved.state c.save_if_due.new.consumer)
    c.loop-number.number c.loop-number.saver.store c.save_if_due.new.self.store
    (g.B.Read.remaining c.has_line-waits.new.self) (g.W.Write.contents c.loop-number.writer)
    (g.W.Write.contents c.save_if_due.new.writer) (rw c.has_line-waits.ensures.left c.loop-number.invariant.run)
    c.in_default.ensures.state
    (λ due. c.in_default.ensures.saved due c.loop-number.invariant.fits)
    (λ no. let same = c.in_default.ensures.same no in
    (ap (λ s. s.store) same.0, ap g.W.Write.contents same.2)) in
    elim c.match-take_line.branch [
      | in-Ok-Some w ↦ (save_fails (g.C.Consumer.prints_saved c.args.setup.now) (g.C.Consumer.has_taken
          c.args.setup.now)
          (g.C.Consumer.stops c.args.setup.now) (g.C.Consumer.stands c.args.setup.now)
          (g.met.C.Consumer.begins c.args.setup.now) (g.met.C.Consumer.stands_for_it c.args.setup.now)
          (g.K.Keeps.has_kept c.args.setup.now) (g.C.Saved.state c.args.consumer.now) c.args.saver.now.store
          (g.B.Read.remaining c.args.reader.now) (g.W.Write.contents c.args.writer.now)
          (Unit {0}) (g.C.Saved.state c.take_line.new.self) (g.C.Saved.state c.save.new.consumer)
          c.save_if_due.new.self.store
          c.save.new.self.store (g.W.Write.contents c.save_if_due.new.writer) (g.W.Write.contents c.save.new.writer)
          c.in-Err-save.fault (can_save_last (g.C.Consumer.prints_saved c.args.setup.now) (g.C.Consumer.has_taken
          c.args.setup.now)
          (g.C.Consumer.stops c.args.setup.now) (g.C.Consumer.stands c.args.setup.now)
          (g.met.C.Consumer.begins c.args.setup.now) (g.met.C.Consumer.stands_for_it c.args.setup.now)
          (g.K.Keeps.has_kept c.args.setup.now) (g.C.Saved.state c.args.consumer.now) c.args.saver.now.store
          (g.B.Read.remaining c.args.reader.now) (g.W.Write.contents c.args.writer.now)
          (g.C.Saved.state c.save_if_due.new.consumer) (g.C.Saved.state c.take_line.new.self) c.loop-number.number
          w.in-Ok-Some.stop c.save_if_due.new.self.store (g.B.Read.remaining c.has_line-waits.new.self)
          (g.B.Read.remaining c.take_line.new.reader) (g.W.Write.contents c.save_if_due.new.writer) so_far
          (rw w.in-Ok-Some.field-0-is at w.in-Ok-Some.ensures.leads)) (c.in-Err-save.ensures.saved (some_map (λ
          store. g.K.Keeps.fits c.args.setup.now store c.save_if_due.new.consumer)
          (λ store. g.K.Keeps.fits c.args.setup.now store c.take_line.new.self)
          (λ store. g.met.K.Keeps.fits_on c.args.setup.now store c.save_if_due.new.consumer c.take_line.new.self
          w.in-Ok-Some.ensures.moves)
          c.save_if_due.new.self.store (c.in_default.ensures.fits c.loop-number.invariant.fits))))
      | in-Err-take_line w ↦ (save_fails (g.C.Consumer.prints_saved c.args.setup.now) (g.C.Consumer.has_taken
          c.args.setup.now)
          (g.C.Consumer.stops c.args.setup.now) (g.C.Consumer.stands c.args.setup.now)
          (g.met.C.Consumer.begins c.args.setup.now) (g.met.C.Consumer.stands_for_it c.args.setup.now)
          (g.K.Keeps.has_kept c.args.setup.now) (g.C.Saved.state c.args.consumer.now) c.args.saver.now.store
          (g.B.Read.remaining c.args.reader.now) (g.W.Write.contents c.args.writer.now)
          (Unit {0}) (g.C.Saved.state c.take_line.new.self) (g.C.Saved.state c.save.new.consumer)
          c.save_if_due.new.self.store
          c.save.new.self.store (g.W.Write.contents c.save_if_due.new.writer) (g.W.Write.contents c.save.new.writer)
          c.in-Err-save.fault (subst (λ s. CanSave (g.C.Consumer.prints_saved c.args.setup.now)
          (g.C.Consumer.has_taken c.args.setup.now)
          (g.C.Consumer.stops c.args.setup.now) (g.C.Consumer.stands c.args.setup.now)
          (g.met.C.Consumer.begins c.args.setup.now) (g.met.C.Consumer.stands_for_it c.args.setup.now)
          (g.K.Keeps.has_kept c.args.setup.now) (g.C.Saved.state c.args.consumer.now) c.args.saver.now.store
          (g.B.Read.remaining c.args.reader.now) (g.W.Write.contents c.args.writer.now) s
          c.save_if_due.new.self.store (g.W.Write.contents c.save_if_due.new.writer))
          (ap g.C.Saved.state (sym w.in-Err-take_line.ensures.err))
          (can_save (g.C.Consumer.prints_saved c.args.setup.now) (g.C.Consumer.has_taken c.args.setup.now)
          (g.C.Consumer.stops c.args.setup.now) (g.C.Consumer.stands c.args.setup.now)
          (g.met.C.Consumer.begins c.args.setup.now) (g.met.C.Consumer.stands_for_it c.args.setup.now)
          (g.K.Keeps.has_kept c.args.setup.now) (g.C.Saved.state c.args.consumer.now) c.args.saver.now.store
          (g.B.Read.remaining c.args.reader.now) (g.W.Write.contents c.args.writer.now)
          (g.C.Saved.state c.save_if_due.new.consumer) c.loop-number.number c.save_if_due.new.self.store
          (g.B.Read.remaining c.has_line-waits.new.self) (g.W.Write.contents c.save_if_due.new.writer) so_far))
          (c.in-Err-save.ensures.saved (subst (λ it. IfSome c.save_if_due.new.self.store (λ store.
          g.K.Keeps.fits c.args.setup.now store it))
          (sym w.in-Err-take_line.ensures.err) (c.in_default.ensures.fits c.loop-number.invariant.fits))))
    ]

pub returns-in-loop-number-clause-saved : goal.returns-in-loop-number-clause-saved
returns-in-loop-number-clause-saved g c =
    let so_far = run_due (g.C.Consumer.prints_saved c.args.setup.now) (g.C.Consumer.has_taken c.args.setup.now)
    (g.C.Consumer.stops c.args.setup.now) (g.C.Consumer.stands c.args.setup.now)
    (g.met.C.Consumer.begins c.args.setup.now) (g.met.C.Consumer.stands_for_it c.args.setup.now)
    (g.K.Keeps.has_kept c.args.setup.now) (g.C.Saved.state c.args.consumer.now) c.args.saver.now.store
    (g.B.Read.remaining c.args.reader.now) (g.W.Write.contents c.args.writer.now)
    c.in_default.field-0 _ (g.C.Saved.state c.loop-number.consumer) (g.C.Saved.state c.save_if_due.new.consumer)
    c.loop-number.number c.loop-number.saver.store c.save_if_due.new.self.store
    (g.B.Read.remaining c.has_line-waits.new.self) (g.W.Write.contents c.loop-number.writer)
    (g.W.Write.contents c.save_if_due.new.writer) (rw c.has_line-waits.ensures.left c.loop-number.invariant.run)
    c.in_default.ensures.state
    (λ due. c.in_default.ensures.saved due c.loop-number.invariant.fits)
    (λ no. let same = c.in_default.ensures.same no in
    (ap (λ s. s.store) same.0, ap g.W.Write.contents same.2)) in
    elim c.match-take_line.branch [
      | in-Ok-Some w ↦ rw w.ended-is (save_ends (g.C.Consumer.prints_saved c.args.setup.now)
          (g.C.Consumer.has_taken c.args.setup.now)
          (g.C.Consumer.stops c.args.setup.now) (g.C.Consumer.stands c.args.setup.now)
          (g.met.C.Consumer.begins c.args.setup.now) (g.met.C.Consumer.stands_for_it c.args.setup.now)
          (g.K.Keeps.has_kept c.args.setup.now) (g.C.Saved.state c.args.consumer.now) c.args.saver.now.store
          (g.B.Read.remaining c.args.reader.now) (g.W.Write.contents c.args.writer.now)
          (g.C.Saved.state c.take_line.new.self) (g.C.Saved.state c.save.new.consumer) c.save_if_due.new.self.store
          c.save.new.self.store (g.W.Write.contents c.save_if_due.new.writer) (g.W.Write.contents c.save.new.writer)
          (Ok w.in-Ok-Some.stop) (can_save_last (g.C.Consumer.prints_saved c.args.setup.now)
          (g.C.Consumer.has_taken c.args.setup.now)
          (g.C.Consumer.stops c.args.setup.now) (g.C.Consumer.stands c.args.setup.now)
          (g.met.C.Consumer.begins c.args.setup.now) (g.met.C.Consumer.stands_for_it c.args.setup.now)
          (g.K.Keeps.has_kept c.args.setup.now) (g.C.Saved.state c.args.consumer.now) c.args.saver.now.store
          (g.B.Read.remaining c.args.reader.now) (g.W.Write.contents c.args.writer.now)
          (g.C.Saved.state c.save_if_due.new.consumer) (g.C.Saved.state c.take_line.new.self) c.loop-number.number
          w.in-Ok-Some.stop c.save_if_due.new.self.store (g.B.Read.remaining c.has_line-waits.new.self)
          (g.B.Read.remaining c.take_line.new.reader) (g.W.Write.contents c.save_if_due.new.writer) so_far
          (rw w.in-Ok-Some.field-0-is at w.in-Ok-Some.ensures.leads)) c.in_default-save.ensures.state
          (c.in_default-save.ensures.saved (some_map (λ store. g.K.Keeps.fits c.args.setup.now store
          c.save_if_due.new.consumer)
          (λ store. g.K.Keeps.fits c.args.setup.now store c.take_line.new.self)
          (λ store. g.met.K.Keeps.fits_on c.args.setup.now store c.save_if_due.new.consumer c.take_line.new.self
          w.in-Ok-Some.ensures.moves)
          c.save_if_due.new.self.store (c.in_default.ensures.fits c.loop-number.invariant.fits))).0
          (c.in_default-save.ensures.saved (some_map (λ store. g.K.Keeps.fits c.args.setup.now store
          c.save_if_due.new.consumer)
          (λ store. g.K.Keeps.fits c.args.setup.now store c.take_line.new.self)
          (λ store. g.met.K.Keeps.fits_on c.args.setup.now store c.save_if_due.new.consumer c.take_line.new.self
          w.in-Ok-Some.ensures.moves)
          c.save_if_due.new.self.store (c.in_default.ensures.fits c.loop-number.invariant.fits))).1)
      | in-Err-take_line w ↦ rw w.ended-is (save_ends (g.C.Consumer.prints_saved c.args.setup.now)
          (g.C.Consumer.has_taken c.args.setup.now)
          (g.C.Consumer.stops c.args.setup.now) (g.C.Consumer.stands c.args.setup.now)
          (g.met.C.Consumer.begins c.args.setup.now) (g.met.C.Consumer.stands_for_it c.args.setup.now)
          (g.K.Keeps.has_kept c.args.setup.now) (g.C.Saved.state c.args.consumer.now) c.args.saver.now.store
          (g.B.Read.remaining c.args.reader.now) (g.W.Write.contents c.args.writer.now)
          (g.C.Saved.state c.take_line.new.self) (g.C.Saved.state c.save.new.consumer) c.save_if_due.new.self.store
          c.save.new.self.store (g.W.Write.contents c.save_if_due.new.writer) (g.W.Write.contents c.save.new.writer)
          (Err _) (subst (λ s. CanSave (g.C.Consumer.prints_saved c.args.setup.now) (g.C.Consumer.has_taken
          c.args.setup.now)
          (g.C.Consumer.stops c.args.setup.now) (g.C.Consumer.stands c.args.setup.now)
          (g.met.C.Consumer.begins c.args.setup.now) (g.met.C.Consumer.stands_for_it c.args.setup.now)
          (g.K.Keeps.has_kept c.args.setup.now) (g.C.Saved.state c.args.consumer.now) c.args.saver.now.store
          (g.B.Read.remaining c.args.reader.now) (g.W.Write.contents c.args.writer.now) s
          c.save_if_due.new.self.store (g.W.Write.contents c.save_if_due.new.writer))
          (ap g.C.Saved.state (sym w.in-Err-take_line.ensures.err))
          (can_save (g.C.Consumer.prints_saved c.args.setup.now) (g.C.Consumer.has_taken c.args.setup.now)
          (g.C.Consumer.stops c.args.setup.now) (g.C.Consumer.stands c.args.setup.now)
          (g.met.C.Consumer.begins c.args.setup.now) (g.met.C.Consumer.stands_for_it c.args.setup.now)
          (g.K.Keeps.has_kept c.args.setup.now) (g.C.Saved.state c.args.consumer.now) c.args.saver.now.store
          (g.B.Read.remaining c.args.reader.now) (g.W.Write.contents c.args.writer.now)
          (g.C.Saved.state c.save_if_due.new.consumer) c.loop-number.number c.save_if_due.new.self.store
          (g.B.Read.remaining c.has_line-waits.new.self) (g.W.Write.contents c.save_if_due.new.writer) so_far))
          c.in_default-save.ensures.state
          (c.in_default-save.ensures.saved (subst (λ it. IfSome c.save_if_due.new.self.store (λ store.
          g.K.Keeps.fits c.args.setup.now store it))
          (sym w.in-Err-take_line.ensures.err) (c.in_default.ensures.fits c.loop-number.invariant.fits))).0
          (c.in_default-save.ensures.saved (subst (λ it. IfSome c.save_if_due.new.self.store (λ store.
          g.K.Keeps.fits c.args.setup.now store it))
          (sym w.in-Err-take_line.ensures.err) (c.in_default.ensures.fits c.loop-number.invariant.fits))).1)
    ]

pub returns-clause-saved : goal.returns-clause-saved
returns-clause-saved g c =
    run_fails (g.C.Consumer.prints_saved c.args.setup.now) (g.C.Consumer.has_taken c.args.setup.now)
    (g.C.Consumer.stops c.args.setup.now) (g.C.Consumer.stands c.args.setup.now)
    (g.met.C.Consumer.begins c.args.setup.now) (g.met.C.Consumer.stands_for_it c.args.setup.now)
    (g.K.Keeps.has_kept c.args.setup.now) (g.C.Saved.state c.args.consumer.now) c.args.saver.now.store
    (g.B.Read.remaining c.args.reader.now) (g.W.Write.contents c.args.writer.now)
    (g.C.Saved.state c.loop-number.consumer) (g.C.Saved.state c.loop-number.consumer) c.loop-number.number
    c.loop-number.saver.store (g.B.Read.remaining c.loop-number.reader) (g.W.Write.contents c.loop-number.writer)
    (ReadFault c.from.result) c.loop-number.invariant.run

pub returns-in-loop-number-clause-stops : goal.returns-in-loop-number-clause-stops
returns-in-loop-number-clause-stops g c =
    let so_far = run_due (g.C.Consumer.prints_saved c.args.setup.now) (g.C.Consumer.has_taken c.args.setup.now)
    (g.C.Consumer.stops c.args.setup.now) (g.C.Consumer.stands c.args.setup.now)
    (g.met.C.Consumer.begins c.args.setup.now) (g.met.C.Consumer.stands_for_it c.args.setup.now)
    (g.K.Keeps.has_kept c.args.setup.now) (g.C.Saved.state c.args.consumer.now) c.args.saver.now.store
    (g.B.Read.remaining c.args.reader.now) (g.W.Write.contents c.args.writer.now)
    c.in_default.field-0 _ (g.C.Saved.state c.loop-number.consumer) (g.C.Saved.state c.save_if_due.new.consumer)
    c.loop-number.number c.loop-number.saver.store c.save_if_due.new.self.store
    (g.B.Read.remaining c.has_line-waits.new.self) (g.W.Write.contents c.loop-number.writer)
    (g.W.Write.contents c.save_if_due.new.writer) (rw c.has_line-waits.ensures.left c.loop-number.invariant.run)
    c.in_default.ensures.state
    (λ due. c.in_default.ensures.saved due c.loop-number.invariant.fits)
    (λ no. let same = c.in_default.ensures.same no in
    (ap (λ s. s.store) same.0, ap g.W.Write.contents same.2)) in
    elim c.match-take_line.branch [
      | in-Ok-Some w ↦ rw (w.ended-is, c.in_default-save.ensures.state) (run_stops
          (g.C.Consumer.prints_saved c.args.setup.now) (g.C.Consumer.has_taken c.args.setup.now)
          (g.C.Consumer.stops c.args.setup.now) (g.C.Consumer.stands c.args.setup.now)
          (g.met.C.Consumer.begins c.args.setup.now) (g.met.C.Consumer.stands_for_it c.args.setup.now)
          (g.K.Keeps.has_kept c.args.setup.now) (g.C.Saved.state c.args.consumer.now) c.args.saver.now.store
          (g.B.Read.remaining c.args.reader.now) (g.W.Write.contents c.args.writer.now)
          (g.C.Saved.state c.save_if_due.new.consumer) (g.C.Saved.state c.take_line.new.self) c.loop-number.number
          w.in-Ok-Some.stop c.save_if_due.new.self.store (g.B.Read.remaining c.has_line-waits.new.self)
          (g.B.Read.remaining c.take_line.new.reader) (g.W.Write.contents c.save_if_due.new.writer) so_far
          (rw w.in-Ok-Some.field-0-is at w.in-Ok-Some.ensures.leads))
      | in-Err-take_line w ↦ rw w.ended-is tt
    ]

use Rattle.cdc_ledger.proofs.Words.{History, IsEmitted, ap, length, subst, sym}
use Rattle.cdc_ledger.proofs.EmittedLaws.{CanEmit, IsEmitted-emitted, emit-fresh, emit-later, emit-settled, emit-timely}
use Rattle.cdc_ledger.proofs.tables.Tables.take.Goals as goal

-- the entry can be logged once it is recorded
pub emit-requires : goal.emit-requires
emit-requires c =
    let h = c.args.self.now.history in
    let m = c.args.movement.now in
    let can : CanEmit h c.args.emitted.now m = record {
      sound = c.record-event.ensures.sound;
      follows = c.requires.follows;
      later = c.requires.later;
      settled = c.requires.movement.settled;
      so_far = c.requires.emitted;
    } in
    record {
      settled = emit-settled h c.args.emitted.now m can;
      timely = emit-timely h c.args.emitted.now m can;
      fresh = emit-fresh h c.args.emitted.now m can;
      later = emit-later h c.args.emitted.now m can c.record-event.result c.record-event.ensures.event;
      room = c.requires.log_room;
      end_room = c.requires.end_room;
    }

-- and then it is logged
pub returns-clause-emitted : goal.returns-clause-emitted
returns-clause-emitted c =
    let h = c.args.self.now.history in
    let m = c.args.movement.now in
    let can : CanEmit h c.args.emitted.now m = record {
      sound = c.record-event.ensures.sound;
      follows = c.requires.follows;
      later = c.requires.later;
      settled = c.requires.movement.settled;
      so_far = c.requires.emitted;
    } in
    subst (λ (g : History). IsEmitted g c.emit.new.self) (sym c.record-event.ensures.history)
    (IsEmitted-emitted h c.args.emitted.now m can c.emit.new.self (length c.entries-place.result.now)
    c.record-event.result (ap length c.entries-place.ensures.entries) c.record-event.ensures.event
    c.emit.ensures.events c.emit.ensures.triples)

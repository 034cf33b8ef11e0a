use Rattle.cdc_ledger.proofs.Words.{◌+◌, ◌≡◌, History, ap, arith, subst, sym}
use Rattle.cdc_ledger.proofs.Expiring.{GoesOn, GoesOn-some, GoesOn-step}
use Rattle.cdc_ledger.proofs.tables.Tables.expire_all.Goals as goal

pub first_due-pending-requires-clause-some : goal.first_due-pending-requires-clause-some
first_due-pending-requires-clause-some c =
    GoesOn-some c.args.self.now.history c.args.base c.args.now c.args.count c.loop-place.place
    c.loop-place.self.history c.loop-place.invariant.on c.loop-place-test.true

pub expire-requires-clause-follows : goal.expire-requires-clause-follows
expire-requires-clause-follows c = c.first_due-pending.ensures.next.follows (c.args.base + c.loop-place.place)

pub loop-place-preserved : goal.loop-place-preserved
loop-place-preserved c =
    let end = c.expire.ensures.history in
    let last : c.expire.new.self.history.last ≡ c.args.base + c.loop-place.place =
    ap (λ (g : History). g.last) end in
    let room : c.expire.new.self.entry_room + 1 ≡ c.loop-place.self.entry_room = c.expire.ensures.room in
    record {
      on = subst (GoesOn c.args.self.now.history c.args.base c.args.now c.args.count (c.loop-place.place + 1)) (sym end)
          (GoesOn-step c.args.self.now.history c.args.base c.args.now c.args.count c.loop-place.place
          c.loop-place.self.history c.first_due-pending.result.transfer c.loop-place.invariant.on
          c.first_due-pending.ensures.next
          c.loop-place.invariant.later);
      emitted = c.expire.ensures.emitted;
      log_room = omega (arith, c.expire.ensures.log_room, c.loop-place.invariant.log_room);
      later = omega (arith, last);
      room = omega (arith, room, c.loop-place.invariant.room);
    }

use Rattle.cdc_ledger.proofs.Words.{[], ◌++◌, ◌+◌, ◌∙◌, ◌∷◌, ◌≡◌, AllByRecursion, AreRecorded, History, IsRecorded, IsStopped, List, NewTransfer, NewTransferFits, Recorded, Some, ap, ap₂, arith, entry_of, get_or, grown, length, pushed, refl, subst, sym, take, transfer_rules}
use Rattle.cdc_ledger.proofs.BatchLaws.{AllByRecursion_more, IsOnItsWay_more, IsOnItsWay_none, IsStopped_at, IsStopped_never, no_transfer}
use Rattle.cdc_ledger.proofs.RecordedLaws.{AreRecorded_push, grown_push}
use Rattle.cdc_ledger.proofs.tables.Tables.record_chain.Goals as goal

pub loop-place-init : goal.loop-place-init
loop-place-init c = record {
  on = IsOnItsWay_none transfer_rules c.args.self.now.history c.args.time c.args.chain.now;
  grown = sym (ap (grown c.args.self.now.history) c.requires.empty);
  recorded = subst (AreRecorded c.args.self.now.history) (sym c.requires.empty) tt;
  later = omega arith;
  tail_len = c.args.tail.now.ok.0 ∙ ap length c.requires.empty;
  capacity = refl;
  room = omega arith;
  place_room = omega arith;
  fit = tt;
}

pub record_linked-requires : goal.record_linked-requires
record_linked-requires c = record {
  later = c.loop-place.invariant.later;
  within = omega (arith, c.requires.within);
  room = omega (arith, c.requires.room, c.loop-place.invariant.room);
  place_room = omega (arith, c.requires.place_room, c.loop-place.invariant.place_room);
}

pub push_reserved-requires : goal.push_reserved-requires
push_reserved-requires c =
    omega (arith, c.requires.tail_room, c.loop-place.invariant.tail_len, c.loop-place.invariant.capacity)

pub returns-in-Err : goal.returns-in-Err
returns-in-Err c = record {
  stopped = subst
      (IsStopped transfer_rules c.args.self.now.history c.args.time c.args.chain.now
      (Some (c.loop-place.place, c.in-Err.refusal)))
      (sym c.in-Err.ensures.validated.1)
      (IsStopped_at transfer_rules c.args.self.now.history c.args.time c.args.chain.now c.loop-place.place
      c.loop-place.self.history no_transfer c.in-Err.refusal c.loop-place-test.true c.loop-place.invariant.on
      c.in-Err.ensures.validated.0);
  grown = c.in-Err.ensures.validated.1 ∙ c.loop-place.invariant.grown;
  recorded = c.loop-place.invariant.recorded;
  fit = AllByRecursion_more NewTransferFits c.args.chain.now c.loop-place.place no_transfer c.loop-place-test.true
      c.loop-place.invariant.fit c.record_linked.ensures.fits;
  tail_len = omega (arith, c.loop-place.invariant.tail_len);
  capacity = c.loop-place.invariant.capacity;
  room = omega (arith, c.in-Err.ensures.room, c.loop-place.invariant.room, c.loop-place.invariant.tail_len);
  place_room = omega (arith, c.record_linked.ensures.place_room, c.loop-place.invariant.place_room);
}

pub loop-place-preserved : goal.loop-place-preserved
loop-place-preserved c =
    let h = c.args.self.now.history in
    let chain = c.args.chain.now in
    let i = c.loop-place.place in
    let g = c.loop-place.self.history in
    let r : NewTransfer = get_or chain i no_transfer in
    let done : List Recorded = c.loop-place.tail.items in
    let x : Recorded = c.in-Ok.recorded in
    let validated = c.in-Ok.ensures.validated in
    let after : c.record_linked.new.self.history ≡ pushed g (entry_of g r (c.args.time + i)) = validated.3 in
    let last : c.record_linked.new.self.history.last ≡ c.args.time + i = ap (λ (k : History). k.last) after in
    let items : c.push_reserved.new.self.items ≡ done ++ x ∷ [] = c.push_reserved.ensures.items in
    record {
      on = IsOnItsWay_more transfer_rules h c.args.time chain i g c.record_linked.new.self.history
          no_transfer c.loop-place-test.true c.loop-place.invariant.on validated.0 after;
      grown = after ∙ ap₂ pushed c.loop-place.invariant.grown (sym validated.2) ∙ sym (grown_push h done x)
          ∙ ap (grown h) (sym items);
      recorded = subst (AreRecorded h) (sym items)
          (AreRecorded_push h done x c.loop-place.invariant.recorded
          (subst (λ k. IsRecorded k x) c.loop-place.invariant.grown validated.1));
      later = omega (arith, last);
      tail_len = omega (arith, c.push_reserved.ensures.len, c.loop-place.invariant.tail_len);
      capacity = c.push_reserved.ensures.capacity ∙ c.loop-place.invariant.capacity;
      room = omega (arith, c.in-Ok.ensures.room, c.loop-place.invariant.room);
      place_room = omega (arith, c.record_linked.ensures.place_room, c.loop-place.invariant.place_room);
      fit = AllByRecursion_more NewTransferFits chain i no_transfer c.loop-place-test.true c.loop-place.invariant.fit
          c.record_linked.ensures.fits;
    }

pub returns : goal.returns
returns c = record {
  stopped = IsStopped_never transfer_rules c.args.self.now.history c.args.time c.args.chain.now c.loop-place.place
      c.loop-place.self.history (omega arith) c.loop-place.invariant.on;
  grown = c.loop-place.invariant.grown;
  recorded = c.loop-place.invariant.recorded;
  fit = let all : c.loop-place.place ≡ length c.args.chain.now = omega arith in
      subst (λ n. AllByRecursion NewTransferFits (take n c.args.chain.now)) all c.loop-place.invariant.fit;
  tail_len = omega (arith, c.loop-place.invariant.tail_len);
  capacity = c.loop-place.invariant.capacity;
  room = omega (arith, c.loop-place.invariant.room, c.loop-place.invariant.tail_len);
  place_room = omega (arith, c.loop-place.invariant.place_room);
}

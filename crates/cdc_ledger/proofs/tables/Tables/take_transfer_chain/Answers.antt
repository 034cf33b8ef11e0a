use Rattle.cdc_ledger.proofs.Words.{[], ◌++◌, ◌+◌, ◌-◌, ◌∙◌, ◌∷◌, ◌≡◌, AllByRecursion, AreRecorded, Contents, History, IsEmitted, List, NewTransferFits, Recorded, ap, arith, grown, length, refl, subst, sym, take, timed, transfer_rules, ℕ}
use Rattle.std.proofs.lemmas.List.{nil_from_length, take_all}
use Rattle.std.proofs.Math.Seq.{take-length}
use Rattle.cdc_ledger.proofs.BatchLaws.{AllByRecursion_parts, accepted_history, accepted_results, failed_history, failed_results}
use Rattle.cdc_ledger.proofs.RecordedLaws.{AreRecorded_pop}
use Rattle.cdc_ledger.proofs.TakenBack.{CanEmit-tail, IsLastRecorded-tail, IsEmitted-tail, grown-taken_back, tail-later}
use Rattle.cdc_ledger.proofs.EmittedLaws.{IsEmitted-timed, emit-fresh, emit-settled, emit-timely}
use Rattle.cdc_ledger.proofs.tables.Tables.take_transfer_chain.Goals as goal

-- the entries of the chain were recorded in turn
recorded : (h : History) (rs items : List Recorded) → rs ≡ items → AreRecorded h items → AreRecorded h rs
recorded h rs items same all = subst (AreRecorded h) (sym same) all

pub emit-requires : goal.emit-requires
emit-requires c =
    let h = c.args.self.now.history in
    let rs = c.as_slice-recorded-items.result.now in
    let i = c.loop-recorded.recorded-index in
    let e = c.loop-recorded.emitted in
    let g = grown h (take i rs) in
    let all = recorded h rs _ c.as_slice-recorded-items.ensures.value c.record_chain.ensures.recorded in
    record {
      settled = emit-settled g e _
          (CanEmit-tail h e rs i _ c.loop-recorded-test.true all c.loop-recorded.invariant.emitted);
      timely = emit-timely g e _
          (CanEmit-tail h e rs i _ c.loop-recorded-test.true all c.loop-recorded.invariant.emitted);
      fresh = emit-fresh g e _
          (CanEmit-tail h e rs i _ c.loop-recorded-test.true all c.loop-recorded.invariant.emitted);
      later = tail-later h e rs i _ c.loop-recorded-test.true all c.loop-recorded.invariant.emitted;
      room = omega (arith, c.requires.log_room, c.loop-recorded.invariant.log_room, c.record_chain.ensures.tail_len);
      end_room = λ opening. omega arith;
    }

pub loop-recorded-preserved : goal.loop-recorded-preserved
loop-recorded-preserved c =
    let h = c.args.self.now.history in
    let rs = c.as_slice-recorded-items.result.now in
    let i = c.loop-recorded.recorded-index in
    let all : AreRecorded h rs =
    subst (AreRecorded h) (sym c.as_slice-recorded-items.ensures.value) c.record_chain.ensures.recorded in
    record {
      emitted = IsEmitted-tail h c.loop-recorded.emitted c.emit.new.self rs i _ c.loop-recorded-test.true all
          c.loop-recorded.invariant.emitted c.emit.ensures.events c.emit.ensures.triples;
      log_room = omega (arith, c.emit.ensures.room, c.loop-recorded.invariant.log_room);
      end_room = omega (arith, c.emit.ensures.end_room, c.loop-recorded.invariant.end_room);
    }

pub take_back-requires : goal.take_back-requires
take_back-requires c =
    let h = c.args.self.now.history in
    let rs : List Recorded = c.pop.new.self.items in
    let r : Recorded = c.in-Some-pop.recorded in
    let items : c.loop-recorded-2.tail.items ≡ rs ++ r ∷ [] = c.in-Some-pop.ensures.items in
    IsLastRecorded-tail h c.loop-recorded-2.self.history rs r
    (c.loop-recorded-2.invariant.made ∙ ap (grown h) items)
    (subst (AreRecorded h) items c.loop-recorded-2.invariant.recorded)

pub loop-recorded-2-preserved : goal.loop-recorded-2-preserved
loop-recorded-2-preserved c =
    let h = c.args.self.now.history in
    let rs : List Recorded = c.pop.new.self.items in
    let r : Recorded = c.in-Some-pop.recorded in
    let items : c.loop-recorded-2.tail.items ≡ rs ++ r ∷ [] = c.in-Some-pop.ensures.items in
    let all : AreRecorded h (rs ++ r ∷ []) = subst (AreRecorded h) items c.loop-recorded-2.invariant.recorded in
    record {
      made = grown-taken_back h c.loop-recorded-2.self.history c.take_back.new.self.history rs r
          (c.loop-recorded-2.invariant.made ∙ ap (grown h) items) all c.take_back.ensures.history;
      recorded = (AreRecorded_pop h rs r all).0;
      emitted = c.requires.emitted;
      capacity = c.pop.ensures.capacity ∙ c.loop-recorded-2.invariant.capacity;
      log_room = omega arith;
      end_room = omega arith;
      room = omega (arith, c.take_back.ensures.room, c.in-Some-pop.ensures.cases, c.loop-recorded-2.invariant.room);
      place_room = omega (arith, c.take_back.ensures.place_room, c.loop-recorded-2.invariant.place_room);
    }

pub returns-in_default-clause-fit : goal.returns-in_default-clause-fit
returns-in_default-clause-fit c =
    AllByRecursion_parts NewTransferFits c.args.chain.now (c.in-Some.stop.place + 1) c.in-Some.ensures.fit
    c.push_unvalidated_transfers.ensures.fit

-- the history without the entries that were taken back
back_again : (h g : History) (rs : List Recorded) (v w : Contents) (t : ℕ) → rs ≡ [] → g ≡ grown h rs → v.history ≡ g
    → w ≡ record v { history = timed v.history t } → w.history ≡ timed h t
back_again h g rs v w t none made same now =
    ap (λ (u : Contents). u.history) now ∙ ap (λ (k : History). timed k t) (same ∙ made ∙ ap (grown h) none)

pub returns-in_default-clause-history : goal.returns-in_default-clause-history
returns-in_default-clause-history c =
    failed_history transfer_rules c.args.self.now.history c.args.time c.args.chain.now
    (c.in-Some.stop.place, c.in-Some.stop.refusal) c.record_chain.new.self.history c.take_timestamp.new.self.history
    c.requires.some c.in-Some.ensures.stopped
    (back_again c.args.self.now.history c.loop-recorded-2.self.history c.loop-recorded-2.tail.items
    c.loop-recorded-2.self c.take_timestamp.new.self (c.args.time + (length c.args.chain.now - 1))
    (nil_from_length c.loop-recorded-2.tail.items
    (sym c.loop-recorded-2.tail.ok.0 ∙ c.in_default.ensures.cases.0))
    c.loop-recorded-2.invariant.made refl c.take_timestamp.ensures)

pub returns-in_default-clause-emitted : goal.returns-in_default-clause-emitted
returns-in_default-clause-emitted c =
    subst (λ (g : History). IsEmitted g c.args.emitted.now)
    (sym (back_again c.args.self.now.history c.loop-recorded-2.self.history c.loop-recorded-2.tail.items
    c.loop-recorded-2.self c.take_timestamp.new.self (c.args.time + (length c.args.chain.now - 1))
    (nil_from_length c.loop-recorded-2.tail.items
    (sym c.loop-recorded-2.tail.ok.0 ∙ c.in_default.ensures.cases.0))
    c.loop-recorded-2.invariant.made refl c.take_timestamp.ensures))
    (IsEmitted-timed c.args.self.now.history c.args.emitted.now (c.args.time + (length c.args.chain.now - 1))
    c.accounts-accounts.ensures.sound (omega (arith, c.requires.later)) c.requires.emitted)

pub returns-in_default-clause-results : goal.returns-in_default-clause-results
returns-in_default-clause-results c =
    failed_results transfer_rules c.args.self.now.history c.args.time c.args.chain.now c.in-Some.stop.place
    c.in-Some.stop.refusal c.record_chain.new.self.history c.args.results.now.items
    c.push_times-in-Some.new.results.items c.push_reserved.new.self.items
    c.push_unvalidated_transfers.new.results.items c.in-Some.ensures.stopped c.push_times-in-Some.ensures.items
    c.push_reserved.ensures.items c.push_unvalidated_transfers.ensures.items

-- all entries of the chain are logged

pub returns-after-loop-recorded-clause-results : goal.returns-after-loop-recorded-clause-results
returns-after-loop-recorded-clause-results c =
    accepted_results transfer_rules c.args.self.now.history c.args.time c.args.chain.now
    c.record_chain.new.self.history c.args.results.now.items c.push_times.new.results.items c.in-None.ensures.stopped
    c.push_times.ensures.items

pub returns-after-loop-recorded-clause-history : goal.returns-after-loop-recorded-clause-history
returns-after-loop-recorded-clause-history c =
    accepted_history transfer_rules c.args.self.now.history c.args.time c.args.chain.now
    c.record_chain.new.self.history c.in-None.ensures.stopped

pub returns-after-loop-recorded-clause-fit : goal.returns-after-loop-recorded-clause-fit
returns-after-loop-recorded-clause-fit c =
    subst (AllByRecursion NewTransferFits) (take-length c.args.chain.now) c.in-None.ensures.fit

pub returns-after-loop-recorded-clause-emitted : goal.returns-after-loop-recorded-clause-emitted
returns-after-loop-recorded-clause-emitted c =
    let all = take_all c.loop-recorded.recorded-index c.as_slice-recorded-items.result.now
    c.loop-recorded-test.false in
    subst (λ (g : History). IsEmitted g c.loop-recorded.emitted)
    (ap (grown c.args.self.now.history) (all ∙ c.as_slice-recorded-items.ensures.value)
    ∙ sym c.record_chain.ensures.grown)
    c.loop-recorded.invariant.emitted

pub loop-recorded-2-init : goal.loop-recorded-2-init
loop-recorded-2-init c = record {
  made = c.record_chain.ensures.grown;
  recorded = c.record_chain.ensures.recorded;
  emitted = c.requires.emitted;
  capacity = c.record_chain.ensures.capacity;
  log_room = omega arith;
  end_room = omega arith;
  room = c.record_chain.ensures.room;
  place_room = c.record_chain.ensures.place_room;
}

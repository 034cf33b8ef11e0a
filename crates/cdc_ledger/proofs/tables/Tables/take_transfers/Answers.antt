use Rattle.cdc_ledger.proofs.Words.{[], ◌++◌, ◌+◌, ◌-◌, ◌<◌, ◌∙◌, ◌∷◌, ◌≡◌, ◌≤◌, AllByRecursion, History, List, NewTransfer, NewTransferFits, TransferResult, ap, arith, drop, get_or, history_after, length, played, refl, subst, sym, take, transfer_rules}
use Rattle.std.proofs.lemmas.List.{take_all}
use Rattle.cdc_ledger.proofs.BatchLaws.{AllByRecursion_further, AllByRecursion_more, ItemsGoOn, ItemsGoOn_all, ItemsGoOn_alone, ItemsGoOn_chain, ItemsGoOn_none, no_transfer, slice_length, slice_size}
use Rattle.cdc_ledger.proofs.ChainLaws.{history_after-later}
use Rattle.cdc_ledger.proofs.tables.Tables.take_transfers.Goals as goal

pub loop-place-init : goal.loop-place-init
loop-place-init c = record {
  on = subst (λ (xs : List TransferResult).
      ItemsGoOn transfer_rules c.args.self.now.history c.args.base c.args.requests.now 0 xs c.args.self.now.history)
      (sym c.requires.empty) (ItemsGoOn_none transfer_rules c.args.self.now.history c.args.base c.args.requests.now);
  later = omega (arith, c.requires.later);
  inside = omega arith;
  count = c.args.results.ok.0 ∙ ap length c.requires.empty;
  results_room = c.requires.results_room;
  fit = tt;
  emitted = c.requires.emitted;
  room = omega (arith, c.requires.room);
  place_room = omega (arith, c.requires.place_room);
  log_room = omega (arith, c.requires.log_room);
  end_room = omega (arith, c.requires.end_room);
  no_tail = c.requires.no_tail;
  tail_room = refl;
}

pub take_transfer_chain-requires : goal.take_transfer_chain-requires
take_transfer_chain-requires c =
    let within = c.transfer_chain_len.ensures.within in
    let size = slice_size c.args.requests.now c.loop-place.place c.transfer_chain_len.result within in
    let left = slice_length c.args.requests.now c.loop-place.place in
    let room = c.requires.tail_room c.loop-place.place no_transfer c.loop-place-test.true
    (sym c.is_linked.ensures ∙ c.if-is_linked.true) in
    record {
      later = c.loop-place.invariant.later;
      within = omega (arith, c.requires.within);
      some = omega (arith, c.transfer_chain_len.ensures.some);
      room = omega (arith, c.loop-place.invariant.room);
      place_room = omega (arith, c.loop-place.invariant.place_room);
      log_room = omega (arith, c.loop-place.invariant.log_room);
      end_room = omega (arith, c.loop-place.invariant.end_room);
      emitted = c.loop-place.invariant.emitted;
      empty = c.loop-place.invariant.no_tail;
      tail_room = omega (arith, c.loop-place.invariant.tail_room);
      results_room = omega (arith, c.loop-place.invariant.results_room, c.loop-place.invariant.count);
    }

pub loop-place-preserved-then-is_linked : goal.loop-place-preserved-then-is_linked
loop-place-preserved-then-is_linked c =
    let all = c.args.requests.now in
    let i = c.loop-place.place in
    let n = c.transfer_chain_len.result in
    let now = c.loop-place.self.history in
    let after = c.take_transfer_chain.ensures.history in
    let later : (history_after transfer_rules now (c.args.base + i) (take (i + n - i) (drop i all))).last
    < c.args.base + i + length (take (i + n - i) (drop i all)) =
    history_after-later transfer_rules (λ g a t. refl) now (c.args.base + i) (take (i + n - i) (drop i all))
    c.loop-place.invariant.later in
    let last = ap (λ (g : History). g.last) after in
    let within = c.transfer_chain_len.ensures.within in
    let left = slice_length all i in
    let inside : i + n ≤ length all = omega (arith, within, left, c.loop-place-test.true) in
    let size = slice_size all i n within in
    record {
      on = ItemsGoOn_chain transfer_rules c.args.self.now.history c.args.base all i n c.loop-place.results.items
          c.take_transfer_chain.new.results.items now c.take_transfer_chain.new.self.history within
          c.transfer_chain_len.ensures.first c.take_transfer_chain.ensures.results after c.loop-place.invariant.on;
      later = omega (arith, later, last, size);
      inside = inside;
      count = omega (arith, c.take_transfer_chain.ensures.len, size, c.loop-place.invariant.count);
      results_room = omega (arith, c.take_transfer_chain.ensures.capacity, c.loop-place.invariant.results_room);
      fit = AllByRecursion_further NewTransferFits all i n c.loop-place.invariant.fit c.take_transfer_chain.ensures.fit;
      room = omega (arith, c.take_transfer_chain.ensures.room, size, c.loop-place.invariant.room);
      place_room = omega (arith, c.take_transfer_chain.ensures.place_room, size, c.loop-place.invariant.place_room);
      log_room = omega (arith, c.take_transfer_chain.ensures.log_room, size, c.loop-place.invariant.log_room);
      end_room = omega (arith, c.take_transfer_chain.ensures.end_room, size, c.loop-place.invariant.end_room);
      emitted = c.take_transfer_chain.ensures.emitted;
      no_tail = c.take_transfer_chain.ensures.emptied;
      tail_room = c.take_transfer_chain.ensures.tail_capacity ∙ c.loop-place.invariant.tail_room;
    }

pub take_transfer-requires : goal.take_transfer-requires
take_transfer-requires c = record {
  unlinked = sym c.is_linked.ensures ∙ c.if-is_linked.false;
  later = c.loop-place.invariant.later;
  within = omega (arith, c.requires.within);
  room = omega (arith, c.loop-place.invariant.room);
  place_room = omega (arith, c.loop-place.invariant.place_room);
  log_room = omega (arith, c.loop-place.invariant.log_room);
  end_room = omega (arith, c.loop-place.invariant.end_room);
  emitted = c.loop-place.invariant.emitted;
}

pub loop-place-preserved : goal.loop-place-preserved
loop-place-preserved c =
    let h = c.args.self.now.history in
    let all = c.args.requests.now in
    let i = c.loop-place.place in
    let now = c.loop-place.self.history in
    let done = c.loop-place.results.items in
    let r : NewTransfer = get_or all i no_transfer in
    let after = c.take_transfer.ensures.history in
    let later : (history_after transfer_rules now (c.args.base + i) (r ∷ [])).last
    < c.args.base + i + length (r ∷ []) =
    history_after-later transfer_rules (λ g a t. refl) now (c.args.base + i) (r ∷ []) c.loop-place.invariant.later in
    let last = ap (λ (g : History). g.last) after in
    let results : c.push_reserved.new.self.items
    ≡ done ++ (played transfer_rules now (c.args.base + i) (r ∷ [])).0 =
    c.push_reserved.ensures.items
    ∙ ap (λ (xs : List TransferResult). done ++ xs) (sym c.take_transfer.ensures.played) in
    record {
      on = ItemsGoOn_alone transfer_rules h c.args.base all i no_transfer done
          c.push_reserved.new.self.items now c.take_transfer.new.self.history c.loop-place-test.true
          (sym c.is_linked.ensures ∙ c.if-is_linked.false) results after c.loop-place.invariant.on;
      later = omega (arith, later, last);
      inside = omega (arith, c.loop-place-test.true);
      count = omega (arith, c.push_reserved.ensures.len, c.loop-place.invariant.count);
      results_room = omega (arith, c.push_reserved.ensures.capacity, c.loop-place.invariant.results_room);
      fit = AllByRecursion_more NewTransferFits all i no_transfer c.loop-place-test.true c.loop-place.invariant.fit
          c.take_transfer.ensures.fits;
      emitted = c.take_transfer.ensures.emitted;
      room = omega (arith, c.take_transfer.ensures.room, c.loop-place.invariant.room);
      place_room = omega (arith, c.take_transfer.ensures.place_room, c.loop-place.invariant.place_room);
      log_room = omega (arith, c.take_transfer.ensures.log_room, c.loop-place.invariant.log_room);
      end_room = omega (arith, c.take_transfer.ensures.end_room, c.loop-place.invariant.end_room);
      no_tail = c.loop-place.invariant.no_tail;
      tail_room = c.loop-place.invariant.tail_room;
    }

pub returns : goal.returns
returns c = record {
  answers = ItemsGoOn_all transfer_rules c.args.self.now.history c.args.base c.args.requests.now c.loop-place.place
      c.loop-place.results.items c.loop-place.self.history c.loop-place-test.false c.loop-place.invariant.on;
  emitted = c.loop-place.invariant.emitted;
  fit = subst (AllByRecursion NewTransferFits) (take_all c.loop-place.place c.args.requests.now c.loop-place-test.false)
      c.loop-place.invariant.fit;
}

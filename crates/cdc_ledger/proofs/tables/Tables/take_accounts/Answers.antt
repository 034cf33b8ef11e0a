use Rattle.cdc_ledger.proofs.Words.{◌+◌, ◌-◌, ◌<◌, ◌∙◌, ◌≤◌, AccountResult, AllByRecursion, History, List, NewAccountFits, account_rules, ap, arith, drop, history_after, length, refl, subst, sym, take}
use Rattle.std.proofs.lemmas.List.{take_all}
use Rattle.cdc_ledger.proofs.BatchLaws.{AllByRecursion_further, ItemsGoOn, ItemsGoOn_all, ItemsGoOn_chain, ItemsGoOn_none, slice_length, slice_size}
use Rattle.cdc_ledger.proofs.ChainLaws.{history_after-later}
use Rattle.cdc_ledger.proofs.tables.Tables.take_accounts.Goals as goal

pub loop-place-init : goal.loop-place-init
loop-place-init c = record {
  on = subst (λ (xs : List AccountResult).
      ItemsGoOn account_rules c.args.self.now.history c.args.base c.args.requests.now 0 xs c.args.self.now.history)
      (sym c.requires.empty) (ItemsGoOn_none account_rules c.args.self.now.history c.args.base c.args.requests.now);
  later = omega (arith, c.requires.later);
  inside = omega arith;
  count = c.args.results.ok.0 ∙ ap length c.requires.empty;
  results_room = c.requires.results_room;
  fit = tt;
  room = omega (arith, c.requires.room);
}

pub take_account_chain-requires : goal.take_account_chain-requires
take_account_chain-requires c =
    let within = c.account_chain_len.ensures.within in
    let size = slice_size c.args.requests.now c.loop-place.place c.account_chain_len.result within in
    let left = slice_length c.args.requests.now c.loop-place.place in
    record {
      later = c.loop-place.invariant.later;
      within = omega (arith, c.requires.within);
      some = omega (arith, c.account_chain_len.ensures.some);
      room = omega (arith, c.loop-place.invariant.room);
      results_room = omega (arith, c.loop-place.invariant.results_room, c.loop-place.invariant.count);
    }

pub loop-place-preserved : goal.loop-place-preserved
loop-place-preserved c =
    let all = c.args.requests.now in
    let i = c.loop-place.place in
    let n = c.account_chain_len.result in
    let now = c.loop-place.self.history in
    let after = c.take_account_chain.ensures.history in
    let later : (history_after account_rules now (c.args.base + i) (take (i + n - i) (drop i all))).last
    < c.args.base + i + length (take (i + n - i) (drop i all)) =
    history_after-later account_rules (λ g a t. refl) now (c.args.base + i) (take (i + n - i) (drop i all))
    c.loop-place.invariant.later in
    let last = ap (λ (g : History). g.last) after in
    let within = c.account_chain_len.ensures.within in
    let left = slice_length all i in
    let inside : i + n ≤ length all = omega (arith, within, left, c.loop-place-test.true) in
    let size = slice_size all i n within in
    record {
      on = ItemsGoOn_chain account_rules c.args.self.now.history c.args.base all i n c.loop-place.results.items
          c.take_account_chain.new.results.items now c.take_account_chain.new.self.history within
          c.account_chain_len.ensures.first c.take_account_chain.ensures.results after c.loop-place.invariant.on;
      later = omega (arith, later, last, size);
      inside = inside;
      count = omega (arith, c.take_account_chain.ensures.len, size, c.loop-place.invariant.count);
      results_room = omega (arith, c.take_account_chain.ensures.capacity, c.loop-place.invariant.results_room);
      fit = AllByRecursion_further NewAccountFits all i n c.loop-place.invariant.fit c.take_account_chain.ensures.fit;
      room = omega (arith, c.take_account_chain.ensures.room, size, c.loop-place.invariant.room);
    }

pub returns : goal.returns
returns c = record {
  answers = ItemsGoOn_all account_rules c.args.self.now.history c.args.base c.args.requests.now c.loop-place.place
      c.loop-place.results.items c.loop-place.self.history c.loop-place-test.false c.loop-place.invariant.on;
  fit = subst (AllByRecursion NewAccountFits) (take_all c.loop-place.place c.args.requests.now c.loop-place-test.false)
      c.loop-place.invariant.fit;
}

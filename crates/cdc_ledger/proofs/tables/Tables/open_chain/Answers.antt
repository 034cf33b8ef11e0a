use Rattle.cdc_ledger.proofs.Words.{◌+◌, ◌∙◌, ◌≡◌, AccountResult, AllByRecursion, History, IsStopped, NewAccount, NewAccountFits, Option, Some, account_rules, ap, arith, get_or, if◌then◌else◌, length, opened_by, subst, sym, take, with_account}
use Rattle.std.specs.Prelude.{is_some}
use Rattle.cdc_ledger.proofs.BatchLaws.{AllByRecursion_more, IsOnItsWay_more, IsOnItsWay_none, IsStopped_at, IsStopped_never, no_account}
use Rattle.cdc_ledger.proofs.tables.Tables.open_chain.Goals as goal

pub loop-place-init : goal.loop-place-init
loop-place-init c = record {
  on = IsOnItsWay_none account_rules c.args.self.now.history c.args.time c.args.chain.now;
  later = omega arith;
  room = omega arith;
  fit = tt;
}

pub open_for_chain-requires : goal.open_for_chain-requires
open_for_chain-requires c = record {
  later = c.loop-place.invariant.later;
  within = omega (arith, c.requires.within);
  room = omega (arith, c.requires.room, c.loop-place.invariant.room);
}

pub returns-in-Some : goal.returns-in-Some
returns-in-Some c = record {
  stopped = subst
      (IsStopped account_rules c.args.self.now.history c.args.time c.args.chain.now
      (Some (c.loop-place.place, c.in-Some.refusal)))
      (sym c.in-Some.ensures.history)
      (IsStopped_at account_rules c.args.self.now.history c.args.time c.args.chain.now c.loop-place.place
      c.loop-place.self.history no_account c.in-Some.refusal c.loop-place-test.true c.loop-place.invariant.on
      (sym c.in-Some.ensures.refused));
  fit = AllByRecursion_more NewAccountFits c.args.chain.now c.loop-place.place no_account c.loop-place-test.true
      c.loop-place.invariant.fit c.open_for_chain.ensures.fits;
  room = omega (arith, c.open_for_chain.ensures.room, c.loop-place.invariant.room);
}

pub loop-place-preserved : goal.loop-place-preserved
loop-place-preserved c =
    let chain = c.args.chain.now in
    let i = c.loop-place.place in
    let g = c.loop-place.self.history in
    let a : NewAccount = get_or chain i no_account in
    let after : c.open_for_chain.new.self.history ≡ with_account g (opened_by a (c.args.time + i)) =
    c.open_for_chain.ensures.history
    ∙ ap (λ (o : Option AccountResult). if is_some o then g else with_account g (opened_by a (c.args.time + i)))
    c.in_default.is in
    let last : c.open_for_chain.new.self.history.last ≡ c.args.time + i = ap (λ (k : History). k.last) after in
    record {
      on = IsOnItsWay_more account_rules c.args.self.now.history c.args.time chain i g
          c.open_for_chain.new.self.history no_account c.loop-place-test.true c.loop-place.invariant.on
          (sym c.open_for_chain.ensures.refused ∙ c.in_default.is) after;
      later = omega (arith, last);
      room = omega (arith, c.open_for_chain.ensures.room, c.loop-place.invariant.room);
      fit = AllByRecursion_more NewAccountFits chain i no_account c.loop-place-test.true c.loop-place.invariant.fit
          c.open_for_chain.ensures.fits;
    }

pub returns : goal.returns
returns c = record {
  stopped = IsStopped_never account_rules c.args.self.now.history c.args.time c.args.chain.now c.loop-place.place
      c.loop-place.self.history (omega arith) c.loop-place.invariant.on;
  fit = let all : c.loop-place.place ≡ length c.args.chain.now = omega arith in
      subst (λ n. AllByRecursion NewAccountFits (take n c.args.chain.now)) all c.loop-place.invariant.fit;
  room = omega (arith, c.loop-place.invariant.room);
}

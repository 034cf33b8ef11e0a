use Rattle.cdc_ledger.proofs.Words.{◌+◌, ◌-◌, ◌<◌, ◌∙◌, ◌≡◌, AllByRecursion, AreUnrefused, Contents, History, NewAccountFits, account_rules, ap, arith, length, subst, sym, take, taken_all, timed}
use Rattle.std.proofs.Math.Seq.{take-length}
use Rattle.cdc_ledger.proofs.BatchLaws.{AllByRecursion_parts, accepted_history, accepted_results, failed_history, failed_results}
use Rattle.cdc_ledger.proofs.TakenBack.{AllOpened-less, IsLastOpened-chain, opened-taken_back, opened_last}
use Rattle.cdc_ledger.proofs.tables.Tables.take_account_chain.Goals as goal
use Rattle.cdc_ledger.proofs.tables.Tables.take_account_chain.Goals.{then-place-eq0, else-place-eq0}

pub take_account_back-requires : goal.take_account_back-requires
take_account_back-requires c =
    let h = c.args.self.now.history in
    let t = c.args.time in
    let chain = c.args.chain.now in
    let i = c.loop-place.place - 1 in
    let one : i + 1 ≡ c.loop-place.place = omega arith in
    let inside : i < length chain = omega (arith, c.loop-place.invariant.inside) in
    let dated : c.if-place-eq0.last ≡ (taken_all account_rules h t (take i chain)).last =
    elim c.if-place-eq0.branch [
      | then-place-eq0 w ↦ w.last-is ∙ c.last-before.ensures.last
          ∙ ap (λ n. (taken_all account_rules h t (take n chain)).last)
          (let none : 0 ≡ i = omega arith in none)
      | else-place-eq0 w ↦ w.last-is
          ∙ sym (opened_last h t chain c.accounts-accounts.ensures.sound c.requires.later c.requires.within i
          (omega arith) (omega arith))
    ] in
    IsLastOpened-chain h t chain c.accounts-accounts.ensures.sound c.requires.later c.requires.within
    c.loop-place.self.history i c.if-place-eq0.last inside
    (c.loop-place.invariant.made ∙ ap (λ n. taken_all account_rules h t (take n chain)) (sym one))
    (subst (λ n. AreUnrefused account_rules h t (take n chain)) (sym one) c.loop-place.invariant.unrefused)
    dated

pub loop-place-preserved : goal.loop-place-preserved
loop-place-preserved c =
    let h = c.args.self.now.history in
    let t = c.args.time in
    let chain = c.args.chain.now in
    let i = c.loop-place.place - 1 in
    let one : i + 1 ≡ c.loop-place.place = omega arith in
    let inside : i < length chain = omega (arith, c.loop-place.invariant.inside) in
    let dated : c.if-place-eq0.last ≡ (taken_all account_rules h t (take i chain)).last =
    elim c.if-place-eq0.branch [
      | then-place-eq0 w ↦ w.last-is ∙ c.last-before.ensures.last
          ∙ ap (λ n. (taken_all account_rules h t (take n chain)).last)
          (let none : 0 ≡ i = omega arith in none)
      | else-place-eq0 w ↦ w.last-is
          ∙ sym (opened_last h t chain c.accounts-accounts.ensures.sound c.requires.later c.requires.within i
          (omega arith) (omega arith))
    ] in
    record {
      made = opened-taken_back h t chain c.accounts-accounts.ensures.sound c.requires.later c.requires.within
          c.loop-place.self.history c.take_account_back.new.self.history i c.if-place-eq0.last inside
          (c.loop-place.invariant.made ∙ ap (λ n. taken_all account_rules h t (take n chain)) (sym one))
          dated c.take_account_back.ensures.history;
      unrefused = AllOpened-less h t chain c.accounts-accounts.ensures.sound c.requires.later c.requires.within i inside
          (subst (λ n. AreUnrefused account_rules h t (take n chain)) (sym one) c.loop-place.invariant.unrefused);
      inside = inside;
      room = omega (arith, c.take_account_back.ensures.room, c.loop-place.invariant.room);
    }

pub returns-after-loop-place-clause-fit : goal.returns-after-loop-place-clause-fit
returns-after-loop-place-clause-fit c =
    AllByRecursion_parts NewAccountFits c.args.chain.now (c.in-Some.stop.place + 1) c.in-Some.ensures.fit
    c.push_unvalidated_accounts.ensures.fit

pub open_chain-requires-clause-within : goal.open_chain-requires-clause-within
open_chain-requires-clause-within c = c.requires.within

-- all accounts of the chain are opened
pub returns-in-None : goal.returns-in-None
returns-in-None c = record {
  results = accepted_results account_rules c.args.self.now.history c.args.time c.args.chain.now
      c.open_chain.new.self.history c.args.results.now.items c.push_times.new.results.items
      c.in-None.ensures.stopped c.push_times.ensures.items;
  history = accepted_history account_rules c.args.self.now.history c.args.time c.args.chain.now
      c.open_chain.new.self.history c.in-None.ensures.stopped;
  fit = subst (AllByRecursion NewAccountFits) (take-length c.args.chain.now) c.in-None.ensures.fit;
  len = c.push_times.ensures.len;
  capacity = c.push_times.ensures.capacity;
  room = c.open_chain.ensures.room;
}

-- or none of them is
pub returns-after-loop-place-clause-results : goal.returns-after-loop-place-clause-results
returns-after-loop-place-clause-results c =
    failed_results account_rules c.args.self.now.history c.args.time c.args.chain.now c.in-Some.stop.place
    c.in-Some.stop.refusal c.open_chain.new.self.history c.args.results.now.items
    c.push_times-in-Some.new.results.items c.push_reserved.new.self.items
    c.push_unvalidated_accounts.new.results.items c.in-Some.ensures.stopped c.push_times-in-Some.ensures.items
    c.push_reserved.ensures.items c.push_unvalidated_accounts.ensures.items

pub returns-after-loop-place-clause-history : goal.returns-after-loop-place-clause-history
returns-after-loop-place-clause-history c =
    let h = c.args.self.now.history in
    let t = c.args.time + (length c.args.chain.now - 1) in
    let none : c.loop-place.place ≡ 0 = omega arith in
    failed_history account_rules h c.args.time c.args.chain.now (c.in-Some.stop.place, c.in-Some.stop.refusal)
    c.open_chain.new.self.history c.take_timestamp.new.self.history c.requires.some c.in-Some.ensures.stopped
    (ap (λ (v : Contents). v.history) c.take_timestamp.ensures
    ∙ ap (λ (g : History). timed g t) (c.loop-place.invariant.made
    ∙ ap (λ n. taken_all account_rules h c.args.time (take n c.args.chain.now)) none))

use Rattle.std.proofs.Common.{◌≤◌, ◌<◌, sym, ap, ◌∙◌, subst, inl, inr, nat_eq}
use Rattle.std.specs.Map.{lookup}
use Rattle.cdc_checked.specs.declared.checker.KnownAccount.{KnownAccount}
use Rattle.cdc_checked.specs.Checked.{open_then}
use Rattle.cdc_checked.specs.Standing.{CheckerState, StandsFor, with_accounts}
use Rattle.cdc_checked.proofs.StandLemmas.{is_late, is_newer, next_if_applied, next_if_not, next_if_refused, reason_is, stands_push}
use Rattle.cdc_checked.proofs.checker.Checker.take_by.Goals as goal
use Rattle.cdc_checked.proofs.checker.Checker.take_by.Goals.{then-event-debited-via-then-event-debited, then-event-debited-via-else-event-debited+then-event-credited}

pub returns-then-event-debited-clause-next : goal.returns-then-event-debited-clause-next
returns-then-event-debited-clause-next c = λ applied stands.
    let e = c.args.event.now in
    subst (StandsFor c.args.self.now) (sym (next_if_not c.args.baseline applied e (is_late c.args.self.now applied e stands
    (elim c.then-event-debited.branch [
      | then-event-debited-via-then-event-debited w ↦
          inl (subst (λ (k : KnownAccount). e.timestamp ≤ k.last) c.account-debited.ensures w.if-event-debited.true)
      | then-event-debited-via-else-event-debited+then-event-credited w ↦
          inr (subst (λ (k : KnownAccount). e.timestamp ≤ k.last) c.account-credited.ensures w.if-event-credited.true)
    ])))) stands

pub returns-in-Some-clause-next : goal.returns-in-Some-clause-next
returns-in-Some-clause-next c = λ applied stands.
    let e = c.args.event.now in
    subst (StandsFor c.args.self.now) (sym (next_if_refused c.args.baseline applied e c.in-Some.why
    (sym (reason_is c.args.baseline c.args.self.now applied e c.refusal_for.result c.open_one-pending.result c.account-debited.result
    c.account-credited.result stands c.refusal_for.ensures c.open_one-pending.ensures c.account-debited.ensures
    c.account-credited.ensures) ∙ c.in-Some.is))) stands

pub returns-clause-next : goal.returns-clause-next
returns-clause-next c = λ applied stands.
    let e = c.args.event.now in
    let new : CheckerState = record {
      accounts = c.keep_accounts.new.accounts.entries;
      open_ones = c.keep_open.new.open_ones.entries;
    } in
    subst (StandsFor new) (sym (next_if_applied c.args.baseline applied e
    (is_newer c.args.self.now applied e stands
    (subst (λ (k : KnownAccount). k.last < e.timestamp) c.account-debited.ensures c.if-event-debited.false)
    (subst (λ (k : KnownAccount). k.last < e.timestamp) c.account-credited.ensures c.if-event-credited.false))
    (sym (reason_is c.args.baseline c.args.self.now applied e c.refusal_for.result c.open_one-pending.result c.account-debited.result
    c.account-credited.result stands c.refusal_for.ensures c.open_one-pending.ensures c.account-debited.ensures
    c.account-credited.ensures) ∙ c.in_default.is)))
    (stands_push c.args.self.now new applied e stands
    (c.keep_accounts.ensures
    ∙ ap (λ es. with_accounts es e)
    (c.in_ok-reserve.ensures.entries ∙ ap (λ (s : CheckerState). s.accounts) c.self.view_is))
    (λ id. c.keep_open.ensures id
    ∙ ap (λ es. open_then id (lookup (nat_eq id) es) e)
    (c.in_ok-reserve-2.ensures.entries ∙ ap (λ (s : CheckerState). s.open_ones) c.self.view_is)))

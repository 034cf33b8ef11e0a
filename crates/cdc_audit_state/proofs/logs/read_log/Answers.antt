use Rattle.cdc_audit.specs.Standing.{StandsFor}
use Rattle.cdc_audit_state.proofs.Words.{AuditorState, arith, false≢true, subst, sym, ◌∙◌}
use Rattle.cdc_audit_state.specs.Logs.{audited_all}
use Rattle.cdc_audit_state.proofs.ReplayLemmas.{base_before, base_first, none_first}
use Rattle.cdc_audit_state.proofs.logs.read_log.Goals as goal

pub returns-in_default-clause-all : goal.returns-in_default-clause-all
returns-in_default-clause-all c = λ base records torn state can log stands replays.
    none_first c.args.text.now base records torn (c.in_ok-found.ensures.torn c.in_default.is) log

pub returns-in_default-2-clause-all : goal.returns-in_default-2-clause-all
returns-in_default-2-clause-all c = λ base records torn state can log stands replays.
    let first = base_first c.args.text.now c.in-Some.found.content.now c.in-Some.found.rest.now base records torn
    (omega arith) (rw c.in-Some.is at c.in_ok-found.ensures.whole) log in
    rw c.in_default-2.is at (c.in_ok-auditor.ensures.all base can first.0)

pub returns-then-branch-clause-exact : goal.returns-then-branch-clause-exact
returns-then-branch-clause-exact c =
    let audits = c.in_ok-audit_records.ensures.exact c.if-branch.true in
    let first = rw c.in-Some-2.is at c.in_ok-auditor.ensures.exact in
    record {
      base = c.in-Some-2.auditor;
      records = audits.records;
      torn = audits.torn;
      text_is = base_before c.args.text.now c.in-Some.found.content.now c.in-Some.found.rest.now c.in-Some-2.auditor
          audits.records audits.torn (rw c.in-Some.is at c.in_ok-found.ensures.whole) first audits.text_is;
      audited = audits.audited;
    }

pub returns-then-branch-clause-all : goal.returns-then-branch-clause-all
returns-then-branch-clause-all c = λ base records torn state can log stands replays.
    let first = base_first c.args.text.now c.in-Some.found.content.now c.in-Some.found.rest.now base records torn
    (omega arith) (rw c.in-Some.is at c.in_ok-found.ensures.whole) log in
    let same = rw c.in-Some-2.is at (c.in_ok-auditor.ensures.all base can first.0) in
    (c.in_ok-audit_records.ensures.all records torn state first.1
    (subst (λ (a : AuditorState). StandsFor a state) (sym same) stands) replays).1

pub returns-else-branch-clause-all : goal.returns-else-branch-clause-all
returns-else-branch-clause-all c = λ base records torn state can log stands replays.
    let first = base_first c.args.text.now c.in-Some.found.content.now c.in-Some.found.rest.now base records torn
    (omega arith) (rw c.in-Some.is at c.in_ok-found.ensures.whole) log in
    let same = rw c.in-Some-2.is at (c.in_ok-auditor.ensures.all base can first.0) in
    let found = (c.in_ok-audit_records.ensures.all records torn state first.1
    (subst (λ (a : AuditorState). StandsFor a state) (sym same) stands) replays).0 in
    absurd (false≢true (sym c.if-branch.false ∙ found))

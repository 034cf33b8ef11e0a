use Rattle.cdc_run_command.proofs.Words.{List, None, Outcome, Setting, Some, ap, setting_of, subst, ℕ, ◌≡◌}
use Rattle.cdc_run_command.proofs.RunLemmas.{prints_none}
use Rattle.cdc_run_command.proofs.run.run_script.Goals as goal

pub returns-clause-output : goal.returns-clause-output
returns-clause-output g c = λ bytes stated.
    let setting : Setting = setting_of c.args.plan (g.S.ProgressStore.held c.args.store)
    (g.S.ProgressStore.is_honest c.args.store) (g.S.ProgressStore.risks c.args.store) in
    let is = c.in-Some.is in
    let same : c.in_ok-sought.sought ≡ Some c.in-Some.found = cc in
    let found = subst (g.C.Content.finds c.args.content.now c.args.script) same c.in_ok-sought.ensures in
    let report = c.in_ok-ran.ran.report in (
      c.args.script,
      (
        stated,
        record {
          report = report;
          comes = c.in_ok-ran.ensures.comes;
          prints = subst (λ (order : List ℕ).
              g.C.RunContent.prints_ran c.args.content.now c.args.script order report c.in_ok-text.text.items)
              c.in_ok-ran.ensures.owners
              (c.in_ok-text.ensures setting c.args.script found c.in_ok-ran.ensures.comes);
        },
      ),
    )

pub returns-clause-ran : goal.returns-clause-ran
returns-clause-ran g c = λ bytes stated.
    let setting : Setting = setting_of c.args.plan (g.S.ProgressStore.held c.args.store)
    (g.S.ProgressStore.is_honest c.args.store) (g.S.ProgressStore.risks c.args.store) in
    let is = c.in-Some.is in
    let same : c.in_ok-sought.sought ≡ Some c.in-Some.found = cc in
    let found = subst (g.C.Content.finds c.args.content.now c.args.script) same c.in_ok-sought.ensures in
    (c.args.script, (stated, c.in_ok-text.ensures setting c.args.script found c.in_ok-ran.ensures.comes))

pub returns-clause-report : goal.returns-clause-report
returns-clause-report g c = λ bytes stated.
    let is = c.in_ok-ran.ensures in
    (c.args.script, (stated, record { owners = is.owners; lines = is.lines; comes = is.comes }))

pub returns-in_default-clause-output : goal.returns-in_default-clause-output
returns-in_default-clause-output g c = λ bytes stated.
    let setting : Setting = setting_of c.args.plan (g.S.ProgressStore.held c.args.store)
    (g.S.ProgressStore.is_honest c.args.store) (g.S.ProgressStore.risks c.args.store) in
    let is = c.in_default.is in
    let same : c.in_ok-sought.sought ≡ None = cc in
    let none = subst (g.C.Content.finds c.args.content.now c.args.script) same c.in_ok-sought.ensures in
    prints_none (g.C.RunContent.prints_ran c.args.content.now) (g.C.Content.finds c.args.content.now)
    g.F.Form.prints_fault setting (Some bytes) c.of_usage_error.result.ending c.of_usage_error.result.text.items
    (ap (λ (o : Outcome). o.ending) c.of_usage_error.ensures)
    (c.args.script, (stated, (none, ap (λ (o : Outcome). o.text) c.of_usage_error.ensures)))

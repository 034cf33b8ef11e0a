use Rattle.cdc_run_command.proofs.Words.{RunCommandPrints, Setting, refl, setting_of}
use Rattle.cdc_run_command.proofs.RunFaults.{stopped_so}
use Rattle.cdc_run_command.proofs.RunLemmas.{none_ran, ran_printed, writes_failure, writes_text}
use Rattle.cdc_run_command.proofs.run.run_command.Goals as goal

pub returns-in-Ok-clause-writes : goal.returns-in-Ok-clause-writes
returns-in-Ok-clause-writes g c =
    let setting : Setting = setting_of c.args.plan (g.S.ProgressStore.held c.args.store)
    (g.S.ProgressStore.is_honest c.args.store) (g.S.ProgressStore.risks c.args.store) in
    writes_text
    (RunCommandPrints (g.C.RunContent.prints_ran c.args.content.now) (g.C.Content.finds c.args.content.now)
    g.F.Form.prints_fault setting (g.R.Read.remaining c.args.reader.now)) _ _
    _ _ _ c.print_output.ensures.text c.in-Ok.ensures.output

pub returns-in-Err-clause-writes : goal.returns-in-Err-clause-writes
returns-in-Err-clause-writes g c =
    let setting : Setting = setting_of c.args.plan (g.S.ProgressStore.held c.args.store)
    (g.S.ProgressStore.is_honest c.args.store) (g.S.ProgressStore.risks c.args.store) in
    writes_failure
    (RunCommandPrints (g.C.RunContent.prints_ran c.args.content.now) (g.C.Content.finds c.args.content.now)
    g.F.Form.prints_fault setting (g.R.Read.remaining c.args.reader.now))
    g.F.Form.prints_fault _ _ _ _ c.print_output-in-Err.ensures.fault
    (λ line stated. (
      record { failed = c.in-Err.field-0; fault = refl; may = c.in-Err.ensures.failed },
      stated,
    ))

pub returns-in-Ok-clause-report : goal.returns-in-Ok-clause-report
returns-in-Ok-clause-report g c =
    let setting : Setting = setting_of c.args.plan (g.S.ProgressStore.held c.args.store)
    (g.S.ProgressStore.is_honest c.args.store) (g.S.ProgressStore.risks c.args.store) in
    ran_printed setting (g.R.Read.remaining c.args.reader.now) _ _ _ _ c.in-Ok.field-0.ran
    c.print_output.ensures.text c.in-Ok.ensures.report

pub returns-in-Err-clause-report : goal.returns-in-Err-clause-report
returns-in-Err-clause-report g c =
    let setting : Setting = setting_of c.args.plan (g.S.ProgressStore.held c.args.store)
    (g.S.ProgressStore.is_honest c.args.store) (g.S.ProgressStore.risks c.args.store) in
    none_ran setting (g.R.Read.remaining c.args.reader.now) _ _ g.F.Form.prints_fault c.in-Err.field-0.fault _
    c.print_output-in-Err.ensures.fault

pub returns-in-Err-clause-stop : goal.returns-in-Err-clause-stop
returns-in-Err-clause-stop g c =
    stopped_so (g.S.ProgressStore.is_honest c.args.store) (g.S.ProgressStore.risks c.args.store)
    g.F.Form.prints_fault _ _
    c.in-Err.field-0 _ c.print_output-in-Err.ensures.fault c.in-Err.ensures.failed

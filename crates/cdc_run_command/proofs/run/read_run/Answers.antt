use Rattle.cdc_run_command.proofs.RunLemmas.{printed_of_bytes, ran_of_bytes, run_of_script}
use Rattle.cdc_run_command.proofs.run.read_run.Goals as goal

pub returns-clause-output : goal.returns-clause-output
returns-clause-output g c =
    run_of_script (g.C.RunContent.prints_ran c.args.content.now) (g.C.Content.finds c.args.content.now)
    g.F.Form.prints_fault _ c.deref.result.now c.in_ok-bytes.bytes.items
    (g.R.Read.remaining c.args.reader.now) c.run_of.result c.deref.ensures.value c.in_ok-bytes.ensures.script
    c.run_of.ensures.output

pub returns-clause-ran : goal.returns-clause-ran
returns-clause-ran g c =
    printed_of_bytes (g.C.RunContent.prints_ran c.args.content.now) c.deref.result.now c.in_ok-bytes.bytes.items
    (g.R.Read.remaining c.args.reader.now) c.run_of.result c.deref.ensures.value c.in_ok-bytes.ensures.script
    c.run_of.ensures.ran

pub returns-clause-report : goal.returns-clause-report
returns-clause-report g c =
    ran_of_bytes _ c.deref.result.now c.in_ok-bytes.bytes.items (g.R.Read.remaining c.args.reader.now) c.run_of.result
    c.deref.ensures.value c.in_ok-bytes.ensures.script c.run_of.ensures.report

use Rattle.std.proofs.Common.{sym}
use Rattle.std.proofs.lemmas.Result.{IfOk-weaker}
use Rattle.cdc_run_command.proofs.Delivered.{delivered_to}
use Rattle.cdc_run_command.proofs.run_contents.AskedRunContent.print.Goals as goal

pub returns : goal.returns
returns g c = λ setting script found comes.
    let delivered = delivered_to setting script c.args.ran.now.report c.args.self.now.subscriber c.args.found.now
    comes.ran (sym found) in
    IfOk-weaker c.report_lines.result _ _
    (λ text is. record {
      binding = c.args.found.now;
      binds = sym found;
      received = delivered.0;
      receives = delivered.1;
      prints = is;
    })
    (c.report_lines.ensures delivered.0 delivered.1)

use Rattle.std.proofs.Common.{sym}
use Rattle.std.proofs.lemmas.Result.{IfOk-weaker}
use Rattle.cdc_deliveries.proofs.TakenArrivals.{arrives_as_taken}
use Rattle.cdc_deliveries.proofs.asked.AskedSimulationContentBothRecorder.print.Goals as goal

pub returns-clause-text : goal.returns-clause-text
returns-clause-text g c = λ plan many found come seen.
    IfOk-weaker c.simulated_lines.result _ _
    (λ text is. record {
      binding = c.args.found.now;
      binds = sym found;
      end = come.end;
      plays = come.plays;
      prints = is;
      arrives = arrives_as_taken c.args.self.now.subscriber c.args.found.now plan c.args.simulated.now.played.refusal
          come.end (sym found) come.plays;
    })
    (c.simulated_lines.ensures.text come.end come.report seen.0)

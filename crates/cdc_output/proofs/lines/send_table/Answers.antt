use Rattle.std.proofs.lemmas.Result.{on_ok_weaker}
use Rattle.cdc_output.specs.Private.Sending.{entry_value}
use Rattle.cdc_output.proofs.SentLemmas.{array_sent}
use Rattle.cdc_output.proofs.lines.send_table.Goals as goal

pub returns : goal.returns
returns g c =
    on_ok_weaker c.serialize.result
    (array_sent entry_value c.args.entries.now (g.S.Serializer.written c.args.out.now)
    (g.S.Serializer.written c.serialize.new.out)) c.serialize.ensures

use Rattle.std.proofs.lemmas.Result.{on_ok_weaker}
use Rattle.cdc_output.proofs.SentLemmas.{line_added}
use Rattle.cdc_output.proofs.lines.Lines.push.Goals as goal

pub returns : goal.returns
returns c =
    on_ok_weaker c.push_value.result
    (line_added c.args.kind.now c.args.members.now c.args.self.now.text.items c.push_value.new.text.items)
    c.push_value.ensures

use Rattle.cdc_output.proofs.SentLemmas.{SendsBehind}
use Rattle.cdc_output.proofs.lines.LineSerialize.serialize.Given as goal

abbrev pub invariant-loop-member : goal.invariant-loop-member
invariant-loop-member g l =
    SendsBehind l.member-index l.self.members.now (g.S.Serializer.written l.initial.out)
    (g.S.Serializer.written l.out)

use Rattle.std.proofs.lemmas.Option.{slice_get-get_or}
use Rattle.std.proofs.lemmas.Result.{on_ok_weaker}
use Rattle.cdc_output.proofs.SentLemmas.{behind_next, line_sent}
use Rattle.cdc_output.proofs.lines.LineSerialize.serialize.Goals as goal

pub loop-member-preserved : goal.loop-member-preserved
loop-member-preserved g c =
    behind_next c.loop-member.member-index c.args.self.now.members.now _ (g.S.Serializer.written c.str.new.self)
    (g.S.Serializer.written c.loop-member.out) (g.S.Serializer.written c.key-in-loop-member.new.self)
    (g.S.Serializer.written c.serialize.new.out)
    (slice_get-get_or c.args.self.now.members.now c.loop-member.member-index _ c.loop-member-test.true)
    c.in_ok-key-2.ensures c.in_ok-serialize.ensures c.loop-member.invariant

-- the kind, each member in its turn, and the end
pub returns : goal.returns
returns g c =
    on_ok_weaker c.end_map.result
    (line_sent c.args.self.now.kind.now c.args.self.now.members.now c.loop-member.member-index
    (g.S.Serializer.written c.args.out.now) (g.S.Serializer.written c.begin_map.new.self)
    (g.S.Serializer.written c.key.new.self) (g.S.Serializer.written c.str.new.self)
    (g.S.Serializer.written c.loop-member.out) (g.S.Serializer.written c.end_map.new.self) c.loop-member-test.false
    c.in_ok-begin_map.ensures c.in_ok-key.ensures c.in_ok-str.ensures c.loop-member.invariant) c.end_map.ensures

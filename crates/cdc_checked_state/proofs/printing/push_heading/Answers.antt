use Rattle.std.proofs.Common.{ap, ◌++◌, ◌∙◌}
use Rattle.std.proofs.lemmas.Result.{on_ok_weaker}
use Rattle.std.specs.Prelude.{codes}
use Rattle.cdc_codec.specs.Texts.{flagged, named}
use Rattle.cdc_audit_state.proofs.PrintingLemmas.{pieces}
use Rattle.cdc_checked_state.proofs.printing.push_heading.Goals as goal

pub returns : goal.returns
returns c =
    let follower = c.args.follower.now in
    on_ok_weaker c.push_binding.result (λ end.
    pieces _ c.write_named.new.writer.items _ (named (codes "checked-book 1 applied") follower.applied) _
    (c.in_ok-write_named.ensures
    ∙ ap (λ n. c.args.text.now.items ++ named (codes "checked-book 1 applied") n) c.applied_count.ensures)
    (pieces _ c.write_named-2.new.writer.items _ (named (codes " last") follower.last) _
    (c.in_ok-write_named-2.ensures
    ∙ ap (λ n. c.write_named.new.writer.items ++ named (codes " last") n) c.last.ensures)
    (pieces _ c.write_flagged.new.writer.items _ (flagged (codes " ended") follower.ended) _
    (c.in_ok-write_flagged.ensures
    ∙ ap (λ b. c.write_named-2.new.writer.items ++ flagged (codes " ended") b) c.ended.ensures)
    (pieces _ c.write_flagged-2.new.writer.items _ (flagged (codes " baseline") follower.baseline) _
    (c.in_ok-write_flagged-2.ensures
    ∙ ap (λ b. c.write_flagged.new.writer.items ++ flagged (codes " baseline") b) c.baseline.ensures) end))))
    c.push_binding.ensures

use Rattle.std.proofs.Common.{codes}
use Rattle.cdc_codec.specs.Texts.{flagged, named}
use Rattle.cdc_queue_lines.proofs.LineTexts.{pieces}
use Rattle.cdc_streams.proofs.KeepingLemmas.{ok_map}
use Rattle.cdc_chain_command.proofs.states.push_heading.Goals as goal

pub returns : goal.returns
returns c =
    let last = rw c.last.ensures at c.in_ok-write_named.ensures in
    let ended = rw c.ended.ensures at c.in_ok-write_flagged.ensures in
    ok_map c.write_text.result (λ feed.
    pieces c.args.text.now.items c.write_named.new.writer.items _
    (named (codes "chain-state 1 last") c.args.chain.now.last) _ last
    (pieces _ c.write_flagged.new.writer.items _ (flagged (codes " ended") c.args.chain.now.ended) _ ended feed))
    c.write_text.ensures

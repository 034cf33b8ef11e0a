use Rattle.std.proofs.Common.{◌∙◌, ◌++◌, List, ℕ, ap, map, sym}
use Rattle.cdc_queue_lines.proofs.LineTexts.{pieces}
use Rattle.cdc_streams.proofs.KeepingLemmas.{ok_map}
use Rattle.cdc_chain_command.specs.States.{heading}
use Rattle.cdc_chain_command.proofs.ReadLemmas.{text_parts}
use Rattle.cdc_chain_command.proofs.states.push_state.Goals as goal

pub returns : goal.returns
returns c =
    let old = c.args.text.now.items in
    ok_map c.push_rows.result (λ adds.
    pieces old c.push_heading.new.text.items _ (heading c.args.chain.now) _ c.in_ok-push_heading.ensures adds
    ∙ ap (λ (text : List ℕ). old ++ text)
    (sym (text_parts (map (λ t. t.items) c.args.texts.now) c.args.chain.now)))
    (rw c.places.ensures at c.push_rows.ensures)

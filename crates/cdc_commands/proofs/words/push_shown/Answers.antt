use Rattle.cdc_commands.proofs.Terms.{List, [], ap, append_assoc, map, shown_byte, slice_index, string_bytes, sym, take, ℕ, ◌++◌, ◌∙◌, ◌∷◌}
use Rattle.cdc_commands.proofs.ShownWords.{one_more}
use Rattle.cdc_commands.proofs.words.push_shown.Goals as goal

pub loop-byte-preserved : goal.loop-byte-preserved
loop-byte-preserved c =
    let items = c.args.bytes.now in
    let i = c.loop-byte.byte-index in
    let first = string_bytes c.args.text.now in
    let before = map shown_byte (take i items) in
    let next : List ℕ = shown_byte (slice_index items i) ∷ [] in
    c.in_ok-push_byte.ensures
    ∙ ap (λ (text : List ℕ). text ++ next) c.loop-byte.invariant
    ∙ append_assoc first before next
    ∙ ap (λ (more : List ℕ). first ++ more) (sym (one_more items i c.loop-byte-test.true))

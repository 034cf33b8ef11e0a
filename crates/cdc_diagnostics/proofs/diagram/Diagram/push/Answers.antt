use Rattle.cdc_diagnostics.proofs.Words.{List, append_assoc, codes, money_text, seen_of, sentence_text, ℕ, ◌++◌}
use Rattle.cdc_diagnostics.proofs.diagram.Diagram.push.Goals as goal

pub returns : goal.returns
returns c bytes held kept =
    let one : List ℕ = bytes ++ codes "    " in
    let two : List ℕ = one ++ sentence_text c.arrow.result in
    let three : List ℕ = two ++ sentence_text c.label.result in
    let four : List ℕ = three ++ money_text (seen_of c.args.done) in
    let all = c.push-2.ensures.holds four (c.push_movement.ensures three (c.push_sentence-2.ensures two
    (c.push_sentence.ensures one (c.push.ensures.holds bytes held)))) kept in
    simp append_assoc (simp append_assoc at (rw (c.arrow.ensures, c.label.ensures) at all))

use Rattle.cdc_diagnostics.proofs.Words.{List, append_assoc, codes, money_text, seen_of, sentence_text, ℕ, ◌++◌}
use Rattle.cdc_diagnostics.proofs.traces.Done.push_to.Goals as goal

pub returns : goal.returns
returns c bytes held kept =
    let one : List ℕ = bytes ++ sentence_text c.step_text.result in
    let two : List ℕ = one ++ codes ": " in
    let three : List ℕ = two ++ sentence_text c.sentence.result in
    let four : List ℕ = three ++ money_text (seen_of c.args.self) in
    let all = c.push-2.ensures.holds four (c.push_movement.ensures three (c.push_sentence-2.ensures two
    (c.push.ensures.holds one (c.push_sentence.ensures bytes held)))) kept in
    simp append_assoc (simp append_assoc at (rw (c.step_text.ensures, c.sentence.ensures) at all))

use Rattle.cdc_commands.proofs.Terms.{Answered, List, answered_lines, answers_to, ap, ap₂, empty_history, history_of, kept_text, line, subscribers_text, ℕ, ◌++◌, ◌∙◌, ◌≡◌}
use Rattle.cdc_commands.proofs.TextLemmas.{kept_text-bindings}
use Rattle.cdc_commands.proofs.text.print_books.Goals as goal

pub returns : goal.returns
returns c = λ script is.
    let lines : c.into_bytes-text.result.items ≡ answered_lines (answers_to 1 empty_history script.batches) =
    ap (λ v. v.items) c.into_bytes-text.ensures.value ∙ c.in_ok-push_answers.ensures
    ∙ ap₂ (λ (text : List ℕ) (answers : List Answered). text ++ answered_lines answers) c.new-lines.ensures.bytes
    (c.as_slice.ensures.value ∙ is.answers) in
    let books : kept_text 1 c.as_slice-2.result.now
    ≡ subscribers_text 1 (line (history_of script)) script.bindings =
    ap (kept_text 1) (c.as_slice-2.ensures.value ∙ is.subscribers)
    ∙ kept_text-bindings 1 (line (history_of script)) script.bindings in
    c.in_ok-push_subscribers.ensures ∙ ap₂ (λ (a b : List ℕ). a ++ b) lines books

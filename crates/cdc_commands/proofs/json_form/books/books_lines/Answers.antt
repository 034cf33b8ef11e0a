use Rattle.cdc_commands.proofs.Terms.{Answered, List, SubscriberState, answered_values, answers_to, ap₂, empty_history, history_of, json_lines, json_lines-append, kept_by, kept_values, line, map, sym, ℕ, ◌++◌, ◌∙◌, ◌≡◌}
use Rattle.cdc_commands.proofs.json_form.books.books_lines.Goals as goal

pub returns : goal.returns
returns c = λ script is.
    let items = line (history_of script) in
    let answers = answers_to 1 empty_history script.batches in
    let printed : c.push_answers.new.lines.text.items ≡ json_lines (answered_values answers) =
    c.in_ok-push_answers.ensures
    ∙ ap₂ (λ (text : List ℕ) (given : List Answered). text ++ json_lines (answered_values given)) c.new-lines.ensures
    (c.as_slice.ensures.value ∙ is.answers) in
    c.in_ok-push_subscribers.ensures
    ∙ ap₂ (λ (text : List ℕ) (kept : List SubscriberState). text ++ json_lines (kept_values 1 kept)) printed
    (c.as_slice-2.ensures.value ∙ is.subscribers)
    ∙ sym (json_lines-append (answered_values answers) (kept_values 1 (map (kept_by items) script.bindings)))

-- Replies that are printed as JSON lines, one after another.
use Rattle.cdc_run_command.proofs.Words.{List, Reply, Some, [], ap, append-nil, append_assoc, drop, drop_all, drop_found, json_line, json_lines, length, map, numbered_values, refl, reply_values, sym, ℕ, ◌++◌, ◌+◌, ◌∙◌, ◌∷◌, ◌≡◌, ◌≤◌}
use Rattle.std.specs.List.{slice_get}
use Rattle.serde_json.specs.Data.{Data}
use Rattle.cdc_commands.specs.JsonValues.{batch_value}

-- one more reply is printed
pub reply_more : (all : List Reply) (place : ℕ) (reply : Reply) (now next whole : List ℕ)
    → slice_get all place ≡ Some reply → next ≡ now ++ json_line (batch_value (place + 1) reply.answer)
    → now ++ json_lines (numbered_values (place + 1) (drop place all)) ≡ whole
    → next ++ json_lines (numbered_values (place + 1 + 1) (drop (place + 1) all)) ≡ whole
reply_more all place reply now next whole found added before =
    let own = json_line (batch_value (place + 1) reply.answer) in
    let rest = json_lines (numbered_values (place + 1 + 1) (drop (place + 1) all)) in
    ap (λ (text : List ℕ). text ++ rest) added ∙ append_assoc now own rest
    ∙ ap (λ (left : List Reply). now ++ json_lines (numbered_values (place + 1) left))
    (sym (drop_found all place reply found))
    ∙ before

-- no reply is left
pub reply_whole : (all : List Reply) (place : ℕ) (now whole : List ℕ) → length all ≤ place
    → now ++ json_lines (numbered_values (place + 1) (drop place all)) ≡ whole → now ≡ whole
reply_whole all place now whole past before =
    sym (append-nil now)
    ∙ ap (λ (left : List Reply). now ++ json_lines (numbered_values (place + 1) left)) (sym (drop_all place all past))
    ∙ before

-- the values of replies are those of the entries that have them
pub values_numbered : (n : ℕ) (entries : List (ℕ × Reply))
    → numbered_values n (map (λ (e : ℕ × Reply). e.1) entries) ≡ reply_values n entries
values_numbered n [] = refl
values_numbered n (e ∷ entries) =
    ap (λ (values : List Data). batch_value n e.1.answer ∷ values) (values_numbered (n + 1) entries)

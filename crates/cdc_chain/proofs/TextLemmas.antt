-- The texts of lines, put together piece by piece.
use Rattle.std.proofs.Common.{◌≡◌, ℕ, ◌+◌, ◌<◌, ◌≤◌, List, [], ◌∷◌, ◌++◌, codes, length, drop, flat_map, get_or, map, refl, sym}
use Rattle.std.proofs.Common.{ap, ◌∙◌, append_assoc, append-nil, arith}
use Rattle.std.proofs.lemmas.List.{drop_all, drop_more}
use Rattle.cdc_types.specs.declared.events.Event.{Event}
use Rattle.cdc_message.specs.Bodies.{in_quotes, member_text, object_text}
use Rattle.cdc_message.proofs.Members.{object_text-append}
use Rattle.cdc_queue_lines.specs.declared.predecessors.Predecessor.{Predecessor}
use Rattle.cdc_queue_lines.specs.Lines.{ended}
use Rattle.cdc_chain.specs.Lines.{QueueLine, end_line, end_lines, event_line, event_lines, line_text, lines_text}

-- the pieces of the line of a message
pub message_pieces : (queue previous headers seconds body : List ℕ)
    → (codes "{\"queue\":" ++ queue) ++ ((codes ",\"kind\":\"message\",\"previous\":\"" ++ previous)
    ++ (codes "\",\"headers\":" ++ (headers
    ++ ((codes ",\"timestamp\":" ++ seconds) ++ (codes ",\"body\":" ++ (body ++ codes "}\n"))))))
    ≡ ended (object_text (
    member_text (codes "queue") queue ∷
    member_text (codes "kind") (in_quotes (codes "message")) ∷
    member_text (codes "previous") (in_quotes previous) ∷
    member_text (codes "headers") headers ∷
    member_text (codes "timestamp") seconds ∷
    member_text (codes "body") body ∷
    []))
message_pieces queue previous headers seconds body =
    let members =
    member_text (codes "queue") queue ∷
    member_text (codes "kind") (in_quotes (codes "message")) ∷
    member_text (codes "previous") (in_quotes previous) ∷
    member_text (codes "headers") headers ∷
    member_text (codes "timestamp") seconds ∷
    member_text (codes "body") body ∷
    [] in
    let rest : List ℕ = codes ",\"headers\":" ++ (headers ++ (codes ",\"timestamp\":" ++ (seconds
    ++ (codes ",\"body\":" ++ (body ++ codes "}\n"))))) in
    sym (object_text-append members (codes "\n")
    ∙ ap (λ (t : List ℕ). codes "{\"queue\":" ++ (queue ++ (codes ",\"kind\":\"message\",\"previous\":\"" ++ t)))
    (append_assoc previous (codes "\"") rest))

-- the pieces of the line of an end
pub end_pieces : (queue previous : List ℕ)
    → (codes "{\"queue\":" ++ queue) ++ ((codes ",\"kind\":\"end\",\"previous\":\"" ++ previous)
    ++ codes "\",\"end\":true}\n")
    ≡ ended (object_text (
    member_text (codes "queue") queue ∷
    member_text (codes "kind") (in_quotes (codes "end")) ∷
    member_text (codes "previous") (in_quotes previous) ∷
    member_text (codes "end") (codes "true") ∷
    []))
end_pieces queue previous =
    let members =
    member_text (codes "queue") queue ∷
    member_text (codes "kind") (in_quotes (codes "end")) ∷
    member_text (codes "previous") (in_quotes previous) ∷
    member_text (codes "end") (codes "true") ∷
    [] in
    sym (object_text-append members (codes "\n")
    ∙ ap (λ (t : List ℕ). codes "{\"queue\":" ++ (queue ++ (codes ",\"kind\":\"end\",\"previous\":\"" ++ t)))
    (append_assoc previous (codes "\"") (codes ",\"end\":true}\n")))

-- ---- one line after another

-- the lines that are left make this text with what was added
abbrev pub WithRest : {X : Type 0} → (List X → List QueueLine) → List X → ℕ → List ℕ → List ℕ → Type 0
WithRest lines xs place now whole = now ++ lines_text (lines (drop place xs)) ≡ whole

-- one more message
pub one_message : (e : Event) (queues : List Predecessor) (place : ℕ) (d : Predecessor) (now new whole : List ℕ)
    → place < length queues → WithRest (event_lines e) queues place now whole
    → new ≡ now ++ ended (line_text (event_line e (get_or queues place d)))
    → WithRest (event_lines e) queues (place + 1) new whole
one_message e queues place d now new whole within rest adds =
    let later = lines_text (event_lines e (drop (place + 1) queues)) in
    ap (λ text. text ++ later) adds
    ∙ append_assoc now (ended (line_text (event_line e (get_or queues place d)))) later
    ∙ ap (λ left. now ++ lines_text (event_lines e left)) (sym (drop_more queues place d within)) ∙ rest

-- all of them
pub all_messages : (e : Event) (queues : List Predecessor) (place : ℕ) (now whole : List ℕ)
    → length queues ≤ place → WithRest (event_lines e) queues place now whole → now ≡ whole
all_messages e queues place now whole past rest =
    sym (append-nil now) ∙ ap (λ left. now ++ lines_text (event_lines e left)) (sym (drop_all place queues past)) ∙ rest

-- one more end
pub one_end : (places : List ℕ) (place : ℕ) (d : ℕ) (now new whole : List ℕ)
    → place < length places → WithRest (end_lines (place + 1)) places place now whole
    → new ≡ now ++ ended (line_text (end_line (place + 1) (get_or places place d)))
    → WithRest (end_lines (place + 1 + 1)) places (place + 1) new whole
one_end places place d now new whole within rest adds =
    let later = lines_text (end_lines (place + 1 + 1) (drop (place + 1) places)) in
    ap (λ text. text ++ later) adds
    ∙ append_assoc now (ended (line_text (end_line (place + 1) (get_or places place d)))) later
    ∙ ap (λ left. now ++ lines_text (end_lines (place + 1) left)) (sym (drop_more places place d within)) ∙ rest

pub all_ends : (places : List ℕ) (place : ℕ) (now whole : List ℕ) → length places ≤ place
    → WithRest (end_lines (place + 1)) places place now whole → now ≡ whole
all_ends places place now whole past rest =
    sym (append-nil now) ∙ ap (λ left. now ++ lines_text (end_lines (place + 1) left))
    (sym (drop_all place places past)) ∙ rest

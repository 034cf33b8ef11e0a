-- The texts of lines, put together piece by piece.
use Rattle.std.proofs.Common.{◌≡◌, ℕ, zero, suc, ◌+◌, ◌<◌, ◌≤◌, List, [], ◌∷◌, ◌++◌, Some, None, codes, length, drop, flat_map, refl, sym, ap, ◌∙◌, append_assoc, append-nil, arith}
use Rattle.std.specs.List.{slice_get}
use Rattle.std.proofs.lemmas.List.{drop_all}
use Rattle.cdc_types.specs.declared.events.Event.{Event}
use Rattle.cdc_message.specs.Bodies.{in_quotes, member_text, object_text}
use Rattle.cdc_message.proofs.Members.{object_text-append}
use Rattle.cdc_match.specs.Arguments.{Arguments}
use Rattle.cdc_match.specs.Queue.{feed}
use Rattle.cdc_queue_lines.specs.Lines.{end_line, ended, lines_after}

-- a piece, and what follows it
pub pieces : (old mid new piece rest : List ℕ) → mid ≡ old ++ piece → new ≡ mid ++ rest → new ≡ old ++ (piece ++ rest)
pieces old mid new piece rest h k = rw (k, h, append_assoc) refl

-- the pieces of the routing headers
pub header_pieces : (kind ledger code debit credit : List ℕ)
    → codes "{\"event_type\":\"" ++ (kind ++ ((codes "\",\"ledger\":" ++ ledger)
    ++ ((codes ",\"transfer_code\":" ++ code) ++ ((codes ",\"debit_account_code\":" ++ debit)
    ++ ((codes ",\"credit_account_code\":" ++ credit) ++ codes "}")))))
    ≡ object_text (
    member_text (codes "event_type") (in_quotes kind) ∷
    member_text (codes "ledger") ledger ∷
    member_text (codes "transfer_code") code ∷
    member_text (codes "debit_account_code") debit ∷
    member_text (codes "credit_account_code") credit ∷
    [])
header_pieces kind ledger code debit credit =
    let members =
    member_text (codes "event_type") (in_quotes kind) ∷
    member_text (codes "ledger") ledger ∷
    member_text (codes "transfer_code") code ∷
    member_text (codes "debit_account_code") debit ∷
    member_text (codes "credit_account_code") credit ∷
    [] in
    let numbers : List ℕ = codes ",\"ledger\":" ++ (ledger ++ (codes ",\"transfer_code\":" ++ (code
    ++ (codes ",\"debit_account_code\":" ++ (debit ++ (codes ",\"credit_account_code\":" ++ (credit
    ++ codes "}"))))))) in
    sym (sym (append-nil (object_text members)) ∙ object_text-append members []
    ∙ ap (λ (t : List ℕ). codes "{\"event_type\":\"" ++ t) (append_assoc kind (codes "\"") numbers))

-- the pieces of the line of a message
pub message_pieces : (previous headers seconds body : List ℕ)
    → (codes "{\"kind\":\"message\",\"previous\":\"" ++ previous) ++ (codes "\",\"headers\":" ++ (headers
    ++ ((codes ",\"timestamp\":" ++ seconds) ++ (codes ",\"body\":" ++ (body ++ codes "}\n")))))
    ≡ ended (object_text (
    member_text (codes "kind") (in_quotes (codes "message")) ∷
    member_text (codes "previous") (in_quotes previous) ∷
    member_text (codes "headers") headers ∷
    member_text (codes "timestamp") seconds ∷
    member_text (codes "body") body ∷
    []))
message_pieces previous headers seconds body =
    let members =
    member_text (codes "kind") (in_quotes (codes "message")) ∷
    member_text (codes "previous") (in_quotes previous) ∷
    member_text (codes "headers") headers ∷
    member_text (codes "timestamp") seconds ∷
    member_text (codes "body") body ∷
    [] in
    let rest : List ℕ = codes ",\"headers\":" ++ (headers ++ (codes ",\"timestamp\":" ++ (seconds
    ++ (codes ",\"body\":" ++ (body ++ codes "}\n"))))) in
    sym (object_text-append members (codes "\n")
    ∙ ap (λ (t : List ℕ). codes "{\"kind\":\"message\",\"previous\":\"" ++ t)
    (append_assoc previous (codes "\"") rest))

-- the pieces of the line of the end
pub end_pieces : (previous : List ℕ)
    → (codes "{\"kind\":\"end\",\"previous\":\"" ++ previous) ++ codes "\",\"end\":true}\n"
    ≡ ended (object_text (
    member_text (codes "kind") (in_quotes (codes "end")) ∷
    member_text (codes "previous") (in_quotes previous) ∷
    member_text (codes "end") (codes "true") ∷
    []))
end_pieces previous =
    let members =
    member_text (codes "kind") (in_quotes (codes "end")) ∷
    member_text (codes "previous") (in_quotes previous) ∷
    member_text (codes "end") (codes "true") ∷
    [] in
    sym (object_text-append members (codes "\n")
    ∙ ap (λ (t : List ℕ). codes "{\"kind\":\"end\",\"previous\":\"" ++ t)
    (append_assoc previous (codes "\"") (codes ",\"end\":true}\n")))

-- ---- the lines of a queue, one event of the log after another

-- what is left after the elements before one that was found: it, and what is left after it
pub drop_found : {X : Type 0} (xs : List X) (i : ℕ) (x : X) → slice_get xs i ≡ Some x → drop i xs ≡ x ∷ drop (i + 1) xs
drop_found [] i x h = cc
drop_found (y ∷ xs) zero x h = let same : y ≡ x = cc in ap (λ z. z ∷ xs) same
drop_found (y ∷ xs) (suc i) x h =
    drop_found xs i x h ∙ ap (λ n. x ∷ drop n (y ∷ xs)) (let e : suc (i + 1) ≡ suc i + 1 = omega arith in e)

-- a log has an event at each place
pub no_event : (events : List Event) (place : ℕ) → place < length events → slice_get events place ≡ None → ⊥
no_event [] place below h = omega arith
no_event (event ∷ events) zero below h = cc
no_event (event ∷ events) (suc place) below h = no_event events place (omega arith) h

-- the text of the lines that are left, after an event with this timestamp
abbrev pub text_after : Arguments → ℕ → List Event → List ℕ
text_after binding previous events = flat_map ended (lines_after previous (feed events binding))

-- an event adds what it makes of the text that is left
pub one_event : (binding : Arguments) (events : List Event) (place : ℕ) (event : Event) (old new whole : List ℕ)
    (previous last : ℕ) → slice_get events place ≡ Some event
    → ((later : List Event) → new ++ text_after binding last later ≡ old ++ text_after binding previous (event ∷ later))
    → old ++ text_after binding previous (drop place events) ≡ whole
    → new ++ text_after binding last (drop (place + 1) events) ≡ whole
one_event binding events place event old new whole previous last found adds before =
    adds (drop (place + 1) events)
    ∙ ap (λ (left : List Event). old ++ text_after binding previous left) (sym (drop_found events place event found))
    ∙ before

-- after all events the end makes the text whole
pub all_events : (binding : Arguments) (events : List Event) (place : ℕ) (old new whole : List ℕ) (previous : ℕ)
    → length events ≤ place → new ≡ old ++ ended (end_line previous)
    → old ++ text_after binding previous (drop place events) ≡ whole → new ≡ whole
all_events binding events place old new whole previous past adds before =
    adds ∙ ap (λ (line : List ℕ). old ++ line) (sym (append-nil (ended (end_line previous))))
    ∙ ap (λ (left : List Event). old ++ text_after binding previous left) (sym (drop_all place events past))
    ∙ before

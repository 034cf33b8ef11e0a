-- The texts of lines, put together piece by piece.
use Rattle.cdc_deliveries.proofs.Words.{Arrival, Event, List, None, Option, Some, [], ap, append-nil, body, codes, content_members, deliveries_from, delivery_line, drop, ended, headers_of_event, headers_text, in_quotes, join_with_byte, line_of, member_text, narrow_member, object_text, placed, refl, seconds_of, slice_get, sym, ℕ, ◌++◌, ◌+◌, ◌∙◌, ◌∷◌, ◌≡◌}
use Rattle.std.proofs.Common.{append_assoc}
use Rattle.cdc_message.proofs.Members.{members_then, object_text-append}
use Rattle.cdc_deliveries.proofs.Walks.{drop_found}

-- a piece, and what follows it
pub pieces : (old mid new piece rest : List ℕ) → mid ≡ old ++ piece → new ≡ mid ++ rest → new ≡ old ++ (piece ++ rest)
pieces old mid new piece rest h k = rw (k, h, append_assoc) refl

-- members that are joined, and the end of their object
joined_then : (m : List ℕ) (ms : List (List ℕ)) (rest : List ℕ)
    → join_with_byte 44 (m ∷ ms) ++ 125 ∷ rest ≡ members_then m ms rest
joined_then m ms rest =
    let whole = object_text-append (m ∷ ms) rest in
    let same : (join_with_byte 44 (m ∷ ms) ++ 125 ∷ []) ++ rest ≡ members_then m ms rest = cc in
    sym (append_assoc (join_with_byte 44 (m ∷ ms)) (125 ∷ []) rest) ∙ same

-- the pieces of the line of a delivery
delivery_pieces : (number position flag previous m : List ℕ) (ms : List (List ℕ))
    → (codes "{\"kind\":\"delivery\",\"delivery\":" ++ number) ++ ((codes ",\"position\":" ++ position)
    ++ (codes ",\"redelivered\":" ++ (flag ++ ((codes ",\"previous\":\"" ++ previous)
    ++ (codes "\"," ++ (join_with_byte 44 (m ∷ ms) ++ codes "}\n"))))))
    ≡ ended (object_text (
    member_text (codes "kind") (in_quotes (codes "delivery")) ∷
    member_text (codes "delivery") number ∷
    member_text (codes "position") position ∷
    member_text (codes "redelivered") flag ∷
    member_text (codes "previous") (in_quotes previous) ∷
    m ∷ ms))
delivery_pieces number position flag previous m ms =
    let members =
    member_text (codes "kind") (in_quotes (codes "delivery")) ∷
    member_text (codes "delivery") number ∷
    member_text (codes "position") position ∷
    member_text (codes "redelivered") flag ∷
    member_text (codes "previous") (in_quotes previous) ∷
    m ∷ ms in
    let line : List ℕ → List ℕ = λ (rest : List ℕ).
    codes "{\"kind\":\"delivery\",\"delivery\":" ++ (number ++ (codes ",\"position\":" ++ (position
    ++ (codes ",\"redelivered\":" ++ (flag ++ (codes ",\"previous\":\"" ++ rest)))))) in
    ap (λ (rest : List ℕ). line (previous ++ (codes "\"," ++ rest))) (joined_then m ms (codes "\n"))
    ∙ sym (object_text-append members (codes "\n")
    ∙ ap line (append_assoc previous (codes "\"") (44 ∷ members_then m ms (codes "\n"))))

-- the same of an item
pub delivery_pieces_of : (number position flag previous : List ℕ) (event : Option Event)
    → (codes "{\"kind\":\"delivery\",\"delivery\":" ++ number) ++ ((codes ",\"position\":" ++ position)
    ++ (codes ",\"redelivered\":" ++ (flag ++ ((codes ",\"previous\":\"" ++ previous)
    ++ (codes "\"," ++ (join_with_byte 44 (content_members event) ++ codes "}\n"))))))
    ≡ ended (object_text (
    member_text (codes "kind") (in_quotes (codes "delivery")) ∷
    member_text (codes "delivery") number ∷
    member_text (codes "position") position ∷
    member_text (codes "redelivered") flag ∷
    member_text (codes "previous") (in_quotes previous) ∷
    content_members event))
delivery_pieces_of number position flag previous (Some event) =
    delivery_pieces number position flag previous
    (member_text (codes "headers") (headers_text (headers_of_event event)))
    (narrow_member (codes "timestamp") (seconds_of event) ∷ member_text (codes "body") (body event) ∷ [])
delivery_pieces_of number position flag previous None =
    delivery_pieces number position flag previous (member_text (codes "end") (codes "true")) []

-- the pieces of what a message has of its event
pub content_pieces : (headers seconds body : List ℕ)
    → codes "\"headers\":" ++ (headers ++ ((codes ",\"timestamp\":" ++ seconds) ++ (codes ",\"body\":" ++ body)))
    ≡ join_with_byte 44 (
    member_text (codes "headers") headers ∷
    member_text (codes "timestamp") seconds ∷
    member_text (codes "body") body ∷
    [])
content_pieces headers seconds body = refl

-- the pieces of the line of what is expected
pub expected_pieces : (number result applied last accounts : List ℕ)
    → (codes "{\"kind\":\"expect\",\"delivery\":" ++ number) ++ (codes ",\"result\":\"" ++ (result
    ++ ((codes "\",\"applied\":" ++ applied) ++ ((codes ",\"last\":\"" ++ last)
    ++ (codes "\",\"accounts\":[" ++ (accounts ++ codes "]}\n"))))))
    ≡ ended (object_text (
    member_text (codes "kind") (in_quotes (codes "expect")) ∷
    member_text (codes "delivery") number ∷
    member_text (codes "result") (in_quotes result) ∷
    member_text (codes "applied") applied ∷
    member_text (codes "last") (in_quotes last) ∷
    member_text (codes "accounts") (codes "[" ++ accounts ++ codes "]") ∷
    []))
expected_pieces number result applied last accounts =
    let members =
    member_text (codes "kind") (in_quotes (codes "expect")) ∷
    member_text (codes "delivery") number ∷
    member_text (codes "result") (in_quotes result) ∷
    member_text (codes "applied") applied ∷
    member_text (codes "last") (in_quotes last) ∷
    member_text (codes "accounts") (codes "[" ++ accounts ++ codes "]") ∷
    [] in
    let first : List ℕ → List ℕ = λ (rest : List ℕ).
    codes "{\"kind\":\"expect\",\"delivery\":" ++ (number ++ (codes ",\"result\":\"" ++ rest)) in
    let second : List ℕ → List ℕ = λ (rest : List ℕ).
    codes "\",\"applied\":" ++ (applied ++ (codes ",\"last\":\"" ++ rest)) in
    let third : List ℕ → List ℕ = λ (rest : List ℕ). codes "\",\"accounts\":[" ++ rest in
    sym (object_text-append members (codes "\n")
    ∙ ap first (append_assoc result (codes "\"")
    (codes ",\"applied\":" ++ (applied ++ (codes ",\"last\":\"" ++ ((last ++ codes "\"")
    ++ (codes ",\"accounts\":[" ++ ((accounts ++ codes "]") ++ codes "}\n")))))))
    ∙ ap (λ (rest : List ℕ). first (result ++ second rest)) (append_assoc last (codes "\"")
    (codes ",\"accounts\":[" ++ ((accounts ++ codes "]") ++ codes "}\n")))
    ∙ ap (λ (rest : List ℕ). first (result ++ second (last ++ third rest)))
    (append_assoc accounts (codes "]") (codes "}\n")))

-- the pieces of an account
pub entry_pieces : (id debits_pending debits_posted credits_pending credits_posted : List ℕ)
    → (codes "{\"id\":\"" ++ id) ++ ((codes "\",\"debits_pending\":\"" ++ debits_pending)
    ++ ((codes "\",\"debits_posted\":\"" ++ debits_posted) ++ ((codes "\",\"credits_pending\":\"" ++ credits_pending)
    ++ ((codes "\",\"credits_posted\":\"" ++ credits_posted) ++ codes "\"}"))))
    ≡ object_text (
    member_text (codes "id") (in_quotes id) ∷
    member_text (codes "debits_pending") (in_quotes debits_pending) ∷
    member_text (codes "debits_posted") (in_quotes debits_posted) ∷
    member_text (codes "credits_pending") (in_quotes credits_pending) ∷
    member_text (codes "credits_posted") (in_quotes credits_posted) ∷
    [])
entry_pieces id debits_pending debits_posted credits_pending credits_posted =
    let members =
    member_text (codes "id") (in_quotes id) ∷
    member_text (codes "debits_pending") (in_quotes debits_pending) ∷
    member_text (codes "debits_posted") (in_quotes debits_posted) ∷
    member_text (codes "credits_pending") (in_quotes credits_pending) ∷
    member_text (codes "credits_posted") (in_quotes credits_posted) ∷
    [] in
    let quoted : List ℕ → List ℕ → List ℕ = λ (text : List ℕ) (rest : List ℕ). (text ++ codes "\"") ++ rest in
    let fifth : List ℕ = codes ",\"credits_posted\":\"" ++ quoted credits_posted (codes "}") in
    let fourth : List ℕ = codes ",\"credits_pending\":\"" ++ quoted credits_pending fifth in
    let third : List ℕ = codes ",\"debits_posted\":\"" ++ quoted debits_posted fourth in
    let second : List ℕ = codes ",\"debits_pending\":\"" ++ quoted debits_pending third in
    sym (sym (append-nil (object_text members)) ∙ object_text-append members []
    ∙ ap (λ (t : List ℕ). codes "{\"id\":\"" ++ t) (append_assoc id (codes "\"") second)
    ∙ ap (λ (t : List ℕ). codes "{\"id\":\"" ++ (id ++ (codes "\",\"debits_pending\":\"" ++ t)))
    (append_assoc debits_pending (codes "\"") third)
    ∙ ap (λ (t : List ℕ). codes "{\"id\":\"" ++ (id ++ (codes "\",\"debits_pending\":\"" ++ (debits_pending
    ++ (codes "\",\"debits_posted\":\"" ++ t))))) (append_assoc debits_posted (codes "\"") fourth)
    ∙ ap (λ (t : List ℕ). codes "{\"id\":\"" ++ (id ++ (codes "\",\"debits_pending\":\"" ++ (debits_pending
    ++ (codes "\",\"debits_posted\":\"" ++ (debits_posted ++ (codes "\",\"credits_pending\":\"" ++ t)))))))
    (append_assoc credits_pending (codes "\"") fifth)
    ∙ ap (λ (t : List ℕ). codes "{\"id\":\"" ++ (id ++ (codes "\",\"debits_pending\":\"" ++ (debits_pending
    ++ (codes "\",\"debits_posted\":\"" ++ (debits_posted ++ (codes "\",\"credits_pending\":\"" ++ (credits_pending
    ++ (codes "\",\"credits_posted\":\"" ++ t))))))))) (append_assoc credits_posted (codes "\"") (codes "}")))

-- ---- one line after another

-- what is left of lines that are made of one element after another
pub line_added : (old new line left whole : List ℕ) → new ≡ old ++ line → old ++ (line ++ left) ≡ whole
    → new ++ left ≡ whole
line_added old new line left whole adds before = rw (adds) (append_assoc old line left) ∙ before

-- the line of an arrival
pub one_delivery : (fed : List Event) (arrived : List Arrival) (place : ℕ) (arrival : Arrival) (old new whole : List ℕ)
    → slice_get arrived place ≡ Some arrival
    → new ≡ old ++ line_of (delivery_line (place + 1) arrival) (placed fed arrival.item)
    → old ++ deliveries_from (place + 1) fed (drop place arrived) ≡ whole
    → new ++ deliveries_from (place + 1 + 1) fed (drop (place + 1) arrived) ≡ whole
one_delivery fed arrived place arrival old new whole is adds before =
    line_added old new (line_of (delivery_line (place + 1) arrival) (placed fed arrival.item))
    (deliveries_from (place + 1 + 1) fed (drop (place + 1) arrived)) whole adds
    (ap (λ (ys : List Arrival). old ++ deliveries_from (place + 1) fed ys) (sym (drop_found arrived place arrival is))
    ∙ before)

-- The lines of messages, put together piece by piece.
use Rattle.std.proofs.Common.{◌≡◌, ℕ, zero, suc, ◌+◌, ◌<◌, ◌≤◌, List, [], ◌∷◌, ◌++◌, Some, codes, length, get_or, take, drop, map, flat_map, refl, sym, ap, ◌∙◌, append_assoc, append-nil, arith}
use Rattle.std.specs.List.{join_with_byte, slice_get}
use Rattle.std.proofs.lemmas.List.{drop_all, map-append, take_more}
use Rattle.std.proofs.lemmas.Option.{slice_get_within, get_or_from_slice_get}
use Rattle.cdc_types.specs.declared.events.Event.{Event}
use Rattle.cdc_message.specs.Bodies.{in_quotes, member_text, object_text}
use Rattle.cdc_message.proofs.Members.{object_text-append}
use Rattle.cdc_match.specs.Arguments.{Arguments}
use Rattle.cdc_queue_lines.specs.declared.predecessors.Predecessor.{Predecessor}
use Rattle.cdc_queue_lines.specs.Lines.{ended}
use Rattle.cdc_queue_lines.specs.Messages.{queue_text, queued_line, queued_lines, queues_text}
use Rattle.cdc_queue_lines.specs.Predecessors.{predecessors}
use Rattle.cdc_queue_lines.proofs.LineTexts.{drop_found}

-- the elements up to one that was found
pub take_found : {X : Type 0} (xs : List X) (i : ℕ) (x : X) → slice_get xs i ≡ Some x → take (i + 1) xs ≡ take i xs
    ++ x ∷ []
take_found xs i x found = take_more xs i x (slice_get_within xs i x found)
    ∙ ap (λ y. take i xs ++ y ∷ []) (get_or_from_slice_get xs i x x found)

-- ---- the queues of a line

-- one text more behind joined ones
joined_more : (m : List ℕ) (ms : List (List ℕ)) (x : List ℕ)
    → join_with_byte 44 (m ∷ (ms ++ x ∷ [])) ≡ join_with_byte 44 (m ∷ ms) ++ 44 ∷ x
joined_more m [] x = refl
joined_more m (n ∷ ms) x =
    ap (λ (t : List ℕ). m ++ 44 ∷ t) (joined_more n ms x)
    ∙ sym (append_assoc m (44 ∷ join_with_byte 44 (n ∷ ms)) (44 ∷ x))

-- the first queue
first_queue : (qs : List Predecessor) (d : Predecessor) → 0 < length qs
    → queues_text (take 1 qs) ≡ queue_text (get_or qs 0 d)
first_queue qs d within = ap queues_text (take_more qs 0 d within)

-- a later one, behind a comma
later_queue : (qs : List Predecessor) (i : ℕ) (d : Predecessor) → 0 < i → i < length qs
    → queues_text (take (i + 1) qs) ≡ queues_text (take i qs) ++ 44 ∷ queue_text (get_or qs i d)
later_queue [] i d later within = absurd (omega arith)
later_queue (p ∷ qs) zero d later within = absurd (omega arith)
later_queue (p ∷ qs) (suc i) d later within =
    let q = get_or (p ∷ qs) (suc i) d in
    ap queues_text (take_more (p ∷ qs) (suc i) d within)
    ∙ ap (join_with_byte 44) (map-append queue_text (take (suc i) (p ∷ qs)) (q ∷ []))
    ∙ joined_more (queue_text p) (map queue_text (take i qs)) (queue_text q)

-- so one queue more is added, behind a comma unless it is the first
pub queue_added : (qs : List Predecessor) (i : ℕ) (d : Predecessor) (old now mid new : List ℕ) → i < length qs
    → now ≡ old ++ queues_text (take i qs) → (0 < i → mid ≡ now ++ 44 ∷ []) → (i ≤ 0 → mid ≡ now)
    → new ≡ mid ++ queue_text (get_or qs i d) → new ≡ old ++ queues_text (take (i + 1) qs)
queue_added qs zero d old now mid new within before comma none adds =
    let q = get_or qs 0 d in
    adds ∙ ap (λ (t : List ℕ). t ++ queue_text q) (none (omega arith) ∙ before ∙ append-nil old)
    ∙ ap (λ (t : List ℕ). old ++ t) (sym (first_queue qs d within))
queue_added qs (suc i) d old now mid new within before comma none adds =
    let q = get_or qs (suc i) d in
    let so_far = queues_text (take (suc i) qs) in
    adds ∙ ap (λ (t : List ℕ). t ++ queue_text q) (comma (omega arith))
    ∙ append_assoc now (44 ∷ []) (queue_text q)
    ∙ ap (λ (t : List ℕ). t ++ 44 ∷ queue_text q) before
    ∙ append_assoc old so_far (44 ∷ queue_text q)
    ∙ ap (λ (t : List ℕ). old ++ t) (sym (later_queue qs (suc i) d (omega arith) within))

-- ---- a line

-- the pieces of the line of a message
pub queued_pieces : (headers seconds queues body : List ℕ)
    → codes "{\"kind\":\"message\",\"headers\":" ++ (headers ++ ((codes ",\"timestamp\":" ++ seconds)
    ++ (codes ",\"queues\":[" ++ (queues ++ (codes "],\"body\":" ++ (body ++ codes "}\n"))))))
    ≡ ended (object_text (
    member_text (codes "kind") (in_quotes (codes "message")) ∷
    member_text (codes "headers") headers ∷
    member_text (codes "timestamp") seconds ∷
    member_text (codes "queues") (codes "[" ++ queues ++ codes "]") ∷
    member_text (codes "body") body ∷
    []))
queued_pieces headers seconds queues body =
    let members =
    member_text (codes "kind") (in_quotes (codes "message")) ∷
    member_text (codes "headers") headers ∷
    member_text (codes "timestamp") seconds ∷
    member_text (codes "queues") (codes "[" ++ queues ++ codes "]") ∷
    member_text (codes "body") body ∷
    [] in
    let rest : List ℕ = codes ",\"body\":" ++ (body ++ codes "}\n") in
    sym (object_text-append members (codes "\n")
    ∙ ap (λ (t : List ℕ). codes "{\"kind\":\"message\",\"headers\":"
    ++ (headers ++ ((codes ",\"timestamp\":" ++ seconds)
    ++ (codes ",\"queues\":[" ++ t))))
    (append_assoc queues (codes "]") rest))

-- ---- the lines of a log, one event after another

-- the text of the lines of events after these ones
abbrev pub text_of : List Arguments → List Event → List Event → List ℕ
text_of bindings before events = flat_map ended (queued_lines bindings before events)

-- an event adds its line of the text that is left
pub one_message : (bindings : List Arguments) (events : List Event) (place : ℕ) (event : Event)
    (queues : List Predecessor) (old new whole : List ℕ) → slice_get events place ≡ Some event
    → queues ≡ predecessors 1 bindings (take place events) event → new ≡ old ++ ended (queued_line queues event)
    → old ++ text_of bindings (take place events) (drop place events) ≡ whole
    → new ++ text_of bindings (take (place + 1) events) (drop (place + 1) events) ≡ whole
one_message bindings events place event queues old new whole found are adds before =
    let now = take place events in
    let left = drop (place + 1) events in
    let line = ended (queued_line (predecessors 1 bindings now event) event) in
    ap (λ (text : List ℕ). text ++ text_of bindings (take (place + 1) events) left)
    (adds ∙ ap (λ (qs : List Predecessor). old ++ ended (queued_line qs event)) are)
    ∙ append_assoc old line (text_of bindings (take (place + 1) events) left)
    ∙ ap (λ (es : List Event). old ++ (line ++ text_of bindings es left)) (take_found events place event found)
    ∙ ap (λ (es : List Event). old ++ text_of bindings now es) (sym (drop_found events place event found))
    ∙ before

-- after all events no text is left
pub all_messages : (bindings : List Arguments) (events : List Event) (place : ℕ) (now whole : List ℕ)
    → length events ≤ place → now ++ text_of bindings (take place events) (drop place events) ≡ whole → now ≡ whole
all_messages bindings events place now whole past before =
    sym (append-nil now)
    ∙ ap (λ (left : List Event). now ++ text_of bindings (take place events) left) (sym (drop_all place events past))
    ∙ before

-- The lines of queues, as the reader takes them.
use Rattle.std.proofs.Common.{◌≡◌, ℕ, List, [], ◌∷◌, ◌++◌, decimal, codes, sym, ap, ◌∙◌, append_assoc, append-nil}
use Rattle.cdc_types.specs.declared.events.Event.{Event}
use Rattle.cdc_message.specs.Bodies.{body, narrow_member}
use Rattle.cdc_message.specs.Headers.{headers_of_event}
use Rattle.cdc_message.proofs.Members.{object_text-append}
use Rattle.cdc_queue_lines.specs.Lines.{message_line, message_members, seconds_of}
use Rattle.cdc_envelopes.specs.Private.Headers.{headers_then}
use Rattle.cdc_envelopes.specs.Texts.{numbered_line}
use Rattle.cdc_envelopes.proofs.FrontLemmas.{headers_members}

-- what comes after the kind
abbrev pub after_kind : ℕ → Event → List ℕ
after_kind previous event =
    codes "\"previous\":\"" ++ (decimal previous ++ (
    codes "\"," ++ headers_then (headers_of_event event) (seconds_of event) (
    codes "\"body\":" ++ (body event ++ codes "}"))))

-- the line of an event
pub message_line-parts : (previous : ℕ) (event : Event)
    → message_line previous event ≡ codes "{\"kind\":\"message\"," ++ after_kind previous event
unfolding message_line
message_line-parts previous event =
    sym (append-nil (message_line previous event)) ∙ object_text-append (message_members previous event) []
    ∙ rw (append_assoc (decimal previous) (34 ∷ []))
    (sym (ap (λ t. codes "{\"kind\":\"message\",\"previous\":\"" ++ (decimal previous ++ (codes "\"," ++ t)))
    (headers_members (headers_of_event event) (seconds_of event) (codes "\"body\":" ++ (body event ++ codes "}")))))

-- with the number of its queue
pub numbered_line-parts : (queue previous : ℕ) (event : Event) → numbered_line queue previous event
    ≡ codes "{\"queue\":" ++ (decimal queue ++ (codes ",\"kind\":\"message\"," ++ after_kind previous event))
unfolding numbered_line
numbered_line-parts queue previous event =
    sym (append-nil (numbered_line queue previous event))
    ∙ object_text-append (narrow_member (codes "queue") queue ∷ message_members previous event) []
    ∙ rw (append_assoc (decimal previous) (34 ∷ []))
    (sym (ap (λ t. codes "{\"queue\":" ++ (decimal queue ++ (
    codes ",\"kind\":\"message\",\"previous\":\"" ++ (decimal previous ++ (codes "\"," ++ t)))))
    (headers_members (headers_of_event event) (seconds_of event) (codes "\"body\":" ++ (body event ++ codes "}")))))

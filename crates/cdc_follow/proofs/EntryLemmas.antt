-- The entry of a JSON text, by the value that it is.
use Rattle.std.proofs.Common.{◌≡◌, ◌≤◌, ℕ, List, length, Option, Bool, true, false, Some, None, Ok, Err, Result}
use Rattle.std.proofs.Common.{IsUtf8, codes, if◌then◌else◌, refl, sym, ap, ◌∙◌}
use Rattle.std.proofs.lemmas.Str.{IsUtf8-from_is_utf8, is_utf8-from_IsUtf8}
use Rattle.std.proofs.lemmas.Bool.{le-leb, le-ltb}
use Rattle.std.specs.Str.{is_utf8}
use Rattle.serde_json.specs.Data.{Data}
use Rattle.serde_json.specs.Find.{get}
use Rattle.serde_json.specs.Read as json
use Rattle.cdc_message.specs.declared.errors.DecodeError.TheVariants.{NotJson}
use Rattle.cdc_types.specs.declared.events.Event.{Event}
use Rattle.cdc_types.specs.Widths.{max_64}
use Rattle.cdc_message.specs.declared.errors.DecodeError.{DecodeError}
use Rattle.cdc_message.specs.Reading.{event_of, read, value_of, whole_number}
use Rattle.cdc_envelopes.specs.Envelopes.{IsEnvelope}
use Rattle.cdc_envelopes.proofs.Untyped.{no_event}
use Rattle.cdc_follow.specs.declared.entries.Content.{Content}
use Rattle.cdc_follow.specs.declared.entries.Content.TheVariants as content
use Rattle.cdc_follow.specs.declared.entries.TheConstants.{LONGEST_LINE}
use Rattle.cdc_follow.specs.declared.entries.Entry.{Entry}
use Rattle.cdc_follow.specs.declared.errors.LineError.{LineError}
use Rattle.cdc_follow.specs.declared.errors.LineError.TheVariants.{Decode}
use Rattle.cdc_follow.specs.Entries.{◌>>=◌, as_event, content_from, entry_of, is_ignored, line_entry, other_content}
use Rattle.cdc_follow.specs.Entries.{previous_in, previous_of, up_to_64, value_entry}

-- the value of a JSON text
value_some : (bytes : List ℕ) (value : Data) → IsUtf8 bytes → json.read bytes ≡ Some value → value_of bytes ≡ Some value
value_some bytes value text is = rw (is_utf8-from_IsUtf8 bytes text) is

-- bytes have no value if they aren't UTF-8, or if the JSON crate reads none from them
value_none : (bytes : List ℕ) (b : Bool) → is_utf8 bytes ≡ b → (IsUtf8 bytes → json.read bytes ≡ None)
    → value_of bytes ≡ None
value_none bytes true e none = rw (e, none (IsUtf8-from_is_utf8 bytes e)) refl
value_none bytes false e none = rw e refl

-- a text whose value is an entry
pub some_entry : (chained : Bool) (bytes : List ℕ) (value : Data) (entry : Entry) → IsUtf8 bytes
    → json.read bytes ≡ Some value → Ok entry ≡ entry_of chained value
    → Ok (Some entry) ≡ value_entry chained (value_of bytes)
some_entry chained bytes value entry text is reads =
    ap (λ (read : Result Entry LineError). read >>= λ entry. Ok (Some entry)) reads
    ∙ sym (ap (value_entry chained) (value_some bytes value text is))

-- a text whose value is none
pub wrong_entry : (chained : Bool) (bytes : List ℕ) (value : Data) (why : LineError) → IsUtf8 bytes
    → json.read bytes ≡ Some value → Err why ≡ entry_of chained value
    → Err why ≡ value_entry chained (value_of bytes)
wrong_entry chained bytes value why text is reads =
    ap (λ (read : Result Entry LineError). read >>= λ entry. Ok (Some entry)) reads
    ∙ sym (ap (value_entry chained) (value_some bytes value text is))

-- bytes that are no JSON text
pub no_entry : (chained : Bool) (bytes : List ℕ) → (IsUtf8 bytes → json.read bytes ≡ None)
    → Err (Decode NotJson) ≡ value_entry chained (value_of bytes)
no_entry chained bytes none = sym (ap (value_entry chained) (value_none bytes (is_utf8 bytes) refl none))

-- ---- a line

-- a line that is ignored
pub line-nothing : (chained : Bool) (line : List ℕ) → length line ≤ LONGEST_LINE → is_ignored line ≡ true
    → line_entry chained line ≡ Ok None
unfolding line_entry
line-nothing chained line short quiet = rw (le-ltb LONGEST_LINE (length line) short, quiet) refl

-- any other line has the entry of its JSON text
pub line-value : (chained : Bool) (line : List ℕ) → length line ≤ LONGEST_LINE → is_ignored line ≡ false
    → line_entry chained line ≡ value_entry chained (value_of line)
unfolding line_entry
line-value chained line short quiet = rw (le-ltb LONGEST_LINE (length line) short, quiet) refl

-- a body in a stream that isn't chained
value-event : (value : Data) (e : Event) → event_of value ≡ Ok e
    → value_entry false (Some value) ≡ Ok (Some (record { content = content.Event e; previous = None }))
value-event value e is =
    ap (λ (read : Result Event DecodeError). (content_from value read >>= λ content.
    (previous_of false value >>= λ previous. Ok (record { content = content; previous = previous })))
    >>= λ entry. Ok (Some entry)) is

pub line-event : (line : List ℕ) (e : Event) → read line ≡ Ok e
    → value_entry false (value_of line) ≡ Ok (Some (record { content = content.Event e; previous = None }))
unfolding read
line-event line e is = case_of (value_of line) refl
  where
    case_of : (value : Option Data) → value_of line ≡ value
        → value_entry false (value_of line) ≡ Ok (Some (record { content = content.Event e; previous = None }))
    case_of None has = let none : read line ≡ Err NotJson = rw has refl in cc
    case_of (Some value) has =
        let some : read line ≡ event_of value = rw has refl in
        ap (value_entry false) has ∙ value-event value e (sym some ∙ is)

-- ---- an envelope

-- what is named as its predecessor, in a chained stream
abbrev pub previous_if : Bool → ℕ → Option ℕ
previous_if chained previous = if chained then Some previous else None

-- the entry of an event, by what was read as its predecessor
abbrev with_previous : Event → Result (Option ℕ) LineError → Result (Option Entry) LineError
with_previous e read =
    (read >>= λ previous. Ok (record { content = content.Event e; previous = previous })) >>= λ entry. Ok (Some entry)

-- the entry of a value, by its content
abbrev with_content : Bool → Data → Result Content LineError → Result (Option Entry) LineError
with_content chained value read =
    (read >>= λ content. (previous_of chained value
    >>= λ previous. Ok (record { content = content; previous = previous }))) >>= λ entry. Ok (Some entry)

-- a number of 64 bits is taken
up_to : (previous : ℕ) → previous ≤ max_64 → up_to_64 (Some previous) ≡ Ok previous
up_to previous fits = rw (le-leb previous max_64 fits) refl

-- an object whose body is this event
value-body : (chained : Bool) (value body : Data) (e : Event) (why : DecodeError) → event_of value ≡ Err why
    → get (codes "body") value ≡ Some body → event_of body ≡ Ok e
    → value_entry chained (Some value) ≡ with_previous e (previous_of chained value)
value-body chained value body e why none has is =
    ap (λ (read : Result Event DecodeError). with_content chained value (content_from value read)) none
    ∙ ap (λ (found : Option Data). with_content chained value (other_content value why found)) has
    ∙ ap (λ (read : Result Event DecodeError). with_content chained value (as_event read)) is

value-envelope : (chained : Bool) (value predecessor body : Data) (e : Event) (previous : ℕ) (why : DecodeError)
    → event_of value ≡ Err why → get (codes "body") value ≡ Some body → event_of body ≡ Ok e
    → get (codes "previous") value ≡ Some predecessor → whole_number predecessor ≡ Some previous → previous ≤ max_64
    → value_entry chained (Some value)
    ≡ Ok (Some (record { content = content.Event e; previous = previous_if chained previous }))
value-envelope true value predecessor body e previous why none has is names number fits =
    value-body true value body e why none has is
    ∙ ap (λ (found : Option Data). with_previous e (previous_in found)) names
    ∙ ap (λ (found : Option ℕ). with_previous e (up_to_64 found >>= λ n. Ok (Some n))) number
    ∙ ap (λ (read : Result ℕ LineError). with_previous e (read >>= λ n. Ok (Some n))) (up_to previous fits)
value-envelope false value predecessor body e previous why none has is names number fits =
    value-body false value body e why none has is

pub line-envelope : (chained : Bool) (line : List ℕ) (e : Event) (previous : ℕ) → IsEnvelope line e previous
    → previous ≤ max_64 → value_entry chained (value_of line)
    ≡ Ok (Some (record { content = content.Event e; previous = previous_if chained previous }))
line-envelope chained line e previous is fits =
    let none = no_event is.value is.untyped in
    ap (value_entry chained) is.read
    ∙ value-envelope chained is.value is.predecessor is.body e previous none.0 none.1 is.has_body is.body_is
    is.has_predecessor is.predecessor_is fits

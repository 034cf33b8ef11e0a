-- How the lines of a queue are read.
use Rattle.std.specs.Prelude.{◌≡◌, ◌≢◌, ◌<◌, ◌≤◌, ◌^◌, ℕ, List, ◌∷◌, All, codes, true, Some, None, Ok, Err, length}
use Rattle.serde_json.specs.Data.{Data, boolean}
use Rattle.serde_json.specs.Find.{get}
use Rattle.cdc_types.specs.declared.events.Event.{Event}
use Rattle.cdc_message.specs.declared.errors.DecodeError.{DecodeError}
use Rattle.cdc_message.specs.Reading.{event_of, value_of, whole_number}
use Rattle.cdc_message.specs.Widths.{EventFits}
use Rattle.cdc_queue_lines.specs.Lines.{end_line, message_line}

-- the bytes begin with a brace, have no line feed and are at most 65,536, and this JSON value is read from them, which
-- is no event by itself and names this timestamp as its predecessor
pub record IsLine (previous : ℕ) (line : List ℕ) (value : Data) : Type 0 where
  pub rest : List ℕ
  pub begins : line ≡ 123 ∷ rest
  pub clean : All (λ b. b ≢ 10) line
  pub short : length line ≤ 65536
  pub read : value_of line ≡ Some value
  pub why : DecodeError
  pub no_event : event_of value ≡ Err why
  pub predecessor : Data
  pub has_predecessor : get (codes "previous") value ≡ Some predecessor
  pub predecessor_is : whole_number predecessor ≡ Some previous

-- the line of a message: its body is this event
pub record ReadsAsMessage (previous : ℕ) (event : Event) (line : List ℕ) : Type 0 where
  pub value : Data
  pub is_line : IsLine previous line value
  pub body : Data
  pub has_body : get (codes "body") value ≡ Some body
  pub body_is : event_of body ≡ Ok event

-- the line of an end: it has no body, and is marked as the end
pub record ReadsAsEnd (previous : ℕ) (line : List ℕ) : Type 0 where
  pub value : Data
  pub is_line : IsLine previous line value
  pub has_no_body : get (codes "body") value ≡ None
  pub ends : get (codes "end") value ≡ Some (boolean true)

-- so reads the line of each event whose numbers fit their fields
abbrev pub MessagesRead : Type 0
MessagesRead = (previous : ℕ) (event : Event) → previous < 2 ^ 64 → EventFits event
    → ReadsAsMessage previous event (message_line previous event)

-- so reads the line of each end
abbrev pub EndsRead : Type 0
EndsRead = (previous : ℕ) → previous < 2 ^ 64 → ReadsAsEnd previous (end_line previous)

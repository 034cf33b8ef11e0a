-- The content of a line of a stream.
use Rattle.std.specs.Prelude.{ℕ, List, Bool, false, ◌||◌, ◌==◌, codes, nat_eq, nat_le, nat_lt, length, if◌then◌else◌}
use Rattle.std.specs.Prelude.{Option, Some, None, unwrap_or, Result, Ok, Err}
use Rattle.std.specs.List.{list_all, starts_with}
use Rattle.serde_json.specs.Data.{Data}
use Rattle.serde_json.specs.Find.{as_bool, get}
use Rattle.cdc_types.specs.declared.events.Event.{Event}
use Rattle.cdc_types.specs.Widths.{max_64}
use Rattle.cdc_message.specs.declared.errors.DecodeError.{DecodeError}
use Rattle.cdc_message.specs.declared.errors.DecodeError.TheVariants.{NotJson}
use Rattle.cdc_message.specs.Reading.{event_of, value_of, whole_number}
use Rattle.cdc_follow.specs.declared.entries.Content.{Content}
use Rattle.cdc_follow.specs.declared.entries.Content.TheVariants as content
use Rattle.cdc_follow.specs.declared.entries.Entry.{Entry}
use Rattle.cdc_follow.specs.declared.entries.TheConstants.{LONGEST_LINE}
use Rattle.cdc_follow.specs.declared.errors.LineError.{LineError}
use Rattle.cdc_follow.specs.declared.errors.LineError.TheVariants.{TooLong, Decode, PreviousMissing}
use Rattle.cdc_follow.specs.declared.errors.LineError.TheVariants.{PreviousWrongType, PreviousOutOfRange}
use Rattle.cdc_follow.specs.LineErrors.{decoding_error}

-- what has been read, or the first error
abbrev pub Read : Type 0 → Type 0
Read T = Result T LineError

infixl 20 ◌>>=◌
-- reads on, unless there was an error
abbrev pub ◌>>=◌ : {A B : Type 0} → Read A → (A → Read B) → Read B
Ok value >>= rest = rest value
Err error >>= rest = Err error

-- an event that was read, or the reason why it is none
abbrev pub as_event : Result Event DecodeError → Read Content
as_event (Ok e) = Ok (content.Event e)
as_event (Err why) = Err (decoding_error why)

-- a value is the end of a stream: its member `end` is true
abbrev pub is_true : Option Data → Bool
is_true None = false
is_true (Some value) = unwrap_or (as_bool value) false

-- a value that is no body: an envelope if it has a body, the end if it is one, else wrong, for this reason
abbrev pub other_content : Data → DecodeError → Option Data → Read Content
other_content value why (Some body) = as_event (event_of body)
other_content value why None = if is_true (get (codes "end") value) then Ok content.End else Err (decoding_error why)

-- the event of a body or an envelope, or the end
abbrev pub content_from : Data → Result Event DecodeError → Read Content
content_from value (Ok e) = Ok (content.Event e)
content_from value (Err why) = other_content value why (get (codes "body") value)

abbrev pub content_of : Data → Read Content
content_of value = content_from value (event_of value)

-- a number of at most 64 bits
abbrev pub up_to_64 : Option ℕ → Read ℕ
up_to_64 None = Err PreviousWrongType
up_to_64 (Some n) = if nat_le n max_64 then Ok n else Err PreviousOutOfRange

-- the timestamp of the event before this one in its queue
abbrev pub previous_in : Option Data → Read (Option ℕ)
previous_in None = Err PreviousMissing
previous_in (Some value) = do
  previous ← up_to_64 (whole_number value)
  Ok (Some previous)

-- that timestamp in a chained stream; in any other one it isn't looked at
abbrev pub previous_of : Bool → Data → Read (Option ℕ)
previous_of chained value = if chained then previous_in (get (codes "previous") value) else Ok None

-- the entry of a value
abbrev pub entry_of : Bool → Data → Read Entry
entry_of chained value = do
  content ← content_of value
  previous ← previous_of chained value
  Ok (record { content = content; previous = previous })

-- white space within a line
abbrev pub is_space : ℕ → Bool
is_space b = b == 32 || b == 9 || b == 13

-- a line that is ignored: white space alone, or the headers of a message in text
abbrev pub is_ignored : List ℕ → Bool
is_ignored line = list_all is_space line || starts_with nat_eq line (codes "event_type=")

-- the entry of a JSON text
abbrev pub value_entry : Bool → Option Data → Read (Option Entry)
value_entry chained None = Err (Decode NotJson)
value_entry chained (Some value) = do
  entry ← entry_of chained value
  Ok (Some entry)

-- the entry of a line, if it has one
unfoldable pub line_entry : Bool → List ℕ → Read (Option Entry)
line_entry chained line =
    if nat_lt LONGEST_LINE (length line) then Err TooLong
    else (if is_ignored line then Ok None else value_entry chained (value_of line))

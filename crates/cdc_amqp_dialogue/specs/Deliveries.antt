-- Deliveries, and the entries that they carry.
use Rattle.std.specs.Prelude.{ℕ, ◌+◌, List, [], ◌∷◌, ◌++◌, Bool, true, false, not, codes, nat_lt, ◌==◌}
use Rattle.std.specs.Prelude.{if◌then◌else◌}
use Rattle.std.specs.Prelude.{Option, Some, None, Ok, Err}
use Rattle.std.specs.Int.{w32, w64}
use Rattle.std.specs.Str.{bytes_eq}
use Rattle.cdc_amqp_frames.specs.Fields.{number_at}
use Rattle.cdc_amqp_methods.specs.Tables.{Parts, find_field}
use Rattle.cdc_types.specs.declared.bounds.TheConstants.Limits.{TIMESTAMP}
use Rattle.cdc_message.specs.Decimals.{decimal_value}
use Rattle.cdc_message.specs.declared.errors.DecodeError.TheVariants.{NotJson}
use Rattle.cdc_follow.specs.declared.entries.Content.{Content}
use Rattle.cdc_follow.specs.declared.entries.Content.TheVariants.{Event, End}
use Rattle.cdc_follow.specs.declared.entries.Entry.{Entry}
use Rattle.cdc_follow.specs.declared.errors.LineError.TheVariants.{Decode, PreviousMissing, PreviousWrongType}
use Rattle.cdc_follow.specs.declared.errors.LineError.TheVariants.{TimestampOutOfRange}
use Rattle.cdc_follow.specs.Entries.{Read, ◌>>=◌, line_entry, up_to_64}

-- a delivered message: its properties `headers` and `type`, and its content
pub record Delivery : Type 0 where
  pub headers : List ℕ
  pub message_type : List ℕ
  pub content : List ℕ

-- a signed number that isn't negative
abbrev pub signed : ℕ → Option (ℕ × List ℕ) → Read ℕ
signed bound None = Err PreviousWrongType
signed bound (Some x) = if nat_lt x.0 bound then Ok x.0 else Err PreviousWrongType

-- a decimal number of at most 64 bits
abbrev pub text_number : List ℕ → Read ℕ
text_number text = up_to_64 (decimal_value text)

-- the number of a field: a decimal in a long string (S), or a number of 32 or 64 bits (I, l)
abbrev pub field_number : Parts → Read ℕ
field_number field =
    if field.letter == 83 then text_number field.value
    else (if field.letter == 73 then signed 2147483648 (number_at w32 field.value)
    else (if field.letter == 108 then signed 9223372036854775808 (number_at w64 field.value)
    else Err PreviousWrongType))

-- the number of a field, if the table has it
abbrev pub previous_in : Option (Option Parts) → Read (Option ℕ)
previous_in None = Err PreviousWrongType
previous_in (Some None) = Ok None
previous_in (Some (Some field)) = do
  number ← field_number field
  Ok (Some number)

-- the header `previous`, if the message has it
unfoldable pub header_previous : List ℕ → Read (Option ℕ)
header_previous headers = previous_in (find_field (codes "previous") headers)

-- an end-of-stream marker is a message of the type `end`
abbrev pub is_end : List ℕ → Bool
is_end message_type = bytes_eq message_type (codes "end")

-- a content has to be an entry; a blank one is none
abbrev pub some_entry : Read (Option Entry) → Read Entry
some_entry (Ok None) = Err (Decode NotJson)
some_entry (Ok (Some entry)) = Ok entry
some_entry (Err error) = Err error

abbrev pub content_entry : Bool → List ℕ → Read Entry
content_entry chained content = some_entry (line_entry chained content)

-- the entry of a content whose predecessor is this one
abbrev pub entry_after : Option ℕ → Read Entry → Read Entry
entry_after previous (Ok entry) = Ok (record { content = entry.content; previous = previous })
entry_after previous (Err error) = Err error

-- the entry of a message of a chained queue, which names its predecessor in a header or in its content
unfoldable pub chained_entry : Delivery → Option ℕ → Read Entry
chained_entry d None = if is_end d.message_type then Err PreviousMissing else content_entry true d.content
chained_entry d (Some previous) =
    if is_end d.message_type then Ok (record { content = End; previous = Some previous })
    else entry_after (Some previous) (content_entry false d.content)

-- the entry of a message of another queue
unfoldable pub plain_entry : Delivery → Read Entry
plain_entry d =
    if is_end d.message_type then Ok (record { content = End; previous = None }) else content_entry false d.content

-- the entry that a message carries, whatever its timestamp is
unfoldable pub any_entry : Bool → Delivery → Read Entry
any_entry chained d = if chained then header_previous d.headers >>= chained_entry d else plain_entry d

-- an event isn't later than a ledger's greatest timestamp
abbrev pub is_in_range : Content → Bool
is_in_range (Event e) = not (nat_lt TIMESTAMP e.timestamp)
is_in_range End = true

abbrev pub in_range : Entry → Read Entry
in_range entry = if is_in_range entry.content then Ok entry else Err TimestampOutOfRange

-- the entry that a message carries
unfoldable pub delivery_entry : Bool → Delivery → Read Entry
delivery_entry chained d = any_entry chained d >>= in_range

-- the entries that deliveries carry, in order; some carry none
abbrev pub entry_list : Read Entry → List Entry
entry_list (Ok entry) = entry ∷ []
entry_list (Err error) = []

unfoldable pub entries_of : Bool → List Delivery → List Entry
entries_of chained [] = []
entries_of chained (d ∷ ds) = entry_list (delivery_entry chained d) ++ entries_of chained ds

-- the tags of the deliveries that carry no entry; the first delivery has this tag
abbrev pub bad_tag : ℕ → Read Entry → List ℕ
bad_tag tag (Ok entry) = []
bad_tag tag (Err error) = tag ∷ []

unfoldable pub bad_tags : Bool → ℕ → List Delivery → List ℕ
bad_tags chained tag [] = []
bad_tags chained tag (d ∷ ds) = bad_tag tag (delivery_entry chained d) ++ bad_tags chained (tag + 1) ds

-- a number, if it can be read
abbrev pub ok_of : Read ℕ → Option ℕ
ok_of (Ok number) = Some number
ok_of (Err error) = None

-- how often a message was delivered before, by the header `x-delivery-count` of a quorum queue
abbrev pub count_of : Option (Option Parts) → Option ℕ
count_of (Some (Some field)) = ok_of (field_number field)
count_of _ = None

abbrev pub delivery_count : List ℕ → Option ℕ
delivery_count headers = count_of (find_field (codes "x-delivery-count") headers)

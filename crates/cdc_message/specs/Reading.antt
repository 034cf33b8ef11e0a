-- Reading an event from the bytes of a body. The definition rests on what `serde_json` reads from the bytes: it reads
-- no value from bytes that are no JSON text in UTF-8, that nest deeper than its limit of 127, or that hold a number too
-- large for a float, and of two members of one name it keeps the last.
use Rattle.std.specs.Prelude.{ℕ, ◌^◌, ◌-◌, List, Bool, nat_le, if◌then◌else◌, Option, Some, None, is_some, Result, Ok, Err}
use Rattle.std.specs.Str.{is_utf8}
use Rattle.serde_json.specs.Data.{Num, unsigned, negative, float, Data, null, boolean, number, string, array, object}
use Rattle.serde_json.specs.Find.{get, as_str, as_object}
use Rattle.serde_json.specs.Read as json
use Rattle.cdc_types.specs.declared.events.EventKind.{EventKind}
use Rattle.cdc_types.specs.declared.events.EventTransfer.{EventTransfer}
use Rattle.cdc_types.specs.declared.events.EventAccount.{EventAccount}
use Rattle.cdc_types.specs.declared.events.Event.{Event}
use Rattle.cdc_message.specs.declared.errors.DecodeError.{DecodeError}
use Rattle.cdc_message.specs.declared.errors.DecodeError.TheVariants.{NotJson, NotAnObject, Missing, WrongType, OutOfRange, UnknownKind}
use Rattle.cdc_message.specs.declared.fields.Field.{Field}
use Rattle.cdc_message.specs.declared.fields.Part.{Part}
use Rattle.cdc_message.specs.declared.fields.Part.TheVariants.{Top, Transfer, Debit, Credit}
use Rattle.cdc_message.specs.declared.fields.FieldName.{FieldName}
use Rattle.cdc_message.specs.declared.fields.FieldName.TheVariants as name
use Rattle.cdc_message.specs.Decimals.{decimal_value}
use Rattle.cdc_message.specs.Fields.{key_of, field}
use Rattle.cdc_message.specs.Kinds.{kind_named}

-- what has been read, or the first error
abbrev pub Read : Type 0 → Type 0
Read T = Result T DecodeError

infixl 20 ◌>>=◌
-- reads on, unless there was an error
abbrev pub ◌>>=◌ : {A B : Type 0} → Read A → (A → Read B) → Read B
Ok value >>= rest = rest value
Err error >>= rest = Err error

-- the value of a JSON number that is written in digits alone, and is at most 2^64-1
abbrev pub unsigned_value : Num → Option ℕ
unsigned_value (unsigned n) = Some n
unsigned_value (negative z) = None
unsigned_value (float x) = None

-- the whole number that a value represents, as a decimal string or as a JSON number, if any
abbrev pub whole_number : Data → Option ℕ
whole_number null = None
whole_number (boolean b) = None
whole_number (number n) = unsigned_value n
whole_number (string text) = decimal_value text
whole_number (array _) = None
whole_number (object _) = None

-- the value of a field, if it is there
abbrev pub present : Field → Option Data → Read Data
present at None = Err (Missing at)
present at (Some value) = Ok value

-- a value that has to be of the field's type
abbrev pub typed : {T : Type 0} → Field → Option T → Read T
typed at None = Err (WrongType at)
typed at (Some value) = Ok value

-- a number that must not be above the greatest one
abbrev pub up_to : ℕ → Field → ℕ → Read ℕ
up_to greatest at n = if nat_le n greatest then Ok n else Err (OutOfRange at)

-- the member of an object that holds the field
abbrev pub member_at : Field → Data → Read Data
member_at at value = present at (get (key_of at.name) value)

-- a field that holds a whole number
abbrev pub number_up_to : ℕ → Field → Data → Read ℕ
number_up_to greatest at value = do
  found ← member_at at value
  n ← typed at (whole_number found)
  up_to greatest at n

-- a field that holds a number of so many bits
abbrev pub number_at : ℕ → Field → Data → Read ℕ
number_at bits = number_up_to (2 ^ bits - 1)

-- whether a value is an object
abbrev pub is_object : Data → Bool
is_object value = is_some (as_object value)

-- the kind that was named
abbrev pub known : Option EventKind → Read EventKind
known None = Err UnknownKind
known (Some kind) = Ok kind

-- the kind of event
abbrev pub kind_at : Data → Read EventKind
kind_at value = do
  found ← member_at (field Top name.Kind) value
  text ← typed (field Top name.Kind) (as_str found)
  known (kind_named text)

-- a part of the event
abbrev pub part_at : FieldName → Data → Read Data
part_at part value = do
  found ← member_at (field Top part) value
  if is_object found then Ok found else Err (WrongType (field Top part))

-- the transfer, its fields in the order in which they are checked
abbrev pub transfer_of : Data → Read EventTransfer
transfer_of value = do
  id ← number_at 128 (field Transfer name.Id) value
  amount ← number_at 128 (field Transfer name.Amount) value
  pending_id ← number_at 128 (field Transfer name.PendingId) value
  user_data_128 ← number_at 128 (field Transfer name.UserData128) value
  user_data_64 ← number_at 64 (field Transfer name.UserData64) value
  user_data_32 ← number_at 32 (field Transfer name.UserData32) value
  timeout ← number_at 32 (field Transfer name.Timeout) value
  code ← number_at 16 (field Transfer name.Code) value
  flags ← number_at 16 (field Transfer name.Flags) value
  timestamp ← number_at 64 (field Transfer name.Timestamp) value
  Ok (record {
    id = id;
    amount = amount;
    pending_id = pending_id;
    user_data_128 = user_data_128;
    user_data_64 = user_data_64;
    user_data_32 = user_data_32;
    timeout = timeout;
    code = code;
    flags = flags;
    timestamp = timestamp;
  })

-- an account, its fields in the order in which they are checked
abbrev pub account_of : Part → Data → Read EventAccount
account_of part value = do
  id ← number_at 128 (field part name.Id) value
  debits_pending ← number_at 128 (field part name.DebitsPending) value
  debits_posted ← number_at 128 (field part name.DebitsPosted) value
  credits_pending ← number_at 128 (field part name.CreditsPending) value
  credits_posted ← number_at 128 (field part name.CreditsPosted) value
  user_data_128 ← number_at 128 (field part name.UserData128) value
  user_data_64 ← number_at 64 (field part name.UserData64) value
  user_data_32 ← number_at 32 (field part name.UserData32) value
  code ← number_at 16 (field part name.Code) value
  flags ← number_at 16 (field part name.Flags) value
  timestamp ← number_at 64 (field part name.Timestamp) value
  Ok (record {
    id = id;
    debits_pending = debits_pending;
    debits_posted = debits_posted;
    credits_pending = credits_pending;
    credits_posted = credits_posted;
    user_data_128 = user_data_128;
    user_data_64 = user_data_64;
    user_data_32 = user_data_32;
    code = code;
    flags = flags;
    timestamp = timestamp;
  })

-- the part that is the transfer
abbrev pub transfer_at : Data → Read EventTransfer
transfer_at value = do
  found ← part_at name.TransferPart value
  transfer_of found

-- the part that is an account
abbrev pub account_at : FieldName → Part → Data → Read EventAccount
account_at member part value = do
  found ← part_at member value
  account_of part found

-- the members of an event, in the order in which they are checked
abbrev pub members_of : Data → Read Event
members_of value = do
  timestamp ← number_at 64 (field Top name.Timestamp) value
  kind ← kind_at value
  ledger ← number_at 32 (field Top name.Ledger) value
  transfer ← transfer_at value
  debit_account ← account_at name.DebitAccount Debit value
  credit_account ← account_at name.CreditAccount Credit value
  Ok (record {
    timestamp = timestamp;
    kind = kind;
    ledger = ledger;
    transfer = transfer;
    debit_account = debit_account;
    credit_account = credit_account;
  })

-- the event that a value is
abbrev pub event_of : Data → Read Event
event_of value = if is_object value then members_of value else Err NotAnObject

-- the value that the bytes are, if they are JSON
abbrev pub value_of : List ℕ → Option Data
value_of bytes = if is_utf8 bytes then json.read bytes else None

-- the value of a whole text
abbrev pub as_json : Option Data → Read Data
as_json None = Err NotJson
as_json (Some value) = Ok value

-- the event that the bytes are, or the first error
unfoldable pub read : List ℕ → Read Event
read bytes = do
  value ← as_json (value_of bytes)
  event_of value

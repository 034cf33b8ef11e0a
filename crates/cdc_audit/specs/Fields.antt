-- The fields of an account that never change.
use Rattle.std.specs.Prelude.{ℕ, Bool, ◌==◌, ◌&&◌, nat_eq, nat_lt, not, List, [], ◌∷◌, Option, unwrap_or}
use Rattle.std.specs.List.{flat_map}
use Rattle.std.specs.Map.{lookup}
use Rattle.cdc_types.specs.declared.events.Event.{Event}
use Rattle.cdc_types.specs.declared.events.EventAccount.{EventAccount}
use Rattle.cdc_audit.specs.declared.refusals.FixedField.{FixedField}
use Rattle.cdc_audit.specs.declared.refusals.FixedField.TheVariants.{UserData128, UserData64, UserData32, Ledger, Code, Flags, Timestamp}
use Rattle.cdc_audit.specs.declared.refusals.Refusal.{Refusal}
use Rattle.cdc_audit.specs.declared.refusals.Refusal.TheVariants.{AccountField, CreatedLater}
use Rattle.cdc_audit.specs.declared.fields.FixedFields.{FixedFields}

-- these fields of an account of this ledger
abbrev pub fixed_fields : ℕ → EventAccount → FixedFields
fixed_fields ledger a = record {
  user_data_128 = a.user_data_128;
  user_data_64 = a.user_data_64;
  user_data_32 = a.user_data_32;
  ledger = ledger;
  code = a.code;
  flags = a.flags;
  timestamp = a.timestamp;
}

-- an event's two accounts, by their ids, with these fields
abbrev pub accounts_of : Event → List (ℕ × FixedFields)
accounts_of e =
    (e.debit_account.id, fixed_fields e.ledger e.debit_account) ∷
    (e.credit_account.id, fixed_fields e.ledger e.credit_account) ∷
    []

-- the fields that the first event of an account shows
abbrev pub fields_before : List Event → ℕ → Option FixedFields
fields_before past id = lookup (nat_eq id) (flat_map accounts_of past)

-- the line on one field
abbrev pub field_line : ℕ → FixedField → ℕ → ℕ → Bool × Refusal
field_line account field shown before = (
  not (shown == before),
  AccountField (record { account = account; field = field; shown = shown; before = before }),
)

-- the lines on the fields of an account, by those that its first event shows
abbrev pub same_lines : ℕ → FixedFields → FixedFields → List (Bool × Refusal)
same_lines id shown before =
    field_line id UserData128 shown.user_data_128 before.user_data_128 ∷
    field_line id UserData64 shown.user_data_64 before.user_data_64 ∷
    field_line id UserData32 shown.user_data_32 before.user_data_32 ∷
    field_line id Ledger shown.ledger before.ledger ∷
    field_line id Code shown.code before.code ∷
    field_line id Flags shown.flags before.flags ∷
    field_line id Timestamp shown.timestamp before.timestamp ∷
    []

-- the same of an account of an event, which may be its first one
abbrev pub fields_lines : Option FixedFields → ℕ → EventAccount → List (Bool × Refusal)
fields_lines before ledger a =
    same_lines a.id (fixed_fields ledger a) (unwrap_or before (fixed_fields ledger a))

-- an account was created before this timestamp, and no account is created at 0
abbrev pub is_created : EventAccount → ℕ → Bool
is_created a t = nat_lt 0 a.timestamp && nat_lt a.timestamp t

-- the lines on the accounts' timestamps: both were created before the event
abbrev pub created_lines : Event → List (Bool × Refusal)
created_lines e = (
  not (is_created e.debit_account e.timestamp),
  CreatedLater e.debit_account.id e.debit_account.timestamp e.timestamp,
) ∷ (
  not (is_created e.credit_account e.timestamp),
  CreatedLater e.credit_account.id e.credit_account.timestamp e.timestamp,
) ∷
    []

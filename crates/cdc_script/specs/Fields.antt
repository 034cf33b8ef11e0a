-- The fields of an item: words of the form key=value.
use Rattle.std.specs.Prelude.{ℕ, ◌==◌, List, [], ◌∷◌, Option, Some, None, Result, Ok, Err, codes, find, if◌then◌else◌}
use Rattle.std.specs.Option.{ok_or}
use Rattle.std.specs.Str.{bytes_eq}
use Rattle.cdc_types.specs.declared.accounts.NewAccount.{NewAccount}
use Rattle.cdc_types.specs.declared.transfers.NewTransfer.{NewTransfer}
use Rattle.cdc_types.specs.Widths.{max_16, max_32, max_64, max_128}
use Rattle.cdc_match.specs.Parts.{parted}
use Rattle.cdc_script.specs.declared.faults.Detail.TheVariants.{GivenBy}
use Rattle.cdc_script.specs.declared.faults.FaultKind.TheVariants.{WrongCount, UnknownKey, KeyTwice}
use Rattle.cdc_script.specs.declared.faults.LineFault.{LineFault}
use Rattle.cdc_script.specs.declared.faults.Span.{Span}
use Rattle.cdc_script.specs.declared.fields.ItemKind.{ItemKind}
use Rattle.cdc_script.specs.declared.fields.ItemKind.TheVariants as item
use Rattle.cdc_script.specs.declared.fields.Key.{Key}
use Rattle.cdc_script.specs.declared.fields.Key.TheVariants as key
use Rattle.cdc_script.specs.Numbers.{number_of}
use Rattle.cdc_script.specs.Faults.{◌>>=◌, checked, in_word, missing, span_of, wrong}
use Rattle.cdc_script.specs.Words.{Placed}

-- the name of a field
abbrev pub key_name : Key → List ℕ
key_name key.Id = codes "id"
key_name key.DebitAccountId = codes "debit_account_id"
key_name key.CreditAccountId = codes "credit_account_id"
key_name key.Amount = codes "amount"
key_name key.PendingId = codes "pending_id"
key_name key.UserData128 = codes "user_data_128"
key_name key.UserData64 = codes "user_data_64"
key_name key.UserData32 = codes "user_data_32"
key_name key.Timeout = codes "timeout"
key_name key.Ledger = codes "ledger"
key_name key.Code = codes "code"
key_name key.Flags = codes "flags"

-- the fields of an account
abbrev pub account_keys : List Key
account_keys = key.Id ∷ key.UserData128 ∷ key.UserData64 ∷ key.UserData32 ∷ key.Ledger ∷ key.Code ∷ key.Flags ∷ []

-- the fields of a transfer
abbrev pub transfer_keys : List Key
transfer_keys =
    key.Id ∷ key.DebitAccountId ∷ key.CreditAccountId ∷ key.Amount ∷ key.PendingId ∷ key.UserData128 ∷ key.UserData64
    ∷ key.UserData32 ∷ key.Timeout ∷ key.Ledger ∷ key.Code ∷ key.Flags ∷ []

-- the fields of an item
abbrev pub keys_of : ItemKind → List Key
keys_of item.Account = account_keys
keys_of item.Transfer = transfer_keys

-- the greatest number of a field
abbrev pub greatest_of : Key → ℕ
greatest_of key.UserData64 = max_64
greatest_of key.UserData32 = max_32
greatest_of key.Timeout = max_32
greatest_of key.Ledger = max_32
greatest_of key.Code = max_16
greatest_of key.Flags = max_16
greatest_of _ = max_128

-- the fields with this one given
abbrev pub with_field : NewTransfer → Key → ℕ → NewTransfer
with_field fields key.Id value = record fields { id = value }
with_field fields key.DebitAccountId value = record fields { debit_account_id = value }
with_field fields key.CreditAccountId value = record fields { credit_account_id = value }
with_field fields key.Amount value = record fields { amount = value }
with_field fields key.PendingId value = record fields { pending_id = value }
with_field fields key.UserData128 value = record fields { user_data_128 = value }
with_field fields key.UserData64 value = record fields { user_data_64 = value }
with_field fields key.UserData32 value = record fields { user_data_32 = value }
with_field fields key.Timeout value = record fields { timeout = value }
with_field fields key.Ledger value = record fields { ledger = value }
with_field fields key.Code value = record fields { code = value }
with_field fields key.Flags value = record fields { flags = value }

-- no field is given: each is 0; an account's fields are among a transfer's
abbrev pub no_fields : NewTransfer
no_fields = record {
  id = 0;
  debit_account_id = 0;
  credit_account_id = 0;
  amount = 0;
  pending_id = 0;
  user_data_128 = 0;
  user_data_64 = 0;
  user_data_32 = 0;
  timeout = 0;
  ledger = 0;
  code = 0;
  flags = 0;
}

-- the key of that name, if the item has it
abbrev pub key_named : ItemKind → List ℕ → Option Key
key_named kind name = find (λ k. bytes_eq (key_name k) name) (keys_of kind)

-- the field that a word's name and value give
abbrev pub named_field : ItemKind → Placed → List ℕ × List ℕ → Result (Key × ℕ) LineFault
named_field kind word (name, value) = do
  k ← ok_or (key_named kind name) (wrong UnknownKey word)
  n ← in_word word (number_of (greatest_of k) value)
  Ok (k, n)

-- the field that a word gives; name and value are parted by the first equals sign
abbrev pub field_of : ItemKind → Placed → Result (Key × ℕ) LineFault
field_of kind word = checked word (ok_or (parted 61 word.bytes) (wrong UnknownKey word) >>= named_field kind word)

-- the place of a key among all of them
abbrev pub key_place : Key → ℕ
key_place key.Id = 0
key_place key.DebitAccountId = 1
key_place key.CreditAccountId = 2
key_place key.Amount = 3
key_place key.PendingId = 4
key_place key.UserData128 = 5
key_place key.UserData64 = 6
key_place key.UserData32 = 7
key_place key.Timeout = 8
key_place key.Ledger = 9
key_place key.Code = 10
key_place key.Flags = 11

-- a key that is given, and the word that gives it
pub record Given : Type 0 where
  pub key : Key
  pub word : Span

-- the word that gives the key, if one of these does
abbrev pub giver_of : Key → List Given → Option Span
giver_of key [] = None
giver_of key (one ∷ given) = if key_place one.key == key_place key then Some one.word else giver_of key given

-- the key of the word is given already, by this one
abbrev pub given_twice : Placed → Span → LineFault
given_twice word earlier = record { word = Some (span_of word); kind = KeyTwice; detail = GivenBy earlier }

-- what is read where no word gives the key of this one already
abbrev pub given_once : Placed → Option Span → Result NewTransfer LineFault → Result NewTransfer LineFault
given_once word None read = read
given_once word (Some earlier) read = Err (given_twice word earlier)

-- what further words add to the fields, where these are given already; no key may come twice
abbrev pub fields_from : ItemKind → List Given → NewTransfer → List Placed → Result NewTransfer LineFault
fields_from kind given fields [] = Ok fields
fields_from kind given fields (word ∷ rest) = do
  field ← field_of kind word
  given_once word (giver_of field.0 given)
      (fields_from kind (record { key = field.0; word = span_of word } ∷ given)
      (with_field fields field.0 field.1) rest)

-- the fields of an item: its line gives one at least, and a field that it doesn't give is 0
abbrev pub fields_of : ItemKind → List Placed → Result NewTransfer LineFault
fields_of kind [] = Err (missing WrongCount)
fields_of kind (word ∷ rest) = fields_from kind [] no_fields (word ∷ rest)

-- the account that the fields ask for
abbrev pub account_of : NewTransfer → NewAccount
account_of f = record {
  id = f.id;
  user_data_128 = f.user_data_128;
  user_data_64 = f.user_data_64;
  user_data_32 = f.user_data_32;
  ledger = f.ledger;
  code = f.code;
  flags = f.flags;
}

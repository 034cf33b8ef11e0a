-- What the fast reader of documented bodies has read, in the tokens of JSON. Only contracts of its steps cite it.
use Rattle.std.specs.Prelude.{◌≡◌, ◌≤◌, ℕ, List, ◌∷◌, ◌++◌, Bool, true, false, get_or, Option, Some, None, Ok}
use Rattle.std.specs.Option.{option_and_then}
use Rattle.json.specs.Token.{Token, end_object, string}
use Rattle.json.specs.Lex.{Lexeme, token, comma, colon, Place, fresh, after_value, lex, between, begins_colon, punctuate}
use Rattle.json.specs.Json.{Json}
use Rattle.json.specs.Tree.{json_tokens, depth}
use Rattle.serde_json.specs.Data.{Data}
use Rattle.serde_json.specs.Read.{of_json}
use Rattle.serde_json.specs.Find.{get, as_str}
use Rattle.cdc_types.specs.declared.events.EventTransfer.{EventTransfer}
use Rattle.cdc_types.specs.declared.events.EventAccount.{EventAccount}
use Rattle.cdc_types.specs.declared.events.Event.{Event}
use Rattle.cdc_types.specs.declared.events.EventKind.{EventKind}
use Rattle.cdc_message.specs.declared.fields.Part.{Part}
use Rattle.cdc_message.specs.declared.fields.FieldName.{FieldName}
use Rattle.cdc_message.specs.declared.fields.FieldName.TheVariants.{Timestamp, Kind, Ledger, TransferPart, DebitAccount, CreditAccount, Id, Amount, PendingId, UserData128, UserData64, UserData32, Timeout, Code, Flags, DebitsPending, DebitsPosted, CreditsPending, CreditsPosted}
use Rattle.cdc_message.specs.declared.part_numbers.Numbers.{Numbers}
use Rattle.cdc_message.specs.Fields.{key_of}
use Rattle.cdc_message.specs.Kinds.{kind_text}
use Rattle.cdc_message.specs.Reading.{is_object, whole_number, account_of, transfer_of, event_of}

-- the tokens of a text, from this place on
abbrev pub tokens_at : Place → List ℕ → List Token
tokens_at place text = punctuate place (lex between text)

-- a text begins with a value of which this holds, nested no deeper than `most`, and `rest` follows
pub record Gives (most : ℕ) (text : List ℕ) (Is : Data → Type 0) (rest : List ℕ) : Type 0 where
  pub json : Json
  pub value : Data
  pub shallow : depth json ≤ most
  pub converts : of_json json ≡ Some value
  pub tokens : begins_colon (lex between rest) ≡ false
      → tokens_at fresh text ≡ json_tokens json ++ tokens_at after_value rest
  pub holds : Is value

-- a text begins with this number, in quotes or bare
abbrev pub GivesNumber : List ℕ → ℕ → List ℕ → Type 0
GivesNumber text n rest = Gives 0 text (λ value. whole_number value ≡ Some n) rest

-- a text begins with the name of this kind
abbrev pub GivesKind : List ℕ → EventKind → List ℕ → Type 0
GivesKind text kind rest = Gives 0 text (λ value. as_str value ≡ Some (kind_text kind)) rest

-- a text begins with this event
abbrev pub GivesEvent : List ℕ → Event → List ℕ → Type 0
GivesEvent text event rest = Gives 2 text (λ value. event_of value ≡ Ok event) rest

-- a text begins with this name in quotes and a colon
abbrev pub GivesName : List ℕ → FieldName → List ℕ → Type 0
GivesName text name rest = lex between text ≡ token (string (key_of name)) ∷ colon ∷ lex between rest

-- what follows a member: a comma, or the end of the object
abbrev pub end_or_comma : Bool → Lexeme
end_or_comma true = comma
end_or_comma false = token end_object

-- a text goes on with a comma, or with the end of an object
abbrev pub GivesMore : List ℕ → Bool → List ℕ → Type 0
GivesMore text more rest = lex between text ≡ end_or_comma more ∷ lex between rest

-- the place of a name's number
abbrev pub place_of : FieldName → ℕ
place_of Timestamp = 0
place_of Kind = 1
place_of Ledger = 2
place_of TransferPart = 3
place_of DebitAccount = 4
place_of CreditAccount = 5
place_of Id = 6
place_of Amount = 7
place_of PendingId = 8
place_of UserData128 = 9
place_of UserData64 = 10
place_of UserData32 = 11
place_of Timeout = 12
place_of Code = 13
place_of Flags = 14
place_of DebitsPending = 15
place_of DebitsPosted = 16
place_of CreditsPending = 17
place_of CreditsPosted = 18

-- the number of a name
abbrev pub number_of : Numbers → FieldName → Option ℕ
number_of numbers name = get_or numbers.values (place_of name) None

-- the numbers of all other names are the same
abbrev pub SameOthers : Numbers → Numbers → FieldName → Type 0
SameOthers old new name =
    (other : FieldName) → (other ≡ name → ⊥) → number_of new other ≡ number_of old other

-- an object has these numbers
pub record Holds (numbers : Numbers) (value : Data) : Type 0 where
  pub object : is_object value ≡ true
  pub members : (name : FieldName) (n : ℕ) → number_of numbers name ≡ Some n
      → option_and_then whole_number (get (key_of name) value) ≡ Some n

-- an object is this account, in either part
pub record IsAccount (account : EventAccount) (value : Data) : Type 0 where
  pub object : is_object value ≡ true
  pub fields : (part : Part) → account_of part value ≡ Ok account

-- an object is this transfer
pub record IsTransfer (transfer : EventTransfer) (value : Data) : Type 0 where
  pub object : is_object value ≡ true
  pub fields : transfer_of value ≡ Ok transfer

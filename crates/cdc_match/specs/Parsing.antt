-- Reading a binding from words: a mode, and then up to ten words of the form key=value.
use Rattle.std.specs.Prelude.{ℕ, List, [], ◌∷◌, take, length, nat_le, codes, find, Option, Result, Ok, Err, if◌then◌else◌}
use Rattle.std.specs.Option.{option_map, ok_or, IsSome}
use Rattle.std.specs.Result.{IsOk}
use Rattle.std.specs.Str.{bytes_eq}
use Rattle.cdc_types.specs.Widths.{max_16, max_32}
use Rattle.cdc_types.specs.declared.bounds.TheConstants.Limits.{BINDING_PAIRS}
use Rattle.cdc_message.specs.Decimals.{decimal_up_to}
use Rattle.cdc_message.specs.Kinds.{kind_named}
use Rattle.cdc_match.specs.declared.errors.BindError.{BindError}
use Rattle.cdc_match.specs.declared.errors.BindError.TheVariants.{BadMode, UnknownKey, BadValue, TooManyPairs}
use Rattle.cdc_match.specs.declared.keys.Key.{Key}
use Rattle.cdc_match.specs.declared.keys.Key.TheVariants as key
use Rattle.cdc_match.specs.declared.pairs.Mode.{Mode}
use Rattle.cdc_match.specs.declared.pairs.Mode.TheVariants.{All, Any}
use Rattle.cdc_match.specs.declared.pairs.Pair.{Pair}
use Rattle.cdc_match.specs.declared.pairs.Pair.TheVariants.{EventType, Ledger, TransferCode, DebitAccountCode, CreditAccountCode}
use Rattle.cdc_match.specs.Arguments.{Arguments}
use Rattle.cdc_match.specs.Parts.{parted}

-- what has been read, or the first fault
abbrev pub Read : Type 0 → Type 0
Read T = Result T BindError

infixl 20 ◌>>=◌
-- reads on, unless there was a fault
abbrev pub ◌>>=◌ : {A B : Type 0} → Read A → (A → Read B) → Read B
Ok value >>= rest = rest value
Err error >>= rest = Err error

-- the word for a mode
abbrev pub mode_word : Mode → List ℕ
mode_word All = codes "all"
mode_word Any = codes "any"

-- the mode with this word, if any
abbrev pub mode_named : List ℕ → Option Mode
mode_named word = find (λ mode. bytes_eq (mode_word mode) word) (All ∷ Any ∷ [])

-- the name of a header in a binding
abbrev pub key_name : Key → List ℕ
key_name key.EventType = codes "event_type"
key_name key.Ledger = codes "ledger"
key_name key.TransferCode = codes "transfer_code"
key_name key.DebitAccountCode = codes "debit_account_code"
key_name key.CreditAccountCode = codes "credit_account_code"

-- every header that a binding may name
abbrev pub all_keys : List Key
all_keys = key.EventType ∷ key.Ledger ∷ key.TransferCode ∷ key.DebitAccountCode ∷ key.CreditAccountCode ∷ []

-- the header of that name, if there is one
abbrev pub key_named : List ℕ → Option Key
key_named name = find (λ k. bytes_eq (key_name k) name) all_keys

-- the pair of a key and the value that a text writes for it, if it writes one
abbrev pub pair_with : Key → List ℕ → Option Pair
pair_with key.EventType text = option_map EventType (kind_named text)
pair_with key.Ledger text = option_map Ledger (decimal_up_to max_32 text)
pair_with key.TransferCode text = option_map TransferCode (decimal_up_to max_16 text)
pair_with key.DebitAccountCode text = option_map DebitAccountCode (decimal_up_to max_16 text)
pair_with key.CreditAccountCode text = option_map CreditAccountCode (decimal_up_to max_16 text)

-- the pair of a word, which is parted at its first equals sign
abbrev pub pair_of : List ℕ → Read Pair
pair_of word = do
  parts ← ok_or (parted 61 word) UnknownKey
  k ← ok_or (key_named parts.0) UnknownKey
  ok_or (pair_with k parts.1) BadValue

-- what each word gives, in order, or the first fault
abbrev pub each : {A B : Type 0} → (A → Read B) → List A → Read (List B)
each read [] = Ok []
each read (word ∷ words) = do
  first ← read word
  rest ← each read words
  Ok (first ∷ rest)

-- the pairs of the words after the mode; an eleventh word is too many, whatever it is
abbrev pub pairs_of : List (List ℕ) → Read (List Pair)
pairs_of words = do
  pairs ← each pair_of (take BINDING_PAIRS words)
  if nat_le (length words) BINDING_PAIRS then Ok pairs else Err TooManyPairs

-- the binding of a mode and further words
abbrev pub with_mode : Mode → List (List ℕ) → Read Arguments
with_mode mode words = do
  pairs ← pairs_of words
  Ok (record { mode = mode; pairs = pairs })

-- the binding that the words represent, or the first error from the left
abbrev pub arguments_of : List (List ℕ) → Read Arguments
arguments_of [] = Err BadMode
arguments_of (word ∷ words) = do
  mode ← ok_or (mode_named word) BadMode
  with_mode mode words

-- the words begin with a right pair
abbrev pub BeginsWithPair : List (List ℕ) → Type 0
BeginsWithPair [] = ⊥
BeginsWithPair (word ∷ words) = IsOk (pair_of word)

-- the words begin with a mode and a right pair, so that there is something to keep
abbrev pub NeedsMemory : List (List ℕ) → Type 0
NeedsMemory [] = ⊥
NeedsMemory (word ∷ words) = IsSome (mode_named word) × BeginsWithPair words

-- Worked examples: the bindings that lists of words represent, and the headers that a binding takes.
use Rattle.std.proofs.Common.{◌≡◌, List, [], ◌∷◌, codes, true, false, Ok, Err, refl}
use Rattle.cdc_types.specs.declared.events.EventKind.TheVariants.{TwoPhasePosted}
use Rattle.cdc_types.specs.declared.events.Headers.{Headers}
use Rattle.cdc_match.specs.declared.errors.BindError.TheVariants.{BadMode, UnknownKey, BadValue}
use Rattle.cdc_match.specs.declared.pairs.Mode.TheVariants.{All, Any}
use Rattle.cdc_match.specs.declared.pairs.Pair.{Pair}
use Rattle.cdc_match.specs.declared.pairs.Pair.TheVariants.{EventType, Ledger, TransferCode}
use Rattle.cdc_match.specs.Arguments.{Arguments}
use Rattle.cdc_match.specs.Matching.{matches}
use Rattle.cdc_match.specs.Parsing.{arguments_of}

-- a binding that wants every one of these pairs
abbrev under_all : List Pair → Arguments
under_all pairs = record { mode = All; pairs = pairs }

-- a binding that wants some one of them
abbrev under_any : List Pair → Arguments
under_any pairs = record { mode = Any; pairs = pairs }

-- ---- words

-- leading zeros are allowed, and a key may occur twice
two_ledgers : arguments_of (codes "any" ∷ codes "ledger=0700" ∷ codes "ledger=1" ∷ [])
    ≡ Ok (under_any (Ledger 700 ∷ Ledger 1 ∷ []))
two_ledgers = refl

-- a mode is wanted first
no_words : arguments_of [] ≡ Err BadMode
no_words = refl

-- a word is parted at its first equals sign
two_equals_signs : arguments_of (codes "all" ∷ codes "ledger=1=2" ∷ []) ≡ Err BadValue
two_equals_signs = refl

-- of two errors the first one is reported
two_faults : arguments_of (codes "all" ∷ codes "code=1" ∷ codes "ledger=4294967296" ∷ []) ≡ Err UnknownKey
two_faults = refl

-- ---- headers

-- the headers of a post in ledger 700
abbrev posted : Headers
posted = record {
  kind = TwoPhasePosted;
  ledger = 700;
  transfer_code = 1;
  debit_account_code = 10;
  credit_account_code = 20;
}

-- every pair, or some pair
abbrev half_met : List Pair
half_met = EventType TwoPhasePosted ∷ TransferCode 2 ∷ []

-- the kind is right and the code isn't, so `all` leaves the message out
all_of_half : matches (under_all half_met) posted ≡ false
all_of_half = refl

-- and `any` takes it
any_of_half : matches (under_any half_met) posted ≡ true
any_of_half = refl

-- of two pairs with one key both count
both_ledgers : matches (under_all (Ledger 701 ∷ Ledger 700 ∷ [])) posted ≡ false
both_ledgers = refl

-- without pairs
all_of_none : matches (under_all []) posted ≡ true
all_of_none = refl

-- `all` takes every message then, and `any` none
any_of_none : matches (under_any []) posted ≡ false
any_of_none = refl

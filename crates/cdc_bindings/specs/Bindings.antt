-- Bindings that mean the same, and the bindings of texts.
use Rattle.std.specs.Prelude.{◌≡◌, ℕ, zero, suc, List, [], ◌∷◌, Bool, true, false, ◌&&◌, ◌==◌, if◌then◌else◌}
use Rattle.std.specs.Prelude.{Option, Some, None, Ok, Err}
use Rattle.std.specs.List.{list_all, list_any}
use Rattle.std.specs.Str.{is_utf8}
use Rattle.cdc_types.specs.declared.events.Headers.{Headers}
use Rattle.cdc_match.specs.declared.errors.BindError.TheVariants.{BadMode}
use Rattle.cdc_match.specs.declared.pairs.Mode.{Mode}
use Rattle.cdc_match.specs.declared.pairs.Mode.TheVariants.{All, Any}
use Rattle.cdc_match.specs.declared.pairs.Pair.{Pair}
use Rattle.cdc_match.specs.declared.pairs.Pair.TheVariants.{EventType, Ledger, TransferCode, DebitAccountCode, CreditAccountCode}
use Rattle.cdc_match.specs.Arguments.{Arguments}
use Rattle.cdc_match.specs.Matching.{matches, same_kind}
use Rattle.cdc_match.specs.Parsing.{Read, arguments_of}
use Rattle.cdc_match.specs.Parts.{parted}

-- two modes are one
abbrev pub same_mode : Mode → Mode → Bool
same_mode All All = true
same_mode Any Any = true
same_mode _ _ = false

-- two pairs are one: a header, and a value
abbrev pub same_pair : Pair → Pair → Bool
same_pair (EventType one) (EventType other) = same_kind one other
same_pair (Ledger one) (Ledger other) = one == other
same_pair (TransferCode one) (TransferCode other) = one == other
same_pair (DebitAccountCode one) (DebitAccountCode other) = one == other
same_pair (CreditAccountCode one) (CreditAccountCode other) = one == other
same_pair _ _ = false

-- a pair is among these
abbrev pub is_among : List Pair → Pair → Bool
is_among pairs pair = list_any (same_pair pair) pairs

-- each of these pairs is among those
abbrev pub are_among : List Pair → List Pair → Bool
are_among those these = list_all (is_among those) these

-- two bindings mean the same: they have one mode, and the same pairs, in any order and number
abbrev pub mean_same : Arguments → Arguments → Bool
mean_same one other = same_mode one.mode other.mode
    && (are_among other.pairs one.pairs && are_among one.pairs other.pairs)

-- the first word of a text, which was parted at its first space, and the others
abbrev pub word_first : (List ℕ → List (List ℕ)) → List ℕ → Option (List ℕ × List ℕ) → List (List ℕ)
word_first others text None = text ∷ []
word_first others text (Some parts) = parts.0 ∷ others parts.1

-- the words of a text, which is parted at so many spaces at most
unfoldable pub words : ℕ → List ℕ → List (List ℕ)
words zero text = text ∷ []
words (suc more) text = word_first (words more) text (parted 32 text)

-- the binding of a text, or the first error. A binding has eleven words at most, so a text of more is none.
abbrev pub binding_of : List ℕ → Read Arguments
binding_of text = if is_utf8 text then arguments_of (words 11 text) else Err BadMode

-- what was read means the same as a binding
abbrev pub is_as : Arguments → Read Arguments → Bool
is_as binding (Ok read) = mean_same read binding
is_as binding (Err error) = false

-- a text is that of a binding that means the same as this one
abbrev pub is_of : Arguments → List ℕ → Bool
is_of binding text = is_as binding (binding_of text)

-- bindings that mean the same take the same messages
abbrev pub SameBindingsTakeSame : Type 0
SameBindingsTakeSame = (one other : Arguments) (headers : Headers) → mean_same one other ≡ true
    → matches one headers ≡ matches other headers

-- Reading an event from bytes, by the value that the bytes are.
use Rattle.std.proofs.Common.{◌≡◌, ℕ, ◌<◌, List, [], ◌∷◌, length, arith, Bool, true, false, Some, None, Err, IsUtf8, refl}
use Rattle.std.proofs.lemmas.Str.{IsUtf8-from_is_utf8, is_utf8-from_IsUtf8}
use Rattle.std.specs.Str.{is_utf8}
use Rattle.serde_json.specs.Data.{Data}
use Rattle.serde_json.proofs.OnLiterals.{serde_json_on_literals}
use Rattle.serde_json.specs.Read as json
use Rattle.cdc_message.specs.declared.errors.DecodeError.TheVariants.{NotJson}
use Rattle.cdc_message.specs.Reading.{read, event_of, value_of}

-- if the bytes are JSON, a body is read from their value
pub read_some : (bytes : List ℕ) (value : Data) → IsUtf8 bytes → json.read bytes ≡ Some value
    → read bytes ≡ event_of value
unfolding read
read_some bytes value text is = rw (is_utf8-from_IsUtf8 bytes text, is)

-- bytes have no value if they aren't UTF-8, or if the JSON crate reads none from them
value_none : (bytes : List ℕ) (b : Bool) → is_utf8 bytes ≡ b → (IsUtf8 bytes → json.read bytes ≡ None)
    → value_of bytes ≡ None
value_none bytes true e none = rw (e, none (IsUtf8-from_is_utf8 bytes e))
value_none bytes false e none = rw e

-- such bytes are refused as no JSON before any field is looked for
pub read_none : (bytes : List ℕ) → (IsUtf8 bytes → json.read bytes ≡ None) → read bytes ≡ Err NotJson
unfolding read
read_none bytes none = rw (value_none bytes (is_utf8 bytes) refl none)

-- no bytes are no JSON text
read_nothing : json.read [] ≡ None
unfolding serde_json_on_literals
read_nothing = refl

-- so bytes from which a value was read aren't empty
pub some_bytes : (bytes : List ℕ) (value : Data) → json.read bytes ≡ Some value → 0 < length bytes
some_bytes [] value is = let nothing = read_nothing in let never : ⊥ = cc in absurd never
some_bytes (byte ∷ bytes) value is = omega arith

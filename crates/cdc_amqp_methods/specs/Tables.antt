-- Tables of fields.
use Rattle.std.specs.Prelude.{ℕ, zero, suc, List, [], ◌==◌, ◌||◌, length, if◌then◌else◌, Option, Some, None}
use Rattle.std.specs.Option.{option_map}
use Rattle.std.specs.Str.{bytes_eq}
use Rattle.cdc_amqp_frames.specs.Fields.{◌>>=◌, u8_at, bytes_at, short_at, long_at}
use Rattle.cdc_amqp_methods.specs.declared.tables.Field.{Field}

-- a field, wherever it is stored: its name, the letter of its type, and the bytes of its value
pub record Parts : Type 0 where
  pub name : List ℕ
  pub letter : ℕ
  pub value : List ℕ

abbrev pub view : Field → Parts
view f = record { name = f.name.now; letter = f.letter; value = f.value.now }

abbrev pub views : Option Field → Option Parts
views f = option_map view f

-- a value of the type with this letter: V; t, b, B; s, u; I, i, f; D; l, d, T; S, x, F, A
unfoldable pub value_at : ℕ → List ℕ → Option (List ℕ × List ℕ)
value_at letter bytes =
    if letter == 86 then Some ([], bytes)
    else (if letter == 116 || letter == 98 || letter == 66 then bytes_at 1 bytes
    else (if letter == 115 || letter == 117 then bytes_at 2 bytes
    else (if letter == 73 || letter == 105 || letter == 102 then bytes_at 4 bytes
    else (if letter == 68 then bytes_at 5 bytes
    else (if letter == 108 || letter == 100 || letter == 84 then bytes_at 8 bytes
    else (if letter == 83 || letter == 120 || letter == 70 || letter == 65 then long_at bytes else None))))))

-- a name, a letter, and a value
unfoldable pub field_at : List ℕ → Option (Parts × List ℕ)
field_at bytes = do
  name ← short_at bytes
  letter ← u8_at name.1
  value ← value_at letter.0 letter.1
  Some (record { name = name.0; letter = letter.0; value = value.0 }, value.1)

-- the first field of this name, among the first so many fields
unfoldable pub find_among : ℕ → List ℕ → List ℕ → Option (Option Parts)
find_among zero name bytes = Some None
find_among (suc n) name bytes =
    if length bytes == 0 then Some None
    else field_at bytes >>= (λ x. if bytes_eq x.0.name name then Some (Some x.0) else find_among n name x.1)

-- the first field of this name; a table has no more fields than bytes
abbrev pub find_field : List ℕ → List ℕ → Option (Option Parts)
find_field name bytes = find_among (length bytes) name bytes

-- The results of the reader's steps, compared with what the definitions read. Only private contracts cite them.
use Rattle.std.specs.Prelude.{◌≡◌, ℕ, ◌-◌, ◌^◌, Result, Ok, Err, MatchResult}
use Rattle.std.specs.Borrow.{Bor}
use Rattle.serde_json.specs.Data.{Data}
use Rattle.serde_json.specs.View.{view}
use Rattle.serde_json.specs.declared.value.Value.{Value}
use Rattle.cdc_message.specs.declared.errors.DecodeError.{DecodeError}
use Rattle.cdc_message.specs.declared.fields.Field.{Field}
use Rattle.cdc_message.specs.Reading.{Read, ◌>>=◌, typed, whole_number, up_to}

-- the answer is the value that was read, or its error
abbrev pub Finds : Result (Bor Value) DecodeError → Read Data → Type 0
Finds answer expected = MatchResult answer (λ found. expected ≡ Ok (view found.now)) (λ error. expected ≡ Err error)

-- the number of up to 128 bits that a value represents
abbrev pub number_in : Field → Data → Read ℕ
number_in at value = do
  n ← typed at (whole_number value)
  up_to (2 ^ 128 - 1) at n

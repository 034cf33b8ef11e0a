-- The numbers and names of what the reader of a binding answers.
use Rattle.std.specs.Prelude.{◌≡◌, ◌⊎◌, ℕ, List, codes, Result, Err}
use Rattle.cdc_match.specs.declared.errors.BindError.{BindError}
use Rattle.cdc_match.specs.declared.errors.BindError.TheVariants.{BadMode, UnknownKey, BadValue, TooManyPairs, OutOfMemory}

-- the error's number
abbrev pub error_number : BindError → ℕ
error_number BadMode = 1
error_number UnknownKey = 2
error_number BadValue = 3
error_number TooManyPairs = 4
error_number OutOfMemory = 5

-- the error's name
abbrev pub error_name : BindError → List ℕ
error_name BadMode = codes "bad_mode"
error_name UnknownKey = codes "unknown_key"
error_name BadValue = codes "bad_value"
error_name TooManyPairs = codes "too_many_pairs"
error_name OutOfMemory = codes "out_of_memory"

-- the answer is this one, or memory ran out
abbrev pub GivesUnlessMemory : {T : Type 0} → Result T BindError → Result T BindError → Type 0
GivesUnlessMemory answer expected = (answer ≡ expected) ⊎ (answer ≡ Err OutOfMemory)

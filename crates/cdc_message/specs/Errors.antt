-- The numbers and names of what a reader of a body answers.
use Rattle.std.specs.Prelude.{◌≡◌, ◌⊎◌, ℕ, List, codes, Result, Err}
use Rattle.cdc_message.specs.declared.errors.DecodeError.{DecodeError}
use Rattle.cdc_message.specs.declared.errors.DecodeError.TheVariants.{NotJson, NotAnObject, Missing, WrongType, OutOfRange, UnknownKind, OutOfMemory}

-- the error's number
abbrev pub error_number : DecodeError → ℕ
error_number NotJson = 1
error_number NotAnObject = 2
error_number (Missing field) = 3
error_number (WrongType field) = 4
error_number (OutOfRange field) = 5
error_number UnknownKind = 6
error_number OutOfMemory = 7

-- the error's name
abbrev pub error_name : DecodeError → List ℕ
error_name NotJson = codes "not_json"
error_name NotAnObject = codes "not_an_object"
error_name (Missing field) = codes "missing"
error_name (WrongType field) = codes "wrong_type"
error_name (OutOfRange field) = codes "out_of_range"
error_name UnknownKind = codes "unknown_kind"
error_name OutOfMemory = codes "out_of_memory"

-- the answer is this one, or memory ran out
abbrev pub GivesUnlessMemory : {T : Type 0} → Result T DecodeError → Result T DecodeError → Type 0
GivesUnlessMemory answer expected = (answer ≡ expected) ⊎ (answer ≡ Err OutOfMemory)

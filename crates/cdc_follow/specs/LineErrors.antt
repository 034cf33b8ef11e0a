-- The names of the reasons why a line is no entry of a stream.
use Rattle.std.specs.Prelude.{◌≡◌, ◌⊎◌, ℕ, List, codes, Result, Err}
use Rattle.cdc_message.specs.Errors.{error_name}
use Rattle.cdc_message.specs.declared.errors.DecodeError.{DecodeError}
use Rattle.cdc_message.specs.declared.errors.DecodeError.TheVariants as read
use Rattle.cdc_follow.specs.declared.errors.LineError.{LineError}
use Rattle.cdc_follow.specs.declared.errors.LineError.TheVariants.{TooLong, Decode, PreviousMissing}
use Rattle.cdc_follow.specs.declared.errors.LineError.TheVariants.{PreviousWrongType, PreviousOutOfRange, OutOfMemory}
use Rattle.cdc_follow.specs.declared.errors.LineError.TheVariants.{TimestampOutOfRange}

-- a line's error for an error of its body
abbrev pub decoding_error : DecodeError → LineError
decoding_error read.OutOfMemory = OutOfMemory
decoding_error read.NotJson = Decode read.NotJson
decoding_error read.NotAnObject = Decode read.NotAnObject
decoding_error (read.Missing field) = Decode (read.Missing field)
decoding_error (read.WrongType field) = Decode (read.WrongType field)
decoding_error (read.OutOfRange field) = Decode (read.OutOfRange field)
decoding_error read.UnknownKind = Decode read.UnknownKind

-- the error's name
abbrev pub line_error_name : LineError → List ℕ
line_error_name TooLong = codes "too_long"
line_error_name (Decode why) = error_name why
line_error_name PreviousMissing = codes "missing"
line_error_name PreviousWrongType = codes "wrong_type"
line_error_name PreviousOutOfRange = codes "out_of_range"
line_error_name TimestampOutOfRange = codes "out_of_range"
line_error_name OutOfMemory = codes "out_of_memory"

-- the answer is this one, or memory ran out
abbrev pub GivesUnlessMemory : {T : Type 0} → Result T LineError → Result T LineError → Type 0
GivesUnlessMemory answer expected = (answer ≡ expected) ⊎ (answer ≡ Err OutOfMemory)

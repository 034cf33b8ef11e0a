-- The numbers and names of a subscriber's errors.
use Rattle.std.specs.Prelude.{ℕ, List, codes}
use Rattle.cdc_message.specs.declared.errors.DecodeError.{DecodeError}
use Rattle.cdc_message.specs.declared.errors.DecodeError.TheVariants as read
use Rattle.cdc_subscriber.specs.declared.errors.TakeError.{TakeError}
use Rattle.cdc_subscriber.specs.declared.errors.TakeError.TheVariants.{Decode, OutOfMemory}

-- the error's number
abbrev pub take_error_number : TakeError → ℕ
take_error_number (Decode why) = 1
take_error_number OutOfMemory = 2

-- the error's name
abbrev pub take_error_name : TakeError → List ℕ
take_error_name (Decode why) = codes "decode"
take_error_name OutOfMemory = codes "out_of_memory"

-- the error of a subscriber that couldn't read a body
abbrev pub reading_error : DecodeError → TakeError
reading_error read.NotJson = Decode read.NotJson
reading_error read.NotAnObject = Decode read.NotAnObject
reading_error (read.Missing field) = Decode (read.Missing field)
reading_error (read.WrongType field) = Decode (read.WrongType field)
reading_error (read.OutOfRange field) = Decode (read.OutOfRange field)
reading_error read.UnknownKind = Decode read.UnknownKind
reading_error read.OutOfMemory = OutOfMemory

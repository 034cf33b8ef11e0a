-- Decimal numbers.
use Rattle.std.specs.Prelude.{ℕ, List, Result, Err, if◌then◌else◌}
use Rattle.std.specs.Option.{ok_or}
use Rattle.cdc_message.specs.Decimals.{decimal_up_to, is_decimal}
use Rattle.cdc_script.specs.declared.faults.FaultKind.{FaultKind}
use Rattle.cdc_script.specs.declared.faults.FaultKind.TheVariants.{BadNumber, NumberOutOfRange}

-- the number of a word, which may not be above the greatest
abbrev pub number_of : ℕ → List ℕ → Result ℕ FaultKind
number_of greatest word =
    if is_decimal word then ok_or (decimal_up_to greatest word) NumberOutOfRange else Err BadNumber

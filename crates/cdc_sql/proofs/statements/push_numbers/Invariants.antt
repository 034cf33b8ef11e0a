use Rattle.std.proofs.Common.{◌≡◌, ◌++◌, take}
use Rattle.cdc_sql.specs.Statements.{numbers_text}
use Rattle.cdc_sql.proofs.statements.push_numbers.Given as goal

-- the first numbers are added
abbrev pub invariant-loop-number : goal.invariant-loop-number
invariant-loop-number l =
    l.text.items ≡ l.initial.text.items ++ numbers_text (take l.number-index l.numbers)

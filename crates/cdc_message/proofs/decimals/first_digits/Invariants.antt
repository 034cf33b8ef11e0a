use Rattle.std.proofs.Common.{◌≤◌, ◌-◌}
use Rattle.cdc_message.specs.Digits.{AreDigits}
use Rattle.cdc_message.proofs.decimals.first_digits.Given as goal

abbrev pub invariant-groups : goal.invariant-groups
invariant-groups l = AreDigits l.text l.count l.number × (l.count ≤ 19)

abbrev pub decreases-groups : goal.decreases-groups
decreases-groups l = 19 - l.count

abbrev pub invariant-loop-count : goal.invariant-loop-count
invariant-loop-count l = AreDigits l.text l.count l.number × (l.count ≤ 19)

-- proposed from the loop's first test
abbrev pub decreases-loop-count : goal.decreases-loop-count
decreases-loop-count l = 19 - l.count

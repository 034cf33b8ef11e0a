use Rattle.std.proofs.Common.{◌≡◌, ◌≤◌, ◌<◌, ◌+◌, ◌*◌, ◌^◌, length, ◌-◌}
use Rattle.cdc_message.specs.Digits.{AreDigits}
use Rattle.cdc_message.proofs.decimals.more_digits.Given as goal

abbrev pub invariant-groups : goal.invariant-groups
invariant-groups l =
    AreDigits l.text l.count (l.high * l.scale + l.low)
    × (19 ≤ l.count)
    × (l.count ≤ 38)
    × (l.scale ≡ 10 ^ (l.count - 19))
    × (l.low < l.scale)

abbrev pub decreases-groups : goal.decreases-groups
decreases-groups l = 38 - l.count

abbrev pub invariant-loop-count : goal.invariant-loop-count
invariant-loop-count l =
    AreDigits l.text l.count (l.high * l.scale + l.low)
    × (19 ≤ l.count)
    × (l.count ≤ 38)
    × (l.scale ≡ 10 ^ (l.count - 19))
    × (l.low < l.scale)

-- proposed from the loop's first test
abbrev pub decreases-loop-count : goal.decreases-loop-count
decreases-loop-count l = length l.text - l.count

use Rattle.std.proofs.Common.{◌≡◌}
use Rattle.cdc_read_ahead.proofs.blocks.Blocks.next_within.Given as goal

-- nothing was ready
abbrev pub invariant-loop : goal.invariant-loop
invariant-loop g l = l.self ≡ l.fn.self

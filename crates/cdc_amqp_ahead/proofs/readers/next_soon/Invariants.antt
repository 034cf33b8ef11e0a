use Rattle.std.proofs.Common.{◌≡◌}
use Rattle.cdc_amqp_ahead.proofs.readers.next_soon.Given as goal

-- nothing was ready
abbrev pub invariant-loop : goal.invariant-loop
invariant-loop g l = l.blocks ≡ l.fn.blocks

use Rattle.std.proofs.Common.{◌≡◌}
use Rattle.cdc_amqp_ahead.specs.Readers.{left_of}
use Rattle.cdc_amqp_ahead.proofs.readers.FramesAhead.take_needed.Given as goal

-- what is left to read stayed the same
abbrev pub invariant-loop : goal.invariant-loop
invariant-loop g l = left_of g.O.Known.bytes l.self ≡ left_of g.O.Known.bytes l.fn.self

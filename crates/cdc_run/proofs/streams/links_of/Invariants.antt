use Rattle.std.proofs.Common.{◌≡◌, map}
use Rattle.cdc_run.proofs.streams.links_of.Given as goal

-- those so far
abbrev pub invariant-loop-consumer : goal.invariant-loop-consumer
invariant-loop-consumer l = l.links.items ≡ map (λ c. c.link) l.yielded

use Rattle.std.proofs.Common.{◌≡◌}
use Rattle.cdc_actors_tests.proofs.links.receive_notes.Given as goal

abbrev pub invariant-loop : goal.invariant-loop
invariant-loop g l = (l.into.link ≡ l.fn.into.link) × (l.into.senders ≡ l.fn.into.senders)

use Rattle.std.proofs.Common.{◌≡◌}
use Rattle.cdc_actors_tests.proofs.links.send_notes.Given as goal

abbrev pub invariant-loop : goal.invariant-loop
invariant-loop g l = (l.out.link ≡ l.fn.out.link) × (l.out.number ≡ l.fn.sender)

use Rattle.std.proofs.Common.{◌≡◌}
use Rattle.cdc_actors_tests.proofs.links.a_receive_answers_that_one_of_two_senders_failed.Given as goal

-- it stays the same link, with as many senders
abbrev pub invariant-loop-sender : goal.invariant-loop-sender
invariant-loop-sender g l = (l.into.link ≡ l.initial.into.link) × (l.into.senders ≡ l.initial.into.senders)

use Rattle.std.proofs.Common.{◌≡◌}
use Rattle.cdc_ledger_actors.proofs.ledger.cores.abort_all.Given as goal

abbrev pub invariant-loop-i : goal.invariant-loop-i
invariant-loop-i g l = l.clients ≡ l.initial.clients

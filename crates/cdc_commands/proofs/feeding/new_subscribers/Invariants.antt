use Rattle.cdc_commands.proofs.Terms.{[], kept_by, map, take, ◌≡◌}
use Rattle.cdc_commands.proofs.feeding.new_subscribers.Given as goal

abbrev pub invariant-loop : goal.invariant-loop
invariant-loop l = l.subscribers.items ≡ map (kept_by []) (take l.index l.bindings)

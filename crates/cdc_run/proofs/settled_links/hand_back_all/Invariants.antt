use Rattle.std.proofs.Common.{◌≡◌, ◌∷◌}
use Rattle.cdc_run.proofs.settled_links.hand_back_all.Given as goal

-- those so far
abbrev pub invariant-loop-end : goal.invariant-loop-end
invariant-loop-end g l = l.all.items ≡ l.fn.first ∷ l.yielded

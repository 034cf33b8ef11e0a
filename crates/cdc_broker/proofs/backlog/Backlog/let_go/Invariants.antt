use Rattle.std.proofs.Common.{◌≡◌, ◌-◌, ◌≤◌, ◌++◌, length, map, max}
use Rattle.cdc_broker.proofs.backlog.Backlog.let_go.Given as goal

abbrev pub invariant-loop-self : goal.invariant-loop-self
invariant-loop-self l = record {
  items : map (λ s. s.value) l.self-inside.gone.items ++ l.self-inside.left.items ≡ l.fn.self.items;
  least : l.fn.self.gone ≤ length l.self-inside.gone.items;
  most : length l.self-inside.gone.items ≤ max l.fn.self.gone l.place;
}

abbrev pub decreases-loop-self : goal.decreases-loop-self
decreases-loop-self l = l.place - length l.self-inside.gone.items

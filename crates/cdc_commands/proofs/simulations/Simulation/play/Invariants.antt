use Rattle.cdc_commands.proofs.Terms.{IsAt, Stage, drop, ◌≡◌, ◌≤◌}
use Rattle.std.specs.Vec.Iter.{into_iter_items}
use Rattle.cdc_commands.proofs.SimulationLemmas.{HasCome, SawFrom}
use Rattle.cdc_commands.proofs.simulations.Simulation.play.Given as goal

abbrev pub invariant-loop-done : goal.invariant-loop-done
invariant-loop-done g l = record {
  left : into_iter_items l.left ≡ drop l.self.batches l.fn.batches.items;
  few : l.self.batches ≤ l.done;
  come : (stage : Stage) → IsAt l.fn.self stage → stage.done ≡ 0
      → HasCome (SawFrom (g.O.Observer.has_seen l.fn.observer stage.seen) (g.O.Observer.has_seen l.observer))
      l.fn.batches.items l.acts stage l.done l.self;
}

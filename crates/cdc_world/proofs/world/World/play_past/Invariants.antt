use Rattle.cdc_world.specs.Tries.{HaveTriesCounted, NextPast}
use Rattle.cdc_world.proofs.PlayMoves.{HasDone}
use Rattle.cdc_world.proofs.world.World.play_past.Given as goal

abbrev pub invariant-loop-done : goal.invariant-loop-done
invariant-loop-done g l = record {
  does : HasDone (NextPast l.fn.self.risks l.tries) l.fn.self l.self l.steps l.done;
  counts : HaveTriesCounted l.tries l.fn.self.failed l.self.failed;
}

use Rattle.cdc_world.proofs.Words.{Parts, Save, ap}
use Rattle.cdc_world.proofs.ClosedSubscribers.{StepFixesClosed-moves}
use Rattle.cdc_world.proofs.ActorMoves.{Moves-actors, counted_entry, moves_entry}
use Rattle.cdc_world.proofs.world.World.step.Goals as goal

pub returns-in-Save-clause-fixed : goal.returns-in-Save-clause-fixed
returns-in-Save-clause-fixed g c =
    rw (c.in-Save.is) (StepFixesClosed-moves _ Save _ _ c.save.ensures.next)

pub returns-in_default : goal.returns-in_default
returns-in_default g c =
    let next = moves_entry c.args.step.now c.step.result c.self.view_is
    (Moves-actors _ c.step.new.self c.args.step.now c.step.result c.step.ensures.next) in
    record {
      next = next;
      fixed = StepFixesClosed-moves c.args.self.now c.args.step.now c.step.result _ next;
      counted = counted_entry _ c.self.view_is c.step.ensures.next.0;
      honest = ap (λ (p : Parts). p.honest) c.self.view_is;
      risks = ap (λ (p : Parts). p.risks) c.self.view_is;
      safe = λ is. absurd (c.in_default.not-Save is);
    }

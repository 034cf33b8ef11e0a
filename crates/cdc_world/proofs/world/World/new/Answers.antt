use Rattle.std.proofs.Common.{refl}
use Rattle.cdc_world.proofs.ActorMoves.{new_stands}
use Rattle.cdc_world.proofs.world.World.new.Goals as goal

pub returns-clause-stands : goal.returns-clause-stands
returns-clause-stands g c =
    new_stands _ c.args.bindings.items c.args.window (g.S.ProgressStore.held c.args.store) c.in_ok-new.ensures refl

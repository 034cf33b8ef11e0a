use Rattle.std.proofs.Common.{refl}
use Rattle.cdc_world.proofs.PlayMoves.{Plays-once}
use Rattle.cdc_world.proofs.ClosedSubscribers.{AllStay-over, PlayFixesClosed-plays}
use Rattle.cdc_world.proofs.world.World.play.Goals as goal

pub returns-clause-plays : goal.returns-clause-plays
returns-clause-plays g c =
    Plays-once _ _ _ _ _ c.play_past.ensures.plays

pub returns-clause-fixed : goal.returns-clause-fixed
returns-clause-fixed g c = PlayFixesClosed-plays _ (AllStay-over _) _ _ _ _ _ (returns-clause-plays g c)

pub returns-clause-counted : goal.returns-clause-counted
returns-clause-counted g c =
    let counted = c.play_past.ensures.counted in
    rw (← counted.1.0.1 refl) (counted.1.1)

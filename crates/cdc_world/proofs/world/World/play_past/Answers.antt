use Rattle.std.proofs.Common.{◌∙◌, refl, arith}
use Rattle.cdc_world.proofs.Counting.{HaveTriesCounted-done}
use Rattle.cdc_world.proofs.PlayMoves.{HasDone-more, MovesBy-past, Plays-ended, Plays-stopped}
use Rattle.cdc_world.proofs.ClosedSubscribers.{AllStay-past, PlayFixesClosed-plays}
use Rattle.cdc_world.proofs.world.World.play_past.Goals as goal

pub loop-done-preserved : goal.loop-done-preserved
loop-done-preserved g c = record {
  does =
      HasDone-more _ _ _ _ _ _ _ _ c.loop-done-test.true c.index-steps-done.is c.loop-done.invariant.does
      (MovesBy-past _ _ _ _ _ _ _ c.loop-done.invariant.does.risks c.in_default.ensures.next)
      c.in_default.ensures.honest c.in_default.ensures.risks;
  counts = HaveTriesCounted-done c.args.tries c.args.self.now.failed c.loop-done.self.failed c.step_past.new.self.failed
      c.in_default.field-0 c.loop-done.invariant.counts c.in_default.ensures.counted;
}

pub returns-in-Err-clause-counted : goal.returns-in-Err-clause-counted
returns-in-Err-clause-counted g c =
    let last = c.in-Err.ensures.counted in (
      last.0,
      (
        (
          omega (arith, c.loop-done.invariant.counts.0, last.1.0.0),
          λ none. last.1.0.1 none ∙ c.loop-done.invariant.counts.1 none,
        ),
        last.1.1,
      ),
    )

pub returns-clause-counted : goal.returns-clause-counted
returns-clause-counted g c = (c.loop-done.self.failed, (c.loop-done.invariant.counts, refl))

pub returns-in-Err-clause-plays : goal.returns-in-Err-clause-plays
returns-in-Err-clause-plays g c =
    Plays-stopped _ _ _ _ _ _ _ _ c.loop-done-test.true c.index-steps-done.is c.loop-done.invariant.does
    (MovesBy-past _ _ _ _ _ _ _ c.loop-done.invariant.does.risks c.in-Err.ensures.next)

pub returns-in-Err-clause-fixed : goal.returns-in-Err-clause-fixed
returns-in-Err-clause-fixed g c =
    PlayFixesClosed-plays _ (AllStay-past _ _) _ _ _ _ _ (returns-in-Err-clause-plays g c)

pub returns-clause-fixed : goal.returns-clause-fixed
returns-clause-fixed g c =
    PlayFixesClosed-plays _ (AllStay-past _ _) _ _ _ _ _ (Plays-ended _ _ _ _ _ c.loop-done-test.false
    c.loop-done.auto.done-end c.loop-done.invariant.does)

use Rattle.std.proofs.Common.{◌∙◌, refl, sym, arith}
use Rattle.cdc_world.proofs.Counting.{answer_rises}
use Rattle.cdc_world.proofs.TriedSteps.{HasFailed-more, HasFailed-none, MovesPast-last, isnt_passing}
use Rattle.cdc_world.proofs.world.World.step_past.Goals as goal

pub loop-init : goal.loop-init
loop-init g c = record {
  within = omega arith;
  failed = HasFailed-none _ _;
  counts = (omega arith, λ none. refl);
}

pub returns-then-not-is_passing-clause-next : goal.returns-then-not-is_passing-clause-next
returns-then-not-is_passing-clause-next g c =
    MovesPast-last _ _ _ _ _ _ _ c.loop.invariant.within
    (isnt_passing _ (sym c.is_passing.ensures ∙ c.if-not-is_passing.true))
    c.loop.invariant.failed c.step-answer.ensures.next

pub returns-then-not-is_passing-clause-honest : goal.returns-then-not-is_passing-clause-honest
returns-then-not-is_passing-clause-honest g c = c.step-answer.ensures.honest ∙ c.loop.invariant.failed.honest

pub loop-preserved : goal.loop-preserved
loop-preserved g c = record {
  within = omega arith;
  failed = HasFailed-more _ _ _ _ _ _ (sym c.is_passing.ensures ∙ c.if-not-is_passing.false) c.loop.invariant.failed
      c.step-answer.ensures.next c.step-answer.ensures.honest c.step-answer.ensures.risks;
  counts = (
    omega (
      arith,
      c.loop.invariant.counts.0,
      answer_rises c.loop.self.failed c.step-answer.new.self.failed
          c.step-answer.result c.step-answer.ensures.counted,
    ),
    λ none. absurd (omega (arith, none)),
  );
}

pub returns-then-not-is_passing-clause-counted : goal.returns-then-not-is_passing-clause-counted
returns-then-not-is_passing-clause-counted g c = (
  c.loop.self.failed,
  (
    (c.loop.invariant.counts.0, λ none. absurd (omega (arith, none, c.loop-test.true))),
    c.step-answer.ensures.counted,
  ),
)

pub returns-clause-counted : goal.returns-clause-counted
returns-clause-counted g c = (
  c.loop.self.failed,
  (
    (c.loop.invariant.counts.0, λ none. c.loop.invariant.counts.1 (omega (arith, none, c.loop.invariant.within))),
    c.step.ensures.counted,
  ),
)

pub returns-clause-next : goal.returns-clause-next
returns-clause-next g c =
    MovesPast-last _ _ _ _ _ _ _
    c.loop.invariant.within (λ passing. omega (arith, c.loop-test.false, c.loop.invariant.within))
    c.loop.invariant.failed c.step.ensures.next

pub returns-clause-honest : goal.returns-clause-honest
returns-clause-honest g c = c.step.ensures.honest ∙ c.loop.invariant.failed.honest

pub returns-then-not-is_passing-clause-risks : goal.returns-then-not-is_passing-clause-risks
returns-then-not-is_passing-clause-risks g c = c.step-answer.ensures.risks ∙ c.loop.invariant.failed.risks

pub returns-clause-risks : goal.returns-clause-risks
returns-clause-risks g c = c.step.ensures.risks ∙ c.loop.invariant.failed.risks

use Rattle.cdc_commands.proofs.Terms.{AbortsAt, OnErr, SimulationParts, ap, length, on_err_weaker, slice_get, step_for, subst, sym, ◌∙◌}
use Rattle.cdc_commands.proofs.SimulationLemmas.{act_answered, left_behind, next_batch, next_left, next_within}
use Rattle.cdc_commands.proofs.simulations.Simulation.play_act.Goals as goal

pub returns-in-Some-clause-acts : goal.returns-in-Some-clause-acts
returns-in-Some-clause-acts g c = λ batches left stage at.
    let counted = ap (λ (s : SimulationParts). s.batches) c.self-in-Some.view_is in
    let asked = next_batch batches c.self-in-Some.inside.batches c.args.self.now.batches stage.batches
    c.in-Some.item _ (sym c.in-Some.ensures.items ∙ left) counted at.batches in
    act_answered (λ seen. g.O.Observer.has_seen c.args.observer.now stage.seen
    → g.O.Observer.has_seen c.play_step-in-Some.new.observer seen) batches stage c.args.act.now _ _ _
    (asked ∙ sym (ap (λ a. step_for batches stage.batches a) c.in-Batch.is))
    (c.play_step-in-Some.ensures.answers stage at)

pub returns-in-Some-clause-left : goal.returns-in-Some-clause-left
returns-in-Some-clause-left g c = λ batches left.
    left_behind batches c.self-in-Some.inside.batches c.args.self.now.batches _ c.in-Some.item _
    c.play_step-in-Some.result (sym c.in-Some.ensures.items ∙ left)
    (ap (λ (s : SimulationParts). s.batches) c.self-in-Some.view_is) c.play_step-in-Some.ensures.count

pub returns-in-Some-clause-aborts : goal.returns-in-Some-clause-aborts
returns-in-Some-clause-aborts g c = λ batches left stage at.
    let n = c.args.self.now.batches in
    let found = (next_left batches n c.in-Some.item _ (sym left ∙ c.in-Some.ensures.items)).0 in
    let there = sym (ap (λ i. slice_get batches i) at.batches) ∙ found in
    subst (λ a. OnErr c.play_step-in-Some.result (AbortsAt batches stage a c.play_step-in-Some.new.self))
    (sym c.in-Batch.is)
    (on_err_weaker c.play_step-in-Some.result (λ done. (c.in-Some.item, (there, done)))
    (c.play_step-in-Some.ensures.aborts stage at))

pub returns-in-Some-clause-within : goal.returns-in-Some-clause-within
returns-in-Some-clause-within g c = λ batches left within.
    let k = c.self-in-Some.inside.batches in
    let counted = ap (λ (s : SimulationParts). s.batches) c.self-in-Some.view_is in
    let more = next_within batches k c.args.self.now.batches c.in-Some.item _
    (sym c.in-Some.ensures.items ∙ left) counted in
    c.play_step-in-Some.ensures.within (length batches) within more

use Rattle.cdc_run.proofs.Words.{AreLeftOf, YieldsList-from_vec, YieldsList-turn, [], arith, false, has_finished, inr, length, refl, rules, subst, sym, works_of, ◌++◌, ◌+◌, ◌∙◌, ◌∷◌, ◌≡◌}
use Rattle.cdc_run.proofs.Apart.{ends_push, left_count, left_push, unfit_end}
use Rattle.cdc_run.proofs.parts.parts_of.Goals as goal
use Rattle.cdc_run.proofs.parts.parts_of.Goals.{then-system-via-then-system, then-system-via-else-system+then-number}

-- there is room for what one more leaves
pub push_reserved-requires : goal.push_reserved-requires
push_reserved-requires g c =
    let before = c.loop-end.yielded in
    let made = c.into_iter-end-iterator.ensures.into_iter_gives in
    let next = YieldsList-turn
    (YieldsList-from_vec {s = c.into_iter-end-iterator.result} c.args.ends.items made.0 (made.1 ∙ c.args.ends.ok.0))
    before c.loop-end.end-iterator c.loop-end.yielded_by c.next.result c.next.new.self c.in-Some.end c.in-Some.is
    c.next.ensures.steps in
    let all = c.loop-end.all in
    let long : length all.items ≡ length before =
    left_count g.W.Work.leaves before all.items c.loop-end.invariant.1 in
    let count : all.len ≡ length all.items = all.ok.0 in
    let whole : c.args.ends.len ≡ length c.args.ends.items = c.args.ends.ok.0 in
    omega (arith, next.0, long, count, whole, c.loop-end.invariant.2)

-- one more actor
pub loop-end-preserved : goal.loop-end-preserved
loop-end-preserved g c =
    let before = c.loop-end.yielded in
    let end = c.in-Some.end in
    let all = c.loop-end.all in
    let long : length all.items ≡ length before =
    left_count g.W.Work.leaves before all.items c.loop-end.invariant.1 in
    let count : all.len ≡ length all.items = all.ok.0 in
    let its : end.system ≡ c.args.system = first_of (cc, search rules) in
    let named : g.W.Numbered.number end.work ≡ 1 + length before = first_of (omega arith, search rules) in
    let left = c.in-Some-into_parts in (
      ends_push g.W.Numbered.number g.W.Work.keeps g.W.Work.is_over c.args.system 1 before end
          c.loop-end.invariant.0 its
          named left.ensures.kept (sym left.ensures.some),
      subst (AreLeftOf g.W.Work.leaves (works_of (before ++ end ∷ []))) (sym c.push_reserved.ensures.items)
          (left_push g.W.Work.leaves before all.items end left.parts c.loop-end.invariant.1 left.ensures.parts),
      c.push_reserved.ensures.capacity ∙ c.loop-end.invariant.2,
    )

-- the next actor is of another system, or doesn't have the number of its place
pub returns-then-system-clause-refused : goal.returns-then-system-clause-refused
returns-then-system-clause-refused g c =
    let before = c.loop-end.yielded in
    let end = c.in-Some.end in
    let made = c.into_iter-end-iterator.ensures.into_iter_gives in
    let next = YieldsList-turn
    (YieldsList-from_vec {s = c.into_iter-end-iterator.result} c.args.ends.items made.0 (made.1 ∙ c.args.ends.ok.0))
    before c.loop-end.end-iterator c.loop-end.yielded_by c.next.result c.next.new.self c.in-Some.end c.in-Some.is
    c.next.ensures.steps in
    let all = c.loop-end.all in
    let long : length all.items ≡ length before =
    left_count g.W.Work.leaves before all.items c.loop-end.invariant.1 in
    let count : all.len ≡ length all.items = all.ok.0 in
    inr (
      refl,
      unfit_end g.W.Numbered.number g.W.Work.keeps g.W.Work.is_over c.args.system c.args.ends.items before end next
          (λ its named over.
          elim c.then-system.branch [
            | then-system-via-then-system w ↦ w.if-system.true cc
            | then-system-via-else-system+then-number w ↦ w.if-number.true (omega arith)
          ]),
    )

-- or it hasn't finished, or has met a fault
pub returns-in_default-clause-refused : goal.returns-in_default-clause-refused
returns-in_default-clause-refused g c =
    let before = c.loop-end.yielded in
    let end = c.in-Some.end in
    let made = c.into_iter-end-iterator.ensures.into_iter_gives in
    let next = YieldsList-turn
    (YieldsList-from_vec {s = c.into_iter-end-iterator.result} c.args.ends.items made.0 (made.1 ∙ c.args.ends.ok.0))
    before c.loop-end.end-iterator c.loop-end.yielded_by c.next.result c.next.new.self c.in-Some.end c.in-Some.is
    c.next.ensures.steps in
    inr (
      refl,
      unfit_end g.W.Numbered.number g.W.Work.keeps g.W.Work.is_over c.args.system c.args.ends.items before end next
          (λ its named over.
          let not_over : false ≡ has_finished g.W.Work.is_over end = c.in_default.ensures.some in
          cc),
    )

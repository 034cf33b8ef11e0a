use Rattle.cdc_run.proofs.Words.{AreActorsOf, AreLeftOf, vec_capacity, vec_len, works_of, ◌≡◌}
use Rattle.cdc_run.proofs.parts.parts_of.Given as goal

-- those so far, with room for all
abbrev pub invariant-loop-end : goal.invariant-loop-end
invariant-loop-end g l =
    AreActorsOf g.W.Numbered.number g.W.Work.keeps g.W.Work.is_over l.system 1 l.yielded
    × AreLeftOf g.W.Work.leaves (works_of l.yielded) l.all.items
    × (vec_capacity l.all ≡ vec_len l.fn.ends)

use Rattle.std.proofs.Common.{◌≡◌, ℕ, List, Option, Some, filter, slice_get, subst, sym, ◌∙◌}
use Rattle.cdc_expiry.specs.declared.triple.Triple.{Triple}
use Rattle.cdc_expiry.specs.Triples.{Index, Triples, IsLeast, is_due, due_at}
use Rattle.cdc_expiry.proofs.Least.{IsLeastOf-first, IsLeastOf-none}
use Rattle.cdc_expiry.proofs.Lists.{IsLeastOf, IsLeast-set_of, due_at-set_of, set_of}
use Rattle.cdc_expiry.proofs.index.DueIndex.due.Goals as goal

-- what is the least of the list's triples that are due is so of the set's
of_set : (now : ℕ) (xs : List Triple) (answer : Option Triple) → IsLeastOf (filter (is_due now) xs) answer
    → IsLeast (due_at (set_of xs) now) answer
of_set now xs answer least =
    subst (λ (s : Triples). IsLeast s answer) (sym (due_at-set_of xs now))
    (IsLeast-set_of (filter (is_due now) xs) answer least)

pub returns-in_err-first : goal.returns-in_err-first
returns-in_err-first c =
    let now = c.args.now in
    let xs = c.self.inside.triples.items in
    let answer = c.from_residual.result in
    let least : IsLeastOf (filter (is_due now) xs) answer =
    subst (IsLeastOf (filter (is_due now) xs)) (sym c.from_residual.ensures)
    (IsLeastOf-none now xs (sym c.in_err-first.ensures)) in
    subst (λ (i : Index). IsLeast (due_at i.triples now) answer) c.self.view_is (of_set now xs answer least)

pub returns : goal.returns
returns c =
    let now = c.args.now in
    let xs = c.self.inside.triples.items in
    let x = c.in_ok-first.first in
    let answer = c.then_some.result in
    let at : slice_get xs 0 ≡ Some x = sym c.first.ensures ∙ c.in_ok-first.was in
    let least : IsLeastOf (filter (is_due now) xs) answer =
    subst (IsLeastOf (filter (is_due now) xs)) (sym c.then_some.ensures)
    (IsLeastOf-first now xs x c.self.invariant.in_order at) in
    subst (λ (i : Index). IsLeast (due_at i.triples now) answer) c.self.view_is (of_set now xs answer least)

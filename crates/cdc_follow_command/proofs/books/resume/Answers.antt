use Rattle.std.proofs.Common.{◌≡◌, ℕ, List, true, inr, refl, subst}
use Rattle.cdc_bindings.specs.Bindings.{is_of}
use Rattle.cdc_follow_command.proofs.books.resume.Goals as goal

pub returns-then-branch-clause-resumed : goal.returns-then-branch-clause-resumed
returns-then-branch-clause-resumed c =
    let same = c.in_ok-is_same-in-Some.ensures.0 c.if-branch.true in
    inr (
      c.in-Some.log,
      rw c.in-Some.is at c.in_ok-log.ensures.exact,
      same.0,
      subst (λ (saved : List ℕ). is_of c.args.binding.now saved ≡ true) c.as_slice.ensures.value same.1,
      refl,
    )

use Rattle.std.proofs.Common.{◌≡◌, ◌∙◌, ap, false, inr, refl, sym}
use Rattle.std.proofs.lemmas.Bool.{false≢true}
use Rattle.cdc_bindings.specs.Bindings.{is_of}
use Rattle.cdc_checked_command.proofs.resuming.resume.Goals as goal

pub returns-in_default-clause-refused : goal.returns-in_default-clause-refused
returns-in_default-clause-refused c = inr (
  refl,
  λ saved base records torn state means can stands replays log.
      rw c.in_default.is at (c.in_ok-saved.ensures.all saved base records torn state can log stands replays),
)

pub returns-then-branch-clause-resumed : goal.returns-then-branch-clause-resumed
returns-then-branch-clause-resumed c = (
  c.in-Some.saved,
  rw c.in-Some.is at c.in_ok-saved.ensures.exact,
  rw c.as_slice.ensures.value at (sym c.in_ok-is_of.ensures ∙ c.if-branch.true),
  refl,
)

pub returns-then-branch-clause-all : goal.returns-then-branch-clause-all
returns-then-branch-clause-all c = λ saved base records torn state means can log stands replays.
    (rw c.in-Some.is at (c.in_ok-saved.ensures.all saved base records torn state can log stands replays)).1

pub returns-else-branch-clause-refused : goal.returns-else-branch-clause-refused
returns-else-branch-clause-refused c = inr (
  refl,
  λ saved base records torn state means can stands replays log.
      let all = rw c.in-Some.is at (c.in_ok-saved.ensures.all saved base records torn state can log stands replays) in
      let other : is_of c.args.binding.now saved ≡ false =
      ap (is_of c.args.binding.now) (sym all.0)
      ∙ (rw c.as_slice.ensures.value at (sym c.in_ok-is_of.ensures ∙ c.if-branch.false)) in
      false≢true (sym other ∙ means),
)

-- An actor after a step of its work: either the work keeps its invariant, or the fault is kept.
use Rattle.std.proofs.Common.{◌≡◌, Option, Some, None, Result, Ok, Err, sym, ◌∙◌, subst}
use Rattle.std.specs.Prelude.{IfErr, IfOk, IfSome}
use Rattle.cdc_actor_work.specs.declared.faults.RunFault.{RunFault}

pub come_so : {T W : Type 0} (Keeps : W → Type 0) (Fails : W → RunFault → Type 0) (outcome : Result T RunFault)
    (before after : W) (fault : Option RunFault) → after ≡ before
    → IfOk outcome (λ _. Keeps before) → IfErr outcome (Fails before)
    → IfErr outcome (λ met. fault ≡ Some met) → IfOk outcome (λ _. fault ≡ None)
    → (fault ≡ None → Keeps after) × IfSome fault (Fails after)
come_so {T} {W} Keeps Fails (Ok value) before after fault same kept failed met well =
    (λ none. subst Keeps (sym same) kept, subst (λ (f : Option RunFault). IfSome f (Fails after)) (sym well) tt)
come_so {T} {W} Keeps Fails (Err error) before after fault same kept failed met well = (
  λ none. let no : Some error ≡ None = sym met ∙ none in cc,
  subst (λ (f : Option RunFault). IfSome f (Fails after)) (sym met)
      (subst (λ (w : W). Fails w error) (sym same) failed),
)

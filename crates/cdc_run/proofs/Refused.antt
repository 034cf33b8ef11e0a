-- When actors are refused that were to be put together.
use Rattle.cdc_run.proofs.Words.{Err, IfErr, IsErrAnd, IsRefused, Ok, Result, RunFault, inl, inr, subst, sym, ◌≡◌}

-- refused actors are also refused if more is required of them
pub asked_more : (A B : Type 0) (fault : RunFault) → (B → A) → IsRefused A fault → IsRefused B fault
asked_more A B fault part (inl none) = inl none
asked_more A B fault part (inr unfit) = inr (unfit.0, λ fit. unfit.1 (part fit))

-- and so is a result that passes that fault on
pub passed_on : {A : Type 0} (AreFit : Type 0) (result : Result A RunFault) (fault : RunFault)
    → IsErrAnd result (λ e. e ≡ fault) → IsRefused AreFit fault → IfErr result (IsRefused AreFit)
passed_on AreFit (Ok value) fault same refused = tt
passed_on AreFit (Err e) fault same refused = subst (λ (f : RunFault). IsRefused AreFit f) (sym same) refused

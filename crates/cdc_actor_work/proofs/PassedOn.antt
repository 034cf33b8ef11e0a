-- A fault that is handed on.
use Rattle.std.proofs.Common.{◌≡◌, sym, subst}
use Rattle.std.specs.Prelude.{IfErr, IsErrAnd, Result, Ok, Err}
use Rattle.cdc_actor_work.specs.declared.faults.RunFault.{RunFault}

-- what holds of the fault holds of what hands it on
pub passed_on : {A : Type 0} (P : RunFault → Type 0) (result : Result A RunFault) (fault : RunFault)
    → IsErrAnd result (λ e. e ≡ fault) → P fault → IfErr result P
passed_on P (Ok value) fault same holds = tt
passed_on P (Err e) fault same holds = subst P (sym same) holds

-- Why runs fail, as the program reports it.
use Rattle.cdc_run_command.proofs.Words.{Bool, Ending, Failed, IsWriteFault, List, None, Option, PrintsFailure, ProgramFault, Risks, RunFailed, Some, ap, inl, inr, refl, subst, sym, ℕ, ◌∙◌, ◌≡◌, ◌⊎◌}
use Rattle.cdc_actors.specs.declared.met.Met.{Met}
use Rattle.cdc_actor_work.specs.declared.places.Place.{Place}
use Rattle.cdc_run.specs.Meeting.{IsRunFailure}
use Rattle.cdc_run.specs.declared.failures.Failure.{Failure}
use Rattle.cdc_run.specs.declared.failures.Failure.TheVariants as failure
use Rattle.cdc_run_command.specs.Failed.{MayFail, StoppedSo, failed_of}

-- whatever a run answers
may_fail : {S : Type 0} (honest : Bool) (risks : Risks) (system n m : ℕ) (why : Failure S)
    → IsRunFailure system honest risks n m why → MayFail honest risks (failed_of why)
may_fail honest risks system n m failure.OutOfMemory failed = tt
may_fail honest risks system n m (failure.Stopped at met outcomes) failed = (refl, failed.kind)

pub may_fail_so : {S : Type 0} (honest : Bool) (risks : Risks) (system n m : ℕ) (why : Failure S) (answer : RunFailed)
    → IsRunFailure system honest risks n m why → answer ≡ failed_of why → MayFail honest risks answer
may_fail_so honest risks system n m why answer failed same =
    subst (λ (f : RunFailed). MayFail honest risks f) (sym same) (may_fail honest risks system n m why failed)

-- the fault that is printed is the one that an actor met, if one stopped
by_stop : (honest : Bool) (risks : Risks) (stop : Option (Place × Met)) (fault : ProgramFault) (ending : Ending)
    → MayFail honest risks (record { fault = fault; stop = stop })
    → IsWriteFault ending ⊎ (ending ≡ Failed fault) → StoppedSo honest risks stop ending
by_stop honest risks None fault ending may how = tt
by_stop honest risks (Some s) fault ending may (inl unwritten) = (may.1, inl unwritten)
by_stop honest risks (Some s) fault ending may (inr ended) = (may.1, inr (ended ∙ ap Failed may.0))

pub stopped_so : (honest : Bool) (risks : Risks) (PrintsFault : List ℕ → Ending → List ℕ → Type 0)
    (old new : Option (List ℕ)) (failed : RunFailed) (ending : Ending)
    → PrintsFailure PrintsFault old new failed.fault ending → MayFail honest risks failed
    → StoppedSo honest risks failed.stop ending
stopped_so honest risks PrintsFault old new failed ending (line, (stated, inl unwritten)) may =
    by_stop honest risks failed.stop failed.fault ending may (inl unwritten)
stopped_so honest risks PrintsFault old new failed ending (line, (stated, inr printed)) may =
    by_stop honest risks failed.stop failed.fault ending may (inr printed.0)

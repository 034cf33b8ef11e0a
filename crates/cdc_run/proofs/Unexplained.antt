-- The result of a run, of whose failure only the fault is kept.
use Rattle.cdc_run.proofs.Words.{Err, Failure, IfOk, Ok, Result, RunFault, subst, sym, ◌≡◌}
use Rattle.cdc_run.specs.Failures.{unexplained}

module _ {R S : Type 0} (P : R → Type 0) where
  -- what is known of a report stays known
  pub report_kept : (explained : Result R (Failure S)) (result : Result R RunFault)
      → result ≡ unexplained explained → IfOk explained P → IfOk result P
  report_kept (Ok report) result same holds = subst (λ r. IfOk r P) (sym same) holds
  report_kept (Err failure) result same holds = subst (λ r. IfOk r P) (sym same) holds

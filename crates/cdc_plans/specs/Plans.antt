-- How a script may be run on threads.
use Rattle.std.specs.Prelude.{◌≤◌, ℕ, All}
use Rattle.cdc_types.specs.declared.bounds.TheConstants.Limits.{PREFETCH}
use Rattle.cdc_plans.specs.declared.faults.Faults.{Faults}
use Rattle.cdc_types.specs.Windows.{IsWindow}
use Rattle.cdc_plans.specs.declared.run_plans.RunPlan.{RunPlan}

-- a queue may have so many deliveries without an acknowledgement
pub record IsPrefetch (prefetch : ℕ) : Type 0 where
  pub least : 1 ≤ prefetch
  pub greatest : prefetch ≤ PREFETCH

-- all counts of a run's faults are from 1 up
pub record AreCounts (faults : Faults) : Type 0 where
  pub confirms : All (λ n. 1 ≤ n) faults.lose_confirm.items
  pub publishes : All (λ n. 1 ≤ n) faults.lose_publish.items
  pub restarts : All (λ n. 1 ≤ n) faults.restart_after.items
  pub repeats : All (λ p. (1 ≤ p.0) × (1 ≤ p.1)) faults.repeat.items
  pub closes : All (λ p. (1 ≤ p.0) × (1 ≤ p.1)) faults.close.items

-- the numbers of a run's plan are within their limits
pub record IsPlan (plan : RunPlan) : Type 0 where
  pub window : IsWindow plan.window
  pub prefetch : IsPrefetch plan.prefetch
  pub counts : AreCounts plan.faults

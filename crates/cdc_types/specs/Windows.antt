-- For how many events a session waits at a time.
use Rattle.std.specs.Prelude.{◌≤◌, ℕ}
use Rattle.cdc_types.specs.declared.bounds.TheConstants.Limits.{WINDOW}

-- a session may wait for so many events at a time
pub record IsWindow (window : ℕ) : Type 0 where
  pub least : 1 ≤ window
  pub greatest : window ≤ WINDOW

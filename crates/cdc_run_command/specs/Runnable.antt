-- Scripts of which a run can be made.
use Rattle.std.specs.Prelude.{◌≡◌, ℕ, ◌≤◌, Some, length, slice_get}
use Rattle.cdc_script.specs.declared.scripts.ClientBatch.{ClientBatch}
use Rattle.cdc_script.specs.declared.scripts.Script.{Script}
use Rattle.cdc_types.specs.declared.bounds.TheConstants.Limits.{CLIENTS, SUBSCRIBERS}

-- there may be a client of this number
pub record IsClient (client : ℕ) : Type 0 where
  pub least : 1 ≤ client
  pub greatest : client ≤ CLIENTS

-- it has a subscriber, and no more of them than there may be, and each batch is that of a client that there may be
pub record IsRunnable (script : Script) : Type 0 where
  pub some : 1 ≤ length script.bindings
  pub few : length script.bindings ≤ SUBSCRIBERS
  pub clients : (k : ℕ) (b : ClientBatch) → slice_get script.batches k ≡ Some b → IsClient b.client

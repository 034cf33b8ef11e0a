-- What a run prints if one client submits all batches.
use Rattle.std.specs.Prelude.{◌≡◌, ◌<◌, ℕ, List, [], All, None}
use Rattle.cdc_laws.specs.Connectors.{held_start, held_timestamp}
use Rattle.cdc_script.specs.declared.scripts.Script.{Script}
use Rattle.cdc_commands.specs.Printed.{printed_books}
use Rattle.cdc_run_command.specs.Runs.{PrintsReport, RunsTo, Setting, owners_of}

-- one client, whatever its number, submits each batch of a script; the script may have no batch
pub record HasOneClient (script : Script) : Type 0 where
  pub client : ℕ
  pub first : 0 < client
  pub all : All (λ owner. owner ≡ client) (owners_of script.batches)

-- no subscriber is asked to close, no session is given a start, and the store holds nothing, or the timestamp 0 and the
-- start 0
pub record IsPlain (setting : Setting) : Type 0 where
  pub closes : setting.plan.faults.close.items ≡ []
  pub start : setting.plan.start ≡ None
  pub held : held_timestamp setting.held ≡ 0
  pub held_from : held_start setting.held ≡ 0

-- ---- laws

-- whatever a run of such a script may print then is what `books` prints of it
abbrev pub LoneRunsPrintBooks : Type 0
LoneRunsPrintBooks = (setting : Setting) (script : Script) (printed : List ℕ) → HasOneClient script → IsPlain setting
    → RunsTo PrintsReport setting script printed → printed ≡ printed_books script

-- A script while its lines are read.
use Rattle.std.specs.Prelude.{◌≡◌, ℕ, List, [], ◌∷◌, ◌++◌, length, Option, Some, None, Result}
use Rattle.cdc_types.specs.declared.batches.Batch.TheVariants as batch
use Rattle.cdc_match.specs.Arguments.{Arguments}
use Rattle.cdc_script.specs.declared.drafts.Draft.{Draft}
use Rattle.cdc_script.specs.declared.drafts.OpenBatch.{OpenBatch}
use Rattle.cdc_script.specs.declared.drafts.OpenBatch.TheVariants as joined
use Rattle.cdc_script.specs.declared.faults.ScriptFault.{ScriptFault}
use Rattle.cdc_script.specs.declared.fields.ItemKind.{ItemKind}
use Rattle.cdc_script.specs.declared.fields.ItemKind.TheVariants as item
use Rattle.cdc_script.specs.declared.scripts.ClientBatch.{ClientBatch}
use Rattle.cdc_script.specs.declared.scripts.Script.{Script}
use Rattle.cdc_script.specs.declared.scripts.ScriptLines.{ScriptLines}
use Rattle.cdc_script.specs.declared.statements.Context.{Context}
use Rattle.cdc_script.specs.declared.statements.Statement.{Statement}
use Rattle.cdc_script.specs.Scripts.{Numbered, begins_batch, is_request, leading_accounts, leading_transfers, batches_of, bindings_of, lines_where, script_with, statements, statements_from}
use Rattle.cdc_script.specs.Statements.{after}
use Rattle.cdc_script.specs.Faults.{◌>>=◌}
use Rattle.cdc_script.specs.Words.{Placed}

-- the items that may join a batch
abbrev pub open_kind : OpenBatch → Option ItemKind
open_kind joined.Closed = None
open_kind (joined.Accounts now items) = Some item.Account
open_kind (joined.Transfers now items) = Some item.Transfer

-- what a draft leaves for the next line
abbrev pub context_of : Draft → Context
context_of draft = record {
  open_batch = open_kind draft.open_batch;
  subscribers = length draft.bindings.items;
  batch_line = draft.batch_line;
  ended_by = draft.ended_by;
}

-- a batch that items may join, with those of the statements that follow it
abbrev pub completed_batch : ℕ → OpenBatch → List Statement → List ClientBatch
completed_batch client joined.Closed rest = []
completed_batch client (joined.Accounts now items) rest =
    record { client = client; batch = batch.Accounts now (items.items ++ leading_accounts rest) } ∷ []
completed_batch client (joined.Transfers now items) rest =
    record { client = client; batch = batch.Transfers now (items.items ++ leading_transfers rest) } ∷ []

-- the batches of a draft, with those of the statements that follow it
abbrev pub completed : Draft → List Statement → List ClientBatch
completed draft rest =
    draft.batches.items ++ (completed_batch draft.client draft.open_batch rest ++ batches_of draft.client rest)

-- the bindings of a draft, with those of the statements that follow it
abbrev pub completed_bindings : Draft → List Statement → List Arguments
completed_bindings draft rest = draft.bindings.items ++ bindings_of rest

-- the lines of a draft, with those of the statements that follow it
abbrev pub completed_lines : Draft → List Numbered → ScriptLines
completed_lines draft rest = record {
  batches = draft.batch_lines.items ++ lines_where begins_batch rest;
  requests = draft.request_lines.items ++ lines_where is_request rest;
}

-- the new draft is the old one with the statement of one more line
pub record Takes (old new : Draft) (stated : Numbered) : Type 0 where
  pub context : context_of new ≡ after stated.line (context_of old) stated.states
  pub batches : (rest : List Statement) → completed new rest ≡ completed old (stated.states ∷ rest)
  pub bindings : (rest : List Statement) → completed_bindings new rest ≡ completed_bindings old (stated.states ∷ rest)
  pub lines : (rest : List Numbered) → completed_lines new rest ≡ completed_lines old (stated ∷ rest)

-- the script of a draft that is followed by these statements
abbrev pub script_from : Draft → List Numbered → Result Script ScriptFault
script_from draft rest = script_with (completed_bindings draft (statements rest)) (completed draft (statements rest))
    (completed_lines draft rest)

-- what further lines make of a draft, the first of them having this number
abbrev pub continued : Draft → ℕ → List Placed → Result Script ScriptFault
continued draft n rest = statements_from n (context_of draft) rest >>= script_from draft

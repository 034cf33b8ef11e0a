-- The contents of a script: a fold over its lines, up to the first fault.
use Rattle.std.specs.Prelude.{◌≡◌, ℕ, ◌+◌, ◌≤◌, Bool, false, true, codes, filter, map, nat_lt, List, [], ◌∷◌, length, Option, Some, None, Result, Ok, Err, if◌then◌else◌}
use Rattle.std.specs.List.{cons_option}
use Rattle.std.specs.Option.{option_map}
use Rattle.std.specs.Str.{bytes_eq}
use Rattle.cdc_types.specs.declared.accounts.NewAccount.{NewAccount}
use Rattle.cdc_types.specs.declared.transfers.NewTransfer.{NewTransfer}
use Rattle.cdc_types.specs.declared.batches.Batch.TheVariants as batch
use Rattle.cdc_types.specs.declared.bounds.TheConstants.Limits.{SCRIPT_BYTES}
use Rattle.cdc_match.specs.Arguments.{Arguments}
use Rattle.cdc_script.specs.declared.faults.FaultKind.TheVariants.{NoSubscriber, TooLong}
use Rattle.cdc_script.specs.declared.faults.LineFault.{LineFault}
use Rattle.cdc_script.specs.declared.faults.ScriptFault.{ScriptFault}
use Rattle.cdc_script.specs.declared.scripts.ClientBatch.{ClientBatch}
use Rattle.cdc_script.specs.declared.scripts.Script.{Script}
use Rattle.cdc_script.specs.declared.scripts.ScriptLines.{ScriptLines}
use Rattle.cdc_script.specs.declared.statements.Context.{Context}
use Rattle.cdc_script.specs.declared.statements.Statement.{Statement}
use Rattle.cdc_script.specs.declared.statements.Statement.TheVariants as states
use Rattle.cdc_script.specs.Statements.{line_states, after}
use Rattle.cdc_script.specs.Faults.{◌>>=◌, in_line, whole_fault}
use Rattle.cdc_script.specs.Words.{Placed, lines, spoken}

-- the bytes of a script or a step file, at most
abbrev pub max_bytes : ℕ
max_bytes = SCRIPT_BYTES

-- the context of the first line
abbrev pub at_top : Context
at_top = record { open_batch = None; subscribers = 0; batch_line = 0; ended_by = None }

-- the statement of a line, and the number of the line
pub record Numbered : Type 0 where
  pub line : ℕ
  pub states : Statement

-- the statement of the line of this number, if it has one
abbrev pub numbered : ℕ → Option Statement → Option Numbered
numbered n stated = option_map (λ statement. record { line = n; states = statement }) stated

-- what the line of this number leaves for those below it
abbrev pub after_line : ℕ → Context → Option Statement → Context
after_line n context None = context
after_line n context (Some stated) = after n context stated

-- the statements of lines, the first of which has this number; a line without a statement is counted
abbrev pub statements_from : ℕ → Context → List Placed → Result (List Numbered) ScriptFault
statements_from n context [] = Ok []
statements_from n context (line ∷ rest) = do
  stated ← in_line n line (line_states context line)
  more ← statements_from (n + 1) (after_line n context stated) rest
  Ok (cons_option (numbered n stated) more)

-- the first word of a line makes it a subscriber line
abbrev pub BeginsSubscriber : List Placed → Type 0
BeginsSubscriber [] = ⊥
BeginsSubscriber (first ∷ rest) = bytes_eq first.bytes (codes "subscriber") ≡ true

-- the line has a statement; if it has none, `later` holds; if it has a fault, it is a subscriber line, whose binding
-- is kept while it is read
abbrev pub StatesOr : List Placed → Result (Option Statement) LineFault → Type 0 → Type 0
StatesOr words (Ok None) later = later
StatesOr words (Ok (Some stated)) later = Unit {0}
StatesOr words (Err fault) later = BeginsSubscriber words

-- some line up to the first fault has a statement, or the line of that fault is a subscriber line: there may be
-- something to keep. A line `client N` counts too
abbrev pub StateSomething : Context → List Placed → Type 0
StateSomething context [] = ⊥
StateSomething context (line ∷ rest) = StatesOr (spoken line) (line_states context line) (StateSomething context rest)

-- the accounts that join a batch: those that follow it at once
abbrev pub leading_accounts : List Statement → List NewAccount
leading_accounts [] = []
leading_accounts (states.Account a ∷ rest) = a ∷ leading_accounts rest
leading_accounts (_ ∷ rest) = []

-- the transfers that join a batch: those that follow it at once
abbrev pub leading_transfers : List Statement → List NewTransfer
leading_transfers [] = []
leading_transfers (states.Transfer t ∷ rest) = t ∷ leading_transfers rest
leading_transfers (_ ∷ rest) = []

-- the batches that statements make, the first of them this client's
abbrev pub batches_of : ℕ → List Statement → List ClientBatch
batches_of client [] = []
batches_of client (states.Subscriber binding ∷ rest) = batches_of client rest
batches_of client (states.Client n ∷ rest) = batches_of n rest
batches_of client (states.Accounts now ∷ rest) =
    record { client = client; batch = batch.Accounts now (leading_accounts rest) } ∷ batches_of client rest
batches_of client (states.Transfers now ∷ rest) =
    record { client = client; batch = batch.Transfers now (leading_transfers rest) } ∷ batches_of client rest
batches_of client (states.Account a ∷ rest) = batches_of client rest
batches_of client (states.Transfer t ∷ rest) = batches_of client rest
batches_of client (states.Pulse now ∷ rest) =
    record { client = client; batch = batch.Pulse now } ∷ batches_of client rest

-- the bindings of the subscribers that statements make
abbrev pub bindings_of : List Statement → List Arguments
bindings_of [] = []
bindings_of (states.Subscriber binding ∷ rest) = binding ∷ bindings_of rest
bindings_of (_ ∷ rest) = bindings_of rest

-- the statement begins a batch
abbrev pub begins_batch : Statement → Bool
begins_batch (states.Accounts now) = true
begins_batch (states.Transfers now) = true
begins_batch (states.Pulse now) = true
begins_batch _ = false

-- the statement is a request: an item of a batch
abbrev pub is_request : Statement → Bool
is_request (states.Account a) = true
is_request (states.Transfer t) = true
is_request _ = false

-- the lines of the statements that pass a test
abbrev pub lines_where : (Statement → Bool) → List Numbered → List ℕ
lines_where test stated = map (λ s. s.line) (filter (λ s. test s.states) stated)

-- the line of each batch and of each request, in order
abbrev pub lines_of : List Numbered → ScriptLines
lines_of stated = record { batches = lines_where begins_batch stated; requests = lines_where is_request stated }

-- the statements without the numbers of their lines
abbrev pub statements : List Numbered → List Statement
statements stated = map (λ s. s.states) stated

-- the script of these bindings, batches and lines, if there is a binding
abbrev pub script_with : List Arguments → List ClientBatch → ScriptLines → Result Script ScriptFault
script_with [] batches at = Err (whole_fault NoSubscriber)
script_with (binding ∷ rest) batches at = Ok (record { bindings = binding ∷ rest; batches = batches; lines = at })

-- the script that statements make, if one of them is a subscriber line; client 1 comes first
abbrev pub script_stated : List Numbered → Result Script ScriptFault
script_stated stated =
    script_with (bindings_of (statements stated)) (batches_of 1 (statements stated)) (lines_of stated)

-- the script that lines write, or their first fault
abbrev pub script_of_lines : List Placed → Result Script ScriptFault
script_of_lines text_lines = statements_from 1 at_top text_lines >>= script_stated

-- the script that a text writes, or its first fault
abbrev pub script_of : List ℕ → Result Script ScriptFault
script_of text =
    if nat_lt max_bytes (length text) then Err (whole_fault TooLong)
    else script_of_lines (lines text)

-- a script has something to keep
abbrev pub KeepsScript : List ℕ → Type 0
KeepsScript text = (length text ≤ max_bytes) × StateSomething at_top (lines text)

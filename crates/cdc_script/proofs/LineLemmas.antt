-- Lines, taken in one after another.
use Rattle.std.proofs.Common.{◌≡◌, ℕ, ◌+◌, List, ◌∷◌, Some, Result, Ok, Err, refl}
use Rattle.cdc_script.specs.declared.drafts.Draft.{Draft}
use Rattle.cdc_script.specs.declared.faults.LineFault.{LineFault}
use Rattle.cdc_script.specs.declared.faults.ScriptFault.{ScriptFault}
use Rattle.cdc_script.specs.declared.scripts.Script.{Script}
use Rattle.cdc_script.specs.declared.statements.Context.{Context}
use Rattle.cdc_script.specs.declared.statements.Statement.{Statement}
use Rattle.cdc_script.specs.Faults.{◌>>=◌, fault_in}
use Rattle.cdc_script.specs.Private.Drafts.{Takes, completed, completed_bindings, completed_lines, context_of, continued, script_from}
use Rattle.cdc_script.specs.Scripts.{Numbered, StateSomething, at_top, batches_of, bindings_of, lines_of, script_of_lines, script_stated, statements, statements_from}
use Rattle.cdc_script.specs.Statements.{line_states}
use Rattle.cdc_script.specs.Words.{Placed}

-- a line that is at fault
pub line_refused : (n : ℕ) (context : Context) (line : Placed) (rest : List Placed) (f : List Numbered
    → Result Script ScriptFault) (fault : LineFault)
    → line_states context line ≡ Err fault
    → (statements_from n context (line ∷ rest) >>= f) ≡ Err (fault_in n line fault)
line_refused n context line rest f fault states = rw states refl

-- a draft of no line makes of statements what they make
begun : (draft : Draft) (read : Result (List Numbered) ScriptFault)
    → ((rest : List Statement) → completed draft rest ≡ batches_of 1 rest)
    → ((rest : List Statement) → completed_bindings draft rest ≡ bindings_of rest)
    → ((rest : List Numbered) → completed_lines draft rest ≡ lines_of rest)
    → (read >>= script_from draft) ≡ (read >>= script_stated)
begun draft (Ok stated) batches bindings lines =
    rw (batches (statements stated), bindings (statements stated), lines stated) refl
begun draft (Err fault) batches bindings lines = refl

-- so it makes of lines what they write
pub lines_begun : (draft : Draft) (rest : List Placed) → context_of draft ≡ at_top
    → ((more : List Statement) → completed draft more ≡ batches_of 1 more)
    → ((more : List Statement) → completed_bindings draft more ≡ bindings_of more)
    → ((more : List Numbered) → completed_lines draft more ≡ lines_of more)
    → continued draft 1 rest ≡ script_of_lines rest
lines_begun draft rest context batches bindings lines =
    rw context (begun draft (statements_from 1 at_top rest) batches bindings lines)

-- a draft that takes a statement makes of others what the old one makes of all
taken : (old new : Draft) (stated : Numbered) (read : Result (List Numbered) ScriptFault) → Takes old new stated
    → (read >>= script_from new) ≡ ((read >>= λ more. Ok (stated ∷ more)) >>= script_from old)
taken old new stated (Ok more) takes =
    rw (takes.batches (statements more), takes.bindings (statements more), takes.lines more) refl
taken old new stated (Err fault) takes = refl

-- so it makes of further lines what the old one makes of all
pub line_taken : (n : ℕ) (line : Placed) (rest : List Placed) (old new : Draft) (stated : Statement)
    → line_states (context_of old) line ≡ Ok (Some stated) → Takes old new (record { line = n; states = stated })
    → continued new (n + 1) rest ≡ continued old n (line ∷ rest)
line_taken n line rest old new stated states takes =
    rw (states, takes.context) (taken old new (record { line = n; states = stated }) _ takes)

-- a line with a statement
pub states_some : (context : Context) (line : Placed) (rest : List Placed) (stated : Statement)
    → line_states context line ≡ Ok (Some stated) → StateSomething context (line ∷ rest)
states_some context line rest stated states = rw states tt

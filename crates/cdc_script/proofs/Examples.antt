-- The grammar at work: the contents of small scripts, or their first fault, next to the rules in prose.
use Rattle.std.specs.Prelude.{ℕ, ◌≡◌, ◌+◌, List, Result, Ok, Err, [], ◌∷◌, ◌++◌, codes}
use Rattle.std.proofs.Common.{refl}
use Rattle.cdc_types.specs.declared.accounts.NewAccount.{NewAccount}
use Rattle.cdc_types.specs.declared.batches.Batch.TheVariants as batch
use Rattle.cdc_types.specs.declared.events.EventKind.TheVariants.{SinglePhase}
use Rattle.cdc_types.specs.declared.steps.Step.TheVariants as step
use Rattle.cdc_match.specs.declared.pairs.Mode.TheVariants as mode
use Rattle.cdc_match.specs.declared.pairs.Pair.TheVariants as pair
use Rattle.cdc_match.specs.declared.errors.BindError.{BindError}
use Rattle.cdc_match.specs.declared.errors.BindError.TheVariants as bind
use Rattle.cdc_script.specs.declared.faults.BatchEnd.TheVariants as end
use Rattle.cdc_script.specs.declared.faults.Detail.{Detail}
use Rattle.cdc_script.specs.declared.faults.Detail.TheVariants as detail
use Rattle.cdc_script.specs.declared.faults.FaultKind.{FaultKind}
use Rattle.cdc_script.specs.declared.faults.FaultKind.TheVariants as kind
use Rattle.cdc_script.specs.declared.faults.ScriptFault.{ScriptFault}
use Rattle.cdc_script.specs.declared.faults.Span.{Span}
use Rattle.cdc_script.specs.declared.scripts.Script.{Script}
use Rattle.cdc_script.specs.declared.step_files.Act.{Act}
use Rattle.cdc_script.specs.declared.step_files.Act.TheVariants as act
use Rattle.cdc_script.specs.Scripts.{script_of}
use Rattle.cdc_script.specs.StepFiles.{act_lines, acts_of}
use Rattle.cdc_script.specs.Faults.{whole_fault}

-- an account of ledger 700
abbrev account : ℕ → ℕ → NewAccount
account id code =
    record { id = id; user_data_128 = 0; user_data_64 = 0; user_data_32 = 0; ledger = 700; code = code; flags = 0 }

-- so many bytes from this place on
abbrev bytes : ℕ → ℕ → Span
bytes start length = record { start = start; length = length }

-- the fault of a word: its line, its column, the word and the first word of the line
abbrev fault_of : ℕ → ℕ → Span → Span → FaultKind → Detail → ScriptFault
fault_of line column word first kind detail = record {
  line = line;
  column = column;
  word = word;
  first = first;
  kind = kind;
  detail = detail;
}

-- the fault of a script
abbrev fault : ℕ → ℕ → Span → Span → FaultKind → Result Script ScriptFault
fault line column word first kind = Err (fault_of line column word first kind detail.Plain)

-- a script with a comment, a blank line and a carriage return: two batches, the second one of client 2 and empty
reads_batches : script_of
    (codes "# a comment\nsubscriber all\r\naccounts 1000\naccount id=1 ledger=700\n\n"
    ++ codes "account code=10 ledger=700 id=002\nclient 2\ntransfers 2000\n")
    ≡ Ok (record {
      bindings = record { mode = mode.All; pairs = [] } ∷ [];
      batches =
          record { client = 1; batch = batch.Accounts 1000 (account 1 0 ∷ account 2 10 ∷ []) }
          ∷ record { client = 2; batch = batch.Transfers 2000 [] } ∷ [];
      lines = record { batches = 3 ∷ 8 ∷ []; requests = 4 ∷ 6 ∷ [] };
    })
reads_batches = refl

-- a timestamp that isn't a number; of two faults the one further left; of several faults of a word the lowest
refuses_words : (script_of (codes "subscriber all\naccounts x\n") ≡ fault 2 10 (bytes 24 1) (bytes 15 8) kind.BadNumber)
    × (script_of (codes "subscriber all\nclient 9 9\n") ≡ fault 2 8 (bytes 22 1) (bytes 15 6) kind.BadClient)
    × (script_of (codes "subscriber all\naccounts 5\naccount id=1 id=x\n")
    ≡ fault 3 14 (bytes 39 4) (bytes 26 7) kind.BadNumber)
    × (script_of (codes "subscriber all\naccounts 5\naccount id=1  id=23\n")
    ≡ Err (fault_of 3 15 (bytes 40 5) (bytes 26 7) kind.KeyTwice (detail.GivenBy (bytes 34 4))))
refuses_words = (refl, refl, refl, refl)

-- a missing word is located right after the last word, whatever spaces follow; one word too many
refuses_counts : (script_of (codes "subscriber all\r\n  pulse  \n")
    ≡ fault 2 8 (bytes 23 0) (bytes 18 5) kind.WrongCount)
    × (script_of (codes "subscriber all\npulse 5 6\n") ≡ fault 2 9 (bytes 23 1) (bytes 15 5) kind.WrongCount)
refuses_counts = (refl, refl)

-- the first byte that isn't printable: a tab within a word, and a carriage return that no line feed follows
refuses_letters : (script_of (codes "subscriber all\npulse\t5\n") ≡ fault 2 6 (bytes 20 1) (bytes 15 7) kind.BadText)
    × (script_of (codes "subscriber all\npulse 5\r") ≡ fault 2 8 (bytes 22 1) (bytes 15 5) kind.BadText)
refuses_letters = (refl, refl)

-- an item without a batch, in a batch of the other kind, and after the end of its own batch
refuses_items : (script_of (codes "account x\n") ≡ fault 1 1 (bytes 0 7) (bytes 0 7) kind.NoOpenBatch)
    × (script_of (codes "transfers 5\naccount x\n")
    ≡ Err (fault_of 2 1 (bytes 12 7) (bytes 12 7) kind.NoOpenBatch (detail.BatchBegan 1)))
    × (script_of (codes "accounts 5\nclient 2\nclient 3\naccount x\n")
    ≡ Err (fault_of 4 1 (bytes 29 7) (bytes 29 7) kind.NoOpenBatch (detail.BatchEnded 2 end.Client)))
refuses_items = (refl, refl, refl)

-- a ninth subscriber whatever its binding, and a script without one
refuses_lines : (script_of
    (codes "subscriber all\nsubscriber all\nsubscriber all\nsubscriber all\n"
    ++ codes "subscriber all\nsubscriber all\nsubscriber all\nsubscriber all\nsubscriber x\n")
    ≡ fault 9 1 (bytes 120 10) (bytes 120 10) kind.TooManySubscribers)
    × (script_of [] ≡ Err (whole_fault kind.NoSubscriber))
refuses_lines = (refl, refl)

-- subscribers with bindings of their own, in the order of their lines
reads_bindings : script_of (codes "subscriber any ledger=700 event_type=single_phase\nsubscriber all\n")
    ≡ Ok (record {
      bindings = record { mode = mode.Any; pairs = pair.Ledger 700 ∷ pair.EventType SinglePhase ∷ [] }
          ∷ record { mode = mode.All; pairs = [] } ∷ [];
      batches = [];
      lines = record { batches = []; requests = [] };
    })
reads_bindings = refl

-- the fault of words that are no binding, in the first line
abbrev no_binding : ℕ → ℕ → BindError → Result Script ScriptFault
no_binding start length why =
    Err (fault_of 1 (start + 1) (bytes start length) (bytes 0 10) kind.BadBinding (detail.NoBinding why))

-- a binding without a mode, or with another key; a byte that isn't printable, right of such a fault, left of it, at it
refuses_bindings : (script_of (codes "subscriber\n") ≡ no_binding 10 0 bind.BadMode)
    × (script_of (codes "subscriber all id=1\n") ≡ no_binding 15 4 bind.UnknownKey)
    × (script_of (codes "subscriber any ledger=7 ledger=x id=1\n") ≡ no_binding 24 8 bind.BadValue)
    × (script_of (codes "subscriber none \t\n") ≡ no_binding 11 4 bind.BadMode)
    × (script_of (codes "subscriber all \t id=1\n") ≡ fault 1 16 (bytes 15 1) (bytes 0 10) kind.BadText)
    × (script_of (codes "subscriber all id=\t\n") ≡ fault 1 19 (bytes 18 1) (bytes 0 10) kind.BadText)
refuses_bindings = (refl, refl, refl, refl, refl, refl)

-- the fault of a step file's first line, which begins with a start
abbrev step_fault : ℕ → ℕ → FaultKind → Result (List Act) ScriptFault
step_fault start length kind = Err (fault_of 1 (start + 1) (bytes start length) (bytes 0 5) kind detail.Plain)

-- a start alone, and one after a timestamp, the greatest that an event can have too, with the lines of these steps
reads_starts : (acts_of (codes "start\nstart at 02000\n\nstart at 9223372036854775807\n")
    ≡ Ok (act.Step step.Start ∷ act.Step (step.StartAt 2000) ∷ act.Step (step.StartAt 9223372036854775807) ∷ []))
    × (act_lines (codes "start\nstart at 02000\n\nstart at 9223372036854775807\n") ≡ 1 ∷ 2 ∷ 4 ∷ [])
reads_starts = (refl, refl)

-- a start with another word, without its timestamp, with one that no event can have, whatever follows, and with two
refuses_starts : (acts_of (codes "start x\n") ≡ step_fault 6 1 kind.WrongCount)
    × (acts_of (codes "start at\n") ≡ step_fault 8 0 kind.WrongCount)
    × (acts_of (codes "start at 9223372036854775808 x\n") ≡ step_fault 9 19 kind.NumberOutOfRange)
    × (acts_of (codes "start at 1 2\n") ≡ step_fault 11 1 kind.WrongCount)
refuses_starts = (refl, refl, refl, refl)

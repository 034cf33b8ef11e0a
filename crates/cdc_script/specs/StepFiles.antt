-- The contents of a step file: a fold over its lines, up to the first fault.
use Rattle.std.specs.Prelude.{ℕ, ◌+◌, ◌≤◌, Bool, false, true, nat_lt, List, [], ◌∷◌, length, Option, Some, None, Result, Ok, Err, codes, unwrap_or, if◌then◌else◌}
use Rattle.std.specs.List.{cons_option}
use Rattle.std.specs.Str.{bytes_eq}
use Rattle.cdc_types.specs.declared.bounds.TheConstants.Limits.{TIMESTAMP}
use Rattle.cdc_types.specs.declared.steps.Step.{Step}
use Rattle.cdc_types.specs.declared.steps.Step.TheVariants as step
use Rattle.cdc_types.specs.Lines.{first_line}
use Rattle.cdc_script.specs.declared.faults.FaultKind.TheVariants.{UnknownWord, WrongCount, TooLong}
use Rattle.cdc_script.specs.declared.faults.LineFault.{LineFault}
use Rattle.cdc_script.specs.declared.faults.ScriptFault.{ScriptFault}
use Rattle.cdc_script.specs.declared.step_files.Act.{Act}
use Rattle.cdc_script.specs.declared.step_files.Act.TheVariants as act
use Rattle.cdc_script.specs.Scripts.{max_bytes}
use Rattle.cdc_script.specs.Numbers.{number_of}
use Rattle.cdc_script.specs.Statements.{ended, lone_number, number_word}
use Rattle.cdc_script.specs.Faults.{◌>>=◌, checked, in_line, in_word, missing, whole_fault, wrong}
use Rattle.cdc_script.specs.Words.{Placed, lines, spoken}

-- a step that no number follows
abbrev pub lone_step : Step → List Placed → Result Act LineFault
lone_step stated rest = ended WrongCount (act.Step stated) rest

-- a step that one number follows
abbrev pub numbered_step : (ℕ → Step) → List Placed → Result Act LineFault
numbered_step stated rest = lone_number rest >>= λ number. Ok (act.Step (stated number))

-- a timestamp up to the greatest, and nothing after it
abbrev pub timestamp_stated : List Placed → Result Act LineFault
timestamp_stated [] = Err (missing WrongCount)
timestamp_stated (word ∷ rest) =
    checked word (in_word word (number_of TIMESTAMP word.bytes)
    >>= λ timestamp. ended WrongCount (act.Step (step.StartAt timestamp)) rest)

-- a start of a session: alone, or after `at` and a timestamp
abbrev pub start_stated : List Placed → Result Act LineFault
start_stated [] = Ok (act.Step step.Start)
start_stated (word ∷ rest) =
    checked word (if bytes_eq word.bytes (codes "at") then timestamp_stated rest else Err (wrong WrongCount word))

-- an acknowledgement, which the numbers of a subscriber and of the acknowledgement follow
abbrev pub ack_stated : List Placed → Result Act LineFault
ack_stated rest = do
  subscriber ← number_word rest
  number ← lone_number subscriber.1
  Ok (act.Step (step.Ack subscriber.0 number))

-- the first word decides what the words after it mean
abbrev pub act_stated : Placed → List Placed → Result Act LineFault
act_stated first rest = checked first (unwrap_or (first_line (
    (bytes_eq first.bytes (codes "batch"), ended WrongCount act.Batch rest) ∷
    (bytes_eq first.bytes (codes "close_ledger"), lone_step step.CloseLedger rest) ∷
    (bytes_eq first.bytes (codes "start"), start_stated rest) ∷
    (bytes_eq first.bytes (codes "crash"), lone_step step.Crash rest) ∷
    (bytes_eq first.bytes (codes "poll"), lone_step step.Poll rest) ∷
    (bytes_eq first.bytes (codes "publish"), lone_step step.Publish rest) ∷
    (bytes_eq first.bytes (codes "save"), lone_step step.Save rest) ∷
    (bytes_eq first.bytes (codes "arrive"), numbered_step step.Arrive rest) ∷
    (bytes_eq first.bytes (codes "answer"), numbered_step step.Answer rest) ∷
    (bytes_eq first.bytes (codes "send"), numbered_step step.Send rest) ∷
    (bytes_eq first.bytes (codes "rewind"), numbered_step step.Rewind rest) ∷
    (bytes_eq first.bytes (codes "break"), numbered_step step.Break rest) ∷
    (bytes_eq first.bytes (codes "take"), numbered_step step.Take rest) ∷
    (bytes_eq first.bytes (codes "close"), numbered_step step.Close rest) ∷
    (bytes_eq first.bytes (codes "ack"), ack_stated rest) ∷
    [])) (Err (wrong UnknownWord first)))

-- the act that the words name, or nothing if there are none
abbrev pub words_name : List Placed → Result (Option Act) LineFault
words_name [] = Ok None
words_name (first ∷ rest) = act_stated first rest >>= λ stated. Ok (Some stated)

-- the act that a line names, or nothing if it is blank or a comment
abbrev pub line_names : Placed → Result (Option Act) LineFault
line_names line = words_name (spoken line)

-- what lines name, the first of them having this number; a line that names nothing counts
abbrev pub acts_from : ℕ → List Placed → Result (List Act) ScriptFault
acts_from n [] = Ok []
acts_from n (line ∷ rest) = do
  named ← in_line n line (line_names line)
  more ← acts_from (n + 1) rest
  Ok (cons_option named more)

-- something is named, or else it is by what comes later; after a fault nothing is
abbrev pub NamesOr : Result (Option Act) LineFault → Type 0 → Type 0
NamesOr (Ok None) later = later
NamesOr (Ok (Some stated)) later = Unit {0}
NamesOr (Err fault) later = ⊥

-- some line names an act before the first fault, so that there is something to keep
abbrev pub NameAnAct : List Placed → Type 0
NameAnAct [] = ⊥
NameAnAct (line ∷ rest) = NamesOr (line_names line) (NameAnAct rest)

-- the acts of a step file, or its first fault
abbrev pub acts_of : List ℕ → Result (List Act) ScriptFault
acts_of text =
    if nat_lt max_bytes (length text) then Err (whole_fault TooLong)
    else acts_from 1 (lines text)

-- an act is named
abbrev pub is_act : Result (Option Act) LineFault → Bool
is_act (Ok (Some stated)) = true
is_act _ = false

-- the numbers of the lines that name an act, the first line having this one
abbrev pub act_lines_from : ℕ → List Placed → List ℕ
act_lines_from n [] = []
act_lines_from n (line ∷ rest) =
    if is_act (line_names line) then n ∷ act_lines_from (n + 1) rest else act_lines_from (n + 1) rest

-- the lines of the acts of a step file
abbrev pub act_lines : List ℕ → List ℕ
act_lines text = act_lines_from 1 (lines text)

-- a step file has something to keep
abbrev pub KeepsActs : List ℕ → Type 0
KeepsActs text = (length text ≤ max_bytes) × NameAnAct (lines text)

-- What an observer has recorded of the steps that it has seen.
use Rattle.std.specs.Prelude.{◌≡◌, ℕ, ◌^◌, ◌<◌, Bool, List, [], ◌∷◌, if◌then◌else◌, length}
use Rattle.cdc_commands.specs.Seen.{Seen}
use Rattle.cdc_diagnostics.specs.declared.recordings.Recording.{Recording}
use Rattle.cdc_diagnostics.specs.Diagrams.{diagram_text}
use Rattle.cdc_diagnostics.specs.Texts.{Holds}
use Rattle.cdc_diagnostics.specs.Traces.{taken_with, trace_text}

-- how many batches the ledger has taken after these steps, if it took n before
abbrev pub taken_after : ℕ → List Seen → ℕ
taken_after n [] = n
taken_after n (seen ∷ rest) = taken_after (taken_with n seen.step) rest

-- a text, if it is asked for
abbrev pub if_asked : Bool → List ℕ → List ℕ
if_asked asked text = if asked then text else []

-- the trace and the diagram of these steps are recorded, as far as they are asked for and memory didn't run out
pub record Records (recording : Recording) (seen : List Seen) : Type 0 where
  pub batches : recording.batches ≡ taken_after 0 seen
  pub trace : Holds recording.trace (if_asked recording.asked.trace (trace_text seen))
  pub diagram : Holds recording.diagram.text (if_asked recording.asked.diagram
      (diagram_text recording.subscribers seen))

-- these steps were seen; that is claimed of fewer than 2^64 steps
abbrev pub HasSeen : Recording → List Seen → Type 0
HasSeen recording seen = length seen < 2 ^ 64 → Records recording seen

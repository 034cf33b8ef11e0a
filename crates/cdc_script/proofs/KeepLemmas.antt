-- The scripts of which something has to be kept.
use Rattle.std.proofs.Common.{List, [], ◌∷◌, Some, Ok, Err}
use Rattle.std.specs.Prelude.{Result}
use Rattle.cdc_script.specs.declared.faults.LineFault.{LineFault}
use Rattle.cdc_script.specs.declared.statements.Context.{Context}
use Rattle.cdc_script.specs.declared.statements.Statement.{Statement}
use Rattle.cdc_script.specs.Faults.{◌>>=◌}
use Rattle.cdc_script.specs.Scripts.{BeginsSubscriber, StatesOr, StateSomething}
use Rattle.cdc_script.specs.Statements.{meaning, words_state}
use Rattle.cdc_script.specs.Words.{Placed, spoken}

-- whatever the words of a subscriber line mean
meant : (words : List Placed) (read : Result Statement LineFault) (later : Type 0) → BeginsSubscriber words
    → StatesOr words (read >>= λ stated. Ok (Some stated)) later
meant words (Ok stated) later begins = tt
meant words (Err fault) later begins = begins

-- they are words
words-subscriber : (context : Context) (words : List Placed) (later : Type 0) → BeginsSubscriber words
    → StatesOr words (words_state context words) later
words-subscriber context [] later begins = absurd begins
words-subscriber context (first ∷ rest) later begins = meant (first ∷ rest) (meaning context first rest) later begins

-- so that a subscriber line has something to keep, whatever comes later
pub StateSomething-subscriber : (context : Context) (line : Placed) (rest : List Placed)
    → BeginsSubscriber (spoken line) → StateSomething context (line ∷ rest)
StateSomething-subscriber context line rest begins =
    words-subscriber context (spoken line) (StateSomething context rest) begins

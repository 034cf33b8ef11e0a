-- The number and the name of each fault of a script, its place, and reading on up to the first one.
use Rattle.std.specs.Prelude.{ℕ, ◌+◌, ◌-◌, List, [], ◌∷◌, length, Some, None, Result, Ok, Err, codes, unwrap_or, if◌then◌else◌}
use Rattle.cdc_script.specs.declared.faults.Detail.TheVariants.{Plain}
use Rattle.cdc_script.specs.declared.faults.FaultKind.{FaultKind}
use Rattle.cdc_script.specs.declared.faults.FaultKind.TheVariants as kind
use Rattle.cdc_script.specs.declared.faults.LineFault.{LineFault}
use Rattle.cdc_script.specs.declared.faults.ScriptFault.{ScriptFault}
use Rattle.cdc_script.specs.declared.faults.Span.{Span}
use Rattle.cdc_script.specs.Letters.{bad_letter}
use Rattle.cdc_script.specs.Words.{Placed, is_printable, spoken, words}

-- the place of the fault in its table
abbrev pub kind_number : FaultKind → ℕ
kind_number kind.BadText = 1
kind_number kind.UnknownWord = 2
kind_number kind.WrongCount = 3
kind_number kind.BadNumber = 4
kind_number kind.NumberOutOfRange = 5
kind_number kind.UnknownKey = 6
kind_number kind.KeyTwice = 7
kind_number kind.NoOpenBatch = 8
kind_number kind.BadBinding = 9
kind_number kind.TooManySubscribers = 10
kind_number kind.BadClient = 11
kind_number kind.NoSubscriber = 12
kind_number kind.TooLong = 13

-- the name of the fault as it is printed
abbrev pub kind_name : FaultKind → List ℕ
kind_name kind.BadText = codes "bad_text"
kind_name kind.UnknownWord = codes "unknown_word"
kind_name kind.WrongCount = codes "wrong_count"
kind_name kind.BadNumber = codes "bad_number"
kind_name kind.NumberOutOfRange = codes "number_out_of_range"
kind_name kind.UnknownKey = codes "unknown_key"
kind_name kind.KeyTwice = codes "key_twice"
kind_name kind.NoOpenBatch = codes "no_open_batch"
kind_name kind.BadBinding = codes "bad_binding"
kind_name kind.TooManySubscribers = codes "too_many_subscribers"
kind_name kind.BadClient = codes "bad_client"
kind_name kind.NoSubscriber = codes "no_subscriber"
kind_name kind.TooLong = codes "too_long"

infixl 10 ◌>>=◌
-- what comes next gets what was read, unless there was a fault
abbrev pub ◌>>=◌ : {A B E : Type 0} → Result A E → (A → Result B E) → Result B E
(Ok x) >>= next = next x
(Err e) >>= next = Err e

-- the location of a word
abbrev pub span_of : Placed → Span
span_of word = record { start = word.start; length = length word.bytes }

-- this is wrong with the word
abbrev pub wrong : FaultKind → Placed → LineFault
wrong kind word = record { word = Some (span_of word); kind = kind; detail = Plain }

-- a word is missing at the end of the line
abbrev pub missing : FaultKind → LineFault
missing kind = record { word = None; kind = kind; detail = Plain }

-- a letter of the word isn't printable, the first of which is at fault
abbrev pub bad_text : Placed → LineFault
bad_text word = record { word = Some (bad_letter word); kind = kind.BadText; detail = Plain }

-- before anything else is asked of a word, its bytes are looked at
abbrev pub checked : {A : Type 0} → Placed → Result A LineFault → Result A LineFault
checked word meaning = if is_printable word.bytes then meaning else Err (bad_text word)

-- a fault of a word's value is located at the word
abbrev pub in_word : {A : Type 0} → Placed → Result A FaultKind → Result A LineFault
in_word word (Ok x) = Ok x
in_word word (Err kind) = Err (wrong kind word)

-- the offset right after the last of these words, or the given one if there is none
abbrev pub end_of : ℕ → List Placed → ℕ
end_of start [] = start
end_of start (word ∷ rest) = end_of (word.start + length word.bytes) rest

-- the location of a word that is missing from a line: right after the line's last word
abbrev pub missing_span : Placed → Span
missing_span line = record { start = end_of line.start (words line); length = 0 }

-- the location of the first of these words
abbrev pub first_span : List Placed → Span
first_span [] = record { start = 0; length = 0 }
first_span (word ∷ rest) = span_of word

-- the fault of the line of this number: with the column of the word, from 1
abbrev pub fault_in : ℕ → Placed → LineFault → ScriptFault
fault_in n line fault =
    let word = unwrap_or fault.word (missing_span line) in
    record {
      line = n;
      column = word.start - line.start + 1;
      word = word;
      first = first_span (spoken line);
      kind = fault.kind;
      detail = fault.detail;
    }

-- a fault of the text as a whole
abbrev pub whole_fault : FaultKind → ScriptFault
whole_fault kind = record {
  line = 0;
  column = 0;
  word = record { start = 0; length = 0 };
  first = record { start = 0; length = 0 };
  kind = kind;
  detail = Plain;
}

-- what is read of the line of this number, or the fault of the script
abbrev pub in_line : {A : Type 0} → ℕ → Placed → Result A LineFault → Result A ScriptFault
in_line n line (Ok x) = Ok x
in_line n line (Err fault) = Err (fault_in n line fault)

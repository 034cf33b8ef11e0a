-- The word in error in a file.
use Rattle.std.specs.Prelude.{◌≡◌, ℕ, List, drop, take, Option, Some, None, Result, Err}
use Rattle.cdc_script.specs.declared.faults.ScriptFault.{ScriptFault}
use Rattle.cdc_script.specs.declared.faults.Span.{Span}

-- the bytes at a location in a file; fewer if the file ends before
abbrev pub bytes_at : List ℕ → Span → List ℕ
bytes_at file span = take span.length (drop span.start file)

-- this is printed for the word at this location in a file, whose bytes are known or not, if that is printed for words
abbrev pub PrintsAtWord : (List ℕ → List ℕ → Type 0) → Option (List ℕ) → Span → List ℕ → Type 0
PrintsAtWord Prints (Some bytes) span printed = Prints (bytes_at bytes span) printed
PrintsAtWord Prints None span printed = (word : List ℕ) × Prints word printed

-- a text is parsed as these bytes are, up to the word in error
abbrev pub IsParsedAs : {A : Type 0} → (List ℕ → Result A ScriptFault) → List ℕ → List ℕ → Type 0
IsParsedAs parse text bytes = (parse text ≡ parse bytes)
    × ((at : ScriptFault) → parse text ≡ Err at → bytes_at text at.word ≡ bytes_at bytes at.word)

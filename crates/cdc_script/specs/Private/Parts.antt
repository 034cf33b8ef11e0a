-- The parts of a text that the code goes over, as definitions see them.
use Rattle.std.specs.Prelude.{List}
use Rattle.cdc_script.specs.declared.parts.Part.{Part}
use Rattle.cdc_script.specs.Words.{Placed, lines_from, spoken, words}

-- the part, with its bytes
abbrev pub seen : Part → Placed
seen part = record { start = part.start; bytes = part.bytes.now }

-- its words
abbrev pub words_of : Part → List Placed
words_of part = words (seen part)

-- its words, unless it is a comment
abbrev pub spoken_of : Part → List Placed
spoken_of part = spoken (seen part)

-- its lines
abbrev pub lines_of : Part → List Placed
lines_of part = lines_from part.start part.bytes.now

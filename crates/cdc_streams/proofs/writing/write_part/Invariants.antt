use Rattle.std.proofs.Common.{◌≡◌, ◌++◌, ℕ, List}
use Rattle.std.specs.Io.KnownBytes.{Appends}
use Rattle.cdc_streams.proofs.writing.write_part.Given as goal

-- a first part of the text was written, and the rest is left
abbrev pub invariant-loop : goal.invariant-loop
invariant-loop g l = record {
  part : (done : List ℕ) × (l.fn.text ≡ done ++ l.rest)
      × Appends (g.W.Write.contents l.fn.writer) (g.W.Write.contents l.writer) done;
}

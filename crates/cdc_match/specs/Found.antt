-- The result of a step of the reader, compared with what the definition reads. Only private contracts cite it.
use Rattle.std.specs.Prelude.{◌≡◌, ◌⊎◌, List, Result, Ok, Err, MatchResult}
use Rattle.std.specs.declared.alloc.Global.{Global}
use Rattle.std.specs.declared.vec.Vec.{Vec}
use Rattle.cdc_match.specs.declared.errors.BindError.{BindError}
use Rattle.cdc_match.specs.declared.errors.BindError.TheVariants.{OutOfMemory}
use Rattle.cdc_match.specs.declared.pairs.Pair.{Pair}
use Rattle.cdc_match.specs.Parsing.{Read}

-- the answer is the pairs that were read, or their fault, or memory ran out
abbrev pub FindsPairsUnlessMemory : Result (Vec Pair Global) BindError → Read (List Pair) → Type 0
FindsPairsUnlessMemory answer expected =
    MatchResult answer (λ pairs. expected ≡ Ok pairs.items) (λ error. (expected ≡ Err error) ⊎ (error ≡ OutOfMemory))

-- What a binding asks of the headers (AMQP 0-9-1, the headers exchange: the arguments of a binding).
use Rattle.std.specs.Prelude.{List}
use Rattle.cdc_match.specs.declared.pairs.Mode.{Mode}
use Rattle.cdc_match.specs.declared.pairs.Pair.{Pair}

-- a mode and pairs of a header's name and a value, in their order
pub record Arguments : Type 0 where
  pub mode : Mode
  pub pairs : List Pair

-- The greatest numbers of the fields' widths.
use Rattle.std.specs.Prelude.{ℕ}

-- of 16 bits
abbrev pub max_16 : ℕ
max_16 = 65535

-- of 32 bits
abbrev pub max_32 : ℕ
max_32 = 4294967295

-- of 64 bits
abbrev pub max_64 : ℕ
max_64 = 18446744073709551615

-- of 128 bits
abbrev pub max_128 : ℕ
max_128 = 340282366920938463463374607431768211455

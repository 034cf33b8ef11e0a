-- Bytes that a reader loses, piece by piece.
use Rattle.std.proofs.Common.{ℕ, ◌+◌, ◌≤◌, List, ◌++◌, length, Option, Some, None, arith, length-append, append_assoc, refl}
use Rattle.std.specs.Io.KnownBytes.{Consumes}
use Rattle.cdc_script.specs.Reading.{ConsumesAtMost, ConsumesSome}

-- two pieces, one after the other, are one
pub consumes_more : (a b c : Option (List ℕ)) (xs ys : List ℕ) → Consumes a b xs → Consumes b c ys
    → Consumes a c (xs ++ ys)
consumes_more None b c xs ys h k = tt
consumes_more (Some as') None c xs ys h k = absurd h
consumes_more (Some as') (Some bs) None xs ys h k = absurd k
consumes_more (Some as') (Some bs) (Some cs) xs ys h k = rw (h, k, append_assoc) refl

-- two pieces are at most as long as both may be together
pub consumes_at_most : (most : ℕ) (a b c : Option (List ℕ)) (xs ys : List ℕ) → Consumes a b xs → Consumes b c ys
    → length xs + length ys ≤ most → ConsumesAtMost most a c
consumes_at_most most a b c xs ys h k bound =
    (xs ++ ys, omega (arith, length-append xs ys), consumes_more a b c xs ys h k)

-- two pieces, of which the second isn't empty, aren't empty together
pub consumes_some : (a b c : Option (List ℕ)) (xs : List ℕ) → Consumes a b xs → ConsumesSome b c → ConsumesSome a c
consumes_some a b c xs h (ys, some, k) =
    (xs ++ ys, omega (arith, length-append xs ys), consumes_more a b c xs ys h k)

-- Sets of triples: what contracts see of the index.
use Rattle.std.specs.Prelude.{◌≡◌, ◌≢◌, ℕ, ◌<◌, ◌≤◌, Bool, true, false, not, ◌&&◌, ◌||◌, ◌==◌, nat_le, nat_lt, List, [], ◌∷◌, length, Option, MatchOption, refl}
use Rattle.std.specs.Coded.{Coded, code_by, coded×, coded_ℕ}
use Rattle.std.specs.FinSet as set
use Rattle.std.specs.List.{All, AllPairs, HoldsAt}
use Rattle.std.specs.declared.cmp.Ordering.{Ordering}
use Rattle.std.specs.Ordering.{is_le, nat_cmp, ordering_then}
use Rattle.cdc_expiry.specs.declared.triple.Triple.{Triple}

-- the order of triples: by expiry time, then by timestamp, then by slot
abbrev pub triple_cmp : Triple → Triple → Ordering
triple_cmp x y =
    ordering_then (nat_cmp x.expires_at y.expires_at)
    (ordering_then (nat_cmp x.timestamp y.timestamp) (nat_cmp x.slot y.slot))

-- a set of triples
abbrev pub Triples : Type 0
Triples = set.FinSet triple_cmp

-- the triples of an index, and for how many more there is room
pub record Index : Type 0 where
  pub triples : Triples
  pub room : ℕ

-- the triple is due at the timestamp now: it expires at or before now
abbrev pub is_due : ℕ → Triple → Bool
is_due now x = nat_le x.expires_at now

-- the triples that are due at the timestamp now
abbrev pub due_at : Triples → ℕ → Triples
due_at s now = set.retain s (is_due now)

-- the answer is the least triple of the set, or None if the set is empty
abbrev pub IsLeast : Triples → Option Triple → Type 0
IsLeast s answer = MatchOption answer (s ≡ set.empty) (λ x. (set.contains s x ≡ true)
    × ((y : Triple) → set.contains s y ≡ true → is_le (triple_cmp x y) ≡ true))

-- no triple of the set has this timestamp
abbrev pub IsNewTimestamp : Triples → ℕ → Type 0
IsNewTimestamp s t = (x : Triple) → set.contains s x ≡ true → x.timestamp ≢ t

-- the triple has this expiry time and this timestamp
abbrev pub has_numbers : ℕ → ℕ → Triple → Bool
has_numbers e t x = (x.expires_at == e) && (x.timestamp == t)

-- some triple of the set has this expiry time and this timestamp
abbrev pub HasNumbers : Triples → ℕ → ℕ → Type 0
HasNumbers s e t = (x : Triple) × (set.contains s x ≡ true) × (has_numbers e t x ≡ true)

-- the set without the triple that has this expiry time and this timestamp
abbrev pub without : Triples → ℕ → ℕ → Triples
without s e t = set.retain s (λ x. not (has_numbers e t x))

-- triples of the set with the same timestamp are the same
abbrev pub TimestampsAreUnique : Triples → Type 0
TimestampsAreUnique s =
    (x y : Triple) → set.contains s x ≡ true → set.contains s y ≡ true → x.timestamp ≡ y.timestamp → x ≡ y

-- What the index keeps inside, of which no clause of a public call speaks.

-- no two triples of the list have the same timestamp
abbrev pub TimestampsDiffer : List Triple → Type 0
TimestampsDiffer [] = Unit {0}
TimestampsDiffer (x ∷ xs) = All (λ y. y.timestamp ≢ x.timestamp) xs × TimestampsDiffer xs

-- the triple comes before this expiry time and this timestamp
abbrev pub is_before : ℕ → ℕ → Triple → Bool
is_before e t x = nat_lt x.expires_at e || ((x.expires_at == e) && nat_lt x.timestamp t)

-- each triple comes before all triples after it
abbrev pub InOrder : List Triple → Type 0
InOrder xs = AllPairs (λ x y. is_before y.expires_at y.timestamp x ≡ true) xs

-- the answer is the index of a triple with this expiry time and this timestamp, or None if the list has none
abbrev pub IsFound : List Triple → ℕ → ℕ → Option ℕ → Type 0
IsFound xs e t answer = MatchOption answer (All (λ x. has_numbers e t x ≡ false) xs)
    (λ i. (i < length xs) × HoldsAt (λ x. has_numbers e t x ≡ true) xs i)

-- the list is in order, its timestamps differ, and there is the room that was made for so many triples
pub record IsKept (xs : List Triple) (made capacity : ℕ) : Type 0 where
  pub in_order : InOrder xs
  pub apart : TimestampsDiffer xs
  pub fits : length xs ≤ made
  pub backed : made ≤ capacity

-- a triple is stored as its three numbers
abbrev pub triple_code : Coded Triple
triple_code =
    code_by (ℕ × (ℕ × ℕ)) (coded× coded_ℕ (coded× coded_ℕ coded_ℕ))
    (λ x. (x.expires_at, (x.timestamp, x.slot)))
    (λ p. record { expires_at = p.0; timestamp = p.1.0; slot = p.1.1 })
    (λ _. refl)

-- an index is stored as its set and its room
abbrev pub index_code : Coded Index
index_code =
    code_by (Triples × ℕ) (coded× (set.code triple_code) coded_ℕ)
    (λ i. (i.triples, i.room)) (λ p. record { triples = p.0; room = p.1 }) (λ _. refl)

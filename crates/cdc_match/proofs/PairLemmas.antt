-- Reading the pairs of a binding word by word.
use Rattle.std.proofs.Common.{◌≡◌, ℕ, suc, ◌+◌, ◌<◌, ◌≤◌, List, [], ◌∷◌, ◌++◌, length, get_or, take, drop, Option, Some, None, Ok, Err, refl, ap, ◌∙◌, arith}
use Rattle.std.specs.Option.{ok_or}
use Rattle.std.proofs.Math.Seq.{split_at}
use Rattle.std.proofs.lemmas.List.{take_more, take-take, get_or-take, length-take}
use Rattle.cdc_types.specs.declared.bounds.TheConstants.Limits.{BINDING_PAIRS}
use Rattle.cdc_match.specs.declared.errors.BindError.{BindError}
use Rattle.cdc_match.specs.declared.errors.BindError.TheVariants.{UnknownKey, BadValue, OutOfMemory}
use Rattle.cdc_match.specs.declared.pairs.Pair.{Pair}
use Rattle.cdc_match.specs.Parsing.{Read, ◌>>=◌, each, pair_of, pair_with, key_named, pairs_of, BeginsWithPair}
use Rattle.cdc_match.specs.Parts.{parted}

-- what was read on the way to an answer without a fault
record Reached {A B : Type 0} (first : Read A) (then : A → Read B) (value : B) : Type 0 where
  from : A
  first_is : first ≡ Ok from
  then_is : then from ≡ Ok value

-- both steps of an answer without a fault
reached : {A B : Type 0} (first : Read A) (then : A → Read B) (value : B) → (first >>= then) ≡ Ok value
    → Reached first then value
reached (Ok from) then value h = record { from = from; first_is = refl; then_is = h }
reached (Err error) then value h = absurd (cc)

-- equal answers without a fault hold equal values
ok_inside : {A : Type 0} (a b : A) → let left : Read A = Ok a in left ≡ Ok b → a ≡ b
ok_inside a b h = cc

-- one more word without a fault
each_more : {A B : Type 0} (read : A → Read B) (words : List A) (found : List B) (word : A) (value : B)
    → each read words ≡ Ok found → read word ≡ Ok value → each read (words ++ word ∷ []) ≡ Ok (found ++ value ∷ [])
each_more read [] found word value h is = let none = ok_inside [] found h in rw is (ap (λ f. Ok (f ++ value ∷ [])) none)
each_more read (w ∷ words) found word value h is =
    let front = reached (read w) _ found h in
    let rest = reached (each read words) _ found front.then_is in
    rw (front.first_is, each_more read words rest.from word value rest.first_is is)
    (ap (λ f. Ok (f ++ value ∷ [])) (ok_inside (front.from ∷ rest.from) found rest.then_is))

-- the first fault
each_fault : {A B : Type 0} (read : A → Read B) (words : List A) (found : List B) (word : A) (error : BindError)
    (others : List A) → each read words ≡ Ok found → read word ≡ Err error
    → each read (words ++ word ∷ others) ≡ Err error
each_fault read [] found word error others h is = rw is
each_fault read (w ∷ words) found word error others h is =
    let front = reached (read w) _ found h in
    let rest = reached (each read words) _ found front.then_is in
    rw (front.first_is, each_fault read words rest.from word error others rest.first_is is)

-- ---- a loop over the words that has passed the first i of them

-- the next word is a pair
pub pairs_more : (words : List (List ℕ)) (i : ℕ) (found : List Pair) (pair : Pair) → i < length words
    → each pair_of (take i words) ≡ Ok found → pair_of (get_or words i []) ≡ Ok pair
    → each pair_of (take (i + 1) words) ≡ Ok (found ++ pair ∷ [])
pairs_more words i found pair below h is =
    rw (take_more words i [] below) (each_more pair_of (take i words) found (get_or words i []) pair h is)

-- the words up to the tenth, parted at word i
around : (words : List (List ℕ)) (i : ℕ) → i < length words → i < BINDING_PAIRS
    → take BINDING_PAIRS words ≡ take i words ++ get_or words i [] ∷ drop (suc i) (take BINDING_PAIRS words)
around words i below few =
    let within : i < length (take BINDING_PAIRS words) = rw (length-take BINDING_PAIRS words) (omega arith) in
    let le : i ≤ BINDING_PAIRS = omega arith in
    split_at (take BINDING_PAIRS words) i [] within
    ∙ rw (take-take i BINDING_PAIRS words le, get_or-take BINDING_PAIRS words i [] few) refl

-- the next word is at fault
pub pairs_fault : (words : List (List ℕ)) (i : ℕ) (found : List Pair) (error : BindError) → i < length words
    → i < BINDING_PAIRS
    → each pair_of (take i words) ≡ Ok found → pair_of (get_or words i []) ≡ Err error → pairs_of words ≡ Err error
pairs_fault words i found error below few h is =
    rw (around words i below few, each_fault pair_of (take i words) found (get_or words i []) error _ h is)

-- if pairs were found, the words begin with a pair
pub pairs_begin : (words : List (List ℕ)) (i : ℕ) (found : List Pair) → i < length words
    → each pair_of (take (i + 1) words) ≡ Ok found → BeginsWithPair words
pairs_begin [] i found below h = omega (arith, below)
pairs_begin (word ∷ words) i found below h =
    let step : i + 1 ≡ suc i = omega arith in
    let first = reached (pair_of word) _ found (rw step at h) in
    rw first.first_is refl

-- ---- reading a word takes no memory

-- the answer isn't out of memory
abbrev SparesMemory : {A : Type 0} → Read A → Type 0
SparesMemory answer = answer ≡ Err OutOfMemory → ⊥

-- a value that has to be there
spares-ok_or : {A : Type 0} (value : Option A) (error : BindError) → (error ≡ OutOfMemory → ⊥)
    → SparesMemory (ok_or value error)
spares-ok_or None error other h = other (cc)
spares-ok_or (Some value) error other h = absurd (cc)

-- one step and then another
spares-then : {A B : Type 0} (first : Read A) (then : A → Read B) → SparesMemory first
    → ((value : A) → SparesMemory (then value)) → SparesMemory (first >>= then)
spares-then (Ok value) then one two h = two value h
spares-then (Err error) then one two h = one (cc)

-- a word that names no known header is reported as such, not as out of memory
spares-key : {A : Type 0} (value : Option A) → SparesMemory (ok_or value UnknownKey)
spares-key value = spares-ok_or value UnknownKey (λ h. absurd (cc))

-- so is one whose value can't be read
spares-value : {A : Type 0} (value : Option A) → SparesMemory (ok_or value BadValue)
spares-value value = spares-ok_or value BadValue (λ h. absurd (cc))

-- a word's error is never out of memory
pub spares-pair_of : (word : List ℕ) → SparesMemory (pair_of word)
spares-pair_of word =
    spares-then (ok_or (parted 61 word) UnknownKey) _ (spares-key (parted 61 word))
    (λ parts. spares-then (ok_or (key_named parts.0) UnknownKey) _ (spares-key (key_named parts.0))
    (λ key. spares-value (pair_with key parts.1)))

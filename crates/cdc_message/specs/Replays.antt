-- Lists in which elements come late, again or not at all.
use Rattle.std.specs.Prelude.{◌≡◌, ◌≢◌, ℕ, Bool, List, [], ◌∷◌, ◌++◌, take, fold, AllPairs, Contains, if◌then◌else◌}
use Rattle.std.specs.List.{list_any}

-- each of the two lists contains what the other one contains
pub record HaveSame {X : Type 0} (xs ys : List X) : Type 0 where
  pub forth : (x : X) → Contains xs x → Contains ys x
  pub back : (x : X) → Contains ys x → Contains xs x

-- w is f with duplicates: each prefix of w has the same elements as some prefix of f, in any order and number
pub record IsReplay {X : Type 0} (w f : List X) : Type 0 where
  pub prefixes : (n : ℕ) → (m : ℕ) × HaveSame (take n w) (take m f)

-- no two elements are equal
abbrev pub HasNoneTwice : {X : Type 0} → List X → Type 0
HasNoneTwice f = AllPairs (λ a b. a ≢ b) f

-- the first elements of f
pub record IsPrefix {X : Type 0} (start f : List X) : Type 0 where
  pub rest : List X
  pub whole : start ++ rest ≡ f

-- some element is the same as x
abbrev pub has_same : {X : Type 0} → (X → X → Bool) → X → List X → Bool
has_same same x seen = list_any (λ earlier. same earlier x) seen

-- w without each element that is the same as an earlier one
abbrev pub firsts : {X : Type 0} → (X → X → Bool) → List X → List X
firsts same w = fold (λ seen x. if has_same same x seen then seen else (seen ++ x ∷ [])) [] w

-- The text of an object, followed by other bytes, is the text of its members one after another.
use Rattle.std.proofs.Common.{◌≡◌, ℕ, List, [], ◌∷◌, ◌++◌, refl, ap, ◌∙◌, append_assoc}
use Rattle.std.specs.List.{join_with_byte}
use Rattle.cdc_message.specs.Bodies.{object_text}

-- members one after another, from the first one on, and the bytes after the object
abbrev pub members_then : List ℕ → List (List ℕ) → List ℕ → List ℕ
members_then m [] rest = m ++ 125 ∷ rest
members_then m (n ∷ ms) rest = m ++ 44 ∷ members_then n ms rest

-- joined members, the closing brace, and the rest
joined-append : (m : List ℕ) (ms : List (List ℕ)) (rest : List ℕ)
    → (join_with_byte 44 (m ∷ ms) ++ 125 ∷ []) ++ rest ≡ members_then m ms rest
joined-append m [] rest = append_assoc m (125 ∷ []) rest
joined-append m (n ∷ ms) rest =
    ap (λ t. t ++ rest) (append_assoc m (44 ∷ join_with_byte 44 (n ∷ ms)) (125 ∷ []))
    ∙ append_assoc m (44 ∷ (join_with_byte 44 (n ∷ ms) ++ 125 ∷ [])) rest
    ∙ ap (λ t. m ++ 44 ∷ t) (joined-append n ms rest)

-- the same of all members of an object
abbrev pub members_all : List (List ℕ) → List ℕ → List ℕ
members_all [] rest = 125 ∷ rest
members_all (m ∷ ms) rest = members_then m ms rest

-- so that a reader may take the parts in turn
pub object_text-append : (ms : List (List ℕ)) (rest : List ℕ) → object_text ms ++ rest ≡ 123 ∷ members_all ms rest
object_text-append [] rest = refl
object_text-append (m ∷ ms) rest = ap (λ t. 123 ∷ t) (joined-append m ms rest)

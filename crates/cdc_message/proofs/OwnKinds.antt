-- The names of kinds, with which bodies end.
use Rattle.std.proofs.Common.{◌≡◌, ℕ, ◌<◌, List, [], ◌∷◌, ◌++◌, ◌∙◌, Bool, cond, true, false, Option, Some, None, find, length, codes, ap, refl, sym, arith}
use Rattle.std.specs.Prelude.{IfSome}
use Rattle.std.proofs.lemmas.List.{length-append}
use Rattle.std.proofs.lemmas.Slice.Eq.{bytes_eq-Decides}
use Rattle.std.specs.Str.{bytes_eq}
use Rattle.cdc_types.specs.declared.events.EventKind.{EventKind}
use Rattle.cdc_message.specs.Kinds.{all_kinds, kind_named, kind_text}

-- what a search finds passes its test
first_passes : {X : Type 0} (passes : X → Bool) (test : Bool) (first : X) (others : Option X) (found : X)
    → passes first ≡ test → (others ≡ Some found → passes found ≡ true)
    → cond test (Some first) others ≡ Some found → passes found ≡ true
first_passes passes true first others found is more e =
    let same : first ≡ found = cc in
    ap passes (sym same) ∙ is
first_passes passes false first others found is more e = more e

find_passes : {X : Type 0} (passes : X → Bool) (items : List X) (found : X) → find passes items ≡ Some found
    → passes found ≡ true
find_passes passes [] found e = cc
find_passes passes (item ∷ items) found e =
    first_passes passes (passes item) item (find passes items) found refl (find_passes passes items found) e

-- the kind of a name has that name
pub named : (name : List ℕ) (kind : EventKind) → kind_named name ≡ Some kind → kind_text kind ≡ name
named name kind e =
    (bytes_eq-Decides (kind_text kind) name).0 (find_passes (λ kind. bytes_eq (kind_text kind) name) all_kinds kind e)

-- so a text that ends with the rest of a body begins with the name of the kind that was found
pub name_is : (answer : Option EventKind) (name rest : List ℕ) → answer ≡ kind_named name → rest ≡ name ++ codes "\"}"
    → IfSome answer (λ kind. rest ≡ kind_text kind ++ codes "\"}")
name_is None name rest is ends = tt
name_is (Some kind) name rest is ends = ends ∙ ap (λ text. text ++ codes "\"}") (sym (named name kind (sym is)))

-- what ends a body isn't empty
pub some_kind : (kind : EventKind) (rest : List ℕ) → rest ≡ kind_text kind ++ codes "\"}" → 0 < length rest
some_kind kind rest is = rw (is, length-append (kind_text kind) (codes "\"}")) (omega arith)

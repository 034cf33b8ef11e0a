-- Facts about the items of two lists, place by place.
use Rattle.cdc_run.proofs.Words.{AllZip, List, [], subst, ◌++◌, ◌∷◌, ◌≡◌}

-- one more of each
pub zip_push : {A B : Type 0} (R : A → B → Type 0) (xs : List A) (ys : List B) (x : A) (y : B) → AllZip R xs ys → R x y
    → AllZip R (xs ++ x ∷ []) (ys ++ y ∷ [])
zip_push R [] [] x y all one = (one, tt)
zip_push R [] (b ∷ ys) x y all one = absurd all
zip_push R (a ∷ xs) [] x y all one = absurd all
zip_push R (a ∷ xs) (b ∷ ys) x y all one = (all.0, zip_push R xs ys x y all.1 one)

-- none goes with some
none_behind : {A B : Type 0} (R : A → B → Type 0) (ys : List B) (y : B) → AllZip R [] (ys ++ y ∷ []) → ⊥
none_behind R [] y all = all
none_behind R (b ∷ ys) y all = all

pub none_before : {A B : Type 0} (R : A → B → Type 0) (xs : List A) (x : A) → AllZip R (xs ++ x ∷ []) [] → ⊥
none_before R [] x all = all
none_before R (a ∷ xs) x all = all

-- one less of each
pub zip_unpush : {A B : Type 0} (R : A → B → Type 0) (xs : List A) (ys : List B) (x : A) (y : B)
    → AllZip R (xs ++ x ∷ []) (ys ++ y ∷ []) → AllZip R xs ys × R x y
zip_unpush R [] [] x y all = (tt, all.0)
zip_unpush R [] (b ∷ ys) x y all = absurd (none_behind R ys y all.1)
zip_unpush R (a ∷ xs) [] x y all = absurd (none_before R xs x all.1)
zip_unpush R (a ∷ xs) (b ∷ ys) x y all =
    let rest = zip_unpush R xs ys x y all.1 in
    ((all.0, rest.0), rest.1)

-- lists that are the same
pub same_zip : {A B : Type 0} (R : A → B → Type 0) (xs news : List A) (ys others : List B) → xs ≡ news → ys ≡ others
    → AllZip R xs ys
    → AllZip R news others
same_zip R xs news ys others one other all =
    subst (λ l. AllZip R l others) one (subst (λ l. AllZip R xs l) other all)

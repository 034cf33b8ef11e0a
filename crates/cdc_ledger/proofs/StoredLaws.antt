-- Which entry stored the transfer of an id, and that there is one at most.
use Rattle.cdc_ledger.proofs.Words.{[], ◌&&◌, ◌++◌, ◌==◌, ◌∙◌, ◌∷◌, ◌≡◌, ◌≢◌, AllByRecursion, AreApart, Bool, Entry, History, List, None, Some, ap, false, filter, if◌then◌else◌, map, option_or, refl, stored, stored_ids, stored_in, stores, subst, sym, true, ℕ}
use Rattle.std.proofs.lemmas.List.Folds.{find-append}
use Rattle.std.proofs.lemmas.Bool.{and_from, and_right, eqb-false, eq-eqb, ne_eqb, false≢true}
use Rattle.cdc_ledger.proofs.Changes.{pushed}
use Rattle.cdc_ledger.proofs.Elements.{AllByRecursion-weaker, AllByRecursion-both}
use Rattle.cdc_ledger.proofs.OpenedLaws.{AreApart_push}
pub use Rattle.cdc_ledger.proofs.Elements.{find_all, find_none}

-- the entry stored a transfer of this id
abbrev pub is_stored : ℕ → Entry → Bool
is_stored id e = stores e.kind && (e.transfer.id == id)

-- an id is looked up among the entries that were there, and then it may be the new one's
pub stored-pushed : (h : History) (e : Entry) (id : ℕ)
    → stored (pushed h e) id ≡ option_or (stored h id) (if is_stored id e then Some e else None)
stored-pushed h e id = find-append (is_stored id) h.entries (e ∷ [])

-- what was stored stays
pub stored-pushed_kept : (h : History) (e x : Entry) (id : ℕ) → stored h id ≡ Some x → stored (pushed h e) id ≡ Some x
stored-pushed_kept h e x id there =
    stored-pushed h e id ∙ ap (λ p. option_or p (if is_stored id e then Some e else None)) there

-- what the entry that is found has
pub stored_has : (P : Entry → Type 0) (h : History) (id : ℕ) (x : Entry) → AllByRecursion P h.entries
    → stored h id ≡ Some x → P x
stored_has P h id x all there = (find_all (is_stored id) P h.entries x all there).1

-- ids of stored transfers, one entry after another

-- an id unlike the stored ones is neither that of the first entry nor of those after it
other_id : (id : ℕ) (b : Bool) (e : Entry) (ns : List ℕ) → stores e.kind ≡ b
    → AllByRecursion (λ m. id ≢ m) (if b then e.transfer.id ∷ ns else ns)
    → (is_stored id e ≡ false) × AllByRecursion (λ m. id ≢ m) ns
other_id id true e ns is others =
    (and_right (stores e.kind) (e.transfer.id == id) (ne_eqb e.transfer.id id (λ same. others.0 (sym same))), others.1)
other_id id false e ns is others = (ap (λ b. b && (e.transfer.id == id)) is, others)

-- the first entry's id comes first, if it stored a transfer
ids_cons : (e : Entry) (es : List Entry) (b : Bool)
    → map (λ x. x.transfer.id) (if b then e ∷ filter (λ x. stores x.kind) es else filter (λ x. stores x.kind) es)
    ≡ (if b then e.transfer.id ∷ stored_ids es else stored_ids es)
ids_cons e es true = refl
ids_cons e es false = refl

-- so the stored ids can be read entry by entry
pub stored_ids-cons : (e : Entry) (es : List Entry)
    → stored_ids (e ∷ es) ≡ (if stores e.kind then e.transfer.id ∷ stored_ids es else stored_ids es)
stored_ids-cons e es = ids_cons e es (stores e.kind)

-- an id that isn't among the stored ones
pub none_stored : (id : ℕ) (es : List Entry) → AllByRecursion (λ m. id ≢ m) (stored_ids es)
    → AllByRecursion (λ e. is_stored id e ≡ false) es
none_stored id [] others = tt
none_stored id (e ∷ es) others =
    let both : (is_stored id e ≡ false) × AllByRecursion (λ m. id ≢ m) (stored_ids es) =
    other_id id (stores e.kind) e (stored_ids es) refl
    (subst (AllByRecursion (λ m. id ≢ m)) (stored_ids-cons e es) others) in
    (both.0, none_stored id es both.1)

-- an id that neither the first entry nor a later one stored is unlike the ids of them all
none_id : (id : ℕ) (b : Bool) (e : Entry) (ns : List ℕ) → stores e.kind ≡ b → is_stored id e ≡ false
    → AllByRecursion (λ m. m ≢ id) ns → AllByRecursion (λ m. m ≢ id) (if b then e.transfer.id ∷ ns else ns)
none_id id true e ns is other others =
    (eqb-false e.transfer.id id (sym (ap (λ b. b && (e.transfer.id == id)) is) ∙ other), others)
none_id id false e ns is other others = others

-- so an id that no entry stored is unlike all stored ids
ids_without : (id : ℕ) (es : List Entry) → AllByRecursion (λ e. is_stored id e ≡ false) es
    → AllByRecursion (λ m. m ≢ id) (stored_ids es)
ids_without id [] others = tt
ids_without id (e ∷ es) others =
    subst (AllByRecursion (λ m. m ≢ id)) (sym (stored_ids-cons e es))
    (none_id id (stores e.kind) e (stored_ids es) refl others.0 (ids_without id es others.1))

-- if ids are distinct, the first differs from the rest, and the rest are distinct
apart_parts : (b : Bool) (id : ℕ) (ns : List ℕ) → AreApart (if b then id ∷ ns else ns)
    → AreApart ns × (b ≡ true → AllByRecursion (λ m. id ≢ m) ns)
apart_parts true id ns apart = (apart.1, λ q. apart.0)
apart_parts false id ns apart = (apart, λ q. absurd (false≢true q))

-- the first entry's id, and the others
pub apart-cons : (e : Entry) (es : List Entry) → AreApart (stored_ids (e ∷ es))
    → AreApart (stored_ids es) × (stores e.kind ≡ true → AllByRecursion (λ x. is_stored e.transfer.id x ≡ false) es)
apart-cons e es apart =
    let both = apart_parts (stores e.kind) e.transfer.id (stored_ids es) (subst AreApart (stored_ids-cons e es) apart)
    in
    (both.0, λ is. none_stored e.transfer.id es (both.1 is))

-- the first entry's id comes first, however many come after it
cons_if : (b : Bool) (n : ℕ) (ns ms : List ℕ)
    → (if b then n ∷ (ns ++ ms) else (ns ++ ms)) ≡ ((if b then n ∷ ns else ns) ++ ms)
cons_if true n ns ms = refl
cons_if false n ns ms = refl

-- an entry that stores a transfer appends its id, and an expiry appends none
pub stored_ids_push : (es : List Entry) (e : Entry)
    → stored_ids (es ++ e ∷ []) ≡ stored_ids es ++ (if stores e.kind then e.transfer.id ∷ [] else [])
stored_ids_push [] e = stored_ids-cons e []
stored_ids_push (x ∷ es) e =
    stored_ids-cons x (es ++ e ∷ [])
    ∙ (ap (λ ns. if stores x.kind then x.transfer.id ∷ ns else ns) (stored_ids_push es e)
    ∙ (cons_if (stores x.kind) x.transfer.id (stored_ids es) (if stores e.kind then e.transfer.id ∷ [] else [])
    ∙ sym (ap (λ ns. ns ++ (if stores e.kind then e.transfer.id ∷ [] else [])) (stored_ids-cons x es))))

-- ids stay distinct if a new one is added, or none
apart_more : (b : Bool) (id : ℕ) (ns : List ℕ) → AreApart ns → (b ≡ true → AllByRecursion (λ m. m ≢ id) ns)
    → AreApart (ns ++ (if b then id ∷ [] else []))
apart_more true id ns apart new = AreApart_push ns id apart (new refl)
apart_more false id ns apart new = subst AreApart (sym (append_nothing ns)) apart
  where
    append_nothing : (ms : List ℕ) → ms ++ [] ≡ ms
    append_nothing [] = refl
    append_nothing (m ∷ ms) = ap (λ ks. m ∷ ks) (append_nothing ms)

-- one more entry, whose id is new if it stores a transfer
pub once-pushed : (h : History) (e : Entry) → AreApart (stored_ids h.entries)
    → (stores e.kind ≡ true → stored h e.transfer.id ≡ None) → AreApart (stored_ids (pushed h e).entries)
once-pushed h e apart fresh =
    subst AreApart (sym (stored_ids_push h.entries e))
    (apart_more (stores e.kind) e.transfer.id (stored_ids h.entries) apart
    (λ is. ids_without e.transfer.id h.entries (find_none (is_stored e.transfer.id) h.entries (fresh is))))

-- each stored transfer is the one that is found by its id
abbrev IsFound : List Entry → Entry → Type 0
IsFound es e = stores e.kind ≡ true → stored_in es e.transfer.id ≡ Some e

-- the first entry is found by its transfer's id
found_first : (x : Entry) (es : List Entry) → stores x.kind ≡ true → stored_in (x ∷ es) x.transfer.id ≡ Some x
found_first x es is = ap (λ b. if b then Some x else stored_in es x.transfer.id)
    (and_from (stores x.kind) (x.transfer.id == x.transfer.id) is (eq-eqb x.transfer.id x.transfer.id refl))

-- a search skips an entry that stored another id
other_first : (x y : Entry) (es : List Entry) → (stores x.kind ≡ true → is_stored x.transfer.id y ≡ false)
    → IsFound es y → IsFound (x ∷ es) y
other_first x y es apart found is =
    let differs : is_stored y.transfer.id x ≡ false = not_both (stores x.kind) refl in
    ap (λ b. if b then Some x else stored_in es y.transfer.id) differs ∙ found is
  where
    not_both : (b : Bool) → stores x.kind ≡ b → is_stored y.transfer.id x ≡ false
    not_both true stored_x =
        let other : (y.transfer.id == x.transfer.id) ≡ false = sym (ap (λ b. b && (y.transfer.id == x.transfer.id)) is)
        ∙ apart stored_x in
        and_right (stores x.kind) (x.transfer.id == y.transfer.id)
        (ne_eqb x.transfer.id y.transfer.id (λ same. eqb-false y.transfer.id x.transfer.id other (sym same)))
    not_both false stored_x = ap (λ b. b && (x.transfer.id == y.transfer.id)) stored_x

-- so each stored transfer is found by its id, if no two have the same id
all_found : (es : List Entry) → AreApart (stored_ids es) → AllByRecursion (IsFound es) es
all_found [] apart = tt
all_found (x ∷ es) apart =
    let both = apart-cons x es apart in
    (found_first x es, under (stores x.kind) refl both.1 es (all_found es both.0))
  where
    under : (b : Bool) → stores x.kind ≡ b
        → (stores x.kind ≡ true → AllByRecursion (λ y. is_stored x.transfer.id y ≡ false) es) → (ys : List Entry)
        → AllByRecursion (IsFound es) es → AllByRecursion (IsFound (x ∷ es)) es
    under true is others ys found =
        AllByRecursion-weaker (λ y. (is_stored x.transfer.id y ≡ false) × IsFound es y) (IsFound (x ∷ es))
        (λ y at. other_first x y es (λ q. at.0) at.1) es
        (AllByRecursion-both (λ y. is_stored x.transfer.id y ≡ false) (IsFound es) es (others is) found)
    under false is others ys found =
        AllByRecursion-weaker (IsFound es) (IsFound (x ∷ es))
        (λ y at. other_first x y es (λ q. absurd (false≢true (sym is ∙ q))) at) es found

-- in a history too, so that a pending transfer can be looked up by the id that a post or a void names
pub stored_each : (h : History) → AreApart (stored_ids h.entries)
    → AllByRecursion (λ e. stores e.kind ≡ true → stored h e.transfer.id ≡ Some e) h.entries
stored_each h apart = all_found h.entries apart

-- What INSERT OR REPLACE makes of the rows.
use Rattle.std.proofs.Common.{◌≡◌, None, Option, ℕ, suc, ◌+◌, ◌<◌, ℤ, pos, List, [], ◌∷◌, Bool, true, false, ◌==◌, ◌&&◌, ◌||◌, refl, sym, ap, ◌∙◌, inl, inr, Less, Equal, Greater, arith}
use Rattle.std.proofs.lemmas.Int.{ints}
use Rattle.std.proofs.lemmas.Bool.{cases_Bool, cases_order as order}
use Rattle.std.proofs.lemmas.Bool.Decides.{eqb_tells, nat_tests}
use Rattle.sqlite.specs.declared.types.Value.TheVariants.{Int}
use Rattle.sqlite.specs.Order.{Row, value_cmp}
use Rattle.sqlite.specs.Tree.{rowid, put_row, has_rowid, without_rowid}
use Rattle.sqlite.specs.Edit.{id_in, without_all}
use Rattle.sqlite.specs.Collation.TheVariants.{Binary}
use Rattle.sqlite.specs.Ops.{binary}
use Rattle.sqlite_value.specs.Keys.{plain, first_key}
use Rattle.sqlite_schema.specs.Rules.{equal}
use Rattle.sqlite.specs.Table.{Table}
use Rattle.sqlite_rules.specs.Keys.{AreConflicts}
use Rattle.sqlite_rules.specs.Lists.{Has}
use Rattle.sqlite_rules.specs.Calls.{ids_of as rowids_of}
use Rattle.sqlite_value.proofs.OrderLemmas.{value_cmp-Int}
use Rattle.cdc_subscriber.specs.declared.book.BookEntry.{BookEntry}
use Rattle.cdc_subscriber.specs.Book.{are_distinct, ids_of, is_among, put}
use Rattle.cdc_subscriber.proofs.BookLemmas.{eqb_same, eqb_swap, neither}
use Rattle.cdc_book_log.specs.declared.details.Details.{Details}
use Rattle.cdc_sqlite_book.specs.Tables.{entry_row, rows_from, place_in, with_details}
use Rattle.cdc_sqlite_book.proofs.PlaceLemmas.{first_apart, others_distinct}

-- ---- row numbers

lower : (m n : ℕ) → m < n → value_cmp (Int (pos m)) (Int (pos n)) ≡ Less
lower m n h = value_cmp-Int (pos m) (pos n) ∙ grind (arith, ints, nat_tests)

pub equal_to : (n : ℕ) → value_cmp (Int (pos n)) (Int (pos n)) ≡ Equal
equal_to n = value_cmp-Int (pos n) (pos n) ∙ grind (arith, ints, nat_tests)

higher : (m n : ℕ) → n < m → value_cmp (Int (pos m)) (Int (pos n)) ≡ Greater
higher m n h = value_cmp-Int (pos m) (pos n) ∙ grind (arith, ints, nat_tests)

-- ---- a row that is put at its place

-- the rows of accounts stay, if something is known of another one
rows_apart : (known : ℕ → Option Details) (id : ℕ) (details : Option Details) (n : ℕ) (book : List BookEntry)
    → is_among id (ids_of book) ≡ false → rows_from known n book ≡ rows_from (with_details id details known) n book
rows_apart known id details n [] absent = refl
rows_apart known id details n (entry ∷ rest) absent =
    let both = neither (entry.id == id) (is_among id (ids_of rest)) absent in
    rw (eqb_swap entry.id id both.0)
    (ap (λ rows. entry_row (known entry.id) n entry ∷ rows) (rows_apart known id details (suc n) rest both.1))

-- the row of an account takes the place of the one with its number, or comes last
pub put_at : (known : ℕ → Option Details) (n : ℕ) (entry : BookEntry) (details : Option Details)
    (book : List BookEntry) (new : Row) → are_distinct (ids_of book) ≡ true
    → new ≡ entry_row details (n + place_in book entry.id) entry
    → put_row new (rows_from known n book) ≡ rows_from (with_details entry.id details known) n (put entry book)
put_at known n entry details [] new distinct is =
    rw (eqb_same entry.id)
    (ap (λ (r : Row). r ∷ []) (is ∙ ap (λ at. entry_row details at entry) (omega arith)))
put_at known n entry details (other ∷ rest) new distinct is =
    elim (eqb_tells other.id entry.id) [
      | inl same ↦
          let here : new ≡ entry_row details n entry =
          is ∙ ap (λ at. entry_row details at entry) (rw same.0 (omega arith)) in
          let absent : is_among entry.id (ids_of rest) ≡ false =
          ap (λ id. is_among id (ids_of rest)) (sym same.1) ∙ first_apart other.id (ids_of rest) distinct in
          rw (here, same.0, equal_to n, eqb_same entry.id)
          (ap (λ rows. entry_row details n entry ∷ rows) (rows_apart known entry.id details (suc n) rest absent))
      | inr apart ↦
          let at = place_in rest entry.id in
          let later : new ≡ entry_row details (n + suc at) entry = is ∙ rw apart.0 refl in
          let next : new ≡ entry_row details (suc n + at) entry =
          later ∙ ap (λ m. entry_row details m entry) (omega arith) in
          let below : value_cmp (Int (pos n)) (rowid new) ≡ Less =
          ap (λ (r : Row). value_cmp (Int (pos n)) (rowid r)) later ∙ lower n (n + suc at) (omega arith) in
          let swapped : (entry.id == other.id) ≡ false = eqb_swap other.id entry.id apart.0 in
          rw (below, apart.0, swapped)
          (ap (λ rows. entry_row (known other.id) n other ∷ rows) (put_at known (suc n) entry details rest new
          (others_distinct other.id (ids_of rest) distinct) next))
    ]

module _ (known : ℕ → Option Details) where
  -- ---- a row that was taken out before

  -- later rows stay
  later_stay : (p n : ℕ) (book : List BookEntry) → p < n
      → without_rowid (pos p) (rows_from known n book) ≡ rows_from known n book
  later_stay p n [] h = refl
  later_stay p n (entry ∷ rest) h =
      rw (higher n p h)
      (ap (λ rows. entry_row (known entry.id) n entry ∷ rows) (later_stay p (suc n) rest (omega arith)))

  -- a row comes before later ones
  first_put : (p n : ℕ) (new : Row) (book : List BookEntry) → rowid new ≡ Int (pos p) → p < n
      → put_row new (rows_from known n book) ≡ new ∷ rows_from known n book
  first_put p n new [] is h = refl
  first_put p n new (entry ∷ rest) is h =
      let above : value_cmp (Int (pos n)) (rowid new) ≡ Greater = ap (value_cmp (Int (pos n))) is ∙ higher n p h in
      rw above refl

  -- where the row was taken out before, it comes to the same place
  pub put_without : (p n : ℕ) (new : Row) (book : List BookEntry) → rowid new ≡ Int (pos p)
      → put_row new (without_rowid (pos p) (rows_from known n book)) ≡ put_row new (rows_from known n book)
  put_without p n new [] is = refl
  put_without p n new (entry ∷ rest) is = elim (order n p) [
    | inr (inl below) ↦
        let less : value_cmp (Int (pos n)) (rowid new) ≡ Less = ap (value_cmp (Int (pos n))) is ∙ lower n p below in
        rw (lower n p below, less)
        (ap (λ rows. entry_row (known entry.id) n entry ∷ rows) (put_without p (suc n) new rest is))
    | inl same ↦
        let equal : value_cmp (Int (pos n)) (Int (pos p)) ≡ Equal = rw same (equal_to p) in
        let here : value_cmp (Int (pos n)) (rowid new) ≡ Equal = ap (value_cmp (Int (pos n))) is ∙ equal in
        rw (equal, here, later_stay p (suc n) rest (omega (arith, same)))
        (first_put p (suc n) new rest is (omega (arith, same)))
    | inr (inr above) ↦
        let greater : value_cmp (Int (pos n)) (rowid new) ≡ Greater =
        ap (value_cmp (Int (pos n))) is ∙ higher n p above in
        rw (higher n p above, greater, later_stay p (suc n) rest (omega arith)) refl
  ]

-- ---- the rows that conflict

-- rows without those of a number lack them still, if these are taken out again
twice : (id : ℤ) (rows : List Row) → without_rowid id (without_rowid id rows) ≡ without_rowid id rows
twice id [] = refl
twice id (r ∷ rows) = elim (cases_Bool (has_rowid id r)) [
  | inl is ↦ rw is (twice id rows)
  | inr other ↦ rw (other, other) (ap (λ rest. r ∷ rest) (twice id rows))
]

-- all these have this number
abbrev pub AllOf : ℕ → List Row → Type 0
AllOf p found = (x : Row) → Has found x → id_in (rowid x) ≡ pos p

again : (p : ℕ) (found rows : List Row) → AllOf p found
    → without_all (without_rowid (pos p) rows) (rowids_of found) ≡ without_rowid (pos p) rows
again p [] rows all = refl
again p (x ∷ more) rows all =
    ap (λ id. without_all (without_rowid id (without_rowid (pos p) rows)) (rowids_of more)) (all x (inl refl))
    ∙ ap (λ left. without_all left (rowids_of more)) (twice (pos p) rows)
    ∙ again p more rows (λ y has. all y (inr has))

-- what is left without them
pub without_found : (p : ℕ) (x : Row) (more rows : List Row) → AllOf p (x ∷ more)
    → without_all rows (rowids_of (x ∷ more)) ≡ without_rowid (pos p) rows
without_found p x more rows all =
    ap (λ id. without_all (without_rowid id rows) (rowids_of more)) (all x (inl refl))
    ∙ again p more rows (λ y has. all y (inr has))

-- row numbers that are equal in SQL are equal
same_number : (k p : ℕ) → equal Binary (Int (pos k)) (Int (pos p)) ≡ true → k ≡ p
unfolding binary
same_number k p is = elim (order k p) [
  | inl same ↦ same
  | inr (inl below) ↦ absurd (let e = rw (lower k p below) at is in cc)
  | inr (inr above) ↦ absurd (let e = rw (higher k p above) at is in cc)
]

first_collation : (first_key plain).collation ≡ Binary
unfolding first_key
first_collation = refl

-- all rows have whole numbers
abbrev pub Numbered : List Row → Type 0
Numbered rows = (r : Row) → Has rows r → (k : ℕ) × (rowid r ≡ Int (pos k))

-- rows that conflict with a new one have its number
pub conflicts_are : (p : ℕ) (table : Table) (rows : List Row) (new : Row) (found : List Row) → Numbered rows
    → rowid new ≡ Int (pos p) → AreConflicts None [] table rows new found → AllOf p found
conflicts_are p table rows new found numbered is conflicts x has =
    let it = conflicts.sound x has in
    let at = numbered it.0 it.1 in
    let agrees : (equal (first_key plain).collation (rowid it.0) (rowid new) && true) || false ≡ true = it.2 in
    let same : equal Binary (Int (pos at.0)) (Int (pos p)) ≡ true =
    sym (simple _) ∙ rw (first_collation, at.1, is) at agrees in
    ap (λ (r : Row). id_in (rowid r)) it.3 ∙ ap id_in at.1 ∙ ap pos (same_number at.0 p same)
  where
    simple : (b : Bool) → (b && true) || false ≡ b
    simple true = refl
    simple false = refl

-- the rows of accounts have whole numbers
pub entries_numbered : (known : ℕ → Option Details) (n : ℕ) (book : List BookEntry) → Numbered (rows_from known n book)
entries_numbered known n [] r has = absurd has
entries_numbered known n (entry ∷ rest) r (inl is) = (n, ap rowid is)
entries_numbered known n (entry ∷ rest) r (inr has) = entries_numbered known (suc n) rest r has

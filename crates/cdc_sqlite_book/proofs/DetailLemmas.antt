-- What is known of accounts, after what was shown of some is put into it.
use Rattle.std.proofs.Common.{◌≡◌, ◌==◌, ℕ, suc, List, [], ◌∷◌, ◌++◌, Bool, true, false, ◌||◌, Option, Some, None, cond, take, is_some, refl, sym, ap, ◌∙◌, inl, inr}
use Rattle.std.specs.Prelude.{nat_eq, option_map, slice_get}
use Rattle.indexmap.specs.IndexMap.{insert_entry}
use Rattle.std.proofs.lemmas.Bool.{cases_Bool}
use Rattle.std.proofs.lemmas.Bool.Decides.{eqb_tells}
use Rattle.sqlite.specs.Effect.{Database}
use Rattle.cdc_types.specs.declared.accounts.Balances.{Balances}
use Rattle.cdc_subscriber.specs.SubscriberState.{SubscriberState}
use Rattle.cdc_subscriber.specs.declared.book.BookEntry.{BookEntry}
use Rattle.cdc_subscriber.specs.Book.{id_and_balances, ids_of, is_among}
use Rattle.cdc_subscriber.proofs.BookLemmas.{eqb_same, eqb_swap}
use Rattle.cdc_book_log.specs.declared.details.Details.{Details}
use Rattle.cdc_book_log.specs.Details.{details_in}
use Rattle.cdc_sqlite_book.specs.Tables.{HoldsBook, newest, renewed, with_details}
use Rattle.cdc_sqlite_book.proofs.RowLemmas.{rows_same}
use Rattle.cdc_sqlite_book.proofs.StepLemmas.{took}

-- a book whose accounts are known as well
pub holds_same : (text : List ℕ) (kept : SubscriberState) (known other : ℕ → Option Details) (db : Database)
    → ((id : ℕ) → known id ≡ other id) → HoldsBook text kept known db → HoldsBook text kept other db
holds_same text kept known other db same holds = record {
  schema = holds.schema;
  book = holds.book;
  accounts = holds.accounts ∙ rows_same known other same 1 kept.book;
}

-- an account that comes last is among them
pub among_last : (before : List BookEntry) (entry : BookEntry) (id : ℕ) → (entry.id == id) ≡ true
    → is_among id (ids_of (before ++ entry ∷ [])) ≡ true
among_last [] entry id is = rw is refl
among_last (b ∷ before) entry id is = elim (cases_Bool (b.id == id)) [
  | inl first ↦ rw first refl
  | inr other ↦ rw other (among_last before entry id is)
]

-- and any other one, if it is among those before
pub among_others : (before : List BookEntry) (entry : BookEntry) (id : ℕ) → (entry.id == id) ≡ false
    → is_among id (ids_of (before ++ entry ∷ [])) ≡ is_among id (ids_of before)
among_others [] entry id is = rw is refl
among_others (b ∷ before) entry id is = ap (λ more. (b.id == id) || more) (among_others before entry id is)

-- what is known once one account more has changed
pub renew_next : (before : List BookEntry) (entry : BookEntry) (shown details : List (ℕ × Details)) (id : ℕ)
    → with_details entry.id (newest shown details entry.id) (renewed before shown details) id
    ≡ renewed (before ++ entry ∷ []) shown details id
renew_next before entry shown details id = elim (eqb_tells entry.id id) [
  | inl same ↦ rw (same.0, among_last before entry id same.0) (ap (newest shown details) same.1)
  | inr apart ↦ rw (apart.0, among_others before entry id apart.0) refl
]

-- the same of the account at a place of a book
pub renew_at : (book : List BookEntry) (place id : ℕ) (balances : Balances) (shown details : List (ℕ × Details))
    (other : ℕ)
    → option_map id_and_balances (slice_get book place) ≡ Some (id, balances)
    → with_details id (newest shown details id) (renewed (take place book) shown details) other
    ≡ renewed (take (suc place) book) shown details other
renew_at book place id balances shown details other is =
    renew_next (take place book) (record { id = id; balances = balances }) shown details other
    ∙ ap (λ before. renewed before shown details other) (sym (took book place id balances is))

-- ---- details that are held by the accounts' numbers

-- two numbers are compared either way
eq_swap : (a b : ℕ) → (a == b) ≡ (b == a)
eq_swap a b = elim (eqb_tells a b) [
  | inl same ↦ rw (same.0, same.1, eqb_same b) refl
  | inr other ↦ rw (other.0, eqb_swap a b other.0) refl
]

-- an outer choice decides alone
twice : (b : Bool) (x y z : Option Details) → cond b x z ≡ cond b x (cond b y z)
twice true x y z = refl
twice false x y z = refl

-- what is known once details are put
pub details_put : (known : List (ℕ × Details)) (id : ℕ) (details : Details) (other : ℕ)
    → details_in (insert_entry nat_eq known id details) other ≡ cond (id == other) (Some details) (details_in known other)
details_put [] id details other = rw (eq_swap other id) refl
details_put (first ∷ more) id details other = elim (eqb_tells id first.0) [
  | inl same ↦
      rw (same.0, ← same.1, eq_swap other id)
      (twice (id == other) (Some details) (Some first.1) (details_in more other))
  | inr apart ↦ elim (eqb_tells other first.0) [
    | inl here ↦
        let differs : (id == other) ≡ false = ap (λ n. id == n) here.1 ∙ apart.0 in
        rw (apart.0, here.0, differs) refl
    | inr there ↦ rw (apart.0, there.0) (details_put more id details other)
  ]
]

-- what is known once what was shown of an account is put
pub some_put : (shown known new : List (ℕ × Details)) (id : ℕ) (details : Details) → details_in shown id ≡ Some details
    → new ≡ insert_entry nat_eq known id details → (other : ℕ)
    → details_in new other ≡ cond (id == other) (newest shown known other) (details_in known other)
some_put shown known new id details is put other =
    ap (λ es. details_in es other) put ∙ details_put known id details other ∙ elim (eqb_tells id other) [
      | inl same ↦
          let there : details_in shown other ≡ Some details = ap (details_in shown) (sym same.1) ∙ is in
          rw (same.0, there) refl
      | inr apart ↦ rw apart.0 refl
    ]

-- if nothing was shown of it, nothing changes
pub none_put : (shown known : List (ℕ × Details)) (id : ℕ) → details_in shown id ≡ None → (other : ℕ)
    → details_in known other ≡ cond (id == other) (newest shown known other) (details_in known other)
none_put shown known id is other = elim (eqb_tells id other) [
  | inl same ↦
      let none : details_in shown other ≡ None = ap (details_in shown) (sym same.1) ∙ is in
      rw (same.0, none) refl
  | inr apart ↦ rw apart.0 refl
]

-- what is newest after some accounts have been renewed
newest_mid : (before : List BookEntry) (shown old mid : List (ℕ × Details)) (id : ℕ)
    → details_in mid id ≡ renewed before shown old id → newest shown mid id ≡ newest shown old id
newest_mid before shown old mid id is = elim (cases_Bool (is_some (details_in shown id))) [
  | inl some ↦ rw some refl
  | inr none ↦
      let kept : renewed before shown old id ≡ details_in old id = elim (cases_Bool (is_among id (ids_of before))) [
        | inl here ↦ rw (here, none) refl
        | inr absent ↦ rw absent refl
      ] in
      rw none (is ∙ kept)
]

-- one account more is renewed
pub renew_more : (book : List BookEntry) (place id : ℕ) (balances : Balances) (shown old mid new : List (ℕ × Details))
    → option_map id_and_balances (slice_get book place) ≡ Some (id, balances)
    → ((other : ℕ) → details_in mid other ≡ renewed (take place book) shown old other)
    → ((other : ℕ) → details_in new other ≡ cond (id == other) (newest shown mid other) (details_in mid other))
    → (other : ℕ) → details_in new other ≡ renewed (take (suc place) book) shown old other
renew_more book place id balances shown old mid new is so_far put other =
    put other
    ∙ elim (eqb_tells id other) [
      | inl same ↦
          let known : newest shown mid other ≡ newest shown old id =
          newest_mid (take place book) shown old mid other (so_far other) ∙ ap (newest shown old) (sym same.1) in
          rw same.0 known
      | inr apart ↦ rw apart.0 (so_far other)
    ]
    ∙ renew_at book place id balances shown old other is

-- what is there, or nothing
or_none : (it : Option Details) → cond (is_some it) it None ≡ it
or_none None = refl
or_none (Some details) = refl

-- what is known of the accounts of a book, once what was known before is put, and then what was shown since
pub both_put : (book : List BookEntry) (shown before first second : List (ℕ × Details))
    → ((id : ℕ) → details_in first id ≡ renewed book before [] id)
    → ((id : ℕ) → details_in second id ≡ renewed book shown first id)
    → (id : ℕ) → is_among id (ids_of book) ≡ true → details_in second id ≡ newest shown before id
both_put book shown before first second one two id here =
    let held : details_in first id ≡ details_in before id = one id ∙ rw here (or_none (details_in before id)) in
    two id
    ∙ rw here (ap (λ it. cond (is_some (details_in shown id)) (details_in shown id) it) held)

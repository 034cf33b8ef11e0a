-- What was read, one account after another.
use Rattle.std.proofs.Common.{◌≡◌, ◌==◌, ℕ, suc, ◌+◌, Bool, true, false, cond, List, [], ◌∷◌, ◌++◌, length, Option, Some, None, refl, sym, ap, subst, ◌∙◌, inl, inr, arith}
use Rattle.std.proofs.lemmas.Bool.{cases_Bool}
use Rattle.std.proofs.lemmas.Bool.Decides.{eqb_tells}
use Rattle.sqlite.specs.Order.{Row}
use Rattle.sqlite.specs.Effect.{Database}
use Rattle.sqlite.specs.State.{State, HasCleanDisk, Survives}
use Rattle.sqlite.proofs.StateLemmas.{survives_then}
use Rattle.cdc_subscriber.specs.declared.book.BookEntry.{BookEntry}
use Rattle.cdc_subscriber.specs.Book.{are_distinct, ids_of, is_among, put}
use Rattle.cdc_subscriber.proofs.BookLemmas.{eqb_same, neither}
use Rattle.cdc_book_log.specs.declared.details.Details.{Details}
use Rattle.cdc_book_log.specs.Details.{details_in}
use Rattle.cdc_book_log.proofs.ReplayLemmas.{put_distinct}
use Rattle.cdc_sqlite_book.specs.Loading.{AddsRow, AreRead, Finds, HasAccount, HasAccounts, HasEntry, IsDetailed, IsKnown, with_known}
use Rattle.cdc_sqlite_book.specs.Tables.{HasTables}
use Rattle.cdc_sqlite_book.proofs.DetailLemmas.{among_last, among_others, details_put}

-- a new account comes last
put_end : (entry : BookEntry) (book : List BookEntry) → is_among entry.id (ids_of book) ≡ false
    → put entry book ≡ book ++ entry ∷ []
put_end entry [] absent = refl
put_end entry (other ∷ rest) absent =
    let both = neither (other.id == entry.id) (is_among entry.id (ids_of rest)) absent in
    rw both.0 (ap (λ more. other ∷ more) (put_end entry rest both.1))

-- an account is among more of them
among_more : (first : BookEntry) (more : List BookEntry) (id : ℕ) → is_among id (ids_of more) ≡ true
    → is_among id (ids_of (first ∷ more)) ≡ true
among_more first more id among = elim (cases_Bool (first.id == id)) [
  | inl same ↦ rw same refl
  | inr other ↦ rw other among
]

-- what is known once the details of one account more are, if they are
known_put : (details : List (ℕ × Details)) (id : ℕ) (known : Option Details) (other : ℕ)
    → details_in details id ≡ None
    → details_in (with_known details id known) other ≡ cond (id == other) known (details_in details other)
known_put details id None other none = elim (eqb_tells id other) [
  | inl same ↦ rw same.0 (ap (details_in details) (sym same.1) ∙ none)
  | inr apart ↦ rw apart.0 refl
]
known_put details id (Some known) other none = details_put details id known other

module _ (detailed : Bool) (rows : List Row) where
  -- one account more
  at_end : (known : ℕ → Option Details) (place : ℕ) (entry : BookEntry) (book : List BookEntry)
      → HasAccounts detailed rows known place book
      → HasAccount detailed rows (place + length book) entry (known entry.id)
      → HasAccounts detailed rows known place (book ++ entry ∷ [])
  at_end known place entry [] are has = (
    subst (λ at. HasAccount detailed rows at entry (known entry.id)) (omega arith) has,
    tt,
  )
  at_end known place entry (first ∷ more) are has = (
    are.0,
    at_end known (suc place) entry more are.1
        (subst (λ at. HasAccount detailed rows at entry (known entry.id)) (omega arith) has),
  )

  -- of which the same is known
  known_same : (known other : ℕ → Option Details) (place : ℕ) (book : List BookEntry)
      → ((id : ℕ) → is_among id (ids_of book) ≡ true → known id ≡ other id)
      → HasAccounts detailed rows known place book → HasAccounts detailed rows other place book
  known_same known other place [] same are = tt
  known_same known other place (first ∷ more) same are = (
    subst (HasAccount detailed rows place first) (same first.id (rw (eqb_same first.id) refl)) are.0,
    known_same known other (suc place) more (λ id among. same id (among_more first more id among)) are.1,
  )

  -- the account of a row that was found is added
  pub add_read : (book : List BookEntry) (details : List (ℕ × Details)) (longer : List BookEntry)
      (more : List (ℕ × Details)) (shown : Row) → AreRead detailed rows book details
      → Finds detailed (1 + length book) rows (Some shown) → AddsRow detailed shown book details longer more
      → AreRead detailed rows longer more
  add_read book details longer more shown read found added =
      let entry = added.entry in
      let none = read.others entry.id added.absent in
      let put : (other : ℕ) → details_in more other ≡ cond (entry.id == other) added.known (details_in details other) =
      λ other. ap (λ es. details_in es other) added.details_are ∙ known_put details entry.id added.known other none in
      let here : details_in more entry.id ≡ added.known = put entry.id ∙ rw (eqb_same entry.id) refl in
      let old : (id : ℕ) → is_among id (ids_of book) ≡ true → details_in details id ≡ details_in more id =
      λ id among. sym (put id ∙ elim (eqb_tells entry.id id) [
        | inl same ↦ absurd (let e = sym added.absent ∙ ap (λ n. is_among n (ids_of book)) same.1 ∙ among in cc)
        | inr apart ↦ rw apart.0 refl
      ]) in
      let has : HasAccount detailed rows (1 + length book) entry (details_in more entry.id) =
      record {
        row = found.0;
        stands = found.1;
        placed = found.2;
        has = subst (λ it. HasEntry it entry) found.3 added.has;
        shows = subst (IsKnown detailed _) (sym here) (subst (λ it. IsKnown detailed it added.known) found.3 added.shows);
      } in
      record {
        accounts = rw added.book_is (at_end (details_in more) 1 entry book
            (known_same (details_in details) (details_in more) 1 book old read.accounts) has);
        distinct = subst (λ b. are_distinct (ids_of b) ≡ true)
            (put_end entry book added.absent ∙ sym added.book_is) (put_distinct entry book read.distinct);
        others = λ id absent.
            let apart = ap (λ b. is_among id (ids_of b)) (sym added.book_is) ∙ absent in
            elim (eqb_tells entry.id id) [
              | inl same ↦ absurd (let e = sym (among_last book entry id same.0) ∙ apart in cc)
              | inr other ↦ put id ∙ rw other.0
                  (read.others id (sym (among_others book entry id other.0) ∙ apart))
            ];
      }

-- the tables are as they were, with or without columns for details
abbrev pub StaysDetailed : Bool → State → State → Type 0
StaysDetailed detailed old now =
    HasCleanDisk now → HasTables old.now.schema → (now.now ≡ old.now) × IsDetailed detailed old.now.schema

-- one search more
pub survives_more : (detailed : Bool) (old mid new : State) → Survives old mid (λ _. ¬ HasTables old.now.schema)
    → Survives mid new (λ _. ¬ IsDetailed detailed mid.now.schema) → StaysDetailed detailed old mid
    → Survives old new (λ _. ¬ HasTables old.now.schema)
survives_more detailed old mid new one two stays =
    survives_then old mid new _ _ (λ _. ¬ HasTables old.now.schema) (λ _ db none. none)
    (λ clean db none has.
    let it = stays (omega (arith, two.clean)) has in
    none (subst (λ (d : Database). IsDetailed detailed d.schema) (sym it.0) it.1))
    one two

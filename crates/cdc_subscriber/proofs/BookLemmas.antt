-- What an entry that is put into a book makes of it.
use Rattle.std.proofs.Common.{◌≡◌, ℕ, Bool, true, false, cond, List, [], ◌∷◌, ◌++◌, map, refl, sym, ap, ◌∙◌, inl, inr, Some, append_assoc}
use Rattle.std.specs.Prelude.{◌==◌, ◌||◌, fold, find, nat_eq, reverse, unwrap_or}
use Rattle.std.specs.List.{flat_map}
use Rattle.std.specs.Map.{lookup}
use Rattle.std.proofs.lemmas.Bool.{ne_eqb, cases_Bool}
use Rattle.std.proofs.lemmas.Bool.Decides.{eqb_tells}
use Rattle.std.proofs.lemmas.List.{reverse-append, map-append}
use Rattle.std.proofs.lemmas.List.Sums.{fold-append}
use Rattle.std.proofs.lemmas.Grind.{flat_map-append}
use Rattle.indexmap.specs.IndexMap.{insert_entry}
use Rattle.cdc_types.specs.declared.accounts.Balances.{Balances}
use Rattle.cdc_types.specs.declared.events.Event.{Event}
use Rattle.cdc_subscriber.specs.declared.book.BookEntry.{BookEntry}
use Rattle.cdc_subscriber.specs.Book.{balances_in, entries_of, entry_for, entry_of, sides, is_among, first_appearances, last_shown, unseen, book_of_sides, book_of, put}

-- an entry has this number
abbrev has_id : ℕ → BookEntry → Bool
has_id id entry = entry.id == id

-- the numbers of entries
abbrev ids_of : List BookEntry → List ℕ
ids_of entries = map (λ (e : BookEntry). e.id) entries

-- one more account is shown
last_shown-push : (shown : List BookEntry) (entry : BookEntry) (id : ℕ)
    → last_shown (shown ++ entry ∷ []) id ≡ cond (entry.id == id) entry (last_shown shown id)
last_shown-push shown entry id = rw (reverse-append shown (entry ∷ [])) (by_test (entry.id == id))
  where
    by_test : (t : Bool)
        → unwrap_or (cond t (Some entry) (find (has_id id) (reverse shown))) (unseen id)
        ≡ cond t entry (last_shown shown id)
    by_test true = refl
    by_test false = refl

-- what a search for an account finds, or takes for unseen, has the account's number
found_id : (entries : List BookEntry) (id : ℕ) → (unwrap_or (find (has_id id) entries) (unseen id)).id ≡ id
found_id [] id = refl
found_id (e ∷ entries) id =
    elim (eqb_tells e.id id) [
      | inl same ↦ rw same.0 same.1
      | inr other ↦ rw other.0 (found_id entries id)
    ]

-- what was shown of an account has its number
last_shown_id : (shown : List BookEntry) (id : ℕ) → (last_shown shown id).id ≡ id
last_shown_id shown id = found_id (reverse shown) id

-- numbers in the order of their first appearance, and one more
abbrev appeared : List ℕ → ℕ → List ℕ
appeared seen id = cond (is_among id seen) seen (seen ++ id ∷ [])

-- if one more account is shown, its number comes last, unless it was there already
first_appearances-push : (ids : List ℕ) (id : ℕ)
    → first_appearances (ids ++ id ∷ []) ≡ appeared (first_appearances ids) id
first_appearances-push ids id = rw (fold-append appeared [] ids (id ∷ [])) refl

-- no number occurs twice
abbrev AreDistinct : List ℕ → Type 0
AreDistinct [] = Unit {0}
AreDistinct (id ∷ ids) = (is_among id ids ≡ false) × AreDistinct ids

-- a number that isn't in a list is neither the first one nor among the rest
pub neither : (a b : Bool) → (a || b) ≡ false → (a ≡ false) × (b ≡ false)
neither true b h = cc
neither false b h = (refl, h)

-- a number that isn't in a list still isn't after a different number is added
is_among-push : (id new : ℕ) (ids : List ℕ) → is_among id ids ≡ false → (new == id) ≡ false
    → is_among id (ids ++ new ∷ []) ≡ false
is_among-push id new [] h other = rw other refl
is_among-push id new (x ∷ ids) h other =
    let both = neither (x == id) (is_among id ids) h in
    rw both.0 (is_among-push id new ids both.1 other)

-- a number passes the test against itself
pub eqb_same : (a : ℕ) → (a == a) ≡ true
eqb_same a = elim (eqb_tells a a) [ inl e ↦ e.0 | inr e ↦ absurd (e.1 refl) ]

-- numbers that differ one way differ the other way
pub eqb_swap : (a b : ℕ) → (a == b) ≡ false → (b == a) ≡ false
eqb_swap a b h = ne_eqb b a (λ same. let back : (a == b) ≡ true = rw same (eqb_same a) in cc)

-- the numbers of a book stay distinct if a new one is added
distinct-push : (ids : List ℕ) (id : ℕ) → AreDistinct ids → is_among id ids ≡ false → AreDistinct (ids ++ id ∷ [])
distinct-push [] id distinct new = (refl, tt)
distinct-push (x ∷ ids) id distinct new =
    let both = neither (x == id) (is_among id ids) new in
    (is_among-push x id ids distinct.0 (eqb_swap x id both.0), distinct-push ids id distinct.1 both.1)

-- so each account of a book, added at its first appearance, occurs exactly once
distinct_from : (ids seen : List ℕ) → AreDistinct seen → AreDistinct (fold appeared seen ids)
distinct_from [] seen distinct = distinct
distinct_from (id ∷ ids) seen distinct =
    elim (cases_Bool (is_among id seen)) [
      | inl old ↦ rw old (distinct_from ids seen distinct)
      | inr new ↦ rw new (distinct_from ids (seen ++ id ∷ []) (distinct-push seen id distinct new))
    ]

-- two books that show the same, except for the account of one more entry
record Differ (f g : ℕ → BookEntry) (entry : BookEntry) : Type 0 where
  named : (id : ℕ) → (f id).id ≡ id
  changed : (id : ℕ) → g id ≡ cond (entry.id == id) entry (f id)

-- an entry with a number that the book doesn't have comes last
put_absent : (f g : ℕ → BookEntry) (entry : BookEntry) (ids : List ℕ) → Differ f g entry
    → is_among entry.id ids ≡ false → map g ids ++ entry ∷ [] ≡ put entry (map f ids)
put_absent f g entry [] differ absent = refl
put_absent f g entry (id ∷ ids) differ absent =
    let both = neither (id == entry.id) (is_among entry.id ids) absent in
    let differs : ((f id).id == entry.id) ≡ false = rw (differ.named id) both.0 in
    let rest = put_absent f g entry ids differ both.1 in
    rw (differ.changed id, eqb_swap id entry.id both.0, differs) (ap (λ (es : List BookEntry). f id ∷ es) rest)

-- the entries of other accounts stay as they were
map_absent : (f g : ℕ → BookEntry) (entry : BookEntry) (ids : List ℕ) → Differ f g entry
    → is_among entry.id ids ≡ false → map g ids ≡ map f ids
map_absent f g entry [] differ absent = refl
map_absent f g entry (id ∷ ids) differ absent =
    let both = neither (id == entry.id) (is_among entry.id ids) absent in
    let rest = map_absent f g entry ids differ both.1 in
    rw (differ.changed id, eqb_swap id entry.id both.0) (ap (λ (es : List BookEntry). f id ∷ es) rest)

-- an entry with a number that the book has takes its place
put_present : (f g : ℕ → BookEntry) (entry : BookEntry) (ids : List ℕ) → Differ f g entry → AreDistinct ids
    → is_among entry.id ids ≡ true → map g ids ≡ put entry (map f ids)
put_present f g entry [] differ distinct present = cc
put_present f g entry (id ∷ ids) differ distinct present =
    elim (eqb_tells id entry.id) [
      | inl same ↦
          let here : (entry.id == id) ≡ true = rw (← same.1) (eqb_same id) in
          let others : is_among entry.id ids ≡ false = rw (← same.1) distinct.0 in
          let agrees : ((f id).id == entry.id) ≡ true = rw (differ.named id) same.0 in
          let rest = map_absent f g entry ids differ others in
          rw (differ.changed id, here, agrees) (ap (λ (es : List BookEntry). entry ∷ es) rest)
      | inr other ↦
          let away = eqb_swap id entry.id other.0 in
          let within : is_among entry.id ids ≡ true = rw other.0 at present in
          let differs : ((f id).id == entry.id) ≡ false = rw (differ.named id) other.0 in
          let rest = put_present f g entry ids differ distinct.1 within in
          rw (differ.changed id, away, differs) (ap (λ (es : List BookEntry). f id ∷ es) rest)
    ]

-- one more account is shown: the book of all is the book so far with an entry put into it
pub book_of_sides-push : (shown : List BookEntry) (entry : BookEntry)
    → book_of_sides (shown ++ entry ∷ []) ≡ put entry (book_of_sides shown)
book_of_sides-push shown entry =
    rw (map-append (λ (e : BookEntry). e.id) shown (entry ∷ []), first_appearances-push (ids_of shown) entry.id)
    (by_cases (first_appearances (ids_of shown)) (is_among entry.id _) refl (distinct_from (ids_of shown) [] tt))
  where
    differ : Differ (last_shown shown) (last_shown (shown ++ entry ∷ [])) entry
    differ = record { named = last_shown_id shown; changed = last_shown-push shown entry }

    itself : last_shown (shown ++ entry ∷ []) entry.id ≡ entry
    itself = last_shown-push shown entry entry.id ∙ rw (eqb_same entry.id) refl

    by_cases : (ids : List ℕ) (t : Bool) → is_among entry.id ids ≡ t → AreDistinct ids
        → map (last_shown (shown ++ entry ∷ [])) (cond t ids (ids ++ entry.id ∷ []))
        ≡ put entry (map (last_shown shown) ids)
    by_cases ids true old distinct =
        put_present (last_shown shown) (last_shown (shown ++ entry ∷ [])) entry ids differ distinct old
    by_cases ids false new distinct =
        rw (map-append (last_shown (shown ++ entry ∷ [])) ids (entry.id ∷ []), itself)
        (put_absent (last_shown shown) (last_shown (shown ++ entry ∷ [])) entry ids differ new)

-- an event takes in both of its accounts, the debited one first
pub book_of-push : (events : List Event) (e : Event)
    → book_of (events ++ e ∷ []) ≡ put (entry_of e.credit_account) (put (entry_of e.debit_account) (book_of events))
book_of-push events e =
    let debit = entry_of e.debit_account in
    let credit = entry_of e.credit_account in
    let before = flat_map sides events in
    let both : flat_map sides (events ++ e ∷ []) ≡ (before ++ debit ∷ []) ++ credit ∷ [] =
    flat_map-append sides events (e ∷ []) ∙ sym (append_assoc before (debit ∷ []) (credit ∷ [])) in
    ap book_of_sides both ∙ book_of_sides-push (before ++ debit ∷ []) credit
    ∙ ap (put credit) (book_of_sides-push before debit)

-- balances that come under a number are an entry that is put
pub entries_of-insert_entry : (accounts : List (ℕ × Balances)) (entry : BookEntry)
    → entries_of (insert_entry nat_eq accounts entry.id entry.balances) ≡ put entry (entries_of accounts)
entries_of-insert_entry [] entry = refl
entries_of-insert_entry (account ∷ rest) entry =
    elim (eqb_tells entry.id account.0) [
      | inl same ↦ rw (← same.1) (rw (eqb_same entry.id) refl)
      | inr other ↦
          let later = entries_of-insert_entry rest entry in
          rw (other.0, eqb_swap entry.id account.0 other.0)
          (ap (λ (es : List BookEntry). entry_for account ∷ es) later)
    ]

-- the balances under a number are those of the entry that is found by it
pub lookup-balances_in : (accounts : List (ℕ × Balances)) (id : ℕ)
    → lookup (nat_eq id) accounts ≡ balances_in (entries_of accounts) id
lookup-balances_in [] id = refl
lookup-balances_in (account ∷ rest) id =
    elim (eqb_tells id account.0) [
      | inl same ↦ rw (← same.1) (rw (eqb_same id) refl)
      | inr other ↦ rw (other.0, eqb_swap id account.0 other.0) (lookup-balances_in rest id)
    ]

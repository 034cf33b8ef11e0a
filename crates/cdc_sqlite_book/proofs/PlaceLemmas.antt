-- Where an account stands in a book, after others are put into it.
use Rattle.std.proofs.Common.{◌≡◌, ◌==◌, ◌+◌, ℕ, suc, zero, List, [], ◌∷◌, ◌++◌, length, Bool, true, false, not, ◌&&◌, cond, take, Option, Some, None, is_some, unwrap_or, append_assoc, append-nil, refl, sym, ap, ◌∙◌, inl, inr, arith}
use Rattle.std.specs.Prelude.{nat_eq, max, option_map, slice_get}
use Rattle.std.specs.List.{position, position_or_len}
use Rattle.indexmap.specs.IndexMap.{insert_entry}
use Rattle.std.specs.Map.{keys_of, lookup}
use Rattle.std.proofs.lemmas.Bool.Decides.{eqb_tells}
use Rattle.std.proofs.lemmas.Bool.{cases_Bool}
use Rattle.std.proofs.lemmas.List.Sums.{fold-append}
use Rattle.cdc_types.specs.declared.accounts.Balances.{Balances}
use Rattle.cdc_subscriber.specs.declared.book.BookEntry.{BookEntry}
use Rattle.cdc_subscriber.specs.Book.{are_distinct, entries_of, id_and_balances, ids_of, is_among, put}
use Rattle.cdc_subscriber.proofs.BookLemmas.{entries_of-insert_entry, eqb_same, eqb_swap, neither}
use Rattle.cdc_subscriber.proofs.PushLemmas.{is_among-put, lookup-is_among, put-absent}
use Rattle.cdc_book_log.specs.Replay.{put_all}
use Rattle.cdc_book_log.proofs.ReplayLemmas.{put_distinct}
use Rattle.cdc_sqlite_book.specs.Tables.{place_in}
use Rattle.cdc_sqlite_book.proofs.StepLemmas.{took}

-- ---- one account is put

-- an account that is there keeps its place
place_kept : (id : ℕ) (entry : BookEntry) (book : List BookEntry) → is_among id (ids_of book) ≡ true
    → place_in (put entry book) id ≡ place_in book id
place_kept id entry [] here = absurd cc
place_kept id entry (other ∷ rest) here =
    elim (eqb_tells other.id entry.id) [
      | inl same ↦ rw (same.0, ← same.1) refl
      | inr apart ↦ elim (eqb_tells other.id id) [
        | inl first ↦ rw (apart.0, first.0) refl
        | inr later ↦ rw (apart.0, later.0) (ap suc (place_kept id entry rest (rw later.0 at here)))
      ]
    ]

-- an account that isn't there is the next one
pub place_new : (id : ℕ) (book : List BookEntry) → is_among id (ids_of book) ≡ false → place_in book id ≡ length book
place_new id [] absent = refl
place_new id (other ∷ rest) absent =
    let both = neither (other.id == id) (is_among id (ids_of rest)) absent in
    rw both.0 (ap suc (place_new id rest both.1))

-- an account that isn't there still isn't after another one is put
absent_kept : (id : ℕ) (entry : BookEntry) (book : List BookEntry) → (entry.id == id) ≡ false
    → is_among id (ids_of book) ≡ false → is_among id (ids_of (put entry book)) ≡ false
absent_kept id entry [] differs absent = rw differs refl
absent_kept id entry (other ∷ rest) differs absent =
    let both = neither (other.id == id) (is_among id (ids_of rest)) absent in
    elim (eqb_tells other.id entry.id) [
      | inl same ↦ rw (same.0, differs, both.1) refl
      | inr apart ↦ rw (apart.0, both.0) (absent_kept id entry rest differs both.1)
    ]

-- how many accounts there are then
pub put_length : (entry : BookEntry) (book : List BookEntry)
    → length (put entry book) ≡ max (length book) (suc (place_in book entry.id))
put_length entry [] = refl
put_length entry (other ∷ rest) =
    elim (eqb_tells other.id entry.id) [
      | inl same ↦ rw same.0 (omega arith)
      | inr apart ↦ rw apart.0 (omega (arith, put_length entry rest))
    ]

-- ---- several are put

among_all : (id : ℕ) (changed book : List BookEntry) → is_among id (ids_of book) ≡ true
    → is_among id (ids_of (put_all changed book)) ≡ true
among_all id [] book here = here
among_all id (entry ∷ more) book here = among_all id more (put entry book) (is_among-put id entry book here)

place_kept_all : (id : ℕ) (changed book : List BookEntry) → is_among id (ids_of book) ≡ true
    → place_in (put_all changed book) id ≡ place_in book id
place_kept_all id [] book here = refl
place_kept_all id (entry ∷ more) book here =
    place_kept_all id more (put entry book) (is_among-put id entry book here) ∙ place_kept id entry book here

absent_all : (id : ℕ) (changed book : List BookEntry) → is_among id (ids_of changed) ≡ false
    → is_among id (ids_of book) ≡ false → is_among id (ids_of (put_all changed book)) ≡ false
absent_all id [] book apart absent = absent
absent_all id (entry ∷ more) book apart absent =
    let both = neither (entry.id == id) (is_among id (ids_of more)) apart in
    absent_all id more (put entry book) both.1 (absent_kept id entry book both.0 absent)

-- where an account goes, after others that differ from it were put
pub goes_to : (id : ℕ) (changed book : List BookEntry) → is_among id (ids_of changed) ≡ false
    → cond (is_among id (ids_of book)) (place_in book id) (length (put_all changed book))
    ≡ place_in (put_all changed book) id
goes_to id changed book apart =
    elim (cases_Bool (is_among id (ids_of book))) [
      | inl here ↦ rw here (sym (place_kept_all id changed book here))
      | inr absent ↦ rw absent (sym (place_new id (put_all changed book) (absent_all id changed book apart absent)))
    ]

-- ---- accounts that are held by their numbers

first_place : (accounts : List (ℕ × Balances)) (id : ℕ)
    → position_or_len (nat_eq id) (keys_of accounts) ≡ place_in (entries_of accounts) id
first_place [] id = refl
first_place (account ∷ rest) id =
    elim (eqb_tells account.0 id) [
      | inl same ↦ rw (same.0, same.1, eqb_same id) refl
      | inr other ↦ rw (other.0, eqb_swap account.0 id other.0) (omega (arith, first_place rest id))
    ]

found_at : (b : Bool) (at index : ℕ) → cond b (Some at) None ≡ Some index → at ≡ index
found_at true at index is = cc
found_at false at index is = absurd cc

-- where an account is found
pub found_place : (accounts : List (ℕ × Balances)) (id next : ℕ) (found : Option ℕ)
    → found ≡ position (nat_eq id) (keys_of accounts)
    → is_some found ≡ is_some (lookup (nat_eq id) accounts)
    → unwrap_or found next
    ≡ cond (is_among id (ids_of (entries_of accounts))) (place_in (entries_of accounts) id) next
found_place accounts id next (Some index) is there =
    let here : is_among id (ids_of (entries_of accounts)) ≡ true = sym (there ∙ lookup-is_among accounts id) in
    rw here (sym (found_at _ _ index (sym is)) ∙ first_place accounts id)
found_place accounts id next None is there =
    let absent : is_among id (ids_of (entries_of accounts)) ≡ false = sym (there ∙ lookup-is_among accounts id) in
    rw absent refl

-- ---- the accounts of a book, in turn

not_true : (b : Bool) → not b ≡ true → b ≡ false
not_true true is = sym is
not_true false is = refl

both_left : (a b : Bool) → (a && b) ≡ true → a ≡ true
both_left true b is = refl
both_left false b is = absurd cc

both_right : (a b : Bool) → (a && b) ≡ true → b ≡ true
both_right true b is = is
both_right false b is = absurd cc

-- of distinct numbers the first isn't among the others
pub first_apart : (id : ℕ) (ids : List ℕ) → are_distinct (id ∷ ids) ≡ true → is_among id ids ≡ false
first_apart id ids distinct = not_true (is_among id ids) (both_left (not (is_among id ids)) (are_distinct ids) distinct)

-- and these are distinct
pub others_distinct : (id : ℕ) (ids : List ℕ) → are_distinct (id ∷ ids) ≡ true → are_distinct ids ≡ true
others_distinct id ids distinct = both_right (not (is_among id ids)) (are_distinct ids) distinct

-- accounts stay distinct, if others are put
pub distinct_all : (changed book : List BookEntry) → are_distinct (ids_of book) ≡ true
    → are_distinct (ids_of (put_all changed book)) ≡ true
distinct_all [] book distinct = distinct
distinct_all (entry ∷ more) book distinct = distinct_all more (put entry book) (put_distinct entry book distinct)

-- a number that isn't among others isn't among the first of them, and differs from each
among_first : (id at : ℕ) (book : List BookEntry) → is_among id (ids_of book) ≡ false
    → is_among id (ids_of (take at book)) ≡ false
among_first id zero [] absent = refl
among_first id (suc at) [] absent = refl
among_first id zero (entry ∷ book) absent = refl
among_first id (suc at) (entry ∷ book) absent =
    let both = neither (entry.id == id) (is_among id (ids_of book)) absent in
    rw both.0 (among_first id at book both.1)

-- the account at a place of a book differs from the one with this number, which isn't there
differs_at : (id place other : ℕ) (balances : Balances) (book : List BookEntry) → is_among id (ids_of book) ≡ false
    → option_map id_and_balances (slice_get book place) ≡ Some (other, balances) → (other == id) ≡ false
differs_at id place other balances [] absent is = absurd cc
differs_at id zero other balances (entry ∷ book) absent is =
    let both = neither (entry.id == id) (is_among id (ids_of book)) absent in
    let pair : id_and_balances entry ≡ (other, balances) = cc in
    let same : entry.id ≡ other = ap (λ (it : ℕ × Balances). it.0) pair in
    rw same at both.0
differs_at id (suc place) other balances (entry ∷ book) absent is =
    let both = neither (entry.id == id) (is_among id (ids_of book)) absent in
    differs_at id place other balances book both.1 is

-- the account at a place isn't among those before it
pub apart_at : (place id : ℕ) (balances : Balances) (book : List BookEntry) → are_distinct (ids_of book) ≡ true
    → option_map id_and_balances (slice_get book place) ≡ Some (id, balances)
    → is_among id (ids_of (take place book)) ≡ false
apart_at place id balances [] distinct is = absurd cc
apart_at zero id balances (entry ∷ book) distinct is = refl
apart_at (suc place) id balances (entry ∷ book) distinct is =
    let absent = not_true (is_among entry.id (ids_of book))
    (both_left (not (is_among entry.id (ids_of book))) (are_distinct (ids_of book)) distinct) in
    let later = both_right (not (is_among entry.id (ids_of book))) (are_distinct (ids_of book)) distinct in
    let other : (id == entry.id) ≡ false = differs_at entry.id place id balances book absent is in
    rw (eqb_swap id entry.id other) (apart_at place id balances book later is)

-- one account more is put
pub put_next : (book old : List BookEntry) (place id : ℕ) (balances : Balances)
    → option_map id_and_balances (slice_get book place) ≡ Some (id, balances)
    → put_all (take (suc place) book) old ≡ put (record { id = id; balances = balances }) (put_all (take place book) old)
put_next book old place id balances is =
    ap (λ l. put_all l old) (took book place id balances is)
    ∙ fold-append (λ b entry. put entry b) old (take place book) (record { id = id; balances = balances } ∷ [])

-- where the account at a place of a book goes, after those before it were put
pub step_place : (book old : List BookEntry) (at id : ℕ) (balances : Balances) (next index : ℕ)
    → are_distinct (ids_of book) ≡ true
    → option_map id_and_balances (slice_get book at) ≡ Some (id, balances)
    → next ≡ length (put_all (take at book) old)
    → index ≡ cond (is_among id (ids_of old)) (place_in old id) next
    → index ≡ place_in (put_all (take at book) old) id
step_place book old at id balances next index distinct there next_is is =
    is ∙ ap (λ n. cond (is_among id (ids_of old)) (place_in old id) n) next_is
    ∙ goes_to id (take at book) old (apart_at at id balances book distinct there)

-- how many accounts there are once it is put
pub step_next : (book old : List BookEntry) (at id : ℕ) (balances : Balances) (next index : ℕ)
    → option_map id_and_balances (slice_get book at) ≡ Some (id, balances)
    → next ≡ length (put_all (take at book) old) → index ≡ place_in (put_all (take at book) old) id
    → max next (suc index) ≡ length (put_all (take (at + 1) book) old)
step_next book old at id balances next index there next_is is =
    let one : BookEntry = record { id = id; balances = balances } in
    let after : suc at ≡ at + 1 = omega arith in
    ap (λ n. max n (suc index)) next_is ∙ ap (λ n. max (length (put_all (take at book) old)) (suc n)) is
    ∙ sym (put_length one (put_all (take at book) old))
    ∙ ap length (sym (put_next book old at id balances there))
    ∙ ap (λ n. length (put_all (take n book) old)) after

-- one account more of those that are held by their numbers
pub put_more : (book old : List BookEntry) (place id : ℕ) (balances : Balances) (before after : List (ℕ × Balances))
    → option_map id_and_balances (slice_get book place) ≡ Some (id, balances)
    → entries_of before ≡ put_all (take place book) old → after ≡ insert_entry nat_eq before id balances
    → entries_of after ≡ put_all (take (suc place) book) old
put_more book old place id balances before after is so_far inserted =
    let one : BookEntry = record { id = id; balances = balances } in
    ap entries_of inserted ∙ entries_of-insert_entry before one ∙ ap (put one) so_far
    ∙ sym (put_next book old place id balances is)

-- a book has no account more where it shows none
pub took_none : (book : List BookEntry) (place : ℕ) → option_map id_and_balances (slice_get book place) ≡ None
    → take (suc place) book ≡ take place book
took_none [] zero none = refl
took_none [] (suc place) none = refl
took_none (entry ∷ more) zero none = absurd cc
took_none (entry ∷ more) (suc place) none = ap (λ rest. entry ∷ rest) (took_none more place none)

-- ---- a whole book

-- a number that isn't among others differs from each of them
differs : (id : ℕ) (book left : List BookEntry) (entry : BookEntry)
    → is_among id (ids_of (book ++ entry ∷ left)) ≡ false → (entry.id == id) ≡ false
differs id [] left entry absent = (neither (entry.id == id) (is_among id (ids_of left)) absent).0
differs id (b ∷ book) left entry absent =
    differs id book left entry (neither (b.id == id) (is_among id (ids_of (book ++ entry ∷ left))) absent).1

-- an account that comes later isn't among those before it
not_yet : (book left : List BookEntry) (entry : BookEntry) → are_distinct (ids_of (book ++ entry ∷ left)) ≡ true
    → is_among entry.id (ids_of book) ≡ false
not_yet [] left entry distinct = refl
not_yet (b ∷ book) left entry distinct =
    let ids = ids_of (book ++ entry ∷ left) in
    let absent : is_among b.id ids ≡ false = not_true _ (both_left _ (are_distinct ids) distinct) in
    let more = not_yet book left entry (both_right (not (is_among b.id ids)) (are_distinct ids) distinct) in
    let other : (b.id == entry.id) ≡ false = eqb_swap entry.id b.id (differs b.id book left entry absent) in
    rw (other, more) refl

-- accounts that are put into a book that has none of them come last
put_all-apart : (more book : List BookEntry) → are_distinct (ids_of (book ++ more)) ≡ true
    → put_all more book ≡ book ++ more
put_all-apart [] book distinct = sym (append-nil book)
put_all-apart (entry ∷ more) book distinct =
    let absent = not_yet book more entry distinct in
    let grown = append_assoc book (entry ∷ []) more in
    ap (put_all more) (put-absent entry book absent)
    ∙ put_all-apart more (book ++ entry ∷ []) (ap (λ l. are_distinct (ids_of l)) grown ∙ distinct)
    ∙ grown

-- a book that is put into none is that book
pub put_all-none : (book : List BookEntry) → are_distinct (ids_of book) ≡ true → put_all book [] ≡ book
put_all-none book distinct = put_all-apart book [] distinct

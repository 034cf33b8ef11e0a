-- Accounts that are put into others, and copied into a book.
use Rattle.std.proofs.Common.{◌≡◌, ◌==◌, ℕ, suc, zero, List, [], ◌∷◌, ◌++◌, Bool, true, false, not, ◌&&◌, cond, take}
use Rattle.std.proofs.Common.{Some, None, refl, sym, ap, ◌∙◌, append_assoc, append-nil}
use Rattle.std.specs.Prelude.{option_map, slice_get}
use Rattle.std.proofs.lemmas.Bool.{false≢true}
use Rattle.std.proofs.lemmas.List.Sums.{fold-append}
use Rattle.indexmap.specs.IndexMap.{insert_entry}
use Rattle.std.specs.Prelude.{nat_eq}
use Rattle.cdc_types.specs.declared.accounts.Balances.{Balances}
use Rattle.cdc_subscriber.specs.declared.book.BookEntry.{BookEntry}
use Rattle.cdc_subscriber.specs.Book.{are_distinct, entries_of, entry_for, id_and_balances, ids_of, is_among, put}
use Rattle.cdc_subscriber.proofs.BookLemmas.{entries_of-insert_entry, eqb_swap, neither}
use Rattle.cdc_subscriber.proofs.PushLemmas.{put-absent}
use Rattle.cdc_book_log.specs.Replay.{put_all}

take_none : (book : List BookEntry) → take 0 book ≡ []
take_none [] = refl
take_none (entry ∷ more) = refl

-- one account more of a book
took : (book : List BookEntry) (place id : ℕ) (balances : Balances)
    → option_map id_and_balances (slice_get book place) ≡ Some (id, balances)
    → take (suc place) book ≡ take place book ++ record { id = id; balances = balances } ∷ []
took [] place id balances is = absurd cc
took (entry ∷ more) zero id balances is =
    let one : BookEntry = record { id = id; balances = balances } in
    let pair : id_and_balances entry ≡ (id, balances) = cc in
    let same : entry ≡ one = ap entry_for pair in
    ap (λ rest. entry ∷ rest) (take_none more) ∙ ap (λ it. it ∷ []) same
    ∙ ap (λ front. front ++ one ∷ []) (sym (take_none (entry ∷ more)))
took (entry ∷ more) (suc place) id balances is = ap (λ rest. entry ∷ rest) (took more place id balances is)

-- one account more is put
pub put_more : (book old : List BookEntry) (place id : ℕ) (balances : Balances) (before after : List (ℕ × Balances))
    → option_map id_and_balances (slice_get book place) ≡ Some (id, balances)
    → entries_of before ≡ put_all (take place book) old → after ≡ insert_entry nat_eq before id balances
    → entries_of after ≡ put_all (take (suc place) book) old
put_more book old place id balances before after is so_far inserted =
    let one : BookEntry = record { id = id; balances = balances } in
    ap entries_of inserted ∙ entries_of-insert_entry before one ∙ ap (put one) so_far
    ∙ sym (fold-append (λ b entry. put entry b) old (take place book) (one ∷ []))
    ∙ ap (λ l. put_all l old) (sym (took book place id balances is))

-- a book has no account more where it shows none
pub took_none : (book : List BookEntry) (place : ℕ) → option_map id_and_balances (slice_get book place) ≡ None
    → take (suc place) book ≡ take place book
took_none [] zero none = refl
took_none [] (suc place) none = refl
took_none (entry ∷ more) zero none = absurd cc
took_none (entry ∷ more) (suc place) none = ap (λ rest. entry ∷ rest) (took_none more place none)

-- ---- accounts that are copied

both_left : (a b : Bool) → (a && b) ≡ true → a ≡ true
both_left true b is = refl
both_left false b is = is

both_right : (a b : Bool) → (a && b) ≡ true → b ≡ true
both_right true b is = is
both_right false b is = absurd (false≢true is)

not_true : (b : Bool) → not b ≡ true → b ≡ false
not_true true is = sym is
not_true false is = refl

-- a number that isn't among others differs from each of them
apart : (id : ℕ) (book left : List BookEntry) (entry : BookEntry)
    → is_among id (ids_of (book ++ entry ∷ left)) ≡ false → (entry.id == id) ≡ false
apart id [] left entry absent = (neither (entry.id == id) (is_among id (ids_of left)) absent).0
apart id (b ∷ book) left entry absent =
    apart id book left entry (neither (b.id == id) (is_among id (ids_of (book ++ entry ∷ left))) absent).1

-- an account that comes later isn't among those before it
not_yet : (book left : List BookEntry) (entry : BookEntry) → are_distinct (ids_of (book ++ entry ∷ left)) ≡ true
    → is_among entry.id (ids_of book) ≡ false
not_yet [] left entry distinct = refl
not_yet (b ∷ book) left entry distinct =
    let ids = ids_of (book ++ entry ∷ left) in
    let absent : is_among b.id ids ≡ false = not_true _ (both_left _ (are_distinct ids) distinct) in
    let more = not_yet book left entry (both_right (not (is_among b.id ids)) (are_distinct ids) distinct) in
    let other : (b.id == entry.id) ≡ false = eqb_swap entry.id b.id (apart b.id book left entry absent) in
    rw (other, more) refl

-- the book has the first of these accounts
abbrev pub Copied : List BookEntry → List BookEntry → List (ℕ × Balances) → Type 0
Copied all book left = (all ≡ book ++ entries_of left) × (are_distinct (ids_of all) ≡ true)

pub copied_more : (all book new : List BookEntry) (left rest : List (ℕ × Balances)) (account : ℕ × Balances)
    (added : Bool) → Copied all book left → left ≡ account ∷ rest
    → added ≡ not (is_among account.0 (ids_of book))
    → new ≡ cond added (book ++ entry_for account ∷ []) book → Copied all new rest
copied_more all book new left rest account added before first adds pushed =
    let one = entry_for account in
    let parted : all ≡ book ++ one ∷ entries_of rest = before.0 ∙ ap (λ l. book ++ entries_of l) first in
    let absent = not_yet book (entries_of rest) one (sym (ap (λ es. are_distinct (ids_of es)) parted) ∙ before.1) in
    let is_new : added ≡ true = adds ∙ ap (λ b. not b) absent in
    let grown : new ≡ book ++ one ∷ [] = pushed ∙ ap (λ b. cond b (book ++ one ∷ []) book) is_new in (
      parted ∙ sym (append_assoc book (one ∷ []) (entries_of rest)) ∙ ap (λ es. es ++ entries_of rest) (sym grown),
      before.1,
    )

pub copied_all : (all book : List BookEntry) (left : List (ℕ × Balances)) → Copied all book left → left ≡ []
    → book ≡ all
copied_all all book left before none =
    sym (before.0 ∙ ap (λ l. book ++ entries_of l) none ∙ append-nil book)

-- accounts that are put into a book that has none of them come last
put_all-apart : (more book : List BookEntry) → are_distinct (ids_of (book ++ more)) ≡ true
    → put_all more book ≡ book ++ more
put_all-apart [] book distinct = sym (append-nil book)
put_all-apart (entry ∷ more) book distinct =
    let absent = not_yet book more entry distinct in
    let grown = append_assoc book (entry ∷ []) more in
    ap (put_all more) (put-absent entry book absent)
    ∙ put_all-apart more (book ++ entry ∷ []) (ap (λ l. are_distinct (ids_of l)) grown ∙ distinct)
    ∙ grown

-- a book that is put into none is that book
pub put_all-none : (book : List BookEntry) → are_distinct (ids_of book) ≡ true → put_all book [] ≡ book
put_all-none book distinct = put_all-apart book [] distinct

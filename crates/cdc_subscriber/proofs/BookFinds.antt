-- What is found in a book of events: what they showed last.
use Rattle.std.proofs.Common.{◌≡◌, ℕ, cond, List, [], ◌∷◌, refl, sym, ap, ◌∙◌, inl, inr, Some}
use Rattle.std.specs.Prelude.{◌==◌, find, reverse, option_map}
use Rattle.std.specs.List.{flat_map}
use Rattle.std.proofs.lemmas.Bool.{ne_eqb}
use Rattle.std.proofs.lemmas.Bool.Decides.{eqb_tells}
use Rattle.std.proofs.lemmas.List.{reverse-append, reverse-reverse}
use Rattle.cdc_types.specs.declared.events.Event.{Event}
use Rattle.cdc_subscriber.specs.declared.book.BookEntry.{BookEntry}
use Rattle.cdc_subscriber.specs.Book.{balances_in, balances_shown, book_of, book_of_sides, put, sides}
use Rattle.cdc_subscriber.proofs.BookLemmas.{book_of_sides-push}

-- an entry that was put is found by its number, and every other one as before
find-put : (entry : BookEntry) (id : ℕ) (book : List BookEntry)
    → find (λ e. e.id == id) (put entry book) ≡ cond (entry.id == id) (Some entry) (find (λ e. e.id == id) book)
find-put entry id [] = refl
find-put entry id (other ∷ rest) =
    elim (eqb_tells other.id entry.id) [
      | inl same ↦ elim (eqb_tells entry.id id) [
        | inl here ↦ rw (same.0, here.0) refl
        | inr away ↦ rw (same.0, same.1, away.0) refl
      ]
      | inr apart ↦ elim (eqb_tells other.id id) [
        | inl here ↦ rw (apart.0, here.0, ne_eqb entry.id id (λ is. apart.1 (here.1 ∙ sym is))) refl
        | inr away ↦ rw (apart.0, away.0) (find-put entry id rest)
      ]
    ]

-- looking up a number in the book of these entries, given latest first, finds the first entry with that number
find-book_of_sides : (latest_first : List BookEntry) (id : ℕ)
    → find (λ e. e.id == id) (book_of_sides (reverse latest_first)) ≡ find (λ e. e.id == id) latest_first
find-book_of_sides [] id = refl
find-book_of_sides (entry ∷ earlier) id =
    let before = book_of_sides (reverse earlier) in
    rw (reverse-append (entry ∷ []) earlier, book_of_sides-push (reverse earlier) entry, find-put entry id before)
    (rw (find-book_of_sides earlier id) refl)

-- the book of events has of each account what they showed last
pub balances_in-book_of : (events : List Event) (id : ℕ) → balances_in (book_of events) id ≡ balances_shown events id
balances_in-book_of events id =
    ap (option_map (λ (entry : BookEntry). entry.balances))
    (rw reverse-reverse at (find-book_of_sides (reverse (flat_map sides events)) id))

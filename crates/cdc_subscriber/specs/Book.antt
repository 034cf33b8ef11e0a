-- The book of a list of events: each account that they show, with its balances in the last event that has it.
use Rattle.std.specs.Prelude.{ℕ, Bool, true, not, ◌==◌, ◌&&◌, List, [], ◌∷◌, ◌++◌, map, fold, find, reverse, unwrap_or, if◌then◌else◌, Option, option_map}
use Rattle.std.specs.List.{list_any, flat_map}
use Rattle.cdc_types.specs.declared.accounts.Balances.{Balances}
use Rattle.cdc_types.specs.declared.events.Event.{Event}
use Rattle.cdc_types.specs.declared.events.EventAccount.{EventAccount}
use Rattle.cdc_subscriber.specs.declared.book.BookEntry.{BookEntry}

-- an account of an event, with its balances after it
abbrev pub entry_of : EventAccount → BookEntry
entry_of a = record {
  id = a.id;
  balances = record {
    debits_pending = a.debits_pending;
    debits_posted = a.debits_posted;
    credits_pending = a.credits_pending;
    credits_posted = a.credits_posted;
  };
}

-- the two accounts of an event: the debited one, then the credited one
abbrev pub sides : Event → List BookEntry
sides e = entry_of e.debit_account ∷ entry_of e.credit_account ∷ []

-- the number is one of these
abbrev pub is_among : ℕ → List ℕ → Bool
is_among id ids = list_any (λ other. other == id) ids

-- no id occurs twice
abbrev pub are_distinct : List ℕ → Bool
are_distinct [] = true
are_distinct (id ∷ ids) = not (is_among id ids) && are_distinct ids

-- the ids of accounts
abbrev pub ids_of : List BookEntry → List ℕ
ids_of entries = map (λ entry. entry.id) entries

-- the book has both accounts of an event
abbrev pub has_both : List BookEntry → Event → Bool
has_both book e = is_among e.debit_account.id (ids_of book) && is_among e.credit_account.id (ids_of book)

-- numbers in the order of their first appearance
abbrev pub first_appearances : List ℕ → List ℕ
first_appearances ids = fold (λ seen id. if is_among id seen then seen else (seen ++ id ∷ [])) [] ids

-- an account that no event has shown
abbrev pub unseen : ℕ → BookEntry
unseen id = record {
  id = id;
  balances = record { debits_pending = 0; debits_posted = 0; credits_pending = 0; credits_posted = 0 };
}

-- what was shown last of an account
abbrev pub last_shown : List BookEntry → ℕ → BookEntry
last_shown shown id = unwrap_or (find (λ entry. entry.id == id) (reverse shown)) (unseen id)

-- the book of what was shown of accounts
abbrev pub book_of_sides : List BookEntry → List BookEntry
book_of_sides shown = map (last_shown shown) (first_appearances (map (λ entry. entry.id) shown))

-- the book of events
abbrev pub book_of : List Event → List BookEntry
book_of events = book_of_sides (flat_map sides events)

-- the accounts of events, in the order of their first appearance
abbrev pub accounts_of : List Event → List ℕ
accounts_of events = first_appearances (map (λ entry. entry.id) (flat_map sides events))

-- an entry takes the place of the one with its number, or comes last
abbrev pub put : BookEntry → List BookEntry → List BookEntry
put entry [] = entry ∷ []
put entry (other ∷ rest) = if other.id == entry.id then entry ∷ rest else other ∷ put entry rest

-- the balances of the account of this number in a book, if it is there
abbrev pub balances_in : List BookEntry → ℕ → Option Balances
balances_in book id = option_map (λ entry. entry.balances) (find (λ entry. entry.id == id) book)

-- the balances of the account with this number in the last event that has it, if one has; if both of that event's
-- accounts are this one, the credited side's
abbrev pub balances_shown : List Event → ℕ → Option Balances
balances_shown events id =
    option_map (λ entry. entry.balances) (find (λ entry. entry.id == id) (reverse (flat_map sides events)))

-- an account's number and its balances
abbrev pub id_and_balances : BookEntry → ℕ × Balances
id_and_balances entry = (entry.id, entry.balances)

-- an account's number and its balances, as an entry
abbrev pub entry_for : ℕ × Balances → BookEntry
entry_for account = record { id = account.0; balances = account.1 }

-- the entries of accounts that are held by their numbers
abbrev pub entries_of : List (ℕ × Balances) → List BookEntry
entries_of accounts = map entry_for accounts

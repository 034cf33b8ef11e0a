-- Examples: what the definitions compute for small lists of items.
use Rattle.std.specs.Prelude.{ℕ, ◌≡◌, true, false, List, [], ◌∷◌, codes, Some, None}
use Rattle.std.proofs.Common.{refl}
use Rattle.std.specs.Fmt.{digits}
use Rattle.cdc_types.specs.declared.events.Event.{Event}
use Rattle.cdc_types.specs.declared.events.EventAccount.{EventAccount}
use Rattle.cdc_types.specs.declared.events.EventKind.TheVariants.{SinglePhase}
use Rattle.cdc_message.specs.declared.items.Item.{Item}
use Rattle.cdc_message.specs.declared.items.Item.TheVariants as item
use Rattle.cdc_subscriber.specs.declared.book.BookEntry.{BookEntry}
use Rattle.cdc_subscriber.specs.declared.subscriber.Taking.TheVariants.{Applied, Repeat, Ended, AfterClose}
use Rattle.cdc_subscriber.specs.Answers.{answer_to}
use Rattle.cdc_subscriber.specs.Book.{balances_shown, book_of}
use Rattle.cdc_subscriber.specs.Reception.{Reception, kept_of, next}
use Rattle.cdc_subscriber.specs.Lines.{subscriber_text}

-- an account as an event shows it
abbrev side : ℕ → ℕ → ℕ → EventAccount
side id debits credits = record {
  id = id;
  debits_pending = 0;
  debits_posted = debits;
  credits_pending = 0;
  credits_posted = credits;
  user_data_128 = 0;
  user_data_64 = 0;
  user_data_32 = 0;
  code = 10;
  flags = 0;
  timestamp = 1000;
}

-- an event between two accounts
abbrev event : ℕ → EventAccount → EventAccount → Event
event timestamp debit credit = record {
  timestamp = timestamp;
  kind = SinglePhase;
  ledger = 700;
  transfer = record {
    id = timestamp;
    amount = 1;
    pending_id = 0;
    user_data_128 = 0;
    user_data_64 = 0;
    user_data_32 = 0;
    timeout = 0;
    code = 1;
    flags = 0;
    timestamp = timestamp;
  };
  debit_account = debit;
  credit_account = credit;
}

-- an account of a book
abbrev entry : ℕ → ℕ → ℕ → BookEntry
entry id debits credits = record {
  id = id;
  balances = record { debits_pending = 0; debits_posted = debits; credits_pending = 0; credits_posted = credits };
}

-- 5 go from account 2 to account 1, and then 7 from account 1 to account 3
abbrev first : Event
first = event 2000 (side 2 5 0) (side 1 0 5)

-- which leaves account 1 with 7 debited, and 5 credited as before
abbrev second : Event
second = event 2001 (side 1 7 5) (side 3 0 7)

-- accounts in the order of their first appearance, each with its last balances
keeps_last_balances : book_of (first ∷ second ∷ []) ≡ entry 2 5 0 ∷ entry 1 7 5 ∷ entry 3 0 7 ∷ []
keeps_last_balances = refl

-- of an event whose accounts have one number the credited one counts
keeps_credited : book_of (event 2000 (side 1 5 0) (side 1 0 5) ∷ []) ≡ entry 1 0 5 ∷ []
keeps_credited = refl

-- what events show of an account, and of one that they don't have
shows_last : (balances_shown (first ∷ second ∷ []) 1 ≡ Some (entry 1 7 5).balances)
    × (balances_shown (first ∷ second ∷ []) 9 ≡ None)
shows_last = (refl, refl)

-- an open subscriber that has received these items
abbrev having : List Item → Reception
having items = record { items = items; closed = false }

-- the second event, the first one late, the second one again, and the end mark
abbrev late_first : Reception
late_first = having (item.Event second ∷ item.Event first ∷ item.Event second ∷ item.EndMark ∷ [])

-- an event that comes late is never applied
drops_late : kept_of late_first
    ≡ record { book = entry 1 7 5 ∷ entry 3 0 7 ∷ []; last = 2001; applied = 1; ended = true; closed = false }
drops_late = refl

-- after the end mark, and after a close, nothing more is received
receives_no_more : (next late_first (item.Event first) ≡ late_first)
    × (next (record { items = []; closed = true }) item.EndMark ≡ record { items = []; closed = true })
receives_no_more = (refl, refl)

-- an event is applied once, and one with timestamp 0 never; the end mark is answered with `Ended` once; a closed
-- subscriber answers `AfterClose`, even after the end mark
answers : (answer_to (kept_of (having [])) (item.Event first) ≡ Applied)
    × (answer_to (kept_of (having (item.Event first ∷ []))) (item.Event first) ≡ Repeat)
    × (answer_to (kept_of (having [])) (item.Event (event 0 (side 1 1 0) (side 2 0 1))) ≡ Repeat)
    × (answer_to (kept_of (having [])) item.EndMark ≡ Ended)
    × (answer_to (kept_of late_first) item.EndMark ≡ Repeat)
    × (answer_to (kept_of (record late_first { closed = true })) item.EndMark ≡ AfterClose)
answers = (refl, refl, refl, refl, refl, refl)

-- what a subscriber prints
prints : subscriber_text 3 (kept_of late_first)
    ≡ codes "subscriber 3 applied 1 last 2001 ended yes closed no\naccount 1 0 7 0 5\naccount 3 0 0 0 7\n"
unfolding digits
prints = refl

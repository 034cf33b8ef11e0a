-- The book of the first so many of a ledger's events has the balances that the ledger had at the last of these.
use Rattle.std.proofs.Common.{◌≡◌, ℕ, ◌<◌, ◌≤◌, List, [], ◌∷◌, ◌++◌, map, append-nil, refl, sym, subst, ap, ap₂, ◌∙◌, append_assoc, arith, inl, inr}
use Rattle.std.proofs.lemmas.Bool.Decides.{eqb_tells}
use Rattle.std.proofs.lemmas.Grind.{flat_map-append}
use Rattle.std.proofs.lemmas.List.{reverse-append}
use Rattle.std.proofs.lemmas.List.Folds.{find-append}
use Rattle.std.specs.Prelude.{◌==◌, find, reverse, Option, Some, None, IsSome, option_map, unwrap_or}
use Rattle.std.specs.Option.{option_or}
use Rattle.std.specs.List.{AllByRecursion, flat_map}
use Rattle.cdc_types.specs.declared.accounts.Balances.{Balances}
use Rattle.cdc_types.specs.declared.events.Entry.{Entry}
use Rattle.cdc_types.specs.declared.events.Event.{Event}
use Rattle.cdc_ledger.specs.Balances.{as_of, balances}
use Rattle.cdc_ledger.specs.Changes.{pushed}
use Rattle.cdc_ledger.specs.Events.{events, event_of, nobody, shown_account, shown_transfer}
use Rattle.cdc_ledger.specs.History.{Opened, History, opened}
use Rattle.cdc_ledger.specs.Sound.{RiseFrom, HasAccounts, IsSound}
use Rattle.cdc_ledger.proofs.BalanceLaws.{balances-pushed_before}
use Rattle.cdc_ledger.proofs.Changes.{IsUpTo}
use Rattle.cdc_ledger.proofs.Elements.{AllByRecursion_push, AllByRecursion-every, AllByRecursion-weaker, map_same}
use Rattle.cdc_ledger.proofs.EventLaws.{events-pushed}
use Rattle.cdc_ledger.proofs.OpenedLaws.{opened_id}
use Rattle.cdc_ledger.proofs.OtherLaws.{HasSidesOf, sides_of_all, balances-pushed_other}
use Rattle.cdc_types.specs.Timestamps.{last_timestamp, last_timestamp_from}
use Rattle.cdc_message.specs.Replays.{IsPrefix}
use Rattle.cdc_subscriber.specs.declared.book.BookEntry.{BookEntry}
use Rattle.cdc_subscriber.specs.Book.{accounts_of, book_of, entry_of, last_shown, sides, unseen}
use Rattle.cdc_subscriber.proofs.BookFinds.{balances_in-book_of}
use Rattle.cdc_laws.specs.Faithful.{HoldsBalances, no_balances}

-- what events show last of the account of this id
abbrev seen : ℕ → List Event → Option BookEntry
seen id es = find (λ entry. entry.id == id) (reverse (flat_map sides es))

-- what one event shows of it: the credited side comes after the debited one
abbrev shown : ℕ → Event → Option BookEntry
shown id e = find (λ entry. entry.id == id) (entry_of e.credit_account ∷ entry_of e.debit_account ∷ [])

-- the balances shown, or four zeros if nothing was shown
abbrev sums : Option BookEntry → Balances
sums o = unwrap_or (option_map (λ entry. entry.balances) o) no_balances

-- one more event
seen-push : (id : ℕ) (es : List Event) (e : Event) → seen id (es ++ e ∷ []) ≡ option_or (shown id e) (seen id es)
seen-push id es e =
    rw (flat_map-append sides es (e ∷ []), reverse-append (flat_map sides es) (sides e))
    (find-append (λ entry. entry.id == id) (entry_of e.credit_account ∷ entry_of e.debit_account ∷ [])
    (reverse (flat_map sides es)))

-- an account that is there is shown under its id
id_found : (h : History) (id : ℕ) (o : Option Opened) → opened h id ≡ o → IsSome o
    → (unwrap_or o nobody).request.id ≡ id
id_found h id None is found = cc
id_found h id (Some x) is found = opened_id h x id is

-- what each account's last event shows of it are its balances at the last timestamp, and an account that no event has
-- has none
abbrev ShowsLast : History → Type 0
ShowsLast h = (id : ℕ) → sums (seen id (events h)) ≡ balances h id h.last

-- one more entry: its two accounts are shown as they are after it, and it leaves those of all others
ShowsLast-pushed : (h : History) (e : Entry) → ShowsLast h → IsUpTo h.last h → h.last < e.timestamp
    → AllByRecursion (HasSidesOf e) h.entries → HasAccounts h e → ShowsLast (pushed h e)
ShowsLast-pushed h e shows within after sides known id =
    rw (events-pushed h e within after, seen-push id (events h) (event_of (pushed h e) e)) by_side
  where
    credit_id : (event_of (pushed h e) e).credit_account.id ≡ e.transfer.credit_account_id
    credit_id = id_found h e.transfer.credit_account_id _ refl known.1

    debit_id : (event_of (pushed h e) e).debit_account.id ≡ e.transfer.debit_account_id
    debit_id = id_found h e.transfer.debit_account_id _ refl known.0

    by_side : sums (option_or (shown id (event_of (pushed h e) e)) (seen id (events h)))
        ≡ balances (pushed h e) id e.timestamp
    by_side =
        elim (eqb_tells (event_of (pushed h e) e).credit_account.id id) [
          | inl c ↦ rw c.0 (ap (λ (n : ℕ). balances (pushed h e) n e.timestamp) (sym credit_id ∙ c.1))
          | inr c ↦ elim (eqb_tells (event_of (pushed h e) e).debit_account.id id) [
            | inl d ↦ rw (c.0, d.0) (ap (λ (n : ℕ). balances (pushed h e) n e.timestamp) (sym debit_id ∙ d.1))
            | inr d ↦ rw (c.0, d.0)
                (shows id ∙ sym (balances-pushed_other h e id within after sides
                (λ same. d.1 (debit_id ∙ same)) (λ same. c.1 (credit_id ∙ same))))
          ]
        ]

-- the timestamp of the last entry, or the given one if there are none
abbrev end_timestamp : ℕ → List Entry → ℕ
end_timestamp t [] = t
end_timestamp t (e ∷ es) = end_timestamp e.timestamp es

-- a history with further entries
abbrev followed : History → List Entry → History
followed h es = record h { entries = h.entries ++ es; last = end_timestamp h.last es }

-- a history before its first entry
abbrev before_all : History → History
before_all h = record h { entries = []; last = 0 }

-- what holds of each entry of a ledger holds of the first of them, which are all that a subscriber may know of yet
all_front : (P : Entry → Type 0) (xs ys : List Entry) → AllByRecursion P (xs ++ ys) → AllByRecursion P xs
all_front P [] ys all = tt
all_front P (x ∷ xs) ys all = (all.0, all_front P xs ys all.1)

-- no entry is past one more entry
IsUpTo-pushed : (h : History) (e : Entry) → IsUpTo h.last h → h.last < e.timestamp → IsUpTo e.timestamp (pushed h e)
IsUpTo-pushed h e within after =
    AllByRecursion_push (λ x. x.timestamp ≤ e.timestamp) h.entries e
    (AllByRecursion-weaker _ (λ x. x.timestamp ≤ e.timestamp) (λ x early. omega arith) h.entries within) (omega arith)

-- so it goes on through further entries, even if more entries follow
ShowsLast-followed : (all : List Entry) (h : History) (es later : List Entry) → h.entries ++ (es ++ later) ≡ all
    → ShowsLast h → IsUpTo h.last h → RiseFrom h.last es
    → AllByRecursion (λ e. AllByRecursion (HasSidesOf e) all) es → AllByRecursion (HasAccounts h) es
    → ShowsLast (followed h es) × IsUpTo (end_timestamp h.last es) (followed h es)
ShowsLast-followed all h [] later whole shows within rise sides known = rw append-nil (shows, within)
ShowsLast-followed all h (e ∷ es) later whole shows within rise sides known =
    let before = all_front (HasSidesOf e) h.entries (e ∷ (es ++ later)) (rw whole sides.0) in
    let next = ShowsLast-pushed h e shows within rise.0 before known.0 in
    let rest = ShowsLast-followed all (pushed h e) es later (append_assoc h.entries (e ∷ []) (es ++ later) ∙ whole) next
    (IsUpTo-pushed h e within rise.0) rise.1 sides.1 known.1 in
    rw append_assoc at rest

-- entries later than a timestamp leave the balances as of it unchanged
balances-followed : (h : History) (id t : ℕ) (es : List Entry) → t ≤ h.last → RiseFrom h.last es
    → balances (followed h es) id t ≡ balances h id t
balances-followed h id t [] within rise = rw append-nil refl
balances-followed h id t (e ∷ es) within rise =
    let rest = balances-followed (pushed h e) id t es (omega (arith, rise.0)) rise.1 in
    rw append_assoc at rest ∙ balances-pushed_before h e id t (omega (arith, rise.0))

-- entries later than all others leave their events
events-followed : (h : History) (es : List Entry) → IsUpTo h.last h → RiseFrom h.last es
    → map (event_of (followed h es)) h.entries ≡ events h
events-followed h es within rise =
    map_same (event_of (followed h es)) (event_of h) h.entries
    (AllByRecursion-weaker (λ x. x.timestamp ≤ h.last) (λ x. event_of (followed h es) x ≡ event_of h x)
    (λ x early. ap₂ (event_with x) (balances-followed h x.transfer.debit_account_id x.timestamp es early rise)
    (balances-followed h x.transfer.credit_account_id x.timestamp es early rise)) h.entries within)
  where
    event_with : Entry → Balances → Balances → Event
    event_with x debits credits = record {
      timestamp = x.timestamp;
      kind = x.kind;
      ledger = x.transfer.ledger;
      transfer = shown_transfer x.transfer;
      debit_account = shown_account (unwrap_or (opened h x.transfer.debit_account_id) nobody) debits;
      credit_account = shown_account (unwrap_or (opened h x.transfer.credit_account_id) nobody) credits;
    }

-- the last timestamp of entries is that of the last of their events
last-events : (h : History) (t : ℕ) (es : List Entry) → last_timestamp_from t (map (event_of h) es) ≡ end_timestamp t es
last-events h t [] = refl
last-events h t (e ∷ es) = last-events h e.timestamp es

-- a prefix of a mapped list is the image of a prefix of the list
record Front {X Y : Type 0} (f : X → Y) (xs : List X) (start : List Y) : Type 0 where
  front : List X
  back : List X
  whole : front ++ back ≡ xs
  made : map f front ≡ start

-- so that the events that a subscriber has applied are those of the ledger's first entries
front_of : {X Y : Type 0} (f : X → Y) (xs : List X) (start rest : List Y) → start ++ rest ≡ map f xs → Front f xs start
front_of f xs [] rest same = record { front = []; back = xs; whole = refl; made = refl }
front_of f [] (y ∷ start) rest same = cc
front_of f (x ∷ xs) (y ∷ start) rest same =
    let others : start ++ rest ≡ map f xs = cc in
    let more = front_of f xs start rest others in
    record { front = x ∷ more.front; back = more.back; whole = ap (λ zs. x ∷ zs) more.whole; made = cc }

-- the entries after the first ones are later than these, so they change no balances as of the last of these
rise_back : (t : ℕ) (xs ys : List Entry) → RiseFrom t (xs ++ ys) → RiseFrom (end_timestamp t xs) ys
rise_back t [] ys rise = rise
rise_back t (x ∷ xs) ys rise = rise_back x.timestamp xs ys rise.1

-- and the first ones rise by themselves
rise_front : (t : ℕ) (xs ys : List Entry) → RiseFrom t (xs ++ ys) → RiseFrom t xs
rise_front t [] ys rise = tt
rise_front t (x ∷ xs) ys rise = (rise.0, rise_front x.timestamp xs ys rise.1)

-- the book of the events of the first entries holds the balances as of the last of these, later entries or not
holds_front : (h : History) → IsSound h → (front back : List Entry) → front ++ back ≡ h.entries
    → HoldsBalances h (map (event_of h) front)
holds_front h sound front back whole id =
    ap (λ o. unwrap_or o no_balances) (balances_in-book_of (map (event_of h) front) id)
    ∙ (ap (λ es. sums (seen id es)) same_events ∙ (shows.0 id ∙ sym as_of_end))
  where
    at_front : History
    at_front = followed (before_all h) front

    rises : RiseFrom 0 (front ++ back)
    rises = rw whole sound.rising

    shows : ShowsLast at_front × IsUpTo (end_timestamp 0 front) at_front
    shows = ShowsLast-followed h.entries (before_all h) front back whole (λ n. refl) tt (rise_front 0 front back rises)
        (all_front _ front back (rw whole (sides_of_all h sound))) (all_front _ front back (rw whole sound.known))

    same_events : map (event_of h) front ≡ events at_front
    same_events = rw whole at (events-followed at_front back shows.1 (rise_back 0 front back rises))

    as_of_end : as_of h (last_timestamp (map (event_of h) front)) id ≡ balances at_front id (end_timestamp 0 front)
    as_of_end =
        rw (last-events h 0 front)
        (rw whole at
        (balances-followed at_front id (end_timestamp 0 front) back (omega arith) (rise_back 0 front back rises)))

-- the book of a prefix of a ledger's events holds, for every number, the ledger's balances as of the last event of
-- the prefix
pub holds-balances : (h : History) (emitted : List Event) → IsSound h → IsPrefix emitted (events h)
    → HoldsBalances h emitted
holds-balances h emitted sound start =
    let split = front_of (event_of h) h.entries emitted start.rest start.whole in
    subst (HoldsBalances h) split.made (holds_front h sound split.front split.back split.whole)

-- what was shown last of an account has its number
found_id : (entries : List BookEntry) (id : ℕ)
    → (unwrap_or (find (λ entry. entry.id == id) entries) (unseen id)).id ≡ id
found_id [] id = refl
found_id (entry ∷ entries) id =
    elim (eqb_tells entry.id id) [
      | inl same ↦ rw same.0 same.1
      | inr other ↦ rw other.0 (found_id entries id)
    ]

-- and its balances, or four zeros if nothing was shown
found_sums : (o : Option BookEntry) (id : ℕ) → (unwrap_or o (unseen id)).balances ≡ sums o
found_sums None id = refl
found_sums (Some entry) id = refl

-- so each account of a prefix of a ledger's events was shown last with its balances as of the last event of the
-- prefix
pub last_shown-prefix : (h : History) (emitted : List Event) → IsSound h → IsPrefix emitted (events h) → (id : ℕ)
    → last_shown (flat_map sides emitted) id ≡ record { id = id; balances = as_of h (last_timestamp emitted) id }
last_shown-prefix h emitted sound start id =
    ap₂ (λ (n : ℕ) (b : Balances). record { id = n; balances = b }) (found_id (reverse (flat_map sides emitted)) id)
    (found_sums (seen id emitted) id
    ∙ ap (λ o. unwrap_or o no_balances) (sym (balances_in-book_of emitted id))
    ∙ holds-balances h emitted sound start id)

-- the whole book of a prefix of a ledger's events: the accounts of these events, in the order of their first
-- appearance, each with the ledger's balances as of the last of these events
pub book_of-prefix : (h : History) (emitted : List Event) → IsSound h → IsPrefix emitted (events h)
    → book_of emitted ≡ map (λ id. record { id = id; balances = as_of h (last_timestamp emitted) id })
    (accounts_of emitted)
book_of-prefix h emitted sound start =
    map_same _ _ (accounts_of emitted) (AllByRecursion-every _ (last_shown-prefix h emitted sound start)
    (accounts_of emitted))

-- What the ledger's tables are after one more entry.
use Rattle.cdc_ledger.proofs.Words.{[], ◌&&◌, ◌++◌, ◌+◌, ◌<◌, ◌==◌, ◌∙◌, ◌∷◌, ◌≡◌, ◌≤◌, Account, All, AreApart, Balances, Contents, Effect, Entry, Event, EventAccount, Follows, History, Inside, IsKept, IsMovement, IsPlaced, IsSound, List, Movement, None, Opened, Option, SideFits, Some, Takes, Vec, account_after, account_at, account_ids, account_now, account_place, accounts_after, accounts_now, ap, ap₂, arith, balances, cond, contents_of, effect_by, effect_of, effect_of_movement, endings_after, endings_of, event_from, event_of, get_or, history_of, if◌then◌else◌, length, map, max_128, max_timestamp, nat_lt, no_balances, nobody, not, opened, opened_as, option_map, place_of, position_or_len, pushed, refl, settled_by, settled_transfer, settles, shown_account, shown_as, shown_in, shown_transfer, stored_place, stores, subst, sym, unwrap_or, with_items, ℕ}
use Rattle.std.specs.Prelude.{IsSome}
use Rattle.std.proofs.lemmas.List.{length-map, with_items_is}
use Rattle.std.proofs.lemmas.List.Elements.{All-map}
use Rattle.cdc_ledger.proofs.AccountLaws.{accounts_now-pushed}
use Rattle.cdc_ledger.proofs.BalanceLaws.{released_debit, released_credit}
use Rattle.cdc_ledger.proofs.Elements.{map-map}
use Rattle.cdc_ledger.proofs.Found.{find-accounts_now}
use Rattle.cdc_ledger.proofs.OpenedLaws.{opened_id}
use Rattle.cdc_ledger.proofs.PlaceLaws.{transfers_placed-pushed}
use Rattle.cdc_ledger.proofs.EndingLaws.{endings_of-pushed}
use Rattle.cdc_ledger.proofs.SoundLaws.{both_fit, IsSound-pushed}

-- the sums of the two accounts take the entry's effect
module _ (h : History) (e : Entry) (sound : IsSound h) (follows : Follows h e) (after : h.last < e.timestamp) where
  -- what the entry does to balances
  abbrev f : Effect
  f = effect_of h e

  -- sums that fit together take the effect each by itself
  side_fits : (pending posted held moved released : ℕ) (g : Effect) → g.held ≡ held → g.moved ≡ moved
      → g.released ≡ released
      → pending + posted + held + moved ≤ max_128 + released → released ≤ pending → SideFits g pending posted
  side_fits pending posted held moved released g a b c fits enough = record {
    released = omega (arith, c);
    held = omega (arith, a, c);
    moved = omega (arith, b);
  }

  -- the debited account's sums do
  debit_fits : (id : ℕ) → id ≡ e.transfer.debit_account_id
      → SideFits f (balances h id h.last).debits_pending (balances h id h.last).debits_posted
  debit_fits id same =
      let b : Balances = balances h e.transfer.debit_account_id h.last in
      subst (λ n. SideFits f (balances h n h.last).debits_pending (balances h n h.last).debits_posted) (sym same)
      (side_fits b.debits_pending b.debits_posted f.held f.moved f.released f refl refl refl
      (both_fit h e sound follows (settles e.kind) refl).0 (released_debit h e sound follows after))

  -- and so do those of the credited one
  credit_fits : (id : ℕ) → id ≡ e.transfer.credit_account_id
      → SideFits f (balances h id h.last).credits_pending (balances h id h.last).credits_posted
  credit_fits id same =
      let b : Balances = balances h e.transfer.credit_account_id h.last in
      subst (λ n. SideFits f (balances h n h.last).credits_pending (balances h n h.last).credits_posted) (sym same)
      (side_fits b.credits_pending b.credits_posted f.held f.moved f.released f refl refl refl
      (both_fit h e sound follows (settles e.kind) refl).1 (released_credit h e sound follows after))

  -- so every account does, whichever of the two it is, if any
  takes_each : All (Takes f e.transfer.debit_account_id e.transfer.credit_account_id) (accounts_now h)
  takes_each =
      All-map (Takes f e.transfer.debit_account_id e.transfer.credit_account_id) (account_now h) h.accounts
      (λ k d inside. (debit_fits (get_or h.accounts k d).request.id, credit_fits (get_or h.accounts k d).request.id))

-- the movement of an entry has its effect
pub effect-movement : (h : History) (m : Movement) → settled_transfer m ≡ settled_by h m.entry
    → effect_of_movement m ≡ effect_of h m.entry
effect-movement h m settled = ap (λ p. effect_by p m.entry) settled

-- a movement that the tables can take: its entry may come next
pub record CanTake (t : Inside) (m : Movement) : Type 0 where
  pub kept : IsKept t
  pub follows : Follows (history_of t) m.entry
  pub later : t.last < m.entry.timestamp
  pub movement : IsMovement (history_of t) m

-- the same, from what is known of the tables' contents
pub CanTake-from : (t : Inside) (v : Contents) (m : Movement) → contents_of t ≡ v → IsKept t
    → Follows v.history m.entry → v.history.last < m.entry.timestamp → IsMovement v.history m → CanTake t m
CanTake-from t v m is kept follows later movement =
    let same : history_of t ≡ v.history = ap (λ (u : Contents). u.history) is in
    record {
      kept = kept;
      follows = subst (λ (h : History). Follows h m.entry) (sym same) follows;
      later = subst (λ (h : History). h.last < m.entry.timestamp) (sym same) later;
      movement = subst (λ (h : History). IsMovement h m) (sym same) movement;
    }

-- the running balances take the movement, so that no sum or difference of `apply` passes its width
pub All-Takes : (t : Inside) (m : Movement) → CanTake t m
    → All (Takes (effect_of_movement m) m.entry.transfer.debit_account_id m.entry.transfer.credit_account_id)
    t.accounts.items
All-Takes t m can =
    let P : Effect → List Account → Type 0 =
    λ g xs. All (Takes g m.entry.transfer.debit_account_id m.entry.transfer.credit_account_id) xs in
    subst (λ xs. P (effect_of_movement m) xs) (sym can.kept.balanced)
    (subst (λ g. P g (accounts_now (history_of t))) (sym (effect-movement (history_of t) m can.movement.settled))
    (takes_each (history_of t) m.entry can.kept.sound can.follows can.later))

-- the movement's places are those of the accounts that the tables keep
pub IsPlaced-kept : (t : Inside) (m : Movement) → CanTake t m → IsPlaced t.accounts.items m
IsPlaced-kept t m can = subst (λ (xs : List Account). IsPlaced xs m) (sym can.kept.balanced) can.movement.placed

-- accounts have the ids that they were opened with, whatever their balances
pub ids_opened : (xs : List Account) → account_ids xs ≡ map (λ o. o.request.id) (map opened_as xs)
ids_opened xs = sym (map-map (λ (o : Opened). o.request.id) opened_as xs)

-- no two accounts of the tables have one id, so that a movement changes just two of them
pub AreApart-kept : (t : Inside) → IsKept t → AreApart (account_ids t.accounts.items)
AreApart-kept t kept = subst AreApart (sym (ids_opened t.accounts.items)) kept.sound.unique

-- a change of balances opens no account and moves none
module _ (m : Movement) where
  -- accounts keep everything but their balances
  opened_as-changed : (xs : List Account) → map opened_as (accounts_after m xs) ≡ map opened_as xs
  opened_as-changed [] = refl
  opened_as-changed (a ∷ rest) = ap (λ os. opened_as a ∷ os) (opened_as-changed rest)

  -- an id is found as far down the list as before
  before_changed : (id : ℕ) (xs : List Account)
      → position_or_len (λ a. a.id == id) (accounts_after m xs) ≡ position_or_len (λ a. a.id == id) xs
  before_changed id [] = refl
  before_changed id (a ∷ rest) = ap (λ n. cond (not (a.id == id)) (1 + n) 0) (before_changed id rest)

  -- so it has the place that it had
  pub account_place-changed : (id : ℕ) (xs : List Account)
      → account_place (accounts_after m xs) id ≡ account_place xs id
  account_place-changed id xs =
      ap₂ (λ n l. cond (nat_lt n l) (Some n) None) (before_changed id xs) (length-map xs _)

  -- so the movement's places still hold when its event is made of the changed accounts
  pub IsPlaced-changed : (xs ys : List Account) → ys ≡ accounts_after m xs → IsPlaced xs m → IsPlaced ys m
  IsPlaced-changed xs ys same placed =
      subst (λ zs. IsPlaced zs m) (sym same) (record {
        debit = account_place-changed m.entry.transfer.debit_account_id xs ∙ placed.debit;
        credit = account_place-changed m.entry.transfer.credit_account_id xs ∙ placed.credit;
      })

  -- so the tables hold the history with one more entry, and nothing else new
  pub history-recorded : (t t' : Inside) → t'.accounts.items ≡ accounts_after m t.accounts.items
      → t'.entries.items ≡ t.entries.items ++ m.entry ∷ [] → t'.last ≡ m.entry.timestamp → t'.closed ≡ t.closed
      → history_of t' ≡ pushed (history_of t) m.entry
  history-recorded t t' accounts entries last closed =
      let opened : map opened_as t'.accounts.items ≡ map opened_as t.accounts.items =
      ap (map opened_as) accounts ∙ opened_as-changed t.accounts.items in
      cc

-- the accounts now, as they are shown
shown_in-found : (h : History) (id : ℕ) (found : Option Opened) → opened h id ≡ found → IsSome found
    → shown_in (accounts_now h) id ≡ account_at h id h.last
shown_in-found h id None is has = cc
shown_in-found h id (Some o) is has =
    ap (λ x. unwrap_or (option_map shown_as x) (shown_account nobody no_balances))
    (find-accounts_now h id ∙ ap (option_map (account_now h)) is)
    ∙ ap (λ i. shown_account o (balances h i h.last)) (opened_id h o id is)
    ∙ sym (ap (λ x. shown_account (unwrap_or x nobody) (balances h id h.last)) is)

-- the event that is made of the running balances is the one that the entry has by definition
pub event_from-now : (h : History) (e : Entry) → IsSome (opened h e.transfer.debit_account_id)
    → IsSome (opened h e.transfer.credit_account_id)
    → h.last ≡ e.timestamp → event_from (accounts_now h) e ≡ event_of h e
event_from-now h e debit credit last =
    let shown : EventAccount → EventAccount → Event = λ d c. record {
      timestamp = e.timestamp;
      kind = e.kind;
      ledger = e.transfer.ledger;
      transfer = shown_transfer e.transfer;
      debit_account = d;
      credit_account = c;
    } in
    ap₂ shown
    (shown_in-found h e.transfer.debit_account_id (opened h e.transfer.debit_account_id) refl debit
    ∙ ap (account_at h e.transfer.debit_account_id) last)
    (shown_in-found h e.transfer.credit_account_id (opened h e.transfer.credit_account_id) refl credit
    ∙ ap (account_at h e.transfer.credit_account_id) last)

-- the accounts after the movement are those after its entry
pub accounts-recorded : (t : Inside) (m : Movement) → CanTake t m
    → accounts_after m t.accounts.items ≡ accounts_now (pushed (history_of t) m.entry)
accounts-recorded t m can =
    let d : ℕ = m.entry.transfer.debit_account_id in
    let c : ℕ = m.entry.transfer.credit_account_id in
    ap (λ (g : Effect). map (account_after g d c) t.accounts.items)
    (effect-movement (history_of t) m can.movement.settled)
    ∙ ap (map (account_after (effect_of (history_of t) m.entry) d c)) can.kept.balanced
    ∙ sym (accounts_now-pushed (history_of t) m.entry can.kept.sound can.follows can.later)

-- the vector after its elements were mapped in place
pub items-with_items : {X Z : Type 0} (v : Vec X Z) (f : X → X) (ws xs : List X) → ws ≡ map f xs → xs ≡ v.items
    → (with_items v ws).items ≡ map f v.items
items-with_items v f ws xs mapped same =
    let written : ws ≡ map f v.items = mapped ∙ ap (map f) same in
    with_items_is v ws (ap length written ∙ length-map v.items f ∙ sym v.ok.0) ∙ written

-- the event that is made of the accounts after the movement is that of its entry
pub event_of-recorded : (t : Inside) (m : Movement) (xs : List Account) → CanTake t m
    → xs ≡ accounts_after m t.accounts.items
    → event_from xs m.entry ≡ event_of (pushed (history_of t) m.entry) m.entry
event_of-recorded t m xs can changed =
    ap (λ (ys : List Account). event_from ys m.entry) (changed ∙ accounts-recorded t m can)
    ∙ event_from-now (pushed (history_of t) m.entry) m.entry can.follows.accounts.0 can.follows.accounts.1 refl

-- what is kept of the tables is kept after the movement, whose entry takes this place
pub IsKept-recorded : (t t' : Inside) (m : Movement) (place : ℕ) → CanTake t m → m.entry.timestamp ≤ max_timestamp
    → place ≡ length t.entries.items
    → t'.accounts.items ≡ accounts_after m t.accounts.items
    → t'.account_places ≡ t.account_places
    → ((id : ℕ) → place_of t'.transfer_places id
    ≡ (if stores m.entry.kind && (m.entry.transfer.id == id) then Some place else place_of t.transfer_places id))
    → t'.endings.items ≡ endings_after m.settled m.entry.kind t.endings.items
    → history_of t' ≡ pushed (history_of t) m.entry → IsKept t'
IsKept-recorded t t' m place can top at accounts places added endings same =
    let h : History = history_of t in
    let now : t'.accounts.items ≡ accounts_now (pushed h m.entry) =
    accounts ∙ accounts-recorded t m can in
    record {
      balanced = now ∙ ap accounts_now (sym same);
      accounts_placed = λ id. ap (λ ids. place_of ids id) places ∙ can.kept.accounts_placed id
          ∙ sym (account_place-changed m id t.accounts.items) ∙ ap (λ xs. account_place xs id) (sym accounts);
      transfers_placed = λ id. transfers_placed-pushed h t.transfer_places t'.transfer_places m.entry can.follows.fresh
          can.kept.transfers_placed
          (λ n. added n ∙ ap (λ k. if stores m.entry.kind && (m.entry.transfer.id == n) then Some k
          else place_of t.transfer_places n) at) id
          ∙ ap (λ (g : History). stored_place g.entries id) (sym same);
      ended = endings ∙ ap (endings_after m.settled m.entry.kind) can.kept.ended
          ∙ sym (endings_of-pushed h m.entry can.kept.sound can.follows m.settled can.movement.settled
          can.movement.found)
          ∙ ap (λ (g : History). endings_of g.entries) (sym same);
      sound = subst IsSound (sym same) (IsSound-pushed h m.entry can.kept.sound can.follows can.later top);
    }

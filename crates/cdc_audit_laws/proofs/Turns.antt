-- In which order the transfers of a ledger expire, by its events.
use Rattle.std.proofs.Common.{◌≡◌, ◌≢◌, ℕ, ◌<◌, ◌≤◌, true, false, ◌∷◌, sym, ap, ◌∙◌, subst, arith, ◌==◌, ◌&&◌, ◌||◌, nat_lt}
use Rattle.cdc_audit_laws.proofs.OfStd.{AllByRecursion, and_from, not_from_false, nat_tests}
use Rattle.cdc_audit_laws.proofs.OfTypes.{Entry, Event, EventTransfer}
use Rattle.cdc_audit_laws.proofs.OfLedger.{expiry, pushed, due, is_due, is_sooner as is_sooner_one, events, shown_transfer, expires_at, History, stores, stores-holds, AllByRecursion-weaker, stored_has}
use Rattle.cdc_audit_laws.proofs.OfAudit.{is_sooner, expires_at as expires_at_shown}
use Rattle.std.proofs.lemmas.Bool.{le-leb}
use Rattle.cdc_ledger.proofs.DueLaws.{due-first, due-rest}
use Rattle.cdc_ledger.proofs.Pending.{All-around, Around, Around-both, Around-weaker, IsAmong, IsOther, IsOther-around, IsStored-found}
use Rattle.cdc_audit_laws.proofs.Coming.{Comes}
use Rattle.cdc_audit_laws.proofs.Expiry.{expired, has_timeout, is_open, on_expired, shows_expired}
use Rattle.cdc_audit_laws.proofs.Soonest.{AllThatExpire, CanExpire, open_entries}

-- an entry that is due can expire
due_can : (h : History) (now : ℕ) (y : Entry) → is_due h now y ≡ true → CanExpire h y
due_can h now y is = grind arith

-- of two pairs of which the second isn't before the first, the first is before the second, if they differ
before_other : (a b s t : ℕ) → (nat_lt b a || ((b == a) && nat_lt t s)) ≡ false → t ≢ s
    → (nat_lt a b || ((a == b) && nat_lt s t)) ≡ true
before_other a b s t not_before other = grind (arith, nat_tests)

-- the transfer of an expiry can expire: so what holds of each such time holds of its own
pub its_time : (h : History) (e : Event) (comes : Comes h e) (storing : stores e.kind ≡ false) (P : ℕ → Type 0)
    → AllThatExpire (events h) (λ y. P (expires_at_shown y.transfer)) → P (expires_at_shown e.transfer)
its_time h e comes storing P all =
    let on = on_expired h e comes storing in
    subst (λ x. P (expires_at_shown x)) (shows_expired h e comes storing).shown
    (stored_has (λ y. CanExpire h y → P (expires_at y.transfer)) h e.transfer.id on.entry
    (open_entries h (λ y. P (expires_at_shown y.transfer)) comes.sound all) on.named (record {
      holding = on.pending;
      timed = has_timeout h e comes storing;
      unsettled = (is_open h e comes storing).unsettled;
    }))

-- the expiry of an event that no open transfer comes before is the next one of a pulse at this time
module _ (h : History) (e : Event) (comes : Comes h e) (storing : stores e.kind ≡ false)
    (first : AllThatExpire (events h) (λ y. is_sooner y.transfer e.transfer ≡ false)) (now : ℕ)
    (up : expires_at (expired h e comes storing) ≤ now) where
  abbrev entry : Entry
  entry = (on_expired h e comes storing).entry

  among : IsAmong h.entries entry
  among = (IsStored-found h e.transfer.id entry (on_expired h e comes storing).named).among

  stored_one : stores entry.kind ≡ true
  stored_one = stores-holds entry.kind (on_expired h e comes storing).pending

  is_due_one : is_due h now entry ≡ true
  is_due_one =
      and_from _ _ (and_from _ _ (and_from _ _ (on_expired h e comes storing).pending
      (not_from_false _ (has_timeout h e comes storing))) (le-leb (expires_at entry.transfer) now up))
      (not_from_false _ (is_open h e comes storing).unsettled)

  -- no other one that is due is sooner
  none_sooner : AllByRecursion (λ y. is_due h now y ≡ true → is_sooner_one y.transfer entry.transfer ≡ false) h.entries
  none_sooner =
      AllByRecursion-weaker _ _ (λ y not_sooner is.
      ap (λ (x : EventTransfer). is_sooner (shown_transfer y.transfer) x) (shows_expired h e comes storing).shown
      ∙ not_sooner (due_can h now y is)) h.entries
      (open_entries h (λ y. is_sooner y.transfer e.transfer ≡ false) comes.sound first)

  soonest : Around (λ y. is_due h now y ≡ true → is_sooner_one entry.transfer y.transfer ≡ true) among.front among.back
  soonest =
      Around-weaker
      (λ y. (is_due h now y ≡ true → is_sooner_one y.transfer entry.transfer ≡ false)
      × (stores y.kind ≡ true → IsOther entry y))
      (λ y. is_due h now y ≡ true → is_sooner_one entry.transfer y.transfer ≡ true)
      (λ y both is.
      let other : IsOther entry y = both.1 (stores-holds y.kind (due_can h now y is).holding) in
      before_other (expires_at entry.transfer) (expires_at y.transfer) entry.transfer.timestamp y.transfer.timestamp
      (both.0 is) other.time) among.front among.back
      (Around-both (λ y. is_due h now y ≡ true → is_sooner_one y.transfer entry.transfer ≡ false)
      (λ y. stores y.kind ≡ true → IsOther entry y) among.front among.back
      (All-around (λ y. is_due h now y ≡ true → is_sooner_one y.transfer entry.transfer ≡ false) h.entries entry among
      none_sooner)
      (IsOther-around h entry among comes.sound stored_one))

  pub next_due : (t : ℕ) → h.last < t
      → due h now ≡ expired h e comes storing ∷ due (pushed h (expiry (expired h e comes storing) t)) now
  next_due t later =
      due-first h now entry among is_due_one soonest
      ∙ ap (λ ps. entry.transfer ∷ ps)
      (sym (due-rest h now entry among comes.sound (on_expired h e comes storing).pending t later))

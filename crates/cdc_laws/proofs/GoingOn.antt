-- A batch only adds later events to a ledger that isn't closed.
use Rattle.std.proofs.Common.{◌≡◌, ℕ, ◌+◌, ◌<◌, ◌≤◌, Bool, true, false, List, [], ◌∷◌, ◌++◌, refl, sym, ap, ap₂, ◌∙◌, subst, append_assoc, append-nil, arith}
use Rattle.std.specs.Prelude.{Option, Some, None, Result, Ok, Err}
use Rattle.std.specs.List.{AllByRecursion}
use Rattle.cdc_ledger.specs.declared.errors.BatchError.{BatchError}
use Rattle.cdc_ledger.specs.Changes.{expiry}
use Rattle.cdc_ledger.specs.Due.{due}
use Rattle.cdc_ledger.specs.Events.{event_of, events}
use Rattle.cdc_ledger.specs.History.{History, Opened}
use Rattle.cdc_ledger.specs.Sound.{HasAccounts, IsSound}
use Rattle.cdc_ledger.specs.Submit.{account_rules, accounts_from, answered, base, entry_of, expiries_from, opened_by, refusal_of, submit, taken, transfer_rules, transfers_from, Extends, after_batches, closed_if, history_or}
use Rattle.cdc_ledger.proofs.ChainLaws.{items_from-keeps}
use Rattle.cdc_ledger.proofs.Changes.{pushed, with_account, timed}
use Rattle.cdc_ledger.proofs.Elements.{AllByRecursion-weaker, AllByRecursion_push}
use Rattle.cdc_ledger.proofs.EventLaws.{events-pushed, events-with_account}
use Rattle.cdc_ledger.proofs.KeptLaws.{IsSound-after_batches}
use Rattle.cdc_ledger.proofs.SoundLaws.{IsSound-closed}
use Rattle.cdc_ledger.proofs.LegalLaws.{submit_open}
use Rattle.cdc_ledger.proofs.OpenedLaws.{HasAccounts-with_account}
use Rattle.cdc_types.specs.declared.accounts.NewAccount.{NewAccount}
use Rattle.cdc_types.specs.declared.batches.Batch.{Batch}
use Rattle.cdc_types.specs.declared.batches.Batch.TheVariants as batch
use Rattle.cdc_types.specs.declared.batches.BatchResults.{BatchResults}
use Rattle.cdc_types.specs.declared.events.Entry.{Entry}
use Rattle.cdc_types.specs.declared.transfers.NewTransfer.{NewTransfer}
use Rattle.cdc_types.specs.declared.transfers.Transfer.{Transfer}
use Rattle.cdc_types.specs.declared.events.Event.{Event}
use Rattle.cdc_laws.specs.GoingOn.{GoesOn}
use Rattle.cdc_laws.proofs.ListElements.{AllByRecursion-append}

-- what is asked of a history so that a request adds to it: no entry is past the last timestamp, and both accounts of
-- each entry are there
record IsRegular (h : History) : Type 0 where
  past : AllByRecursion (λ e. e.timestamp ≤ h.last) h.entries
  known : AllByRecursion (HasAccounts h) h.entries

-- g has the events of h and later ones, up to its last timestamp
record Adds (h g : History) : Type 0 where
  new : List Event
  whole : events g ≡ events h ++ new
  later : AllByRecursion (λ e. h.last < e.timestamp) new
  last : h.last ≤ g.last

-- what leaves the events as they are adds none, and only time goes on
abbrev Adds-none : (h g : History) → events g ≡ events h → h.last ≤ g.last → Adds h g
Adds-none h g same last = record { new = []; whole = same ∙ sym (append-nil (events h)); later = tt; last = last }

-- what is added first precedes what is added then, so requests may be taken one by one
abbrev Adds-trans : (h g k : History) → Adds h g → Adds g k → Adds h k
Adds-trans h g k first second = record {
  new = first.new ++ second.new;
  whole = second.whole ∙ ap (λ es. es ++ second.new) first.whole ∙ append_assoc (events h) first.new second.new;
  later = AllByRecursion-append (λ e. h.last < e.timestamp) first.new second.new first.later
      (AllByRecursion-weaker (λ e. g.last < e.timestamp) (λ e. h.last < e.timestamp)
      (λ e later. omega (arith, first.last, later)) second.new second.later);
  last = omega (arith, first.last, second.last);
}

-- ---- a single request

-- entries up to the last timestamp are up to any later one
past-later : (h : History) (t : ℕ) → AllByRecursion (λ e. e.timestamp ≤ h.last) h.entries → h.last ≤ t
    → AllByRecursion (λ e. e.timestamp ≤ t) h.entries
past-later h t past before = AllByRecursion-weaker _ (λ e. e.timestamp ≤ t) (λ e early. omega arith) h.entries past

-- an accepted transfer and an expiry each add their own event, later than all before
Adds-pushed : (h : History) (e : Entry) → AllByRecursion (λ x. x.timestamp ≤ h.last) h.entries → h.last < e.timestamp
    → Adds h (pushed h e)
Adds-pushed h e past later = record {
  new = event_of (pushed h e) e ∷ [];
  whole = events-pushed h e past later;
  later = (later, tt);
  last = omega (arith, later);
}

-- a new entry is the last one, and the next request begins after it
past-pushed : (h : History) (e : Entry) → AllByRecursion (λ x. x.timestamp ≤ h.last) h.entries → h.last < e.timestamp
    → AllByRecursion (λ x. x.timestamp ≤ e.timestamp) (h.entries ++ e ∷ [])
past-pushed h e past later =
    AllByRecursion_push (λ x. x.timestamp ≤ e.timestamp) h.entries e (past-later h _ past (omega (arith, later)))
    (omega arith)

-- ---- the requests of a batch

-- a batch of accounts keeps the events that were there, whichever of its chains are accepted
Adds-accounts_from : (h : History) (t : ℕ) (rs : List NewAccount) → IsRegular h → h.last < t
    → Adds h (accounts_from h t rs).1
Adds-accounts_from h t rs is later =
    (items_from-keeps account_rules (λ g. IsRegular g × Adds h g) (λ n. Unit {0})
    (λ g a n so_far before fits none.
    let o : Opened = opened_by a n in (
      record {
        past = past-later g n so_far.0.past (omega (arith, before));
        known = AllByRecursion-weaker (HasAccounts g) (HasAccounts (with_account g o)) (HasAccounts-with_account g o)
            g.entries so_far.0.known;
      },
      Adds-trans h g (with_account g o) so_far.1
          (Adds-none g _ (events-with_account g o so_far.0.known) (omega (arith, before))),
    ))
    (λ g n so_far before fits. (
      record { past = past-later g n so_far.0.past (omega (arith, before)); known = so_far.0.known },
      Adds-trans h g (timed g n) so_far.1 (Adds-none g _ refl (omega (arith, before))),
    ))
    (λ g a n. refl) h t rs (is, Adds-none h h refl (omega arith)) later (λ n from below. tt)).1

-- no entry is past the last timestamp
abbrev IsPast : History → Type 0
IsPast g = AllByRecursion (λ e. e.timestamp ≤ g.last) g.entries

-- a batch of transfers keeps the events that were there, and what it adds is later: an accepted request is an entry at
-- its timestamp, a chain that fails takes its timestamps alone
Adds-transfers_from : (h : History) (t : ℕ) (rs : List NewTransfer)
    → AllByRecursion (λ e. e.timestamp ≤ h.last) h.entries → h.last < t
    → Adds h (transfers_from h t rs).1
Adds-transfers_from h t rs past later =
    (items_from-keeps transfer_rules (λ g. IsPast g × Adds h g) (λ n. Unit {0})
    (λ g r n so_far before fits none. (
      past-pushed g (entry_of g r n) so_far.0 before,
      Adds-trans h g (pushed g (entry_of g r n)) so_far.1 (Adds-pushed g (entry_of g r n) so_far.0 before),
    ))
    (λ g n so_far before fits. (
      past-later g n so_far.0 (omega (arith, before)),
      Adds-trans h g (timed g n) so_far.1 (Adds-none g _ refl (omega (arith, before))),
    ))
    (λ g r n. refl) h t rs (past, Adds-none h h refl (omega arith)) later (λ n from below. tt)).1

-- so does a pulse, with an expiry for each transfer that is due
Adds-expiries_from : (h : History) (t : ℕ) (ps : List Transfer) → AllByRecursion (λ e. e.timestamp ≤ h.last) h.entries
    → h.last < t → Adds h (expiries_from h t ps)
Adds-expiries_from h t [] past later = Adds-none h h refl (omega arith)
Adds-expiries_from h t (p ∷ ps) past later =
    let g : History = pushed h (expiry p t) in
    Adds-trans h g (expiries_from g (t + 1) ps) (Adds-pushed h (expiry p t) past later)
    (Adds-expiries_from g (t + 1) ps (past-pushed h (expiry p t) past later) (omega arith))

-- ---- a batch

-- so every batch that a ledger takes adds later events to those that were there, or none
Adds-taken : (h : History) (b : Batch) → IsSound h → Adds h (taken h b).1
Adds-taken h (batch.Accounts now items) sound =
    Adds-accounts_from h (base h now) items (record { past = sound.past; known = sound.known }) (omega arith)
Adds-taken h (batch.Transfers now items) sound =
    Adds-transfers_from h (base h now) items sound.past (omega arith)
Adds-taken h (batch.Pulse now) sound = Adds-expiries_from h (base h now) (due h now) sound.past (omega arith)

-- a batch that is answered wasn't refused, and what it leaves is what its requests make
answered_is : (refusal : Option BatchError) (answer found : BatchResults × History) → answered refusal answer ≡ Ok found
    → answer ≡ found
answered_is None answer found e = cc
answered_is (Some error) answer found e = cc

-- a history goes on to what adds to it, if that adds nothing to a closed one
GoesOn-adds : (h g : History) (adds : Adds h g) → (h.closed ≡ true → (g.closed ≡ true) × (adds.new ≡ [])) → GoesOn h g
GoesOn-adds h g adds shut =
    record { new = adds.new; whole = adds.whole; later = adds.later; last = adds.last; shut = shut }

-- what a batch makes of a ledger goes on from what it was
pub GoesOn-submit : (h : History) (b : Batch) (answer : BatchResults × History) → IsSound h → submit h b ≡ Ok answer
    → GoesOn h answer.1
GoesOn-submit h b answer sound e =
    let not_closed = submit_open h b answer e in
    let is = answered_is (refusal_of h b) (taken h b) answer e in
    GoesOn-adds h answer.1 (subst (λ (a : BatchResults × History). Adds h a.1) is (Adds-taken h b sound)) (λ closed. cc)

-- so does a ledger that closes
pub GoesOn-closed : (h : History) → GoesOn h (record h { closed = true })
GoesOn-closed h = GoesOn-adds h _ (Adds-none h _ refl (omega arith)) (λ closed. (refl, refl))

-- ---- whole histories

-- a history goes on to itself
pub GoesOn-same : (h : History) → GoesOn h h
GoesOn-same h = GoesOn-adds h h (Adds-none h h refl (omega arith)) (λ closed. (closed, refl))

-- what goes on from a history that goes on from another goes on from that
pub GoesOn-trans : (h g k : History) → GoesOn h g → GoesOn g k → GoesOn h k
GoesOn-trans h g k first second =
    let adds : (x y : History) → GoesOn x y → Adds x y = λ x y on.
    record { new = on.new; whole = on.whole; later = on.later; last = on.last } in
    GoesOn-adds h k (Adds-trans h g k (adds h g first) (adds g k second))
    (λ closed.
    let before = first.shut closed in
    let after = second.shut before.0 in
    (after.0, ap₂ (λ xs ys. xs ++ ys) before.1 after.1))

-- so batches go on, refused ones among them
GoesOn-batch : (h : History) (answer : Result (BatchResults × History) BatchError)
    → ((found : BatchResults × History) → answer ≡ Ok found → GoesOn h found.1) → GoesOn h (history_or h answer)
GoesOn-batch h (Ok found) taken = taken found refl
GoesOn-batch h (Err why) taken = GoesOn-same h

pub GoesOn-batches : (h : History) (bs : List Batch) → IsSound h → GoesOn h (after_batches h bs)
GoesOn-batches h [] sound = GoesOn-same h
GoesOn-batches h (b ∷ bs) sound =
    let g : History = history_or h (submit h b) in
    GoesOn-trans h g (after_batches g bs)
    (GoesOn-batch h (submit h b) (λ found is. GoesOn-submit h b found sound is))
    (GoesOn-batches g bs (IsSound-after_batches h (b ∷ []) sound))

-- whatever a ledger adds to a history goes on from it, and is sound if the history was
pub GoesOn-extends : (g h : History) → IsSound h → Extends g h → GoesOn h g × IsSound g
GoesOn-extends g h sound extends =
    let k : History = after_batches h extends.batches in
    rw extends.made
    (closes extends.close k (IsSound-after_batches h extends.batches sound) (GoesOn-batches h extends.batches sound))
  where
    closes : (close : Bool) (k : History) → IsSound k → GoesOn h k
        → GoesOn h (closed_if close k) × IsSound (closed_if close k)
    closes true k is on = (GoesOn-trans h k (record k { closed = true }) on (GoesOn-closed k), IsSound-closed k is)
    closes false k is on = (on, is)

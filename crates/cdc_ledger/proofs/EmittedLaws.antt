-- The log and the index of a history stay correct.
use Rattle.cdc_ledger.proofs.Words.{[], ◌++◌, ◌+◌, ◌<◌, ◌^◌, ◌∙◌, ◌∷◌, ◌≡◌, ◌≤◌, AllByRecursion, Answers, BatchError, BatchResults, Emitted, Entry, Err, Event, Follows, History, IfSome, IsEmitted, IsNewTimestamp, IsSound, List, Movement, NewAccount, Ok, Option, OutOfMemory, Result, Transfer, account_rules, accounts_from, ap, ap₂, arith, base, ends_after, event_of, events, expires_at, index_of, last_timestamp, last_timestamp_from, length, map, max_timestamp, opened_by, opens, pushed, refl, settled_by, settled_transfer, subst, sym, timed, true, with_account, ℕ}
use Rattle.cdc_types.specs.declared.batches.Batch.TheVariants as batch
use Rattle.cdc_ledger.proofs.AcceptedLaws.{accepted_account}
use Rattle.cdc_ledger.proofs.ChainLaws.{items_from-keeps}
use Rattle.cdc_ledger.proofs.EventLaws.{events-pushed, events-with_account}
use Rattle.cdc_ledger.proofs.IndexKept.{index_of-ended, index_of-later, opens-end, opens-new, settled-end}
use Rattle.cdc_ledger.proofs.KeptLaws.{after_last, submit_parts, within_end}
use Rattle.cdc_ledger.proofs.SoundLaws.{IsSound-timed, IsSound-with_account}

-- events have the timestamps of their entries, of which none is past the last one
last_timestamp_from-events : (h : History) (s : ℕ) (es : List Entry) → s ≤ h.last
    → AllByRecursion (λ e. e.timestamp ≤ h.last) es → last_timestamp_from s (map (event_of h) es) ≤ h.last
last_timestamp_from-events h s [] before all = before
last_timestamp_from-events h s (e ∷ es) before all = last_timestamp_from-events h e.timestamp es all.0 all.1

-- no logged event is later than the last timestamp
pub last_timestamp-emitted : (h : History) (emitted : Emitted) → IsSound h → IsEmitted h emitted
    → last_timestamp emitted.log.events ≤ h.last
last_timestamp-emitted h emitted sound is =
    let P : List Event → Type 0 = λ xs. last_timestamp xs ≤ h.last in
    subst P (sym is.logged) (last_timestamp_from-events h 0 h.entries (omega arith) sound.past)

-- a movement whose entry can be logged next
pub record CanEmit (h : History) (emitted : Emitted) (m : Movement) : Type 0 where
  pub sound : IsSound h
  pub follows : Follows h m.entry
  pub later : h.last < m.entry.timestamp
  pub settled : settled_transfer m ≡ settled_by h m.entry
  pub so_far : IsEmitted h emitted

module _ (h : History) (emitted : Emitted) (m : Movement) (can : CanEmit h emitted m) where
  -- the expiry time of the transfer that it settles can be computed
  pub emit-settled : IfSome (settled_transfer m) (λ p. expires_at p < 2 ^ 64)
  emit-settled = settled-end h m.entry (settled_transfer m) can.sound can.follows can.settled

  -- so can its own
  pub emit-timely : opens m.entry ≡ true → expires_at m.entry.transfer < 2 ^ 64
  emit-timely = opens-end h m.entry can.follows

  -- whose timestamp is new to the index
  pub emit-fresh : opens m.entry ≡ true → IsNewTimestamp emitted.index.triples m.entry.transfer.timestamp
  emit-fresh = opens-new h m.entry emitted.index.triples can.sound can.follows can.later can.so_far.indexed

  -- its event is later than all logged events
  pub emit-later : (event : Event) → event ≡ event_of (pushed h m.entry) m.entry
      → last_timestamp emitted.log.events < event.timestamp
  emit-later event is =
      let past = last_timestamp-emitted h emitted can.sound can.so_far in
      let own : event.timestamp ≡ m.entry.timestamp = ap (λ (e : Event). e.timestamp) is in
      omega (arith, past, own, can.later)

  -- after it is logged, the log and the index are those of the history with its entry
  pub IsEmitted-emitted : (emitted' : Emitted) (place : ℕ) (event : Event) → place ≡ length h.entries
      → event ≡ event_of (pushed h m.entry) m.entry → emitted'.log.events ≡ emitted.log.events ++ event ∷ []
      → emitted'.index.triples ≡ ends_after (settled_transfer m) m.entry place emitted.index.triples
      → IsEmitted (pushed h m.entry) emitted'
  IsEmitted-emitted emitted' place event at is log index = record {
    logged = log ∙ ap₂ (λ xs x. xs ++ x ∷ []) can.so_far.logged is
        ∙ sym (events-pushed h m.entry can.sound.past can.later);
    indexed = index
        ∙ ap (λ (o : Option Transfer). ends_after o m.entry place emitted.index.triples) can.settled
        ∙ ap₂ (λ n s. ends_after (settled_by h m.entry) m.entry n s) at can.so_far.indexed
        ∙ sym (index_of-ended h m.entry can.sound can.follows can.later);
  }

-- a later timestamp alone logs nothing
pub IsEmitted-timed : (h : History) (emitted : Emitted) (t : ℕ) → IsSound h → h.last ≤ t → IsEmitted h emitted
    → IsEmitted (timed h t) emitted
IsEmitted-timed h emitted t sound later is = record {
  logged = is.logged;
  indexed = is.indexed ∙ sym (index_of-later h h.accounts t h.closed sound later);
}

-- two histories with the same events and the same triples
pub record IsEmittedAlike (g h : History) : Type 0 where
  pub logged : events g ≡ events h
  pub indexed : index_of g ≡ index_of h

-- so a log and an index of one history are also those of the other
pub IsEmitted-alike : (h g : History) (emitted : Emitted) → IsEmittedAlike g h → IsEmitted h emitted
    → IsEmitted g emitted
IsEmitted-alike h g emitted alike is =
    record { logged = is.logged ∙ sym alike.logged; indexed = is.indexed ∙ sym alike.indexed }

-- requests for accounts log nothing
emitted_accounts : (h : History) (t : ℕ) (rs : List NewAccount) → IsSound h → h.last < t
    → (0 < length rs → t + length rs ≤ max_timestamp + 1)
    → IsEmittedAlike (accounts_from h t rs).1 h
emitted_accounts h t rs sound later fits =
    let found : IsSound (accounts_from h t rs).1 × IsEmittedAlike (accounts_from h t rs).1 h =
    items_from-keeps account_rules (λ g. IsSound g × IsEmittedAlike g h) (λ n. n ≤ max_timestamp)
    (λ g a n so_far later' within none. (
      IsSound-with_account g (opened_by a n) so_far.0 (accepted_account g a none).1 (omega arith) within,
      record {
        logged = events-with_account g (opened_by a n) so_far.0.known ∙ so_far.1.logged;
        indexed = index_of-later g (with_account g (opened_by a n)).accounts n g.closed so_far.0 (omega arith)
            ∙ so_far.1.indexed;
      },
    ))
    (λ g n so_far later' within. (
      IsSound-timed g n so_far.0 (omega arith) within,
      record {
        logged = so_far.1.logged;
        indexed = index_of-later g g.accounts n g.closed so_far.0 (omega arith) ∙ so_far.1.indexed;
      },
    ))
    (λ g a n. refl) h t rs (sound, record { logged = refl; indexed = refl }) later
    (λ n from below. let whole : t + length rs ≤ max_timestamp + 1 = fits (omega arith) in omega arith) in
    found.1

-- so the log and the index stay correct after a batch of such requests, whatever its result
pub IsEmitted-accounts : {A : Type 0} (shown : A → BatchResults) (h g : History) (emitted : Emitted) (now : ℕ)
    (items : List NewAccount) (r : Result A BatchError) → IsSound h → IsEmitted h emitted
    → Answers shown h (batch.Accounts now items) r g → IsEmitted g emitted
IsEmitted-accounts shown h g emitted now items (Ok results) sound is answers =
    let parts = submit_parts h (batch.Accounts now items) (shown results, g) answers in
    let alike = emitted_accounts h (base h now) items sound (after_last h now)
    (within_end h now (length items) parts.0) in
    let made : (accounts_from h (base h now) items).1 ≡ g =
    ap (λ (a : BatchResults × History). a.1) parts.1 in
    subst (λ k. IsEmitted k emitted) made (IsEmitted-alike h (accounts_from h (base h now) items).1 emitted alike is)
IsEmitted-accounts shown h g emitted now items (Err OutOfMemory) sound is answers =
    subst (λ k. IsEmitted k emitted) (sym answers.1) is
IsEmitted-accounts shown h g emitted now items (Err e) sound is answers =
    subst (λ k. IsEmitted k emitted) (sym answers.1) is

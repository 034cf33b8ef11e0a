-- An entry that has what an event shows makes this event.
use Rattle.std.proofs.Common.{◌≡◌, ◌≢◌, ℕ, ◌+◌, Bool, true, false, [], ◌∷◌, ◌++◌, Option, if◌then◌else◌, refl, sym, ap, ap₂, ◌∙◌, subst, inl, inr, arith}
use Rattle.cdc_audit_laws.proofs.OfStd.{unwrap_or, ltb-false, eqb_tells}
use Rattle.cdc_audit_laws.proofs.OfTypes.{Balances, TIMESTAMP, Entry, Event, EventAccount, EventTransfer, Transfer}
use Rattle.cdc_audit_laws.proofs.OfLedger.{balances, pushed, amount_of, balances_after as after, effect_of, event_of, events, nobody, shown_account, shown_transfer, Follows, SettlesOpen, History, Opened, opened, holds, moves, settled_id, settles, IsSound, balances-pushed, settled_by_is, settled_by_none, events-pushed, IsSound-pushed}
use Rattle.cdc_audit_laws.proofs.OfAudit.{balances_after, pending_amount, settled_id_by, held, posted, released}
use Rattle.cdc_audit_laws.proofs.Coming.{Comes}
use Rattle.cdc_audit_laws.proofs.Entries.{pending_amount-events, settled_id-shown}
use Rattle.cdc_audit_laws.proofs.Following.{IsCredited, IsDebited}
use Rattle.cdc_audit_laws.proofs.Shown.{balances_after-credited, balances_after-debited, balances_after-other, balances_of}

-- the event shows this transfer
pub record IsShownBy (e : Event) (y : Transfer) : Type 0 where
  pub shown : shown_transfer y ≡ e.transfer
  pub ledger : y.ledger ≡ e.ledger
  pub debit : y.debit_account_id ≡ e.debit_account.id
  pub credit : y.credit_account_id ≡ e.credit_account.id

-- the entry of an event with this transfer
abbrev pub entry_with : Event → Transfer → Entry
entry_with e y = record { timestamp = e.timestamp; kind = e.kind; transfer = y }

-- the balances of an account after an entry of these two accounts
module _ (h : History) (x : Entry) (d c : ℕ) (b : Balances) where
  abbrev held_by : ℕ
  held_by = (effect_of h x).held

  abbrev released_by : ℕ
  released_by = (effect_of h x).released

  abbrev moved_by : ℕ
  moved_by = (effect_of h x).moved

  -- of the debited one, if these follow
  debit_after : (s : Balances) → c ≢ d → s.debits_pending + released_by ≡ b.debits_pending + held_by
      → s.debits_posted ≡ b.debits_posted + moved_by → s.credits_pending ≡ b.credits_pending
      → s.credits_posted ≡ b.credits_posted → after (effect_of h x) d c d b ≡ s
  debit_after s other pending posted held moved = grind arith

  -- of the credited one
  credit_after : (s : Balances) → d ≢ c → s.credits_pending + released_by ≡ b.credits_pending + held_by
      → s.credits_posted ≡ b.credits_posted + moved_by → s.debits_pending ≡ b.debits_pending
      → s.debits_posted ≡ b.debits_posted → after (effect_of h x) d c c b ≡ s
  credit_after s other pending posted held moved = grind arith

  -- of another one
  other_after : (a : ℕ) → d ≢ a → c ≢ a → after (effect_of h x) d c a b ≡ b
  other_after a not_debited not_credited = grind arith

module _ (h : History) (e : Event) (comes : Comes h e) (y : Transfer) (is : IsShownBy e y)
    (follows : Follows h (entry_with e y)) where
  abbrev entry : Entry
  entry = entry_with e y

  -- the history with it stays sound
  pub sound_then : IsSound (pushed h entry)
  sound_then =
      IsSound-pushed h entry comes.sound follows comes.later (ltb-false TIMESTAMP e.timestamp comes.can.within)

  -- what it releases is what the event shows as released
  releases : released (events h) e ≡ (effect_of h entry).released
  releases = by (settles e.kind) refl
    where
      by : (b : Bool) → settles e.kind ≡ b → released (events h) e ≡ (effect_of h entry).released
      by true settling =
          let of : SettlesOpen h entry = follows.settling settling in
          let same : settled_id_by e.kind e.transfer ≡ settled_id e.kind y =
          ap (settled_id_by e.kind) (sym is.shown) ∙ settled_id-shown e.kind y in
          ap₂ (λ b o. if b then unwrap_or o 0 else 0) settling
          (ap (pending_amount (events h)) same
          ∙ pending_amount-events h (settled_id e.kind y) of.pending of.settles.named of.settles.pending)
          ∙ sym (ap amount_of (settled_by_is h entry of.pending settling of.settles))
      by false settling =
          ap (λ b. if b then unwrap_or (pending_amount (events h) (settled_id_by e.kind e.transfer)) 0 else 0) settling
          ∙ sym (ap amount_of (settled_by_none h entry settling))

  -- and so it is with what it holds and moves
  amount_is : e.transfer.amount ≡ y.amount
  amount_is = ap (λ (x : EventTransfer). x.amount) (sym is.shown)

  holding : held e ≡ (effect_of h entry).held
  holding = ap (λ n. if holds e.kind then n else 0) amount_is

  moving : posted e ≡ (effect_of h entry).moved
  moving = ap (λ n. if moves e.kind then n else 0) amount_is

  -- the balances of its accounts are those that the event shows
  debits_shown : balances (pushed h entry) y.debit_account_id e.timestamp ≡ balances_of e.debit_account
  debits_shown =
      let d = y.debit_account_id in
      let sums : IsDebited (events h) e (balances h d h.last) =
      subst (IsDebited (events h) e) (comes.shown e.debit_account.id ∙ ap (λ n. balances h n h.last) (sym is.debit))
      comes.can.debited in
      balances-pushed h entry d comes.sound follows comes.later
      ∙ debit_after h entry d y.credit_account_id (balances h d h.last) (balances_of e.debit_account)
      (λ same. follows.apart (sym same)) (omega (arith, sums.debits_pending, releases, holding))
      (omega (arith, sums.debits_posted, moving))
      (omega (arith, sums.credits_pending)) (omega (arith, sums.credits_posted))

  credits_shown : balances (pushed h entry) y.credit_account_id e.timestamp ≡ balances_of e.credit_account
  credits_shown =
      let c = y.credit_account_id in
      let sums : IsCredited (events h) e (balances h c h.last) =
      subst (IsCredited (events h) e) (comes.shown e.credit_account.id ∙ ap (λ n. balances h n h.last) (sym is.credit))
      comes.can.credited in
      balances-pushed h entry c comes.sound follows comes.later
      ∙ credit_after h entry y.debit_account_id c (balances h c h.last) (balances_of e.credit_account)
      follows.apart (omega (arith, sums.credits_pending, releases, holding))
      (omega (arith, sums.credits_posted, moving))
      (omega (arith, sums.debits_pending)) (omega (arith, sums.debits_posted))

  -- and an account that it doesn't have keeps its own
  others : (a : ℕ) → y.debit_account_id ≢ a → y.credit_account_id ≢ a
      → balances (pushed h entry) a e.timestamp ≡ balances h a h.last
  others a not_debited not_credited =
      balances-pushed h entry a comes.sound follows comes.later
      ∙ other_after h entry y.debit_account_id y.credit_account_id (balances h a h.last) a not_debited
      not_credited

  -- so its event is the event
  made : event_of (pushed h entry) entry ≡ e
  made =
      let full : ℕ → EventTransfer → EventAccount → EventAccount → Event =
      λ l x d c. record e { ledger = l; transfer = x; debit_account = d; credit_account = c } in
      let shows : Option Opened → Balances → EventAccount = λ o sums. shown_account (unwrap_or o nobody) sums in
      ap₂ (λ l x. full l x
      (shows (opened h y.debit_account_id) (balances (pushed h entry) y.debit_account_id e.timestamp))
      (shows (opened h y.credit_account_id) (balances (pushed h entry) y.credit_account_id e.timestamp)))
      is.ledger is.shown
      ∙ ap₂ (full e.ledger e.transfer) (ap₂ shows (ap (opened h) is.debit ∙ comes.debit) debits_shown)
      (ap₂ shows (ap (opened h) is.credit ∙ comes.credit) credits_shown)

  -- and joins those that the history had
  pub events_then : events (pushed h entry) ≡ events h ++ e ∷ []
  events_then = events-pushed h entry comes.sound.past comes.later ∙ ap (λ x. events h ++ x ∷ []) made

  -- the events show the balances of each account
  pub shown_then : (id : ℕ) → balances_after (events (pushed h entry)) id ≡ balances (pushed h entry) id e.timestamp
  shown_then id =
      ap (λ es. balances_after es id) events_then
      ∙ elim (eqb_tells e.credit_account.id id) [
        | inl credit ↦
            balances_after-credited (events h) e id credit.1 ∙ sym credits_shown
            ∙ ap (λ n. balances (pushed h entry) n e.timestamp) (is.credit ∙ credit.1)
        | inr credit ↦ elim (eqb_tells e.debit_account.id id) [
          | inl debit ↦
              balances_after-debited (events h) e id debit.1 credit.1 ∙ sym debits_shown
              ∙ ap (λ n. balances (pushed h entry) n e.timestamp) (is.debit ∙ debit.1)
          | inr debit ↦
              balances_after-other (events h) e id debit.1 credit.1
              ∙ comes.shown id
              ∙ sym (others id (λ same. debit.1 (sym is.debit ∙ same)) (λ same. credit.1 (sym is.credit ∙ same)))
        ]
      ]

-- The events of a ledger follow from those before them, whatever the rules on the next items of chains are.
use Rattle.std.proofs.Common.{◌≡◌, ◌≢◌, ℕ, ◌<◌, ◌≤◌, Bool, true, false, List, [], ◌∷◌, ◌++◌, Option, Some, None, is_none, map, ◌+◌, refl, sym, ap, ap₂, ◌∙◌, subst, inl, inr, arith, ◌==◌, ◌&&◌, nat_eq, nat_le, nat_lt, not, filter, IfSome, IsSome, if◌then◌else◌}
use Rattle.cdc_audit_laws.proofs.OfStd.{AllByRecursion, flat_map, lookup, unwrap_or, and_from, and_parts, eq-eqb, eqb-true, le-ltb, leb-true, lt-ltb, not-true, not_from_true, eqb_tells}
use Rattle.cdc_audit_laws.proofs.OfTypes.{Balances, TIMESTAMP, Entry, Event, EventKind, TwoPhaseExpired, EventAccount, NewTransfer, NewAccount, CREDITS_MUST_NOT_EXCEED_DEBITS, DEBITS_MUST_NOT_EXCEED_CREDITS, has_flag, account_number, account_refusal, account_shape_lines, transfer_refusal, last_timestamp, last_timestamp_from, max_128, Transfer}
use Rattle.cdc_audit_laws.proofs.OfLedger.{balances, expiry, pushed, timed, with_account, amount_of, balances_after_entry, effect_of, event_of, events, shown_transfer, expires_at, stored, Follows, SettlesOpen, History, Opened, empty_history, opened, holds, settled_id, settles, stores, HasAccounts, IsSound, IsLegal, entry_of, opened_by, max_timestamp, Follows-accepted, balances-pushed, balances_later, released_credit, released_debit, same_balances, settled_by_is, settled_by_none, AllByRecursion-every, AllByRecursion-weaker, events-pushed, events-with_account, test_fails, Follows-open, find_all, is_stored as stores_id, stored_has}
use Rattle.cdc_audit_laws.proofs.OfAudit.{balances_after, ends_in_chain, is_settled, is_stored, last_expiry as last_shown, last_expiry_from, linked_from, open_event, pending_amount, pending_event, settled_id_by, FixedFields, TransferShape, OtherKind, OtherTimestamp, account_lines as shape_account_lines, asked_account, asked_transfer, is_of_kind, refused_as, shape_lines, stored_lines, apart_lines, times_before, times_lines, together_lines, accounts_of, created_lines, fields_before, fields_lines, fixed_fields, same_lines, all_credits, all_debits, limit_lines, limits_lines, chain_lines, fixed_lines, released, settled_event, expires_at as expires_at_shown, has_data_of, is_same_transfer, settling_lines, can_expire, expiry_lines, first_due, is_sooner, first_of-all, passing}
use Rattle.std.specs.Option.{option_map}
use Rattle.cdc_types.specs.declared.results.AccountResult.TheVariants as account
use Rattle.cdc_types.specs.declared.results.TransferResult.TheVariants as transfer
use Rattle.cdc_audit_laws.proofs.Created.{own_pair, own_times, id_found}
use Rattle.cdc_audit_laws.proofs.Entries.{last_timestamp-events, pending_amount-events, pending_event-events, settled_id-shown, unsettled, unstored}
use Rattle.cdc_audit_laws.proofs.Following.{CanFollow, IsCredited, IsDebited, NoneApplies, none_of_both}
use Rattle.cdc_audit_laws.proofs.Keeping.{end_from, kept_by_legal, links, links_from, stores_asked}
use Rattle.cdc_audit_laws.proofs.Kept.{part_other, part_own, IsCreated, IsKept, IsLimited, kept-account, kept-closed, kept-empty, kept-pushed, kept-timed}
use Rattle.cdc_audit_laws.proofs.Requests.{Enters, HasLedger, HasShape, KeepsFields, account_of, asked, enters-accepted, enters-expiry, keeps_data, account_is}
use Rattle.cdc_audit_laws.proofs.Pulses.{LetsPass, expiry_from, in_turn-expiry, in_turn-stored, last_expiry}
use Rattle.cdc_audit_laws.proofs.Shown.{balances_after-credited, balances_after-debited, balances_after-other, balances_of}
use Rattle.cdc_audit_laws.proofs.Streams.{FollowAll, follow_all-push}
use Rattle.cdc_audit_laws.proofs.Cases.{◌&◌, and_unless}
use Rattle.cdc_audit_laws.proofs.Traces.{unresolved}

-- each event of a history follows from those before it, whatever the rules on the next items of chains are; and the
-- events show last the balances of each account
pub record IsAudited (h : History) : Type 0 where
  pub follow : FollowAll [] (events h)
  pub shown : (id : ℕ) → balances_after (events h) id ≡ balances h id h.last

-- what is stored under an id has this id
stored_id : (h : History) (id : ℕ) (x : Entry) → stored h id ≡ Some x → x.transfer.id ≡ id
stored_id h id x there =
    let passes = find_all (stores_id id) (λ e. Unit {0}) h.entries x
    (AllByRecursion-every _ (λ e. tt) h.entries) there in
    eqb-true x.transfer.id id (and_parts (stores x.kind) (x.transfer.id == id) passes.0).1

-- an expiry has the whole transfer that it settles, and any other one its user data
whole : (k : EventKind) (x p : Transfer) → (k ≡ TwoPhaseExpired → x ≡ p) → (stores k ≡ true → keeps_data p x ≡ true)
    → (if stores k then has_data_of (shown_transfer p) (shown_transfer x)
    else is_same_transfer (shown_transfer x) (shown_transfer p)) ≡ true
whole k x p shown kept = grind arith

-- the fields of an account that was opened
abbrev pub fixed_of : Opened → FixedFields
fixed_of o = record {
  user_data_128 = o.request.user_data_128;
  user_data_64 = o.request.user_data_64;
  user_data_32 = o.request.user_data_32;
  ledger = o.request.ledger;
  code = o.request.code;
  flags = o.request.flags;
  timestamp = o.timestamp;
}

-- no line applies to fields that are the same
all_same : (id : ℕ) (one other : FixedFields) → one ≡ other → NoneApplies (same_lines id one other)
all_same id one other is = grind arith

-- a limit that is kept, if the flag is set
guard : (flag : Bool) (limit sum : ℕ) → (flag ≡ true → sum ≤ limit) → (flag && nat_lt limit sum) ≡ false
guard flag limit sum keeps = and_unless _ _ (λ set. le-ltb limit sum (keeps set))

-- what is found under an id among two accounts, and then the others, if each has what it has to have
pick : (id d c e f : ℕ) (of_d of_c x : FixedFields) (rest : Option FixedFields) (has : ℕ → FixedFields) → d ≡ e → c ≡ f
    → of_d ≡ has e → of_c ≡ has f → (rest ≡ Some x → x ≡ has id)
    → (if id == d then Some of_d else if id == c then Some of_c else rest) ≡ Some x → x ≡ has id
pick id d c e f of_d of_c x rest has d_is c_is of_d_is of_c_is later found = grind arith

-- what events show of an account first, if each entry has the ledger of its accounts
first_from : (h : History) (es : List Entry) → AllByRecursion (HasAccounts h) es → AllByRecursion (HasLedger h) es
    → (id : ℕ) (x : FixedFields)
    → lookup (nat_eq id) (flat_map accounts_of (map (event_of h) es)) ≡ Some x → x ≡ fixed_of (account_of h id)
first_from h [] known ledgers id x found = cc
first_from h (e ∷ es) known ledgers id x found =
    let d = e.transfer.debit_account_id in
    let c = e.transfer.credit_account_id in
    let event = event_of h e in
    pick id event.debit_account.id event.credit_account.id d c (fixed_fields e.transfer.ledger event.debit_account)
    (fixed_fields e.transfer.ledger event.credit_account) x
    (lookup (nat_eq id) (flat_map accounts_of (map (event_of h) es))) (λ n. fixed_of (account_of h n))
    (id_found h d known.0.0) (id_found h c known.0.1)
    (ap (λ n. record (fixed_of (account_of h d)) { ledger = n }) ledgers.0.debit)
    (ap (λ n. record (fixed_of (account_of h c)) { ledger = n }) ledgers.0.credit)
    (first_from h es known.1 ledgers.1 id x) found

-- so what the events of a history show of an account first is what the account is
first_fields : (h : History) → IsSound h → IsKept h → (id : ℕ) (x : FixedFields)
    → fields_before (events h) id ≡ Some x → x ≡ fixed_of (account_of h id)
first_fields h sound kept id x found = first_from h h.entries sound.known kept.ledgers id x found

-- an expiry of a transfer whose time is up, and a post or a void of one whose time isn't
has_timeout : (storing zero up : Bool) → (storing ≡ false → (not zero && up) ≡ true) → (not storing && zero) ≡ false
has_timeout storing zero up is = grind arith

not_too_soon : (storing zero : Bool) (t end : ℕ) → (storing ≡ false → (not zero && nat_le end t) ≡ true)
    → (not storing && nat_lt t end) ≡ false
not_too_soon true zero t end is = refl
not_too_soon false zero t end is = le-ltb t end (leb-true end t (and_parts (not zero) (nat_le end t) (is refl)).1)

-- the events of entries end within a chain if these do, and at the same timestamp
pub same_chain : (h : History) (b : Bool) (es : List Entry) → linked_from b (map (event_of h) es) ≡ links_from b es
same_chain h b [] = refl
same_chain h b (e ∷ es) = same_chain h (links e) es

-- and so is the last expiry
pub same_expiry : (h : History) (last : Option Entry) (es : List Entry)
    → last_expiry_from (option_map (event_of h) last) (map (event_of h) es)
    ≡ option_map (event_of h) (expiry_from last es)
same_expiry h last [] = refl
same_expiry h last (e ∷ es) =
    ap (λ o. last_expiry_from o (map (event_of h) es)) (by (stores e.kind))
    ∙ same_expiry h (if stores e.kind then last else Some e) es
  where
    by : (b : Bool) → (if b then option_map (event_of h) last else Some (event_of h e))
        ≡ option_map (event_of h) (if b then last else Some e)
    by true = refl
    by false = refl

-- what allows it that an expiry comes right after one of the same time
apart_none : (a b t s : ℕ) (storing : Bool) → (a ≡ b → (storing ≡ false) × (t ≡ s + 1))
    → ((a == b) && not (not storing && (t == s + 1))) ≡ false
apart_none a b t s storing next = grind arith

-- what holds of each image
pub all_images : (h : History) (P : Event → Type 0) (es : List Entry) → AllByRecursion (λ y. P (event_of h y)) es
    → AllByRecursion P (map (event_of h) es)
all_images h P [] all = tt
all_images h P (y ∷ es) all = (all.0, all_images h P es all.1)

same_end : (h : History) (t : ℕ) (es : List Entry) → last_timestamp_from t (map (event_of h) es) ≡ end_from t es
same_end h t [] = refl
same_end h t (e ∷ es) = same_end h e.timestamp es

-- one more entry
module _ (h : History) (e : Entry) (sound : IsSound h) (follows : Follows h e) (after : h.last < e.timestamp)
    (next : IsSound (pushed h e)) (enters : Enters h e) (kept : IsKept h) (audited : IsAudited h) where
  -- its event
  abbrev event : Event
  event = event_of (pushed h e) e

  -- has its accounts
  debit_id : event.debit_account.id ≡ e.transfer.debit_account_id
  debit_id = id_found h e.transfer.debit_account_id follows.accounts.0

  credit_id : event.credit_account.id ≡ e.transfer.credit_account_id
  credit_id = id_found h e.transfer.credit_account_id follows.accounts.1

  apart : event.debit_account.id ≢ event.credit_account.id
  apart same = follows.apart (sym debit_id ∙ same ∙ credit_id)

  -- an entry that is stored has its accounts too, as the history has them
  ids_of : (x : Entry) (id : ℕ) → stored h id ≡ Some x
      → ((event_of h x).debit_account.id ≡ x.transfer.debit_account_id)
      × ((event_of h x).credit_account.id ≡ x.transfer.credit_account_id)
  ids_of x id there =
      let known : HasAccounts h x = stored_has (HasAccounts h) h id x sound.known there in
      (id_found h x.transfer.debit_account_id known.0, id_found h x.transfer.credit_account_id known.1)

  -- the id of the pending transfer that it settles
  abbrev named_id : ℕ
  named_id = settled_id_by event.kind event.transfer

  -- is the one that its entry names
  same_id : named_id ≡ settled_id e.kind e.transfer
  same_id = settled_id-shown e.kind e.transfer

  -- the amount of the pending transfer that it settles
  amount_of_settled : (is : settles e.kind ≡ true)
      → pending_amount (events h) named_id ≡ Some (follows.settling is).pending.transfer.amount
  amount_of_settled is =
      let of : SettlesOpen h e = follows.settling is in
      ap (pending_amount (events h)) same_id
      ∙ pending_amount-events h (settled_id e.kind e.transfer) of.pending of.settles.named of.settles.pending

  -- a transfer that it stores is new
  is_new : (stores event.kind && is_stored (events h) event.transfer.id) ≡ false
  is_new = and_unless _ _ (λ is. unstored h e.transfer.id (follows.fresh is))

  -- the transfer that it settles is pending
  is_pending : (settles event.kind && is_none (pending_amount (events h) named_id)) ≡ false
  is_pending = and_unless _ _ (λ is. ap (λ (o : Option ℕ). is_none o) (amount_of_settled is))

  -- and no event settled it
  is_unsettled : (settles event.kind && is_settled (events h) named_id) ≡ false
  is_unsettled =
      and_unless _ _ (λ is.
      let of : SettlesOpen h e = follows.settling is in
      let named = stored_id h (settled_id e.kind e.transfer) of.pending of.settles.named in
      ap (is_settled (events h)) (same_id ∙ sym named) ∙ unsettled h of.pending.transfer sound.past of.unsettled)

  -- the pending transfer that it settles has its accounts, its ledger and its code, and an amount that it may have
  is_settling : NoneApplies (settling_lines (settled_event (events h) event) event)
  is_settling = by (settles e.kind) refl
    where
      by : (b : Bool) → settles e.kind ≡ b → NoneApplies (settling_lines (settled_event (events h) event) event)
      by false is =
          rw (ap (λ b. if b then open_event (events h) named_id else None) is) tt
      by true is =
          let of : SettlesOpen h e = follows.settling is in
          let x : Entry = of.pending in
          let keeps : KeepsFields e x.transfer = enters.settled is x of.settles.named in
          let ids = ids_of x (settled_id e.kind e.transfer) of.settles.named in
          let unsettled_yet : is_settled (events h) named_id ≡ false =
          sym (ap (λ b. b && is_settled (events h) named_id) is) ∙ is_unsettled in
          let shown : settled_event (events h) event ≡ Some (event_of h x) =
          ap (λ b. if b then open_event (events h) named_id else None) is
          ∙ ap (λ b. if b then None else pending_event (events h) named_id) unsettled_yet
          ∙ ap (pending_event (events h)) same_id
          ∙ pending_event-events h (settled_id e.kind e.transfer) x of.settles.named of.settles.pending in
          rw shown (not_from_true _ (and_from _ _ (and_from _ _ (and_from _ _ (and_from _ _
          (eq-eqb _ _ (debit_id ∙ of.settles.debit ∙ sym ids.0))
          (eq-eqb _ _ (credit_id ∙ of.settles.credit ∙ sym ids.1))) (eq-eqb _ _ keeps.ledger))
          (eq-eqb _ _ keeps.code)) (whole e.kind e.transfer x.transfer of.settles.shown keeps.user_data))
          & not_from_true _ keeps.amount & has_timeout (stores e.kind) _ _ keeps.ended
          & not_too_soon (stores e.kind) _ e.timestamp (expires_at x.transfer) keeps.ended
          & and_unless _ _ keeps.timely & tt)

  -- the transfer as a request, and its accounts as requests
  asked_is : asked_transfer event ≡ asked e.transfer
  asked_is =
      ap₂ (λ d c. let r : NewTransfer = record (asked e.transfer) { debit_account_id = d; credit_account_id = c } in r)
      debit_id credit_id

  debit_asked : asked_account event.ledger event.debit_account
      ≡ (account_of h e.transfer.debit_account_id).request
  debit_asked = grind arith

  credit_asked : asked_account event.ledger event.credit_account
      ≡ (account_of h e.transfer.credit_account_id).request
  credit_asked = grind arith

  -- both accounts were accepted, before the event
  created : (id : ℕ) → IsSome (opened h id) → IsCreated h.last (account_of h id)
  created id there = (find_all _ _ _ _ kept.accounts (account_is h id there)).1

  -- its fields are those that a ledger lets a request have
  account_none : (a : EventAccount) (request : NewAccount) → asked_account event.ledger a ≡ request
      → account_refusal request ≡ None → NoneApplies (shape_account_lines event.ledger a)
  account_none a request is none = rw (ap account_refusal is ∙ none) tt

  ledger_some : (event.ledger == 0) ≡ false
  ledger_some =
      ap (λ n. n == 0) enters.ledger.debit
      ∙ test_fails account_number account.LedgerMustNotBeZero
      (account_shape_lines (account_of h e.transfer.debit_account_id).request)
      (created e.transfer.debit_account_id follows.accounts.0).0

  -- a pending transfer with a timeout expires by the greatest timestamp
  expires_in_time : (holds e.kind && not (e.transfer.timeout == 0) && nat_lt max_timestamp (expires_at e.transfer))
      ≡ false
  expires_in_time = grind arith

  has_shape : NoneApplies (shape_lines event)
  has_shape =
      none_of_both (if stores e.kind then stored_lines event else [])
      (shape_account_lines event.ledger event.debit_account ++ shape_account_lines event.ledger event.credit_account)
      (by (stores e.kind) refl)
      (none_of_both (shape_account_lines event.ledger event.debit_account)
      (shape_account_lines event.ledger event.credit_account)
      (account_none event.debit_account _ debit_asked (created e.transfer.debit_account_id follows.accounts.0).0)
      (account_none event.credit_account _ credit_asked (created e.transfer.credit_account_id follows.accounts.1).0))
    where
      stored_none : stores e.kind ≡ true → NoneApplies (stored_lines event)
      stored_none is =
          let shape : HasShape e = enters.shape is in
          none_of_both (refused_as (TransferShape event.transfer.id) (transfer_refusal (asked_transfer event))) (
          (event.ledger == 0, TransferShape event.transfer.id transfer.LedgerMustNotBeZero) ∷
          (event.transfer.code == 0, TransferShape event.transfer.id transfer.CodeMustNotBeZero) ∷ (
            holds event.kind && not (event.transfer.timeout == 0)
                && nat_lt TIMESTAMP (expires_at_shown event.transfer),
            TransferShape event.transfer.id transfer.OverflowsTimeout,
          ) ∷
          (not (is_of_kind event.kind (asked_transfer event)), OtherKind event.transfer.id) ∷ (
            not (event.transfer.timestamp == event.timestamp),
            OtherTimestamp event.transfer.id event.transfer.timestamp event.timestamp,
          ) ∷
          []
          ) (rw (ap transfer_refusal asked_is ∙ shape.fields) tt) (ledger_some & enters.ledger.code & expires_in_time
          & not_from_true _ (ap (is_of_kind e.kind) asked_is ∙ shape.kind)
          & not_from_true _ (eq-eqb e.transfer.timestamp e.timestamp (follows.dated is)) & tt)

      by : (b : Bool) → stores e.kind ≡ b → NoneApplies (if b then stored_lines event else [])
      by true is = stored_none is
      by false is = tt

  -- the accounts' fields are the same as ever, and both were created before the event
  fields_none : (before : Option FixedFields) (a : EventAccount) (o : Opened)
      → fixed_fields event.ledger a ≡ fixed_of o → ((x : FixedFields) → before ≡ Some x → x ≡ fixed_of o)
      → NoneApplies (fields_lines before event.ledger a)
  fields_none before a o now_is before_is = all_same a.id _ _ (by before refl)
    where
      by : (b : Option FixedFields) → before ≡ b
          → fixed_fields event.ledger a ≡ unwrap_or b (fixed_fields event.ledger a)
      by None is = refl
      by (Some x) is = now_is ∙ sym (before_is x is)

  -- the timestamp of each account is its own
  has_times : NoneApplies
      (apart_lines (times_before (events h) event.debit_account) (times_before (events h) event.credit_account) event)
  has_times =
      let d = e.transfer.debit_account_id in
      let c = e.transfer.credit_account_id in
      let first = times_lines (times_before (events h) event.debit_account) event.debit_account in
      let second = times_lines (times_before (events h) event.credit_account) event.credit_account in
      none_of_both (first ++ second) (together_lines event)
      (none_of_both first second
      (own_times h kept.own sound.known d event.debit_account follows.accounts.0 debit_id refl)
      (own_times h kept.own sound.known c event.credit_account follows.accounts.1 credit_id refl))
      (own_pair h kept.own d c follows.accounts.0 follows.accounts.1 follows.apart, tt)

  has_fields : NoneApplies (fixed_lines (events h) event)
  has_fields =
      let d = e.transfer.debit_account_id in
      let c = e.transfer.credit_account_id in
      let d_there = created d follows.accounts.0 in
      let c_there = created c follows.accounts.1 in
      let first = fields_lines (fields_before (events h) event.debit_account.id) event.ledger event.debit_account in
      let second = fields_lines (fields_before (events h) event.credit_account.id) event.ledger event.credit_account in
      none_of_both (first ++ second ++ created_lines event)
      (apart_lines (times_before (events h) event.debit_account) (times_before (events h) event.credit_account) event)
      (none_of_both (first ++ second) (created_lines event)
      (none_of_both first second
      (fields_none _ event.debit_account (account_of h d)
      (ap (λ n. record (fixed_of (account_of h d)) { ledger = n }) enters.ledger.debit)
      (λ x is. first_fields h sound kept d x (sym (ap (fields_before (events h)) debit_id) ∙ is)))
      (fields_none _ event.credit_account (account_of h c)
      (ap (λ n. record (fixed_of (account_of h c)) { ledger = n }) enters.ledger.credit)
      (λ x is. first_fields h sound kept c x (sym (ap (fields_before (events h)) credit_id) ∙ is)))) (
        not_from_true _ (and_from _ _ (lt-ltb 0 (account_of h d).timestamp d_there.2)
            (lt-ltb (account_of h d).timestamp e.timestamp (let b = d_there.1 in omega arith))),
        (
          not_from_true _ (and_from _ _ (lt-ltb 0 (account_of h c).timestamp c_there.2)
              (lt-ltb (account_of h c).timestamp e.timestamp (let b = c_there.1 in omega arith))),
          tt,
        ),
      )) has_times

  -- the sums of both accounts are within their bounds
  bounds_none : (id : ℕ) (a : EventAccount) → a.flags ≡ (account_of h id).request.flags
      → balances_of a ≡ balances (pushed h e) id e.timestamp → NoneApplies (limit_lines a)
  bounds_none id a flags_are sums_are =
      let limited : IsLimited a.flags (balances_of a) =
      subst (λ f. IsLimited f (balances_of a)) (sym flags_are)
      (subst (IsLimited (account_of h id).request.flags) (sym sums_are)
      ((kept-pushed h e sound follows after enters kept).limits id)) in
      let bounded = subst (λ (b : Balances). (b.debits_pending + b.debits_posted ≤ max_128)
      × (b.credits_pending + b.credits_posted ≤ max_128)) (sym sums_are) (next.bounded id) in
      (le-ltb max_128 (all_debits a) bounded.0 & le-ltb max_128 (all_credits a) bounded.1
      & guard (has_flag a.flags DEBITS_MUST_NOT_EXCEED_CREDITS) a.credits_posted (all_debits a) limited.debits
      & guard (has_flag a.flags CREDITS_MUST_NOT_EXCEED_DEBITS) a.debits_posted (all_credits a) limited.credits
      & tt)

  -- an open pending transfer lets the event pass after this last expiry
  Allows : Option Entry → Event → Type 0
  Allows last f =
      (stores e.kind ≡ false → is_sooner f.transfer event.transfer ≡ false)
      × IfSome last (λ x. expires_at_shown f.transfer ≡ expires_at x.transfer
      → (stores e.kind ≡ false) × (e.timestamp ≡ x.timestamp + 1))

  -- so does the one that expires first
  first_allows : (last : Option Entry) → AllByRecursion (LetsPass last h e) h.entries
      → IfSome (first_due (events h)) (Allows last)
  unfolding Allows
  first_allows last all =
      first_of-all (Allows last) (filter (can_expire (events h)) (events h))
      (passing (can_expire (events h)) (Allows last) (events h)
      (all_images h (λ f. can_expire (events h) f ≡ true → Allows last f) h.entries
      (AllByRecursion-weaker _ _ (λ y lets passes.
      let both = and_parts (holds y.kind && not (y.transfer.timeout == 0))
      (not (is_settled (events h) y.transfer.id)) passes in
      let timed = and_parts (holds y.kind) (not (y.transfer.timeout == 0)) both.0 in
      lets timed.0 (not-true _ timed.1) (unresolved h y.transfer h.last (not-true _ both.1))) h.entries all)))

  -- so no line on expiries applies
  has_order : NoneApplies (expiry_lines (first_due (events h)) (last_shown (events h)) event)
  unfolding Allows
  has_order =
      subst (λ o. NoneApplies (expiry_lines (first_due (events h)) o event)) (sym (same_expiry h None h.entries))
      (by (first_due (events h)) (last_expiry h) (first_allows (last_expiry h) enters.order))
    where
      late : (f : Event) (b : Bool) → stores e.kind ≡ b
          → (stores e.kind ≡ false → is_sooner f.transfer event.transfer ≡ false)
          → (not b && is_sooner f.transfer event.transfer) ≡ false
      late f true is turn = refl
      late f false is turn = turn is

      by : (first : Option Event) (last : Option Entry) → IfSome first (Allows last)
          → NoneApplies (expiry_lines first (option_map (event_of h) last) event)
      by None last allows = tt
      by (Some f) None allows = (late f (stores e.kind) refl allows.0, tt)
      by (Some f) (Some x) allows = (
        late f (stores e.kind) refl allows.0,
        (
          apart_none (expires_at_shown f.transfer) (expires_at x.transfer) e.timestamp x.timestamp (stores e.kind)
              allows.1,
          tt,
        ),
      )

  -- after a linked transfer it stores one, one nanosecond later
  has_next : NoneApplies (chain_lines (ends_in_chain (events h)) (last_timestamp (events h)) event)
  has_next = (
    and_unless _ _ (λ is.
        let next = enters.chain (sym (same_chain h false h.entries) ∙ is) in
        let at = next.1 ∙ ap (λ n. n + 1) (sym (same_end h 0 h.entries)) in
        not_from_true _ (and_from _ _ next.0 (eq-eqb _ _ at))),
    tt,
  )

  has_limits : NoneApplies (limits_lines event)
  has_limits =
      none_of_both (limit_lines event.debit_account) (limit_lines event.credit_account)
      (bounds_none e.transfer.debit_account_id event.debit_account refl refl)
      (bounds_none e.transfer.credit_account_id event.credit_account refl refl)

  -- it releases what its entry releases
  same_released : released (events h) event ≡ (effect_of h e).released
  same_released = by (settles e.kind) refl
    where
      by : (b : Bool) → settles e.kind ≡ b → released (events h) event ≡ (effect_of h e).released
      by true is =
          let of : SettlesOpen h e = follows.settling is in
          ap₂ (λ b o. if b then unwrap_or o 0 else 0) is (amount_of_settled is)
          ∙ sym (ap amount_of (settled_by_is h e of.pending is of.settles))
      by false is =
          ap (λ b. if b then unwrap_or (pending_amount (events h) named_id) 0 else 0) is
          ∙ sym (ap amount_of (settled_by_none h e is))

  -- the balances of an account right after the entry
  now : (a : ℕ) → balances (pushed h e) a e.timestamp ≡ balances_after_entry h e a (balances h a h.last)
  now a = balances-pushed h e a sound follows after

  -- those of the debited account follow
  debited : IsDebited (events h) event (balances_after (events h) event.debit_account.id)
  debited =
      let d = e.transfer.debit_account_id in
      let not : e.transfer.credit_account_id ≢ d = λ same. follows.apart (sym same) in
      let enough = released_debit h e sound follows after in
      let release = same_released in
      let is = now d in
      rw (ap (balances_after (events h)) debit_id ∙ audited.shown d) (record {
        debits_pending = omega (arith, ap (λ (b : Balances). b.debits_pending) is, part_own);
        debits_posted = omega (arith, ap (λ (b : Balances). b.debits_posted) is, part_own);
        credits_pending = omega (arith, ap (λ (b : Balances). b.credits_pending) is, part_other);
        credits_posted = omega (arith, ap (λ (b : Balances). b.credits_posted) is, part_other);
      })

  -- and those of the credited one
  credited : IsCredited (events h) event (balances_after (events h) event.credit_account.id)
  credited =
      let c = e.transfer.credit_account_id in
      let not : e.transfer.debit_account_id ≢ c = follows.apart in
      let enough = released_credit h e sound follows after in
      let release = same_released in
      let is = now c in
      rw (ap (balances_after (events h)) credit_id ∙ audited.shown c) (record {
        debits_pending = omega (arith, ap (λ (b : Balances). b.debits_pending) is, part_other);
        debits_posted = omega (arith, ap (λ (b : Balances). b.debits_posted) is, part_other);
        credits_pending = omega (arith, ap (λ (b : Balances). b.credits_pending) is, part_own);
        credits_posted = omega (arith, ap (λ (b : Balances). b.credits_posted) is, part_own);
      })

  -- so the event follows
  event_follows : CanFollow (events h) event
  event_follows =
      let past = last_timestamp-events h sound.past in
      record {
        later = omega (arith, past, after);
        apart = apart;
        within = le-ltb max_timestamp e.timestamp next.within;
        shape = has_shape;
        fixed = has_fields;
        new = is_new;
        pending = is_pending;
        unsettled = is_unsettled;
        settling = is_settling;
        expiry = has_order;
        chain = has_next;
        limits = has_limits;
        debited = debited;
        credited = credited;
      }

  -- an account that it doesn't have keeps its balances
  others : (a : ℕ) → e.transfer.debit_account_id ≢ a → e.transfer.credit_account_id ≢ a
      → balances (pushed h e) a e.timestamp ≡ balances h a h.last
  others a not_debited not_credited =
      now a ∙ same_balances _ _ _ _ _ _ _ _ (omega (arith, part_other)) (omega (arith, part_other))
      (omega (arith, part_other)) (omega (arith, part_other))

  -- the balances of each account are shown
  shown_then : (id : ℕ) → balances_after (events h ++ event ∷ []) id ≡ balances (pushed h e) id e.timestamp
  shown_then id =
      elim (eqb_tells event.credit_account.id id) [
        | inl credit ↦
            balances_after-credited (events h) event id credit.1
            ∙ ap (λ n. balances (pushed h e) n e.timestamp) (sym credit_id ∙ credit.1)
        | inr credit ↦ elim (eqb_tells event.debit_account.id id) [
          | inl debit ↦
              balances_after-debited (events h) event id debit.1 credit.1
              ∙ ap (λ n. balances (pushed h e) n e.timestamp) (sym debit_id ∙ debit.1)
          | inr debit ↦
              balances_after-other (events h) event id debit.1 credit.1
              ∙ audited.shown id
              ∙ sym (others id (λ same. debit.1 (debit_id ∙ same)) (λ same. credit.1 (credit_id ∙ same)))
        ]
      ]

  -- so the events of the history with the entry follow too
  audited-pushed : IsAudited (pushed h e)
  audited-pushed =
      let longer = events-pushed h e sound.past after in
      record {
        follow =
            subst (FollowAll []) (sym longer) (follow_all-push [] (events h) event audited.follow event_follows);
        shown = λ id. ap (λ (es : List Event). balances_after es id) longer ∙ shown_then id;
      }

-- ---- the other changes of a history

-- the history of a new ledger
audited-empty : IsAudited empty_history
audited-empty = record { follow = tt; shown = λ id. refl }

-- a timestamp that is taken
audited-timed : (h : History) (t : ℕ) → IsSound h → h.last ≤ t → IsAudited h → IsAudited (timed h t)
audited-timed h t sound later audited = record {
  follow = audited.follow;
  shown = λ id. audited.shown id ∙ sym (balances_later h id h.last t sound.past later);
}

-- an account that is opened
audited-account : (h : History) (o : Opened) → IsSound h → h.last ≤ o.timestamp → IsAudited h
    → IsAudited (with_account h o)
audited-account h o sound later audited =
    let same = events-with_account h o sound.known in
    record {
      follow = subst (FollowAll []) (sym same) audited.follow;
      shown = λ id. ap (λ (es : List Event). balances_after es id) same ∙ audited.shown id
          ∙ sym (balances_later h id h.last o.timestamp sound.past later);
    }

-- a ledger that is closed, or not
audited-closed : (h : History) (closed : Bool) → IsAudited h → IsAudited (record h { closed = closed })
audited-closed h closed audited = record { follow = audited.follow; shown = audited.shown }

-- the events of a history follow, and its accounts and entries are as they have to be
abbrev pub IsAuditable : History → Type 0
IsAuditable h = IsKept h × IsAudited h

-- one more entry
auditable-pushed : (h : History) (e : Entry) → IsSound h → Follows h e → h.last < e.timestamp → IsSound (pushed h e)
    → Enters h e → IsAuditable h → IsAuditable (pushed h e)
auditable-pushed h e sound follows after next enters is = (
  kept-pushed h e sound follows after enters is.0,
  audited-pushed h e sound follows after next enters is.0 is.1,
)

-- so it is with every legal history
pub auditable : (h : History) → IsLegal h → IsAuditable h
auditable h legal =
    kept_by_legal IsAuditable (kept-empty, audited-empty)
    (λ g r t sound later clear room chained none next is.
    auditable-pushed g (entry_of g r t) sound (Follows-accepted g r t sound later none) later next
    (enters-accepted g r t sound later is.0.ledgers chained none
    (in_turn-stored g (entry_of g r t) (stores_asked r) clear)) is)
    (λ g now t p ps sound later all up unchained pulsing next is.
    auditable-pushed g (expiry p t) sound (Follows-open g p t sound all.0) later next
    (enters-expiry g p t is.0.ledgers all.0 up unchained (in_turn-expiry g now t p ps sound all pulsing)) is)
    (λ g a t sound later none is.
    (kept-account g a t sound later none is.0, audited-account g (opened_by a t) sound (omega arith) is.1))
    (λ g t sound later is. (kept-timed g t sound later is.0, audited-timed g t sound later is.1))
    (λ g closed is. (kept-closed g closed is.0, audited-closed g closed is.1)) h legal

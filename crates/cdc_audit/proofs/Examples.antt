-- Streams of a few events: one that is accepted, one that each rule refuses, and the texts of the refusals.
use Rattle.cdc_audit.proofs.Words.{AccountField, AccountShape, AfterEnd, Amount, Balance, BrokenChain, CreatedLater, Event, EventAccount, EventKind, ExpiresApart, ExpiresLate, KnownId, Limit, NoTimeout, NotLater, NotPending, OneAccount, OtherFields, OtherKind, OtherTimestamp, Settled, SinglePhase, Some, TooHigh, TooLarge, TooLate, TooSoon, TransferShape, TwoPhaseExpired, TwoPhasePending, TwoPhasePosted, TwoPhaseVoided, [], codes, entry_refusal, false, is_accepted, max_128, refl, true, ℕ, ◌-◌, ◌^◌, ◌∷◌, ◌≡◌}
use Rattle.cdc_audit.specs.Audits.{follows_on}
use Rattle.cdc_audit.specs.Rules.{refusal}
use Rattle.cdc_audit.specs.Texts.{refusal_text}
use Rattle.std.specs.Fmt.{digits}
use Rattle.cdc_types.specs.declared.results.AccountResult.TheVariants as account
use Rattle.cdc_types.specs.declared.results.TransferResult.TheVariants as transfer
use Rattle.cdc_follow.specs.declared.entries.Content.TheVariants as content
use Rattle.cdc_audit.specs.declared.refusals.BalanceField.TheVariants.{DebitsPosted, DebitsPending}
use Rattle.cdc_audit.specs.declared.refusals.FixedField.TheVariants.{Code}
use Rattle.cdc_audit.specs.declared.refusals.Side.TheVariants.{Debits, Credits}

-- an account that is debited, and one that is credited, with their pending and posted sums
abbrev debited : ℕ → ℕ → ℕ → EventAccount
debited id pending posted = record {
  id = id;
  debits_pending = pending;
  debits_posted = posted;
  credits_pending = 0;
  credits_posted = 0;
  user_data_128 = 0;
  user_data_64 = 0;
  user_data_32 = 0;
  code = 1;
  flags = 0;
  timestamp = 1;
}

abbrev credited : ℕ → ℕ → ℕ → EventAccount
credited id pending posted = record {
  id = id;
  debits_pending = 0;
  debits_posted = 0;
  credits_pending = pending;
  credits_posted = posted;
  user_data_128 = 0;
  user_data_64 = 0;
  user_data_32 = 0;
  code = 1;
  flags = 0;
  timestamp = 2;
}

-- the flags of a transfer of this kind of event
abbrev flags_of : EventKind → ℕ
flags_of SinglePhase = 0
flags_of TwoPhasePending = 2
flags_of TwoPhasePosted = 4
flags_of TwoPhaseVoided = 8
flags_of TwoPhaseExpired = 2

-- an event at this time, of this kind, with the id, the pending id and the amount of its transfer, and with the same
-- sums of both accounts
abbrev event : ℕ → EventKind → ℕ → ℕ → ℕ → ℕ → ℕ → Event
event timestamp kind id pending_id amount pending posted = record {
  timestamp = timestamp;
  kind = kind;
  ledger = 1;
  transfer = record {
    id = id;
    amount = amount;
    pending_id = pending_id;
    user_data_128 = 0;
    user_data_64 = 0;
    user_data_32 = 0;
    timeout = 0;
    code = 1;
    flags = flags_of kind;
    timestamp = timestamp;
  };
  debit_account = debited 1 pending posted;
  credit_account = credited 2 pending posted;
}

-- five are moved at once, seven are held back, and six of them are posted
abbrev moved : Event
moved = event 1000 SinglePhase 10 0 5 0 5

abbrev held_back : Event
held_back = event 2000 TwoPhasePending 11 0 7 7 5

abbrev posted_then : Event
posted_then = event 3000 TwoPhasePosted 12 11 6 0 11

-- or they are held back for a second, and the whole is released as they expire
abbrev held_timed : Event
held_timed = record held_back { transfer = record held_back.transfer { timeout = 1 } }

abbrev expired : Event
expired = record held_timed {
  timestamp = 1000002000;
  kind = TwoPhaseExpired;
  debit_account = debited 1 0 5;
  credit_account = credited 2 0 5;
}

accepted : is_accepted (moved ∷ held_back ∷ posted_then ∷ []) ≡ true
unfolding refusal follows_on
accepted = refl

-- or the seven are released, by a void or by their expiry
accepted-void : is_accepted (moved ∷ held_back ∷ event 3000 TwoPhaseVoided 12 11 7 0 5 ∷ []) ≡ true
unfolding refusal follows_on
accepted-void = refl

accepted-expiry : is_accepted (moved ∷ held_timed ∷ expired ∷ []) ≡ true
unfolding refusal follows_on
accepted-expiry = refl

-- without the event between them the third one doesn't follow from the first
one_is_lost : is_accepted (moved ∷ posted_then ∷ []) ≡ false
unfolding refusal follows_on
one_is_lost = refl

-- each rule refuses an event
after_the_end : entry_refusal (record { foreign = false; past = moved ∷ []; ended = true }) (content.Event held_back)
    ≡ Some (AfterEnd 2000)
after_the_end = refl

not_later : refusal (moved ∷ []) (event 1000 SinglePhase 11 0 5 0 10) ≡ Some (NotLater 1000 1000)
unfolding refusal
not_later = refl

one_account : refusal [] (record moved { credit_account = credited 1 0 5 }) ≡ Some (OneAccount 1)
unfolding refusal
one_account = refl

known_id : refusal (moved ∷ []) (event 2000 SinglePhase 10 0 5 0 10) ≡ Some (KnownId 10)
unfolding refusal
known_id = refl

not_pending : refusal (moved ∷ []) (event 2000 TwoPhasePosted 11 10 5 0 10) ≡ Some (NotPending 10)
unfolding refusal
not_pending = refl

settled_before : refusal (moved ∷ held_back ∷ posted_then ∷ []) (event 4000 TwoPhaseVoided 13 11 7 0 11)
    ≡ Some (Settled 11)
unfolding refusal
settled_before = refl

-- a field that no ledger lets a transfer have, the flags of another kind, and another time
shape : refusal [] (record moved { ledger = 0 }) ≡ Some (TransferShape 10 transfer.LedgerMustNotBeZero)
unfolding refusal
shape = refl

shape-kind : refusal [] (record moved { kind = TwoPhasePending }) ≡ Some (OtherKind 10)
unfolding refusal
shape-kind = refl

shape-timestamp : refusal [] (record moved { timestamp = 1001 }) ≡ Some (OtherTimestamp 10 1000 1001)
unfolding refusal
shape-timestamp = refl

shape-account : refusal [] (record moved { debit_account = record (debited 1 0 5) { code = 0 } })
    ≡ Some (AccountShape 1 account.CodeMustNotBeZero)
unfolding refusal
shape-account = refl

-- another code of an account, and an account that was created later
other_code : refusal (moved ∷ []) (record held_back { debit_account = record (debited 1 7 5) { code = 2 } })
    ≡ Some (AccountField (record { account = 1; field = Code; shown = 2; before = 1 }))
unfolding refusal
other_code = refl

created_later : refusal [] (record moved { credit_account = record (credited 2 0 5) { timestamp = 1000 } })
    ≡ Some (CreatedLater 2 1000 1000)
unfolding refusal
created_later = refl

-- a sum above the limit of an account whose debits must not exceed its credits, and one above 128 bits
above_limit : refusal [] (record moved { debit_account = record (debited 1 0 5) { flags = 2 } })
    ≡ Some (Limit (record { account = 1; side = Debits; sum = 5; limit = 0 }))
unfolding refusal
above_limit = refl

too_large : refusal [] (record moved { credit_account = credited 2 1 max_128 }) ≡ Some (TooLarge 2 Credits)
unfolding refusal
too_large = refl

-- after a linked transfer comes one that is one nanosecond later
abbrev linked : Event
linked = record moved { transfer = record moved.transfer { flags = 1 } }

chain : is_accepted (linked ∷ event 1001 TwoPhasePending 11 0 7 7 5 ∷ []) ≡ true
unfolding refusal follows_on
chain = refl

broken_chain : refusal (linked ∷ []) held_back ≡ Some (BrokenChain 2000 1000)
unfolding refusal
broken_chain = refl

-- a post between other accounts than its pending transfer's, and an expiry with another code
other_accounts : refusal (moved ∷ held_back ∷ [])
    (record posted_then { credit_account = record (credited 3 0 6) { timestamp = 3 } })
    ≡ Some (OtherFields 11)
unfolding refusal
other_accounts = refl

other_transfer : refusal (moved ∷ held_timed ∷ [])
    (record expired { transfer = record held_back.transfer { timeout = 2 } }) ≡ Some (OtherFields 11)
unfolding refusal
other_transfer = refl

-- more than the seven are posted, and not the whole of them is voided
too_much : refusal (moved ∷ held_back ∷ []) (event 3000 TwoPhasePosted 12 11 8 0 13) ≡ Some (Amount 8 11 7)
unfolding refusal
too_much = refl

a_part_is_voided : refusal (moved ∷ held_back ∷ []) (event 3000 TwoPhaseVoided 12 11 6 0 5) ≡ Some (Amount 6 11 7)
unfolding refusal
a_part_is_voided = refl

-- what has no timeout expires, or something expires a nanosecond too soon, or is posted when its time is up
no_timeout : refusal (moved ∷ held_back ∷ []) (record expired { transfer = held_back.transfer }) ≡ Some (NoTimeout 11)
unfolding refusal
no_timeout = refl

too_soon : refusal (moved ∷ held_timed ∷ []) (record expired { timestamp = 1000001999 })
    ≡ Some (TooSoon 11 1000001999 1000002000)
unfolding refusal
too_soon = refl

too_late : refusal (moved ∷ held_timed ∷ []) (event 1000002000 TwoPhasePosted 12 11 6 0 11)
    ≡ Some (TooLate 11 1000002000 1000002000)
unfolding refusal
too_late = refl

-- seven are held back for two seconds, and five for the last one of these
abbrev held_long : Event
held_long = record held_back { transfer = record held_back.transfer { timeout = 2 } }

abbrev held_last : Event
held_last = let later = event 1000002000 TwoPhasePending 12 0 5 12 5 in
    record later { transfer = record later.transfer { timeout = 1 } }

-- they expire at once: first the seven, and one nanosecond later the five
abbrev expired_long : Event
expired_long = record held_long {
  timestamp = 2000002000;
  kind = TwoPhaseExpired;
  debit_account = debited 1 5 5;
  credit_account = credited 2 5 5;
}

abbrev expired_last : Event
expired_last = record held_last {
  timestamp = 2000002001;
  kind = TwoPhaseExpired;
  debit_account = debited 1 0 5;
  credit_account = credited 2 0 5;
}

accepted-expiries : is_accepted (moved ∷ held_long ∷ held_last ∷ expired_long ∷ expired_last ∷ []) ≡ true
unfolding refusal follows_on
accepted-expiries = refl

-- the five can't expire before the seven
expires_late : refusal (moved ∷ held_long ∷ held_last ∷ []) (record expired_last {
  timestamp = 2000002000;
  debit_account = debited 1 7 5;
  credit_account = credited 2 7 5;
}) ≡ Some (ExpiresLate 12 11)
unfolding refusal
expires_late = refl

expires_apart : refusal (moved ∷ held_long ∷ held_last ∷ expired_long ∷ [])
    (record expired_last { timestamp = 2000002002 }) ≡ Some (ExpiresApart 12 11)
unfolding refusal
expires_apart = refl

-- nor can they stay once the seven expired
expires_never : refusal (moved ∷ held_long ∷ held_last ∷ expired_long ∷ [])
    (event 2000002001 SinglePhase 13 0 1 5 6) ≡ Some (ExpiresApart 12 11)
unfolding refusal
expires_never = refl

-- they can be posted before their time is up, and then the seven may expire when they like
accepted-posted : is_accepted (moved ∷ held_long ∷ held_last ∷ event 1000002001 TwoPhasePosted 13 12 5 7 10
    ∷ record expired_long {
      timestamp = 2000002005;
      debit_account = debited 1 0 10;
      credit_account = credited 2 0 10;
    } ∷ []) ≡ true
unfolding refusal follows_on
accepted-posted = refl

-- a post has no user data, and its pending transfer has
drops_data : refusal
    (moved ∷ record held_back { transfer = record held_back.transfer { user_data_64 = 7 } } ∷ []) posted_then
    ≡ Some (OtherFields 11)
unfolding refusal
drops_data = refl

-- a timestamp and an expiry time above the greatest timestamp, and an account that was created at 0
too_high : refusal [] (event (2 ^ 63) SinglePhase 10 0 5 0 5) ≡ Some (TooHigh (2 ^ 63))
unfolding refusal
too_high = refl

expires_too_late : refusal [] (let late = event (2 ^ 63 - 1) TwoPhasePending 10 0 5 5 0 in
    record late { transfer = record late.transfer { timeout = 1 } })
    ≡ Some (TransferShape 10 transfer.OverflowsTimeout)
unfolding refusal
expires_too_late = refl

created_never : refusal [] (record moved { credit_account = record (credited 2 0 5) { timestamp = 0 } })
    ≡ Some (CreatedLater 2 0 1000)
unfolding refusal
created_never = refl

-- the post of six releases the seven that are held, not six
releases_the_whole : refusal (moved ∷ held_back ∷ []) (event 3000 TwoPhasePosted 12 11 6 1 11)
    ≡ Some (Balance (record {
      account = 1;
      field = DebitsPending;
      shown = 1;
      before = 7;
      added = 0;
      released = 7;
    }))
unfolding refusal
releases_the_whole = refl

other_balance : refusal (moved ∷ []) (event 2000 SinglePhase 11 0 5 0 11)
    ≡ Some (Balance (record {
      account = 1;
      field = DebitsPosted;
      shown = 11;
      before = 5;
      added = 5;
      released = 0;
    }))
unfolding refusal
other_balance = refl

-- the texts
text-balance : refusal_text (Balance (record {
  account = 7;
  field = DebitsPosted;
  shown = 45;
  before = 30;
  added = 5;
  released = 0;
})) ≡ codes "balances: account 7 has debits_posted 45, after 30 and this transfer's 5"
unfolding refusal_text digits
text-balance = refl

text-released : refusal_text (Balance (record {
  account = 7;
  field = DebitsPending;
  shown = 45;
  before = 30;
  added = 0;
  released = 5;
})) ≡ codes "balances: account 7 has debits_pending 45, after 30 less the pending transfer's 5"
unfolding refusal_text digits
text-released = refl

text-shape : refusal_text (TransferShape 7 transfer.LedgerMustNotBeZero)
    ≡ codes "shape: transfer 7 is invalid: ledger_must_not_be_zero"
unfolding refusal_text digits
text-shape = refl

text-fields : refusal_text (AccountField (record { account = 7; field = Code; shown = 2; before = 1 }))
    ≡ codes "fields: account 7 has code 2, after 1"
unfolding refusal_text digits
text-fields = refl

text-created : refusal_text (CreatedLater 7 30 20) ≡ codes "created: account 7 at 30, in an event at 20"
unfolding refusal_text digits
text-created = refl

text-chains : refusal_text (BrokenChain 40 20) ≡ codes "chains: event 40 isn't the next of the chain at 20"
unfolding refusal_text digits
text-chains = refl

text-limits : refusal_text (Limit (record { account = 7; side = Debits; sum = 45; limit = 30 }))
    ≡ codes "limits: account 7 has debits of 45, above its credits of 30"
unfolding refusal_text digits
text-limits = refl

text-too_large : refusal_text (TooLarge 7 Credits) ≡ codes "limits: account 7 has credits above 128 bits"
unfolding refusal_text digits
text-too_large = refl

text-settles : refusal_text (OtherFields 7)
    ≡ codes "settles: pending transfer 7 has other accounts, another ledger, code or user data"
unfolding refusal_text digits
text-settles = refl

text-no_timeout : refusal_text (NoTimeout 7) ≡ codes "timeouts: pending transfer 7 has no timeout"
unfolding refusal_text digits
text-no_timeout = refl

text-too_soon : refusal_text (TooSoon 7 50 60)
    ≡ codes "timeouts: pending transfer 7 expires at 50, and its time is up at 60"
unfolding refusal_text digits
text-too_soon = refl

text-too_late : refusal_text (TooLate 7 70 60)
    ≡ codes "timeouts: pending transfer 7 is settled at 70, and its time is up at 60"
unfolding refusal_text digits
text-too_late = refl

text-amount : refusal_text (Amount 12 7 10) ≡ codes "amount: 12 of pending transfer 7, which holds 10"
unfolding refusal_text digits
text-amount = refl

text-expires_late : refusal_text (ExpiresLate 7 8)
    ≡ codes "expiries: pending transfer 7 expires before pending transfer 8, which is first to expire"
unfolding refusal_text digits
text-expires_late = refl

text-expires_apart : refusal_text (ExpiresApart 7 8)
    ≡ codes "expiries: pending transfer 7 expires with pending transfer 8, and not right after it"
unfolding refusal_text digits
text-expires_apart = refl

text-too_high : refusal_text (TooHigh 50) ≡ codes "timestamps: 50 is above the greatest timestamp"
unfolding refusal_text digits
text-too_high = refl

text-end : refusal_text (AfterEnd 2001) ≡ codes "end: event 2001 came after the end"
unfolding refusal_text digits
text-end = refl

text-timestamps : refusal_text (NotLater 2000 2000) ≡ codes "timestamps: 2000, after 2000"
unfolding refusal_text digits
text-timestamps = refl

text-accounts : refusal_text (OneAccount 1) ≡ codes "accounts: account 1 is debited and credited"
unfolding refusal_text digits
text-accounts = refl

text-id : refusal_text (KnownId 7) ≡ codes "id: transfer 7 came before"
unfolding refusal_text digits
text-id = refl

text-pending : refusal_text (NotPending 7) ≡ codes "pending: no pending transfer 7 came before"
unfolding refusal_text digits
text-pending = refl

text-ended : refusal_text (Settled 7) ≡ codes "ended: pending transfer 7 ended before"
unfolding refusal_text digits
text-ended = refl

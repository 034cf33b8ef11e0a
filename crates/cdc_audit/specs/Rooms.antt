-- Whether each chain can have its next item: no event has its timestamp, a batch has room for it, and a timestamp is
-- left for it. Accounts are opened in chains, too, of which events show some.
use Rattle.std.specs.Prelude.{ℕ, zero, suc, ◌+◌, ◌-◌, Bool, true, false, ◌==◌, ◌&&◌, ◌||◌, not, nat_lt, nat_le, is_none, is_some, filter, List, [], ◌∷◌, ◌++◌, Option, Some, None, if◌then◌else◌}
use Rattle.cdc_types.specs.declared.accounts.TheConstants.AccountFlags.{LINKED}
use Rattle.cdc_types.specs.declared.bounds.TheConstants.Limits.{BATCH_ITEMS, TIMESTAMP}
use Rattle.cdc_types.specs.declared.events.Event.{Event}
use Rattle.cdc_types.specs.declared.events.EventAccount.{EventAccount}
use Rattle.cdc_types.specs.Flags.{has_flag}
use Rattle.cdc_audit.specs.declared.fields.FixedFields.{FixedFields}
use Rattle.cdc_audit.specs.declared.refusals.Refusal.{Refusal}
use Rattle.cdc_audit.specs.declared.refusals.Refusal.TheVariants.{LongAccountChain, LongChain, NextIsEvent, NoNext}
use Rattle.cdc_audit.specs.declared.rooms.Links.{Links}
use Rattle.cdc_audit.specs.declared.rooms.Room.{Room}
use Rattle.cdc_audit.specs.Apart.{account_at, accounts_before, has_time, times_of}
use Rattle.cdc_audit.specs.Fields.{fields_before}
use Rattle.cdc_audit.specs.Known.{chain_length, is_linked}

-- the account is linked to the next one
abbrev pub is_link : ℕ × FixedFields → Bool
is_link a = has_flag a.1.flags LINKED

-- the linked ones of these accounts
abbrev pub links_of : List (ℕ × FixedFields) → List (ℕ × FixedFields)
links_of accounts = filter is_link accounts

-- an event shows this account, linked and created at this timestamp
abbrev pub shows_link : EventAccount → ℕ → Bool
shows_link a t = has_flag a.flags LINKED && (a.timestamp == t)

-- a linked account was created at this timestamp: one of these, or one of the event's
abbrev pub is_link_at : List (ℕ × FixedFields) → Event → ℕ → Bool
is_link_at accounts e t =
    is_some (account_at (links_of accounts) t) || (shows_link e.debit_account t || shows_link e.credit_account t)

-- how many timestamps in a row pass a test, from this one on, or from this one back; no more than so many are counted
abbrev pub run_up : (ℕ → Bool) → ℕ → ℕ → ℕ
run_up test zero t = 0
run_up test (suc most) t = if test t then run_up test most (t + 1) + 1 else 0

abbrev pub run_down : (ℕ → Bool) → ℕ → ℕ → ℕ
run_down test zero t = 0
run_down test (suc most) t = if test t then run_down test most (t - 1) + 1 else 0

-- an account is linked, and was created before an event at this timestamp, which a ledger can give
abbrev pub can_link : EventAccount → ℕ → Bool
can_link a t = has_flag a.flags LINKED && (nat_lt a.timestamp t && nat_le t TIMESTAMP)

-- what an account of this timestamp is linked to, by the timestamps of the events before it, and by a test of which
-- timestamps are those of linked accounts. If it isn't linked or is known, there is nothing to check
abbrev pub links_known : Bool → List ℕ → (ℕ → Bool) → ℕ → Links
links_known counts times test t =
    if counts
    then record {
      to_event = has_time times (t + 1);
      length = run_down test BATCH_ITEMS t + run_up test BATCH_ITEMS (t + 1);
    }
    else record { to_event = false; length = 0 }

-- the same of an account of an event, by the events before it
abbrev pub links_before : List Event → Event → EventAccount → Links
links_before past e a =
    links_known (can_link a e.timestamp && is_none (fields_before past a.id)) (times_of past)
    (is_link_at (accounts_before past) e) a.timestamp

-- what the events before an event show of the chains that it is in: the linked account right before it, what its
-- accounts are linked to, and how many linked transfers these events end with. Nothing of another ledger's: its batches
-- may have more items, and it may import accounts
abbrev pub room_before : Bool → List Event → Event → Option Room
room_before foreign past e =
    if foreign then None
    else Some (record {
      after = account_at (links_of (accounts_before past)) (e.timestamp - 1);
      debit = links_before past e e.debit_account;
      credit = links_before past e e.credit_account;
      chain = chain_length past;
    })

-- the line on an event right after a linked account
abbrev pub after_lines : Option ℕ → Event → List (Bool × Refusal)
after_lines None e = []
after_lines (Some id) e = (true, NextIsEvent id (e.timestamp - 1)) ∷ []

-- the lines on an account: no event comes right after it, this one neither, if it is linked; and a batch has room for
-- the linked accounts in a row that it is one of, and for the next one
abbrev pub links_lines : Links → EventAccount → ℕ → List (Bool × Refusal)
links_lines links a t =
    (links.to_event || (has_flag a.flags LINKED && (t == a.timestamp + 1)), NextIsEvent a.id a.timestamp) ∷
    (not (nat_lt links.length BATCH_ITEMS), LongAccountChain a.id a.timestamp) ∷
    []

-- the lines on an event that stores a linked transfer, after so many: a batch has room for them, for this one and for
-- the next one, and a timestamp is left
abbrev pub own_chain_lines : ℕ → Event → List (Bool × Refusal)
own_chain_lines chain e =
    (is_linked e && nat_lt BATCH_ITEMS (chain + 2), LongChain e.timestamp) ∷
    (is_linked e && nat_le TIMESTAMP e.timestamp, NoNext e.timestamp) ∷
    []

-- all of them
abbrev pub room_lines : Option Room → Event → List (Bool × Refusal)
room_lines None e = []
room_lines (Some room) e =
    after_lines room.after e ++ links_lines room.debit e.debit_account e.timestamp
    ++ links_lines room.credit e.credit_account e.timestamp ++ own_chain_lines room.chain e

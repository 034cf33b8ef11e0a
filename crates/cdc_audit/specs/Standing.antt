-- What an auditor keeps, and for which audits it stands.
use Rattle.std.specs.Prelude.{◌≡◌, ◌<◌, ◌≤◌, ◌+◌, ◌-◌, ℕ, Bool, true, false, ◌==◌, ◌&&◌, not, nat_lt, is_none, min, fold, get_or, nat_eq, is_some, List, [], ◌∷◌, ◌++◌, length, Option, Some, None, unwrap_or, if◌then◌else◌}
use Rattle.std.specs.List.{AllByRecursion}
use Rattle.std.specs.Map.{lookup}
use Rattle.std.specs.declared.cmp.Ordering.{Ordering}
use Rattle.std.specs.Ordering.{is_gt, nat_cmp, ordering_then}
use Rattle.std.specs.BTreeSet.{BTreeSet, contains}
use Rattle.indexmap.specs.IndexMap.{insert_entry}
use Rattle.cdc_types.specs.declared.events.Event.{Event}
use Rattle.cdc_types.specs.declared.events.EventAccount.{EventAccount}
use Rattle.cdc_types.specs.Timestamps.{RiseFrom, last_timestamp}
use Rattle.cdc_types.specs.Widths.{max_64}
use Rattle.cdc_ledger.specs.Accounts.{no_balances}
use Rattle.cdc_ledger.specs.Kinds.{holds, settles, stores}
use Rattle.cdc_subscriber.specs.Book.{balances_in, book_of}
use Rattle.cdc_subscriber.specs.SubscriberState.{SubscriberState}
use Rattle.cdc_audit.specs.declared.apart.Times.{Times}
use Rattle.cdc_audit.specs.declared.checks.Facts.{Facts}
use Rattle.cdc_audit.specs.declared.fields.FixedFields.{FixedFields}
use Rattle.cdc_audit.specs.declared.open_ones.Due.{Due}
use Rattle.cdc_audit.specs.declared.checks.Stored.{Stored}
use Rattle.cdc_audit.specs.declared.checks.Stored.TheVariants as stored
use Rattle.cdc_audit.specs.Apart.{account_at, accounts_before, times_known, times_of, with_shown}
use Rattle.cdc_audit.specs.Audits.{AuditState}
use Rattle.cdc_audit.specs.Checks.{amount_in, stored_by, was_settled}
use Rattle.cdc_audit.specs.Fields.{accounts_of, fields_before}
use Rattle.cdc_audit.specs.Known.{chain_length, is_linked, is_settled, is_stored, last_expiry, open_event, pending_amount, pending_event, settled_id}
use Rattle.cdc_audit.specs.declared.rooms.Links.{Links}
use Rattle.cdc_audit.specs.declared.rooms.Room.{Room}
use Rattle.cdc_audit.specs.Rooms.{can_link, is_link_at, links_known, links_of}
use Rattle.cdc_audit.specs.Settling.{expires_at}

-- what an auditor keeps: whether the stream is another ledger's, what its subscriber keeps, what is known of each
-- stored transfer, by its id, the event of each open pending one, the fields of each account that never change, the
-- timestamps of the events, how many linked transfers the events end with, and the last expiry
pub record AuditorState : Type 0 where
  pub foreign : Bool
  pub kept : SubscriberState
  pub transfers : List (ℕ × Stored)
  pub open_ones : List (ℕ × Event)
  pub fields : List (ℕ × FixedFields)
  pub times : List ℕ
  pub chain : ℕ
  pub expired : Option Event

-- what is known of the transfer with this id, if one is stored
abbrev pub stored_under : List (ℕ × Stored) → ℕ → Option Stored
stored_under transfers id = lookup (nat_eq id) transfers

-- the event of the open pending transfer with this id, if there is one
abbrev pub open_under : List (ℕ × Event) → ℕ → Option Event
open_under events id = lookup (nat_eq id) events

-- the fields of the account with this id, if an event showed it
abbrev pub fields_under : List (ℕ × FixedFields) → ℕ → Option FixedFields
fields_under fields id = lookup (nat_eq id) fields

-- what an open subscriber keeps that has applied the events of an audit
abbrev pub kept_after : AuditState → SubscriberState
kept_after state = record {
  book = book_of state.past;
  last = last_timestamp state.past;
  applied = min (length state.past) max_64;
  ended = state.ended;
  closed = false;
}

-- this is what the events show of the transfer with this id
pub record IsKnownOf (known : Option Stored) (past : List Event) (id : ℕ) : Type 0 where
  pub stored : is_stored past id ≡ is_some known
  pub amount : pending_amount past id ≡ amount_in known
  pub settled : is_settled past id ≡ was_settled known

-- an event that stored a pending transfer is the first of these that stored one of its id
abbrev pub IsOnce : List Event → Event → Type 0
IsOnce past e = holds e.kind ≡ true → pending_event past e.transfer.id ≡ Some e

-- an auditor stands for an audit: it knows whether the stream is another ledger's; it has the book, the last timestamp,
-- the count and the end of the audited events, each of their transfers, the events of the open pending ones, the fields
-- of each account, in the order in which they were shown, and the timestamps of the events, which rise; it knows
-- how many linked transfers they end with, and the last expiry; and no two of them stored a pending transfer of one id
pub record StandsFor (auditor : AuditorState) (state : AuditState) : Type 0 where
  pub foreign : auditor.foreign ≡ state.foreign
  pub kept : auditor.kept ≡ kept_after state
  pub transfers : (id : ℕ) → IsKnownOf (stored_under auditor.transfers id) state.past id
  pub open_ones : (id : ℕ) → open_under auditor.open_ones id ≡ open_event state.past id
  pub fields : (id : ℕ) → fields_under auditor.fields id ≡ fields_before state.past id
  pub shown : auditor.fields ≡ accounts_before state.past
  pub times : auditor.times ≡ times_of state.past
  pub rising : RiseFrom 0 state.past
  pub chain : auditor.chain ≡ chain_length state.past
  pub expired : auditor.expired ≡ last_expiry state.past
  pub once : AllByRecursion (IsOnce state.past) state.past

-- ---- private: the parts of an auditor's step

-- what is known under an id that counts
abbrev pub stored_if : Bool → List (ℕ × Stored) → ℕ → Option Stored
stored_if counts transfers id = if counts then stored_under transfers id else None

-- the event under an id that counts
abbrev pub open_if : Bool → List (ℕ × Event) → ℕ → Option Event
open_if counts events id = if counts then open_under events id else None

-- what else has the timestamp of an account, as far as an auditor knows
abbrev pub times_of_account : AuditorState → EventAccount → Times
times_of_account auditor a =
    times_known (is_some (fields_under auditor.fields a.id)) auditor.times auditor.fields a.timestamp

-- what an account of an event is linked to, as far as an auditor knows
abbrev pub links_of_account : AuditorState → Event → EventAccount → Links
links_of_account auditor e a =
    links_known (can_link a e.timestamp && is_none (fields_under auditor.fields a.id)) auditor.times
    (is_link_at auditor.fields e) a.timestamp

-- what it knows of the chains that an event is in
abbrev pub room_of : AuditorState → Event → Option Room
room_of auditor e =
    if auditor.foreign then None
    else Some (record {
      after = account_at (links_of auditor.fields) (e.timestamp - 1);
      debit = links_of_account auditor e e.debit_account;
      credit = links_of_account auditor e e.credit_account;
      chain = auditor.chain;
    })

-- this is when the transfer of an event, kept under this id, expires
abbrev pub due_of : ℕ → Event → Due
due_of id e = record { expires_at = expires_at e.transfer; timestamp = e.transfer.timestamp; id = id }

-- the order of expiries: by expiry time, then by the time when the transfer was stored, then by its id
abbrev pub due_cmp : Due → Due → Ordering
due_cmp x y =
    ordering_then (nat_cmp x.expires_at y.expires_at)
    (ordering_then (nat_cmp x.timestamp y.timestamp) (nat_cmp x.id y.id))

-- a transfer that may be kept expires then
abbrev pub is_due : Option Event → Due → Bool
is_due None due = false
is_due (Some e) due =
    not (e.transfer.timeout == 0) && (expires_at e.transfer == due.expires_at)
    && (e.transfer.timestamp == due.timestamp)

-- of what is kept, this expires first: of what expires at one time, what was stored first, and then the lesser id
pub record GoesFirst (kept : ℕ → Option Event) (first : Event) : Type 0 where
  pub id : ℕ
  pub there : kept id ≡ Some first
  pub timed : (first.transfer.timeout == 0) ≡ false
  pub least : (other : ℕ) (e : Event) → kept other ≡ Some e → (e.transfer.timeout == 0) ≡ false
      → is_gt (due_cmp (due_of id first) (due_of other e)) ≡ false

-- the same, or nothing of it expires
abbrev pub IsFirst : (ℕ → Option Event) → Option Event → Type 0
IsFirst kept None = (id : ℕ) (e : Event) → kept id ≡ Some e → (e.transfer.timeout == 0) ≡ true
IsFirst kept (Some first) = GoesFirst kept first

-- these are the expiries of all that is kept
abbrev pub IsIndexOf : BTreeSet Due → List (ℕ × Event) → Type 0
IsIndexOf index events = (due : Due) → contains due_cmp index due ≡ is_due (open_under events due.id) due

-- what is kept after an event that isn't kept yet
abbrev pub with_open : List (ℕ × Event) → Event → List (ℕ × Event)
with_open events e =
    if is_some (open_under events e.transfer.id) then events else (events ++ (e.transfer.id, e) ∷ [])

-- the same, after an event that stores a pending transfer
abbrev pub with_held : List (ℕ × Event) → Event → List (ℕ × Event)
with_held events e = if holds e.kind then with_open events e else events

-- an event was added to what is kept, or nothing was
abbrev pub IsAddedTo : Bool → List (ℕ × Event) → Event → List (ℕ × Event) → Type 0
IsAddedTo true old e new = new ≡ old ++ (e.transfer.id, e) ∷ []
IsAddedTo false old e new = new ≡ old

-- the event under this id, after one that may settle a pending transfer
abbrev pub without_settled : List (ℕ × Event) → Event → ℕ → Option Event
without_settled events e id = if settles e.kind && (settled_id e == id) then None else open_under events id

-- what an auditor knows of an event, if this is the open pending transfer that expires first
abbrev pub facts_of : AuditorState → Option Event → Event → Facts
facts_of auditor first e = record {
  last = auditor.kept.last;
  linked = nat_lt 0 auditor.chain;
  first = first;
  expired = auditor.expired;
  own = stored_if (stores e.kind) auditor.transfers e.transfer.id;
  settled = stored_if (settles e.kind) auditor.transfers (settled_id e);
  open_one = open_if (settles e.kind) auditor.open_ones (settled_id e);
  debit_fields = fields_under auditor.fields e.debit_account.id;
  credit_fields = fields_under auditor.fields e.credit_account.id;
  debit_times = times_of_account auditor e.debit_account;
  credit_times = times_of_account auditor e.credit_account;
  debited = unwrap_or (balances_in auditor.kept.book e.debit_account.id) no_balances;
  credited = unwrap_or (balances_in auditor.kept.book e.credit_account.id) no_balances;
  room = room_of auditor e;
}

-- how many linked transfers the events end with after one more, as far as 64 bits count
abbrev pub next_chain : ℕ → Event → ℕ
next_chain chain e = if is_linked e then min (chain + 1) max_64 else 0

-- the transfers after an event that stores its own one
abbrev pub with_own : List (ℕ × Stored) → Event → List (ℕ × Stored)
with_own transfers e =
    if stores e.kind then insert_entry nat_eq transfers e.transfer.id (stored_by e) else transfers

-- the transfers after an event that settles a pending one of this amount
abbrev pub with_settled : List (ℕ × Stored) → Event → ℕ → List (ℕ × Stored)
with_settled transfers e amount =
    if settles e.kind then insert_entry nat_eq transfers (settled_id e) (stored.Settled amount) else transfers

-- the accounts that are known, after an event shows its two
abbrev pub with_accounts : List (ℕ × FixedFields) → Event → List (ℕ × FixedFields)
with_accounts fields e = fold with_shown fields (accounts_of e)

-- an index has the account that was created at each timestamp, if it is among these
abbrev pub IsTimeIndex : List (ℕ × ℕ) → List (ℕ × FixedFields) → Type 0
IsTimeIndex index fields = (t : ℕ) → lookup (nat_eq t) index ≡ account_at fields t

-- an index has the linked account that was created at each timestamp, if it is among these
abbrev pub IsLinkIndex : List (ℕ × ℕ) → List (ℕ × FixedFields) → Type 0
IsLinkIndex index fields = IsTimeIndex index (links_of fields)

-- numbers are in order, none lower than one before it
abbrev pub AreInOrder : List ℕ → Type 0
AreInOrder ns = (i j : ℕ) → i ≤ j → j < length ns → get_or ns i 0 ≤ get_or ns j 0

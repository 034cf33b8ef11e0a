-- The events of the examples, whose numbers are within their widths.
use Rattle.std.proofs.Common.{◌≡◌, ℕ, Bool, true, List, [], ◌∷◌, arith, ◌&&◌, nat_lt, not, ◌<◌, ◌^◌}
use Rattle.std.specs.List.{list_all}
use Rattle.cdc_audit_laws.proofs.OfStd.{AllByRecursion, and_parts, not-true}
use Rattle.cdc_audit_laws.proofs.OfTypes.{Event, EventAccount, EventKind, EventTransfer, AccountFits, EventFits, has_flag}
use Rattle.cdc_message.specs.Widths.{TransferFits}
use Rattle.cdc_types.specs.declared.accounts.TheConstants.AccountFlags.{LINKED}
use Rattle.cdc_audit_laws.proofs.OfAudit.{FixedFields}
use Rattle.cdc_audit_laws.proofs.Premises.{IsUnlinked}

-- an account, created at this time, and its balances
abbrev pub account : ℕ → ℕ → ℕ → ℕ → ℕ → ℕ → EventAccount
account id created debits_pending debits_posted credits_pending credits_posted = record {
  id = id;
  debits_pending = debits_pending;
  debits_posted = debits_posted;
  credits_pending = credits_pending;
  credits_posted = credits_posted;
  user_data_128 = 0;
  user_data_64 = 0;
  user_data_32 = 0;
  code = 10;
  flags = 0;
  timestamp = created;
}

-- an event: its timestamp, the transfer's id, pending id, amount, timeout, flags and timestamp, and the two accounts
abbrev pub event : EventKind → ℕ → ℕ → ℕ → ℕ → ℕ → ℕ → ℕ → EventAccount → EventAccount → Event
event kind timestamp id pending_id amount timeout flags stored debit credit = record {
  timestamp = timestamp;
  kind = kind;
  ledger = 700;
  transfer = record {
    id = id;
    amount = amount;
    pending_id = pending_id;
    user_data_128 = 0;
    user_data_64 = 0;
    user_data_32 = 0;
    timeout = timeout;
    code = 1;
    flags = flags;
    timestamp = stored;
  };
  debit_account = debit;
  credit_account = credit;
}

-- each element has what those have that pass a test
pub all_passing : {A : Type 0} (test : A → Bool) (P : A → Type 0) → ((a : A) → test a ≡ true → P a) → (those : List A)
    → list_all test those ≡ true → AllByRecursion P those
all_passing test P holds [] all = tt
all_passing test P holds (a ∷ those) all =
    let parts = and_parts _ _ all in (holds a parts.0, all_passing test P holds those parts.1)

-- the numbers of an account are small
abbrev is_small : EventAccount → Bool
is_small a =
    nat_lt a.id 60000 && nat_lt a.debits_pending 60000 && nat_lt a.debits_posted 60000
    && nat_lt a.credits_pending 60000 && nat_lt a.credits_posted 60000 && nat_lt a.user_data_128 60000
    && nat_lt a.user_data_64 60000 && nat_lt a.user_data_32 60000 && nat_lt a.code 60000 && nat_lt a.flags 60000
    && nat_lt a.timestamp 60000

account_fits : (a : EventAccount) → is_small a ≡ true → AccountFits a
account_fits a small = grind arith

-- and so are those of a transfer, except its timestamp
abbrev is_small_transfer : EventTransfer → Bool
is_small_transfer x =
    nat_lt x.id 60000 && nat_lt x.amount 60000 && nat_lt x.pending_id 60000 && nat_lt x.user_data_128 60000
    && nat_lt x.user_data_64 60000 && nat_lt x.user_data_32 60000 && nat_lt x.timeout 60000 && nat_lt x.code 60000
    && nat_lt x.flags 60000 && nat_lt x.timestamp 4000000000

transfer_fits : (x : EventTransfer) → is_small_transfer x ≡ true → TransferFits x
transfer_fits x small = grind arith

-- and those of an event, except its timestamp
abbrev pub has_small : Event → Bool
has_small e =
    is_small_transfer e.transfer && is_small e.debit_account && is_small e.credit_account
    && (nat_lt e.timestamp 4000000000 && nat_lt e.ledger 60000)

both_fit : (timestamp ledger : ℕ) → (nat_lt timestamp 4000000000 && nat_lt ledger 60000) ≡ true
    → (timestamp < 2 ^ 64) × (ledger < 2 ^ 32)
both_fit timestamp ledger small = grind arith

-- so they are within their widths
pub event_fits : (e : Event) → has_small e ≡ true → EventFits e
event_fits e small =
    let three = and_parts _ _ small in
    let two = and_parts _ _ three.0 in
    let one = and_parts _ _ two.0 in
    let both = both_fit _ _ three.1 in
    record {
      timestamp = both.0;
      ledger = both.1;
      transfer = transfer_fits e.transfer one.0;
      debit_account = account_fits e.debit_account one.1;
      credit_account = account_fits e.credit_account two.1;
    }

pub all_fit : (es : List Event) → list_all has_small es ≡ true → AllByRecursion EventFits es
all_fit es small = all_passing has_small EventFits event_fits es small

-- accounts without the flag are not linked
pub all_unlinked : (those : List (ℕ × FixedFields)) → list_all (λ a. not (has_flag a.1.flags LINKED)) those ≡ true
    → AllByRecursion IsUnlinked those
all_unlinked those none =
    all_passing (λ a. not (has_flag a.1.flags LINKED)) IsUnlinked (λ a is. not-true _ is) those none

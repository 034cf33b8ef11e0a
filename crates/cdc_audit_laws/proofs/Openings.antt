-- What a ledger opens for the accounts of events, and asks for their transfers.
use Rattle.std.proofs.Common.{◌≡◌, ℕ, ◌<◌, ◌≤◌, List, None, arith}
use Rattle.cdc_audit_laws.proofs.OfStd.{and_parts, ltb-true, not-false}
use Rattle.cdc_audit_laws.proofs.OfTypes.{TIMESTAMP, Event, account_refusal, EventFits}
use Rattle.cdc_audit_laws.proofs.OfLedger.{NewAccountFits, NewTransferFits, Opened}
use Rattle.cdc_audit_laws.proofs.OfAudit.{FixedFields, asked_transfer, created_lines}
use Rattle.cdc_audit_laws.proofs.Following.{CanFollow, NoneApplies, fixed_parts}

-- an account of these fields, as it was opened
abbrev pub opening_of : ℕ × FixedFields → Opened
opening_of a = record {
  request = record {
    id = a.0;
    user_data_128 = a.1.user_data_128;
    user_data_64 = a.1.user_data_64;
    user_data_32 = a.1.user_data_32;
    ledger = a.1.ledger;
    code = a.1.code;
    flags = a.1.flags;
  };
  timestamp = a.1.timestamp;
}

-- an account that a ledger can open
pub record IsOpenable (o : Opened) : Type 0 where
  pub fields : account_refusal o.request ≡ None
  pub fits : NewAccountFits o.request
  pub within : o.timestamp ≤ TIMESTAMP

-- an event has numbers that a request may have
pub request_fits : (e : Event) → EventFits e → NewTransferFits (asked_transfer e)
request_fits e fits = grind arith

-- both accounts of an event that can follow were created before it, and after 0
pub record AreCreated (e : Event) : Type 0 where
  pub debit_some : 0 < e.debit_account.timestamp
  pub debit : e.debit_account.timestamp < e.timestamp
  pub credit_some : 0 < e.credit_account.timestamp
  pub credit : e.credit_account.timestamp < e.timestamp

pub are_created : (past : List Event) (e : Event) → CanFollow past e → AreCreated e
are_created past e can =
    let lines : NoneApplies (created_lines e) = (fixed_parts past e can.fixed).created in
    let d = and_parts _ _ (not-false _ lines.0) in
    let c = and_parts _ _ (not-false _ lines.1.0) in
    record {
      debit_some = ltb-true 0 e.debit_account.timestamp d.0;
      debit = ltb-true e.debit_account.timestamp e.timestamp d.1;
      credit_some = ltb-true 0 e.credit_account.timestamp c.0;
      credit = ltb-true e.credit_account.timestamp e.timestamp c.1;
    }

-- What is audited of an event of another ledger, whose flags may have more bits than ours.
use Rattle.std.specs.Prelude.{ℕ, Bool, ◌&&◌, bit_and, if◌then◌else◌}
use Rattle.cdc_types.specs.declared.accounts.TheConstants.AccountFlags as account
use Rattle.cdc_types.specs.declared.events.Event.{Event}
use Rattle.cdc_types.specs.declared.events.EventAccount.{EventAccount}
use Rattle.cdc_types.specs.declared.transfers.TheConstants.TransferFlags as transfer
use Rattle.cdc_types.specs.Flags.{has_other_flag}
use Rattle.cdc_ledger.specs.Kinds.{stores}

-- an account with our flags alone
abbrev pub own_account : EventAccount → EventAccount
own_account a = record a { flags = bit_and a.flags account.ACCEPTED }

-- the timestamp of an event's transfer; if it is stored with other flags than ours it may have any, and has the event's
abbrev pub own_timestamp : Event → ℕ
own_timestamp e =
    if stores e.kind && has_other_flag e.transfer.flags transfer.ACCEPTED then e.timestamp else e.transfer.timestamp

-- an event with our flags alone; if its transfer had others, also with the event's timestamp as the transfer's
abbrev pub own_event : Event → Event
own_event e = record e {
  transfer = record e.transfer {
    flags = bit_and e.transfer.flags transfer.ACCEPTED;
    timestamp = own_timestamp e;
  };
  debit_account = own_account e.debit_account;
  credit_account = own_account e.credit_account;
}

-- what is audited of an event, of another ledger or of ours
abbrev pub audited_event : Bool → Event → Event
audited_event foreign e = if foreign then own_event e else e

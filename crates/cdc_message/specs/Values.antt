-- The JSON value that an event is written as. Public contracts cite `wide` and `narrow` alone.
use Rattle.std.specs.Prelude.{ℕ, codes, decimal}
use Rattle.serde_json.specs.Data.{Data, number, unsigned, string, object, Members, no_members, member}
use Rattle.cdc_types.specs.declared.events.EventTransfer.{EventTransfer}
use Rattle.cdc_types.specs.declared.events.EventAccount.{EventAccount}
use Rattle.cdc_types.specs.declared.events.Event.{Event}
use Rattle.cdc_message.specs.Kinds.{kind_text}

-- a number as a decimal string
abbrev pub wide : ℕ → Data
wide n = string (decimal n)

-- a number as a JSON number
abbrev pub narrow : ℕ → Data
narrow n = number (unsigned n)

-- the members of an account
abbrev pub account_members : EventAccount → Members
account_members account =
    member (codes "code") (narrow account.code) (
    member (codes "credits_pending") (wide account.credits_pending) (
    member (codes "credits_posted") (wide account.credits_posted) (
    member (codes "debits_pending") (wide account.debits_pending) (
    member (codes "debits_posted") (wide account.debits_posted) (
    member (codes "flags") (narrow account.flags) (
    member (codes "id") (wide account.id) (
    member (codes "timestamp") (wide account.timestamp) (
    member (codes "user_data_128") (wide account.user_data_128) (
    member (codes "user_data_32") (narrow account.user_data_32) (
    member (codes "user_data_64") (wide account.user_data_64)
    no_members))))))))))

-- an account
abbrev pub account_value : EventAccount → Data
account_value account = object (account_members account)

-- the members of a transfer
abbrev pub transfer_members : EventTransfer → Members
transfer_members transfer =
    member (codes "amount") (wide transfer.amount) (
    member (codes "code") (narrow transfer.code) (
    member (codes "flags") (narrow transfer.flags) (
    member (codes "id") (wide transfer.id) (
    member (codes "pending_id") (wide transfer.pending_id) (
    member (codes "timeout") (narrow transfer.timeout) (
    member (codes "timestamp") (wide transfer.timestamp) (
    member (codes "user_data_128") (wide transfer.user_data_128) (
    member (codes "user_data_32") (narrow transfer.user_data_32) (
    member (codes "user_data_64") (wide transfer.user_data_64)
    no_members)))))))))

-- a transfer
abbrev pub transfer_value : EventTransfer → Data
transfer_value transfer = object (transfer_members transfer)

-- the members of an event, given the values of its parts
abbrev pub event_members : Data → Data → Data → Event → Members
event_members credit debit transfer event =
    member (codes "credit_account") credit (
    member (codes "debit_account") debit (
    member (codes "ledger") (narrow event.ledger) (
    member (codes "timestamp") (wide event.timestamp) (
    member (codes "transfer") transfer (
    member (codes "type") (string (kind_text event.kind))
    no_members)))))

-- an event
abbrev pub event_value : Event → Data
event_value event =
    object
    (event_members (account_value event.credit_account) (account_value event.debit_account)
    (transfer_value event.transfer) event)

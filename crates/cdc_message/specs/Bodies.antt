-- The text of an event: a JSON object without white space, with the members of every object in the ascending order of
-- their names (TigerBeetle, Change Data Capture, for the members).
use Rattle.std.specs.Prelude.{ℕ, List, [], ◌∷◌, ◌++◌, codes, decimal}
use Rattle.std.specs.List.{join_with_byte}
use Rattle.cdc_types.specs.declared.events.EventTransfer.{EventTransfer}
use Rattle.cdc_types.specs.declared.events.EventAccount.{EventAccount}
use Rattle.cdc_types.specs.declared.events.Event.{Event}
use Rattle.cdc_message.specs.Kinds.{kind_text}

-- a text in quotes
abbrev pub in_quotes : List ℕ → List ℕ
in_quotes text = codes "\"" ++ text ++ codes "\""

-- a member: its name and its value
abbrev pub member_text : List ℕ → List ℕ → List ℕ
member_text name value = in_quotes name ++ codes ":" ++ value

-- a number of 64 or 128 bits: a decimal string
abbrev pub wide_member : List ℕ → ℕ → List ℕ
wide_member name n = member_text name (in_quotes (decimal n))

-- a number of 16 or 32 bits: a JSON number
abbrev pub narrow_member : List ℕ → ℕ → List ℕ
narrow_member name n = member_text name (decimal n)

-- an object of these members
abbrev pub object_text : List (List ℕ) → List ℕ
object_text members = codes "{" ++ join_with_byte 44 members ++ codes "}"

-- the members of an account
abbrev pub account_members_text : EventAccount → List (List ℕ)
account_members_text account =
    narrow_member (codes "code") account.code ∷
    wide_member (codes "credits_pending") account.credits_pending ∷
    wide_member (codes "credits_posted") account.credits_posted ∷
    wide_member (codes "debits_pending") account.debits_pending ∷
    wide_member (codes "debits_posted") account.debits_posted ∷
    narrow_member (codes "flags") account.flags ∷
    wide_member (codes "id") account.id ∷
    wide_member (codes "timestamp") account.timestamp ∷
    wide_member (codes "user_data_128") account.user_data_128 ∷
    narrow_member (codes "user_data_32") account.user_data_32 ∷
    wide_member (codes "user_data_64") account.user_data_64 ∷
    []

-- the text of an account
abbrev pub account_text : EventAccount → List ℕ
account_text account = object_text (account_members_text account)

-- the members of a transfer
abbrev pub transfer_members_text : EventTransfer → List (List ℕ)
transfer_members_text transfer =
    wide_member (codes "amount") transfer.amount ∷
    narrow_member (codes "code") transfer.code ∷
    narrow_member (codes "flags") transfer.flags ∷
    wide_member (codes "id") transfer.id ∷
    wide_member (codes "pending_id") transfer.pending_id ∷
    narrow_member (codes "timeout") transfer.timeout ∷
    wide_member (codes "timestamp") transfer.timestamp ∷
    wide_member (codes "user_data_128") transfer.user_data_128 ∷
    narrow_member (codes "user_data_32") transfer.user_data_32 ∷
    wide_member (codes "user_data_64") transfer.user_data_64 ∷
    []

-- the text of a transfer
abbrev pub transfer_text : EventTransfer → List ℕ
transfer_text transfer = object_text (transfer_members_text transfer)

-- the members of an event
abbrev pub event_members_text : Event → List (List ℕ)
event_members_text event =
    member_text (codes "credit_account") (account_text event.credit_account) ∷
    member_text (codes "debit_account") (account_text event.debit_account) ∷
    narrow_member (codes "ledger") event.ledger ∷
    wide_member (codes "timestamp") event.timestamp ∷
    member_text (codes "transfer") (transfer_text event.transfer) ∷
    member_text (codes "type") (in_quotes (kind_text event.kind)) ∷
    []

-- the text of an event
unfoldable pub body : Event → List ℕ
body event = object_text (event_members_text event)

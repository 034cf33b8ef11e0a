-- The names of the members of a body, and the fields in its parts.
use Rattle.std.specs.Prelude.{List, ℕ, codes}
use Rattle.cdc_message.specs.declared.fields.FieldName.{FieldName}
use Rattle.cdc_message.specs.declared.fields.FieldName.TheVariants.{Timestamp, Kind, Ledger, TransferPart, DebitAccount, CreditAccount, Id, Amount, PendingId, UserData128, UserData64, UserData32, Timeout, Code, Flags, DebitsPending, DebitsPosted, CreditsPending, CreditsPosted}
use Rattle.cdc_message.specs.declared.fields.Part.{Part}
use Rattle.cdc_message.specs.declared.fields.Field.{Field}

-- the name of the member that holds the field
abbrev pub key_of : FieldName → List ℕ
key_of Timestamp = codes "timestamp"
key_of Kind = codes "type"
key_of Ledger = codes "ledger"
key_of TransferPart = codes "transfer"
key_of DebitAccount = codes "debit_account"
key_of CreditAccount = codes "credit_account"
key_of Id = codes "id"
key_of Amount = codes "amount"
key_of PendingId = codes "pending_id"
key_of UserData128 = codes "user_data_128"
key_of UserData64 = codes "user_data_64"
key_of UserData32 = codes "user_data_32"
key_of Timeout = codes "timeout"
key_of Code = codes "code"
key_of Flags = codes "flags"
key_of DebitsPending = codes "debits_pending"
key_of DebitsPosted = codes "debits_posted"
key_of CreditsPending = codes "credits_pending"
key_of CreditsPosted = codes "credits_posted"

-- the field of this name in this part
abbrev pub field : Part → FieldName → Field
field part name = record { part = part; name = name }

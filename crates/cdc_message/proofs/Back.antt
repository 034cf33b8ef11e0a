-- The JSON value of an event reads as that event.
use Rattle.std.proofs.Common.{◌≡◌, ℕ, ◌<◌, ◌≤◌, ◌^◌, ◌-◌, ◌==◌, length, true, not, Some, Ok, decimal, refl, arith, le-leb}
use Rattle.std.proofs.lemmas.Fmt.{decimal_is_IsNumeral_wide}
use Rattle.std.specs.Char.{is_ascii_digit}
use Rattle.std.specs.List.{list_all}
use Rattle.serde_json.specs.Data.{Data}
use Rattle.serde_json.specs.Find.{get}
use Rattle.cdc_types.specs.declared.events.EventAccount.{EventAccount}
use Rattle.cdc_types.specs.declared.events.EventTransfer.{EventTransfer}
use Rattle.cdc_types.specs.declared.events.Event.{Event}
use Rattle.cdc_types.specs.declared.events.EventKind.{EventKind}
use Rattle.cdc_types.specs.declared.events.EventKind.TheVariants.{SinglePhase, TwoPhasePending, TwoPhasePosted, TwoPhaseVoided, TwoPhaseExpired}
use Rattle.cdc_message.specs.declared.fields.Field.{Field}
use Rattle.cdc_message.specs.declared.fields.Part.{Part}
use Rattle.cdc_message.specs.declared.fields.Part.TheVariants.{Top, Transfer, Debit, Credit}
use Rattle.cdc_message.specs.declared.fields.FieldName.TheVariants as name
use Rattle.cdc_message.specs.Fields.{key_of, field}
use Rattle.cdc_message.specs.Kinds.{kind_text, kind_named}
use Rattle.cdc_message.specs.Decimals.{is_decimal}
use Rattle.cdc_message.specs.Reading.{whole_number, up_to, number_at, transfer_of, account_of, event_of}
use Rattle.cdc_message.specs.Values.{wide, narrow, account_value, transfer_value, event_value}
use Rattle.cdc_message.specs.Widths.{AccountFits, TransferFits, EventFits}
use Rattle.cdc_message.proofs.DecimalTexts.{own_digits}

-- so that a number's digits count as a text that isn't empty
no_zero : (n : ℕ) → 0 < n → not (n == 0) ≡ true
no_zero n h = grind arith

-- the digits that a number is written with are a decimal text, as a reader of bodies asks
is_decimal-decimal : (n : ℕ) → n < 10 ^ 64 → is_decimal (decimal n) ≡ true
is_decimal-decimal n h =
    let numeral = (decimal_is_IsNumeral_wide n h).0 in
    let digits : list_all is_ascii_digit (decimal n) ≡ true = own_digits.from (decimal n) numeral.1 in
    rw (no_zero (length (decimal n)) numeral.0, digits)

-- an amount or an id written as a decimal string is read as that number
pub whole_number-wide : (n : ℕ) → n < 10 ^ 64 → whole_number (wide n) ≡ Some n
whole_number-wide n h = rw (is_decimal-decimal n h, (decimal_is_IsNumeral_wide n h).1)

-- a number that fits the bits of its field isn't refused as out of range
pub up_to_width : (bits : ℕ) (at : Field) (n : ℕ) → n < 2 ^ bits → up_to (2 ^ bits - 1) at n ≡ Ok n
up_to_width bits at n h = let le : n ≤ 2 ^ bits - 1 = omega arith in rw (le-leb n (2 ^ bits - 1) le)

-- a field that was written as a decimal string gives back its number
number_at-wide : (bits : ℕ) (at : Field) (value : Data) (n : ℕ) → get (key_of at.name) value ≡ Some (wide n)
    → n < 2 ^ bits → n < 10 ^ 64 → number_at bits at value ≡ Ok n
number_at-wide bits at value n found fits short = rw (found, whole_number-wide n short) (up_to_width bits at n fits)

-- the same of a field that was written as a JSON number
number_at-narrow : (bits : ℕ) (at : Field) (value : Data) (n : ℕ) → get (key_of at.name) value ≡ Some (narrow n)
    → n < 2 ^ bits → number_at bits at value ≡ Ok n
number_at-narrow bits at value n found fits = rw found (up_to_width bits at n fits)

-- the case of ids, amounts and balances, which have 128 bits
at_128 : (at : Field) (value : Data) (n : ℕ) → get (key_of at.name) value ≡ Some (wide n) → n < 2 ^ 128
    → number_at 128 at value ≡ Ok n
at_128 at value n found fits = number_at-wide 128 at value n found fits (omega arith)

-- the case of timestamps and of the 64 bits of user data
at_64 : (at : Field) (value : Data) (n : ℕ) → get (key_of at.name) value ≡ Some (wide n) → n < 2 ^ 64
    → number_at 64 at value ≡ Ok n
at_64 at value n found fits = number_at-wide 64 at value n found fits (omega arith)

-- the transfer of an event is read back field by field as it was written
pub transfer_of-transfer_value : (transfer : EventTransfer) → TransferFits transfer
    → transfer_of (transfer_value transfer) ≡ Ok transfer
transfer_of-transfer_value transfer fits =
    let value = transfer_value transfer in
    rw (
      at_128 (field Transfer name.Id) value transfer.id refl fits.id,
      at_128 (field Transfer name.Amount) value transfer.amount refl fits.amount,
      at_128 (field Transfer name.PendingId) value transfer.pending_id refl fits.pending_id,
      at_128 (field Transfer name.UserData128) value transfer.user_data_128 refl fits.user_data_128,
      at_64 (field Transfer name.UserData64) value transfer.user_data_64 refl fits.user_data_64,
      number_at-narrow 32 (field Transfer name.UserData32) value transfer.user_data_32 refl fits.user_data_32,
      number_at-narrow 32 (field Transfer name.Timeout) value transfer.timeout refl fits.timeout,
      number_at-narrow 16 (field Transfer name.Code) value transfer.code refl fits.code,
      number_at-narrow 16 (field Transfer name.Flags) value transfer.flags refl fits.flags,
      at_64 (field Transfer name.Timestamp) value transfer.timestamp refl fits.timestamp,
    )

-- so is either account of an event
pub account_of-account_value : (part : Part) (account : EventAccount) → AccountFits account
    → account_of part (account_value account) ≡ Ok account
account_of-account_value part account fits =
    let value = account_value account in
    rw (
      at_128 (field part name.Id) value account.id refl fits.id,
      at_128 (field part name.DebitsPending) value account.debits_pending refl fits.debits_pending,
      at_128 (field part name.DebitsPosted) value account.debits_posted refl fits.debits_posted,
      at_128 (field part name.CreditsPending) value account.credits_pending refl fits.credits_pending,
      at_128 (field part name.CreditsPosted) value account.credits_posted refl fits.credits_posted,
      at_128 (field part name.UserData128) value account.user_data_128 refl fits.user_data_128,
      at_64 (field part name.UserData64) value account.user_data_64 refl fits.user_data_64,
      number_at-narrow 32 (field part name.UserData32) value account.user_data_32 refl fits.user_data_32,
      number_at-narrow 16 (field part name.Code) value account.code refl fits.code,
      number_at-narrow 16 (field part name.Flags) value account.flags refl fits.flags,
      at_64 (field part name.Timestamp) value account.timestamp refl fits.timestamp,
    )

-- so is the kind: no two of the five are written alike
pub kind_named-kind_text : (kind : EventKind) → kind_named (kind_text kind) ≡ Some kind
kind_named-kind_text SinglePhase = refl
kind_named-kind_text TwoPhasePending = refl
kind_named-kind_text TwoPhasePosted = refl
kind_named-kind_text TwoPhaseVoided = refl
kind_named-kind_text TwoPhaseExpired = refl

-- what was written for an event is read as that event
pub event_of-event_value : (event : Event) → EventFits event → event_of (event_value event) ≡ Ok event
event_of-event_value event fits =
    let value = event_value event in
    rw (
      at_64 (field Top name.Timestamp) value event.timestamp refl fits.timestamp,
      kind_named-kind_text event.kind,
      number_at-narrow 32 (field Top name.Ledger) value event.ledger refl fits.ledger,
      transfer_of-transfer_value event.transfer fits.transfer,
      account_of-account_value Debit event.debit_account fits.debit_account,
      account_of-account_value Credit event.credit_account fits.credit_account,
    )

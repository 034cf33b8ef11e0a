-- Reading the body of an event gives the event.
use Rattle.std.proofs.Common.{◌≡◌, ◌<◌, ◌≤◌, ◌^◌, [], ◌++◌, Some, option_and_then, sym, ap, ◌∙◌, arith, append-nil}
use Rattle.json.specs.Json as json
use Rattle.json.specs.Lex.{tokens}
use Rattle.json.specs.Tree as tree
use Rattle.json.specs.Tree.{json_tokens, HasNumbers}
use Rattle.json.proofs.Printed.Decimals.{IsNumber-decimal}
use Rattle.json.proofs.Printed.Tokens.{tokens-print}
use Rattle.json.proofs.Printed.Trees.{value-json_tokens, ArePrintable-json_tokens}
use Rattle.serde_json.specs.Data.{Data, object}
use Rattle.serde_json.specs.Read.{of_json, max_depth}
use Rattle.serde_json.specs.Read as values
use Rattle.serde_json.specs.Written.{compact_text, outline}
use Rattle.serde_json.proofs.Numbers.{number_of-decimal}
use Rattle.serde_json.proofs.Texts.{print-outline}
use Rattle.cdc_types.specs.declared.events.EventAccount.{EventAccount}
use Rattle.cdc_types.specs.declared.events.EventTransfer.{EventTransfer}
use Rattle.cdc_types.specs.declared.events.Event.{Event}
use Rattle.cdc_message.specs.Bodies.{body}
use Rattle.cdc_message.specs.Laws.{BodiesReadBack}
use Rattle.cdc_message.specs.Values.{account_value, transfer_value, event_members, event_value}
use Rattle.cdc_message.specs.Widths.{AccountFits, TransferFits, EventFits}
use Rattle.cdc_message.proofs.Back.{event_of-event_value}
use Rattle.cdc_message.proofs.Bytes.{read_some}
use Rattle.cdc_message.proofs.Texts.{compact_text-event}
use Rattle.cdc_message.proofs.Utf8.{IsUtf8-body}

-- ---- the JSON crate reads the compact text of a value as that value

-- so that a body is read as the value of its event, once that value is known to come back and not to nest too deep
read-compact_text : (d : Data) → HasNumbers (outline d) → of_json (outline d) ≡ Some d
    → tree.depth (outline d) ≤ max_depth → values.read (compact_text d) ≡ Some d
read-compact_text d numbers back shallow =
    let j = outline d in
    let same : tokens (compact_text d) ≡ json_tokens j ++ [] =
    ap tokens (sym (print-outline d)) ∙ tokens-print (json_tokens j) (ArePrintable-json_tokens j numbers)
    ∙ sym (append-nil (json_tokens j)) in
    ap (λ r. option_and_then of_json (option_and_then (λ p. json.if_last p.0 p.1) r))
    (ap (json.value max_depth) same ∙ value-json_tokens j max_depth [] shallow) ∙ back

-- ---- the values of an event and its parts

-- the numbers in an account's value are numbers by the grammar of JSON, so that its text can be read
account_numbers : (account : EventAccount) → AccountFits account → HasNumbers (outline (account_value account))
account_numbers account fits =
    let code = IsNumber-decimal account.code (omega (arith, fits.code)) in
    let flags = IsNumber-decimal account.flags (omega (arith, fits.flags)) in
    let own = IsNumber-decimal account.user_data_32 (omega (arith, fits.user_data_32)) in
    (code, (tt, (tt, (tt, (tt, (flags, (tt, (tt, (tt, (own, (tt, tt)))))))))))

-- the same of a transfer's value
transfer_numbers : (transfer : EventTransfer) → TransferFits transfer → HasNumbers (outline (transfer_value transfer))
transfer_numbers transfer fits =
    let code = IsNumber-decimal transfer.code (omega (arith, fits.code)) in
    let flags = IsNumber-decimal transfer.flags (omega (arith, fits.flags)) in
    let timeout = IsNumber-decimal transfer.timeout (omega (arith, fits.timeout)) in
    let own = IsNumber-decimal transfer.user_data_32 (omega (arith, fits.user_data_32)) in
    (tt, (code, (flags, (tt, (tt, (timeout, (tt, (tt, (own, (tt, tt))))))))))

-- the same of a whole event's
event_numbers : (event : Event) → EventFits event → HasNumbers (outline (event_value event))
event_numbers event fits =
    let ledger = IsNumber-decimal event.ledger (omega (arith, fits.ledger)) in (
      account_numbers event.credit_account fits.credit_account,
      (
        account_numbers event.debit_account fits.debit_account,
        (ledger, (tt, (transfer_numbers event.transfer fits.transfer, (tt, tt)))),
      ),
    )

-- an account's value comes back from its JSON: its codes, flags and narrow user data fit 64 bits
account_back : (account : EventAccount) → AccountFits account
    → of_json (outline (account_value account)) ≡ Some (account_value account)
account_back account fits =
    let code : account.code < 2 ^ 64 = omega (arith, fits.code) in
    let flags : account.flags < 2 ^ 64 = omega (arith, fits.flags) in
    let own : account.user_data_32 < 2 ^ 64 = omega (arith, fits.user_data_32) in
    rw (
      number_of-decimal account.code code,
      number_of-decimal account.flags flags,
      number_of-decimal account.user_data_32 own,
    )

-- so does a transfer's
transfer_back : (transfer : EventTransfer) → TransferFits transfer
    → of_json (outline (transfer_value transfer)) ≡ Some (transfer_value transfer)
transfer_back transfer fits =
    let code : transfer.code < 2 ^ 64 = omega (arith, fits.code) in
    let flags : transfer.flags < 2 ^ 64 = omega (arith, fits.flags) in
    let timeout : transfer.timeout < 2 ^ 64 = omega (arith, fits.timeout) in
    let own : transfer.user_data_32 < 2 ^ 64 = omega (arith, fits.user_data_32) in
    rw (
      number_of-decimal transfer.code code,
      number_of-decimal transfer.flags flags,
      number_of-decimal transfer.timeout timeout,
      number_of-decimal transfer.user_data_32 own,
    )

-- an event's value is read back if the values of its accounts and its transfer are
back_by_parts : (event : Event) (credit debit transfer : Data) → event.ledger < 2 ^ 64
    → of_json (outline credit) ≡ Some credit → of_json (outline debit) ≡ Some debit
    → of_json (outline transfer) ≡ Some transfer
    → of_json (outline (object (event_members credit debit transfer event)))
    ≡ Some (object (event_members credit debit transfer event))
back_by_parts event credit debit transfer ledger is_credit is_debit is_transfer =
    rw (is_credit, is_debit, number_of-decimal event.ledger ledger, is_transfer)

-- so the value of every event whose numbers fit comes back
pub event_back : (event : Event) → EventFits event → of_json (outline (event_value event)) ≡ Some (event_value event)
event_back event fits =
    back_by_parts event (account_value event.credit_account) (account_value event.debit_account)
    (transfer_value event.transfer) (omega (arith, fits.ledger))
    (account_back event.credit_account fits.credit_account)
    (account_back event.debit_account fits.debit_account)
    (transfer_back event.transfer fits.transfer)

-- what a publisher writes for an event, a subscriber reads as that event
pub read-body : BodiesReadBack
read-body event fits =
    let parsed : values.read (body event) ≡ Some (event_value event) =
    ap values.read (sym (compact_text-event event fits))
    ∙ read-compact_text (event_value event) (event_numbers event fits) (event_back event fits) (omega arith) in
    read_some (body event) (event_value event) (IsUtf8-body event fits) parsed ∙ event_of-event_value event fits

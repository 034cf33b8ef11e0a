use Rattle.std.proofs.Common.{◌≡◌, ◌∙◌, Some, ap, refl, sym}
use Rattle.cdc_types.specs.declared.events.Event.{Event}
use Rattle.cdc_message.proofs.OwnKinds.{some_kind}
use Rattle.cdc_message.proofs.OwnParts.{body-parts, not_none, some_rest}
use Rattle.cdc_message.proofs.own_bodies.Cursor.event.Goals as goal

-- part after part
pub returns-clause-text : goal.returns-clause-text
returns-clause-text c =
    let event : Event = record {
      credit_account = c.account-credit_account.result;
      debit_account = c.account-debit_account.result;
      ledger = c.number_32-ledger.result;
      timestamp = c.number_64-timestamp.result;
      transfer = c.transfer-transfer.result;
      kind = c.in_ok-kind.kind;
    } in
    let kind = c.in_ok-kind.ensures.text in
    let before_kind = c.skip-3.ensures.sound (some_kind c.in_ok-kind.kind _ kind) in
    let transfer = c.transfer-transfer.ensures.sound (some_rest before_kind) in
    let before_transfer = c.skip-2.ensures.sound (some_rest transfer) in
    let timestamp = c.number_64-timestamp.ensures.sound (some_rest before_transfer) in
    let ledger = c.number_32-ledger.ensures.sound (some_rest timestamp) in
    let debit = c.account-debit_account.ensures.sound (some_rest ledger) in
    let before_debit = c.skip.ensures.sound (some_rest debit) in
    let credit = c.account-credit_account.ensures.sound (some_rest before_debit) in
    rw (
      c.in_ok-literal.ensures.text,
      credit,
      before_debit,
      debit,
      ledger,
      timestamp,
      before_transfer,
      transfer,
      before_kind,
      kind,
    ) (sym (body-parts event))

-- the body of an event is read to its end
pub returns-clause-complete : goal.returns-clause-complete
returns-clause-complete c written own =
    let begins = c.literal.ensures.complete _ (own.0 ∙ body-parts written) in
    let credit = c.account-credit_account.ensures.complete written.credit_account _ begins.1 own.1.credit_account in
    let before_debit = c.skip.ensures.complete _ credit.1 in
    let debit = c.account-debit_account.ensures.complete written.debit_account _ before_debit own.1.debit_account in
    let ledger = c.number_32-ledger.ensures.complete written.ledger _ debit.1 own.1.ledger refl in
    let timestamp = c.number_64-timestamp.ensures.complete written.timestamp _ ledger.1 own.1.timestamp refl in
    let before_transfer = c.skip-2.ensures.complete _ timestamp.1 in
    let transfer = c.transfer-transfer.ensures.complete written.transfer _ before_transfer own.1.transfer in
    let before_kind = c.skip-3.ensures.complete _ transfer.1 in
    let named : Some c.in_ok-kind.kind ≡ Some written.kind =
    sym c.in_ok-kind.was ∙ c.kind.ensures.complete written.kind before_kind in
    let kind : c.in_ok-kind.kind ≡ written.kind = cc in
    ap Some (λ i. record {
      credit_account = credit.0 i;
      debit_account = debit.0 i;
      ledger = ledger.0 i;
      timestamp = timestamp.0 i;
      transfer = transfer.0 i;
      kind = kind i;
    })

-- it begins with this text
pub returns-in_err-literal-clause-complete : goal.returns-in_err-literal-clause-complete
returns-in_err-literal-clause-complete c written own =
    not_none c.in_err-literal.was (c.literal.ensures.complete _ (own.0 ∙ body-parts written)).0

-- and ends with the name of a kind
pub returns-in_err-kind-clause-complete : goal.returns-in_err-kind-clause-complete
returns-in_err-kind-clause-complete c written own =
    let begins = c.literal.ensures.complete _ (own.0 ∙ body-parts written) in
    let credit = c.account-credit_account.ensures.complete written.credit_account _ begins.1 own.1.credit_account in
    let before_debit = c.skip.ensures.complete _ credit.1 in
    let debit = c.account-debit_account.ensures.complete written.debit_account _ before_debit own.1.debit_account in
    let ledger = c.number_32-ledger.ensures.complete written.ledger _ debit.1 own.1.ledger refl in
    let timestamp = c.number_64-timestamp.ensures.complete written.timestamp _ ledger.1 own.1.timestamp refl in
    let before_transfer = c.skip-2.ensures.complete _ timestamp.1 in
    let transfer = c.transfer-transfer.ensures.complete written.transfer _ before_transfer own.1.transfer in
    let before_kind = c.skip-3.ensures.complete _ transfer.1 in
    not_none c.in_err-kind.was (c.kind.ensures.complete written.kind before_kind)

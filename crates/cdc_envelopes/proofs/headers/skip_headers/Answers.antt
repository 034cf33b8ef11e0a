use Rattle.std.proofs.Common.{◌++◌, ◌∙◌, ap, codes, decimal, refl}
use Rattle.cdc_message.proofs.OwnParts.{not_none}
use Rattle.cdc_envelopes.proofs.headers.skip_headers.Goals as goal

pub returns-clause-text : goal.returns-clause-text
returns-clause-text c = record {
  headers = record {
    kind = c.in_ok-kind.field-0;
    ledger = c.in_ok-number_after.field-0;
    transfer_code = c.in_ok-number_after-2.field-0;
    debit_account_code = c.in_ok-number_after-3.field-0;
    credit_account_code = c.in_ok-number_after-4.field-0;
  };
  seconds = c.in_ok-number_after-5.field-0;
  fits = record {
    ledger = c.in_ok-number_after.ensures.fits;
    transfer_code = c.in_ok-number_after-2.ensures.fits;
    debit_account_code = c.in_ok-number_after-3.ensures.fits;
    credit_account_code = c.in_ok-number_after-4.ensures.fits;
  };
  seconds_fit = c.in_ok-number_after-5.ensures.fits;
  text = rw (
    c.in_ok-literal.ensures.text,
    c.in_ok-kind.ensures.text,
    c.in_ok-number_after.ensures.text,
    c.in_ok-number_after-2.ensures.text,
    c.in_ok-number_after-3.ensures.text,
    c.in_ok-number_after-4.ensures.text,
    c.in_ok-number_after-5.ensures.text,
    c.in_ok-literal-2.ensures.text,
  ) refl;
}

pub returns-clause-complete : goal.returns-clause-complete
returns-clause-complete c headers seconds rest fits seconds_fit is =
    let a1 = c.literal.ensures.complete _ is in
    let a2 = c.kind.ensures.complete headers.kind _ a1.1 in
    let a3 = c.number_after.ensures.complete headers.ledger _ a2.1 fits.ledger refl in
    let a4 = c.number_after-2.ensures.complete headers.transfer_code _ a3.1 fits.transfer_code refl in
    let a5 = c.number_after-3.ensures.complete headers.debit_account_code _ a4.1 fits.debit_account_code refl in
    let a6 = c.number_after-4.ensures.complete headers.credit_account_code _ a5.1 fits.credit_account_code refl in
    let a7 = c.number_after-5.ensures.complete seconds _ a6.1 seconds_fit refl in
    let a8 = c.literal-2.ensures.complete rest a7.1 in
    (refl, a8.1)

pub returns-in_err-literal-clause-complete : goal.returns-in_err-literal-clause-complete
returns-in_err-literal-clause-complete c headers seconds rest fits seconds_fit is =
    not_none c.in_err-literal.was (c.literal.ensures.complete _ is).0

pub returns-in_err-number_after-clause-complete : goal.returns-in_err-number_after-clause-complete
returns-in_err-number_after-clause-complete c headers seconds rest fits seconds_fit is =
    let a1 = c.literal.ensures.complete _ is in
    let a2 = c.kind.ensures.complete headers.kind _ a1.1 in
    not_none c.in_err-number_after.was
    (c.number_after.ensures.complete headers.ledger _ a2.1 fits.ledger refl).0

pub returns-in_err-number_after-2-clause-complete : goal.returns-in_err-number_after-2-clause-complete
returns-in_err-number_after-2-clause-complete c headers seconds rest fits seconds_fit is =
    let a1 = c.literal.ensures.complete _ is in
    let a2 = c.kind.ensures.complete headers.kind _ a1.1 in
    let a3 = c.number_after.ensures.complete headers.ledger _ a2.1 fits.ledger refl in
    not_none c.in_err-number_after-2.was
    (c.number_after-2.ensures.complete headers.transfer_code _ a3.1 fits.transfer_code refl).0

pub returns-in_err-number_after-3-clause-complete : goal.returns-in_err-number_after-3-clause-complete
returns-in_err-number_after-3-clause-complete c headers seconds rest fits seconds_fit is =
    let a1 = c.literal.ensures.complete _ is in
    let a2 = c.kind.ensures.complete headers.kind _ a1.1 in
    let a3 = c.number_after.ensures.complete headers.ledger _ a2.1 fits.ledger refl in
    let a4 = c.number_after-2.ensures.complete headers.transfer_code _ a3.1 fits.transfer_code refl in
    not_none c.in_err-number_after-3.was
    (c.number_after-3.ensures.complete headers.debit_account_code _ a4.1 fits.debit_account_code refl).0

pub returns-in_err-number_after-4-clause-complete : goal.returns-in_err-number_after-4-clause-complete
returns-in_err-number_after-4-clause-complete c headers seconds rest fits seconds_fit is =
    let a1 = c.literal.ensures.complete _ is in
    let a2 = c.kind.ensures.complete headers.kind _ a1.1 in
    let a3 = c.number_after.ensures.complete headers.ledger _ a2.1 fits.ledger refl in
    let a4 = c.number_after-2.ensures.complete headers.transfer_code _ a3.1 fits.transfer_code refl in
    let a5 = c.number_after-3.ensures.complete headers.debit_account_code _ a4.1 fits.debit_account_code refl in
    not_none c.in_err-number_after-4.was
    (c.number_after-4.ensures.complete headers.credit_account_code _ a5.1 fits.credit_account_code refl).0

pub returns-in_err-number_after-5-clause-complete : goal.returns-in_err-number_after-5-clause-complete
returns-in_err-number_after-5-clause-complete c headers seconds rest fits seconds_fit is =
    let a1 = c.literal.ensures.complete _ is in
    let a2 = c.kind.ensures.complete headers.kind _ a1.1 in
    let a3 = c.number_after.ensures.complete headers.ledger _ a2.1 fits.ledger refl in
    let a4 = c.number_after-2.ensures.complete headers.transfer_code _ a3.1 fits.transfer_code refl in
    let a5 = c.number_after-3.ensures.complete headers.debit_account_code _ a4.1 fits.debit_account_code refl in
    let a6 = c.number_after-4.ensures.complete headers.credit_account_code _ a5.1 fits.credit_account_code refl in
    not_none c.in_err-number_after-5.was
    (c.number_after-5.ensures.complete seconds _ a6.1 seconds_fit refl).0

pub returns-in_err-literal-2-clause-complete : goal.returns-in_err-literal-2-clause-complete
returns-in_err-literal-2-clause-complete c headers seconds rest fits seconds_fit is =
    let a1 = c.literal.ensures.complete _ is in
    let a2 = c.kind.ensures.complete headers.kind _ a1.1 in
    let a3 = c.number_after.ensures.complete headers.ledger _ a2.1 fits.ledger refl in
    let a4 = c.number_after-2.ensures.complete headers.transfer_code _ a3.1 fits.transfer_code refl in
    let a5 = c.number_after-3.ensures.complete headers.debit_account_code _ a4.1 fits.debit_account_code refl in
    let a6 = c.number_after-4.ensures.complete headers.credit_account_code _ a5.1 fits.credit_account_code refl in
    let a7 = c.number_after-5.ensures.complete seconds _ a6.1 seconds_fit refl in
    not_none c.in_err-literal-2.was (c.literal-2.ensures.complete rest a7.1).0

use Rattle.cdc_ledger.proofs.Words.{◌∙◌, Event, EventAccount, ap₂, shown_transfer, sym}
use Rattle.cdc_ledger.proofs.AccountPlaces.{place-shown}
use Rattle.cdc_ledger.proofs.movements.Movement.event.Goals as goal

pub returns : goal.returns
returns c =
    let e = c.args.self.now.entry in
    let shown : EventAccount → EventAccount → Event = λ debit credit. record {
      timestamp = e.timestamp;
      kind = e.kind;
      ledger = e.transfer.ledger;
      transfer = shown_transfer e.transfer;
      debit_account = debit;
      credit_account = credit;
    } in
    rw c.shown_transfer.ensures
    (ap₂ shown
    (c.shown_account.ensures ∙ sym
    (place-shown c.args.accounts.now e.transfer.debit_account_id c.args.self.now.debit _ c.requires.debit))
    (c.shown_account-2.ensures ∙ sym
    (place-shown c.args.accounts.now e.transfer.credit_account_id c.args.self.now.credit _ c.requires.credit)))

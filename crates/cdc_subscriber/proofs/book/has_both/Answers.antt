use Rattle.std.proofs.Common.{◌≡◌, ◌∙◌, sym, true, false}
use Rattle.cdc_subscriber.specs.Book.{entries_of, ids_of, is_among}
use Rattle.cdc_subscriber.proofs.PushLemmas.{lookup-is_among}
use Rattle.cdc_subscriber.proofs.book.has_both.Goals as goal

pub returns-then-contains_key : goal.returns-then-contains_key
returns-then-contains_key c =
    let accounts = c.args.accounts.now.entries in
    let event = c.args.event.now in
    let debit : is_among event.debit_account.id (ids_of (entries_of accounts)) ≡ true =
    sym (lookup-is_among accounts event.debit_account.id) ∙ sym c.contains_key.ensures ∙ c.if-contains_key.true in
    rw debit (c.contains_key-then-contains_key.ensures ∙ lookup-is_among accounts event.credit_account.id)

pub returns-else-contains_key : goal.returns-else-contains_key
returns-else-contains_key c =
    let accounts = c.args.accounts.now.entries in
    let event = c.args.event.now in
    let debit : is_among event.debit_account.id (ids_of (entries_of accounts)) ≡ false =
    sym (lookup-is_among accounts event.debit_account.id) ∙ sym c.contains_key.ensures ∙ c.if-contains_key.false in
    rw debit c.if-contains_key.false

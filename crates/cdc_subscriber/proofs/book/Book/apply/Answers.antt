use Rattle.std.proofs.Common.{◌≡◌, arith, inl, inr, sym, true, false}
use Rattle.std.proofs.lemmas.Bool.{and_right, cases_Bool}
use Rattle.cdc_subscriber.specs.Book.{entries_of, has_both, ids_of, is_among}
use Rattle.cdc_subscriber.proofs.BookLemmas.{book_of-push}
use Rattle.cdc_subscriber.proofs.PushLemmas.{is_among-put}
use Rattle.cdc_subscriber.proofs.book.Book.apply.Goals as goal

pub put-requires-2 : goal.put-requires-2
put-requires-2 c absent =
    let before = entries_of c.self.inside.accounts.entries in
    let event = c.args.event.now in
    elim (cases_Bool (is_among event.credit_account.id (ids_of before))) [
      | inl there ↦
          let still : is_among c.entry_of-2.result.id (ids_of (entries_of c.put.new.accounts.entries)) ≡ true =
          rw (c.entry_of-2.ensures, c.put.ensures.entries, c.in_ok-reserve_for.ensures.entries)
          (is_among-put event.credit_account.id c.entry_of.result before there) in
          cc
      | inr missing ↦
          let lacks : has_both before event ≡ false = and_right _ _ missing in
          omega (arith, c.in_ok-reserve_for.ensures.room lacks, c.put.ensures.room)
    ]

pub returns-clause-ok : goal.returns-clause-ok
returns-clause-ok c events is =
    rw (c.put-2.ensures.entries, c.entry_of-2.ensures, c.put.ensures.entries, c.entry_of.ensures)
    (rw (c.in_ok-reserve_for.ensures.entries, c.self.view_is, is) (sym (book_of-push events c.args.event.now)))

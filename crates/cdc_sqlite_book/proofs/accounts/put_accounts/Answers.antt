use Rattle.std.proofs.Common.{◌≡◌, ◌+◌, ◌∙◌, ap, arith, suc, sym, take}
use Rattle.std.proofs.lemmas.Result.{IfOk-at_ok}
use Rattle.cdc_subscriber.specs.Book.{entries_of}
use Rattle.cdc_book_log.specs.Replay.{put_all}
use Rattle.cdc_sqlite_book.proofs.PlaceLemmas.{put_more, took_none}
use Rattle.cdc_sqlite_book.proofs.accounts.put_accounts.Goals as goal
use Rattle.cdc_sqlite_book.proofs.accounts.put_accounts.Goals.{in-Some, in_default}

pub accounts-preserved : goal.accounts-preserved
accounts-preserved c =
    let book = c.args.changed.now in
    let place = c.accounts.place in
    let old = entries_of c.args.accounts.now.entries in
    let next : suc place ≡ place + 1 = omega arith in
    elim c.match-at_place.branch [
      | in-Some w ↦
          rw w.accounts-is (
            put_more book old place w.in-Some.id w.in-Some.balances c.accounts.accounts.entries
                w.insert.new.self.entries (sym w.in-Some.ensures) c.accounts.invariant.0
                (IfOk-at_ok _ w.unwrap-before.ensures w.insert.ensures.entries)
                ∙ ap (λ n. put_all (take n book) old) next,
            omega (arith, c.accounts.invariant.1, w.insert.ensures.spare),
          )
      | in_default w ↦
          rw w.accounts-is (
            c.accounts.invariant.0 ∙ ap (λ l. put_all l old) (sym (took_none book place (sym w.in_default.ensures)))
                ∙ ap (λ n. put_all (take n book) old) next,
            omega (arith, c.accounts.invariant.1),
          )
    ]

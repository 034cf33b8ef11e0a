use Rattle.std.proofs.Common.{◌≡◌, ◌+◌, ◌∙◌, ap, arith, suc, sym, take}
use Rattle.cdc_sqlite_book.specs.Tables.{renewed}
use Rattle.cdc_sqlite_book.proofs.DetailLemmas.{renew_more}
use Rattle.cdc_sqlite_book.proofs.PlaceLemmas.{took_none}
use Rattle.cdc_sqlite_book.proofs.details.put_details.Goals as goal
use Rattle.cdc_sqlite_book.proofs.details.put_details.Goals.{in-Some, in_default}

pub accounts-preserved : goal.accounts-preserved
accounts-preserved c =
    let book = c.args.changed.now in
    let place = c.accounts.place in
    let shown = c.args.shown.now.entries in
    let old = c.args.known.now.entries in
    let next : suc place ≡ place + 1 = omega arith in
    elim c.match-at_place.branch [
      | in-Some w ↦
          rw w.known-is (
            λ other. renew_more book place w.in-Some.id w.in-Some._balances shown old c.accounts.known.entries
                w.put_shown.new.known.entries (sym w.in-Some.ensures) c.accounts.invariant.0 w.put_shown.ensures.details
                other
                ∙ ap (λ n. renewed (take n book) shown old other) next,
            omega (arith, c.accounts.invariant.1, w.put_shown.ensures.room),
          )
      | in_default w ↦
          rw w.known-is (
            λ other. c.accounts.invariant.0 other
                ∙ ap (λ l. renewed l shown old other) (sym (took_none book place (sym w.in_default.ensures)))
                ∙ ap (λ n. renewed (take n book) shown old other) next,
            omega (arith, c.accounts.invariant.1),
          )
    ]

use Rattle.std.proofs.Common.{Some, None}
use Rattle.cdc_sqlite_book.proofs.PlaceLemmas.{found_place}
use Rattle.cdc_sqlite_book.proofs.accounts.place_for.Goals as goal

pub returns-in-Some : goal.returns-in-Some
returns-in-Some c =
    found_place c.args.accounts.now.entries c.args.id c.args.next (Some c.in-Some.index) c.in-Some.ensures.index
    c.in-Some.ensures.found

pub returns-in-None : goal.returns-in-None
returns-in-None c =
    found_place c.args.accounts.now.entries c.args.id c.args.next None c.in-None.ensures.index c.in-None.ensures.found

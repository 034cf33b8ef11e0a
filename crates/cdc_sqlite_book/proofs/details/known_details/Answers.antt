use Rattle.std.proofs.Common.{◌∙◌, ap}
use Rattle.cdc_sqlite_book.specs.Tables.{renewed}
use Rattle.cdc_sqlite_book.proofs.DetailLemmas.{both_put}
use Rattle.cdc_sqlite_book.proofs.details.known_details.Goals as goal

pub returns : goal.returns
returns c =
    let book = c.args.book.now in
    let shown = c.args.shown.now.entries in
    let before = c.args.before.now.entries in
    both_put book shown before c.put_details.new.known.entries c.put_details-2.new.known.entries
    (λ id. c.put_details.ensures id
    ∙ ap (λ es. renewed book before es id) (c.reserve.ensures.entries ∙ c.with_hasher-known.ensures.empty))
    (λ id. c.put_details-2.ensures id ∙ ap (λ es. renewed book shown es id) c.reserve-2.ensures.entries)

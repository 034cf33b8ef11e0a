use Rattle.std.proofs.Common.{Bool, ap, refl, subst, sym, ◌∙◌}
use Rattle.cdc_sql.specs.Places.{place_of}
use Rattle.cdc_sql.specs.Saves.{save_between}
use Rattle.cdc_sql.specs.declared.names.SchemaName.{SchemaName}
use Rattle.cdc_sql.specs.declared.places.Place.{Place}
use Rattle.cdc_sql_book.specs.Following.{followed_of}
use Rattle.cdc_sql_book.specs.Private.Printing.{Fits, SaveText}
use Rattle.cdc_sql_book.proofs.PrintingLemmas.{book_held, err_map, fits_after, ok_map_seven, printed_more}
use Rattle.cdc_sql_book.proofs.PrintingLemmas.{printed_refused}
use Rattle.cdc_sql_book.proofs.books.SqlBookKeepsSqlFollower.keep.Goals as goal

pub returns-clause-kept : goal.returns-clause-kept
returns-clause-kept g c = λ fits.
    ok_map_seven c.save.result (λ printed count whole plain name events start first states has.
    printed_more g.W.Write.contents c.args.setup.now first c.args.self.now c.save.new.self states
    (followed_of c.args.consumer.now)
    (SaveText c.args.setup.now c.args.self.now
    (save_between c.next_place.result c.of-after.result c.recent.result.now)) c.if-self.false whole printed count name
    events start
    (book_held g.W.Write.contents c.args.setup.now c.args.self.now c.recorded-recorded.result.now
    c.args.consumer.now.recorded c.next_place.result c.of-after.result c.recent.result.now
    c.recorded-recorded.ensures (c.if-not-is_next.ensures refl) c.next_place.ensures
    (c.of-after.ensures ∙ ap place_of c.follower.ensures) c.recent.ensures.rows c.recent.ensures.events plain fits) has)
    c.save.ensures.printed c.save.ensures.count c.save.ensures.whole c.save.ensures.plain c.save.ensures.name
    c.save.ensures.events c.save.ensures.start

pub returns-clause-fits : goal.returns-clause-fits
returns-clause-fits g c = λ fits.
    ok_map_seven c.save.result (λ printed count place plain name events start next since.
    subst (λ (n : SchemaName). Fits c.args.setup.now c.save.new.self.keeps_events n.text.items c.save.new.self.start
    c.save.new.self.place c.save.new.self.printed (g.W.Write.contents c.save.new.self.writer) next.recorded) (sym name)
    (subst (λ (keeps : Bool). Fits c.args.setup.now keeps c.args.self.now.name.text.items c.save.new.self.start
    c.save.new.self.place c.save.new.self.printed (g.W.Write.contents c.save.new.self.writer) next.recorded)
    (sym events)
    (subst (λ (s : Place). Fits c.args.setup.now c.args.self.now.keeps_events c.args.self.now.name.text.items s
    c.save.new.self.place c.save.new.self.printed (g.W.Write.contents c.save.new.self.writer) next.recorded) (sym start)
    (fits_after c.args.setup.now c.args.self.now.keeps_events c.args.self.now.name.text.items c.args.self.now.start
    c.save.new.self.place c.args.self.now.printed c.save.new.self.printed
    (g.W.Write.contents c.args.self.now.writer) (g.W.Write.contents c.save.new.self.writer)
    (SaveText c.args.setup.now c.args.self.now
    (save_between c.next_place.result c.of-after.result c.recent.result.now))
    c.args.consumer.now.recorded.follower next.recorded
    (g.met.W.SteadyWrite.steady c.args.self.now.writer c.save.new.self.writer) printed count
    (place ∙ c.of-after.ensures ∙ ap place_of c.follower.ensures
    ∙ ap (λ r. place_of r.follower) c.recorded-recorded.ensures)
    (book_held g.W.Write.contents c.args.setup.now c.args.self.now c.recorded-recorded.result.now
    c.args.consumer.now.recorded c.next_place.result c.of-after.result c.recent.result.now
    c.recorded-recorded.ensures (c.if-not-is_next.ensures refl) c.next_place.ensures
    (c.of-after.ensures ∙ ap place_of c.follower.ensures) c.recent.ensures.rows c.recent.ensures.events plain fits)
    since))))
    c.save.ensures.printed c.save.ensures.count c.save.ensures.place c.save.ensures.plain c.save.ensures.name
    c.save.ensures.events c.save.ensures.start

pub returns-clause-refused : goal.returns-clause-refused
returns-clause-refused g c =
    err_map c.save.result (λ refused first states has.
    printed_refused g.W.Write.contents c.args.setup.now first c.args.self.now c.save.new.self states
    (save_between c.next_place.result c.of-after.result c.recent.result.now) c.if-self.false refused has)
    c.save.ensures.refused

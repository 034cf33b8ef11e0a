use Rattle.std.proofs.Common.{ap, fold}
use Rattle.cdc_book_log.specs.Details.{items_of, show_item}
use Rattle.cdc_book_log.proofs.TrackingLemmas.{goes_on, shown_on}
use Rattle.cdc_book_log.proofs.tracking.TrackedTakesEntries.take_entry.Goals as goal

pub returns-clause-moves : goal.returns-clause-moves
returns-clause-moves c =
    let entry = c.args.entry.now in
    rw (← c.self.view_is)
    (goes_on c.args.binding.now entry _ _ c.in_ok-following.ensures.state c.take_change.ensures
    (shown_on (λ known. known.entries) _ _ c.self.inside.shown c.make_room.new.shown c.show_entry.new.shown
    (ap (λ following known. fold show_item known (items_of following entry.content)) c.in_ok-following.ensures.answer)
    c.make_room.ensures.entries c.show_entry.ensures))

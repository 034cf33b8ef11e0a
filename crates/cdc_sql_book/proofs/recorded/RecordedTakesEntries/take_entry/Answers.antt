use Rattle.std.proofs.Common.{refl}
use Rattle.cdc_sql_book.proofs.RecordingLemmas.{take_moves}
use Rattle.cdc_sql_book.proofs.recorded.RecordedTakesEntries.take_entry.Goals as goal

pub returns-clause-moves : goal.returns-clause-moves
returns-clause-moves c =
    rw (← c.self.view_is)
    (take_moves c.args.binding.now c.args.entry.now _ _ c.in_ok-following.following
    c.make_room.new.self.rows.entries c.make_room.new.self.events c.record_entry.new.recent.events
    c.in_ok-following.ensures.answer refl refl c.in_ok-following.ensures.state c.make_room.ensures.rows
    c.record_entry.ensures.rows c.make_room.ensures.events c.record_entry.ensures.events refl)

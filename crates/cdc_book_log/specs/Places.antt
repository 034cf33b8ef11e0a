-- A follower's accounts, and where it is in its stream. Cited by private contracts alone.
use Rattle.std.specs.Prelude.{List}
use Rattle.cdc_subscriber.specs.declared.book.BookEntry.{BookEntry}
use Rattle.cdc_follow.specs.Following.{FollowState}
use Rattle.cdc_book_log.specs.declared.places.Place.{Place}

-- all that a follower keeps, except its accounts
abbrev pub place_of : FollowState → Place
place_of state = record {
  last = state.kept.last;
  applied = state.kept.applied;
  ended = state.kept.ended;
  closed = state.kept.closed;
  seen = state.seen;
}

-- a follower at a place with this book
abbrev pub state_at : List BookEntry → Place → FollowState
state_at book place = record {
  kept = record {
    book = book;
    last = place.last;
    applied = place.applied;
    ended = place.ended;
    closed = place.closed;
  };
  seen = place.seen;
}

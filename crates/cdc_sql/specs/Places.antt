-- Where a follower is in its stream, and followers at such a place.
use Rattle.std.specs.Prelude.{◌<◌, ◌^◌, List}
use Rattle.cdc_subscriber.specs.declared.book.BookEntry.{BookEntry}
use Rattle.cdc_follow.specs.Following.{FollowState}
use Rattle.cdc_sql.specs.declared.places.Place.{Place}

-- all that a follower keeps, except its accounts
abbrev pub place_of : FollowState → Place
place_of state = record {
  seen = state.seen;
  last = state.kept.last;
  applied = state.kept.applied;
  ended = state.kept.ended;
  closed = state.kept.closed;
}

-- a follower at a place with this book
abbrev pub follower_at : Place → List BookEntry → FollowState
follower_at place book = record {
  kept = record {
    book = book;
    last = place.last;
    applied = place.applied;
    ended = place.ended;
    closed = place.closed;
  };
  seen = place.seen;
}

-- the numbers of a place have their widths
pub record PlaceFits (place : Place) : Type 0 where
  pub seen : place.seen < 2 ^ 64
  pub last : place.last < 2 ^ 64
  pub applied : place.applied < 2 ^ 64

-- What a session's fields show, and what bounds them.
use Rattle.std.specs.Prelude.{◌≡◌}
use Rattle.cdc_publisher.specs.declared.session.Session.TheInside.{Inside}
use Rattle.cdc_publisher.specs.SessionState.{SessionState}
use Rattle.cdc_publisher.specs.Stands.{HasBounds}

-- what is kept: the window is the room for tags that wait
abbrev pub kept_of : Inside → SessionState
kept_of session = record {
  number = session.number;
  start = session.start;
  base = session.base;
  window = session.unconfirmed.capacity;
  last = session.last;
  last_sent = session.last_sent;
  sent = session.sent;
  unsent = session.unsent.items;
  unconfirmed = session.unconfirmed.items;
  complete = session.complete;
  ended = session.ended;
}

-- there is room for as many unsent events, and the numbers are in their bounds
pub record IsBounded (session : Inside) : Type 0 where
  pub room : session.unsent.capacity ≡ session.unconfirmed.capacity
  pub bounds : HasBounds (kept_of session)

-- What a session keeps of its course.
use Rattle.std.specs.Prelude.{ℕ, ◌-◌, ◌==◌, Bool, Option, Some, None, List, [], ◌∷◌, filter, length, nat_lt, not, ◌&&◌, if◌then◌else◌}
use Rattle.std.specs.List.{list_any}
use Rattle.cdc_types.specs.declared.events.Event.{Event}
use Rattle.cdc_publisher.specs.declared.session.Poll.{Poll}
use Rattle.cdc_publisher.specs.declared.session.Unconfirmed.{Unconfirmed}

-- the session's number; the start, the timestamp after which the first session began; the timestamp after which this
-- one begins; its window; the timestamps of the events that it was offered last and has sent last; how many packets
-- it has sent; the events that are still to be sent; the tags that wait for their confirms, each with the timestamp
-- under the tag before it, or the base for tag 1; whether no event follows; and whether the end mark was sent
pub record SessionState : Type 0 where
  pub number : ℕ
  pub start : ℕ
  pub base : ℕ
  pub window : ℕ
  pub last : ℕ
  pub last_sent : ℕ
  pub sent : ℕ
  pub unsent : List Event
  pub unconfirmed : List Unconfirmed
  pub complete : Bool
  pub ended : Bool

-- a list has nothing in it
abbrev pub is_nil : {X : Type 0} → List X → Bool
is_nil xs = length xs == 0

-- the events that are wanted: none while one is unsent, while as many as may wait are unconfirmed, or once the
-- session is complete; otherwise those after the last event offered, up to the number that may wait in addition
abbrev pub poll_of : SessionState → Option Poll
poll_of kept =
    if is_nil kept.unsent && nat_lt (length kept.unconfirmed) kept.window && not kept.complete
    then Some (record { after = kept.last; limit = kept.window - length kept.unconfirmed })
    else None

-- the timestamp up to which all is confirmed: that of the event before the first tag that waits or, if none waits, of
-- the event that was sent last
abbrev pub confirmed_of : ℕ → List Unconfirmed → ℕ
confirmed_of last_sent [] = last_sent
confirmed_of last_sent (first ∷ rest) = first.before

-- this tag is among them
abbrev pub holds_tag : ℕ → List Unconfirmed → Bool
holds_tag tag unconfirmed = list_any (λ entry. entry.tag == tag) unconfirmed

-- the others
abbrev pub without_tag : ℕ → List Unconfirmed → List Unconfirmed
without_tag tag unconfirmed = filter (λ entry. not (entry.tag == tag)) unconfirmed

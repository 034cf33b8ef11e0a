-- The events that a session may be offered.
use Rattle.std.specs.Prelude.{◌≤◌, Option, Some, None, List, All, length}
use Rattle.cdc_types.specs.declared.bounds.TheConstants.Limits.{TIMESTAMP}
use Rattle.cdc_types.specs.Timestamps.{RiseFrom}
use Rattle.cdc_types.specs.declared.events.Event.{Event}
use Rattle.cdc_publisher.specs.declared.session.Poll.{Poll}

-- what may be offered to one that wants these events: at most as many, rising from there, none above the greatest
-- timestamp
pub record IsReply (poll : Poll) (events : List Event) : Type 0 where
  pub count : length events ≤ poll.limit
  pub rising : RiseFrom poll.after events
  pub fits : All (λ event. event.timestamp ≤ TIMESTAMP) events

-- the same for a session that may want none; then nothing may be offered
abbrev pub IsOffered : Option Poll → List Event → Type 0
IsOffered None events = ⊥
IsOffered (Some poll) events = IsReply poll events

-- A follower: what it keeps, and what it makes of each entry.
use Rattle.std.specs.Prelude.{ℕ, List, [], ◌∷◌, Bool, true, false, not, nat_eq, nat_le, nat_lt, fold, if◌then◌else◌}
use Rattle.std.specs.Prelude.{Option, Some, None}
use Rattle.cdc_types.specs.declared.bounds.TheConstants.Limits.{TIMESTAMP}
use Rattle.cdc_types.specs.declared.events.Event.{Event}
use Rattle.cdc_message.specs.declared.items.Item.TheVariants as item
use Rattle.cdc_message.specs.Headers.{headers_of_event}
use Rattle.cdc_match.specs.Arguments.{Arguments}
use Rattle.cdc_match.specs.Matching.{matches}
use Rattle.cdc_subscriber.specs.Answers.{listens}
use Rattle.cdc_subscriber.specs.Steps.{next_state}
use Rattle.cdc_subscriber.specs.SubscriberState.{SubscriberState}
use Rattle.cdc_follow.specs.declared.entries.Content.{Content}
use Rattle.cdc_follow.specs.declared.entries.Content.TheVariants as content
use Rattle.cdc_follow.specs.declared.entries.Entry.{Entry}
use Rattle.cdc_follow.specs.declared.follower.Following.{Following}
use Rattle.cdc_follow.specs.declared.follower.Following.TheVariants.{Applied, PassedBy, Duplicate, Gap, Ended}
use Rattle.cdc_follow.specs.declared.follower.Following.TheVariants.{AfterEnd, OutOfRange}
use Rattle.cdc_follow.specs.Streams.{NumberedEntry}

-- what its subscriber keeps, and the timestamp of the last event seen: in a chained stream the last one of the queue
-- that was applied or passed by, in any other one the last one applied
pub record FollowState : Type 0 where
  pub kept : SubscriberState
  pub seen : ℕ

-- what becomes of an event that is neither a duplicate nor behind a gap: it is applied if the binding takes it
abbrev pub next_outcome : Arguments → Event → Following
next_outcome binding e = if matches binding (headers_of_event e) then Applied else PassedBy

-- an entry follows what was seen: its predecessor, if it names one, is the last event seen
abbrev pub follows : ℕ → Option ℕ → Bool
follows seen None = true
follows seen (Some previous) = nat_eq previous seen

-- what becomes of the end: it is received if it follows the last event seen
abbrev pub end_outcome : ℕ → Option ℕ → Following
end_outcome seen previous = if follows seen previous then Ended else Gap

-- what becomes of an entry of an open stream. An event that isn't later than the last one seen is a duplicate, and one
-- that is later than a ledger's greatest timestamp is none. Before an entry that doesn't follow what was seen there is
-- a gap.
abbrev pub content_outcome : Arguments → ℕ → Option ℕ → Content → Following
content_outcome binding seen previous (content.Event e) =
    if nat_le e.timestamp seen then Duplicate
    else (if nat_lt TIMESTAMP e.timestamp then OutOfRange
    else (if follows seen previous then next_outcome binding e else Gap))
content_outcome binding seen previous content.End = end_outcome seen previous

-- an event belongs to the stream: it names its predecessor, or the binding takes it
abbrev pub belongs : Arguments → Option ℕ → Event → Bool
belongs binding None e = matches binding (headers_of_event e)
belongs binding (Some previous) e = true

-- what becomes of an entry after the end: an event of the stream that is later than the last one seen contradicts the
-- end, and so does the end of another place
abbrev pub after_outcome : Arguments → ℕ → Option ℕ → Content → Following
after_outcome binding seen previous (content.Event e) =
    if nat_le e.timestamp seen then Duplicate
    else (if nat_lt TIMESTAMP e.timestamp then OutOfRange
    else (if belongs binding previous e then AfterEnd else PassedBy))
after_outcome binding seen previous content.End = if follows seen previous then Duplicate else AfterEnd

-- what becomes of an entry that a closed follower takes
abbrev pub closed_outcome : Arguments → FollowState → Entry → Following
closed_outcome binding state entry =
    if state.kept.ended then after_outcome binding state.seen entry.previous entry.content else Duplicate

abbrev pub outcome_of : Arguments → FollowState → Entry → Following
outcome_of binding state entry =
    if listens state.kept then content_outcome binding state.seen entry.previous entry.content
    else closed_outcome binding state entry

-- the last event seen, after one that is passed by: if it names no predecessor it doesn't count, so that a follower
-- keeps what a subscriber keeps that receives only the events that the binding takes
abbrev pub seen_past : ℕ → Option ℕ → ℕ → ℕ
seen_past seen None timestamp = seen
seen_past seen (Some previous) timestamp = timestamp

-- what is kept after an entry of which this became
abbrev pub state_by : Following → FollowState → Option ℕ → Content → FollowState
state_by Applied state previous (content.Event e) =
    record { kept = next_state state.kept (item.Event e); seen = e.timestamp }
state_by Applied state previous content.End = state
state_by PassedBy state previous (content.Event e) = record state { seen = seen_past state.seen previous e.timestamp }
state_by PassedBy state previous content.End = state
state_by Duplicate state previous content = state
state_by Gap state previous content = state
state_by AfterEnd state previous content = state
state_by OutOfRange state previous content = state
state_by Ended state previous content = record state { kept = next_state state.kept item.EndMark }

-- what is kept after an entry
abbrev pub next_follow : Arguments → FollowState → Entry → FollowState
next_follow binding state entry = state_by (outcome_of binding state entry) state entry.previous entry.content

-- what is kept after entries; a gap changes nothing
abbrev pub follow_all : Arguments → FollowState → List Entry → FollowState
follow_all binding state entries = fold (next_follow binding) state entries

-- before an entry there is a gap
abbrev pub is_gap : Following → Bool
is_gap Gap = true
is_gap _ = false

-- following stops at an entry of which this becomes: at a gap, unless it is to skip gaps; at what contradicts the end;
-- and at an event that is none
abbrev pub stops_at : Bool → Following → Bool
stops_at skips Gap = not skips
stops_at skips AfterEnd = true
stops_at skips OutOfRange = true
stops_at skips _ = false

-- where a follower stops: what it keeps, and the first entry at which it stops
pub record Followed : Type 0 where
  pub state : FollowState
  pub at : Option NumberedEntry

-- a follower goes through entries, up to the first at which it stops
unfoldable pub follow : Arguments → Bool → FollowState → List NumberedEntry → Followed
follow binding skips state [] = record { state = state; at = None }
follow binding skips state (numbered ∷ rest) =
    if stops_at skips (outcome_of binding state numbered.entry)
    then record { state = state; at = Some numbered }
    else follow binding skips (next_follow binding state numbered.entry) rest

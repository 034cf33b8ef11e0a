-- How a session's state represents its course.
use Rattle.std.specs.Prelude.{◌≡◌, ℕ, ◌+◌, ◌-◌, ◌≤◌, Bool, IsTrue, Option, Some, None, List, All, take, drop, length, map, if◌then◌else◌}
use Rattle.std.specs.List.{list_all}
use Rattle.cdc_types.specs.declared.bounds.TheConstants.Limits.{TIMESTAMP}
use Rattle.cdc_types.specs.declared.events.Event.{Event}
use Rattle.cdc_types.specs.Timestamps.{last_timestamp_from}
use Rattle.cdc_publisher.specs.declared.session.Unconfirmed.{Unconfirmed}
use Rattle.cdc_publisher.specs.Courses.{Course, is_confirmed, is_sent, numbers_from, tags_sent, unconfirmed}
use Rattle.cdc_publisher.specs.SessionState.{SessionState}

-- a flag as a number
abbrev pub flag_count : Bool → ℕ
flag_count flag = if flag then 1 else 0

-- the timestamp of the last of the first events of a course, or the base
abbrev pub timestamp_after : ℕ → List Event → ℕ → ℕ
timestamp_after base offered n = last_timestamp_from base (take n offered)

-- what is kept of a tag that waits for its confirm
abbrev pub entry_of : ℕ → List Event → ℕ → Unconfirmed
entry_of base offered tag = record { tag = tag; before = timestamp_after base offered (tag - 1) }

-- the state represents this course: the numbers are the course's, the unsent events are those of the course without a
-- tag, and the tags that wait are those that were sent and aren't confirmed; only what was sent is confirmed, and the
-- end mark is sent once all events are confirmed
pub record StandsFor (kept : SessionState) (course : Course) : Type 0 where
  pub number : kept.number ≡ course.number
  pub start : kept.start ≡ course.start
  pub base : kept.base ≡ course.base
  pub window : kept.window ≡ course.window
  pub sent : kept.sent ≡ course.sent
  pub complete : kept.complete ≡ course.complete
  pub last : kept.last ≡ last_timestamp_from course.base course.offered
  pub last_sent : kept.last_sent ≡ timestamp_after course.base course.offered (tags_sent course)
  pub unsent : kept.unsent ≡ drop (tags_sent course) course.offered
  pub unconfirmed : kept.unconfirmed ≡ map (entry_of course.base course.offered) (unconfirmed course)
  pub confirmed_sent : (tag : ℕ) → IsTrue (is_confirmed course tag) → IsTrue (is_sent course tag)
  pub count : tags_sent course + length kept.unsent ≡ length course.offered + flag_count kept.ended
  pub end_last : IsTrue kept.ended → length kept.unsent ≡ 0
  pub end_known : IsTrue kept.ended → IsTrue kept.complete
  pub end_waits : IsTrue kept.ended
      → IsTrue (list_all (is_confirmed course) (numbers_from 1 (length course.offered)))

-- the state of a session represents this course: both are there, or neither
abbrev pub SessionStands : Option SessionState → Option Course → Type 0
SessionStands None None = Unit {0}
SessionStands None (Some course) = ⊥
SessionStands (Some kept) None = ⊥
SessionStands (Some kept) (Some course) = StandsFor kept course

-- a timestamp isn't before the start, nor past the greatest one
abbrev pub IsFrom : ℕ → ℕ → Type 0
IsFrom start time = (start ≤ time) × (time ≤ TIMESTAMP)

-- what bounds the numbers that are kept: timestamps by the start and the greatest one, packets by how far timestamps
-- have risen, and what waits by the window
pub record HasBounds (kept : SessionState) : Type 0 where
  pub base : kept.base ≤ TIMESTAMP
  pub last : IsFrom kept.start kept.last
  pub last_sent : IsFrom kept.start kept.last_sent
  pub unsent : All (λ event. IsFrom kept.start event.timestamp) kept.unsent
  pub before : All (λ entry. IsFrom kept.start entry.before) kept.unconfirmed
  pub sent : kept.sent + length kept.unsent ≤ kept.last + 1 + flag_count kept.ended
  pub connected : length kept.unsent ≤ kept.last
  pub room : length kept.unsent + length kept.unconfirmed ≤ kept.window
  pub window : 1 ≤ kept.window

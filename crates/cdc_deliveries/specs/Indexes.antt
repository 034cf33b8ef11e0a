-- An index of a feed: each of its events by timestamp, and the last timestamp.
use Rattle.std.specs.Prelude.{◌≡◌, ℕ, List, nat_eq}
use Rattle.std.specs.Option.{option_or}
use Rattle.indexmap.specs.IndexMap.{get}
use Rattle.cdc_types.specs.declared.events.Event.{Event}
use Rattle.cdc_types.specs.Timestamps.{last_timestamp, last_timestamp_from}
use Rattle.cdc_deliveries.specs.declared.feeds.FeedIndex.{FeedIndex}
use Rattle.cdc_deliveries.specs.Feeds.{placed_after}

pub record IsIndexOf (index : FeedIndex) (fed : List Event) : Type 0 where
  pub finds : (t : ℕ) → get nat_eq index.events t ≡ placed_after 0 t fed
  pub last : index.last ≡ last_timestamp fed

-- the index has the first events of a feed, and these events are left
pub record Indexes (index : FeedIndex) (left : List Event) (fed : List Event) : Type 0 where
  pub finds : (t : ℕ) → option_or (get nat_eq index.events t) (placed_after index.last t left) ≡ placed_after 0 t fed
  pub last : last_timestamp_from index.last left ≡ last_timestamp fed

-- The queue of all that a ledger has to publish, and what a replay of it holds.
use Rattle.std.proofs.Common.{◌≡◌, ℕ, Bool, true, false, List, [], ◌∷◌, ◌++◌, map, refl, ap, ◌∙◌, arith}
use Rattle.std.specs.Prelude.{Contains, filter}
use Rattle.std.specs.List.{list_any}
use Rattle.std.proofs.lemmas.List.{append-nil}
use Rattle.std.proofs.lemmas.List.Elements.{Contains-append_right, filter-append}
use Rattle.std.proofs.lemmas.List.Folds.{list_any_at}
use Rattle.cdc_types.specs.declared.events.Event.{Event}
use Rattle.cdc_ledger.specs.Events.{events}
use Rattle.cdc_ledger.specs.History.{History}
use Rattle.cdc_log.specs.Log.{events_after}
use Rattle.cdc_match.specs.Arguments.{Arguments}
use Rattle.cdc_match.specs.Queue.{feed, queue, takes_item}
use Rattle.cdc_match.proofs.QueueLaws.{queue-map_messages}
use Rattle.cdc_message.specs.declared.items.Item.{Item}
use Rattle.cdc_message.specs.declared.items.Item.TheVariants.{Event as OfEvent, EndMark}
use Rattle.cdc_message.specs.Items.{TimestampsRise, events_of, rises, same_item}
use Rattle.cdc_message.specs.Replays.{HasNoneTwice, IsPrefix, IsReplay, firsts}
use Rattle.cdc_message.proofs.LineLaws.{HasNoneTwice-events, HasNoneTwice-line, events_of-map}
use Rattle.cdc_message.proofs.ReplayLaws.{IsPrefix-firsts, IsReplay-Contains, firsts-all}
use Rattle.cdc_message.proofs.RisesLaws.{events_of-append, events_of-push_end, rises-firsts}
use Rattle.cdc_message.proofs.Same.{Decides-same_item}
use Rattle.cdc_subscriber.specs.Reception.{is_end}
use Rattle.cdc_laws.specs.Line.{end_mark_if, feed_after, feed_of, line, line_after, emitted}

-- ---- the queue of a line

-- a binding takes every end mark
queue_end : (binding : Arguments) (closed : Bool)
    → filter (takes_item binding) (end_mark_if closed) ≡ end_mark_if closed
queue_end binding true = refl
queue_end binding false = refl

-- the queue of published events has those that match the binding, and the end mark
queue-emitted : (es : List Event) (closed : Bool) (binding : Arguments)
    → queue (emitted es closed) binding ≡ emitted (feed es binding) closed
queue-emitted es closed binding =
    rw (filter-append (takes_item binding) (map OfEvent es) (end_mark_if closed), queue_end binding closed)
    (ap (λ items. items ++ end_mark_if closed) (queue-map_messages es binding))

-- so the queue of the whole line has the feed, and the end mark
pub queue-line : (h : History) (binding : Arguments)
    → queue (line h) binding ≡ emitted (feed_of h binding) h.closed
queue-line h binding = queue-emitted (events h) h.closed binding

-- and the queue of the line after a timestamp has the feed after it
pub queue-line_after : (h : History) (start : ℕ) (binding : Arguments)
    → queue (line_after h start) binding ≡ emitted (feed_after h start binding) h.closed
queue-line_after h start binding = queue-emitted (events_after start (events h)) h.closed binding

-- ---- a replay of events that rise, and perhaps an end mark

-- some end mark is among the items
Contains-end : (items : List Item) → list_any is_end items ≡ true → Contains items EndMark
Contains-end [] ended = cc
Contains-end (OfEvent e ∷ items) ended = Contains-append_right (OfEvent e ∷ []) items EndMark (Contains-end items ended)
Contains-end (EndMark ∷ items) ended = (0, omega arith, refl)

-- as long as the ledger is open, no end mark follows the events
none_ends : (es : List Event) → list_any is_end (map OfEvent es ++ []) ≡ false
none_ends [] = refl
none_ends (e ∷ es) = none_ends es

-- none does among events alone
no_end_there : (es : List Event) → Contains (map OfEvent es ++ []) EndMark → ⊥
no_end_there es there =
    let some = list_any_at is_end (map OfEvent es ++ []) there.0 EndMark there.1 (ap is_end there.2) in
    let none = none_ends es in
    cc

module _ (es : List Event) (rise : TimestampsRise es) where
  -- no item occurs twice, so the first ones of each item of a replay are a prefix
  apart : (closed : Bool) → HasNoneTwice (emitted es closed)
  apart true = HasNoneTwice-line es rise
  apart false = rw (append-nil (map OfEvent es)) (HasNoneTwice-events es rise)

  -- the events among the items are the events, end mark or not
  pub events_emitted : (closed : Bool) → events_of (emitted es closed) ≡ es
  events_emitted true = events_of-push_end (map OfEvent es) ∙ events_of-map es
  events_emitted false = ap events_of (append-nil (map OfEvent es)) ∙ events_of-map es

  -- the events of its first items are a prefix
  pub IsPrefix-emitted : (closed : Bool) (w : List Item) → IsReplay w (emitted es closed)
      → IsPrefix (events_of (firsts same_item w)) es
  IsPrefix-emitted closed w replay =
      let front = IsPrefix-firsts same_item Decides-same_item w (emitted es closed) (apart closed) replay in
      record {
        rest = events_of front.rest;
        whole = rw (← events_of-append (firsts same_item w) front.rest, front.whole) (events_emitted closed);
      }

  -- if an end mark has come, there is one, and they are all the events
  pub whole-emitted : (closed : Bool) (w : List Item) → IsReplay w (emitted es closed)
      → list_any is_end w ≡ true → (closed ≡ true) × (events_of (firsts same_item w) ≡ es)
  whole-emitted true w replay ended = (
    refl,
    ap events_of
        (firsts-all same_item Decides-same_item w (map OfEvent es) EndMark (apart true) replay (Contains-end w ended))
        ∙ events_emitted true,
  )
  whole-emitted false w replay ended =
      absurd (no_end_there es (IsReplay-Contains w (map OfEvent es ++ []) EndMark replay (Contains-end w ended)))

  -- they are those that rise
  pub rises-emitted : (closed : Bool) (w : List Item) → IsReplay w (emitted es closed)
      → events_of (firsts same_item w) ≡ rises (events_of w)
  rises-emitted closed w replay =
      rises-firsts (emitted es closed) (apart closed) (rw (events_emitted closed) rise) w replay

  -- the first ones of each of its items are a prefix of the line
  pub IsPrefix-line : (closed : Bool) (w : List Item) → IsReplay w (emitted es closed)
      → IsPrefix (firsts same_item w) (emitted es closed)
  IsPrefix-line closed w replay =
      IsPrefix-firsts same_item Decides-same_item w (emitted es closed) (apart closed) replay

  -- and if the end mark has come, they are the whole line
  pub whole-line : (closed : Bool) (w : List Item) → IsReplay w (emitted es closed) → Contains w EndMark
      → (closed ≡ true) × (firsts same_item w ≡ emitted es closed)
  whole-line true w replay there =
      (refl, firsts-all same_item Decides-same_item w (map OfEvent es) EndMark (apart true) replay there)
  whole-line false w replay there =
      absurd (no_end_there es (IsReplay-Contains w (map OfEvent es ++ []) EndMark replay there))

-- What a queue keeps, and what holds of it between two calls. Cited by private contracts alone.
use Rattle.std.specs.Prelude.{◌≡◌, ◌+◌, ◌≤◌, ◌==◌, ◌&&◌, ℕ, List, All, filter, fold, length, max, min, nat_lt, take, if◌then◌else◌}
use Rattle.cdc_match.specs.Arguments.{Arguments}
use Rattle.cdc_match.specs.Queue.{queue, takes_item}
use Rattle.cdc_message.specs.declared.items.Item.{Item}
use Rattle.cdc_broker.specs.Backlogs.{BacklogState, has_half_before, is_full}
use Rattle.cdc_broker.specs.declared.queue.Mark.{Mark}
use Rattle.cdc_broker.specs.declared.queue.Queue.{Queue}
use Rattle.cdc_broker.specs.Queues.{QueueState}

-- the queue as contracts see it, over the list of accepted items
abbrev pub queue_state : List Item → Queue → QueueState
queue_state accepted q = record {
  binding = q.binding;
  items = queue accepted q.binding;
  cursor = record { next = q.cursor.position + 1; acked = q.acked.position };
  delivered = q.delivered;
}

-- a mark's position is the number of the queue's items before its place
pub record IsMark (accepted : List Item) (binding : Arguments) (mark : Mark) : Type 0 where
  pub within : mark.place ≤ length accepted
  pub counts : mark.position ≡ length (queue (take mark.place accepted) binding)

-- the length is that of the queue, and the marks are its own; only existing items were delivered, and only delivered
-- ones are acknowledged; the cursor is past all acknowledged items, and not past the delivered ones; if all items of
-- the queue are acknowledged, its marks are at the end of the list
pub record IsInOrder (accepted : List Item) (q : Queue) : Type 0 where
  pub len : q.len ≡ length (queue accepted q.binding)
  pub acked : IsMark accepted q.binding q.acked
  pub cursor : IsMark accepted q.binding q.cursor
  pub delivered_there : q.delivered ≤ q.len
  pub acked_delivered : q.acked.position ≤ q.delivered
  pub past_acked : q.acked.position ≤ q.cursor.position
  pub next_at_most : q.cursor.position ≤ q.delivered
  pub acked_at_end : q.acked.position ≡ q.len → q.acked.place ≡ length accepted
  pub cursor_at_end : q.acked.position ≡ q.len → q.cursor.place ≡ length accepted

-- the queue with both marks at this place
abbrev pub moved_to : ℕ → Queue → Queue
moved_to place q = record q { acked = record q.acked { place = place }; cursor = record q.cursor { place = place } }

-- the queue after another queue's item: if it has acknowledged all its own, its marks move to the end of the list,
-- which has this length with the item
abbrev pub ignoring : ℕ → Queue → Queue
ignoring len q = if q.acked.position == q.len then moved_to len q else q

-- the queue after one more item at the back of the list, which has this length with it: the item counts if it belongs
-- to the queue
abbrev pub counting : Item → ℕ → Queue → Queue
counting item len q = if takes_item q.binding item then record q { len = q.len + 1 } else ignoring len q

-- nothing that a mark of the queue is before was let go
pub record IsLeft (gone : ℕ) (q : Queue) : Type 0 where
  pub acked : gone ≤ q.acked.place
  pub cursor : gone ≤ q.cursor.place

-- of what was let go, the queue has had all of its own items acknowledged
abbrev pub HasAcknowledged : BacklogState → Queue → Type 0
HasAcknowledged backlog q = length (queue (take backlog.gone backlog.items) q.binding) ≤ q.acked.position

-- all queues are in order over all items, and what they need is left
pub record AreServable (backlog : BacklogState) (queues : List Queue) : Type 0 where
  pub in_order : All (IsInOrder backlog.items) queues
  pub left : All (IsLeft backlog.gone) queues

-- the lesser of a number and of how many items the queue has done with
abbrev pub lesser : ℕ → Queue → ℕ
lesser number q = min number (min q.acked.place q.cursor.place)

-- how many items at the front of a list of this length all queues have done with
abbrev pub done_with_all : ℕ → List Queue → ℕ
done_with_all len queues = fold lesser len queues

-- how many items at the front of the list no queue asks for again
abbrev pub done_with_here : BacklogState → List Queue → ℕ
done_with_here backlog queues = done_with_all (length backlog.items) queues

-- the queues that have an item which isn't acknowledged
abbrev pub unfinished : List Queue → List Queue
unfinished queues = filter (λ q. nat_lt q.acked.position q.len) queues

-- how many items are gone after one more was added: all that no queue asks for again, if there was no room, and they
-- were at least half of those that were left
abbrev pub gone_after : BacklogState → List Queue → ℕ
gone_after backlog queues =
    if is_full backlog && has_half_before backlog (done_with_here backlog queues)
    then max backlog.gone (done_with_here backlog queues)
    else backlog.gone

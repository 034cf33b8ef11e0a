-- A subscriber is faithful if it received a replay of the queue of a replay of what the ledger has to publish.
use Rattle.std.proofs.Common.{◌≡◌, ℕ, true, false, List, [], ◌∷◌, ◌++◌, take, refl, ap, ◌∙◌, append_assoc}
use Rattle.std.specs.Prelude.{fold}
use Rattle.std.specs.List.{list_any}
use Rattle.std.proofs.lemmas.List.Folds.{list_any-append}
use Rattle.cdc_types.specs.declared.events.Event.{Event}
use Rattle.cdc_ledger.specs.History.{History}
use Rattle.cdc_ledger.specs.Sound.{IsSound}
use Rattle.cdc_laws.specs.Deliveries.{deliveries, items_in}
use Rattle.cdc_laws.specs.Faithful.{IsFaithful, applied, kept_from}
use Rattle.cdc_laws.specs.Line.{feed_after, line_after, emitted}
use Rattle.cdc_laws.proofs.Books.{holds-balances}
use Rattle.cdc_laws.proofs.Deliveries.{items_in-deliveries}
use Rattle.cdc_laws.proofs.Feeds.{IsPrefix-emitted, queue-line_after, rises-emitted, whole-emitted}
use Rattle.cdc_laws.proofs.LateBooks.{holds-accounts}
use Rattle.cdc_laws.proofs.Lines.{all_after_zero}
use Rattle.cdc_laws.proofs.Replays.{IsReplay-map, IsReplay-same}
use Rattle.cdc_laws.proofs.Rising.{TimestampsRise-prefix, feed_after_rises}
use Rattle.cdc_match.specs.Arguments.{Arguments}
use Rattle.cdc_match.specs.Queue.{queue, takes_item}
use Rattle.cdc_match.proofs.FilterLaws.{IsReplay-filter}
use Rattle.cdc_message.specs.declared.items.Delivery.{Delivery}
use Rattle.cdc_message.specs.declared.items.Item.{Item}
use Rattle.cdc_message.specs.declared.items.Item.TheVariants.{Event as OfEvent}
use Rattle.cdc_message.specs.Replays.{IsReplay}
use Rattle.cdc_message.proofs.ReplayLaws.{IsReplay-take, IsReplay-trans}
use Rattle.cdc_subscriber.specs.Reception.{Reception, has_ended, is_end, kept_of, next, nothing}

-- the items of the first n deliveries of a replay of a queue are a replay of the queue
pub IsReplay-reception : (items : List Item) (ds : List Delivery) (n : ℕ) → IsReplay ds (deliveries items)
    → IsReplay (items_in (take n ds)) items
IsReplay-reception items ds n replay =
    rw (items_in-deliveries items) at
    (IsReplay-map (λ (d : Delivery). d.item) (take n ds) (deliveries items) (IsReplay-take n ds _ replay))

module _ (h : History) (start : ℕ) (binding : Arguments) (reception : Reception) (is : IsSound h) where
  -- if it received a replay of the queue of all that the ledger has to publish after the start, it is faithful
  pub IsFaithful-line : IsReplay reception.items (queue (line_after h start) binding)
      → IsFaithful h start binding reception
  IsFaithful-line replay =
      let feed : List Event = feed_after h start binding in
      let receives = rw (queue-line_after h start binding) at replay in
      let rise = feed_after_rises h start binding is in
      let front = IsPrefix-emitted feed rise h.closed reception.items receives in
      record {
        prefix = front;
        rising = TimestampsRise-prefix (applied reception) feed rise front;
        whole = whole-emitted feed rise h.closed reception.items receives;
        balances = λ all. holds-accounts h start (applied reception) is (rw all at front);
        every = λ zero all.
            holds-balances h (applied reception) is (rw (all, zero, all_after_zero h is) at front);
      }

  -- and its state is determined by what it has applied
  pub kept_of-line : IsReplay reception.items (queue (line_after h start) binding)
      → kept_of reception ≡ kept_from reception
  kept_of-line replay =
      rw (rises-emitted (feed_after h start binding) (feed_after_rises h start binding is) h.closed reception.items
      (rw (queue-line_after h start binding) at replay)) refl

  module _ (taken : List Item) (took : IsReplay taken (line_after h start)) where
    -- a replay of the queue of what a broker took is one of the queue of all that there is to publish
    IsReplay-queue : IsReplay reception.items (queue taken binding)
        → IsReplay reception.items (queue (line_after h start) binding)
    IsReplay-queue receives =
        IsReplay-trans reception.items (queue taken binding) _ receives
        (IsReplay-filter (takes_item binding) taken (line_after h start) took)

    -- so a subscriber of a broker that took a replay of the line is faithful
    pub IsFaithful-queue : IsReplay reception.items (queue taken binding) → IsFaithful h start binding reception
    IsFaithful-queue receives = IsFaithful-line (IsReplay-queue receives)

    -- and keeps what it has applied
    pub kept_of-queue : IsReplay reception.items (queue taken binding) → kept_of reception ≡ kept_from reception
    kept_of-queue receives = kept_of-line (IsReplay-queue receives)

-- ---- a whole queue, in order

-- the list has an end mark, after the events
pub ends-emitted : (es : List Event) → list_any is_end (emitted es true) ≡ true
ends-emitted [] = refl
ends-emitted (e ∷ es) = ends-emitted es

-- after items without an end mark, all further events and the end mark after them are received
receives-behind : (before : List Item) (es : List Event) → list_any is_end before ≡ false
    → fold next (record { items = before; closed = false }) (emitted es true)
    ≡ record { items = before ++ emitted es true; closed = false }
receives-behind before [] none = rw none refl
receives-behind before (e ∷ es) none =
    let more : List Item = before ++ OfEvent e ∷ [] in
    let listens : list_any is_end more ≡ false = rw (list_any-append is_end before (OfEvent e ∷ []), none) refl in
    let received : next (record { items = before; closed = false }) (OfEvent e) ≡ record { items = more; closed = false } =
    rw none refl in
    ap (λ r. fold next r (emitted es true)) received
    ∙ rw (append_assoc before (OfEvent e ∷ []) (emitted es true)) at (receives-behind more es listens)

-- and so by a new subscriber
pub receives-emitted : (es : List Event)
    → fold next nothing (emitted es true) ≡ record { items = emitted es true; closed = false }
receives-emitted es = receives-behind [] es refl

-- a subscriber that received all of its queue of a closed ledger has ended, and is faithful
pub receives-all : (h : History) (start : ℕ) (binding : Arguments) (reception : Reception) → IsSound h → h.closed ≡ true
    → reception.items ≡ queue (line_after h start) binding
    → (has_ended reception ≡ true) × IsFaithful h start binding reception
receives-all h start binding reception is shut all =
    let whole : List Item = queue (line_after h start) binding in
    let items = all ∙ queue-line_after h start binding ∙ ap (emitted (feed_after h start binding)) shut in (
      ap (list_any is_end) items ∙ ends-emitted (feed_after h start binding),
      IsFaithful-line h start binding reception is (rw all (IsReplay-same whole)),
    )

-- ---- a closed subscriber

-- a closed subscriber doesn't receive what is delivered to it
pub receives-nothing : (reception : Reception) (item : Item) → reception.closed ≡ true → next reception item ≡ reception
receives-nothing reception item shut = rw shut refl

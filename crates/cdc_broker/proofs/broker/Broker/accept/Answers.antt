use Rattle.std.proofs.Common.{◌≡◌, ℕ, ◌∙◌, Option, List, [], ◌∷◌, ◌++◌, ap, ap₂, length, map}
use Rattle.std.specs.Vec.{with_items}
use Rattle.std.proofs.lemmas.List.{with_items_is}
use Rattle.cdc_message.specs.declared.items.Item.{Item}
use Rattle.cdc_broker.specs.declared.queue.Queue.{Queue}
use Rattle.cdc_broker.specs.Broker.{published}
use Rattle.cdc_broker.specs.Kept.{counting, queue_state}
use Rattle.cdc_broker.specs.Queues.{QueueState, queued}
use Rattle.cdc_broker.proofs.States.{counting_states}
use Rattle.cdc_broker.proofs.broker.Broker.accept.Goals as goal

-- what the queues show after it
taken : (accepted all : List Item) (item : Item) (queues written : List Queue) → all ≡ accepted ++ item ∷ []
    → written ≡ map (counting item (length all)) queues
    → map (queue_state all) written ≡ map (queued item) (map (queue_state accepted) queues)
taken accepted all item queues written longer are =
    ap₂ (λ (items : List Item) (qs : List Queue). map (queue_state items) qs) longer are
    ∙ counting_states accepted item (length all) queues

pub returns-clause-ok : goal.returns-clause-ok
returns-clause-ok c =
    let queues = c.self.inside.queues in
    let new = c.add.new.queues in
    let item = c.args.item in
    ap₂ (λ (expected : Option ℕ) (qs : List QueueState).
    record { connection = c.self.inside.connection; expected = expected; queues = qs })
    c.tag_after-self-inside.ensures
    (taken c.self.inside.accepted.items c.add.new.accepted.items item queues.items (with_items queues new).items
    c.in_ok-add.ensures.items
    (with_items_is queues new (c.add.auto.queues ∙ c.as_mut_slice.ensures.len) ∙ c.in_ok-add.ensures.queues
    ∙ ap (map (counting item (length c.add.new.accepted.items))) c.as_mut_slice.ensures.value))
    ∙ ap (published c.args.tag item) c.self.view_is

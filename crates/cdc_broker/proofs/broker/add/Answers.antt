use Rattle.std.proofs.Common.{◌≡◌, ℕ, ◌+◌, ◌∙◌, List, [], ◌∷◌, ◌++◌, ap, length, length-append, map, subst, sym, arith}
use Rattle.std.specs.Prelude.{All}
use Rattle.cdc_message.specs.declared.items.Item.{Item}
use Rattle.cdc_broker.specs.declared.queue.Queue.{Queue}
use Rattle.cdc_broker.specs.Kept.{IsInOrder, IsLeft, counting}
use Rattle.cdc_broker.proofs.States.{counting_in_order, counting_left, counts_fit, gone_after_unfinished}
use Rattle.cdc_broker.proofs.broker.add.Goals as goal

pub count_in-requires : goal.count_in-requires
count_in-requires c =
    counts_fit c.make_room.new.accepted.items c.args.queues.now c.make_room.ensures.fits
    c.make_room.ensures.servable.in_order

-- the length that the queues are given is that of the list with the item
longer : (before reserved all : List Item) (item : Item) (len : ℕ) → len ≡ length reserved → reserved ≡ before
    → all ≡ reserved ++ item ∷ [] → len + 1 ≡ length all
longer before reserved all item len is same added =
    let more : length all ≡ length (reserved ++ item ∷ []) = ap length added in
    omega (arith, length-append reserved (item ∷ []))

pub returns-clause-queues : goal.returns-clause-queues
returns-clause-queues c =
    c.count_in.ensures
    ∙ ap (λ (len : ℕ). map (counting c.args.item len) c.args.queues.now)
    (longer c.make_room.new.accepted.items c.reserve.new.self.items c.push_reserved.new.self.items c.args.item
    c.len.result
    c.len.ensures.is c.reserve.ensures.items c.push_reserved.ensures.items)

pub returns-clause-gone : goal.returns-clause-gone
returns-clause-gone c =
    c.push_reserved.ensures.gone ∙ c.reserve.ensures.gone ∙ c.in_ok-make_room.ensures.gone
    ∙ gone_after_unfinished c.args.accepted.now c.args.queues.now c.requires.in_order

pub returns-clause-servable : goal.returns-clause-servable
returns-clause-servable c =
    let item = c.args.item in
    let queues = c.args.queues.now in
    let before = c.make_room.new.accepted in
    let after = c.push_reserved.new.self in
    let servable = c.make_room.ensures.servable in
    let items : before.items ++ item ∷ [] ≡ after.items =
    sym (c.push_reserved.ensures.items ∙ ap (λ (items : List Item). items ++ item ∷ []) c.reserve.ensures.items) in
    record {
      in_order = subst (λ (qs : List Queue). All (IsInOrder after.items) qs) (sym (returns-clause-queues c))
          (subst (λ (items : List Item). All (IsInOrder items) (map (counting item (length items)) queues)) items
          (counting_in_order before.items item queues servable.in_order));
      left = subst (λ (gone : ℕ). All (IsLeft gone) c.count_in.new.queues)
          (sym (c.push_reserved.ensures.gone ∙ c.reserve.ensures.gone))
          (subst (λ (qs : List Queue). All (IsLeft before.gone) qs) (sym c.count_in.ensures)
          (counting_left before.gone item (c.len.result + 1) queues (omega (
            arith,
            c.len.ensures.within,
            c.len.ensures.is,
            c.reserve.ensures.gone,
          )) servable.left));
    }

use Rattle.std.proofs.Common.{◌≡◌, ◌<◌, ◌≤◌, ◌∷◌, ◌++◌, [], ap, arith, sym, ◌∙◌}
use Rattle.cdc_subscriber.specs.Book.{book_of}
use Rattle.cdc_subscriber.specs.Reception.{applied_of, kept_of}
use Rattle.cdc_subscriber.specs.SubscriberState.{SubscriberState}
use Rattle.cdc_subscriber.proofs.ReceptionLemmas.{Listens-unsettled, kept_more, kept_of-applied, kept_of-repeat}
use Rattle.cdc_subscriber.proofs.subscriber.Subscriber.receive.Goals as goal

pub returns-then-event-self-clause-stands : goal.returns-then-event-self-clause-stands
returns-then-event-self-clause-stands c reception is =
    let listens = Listens-unsettled (kept_of reception) (rw is at c.requires) in
    let late : c.args.event.now.timestamp ≤ (kept_of reception).last =
    omega (arith, ap (λ (k : SubscriberState). k.last) (c.self.view_is ∙ is)) in
    is ∙ sym (kept_of-repeat reception c.args.event.now listens late)

pub returns-clause-stands : goal.returns-clause-stands
returns-clause-stands c reception is =
    let was = c.self.view_is ∙ is in
    let listens = Listens-unsettled (kept_of reception) (rw is at c.requires) in
    let later : (kept_of reception).last < c.args.event.now.timestamp =
    omega (arith, ap (λ (k : SubscriberState). k.last) was) in
    let held : c.apply.new.self ≡ book_of (applied_of reception ++ c.args.event.now ∷ []) =
    c.in_ok-apply.ensures.ok (applied_of reception) (ap (λ (k : SubscriberState). k.book) was) in
    rw c.saturating_add-self-inside.ensures
    (ap (λ (k : SubscriberState). kept_more k c.args.event.now c.apply.new.self) was
    ∙ sym (kept_of-applied reception c.args.event.now c.apply.new.self listens later held))

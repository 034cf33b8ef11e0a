use Rattle.cdc_world.proofs.Words.{List, Option, Poll, Some, poll_of, subst, sym, ◌∙◌, ◌≡◌}
use Rattle.cdc_publisher.specs.Offers.{IsOffered, IsReply}
use Rattle.cdc_types.specs.declared.events.Event.{Event}
use Rattle.cdc_world.proofs.connector.poll.Goals as goal

-- a reply to what is wanted
IsOffered-reply : (wanted : Option Poll) (poll : Poll) (es es' : List Event) → wanted ≡ Some poll → es' ≡ es
    → IsReply poll es → IsOffered wanted es'
IsOffered-reply wanted poll es es' is same reply =
    subst (λ (o : Option Poll). IsOffered o es') (sym is) (subst (IsReply poll) (sym same) reply)

pub offer-requires : goal.offer-requires
offer-requires c =
    IsOffered-reply (poll_of c.args.session.now) c.in_ok-poll.poll c.in_ok-offer.offer.events.items c.deref.result.now
    (sym c.wants.ensures.kept ∙ c.in_ok-poll.ensures.ok_part) c.deref.ensures.value c.in_ok-offer.ensures.reply

use Rattle.cdc_commands.proofs.Terms.{AreFed, BrokerState, Event, Item, List, OfEvent, SubscriberState, [], ap, arith, found_within, map, max_64, subst, sym, take, with_items_is, ◌++◌, ◌+◌, ◌<◌, ◌∙◌, ◌∷◌, ◌≡◌}
use Rattle.cdc_commands.proofs.FeedLemmas.{AreFedTo, AreFedTo-more}
use Rattle.cdc_commands.proofs.feeding.subscribers_of_log.Goals as goal
use Rattle.cdc_commands.proofs.feeding.subscribers_of_log.Goals.{in-Some+in_ok-of+in_ok-feed, in_default}

pub loop-place-preserved : goal.loop-place-preserved
loop-place-preserved c =
    let events = c.args.log.now.events in
    let place = c.loop-place.place in
    let bindings = c.args.bindings.items in
    elim c.match-get.branch [
      | in-Some+in_ok-of+in_ok-feed w ↦
          let few : place + 2 < max_64 = omega (arith, c.len-place-end.ensures, c.requires) in
          let items : List Item = map OfEvent (take place events) in
          let event : Event = w.in-Some.event.now in
          let before : AreFed bindings items c.loop-place.broker w.as_mut_slice.result.now =
          subst (λ (kept : List SubscriberState). AreFed bindings items c.loop-place.broker kept)
          (sym w.as_mut_slice.ensures.value) c.loop-place.invariant.fed in
          let fed : AreFed bindings (items ++ OfEvent event ∷ []) w.feed.new.broker w.feed.new.subscribers =
          subst (λ (e : Event). AreFed bindings (items ++ OfEvent e ∷ []) w.feed.new.broker w.feed.new.subscribers)
          w.in_ok-of.ensures (w.in_ok-feed.ensures.fed bindings items before) in
          let written : c.match-get.subscribers.items ≡ w.feed.new.subscribers =
          ap (λ v. v.items) w.subscribers-is
          ∙ with_items_is c.loop-place.subscribers w.feed.new.subscribers
          (w.feed.auto.subscribers ∙ w.as_mut_slice.ensures.len) in
          subst (λ (kept : List SubscriberState). AreFedTo events bindings (place + 1) c.match-get.broker kept)
          (sym written)
          (subst (λ (s : BrokerState). AreFedTo events bindings (place + 1) s w.feed.new.subscribers)
          (sym w.broker-is)
          (AreFedTo-more events bindings place event w.feed.new.broker w.feed.new.subscribers few
          (sym w.in-Some.ensures) w.in_ok-feed.ensures.connected w.in_ok-feed.ensures.next fed))
      | in_default w ↦
          absurd (found_within events place (omega (arith, c.len-place-end.ensures)) (sym w.in_default.ensures))
    ]

use Rattle.std.proofs.Common.{◌≡◌, ◌+◌, ◌∙◌, ◌++◌, ◌∷◌, [], List, sym, ap, subst, drop}
use Rattle.circular_buffer.specs.Buffer.{Buffer, buffer}
use Rattle.cdc_types.specs.declared.events.Event.{Event}
use Rattle.cdc_publisher.specs.declared.session.Unconfirmed.{Unconfirmed}
use Rattle.cdc_publisher.specs.Stands.{HasBounds}
use Rattle.cdc_publisher.specs.Views.{kept_of}
use Rattle.cdc_publisher.proofs.Bounds.{first_of, published_bounds, tag_fits}
use Rattle.cdc_publisher.proofs.Rings.{keep_all}
use Rattle.cdc_publisher.proofs.session.Session.advance.Goals as goal

pub invariant_of-self-in-Some : goal.invariant_of-self-in-Some
invariant_of-self-in-Some c =
    let inside = c.self.inside in
    let event = c.in-Some.event in
    let events = drop 1 inside.unsent.items in
    let entry : Unconfirmed = record { tag = inside.sent; before = inside.last_sent } in
    let is : inside.unsent.items ≡ event ∷ events =
    first_of inside.unsent.items event (sym c.pop_front.ensures.value ∙ c.in-Some.is) in
    let pushed : c.push_back.new.self ≡ buffer (inside.unconfirmed.items ++ entry ∷ []) inside.unconfirmed.capacity =
    c.push_back.ensures.items ∙ ap (λ (entries : List Unconfirmed). buffer entries inside.unconfirmed.capacity)
    (keep_all inside.unconfirmed.capacity (inside.unconfirmed.items ++ entry ∷ [])
    (tag_fits (kept_of inside) event events entry c.self.invariant.bounds is)) in
    record {
      room = ap (λ (b : Buffer Event). b.capacity) c.pop_front.ensures.items ∙ c.self.invariant.room
          ∙ sym (ap (λ (b : Buffer Unconfirmed). b.capacity) pushed);
      bounds = subst (λ (b : Buffer Unconfirmed). HasBounds (record (kept_of inside) {
        window = b.capacity;
        last_sent = event.timestamp;
        sent = inside.sent + 1;
        unsent = c.pop_front.new.self.items;
        unconfirmed = b.items;
      })) (sym pushed)
          (subst (λ (b : Buffer Event). HasBounds (record (kept_of inside) {
            last_sent = event.timestamp;
            sent = inside.sent + 1;
            unsent = b.items;
            unconfirmed = inside.unconfirmed.items ++ entry ∷ [];
          })) (sym c.pop_front.ensures.items)
          (published_bounds (kept_of inside) event events c.self.invariant.bounds is));
    }

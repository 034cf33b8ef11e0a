use Rattle.std.proofs.Common.{◌≡◌, ◌≤◌, ◌∙◌, ◌++◌, List, sym, ap, subst, length}
use Rattle.circular_buffer.specs.Buffer.{Buffer}
use Rattle.cdc_types.specs.declared.events.Event.{Event}
use Rattle.cdc_publisher.specs.Courses.{with_offer}
use Rattle.cdc_publisher.specs.SessionState.{SessionState, poll_of}
use Rattle.cdc_publisher.specs.Offers.{IsOffered}
use Rattle.cdc_publisher.specs.Stands.{HasBounds, StandsFor}
use Rattle.cdc_publisher.specs.Views.{kept_of}
use Rattle.cdc_publisher.proofs.Bounds.{offered_bounds, offered_fits}
use Rattle.cdc_publisher.proofs.Moves.{offered_stands}
use Rattle.cdc_publisher.proofs.Rings.{keep_all}
use Rattle.cdc_publisher.proofs.session.Session.offer.Goals as goal

pub invariant_of-self : goal.invariant_of-self
invariant_of-self c =
    let inside = c.self.inside in
    let events = c.args.events.now in
    let bounds = c.self.invariant.bounds in
    let offer = subst (λ (kept : SessionState). IsOffered (poll_of kept) events) (sym c.self.view_is) c.requires in
    let unsent : c.extend_from_slice.new.self.items ≡ inside.unsent.items ++ events =
    ap (λ (b : Buffer Event). b.items) c.extend_from_slice.ensures
    ∙ keep_all inside.unsent.capacity (inside.unsent.items ++ events)
    (subst (λ n. length (inside.unsent.items ++ events) ≤ n) (sym c.self.invariant.room)
    (offered_fits (kept_of inside) events bounds offer)) in
    record {
      room = ap (λ (b : Buffer Event). b.capacity) c.extend_from_slice.ensures ∙ c.self.invariant.room;
      bounds = subst (λ (left : List Event). HasBounds (record (kept_of inside) {
        last = c.last_of-self-inside.result;
        unsent = left;
        complete = c.args.complete;
      })) (sym unsent)
          (subst (λ time. HasBounds (record (kept_of inside) {
            last = time;
            unsent = inside.unsent.items ++ events;
            complete = c.args.complete;
          })) (sym c.last_of-self-inside.ensures)
          (offered_bounds (kept_of inside) events c.args.complete bounds offer));
    }

pub returns : goal.returns
returns c = λ course stands.
    let inside = c.self.inside in
    let events = c.args.events.now in
    let offer = subst (λ (kept : SessionState). IsOffered (poll_of kept) events) (sym c.self.view_is) c.requires in
    let unsent : c.extend_from_slice.new.self.items ≡ inside.unsent.items ++ events =
    ap (λ (b : Buffer Event). b.items) c.extend_from_slice.ensures
    ∙ keep_all inside.unsent.capacity (inside.unsent.items ++ events)
    (subst (λ n. length (inside.unsent.items ++ events) ≤ n) (sym c.self.invariant.room)
    (offered_fits (kept_of inside) events c.self.invariant.bounds offer)) in
    subst (λ (left : List Event). StandsFor (record (kept_of inside) {
      last = c.last_of-self-inside.result;
      unsent = left;
      complete = c.args.complete;
    }) (with_offer events c.args.complete course)) (sym unsent)
    (subst (λ time. StandsFor (record (kept_of inside) {
      last = time;
      unsent = inside.unsent.items ++ events;
      complete = c.args.complete;
    }) (with_offer events c.args.complete course)) (sym c.last_of-self-inside.ensures)
    (offered_stands (kept_of inside) course events c.args.complete
    (subst (λ (kept : SessionState). StandsFor kept course) (sym c.self.view_is) stands) offer))

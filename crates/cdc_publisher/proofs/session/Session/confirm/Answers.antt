use Rattle.std.proofs.Common.{◌==◌, ◌∙◌, ◌&&◌, sym, ap, subst}
use Rattle.circular_buffer.specs.Buffer.{Buffer}
use Rattle.cdc_publisher.specs.declared.session.Unconfirmed.{Unconfirmed}
use Rattle.cdc_publisher.specs.Courses.{with_confirm}
use Rattle.cdc_publisher.specs.SessionState.{SessionState, holds_tag}
use Rattle.cdc_publisher.specs.Stands.{HasBounds, StandsFor}
use Rattle.cdc_publisher.specs.Views.{kept_of}
use Rattle.cdc_publisher.proofs.Bounds.{confirmed_bounds}
use Rattle.cdc_publisher.proofs.Moves.{confirm_stands, own_number}
use Rattle.cdc_publisher.proofs.Standing.{takes_is}
use Rattle.cdc_publisher.proofs.session.Session.confirm.Goals as goal

pub invariant_of-self : goal.invariant_of-self
invariant_of-self c =
    let inside = c.self.inside in
    record {
      room = c.self.invariant.room ∙ sym (ap (λ (b : Buffer Unconfirmed). b.capacity) c.take_out.ensures.others);
      bounds = subst (λ (b : Buffer Unconfirmed).
          HasBounds (record (kept_of inside) { window = b.capacity; unconfirmed = b.items }))
          (sym c.take_out.ensures.others)
          (confirmed_bounds (kept_of inside) c.args.tag c.self.invariant.bounds);
    }

pub returns-then-session-self-clause-answer : goal.returns-then-session-self-clause-answer
returns-then-session-self-clause-answer c = λ course stands.
    c.take_out.ensures.taken
    ∙ sym (own_number c.args.session c.self.inside.number (holds_tag c.args.tag c.self.inside.unconfirmed.items)
    c.if-session-self.true)
    ∙ ap (λ (kept : SessionState). (c.args.session == kept.number) && holds_tag c.args.tag kept.unconfirmed)
    c.self.view_is
    ∙ takes_is c.args.self.now course c.args.session c.args.tag stands

pub returns-then-session-self-clause-stands : goal.returns-then-session-self-clause-stands
returns-then-session-self-clause-stands c = λ course stands.
    let inside = c.self.inside in
    subst (λ (b : Buffer Unconfirmed).
    StandsFor (record (kept_of inside) { window = b.capacity; unconfirmed = b.items })
    (with_confirm c.args.session c.args.tag course))
    (sym c.take_out.ensures.others)
    (confirm_stands (kept_of inside) course c.args.session c.args.tag
    (subst (λ (kept : SessionState). StandsFor kept course) (sym c.self.view_is) stands) c.if-session-self.true)

use Rattle.std.proofs.Common.{◌≡◌, ◌∙◌, ℕ, List, Ok, Option, Some, None, ap}
use Rattle.std.specs.Prelude.{IfSome}
use Rattle.cdc_types.specs.declared.events.Event.{Event}
use Rattle.cdc_message.specs.Bodies.{body}
use Rattle.cdc_message.specs.OwnBodies.{IsOwnBody}
use Rattle.cdc_message.specs.Reading.{read}
use Rattle.cdc_message.specs.Widths.{EventFits}
use Rattle.cdc_message.proofs.Law.{read-body}
use Rattle.cdc_message.proofs.own_bodies.own_event.Goals as goal

-- the bytes of an event's body are read as the event
is_read : (answer : Option Event) (bytes : List ℕ) → IfSome answer EventFits
    → IfSome answer (λ event. bytes ≡ body event) → IfSome answer (λ event. read bytes ≡ Ok event)
is_read None bytes fits is = tt
is_read (Some event) bytes fits is = ap read is ∙ read-body event fits

-- they are its body
is_own : (answer : Option Event) (bytes : List ℕ) → IfSome answer EventFits
    → IfSome answer (λ event. bytes ≡ body event) → IfSome answer (IsOwnBody bytes)
is_own None bytes fits is = tt
is_own (Some event) bytes fits is = (is, fits)

pub returns-clause-event : goal.returns-clause-event
returns-clause-event c = is_read c.event.result c.args.bytes.now c.event.ensures.fits c.event.ensures.text

pub returns-clause-own : goal.returns-clause-own
returns-clause-own c = is_own c.event.result c.args.bytes.now c.event.ensures.fits c.event.ensures.text

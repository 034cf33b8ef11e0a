use Rattle.std.proofs.Common.{◌≡◌, ◌∙◌, Some, ap, sym}
use Rattle.cdc_message.specs.Headers.{headers_of_event}
use Rattle.cdc_message.proofs.OwnParts.{not_none}
use Rattle.cdc_queue_lines.specs.Lines.{seconds_of}
use Rattle.cdc_envelopes.proofs.BodyLemmas.{envelope_read, headers_fit, seconds_fit}
use Rattle.cdc_envelopes.proofs.PrintedLines.{after_kind, message_line-parts, numbered_line-parts}
use Rattle.cdc_envelopes.proofs.envelopes.fast_envelope.Goals as goal

pub returns-clause-envelope : goal.returns-clause-envelope
returns-clause-envelope c =
    envelope_read c.args.line.now _ _ _ _ c.in_ok-previous.previous c.in_ok-event.event
    c.in_ok-skip_front.ensures.begins
    c.in_ok-previous.ensures.previous c.in_ok-skip_middle.ensures.skips c.in_ok-literal.ensures.text
    c.in_ok-event.ensures.body

pub returns-clause-complete : goal.returns-clause-complete
returns-clause-complete c previous event previous_fits fits is =
    let a1 = c.skip_front.ensures.complete (after_kind previous event)
    (is ∙ message_line-parts previous event) in
    let a2 = c.previous.ensures.complete previous _ a1.1 previous_fits in
    let a3 = c.skip_middle.ensures.complete (headers_of_event event) (seconds_of event) _ (headers_fit event fits)
    (seconds_fit event fits) a2.1 in
    let a4 = c.literal.ensures.complete _ a3.1 in
    let a5 = c.last_body.ensures.complete event a4.1 fits in
    let some_previous : Some c.in_ok-previous.previous ≡ Some previous = sym c.in_ok-previous.was ∙ a2.0 in
    let some_event : Some c.in_ok-event.event ≡ Some event = sym c.in_ok-event.was ∙ a5 in
    let same_previous : c.in_ok-previous.previous ≡ previous = cc in
    let same_event : c.in_ok-event.event ≡ event = cc in
    ap Some (λ i. record { event = same_event i; previous = same_previous i })

pub returns-in_err-skip_front-clause-complete : goal.returns-in_err-skip_front-clause-complete
returns-in_err-skip_front-clause-complete c previous event previous_fits fits is =
    not_none c.in_err-skip_front.was (c.skip_front.ensures.complete (after_kind previous event)
    (is ∙ message_line-parts previous event)).0

pub returns-in_err-previous-clause-complete : goal.returns-in_err-previous-clause-complete
returns-in_err-previous-clause-complete c previous event previous_fits fits is =
    let a1 = c.skip_front.ensures.complete (after_kind previous event)
    (is ∙ message_line-parts previous event) in
    not_none c.in_err-previous.was (c.previous.ensures.complete previous _ a1.1 previous_fits).0

pub returns-in_err-skip_middle-clause-complete : goal.returns-in_err-skip_middle-clause-complete
returns-in_err-skip_middle-clause-complete c previous event previous_fits fits is =
    let a1 = c.skip_front.ensures.complete (after_kind previous event)
    (is ∙ message_line-parts previous event) in
    let a2 = c.previous.ensures.complete previous _ a1.1 previous_fits in
    not_none c.in_err-skip_middle.was
    (c.skip_middle.ensures.complete (headers_of_event event) (seconds_of event) _ (headers_fit event fits)
    (seconds_fit event fits) a2.1).0

pub returns-in_err-literal-clause-complete : goal.returns-in_err-literal-clause-complete
returns-in_err-literal-clause-complete c previous event previous_fits fits is =
    let a1 = c.skip_front.ensures.complete (after_kind previous event)
    (is ∙ message_line-parts previous event) in
    let a2 = c.previous.ensures.complete previous _ a1.1 previous_fits in
    let a3 = c.skip_middle.ensures.complete (headers_of_event event) (seconds_of event) _ (headers_fit event fits)
    (seconds_fit event fits) a2.1 in
    not_none c.in_err-literal.was (c.literal.ensures.complete _ a3.1).0

pub returns-in_err-event-clause-complete : goal.returns-in_err-event-clause-complete
returns-in_err-event-clause-complete c previous event previous_fits fits is =
    let a1 = c.skip_front.ensures.complete (after_kind previous event)
    (is ∙ message_line-parts previous event) in
    let a2 = c.previous.ensures.complete previous _ a1.1 previous_fits in
    let a3 = c.skip_middle.ensures.complete (headers_of_event event) (seconds_of event) _ (headers_fit event fits)
    (seconds_fit event fits) a2.1 in
    let a4 = c.literal.ensures.complete _ a3.1 in
    not_none c.in_err-event.was (c.last_body.ensures.complete event a4.1 fits)

pub returns-clause-numbered : goal.returns-clause-numbered
returns-clause-numbered c queue previous event queue_fits previous_fits fits is =
    let a1 = c.skip_front.ensures.numbered queue (after_kind previous event)
    (is ∙ numbered_line-parts queue previous event) queue_fits in
    let a2 = c.previous.ensures.complete previous _ a1.1 previous_fits in
    let a3 = c.skip_middle.ensures.complete (headers_of_event event) (seconds_of event) _ (headers_fit event fits)
    (seconds_fit event fits) a2.1 in
    let a4 = c.literal.ensures.complete _ a3.1 in
    let a5 = c.last_body.ensures.complete event a4.1 fits in
    let some_previous : Some c.in_ok-previous.previous ≡ Some previous = sym c.in_ok-previous.was ∙ a2.0 in
    let some_event : Some c.in_ok-event.event ≡ Some event = sym c.in_ok-event.was ∙ a5 in
    let same_previous : c.in_ok-previous.previous ≡ previous = cc in
    let same_event : c.in_ok-event.event ≡ event = cc in
    ap Some (λ i. record { event = same_event i; previous = same_previous i })

pub returns-in_err-skip_front-clause-numbered : goal.returns-in_err-skip_front-clause-numbered
returns-in_err-skip_front-clause-numbered c queue previous event queue_fits previous_fits fits is =
    not_none c.in_err-skip_front.was (c.skip_front.ensures.numbered queue (after_kind previous event)
    (is ∙ numbered_line-parts queue previous event) queue_fits).0

pub returns-in_err-previous-clause-numbered : goal.returns-in_err-previous-clause-numbered
returns-in_err-previous-clause-numbered c queue previous event queue_fits previous_fits fits is =
    let a1 = c.skip_front.ensures.numbered queue (after_kind previous event)
    (is ∙ numbered_line-parts queue previous event) queue_fits in
    not_none c.in_err-previous.was (c.previous.ensures.complete previous _ a1.1 previous_fits).0

pub returns-in_err-skip_middle-clause-numbered : goal.returns-in_err-skip_middle-clause-numbered
returns-in_err-skip_middle-clause-numbered c queue previous event queue_fits previous_fits fits is =
    let a1 = c.skip_front.ensures.numbered queue (after_kind previous event)
    (is ∙ numbered_line-parts queue previous event) queue_fits in
    let a2 = c.previous.ensures.complete previous _ a1.1 previous_fits in
    not_none c.in_err-skip_middle.was
    (c.skip_middle.ensures.complete (headers_of_event event) (seconds_of event) _ (headers_fit event fits)
    (seconds_fit event fits) a2.1).0

pub returns-in_err-literal-clause-numbered : goal.returns-in_err-literal-clause-numbered
returns-in_err-literal-clause-numbered c queue previous event queue_fits previous_fits fits is =
    let a1 = c.skip_front.ensures.numbered queue (after_kind previous event)
    (is ∙ numbered_line-parts queue previous event) queue_fits in
    let a2 = c.previous.ensures.complete previous _ a1.1 previous_fits in
    let a3 = c.skip_middle.ensures.complete (headers_of_event event) (seconds_of event) _ (headers_fit event fits)
    (seconds_fit event fits) a2.1 in
    not_none c.in_err-literal.was (c.literal.ensures.complete _ a3.1).0

pub returns-in_err-event-clause-numbered : goal.returns-in_err-event-clause-numbered
returns-in_err-event-clause-numbered c queue previous event queue_fits previous_fits fits is =
    let a1 = c.skip_front.ensures.numbered queue (after_kind previous event)
    (is ∙ numbered_line-parts queue previous event) queue_fits in
    let a2 = c.previous.ensures.complete previous _ a1.1 previous_fits in
    let a3 = c.skip_middle.ensures.complete (headers_of_event event) (seconds_of event) _ (headers_fit event fits)
    (seconds_fit event fits) a2.1 in
    let a4 = c.literal.ensures.complete _ a3.1 in
    not_none c.in_err-event.was (c.last_body.ensures.complete event a4.1 fits)

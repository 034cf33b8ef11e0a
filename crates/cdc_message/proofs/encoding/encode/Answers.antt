use Rattle.std.proofs.Common.{ap, ◌∙◌}
use Rattle.std.proofs.lemmas.Result.{IfOk-weaker}
use Rattle.cdc_message.specs.Reading.{read}
use Rattle.cdc_message.proofs.Law.{read-body}
use Rattle.cdc_message.proofs.Sent.{IfOk-or_err, OnOk-from, body_text}
use Rattle.cdc_message.proofs.encoding.encode.Goals as goal

pub returns-in_err-with_capacity-clause-law : goal.returns-in_err-with_capacity-clause-law
returns-in_err-with_capacity-clause-law c = read-body

pub returns-in_err-send_event-clause-law : goal.returns-in_err-send_event-clause-law
returns-in_err-send_event-clause-law c = read-body

-- the buffer was empty, so it holds the text of the event alone
pub returns-clause-text : goal.returns-clause-text
returns-clause-text c =
    let empty = c.new-out.ensures.before ∙ c.in_ok-with_capacity.ensures.items in
    let sent = c.in_ok-send_event.ensures in
    let is_body =
    c.into_inner.ensures.items
    ∙ body_text c.args.event.now c.new-out.result c.send_event.new.out empty c.new-out.ensures.tokens sent.fits
    sent.sends in
    rw c.or.ensures (IfOk-or_err c.from_utf8.result _ _
    (IfOk-weaker c.from_utf8.result _ _ (λ text same. ap (λ bytes. bytes.items) same ∙ is_body) c.from_utf8.ensures.ok))

pub returns-clause-reads_back : goal.returns-clause-reads_back
returns-clause-reads_back c =
    IfOk-weaker c.or.result _ _
    (λ text is_body. ap read is_body ∙ read-body c.args.event.now c.in_ok-send_event.ensures.fits)
    (returns-clause-text c)

pub returns-clause-fits : goal.returns-clause-fits
returns-clause-fits c = OnOk-from c.or.result _ c.in_ok-send_event.ensures.fits

pub returns-clause-law : goal.returns-clause-law
returns-clause-law c = read-body

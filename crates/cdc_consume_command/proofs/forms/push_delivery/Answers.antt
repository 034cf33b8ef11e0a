use Rattle.std.specs.Prelude.{◌++◌, codes, decimal}
use Rattle.cdc_consume_command.specs.Texts.{yes_or_no}
use Rattle.cdc_output.proofs.TextLemmas.{pieces}
use Rattle.cdc_consume_command.proofs.forms.push_delivery.Goals as goal

pub returns : goal.returns
returns c =
    pieces _ c.push_named.new.text.items _ (codes "tag " ++ decimal c.args.outcome.tag) _ c.in_ok-push_named.ensures
    (pieces _ c.push.new.text.items _ (codes "\nredelivered ") _ c.in_ok-push.ensures
    (pieces _ c.push-2.new.text.items _ (yes_or_no c.args.outcome.redelivered) _
    (rw c.yes_no.ensures at c.in_ok-push-2.ensures)
    (pieces _ c.push_named-2.new.text.items _ (codes "\ndelivery_count " ++ decimal c.args.outcome.delivery_count) _
    c.in_ok-push_named-2.ensures
    (pieces _ c.push_named-3.new.text.items _ (codes "\nparked " ++ decimal c.args.outcome.parked) _
    c.in_ok-push_named-3.ensures c.in_ok-push-3.ensures))))

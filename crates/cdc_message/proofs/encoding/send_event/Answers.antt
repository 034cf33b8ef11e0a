use Rattle.std.proofs.lemmas.Result.{on_ok_weaker}
use Rattle.cdc_message.proofs.Sent.{one, then}
use Rattle.cdc_message.proofs.encoding.send_event.Goals as goal

-- each member is sent in its turn, between the marks of the object
pub returns-clause-sends : goal.returns-clause-sends
returns-clause-sends c =
    on_ok_weaker c.end_object.result (λ end.
    then (one c.in_ok-begin_object.ensures) (
    then (one c.in_ok-key.ensures) (
    then c.in_ok-send_account.ensures.sends (
    then (one c.in_ok-key-2.ensures) (
    then c.in_ok-send_account-2.ensures.sends (
    then c.in_ok-send_32.ensures.sends (
    then c.in_ok-send_64.ensures.sends (
    then (one c.in_ok-key-3.ensures) (
    then c.in_ok-send_transfer.ensures.sends (
    then (one c.in_ok-key-4.ensures) (
    then (one (rw c.kind_text.ensures at c.in_ok-string.ensures)) (
    record { tokens_are = end; before_is = c.end_object.ensures.room.0 }))))))))))))
    c.end_object.ensures.ok

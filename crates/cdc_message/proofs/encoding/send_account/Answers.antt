use Rattle.std.proofs.lemmas.Result.{on_ok_weaker}
use Rattle.cdc_message.proofs.Sent.{one, then}
use Rattle.cdc_message.proofs.encoding.send_account.Goals as goal

-- each member is sent in its turn, between the marks of the object
pub returns-clause-sends : goal.returns-clause-sends
returns-clause-sends c =
    on_ok_weaker c.end_object.result (λ end.
    then (one c.in_ok-begin_object.ensures) (
    then c.in_ok-send_16.ensures.sends (
    then c.in_ok-send_128.ensures.sends (
    then c.in_ok-send_128-2.ensures.sends (
    then c.in_ok-send_128-3.ensures.sends (
    then c.in_ok-send_128-4.ensures.sends (
    then c.in_ok-send_16-2.ensures.sends (
    then c.in_ok-send_128-5.ensures.sends (
    then c.in_ok-send_64.ensures.sends (
    then c.in_ok-send_128-6.ensures.sends (
    then c.in_ok-send_32.ensures.sends (
    then c.in_ok-send_64-2.ensures.sends (
    record { tokens_are = end; before_is = c.end_object.ensures.room.0 })))))))))))))
    c.end_object.ensures.ok

use Rattle.std.proofs.Common.{◌≤◌, ℕ, subst, arith}
use Rattle.cdc_world.proofs.MovedReadings.{Finds-past, Finds-there, Finds-zero}
use Rattle.cdc_world.proofs.world.World.subscriber_number.Goals as goal
use Rattle.cdc_world.proofs.world.World.subscriber_number.Goals.{else-number-gt0-via-then-number-gt0+else-number-subscriber_count, else-number-gt0-via-else-number-gt0}

pub returns-then-number-subscriber_count-clause-finds : goal.returns-then-number-subscriber_count-clause-finds
returns-then-number-subscriber_count-clause-finds g c = λ w st.
    Finds-there w.subscriptions c.args.i c.if-number-gt0.true
    (subst (λ (n : ℕ). c.args.i ≤ n) (c.subscriber_count.ensures.subscriptions w st) c.if-number-subscriber_count.true)

pub returns-else-number-gt0-clause-finds : goal.returns-else-number-gt0-clause-finds
returns-else-number-gt0-clause-finds g c = λ w st.
    elim c.else-number-gt0.branch [
      | else-number-gt0-via-then-number-gt0+else-number-subscriber_count b ↦ Finds-past w.subscriptions c.args.i
          (omega (arith, b.subscriber_count.ensures.subscriptions w st, b.if-number-subscriber_count.false))
      | else-number-gt0-via-else-number-gt0 b ↦ Finds-zero w.subscriptions c.args.i b.if-number-gt0.false
    ]

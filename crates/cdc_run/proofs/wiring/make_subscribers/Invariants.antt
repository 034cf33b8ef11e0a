use Rattle.cdc_run.proofs.Words.{AreFreshSubscribers, LinkId, ToBroker, fresh_from, length, map, vec_len, ◌≡◌}
use Rattle.cdc_run.proofs.wiring.make_subscribers.Given as goal

-- those so far
abbrev pub invariant-loop-ack : goal.invariant-loop-ack
invariant-loop-ack l =
    (vec_len l.subscribers ≡ length l.yielded)
    × ((link : LinkId ToBroker) → l.fn.acks.items ≡ fresh_from link 1 (length l.fn.inboxes.items)
    → AreFreshSubscribers l.system link l.faults.close.items (map (λ p. p.1.link) l.yielded) l.subscribers.items)

use Rattle.cdc_run.proofs.Words.{LinkId, ToLedger, fresh_from, length, made_clients, map, vec_len, ◌≡◌}
use Rattle.cdc_run.proofs.wiring.make_clients.Given as goal

-- those so far
abbrev pub invariant-loop-request : goal.invariant-loop-request
invariant-loop-request l =
    (vec_len l.clients ≡ length l.yielded)
    × ((link : LinkId ToLedger) → l.fn.requests.items ≡ fresh_from link 1 (length l.fn.answers.items)
    → l.clients.items ≡ made_clients l.system link 1 (map (λ p. p.1.link) l.yielded))

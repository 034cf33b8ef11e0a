-- What arrives at a subscriber of a run, one delivery after another.
use Rattle.cdc_run_command.proofs.Words.{List, Received, Some, [], ap, append_assoc, arrival_after, arrived_from, drop, max, sym, ℕ, ◌++◌, ◌+◌, ◌∙◌, ◌∷◌, ◌≡◌}
use Rattle.std.specs.List.{slice_get}
use Rattle.cdc_deliveries.specs.declared.arrivals.Arrival.{Arrival}
use Rattle.cdc_deliveries.proofs.Walks.{drop_found}

-- with one more, what has arrived and what is left make the same as before
pub one_arrives : (received : List Received) (place furthest : ℕ) (delivery : Received) (old new whole : List Arrival)
    → slice_get received place ≡ Some delivery → new ≡ old ++ arrival_after furthest delivery ∷ []
    → old ++ arrived_from furthest (drop place received) ≡ whole
    → new ++ arrived_from (max furthest delivery.position) (drop (place + 1) received) ≡ whole
one_arrives received place furthest delivery old new whole found adds before =
    let rest : List Arrival = arrived_from (max furthest delivery.position) (drop (place + 1) received) in
    ap (λ (l : List Arrival). l ++ rest) adds
    ∙ append_assoc old (arrival_after furthest delivery ∷ []) rest
    ∙ ap (λ (ds : List Received). old ++ arrived_from furthest ds) (sym (drop_found received place delivery found))
    ∙ before

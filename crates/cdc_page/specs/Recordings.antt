-- The steps of a simulation in the data of a page.
use Rattle.std.specs.Prelude.{◌≡◌, ℕ, List, [], ◌∷◌, ◌++◌, codes, drop, length}
use Rattle.cdc_commands.specs.Seen.{Seen}
use Rattle.cdc_ledger.specs.Events.{events}
use Rattle.cdc_match.specs.Arguments.{Arguments}
use Rattle.cdc_page.specs.Events.{events_json}
use Rattle.cdc_page.specs.Moves.{moved_json}
use Rattle.cdc_page.specs.Steps.{did_name, step_json}

-- how many events the ledger has logged after a step
abbrev pub logged_with : Seen → ℕ
logged_with seen = length (events seen.history)

-- a step, its answer, and what it moved
abbrev pub front_json : Seen → List ℕ
front_json seen =
    codes ",\n{\"step\":" ++ (step_json seen.step ++ (codes ",\"did\":\"" ++ (did_name seen.did
    ++ (codes "\",\"moved\":" ++ moved_json seen.moved))))

-- the events that the ledger logged in a step, if it had n before; place 0 of the array is null
abbrev pub logged_json : List Arguments → ℕ → Seen → List ℕ
logged_json bindings n seen =
    codes ",\"logged\":" ++ (codes "[null" ++ (events_json bindings (drop n (events seen.history)) ++ codes "]}"))

-- a step as an object
abbrev pub entry_json : List Arguments → ℕ → Seen → List ℕ
entry_json bindings n seen = front_json seen ++ logged_json bindings n seen

-- steps, each after a comma; the ledger had logged n events before them
abbrev pub steps_after : List Arguments → ℕ → List Seen → List ℕ
steps_after bindings n [] = []
steps_after bindings n (seen ∷ rest) = entry_json bindings n seen ++ steps_after bindings (logged_with seen) rest

-- how many events the ledger has logged after steps, if it had n before
abbrev pub logged_after : ℕ → List Seen → ℕ
logged_after n [] = n
logged_after n (seen ∷ rest) = logged_after (logged_with seen) rest

-- the steps of a simulation from the first one on, for subscribers of these bindings
abbrev pub steps_json : List Arguments → List Seen → List ℕ
steps_json bindings seen = steps_after bindings 0 seen

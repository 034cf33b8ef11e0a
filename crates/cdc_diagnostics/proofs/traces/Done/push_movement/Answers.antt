use Rattle.cdc_diagnostics.proofs.Words.{Event, List, Moved, Option, Some, after_comma, ap, append_assoc, codes, event_at, event_moved, events, money_at, movement_of, movement_text, option_map, sym, ℕ, ◌++◌, ◌∙◌, ◌≡◌}
use Rattle.std.specs.Option.{option_and_then}
use Rattle.cdc_diagnostics.specs.declared.movements.Movement.{Movement}
use Rattle.cdc_diagnostics.proofs.traces.Done.push_movement.Goals as goal

-- what was moved is an event that has this movement
moves : (all : List Event) (moved : Option Moved) (some : Moved) (timestamp : ℕ) (movement : Movement)
    → moved ≡ Some some → Some timestamp ≡ event_moved some
    → Some movement ≡ option_map movement_of (event_at timestamp all)
    → money_at all (option_and_then event_moved moved) ≡ codes ", " ++ movement_text movement
moves all moved some timestamp movement is named found =
    ap (λ (m : Option Moved). money_at all (option_and_then event_moved m)) is
    ∙ (ap (money_at all) (sym named) ∙ ap after_comma (sym found))

pub returns-in-Some-at : goal.returns-in-Some-at
returns-in-Some-at c bytes held kept =
    let comma : List ℕ = bytes ++ codes ", " in
    let all = c.push_to.ensures comma (c.push.ensures.holds bytes held) kept in
    all ∙ (append_assoc bytes (codes ", ") (movement_text c.in-Some-at.movement)
    ∙ ap (λ (money : List ℕ). bytes ++ money) (sym (moves (events c.args.self.ledger.now) c.args.self.moved
    c.in-Some.moved
    c.in-Some-event_moved.timestamp c.in-Some-at.movement c.in-Some.is c.in-Some-event_moved.ensures
    c.in-Some-at.ensures)))

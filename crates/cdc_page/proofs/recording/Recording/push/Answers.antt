use Rattle.std.proofs.Common.{◌∙◌, ◌++◌, List, ℕ, ap, append_assoc, refl}
use Rattle.cdc_commands.specs.Seen.{Seen}
use Rattle.cdc_match.specs.Arguments.{Arguments}
use Rattle.cdc_page.specs.Recordings.{front_json, logged_json}
use Rattle.cdc_page.proofs.recording.Recording.push.Goals as goal

-- a step and what it moved, then what the ledger logged in it
pub returns-clause-steps : goal.returns-clause-steps
returns-clause-steps c =
    let now : Seen = record {
      step = c.args.step.now;
      did = c.args.did.now;
      moved = c.args.moved;
      history = c.args.ledger.now;
    } in
    let old = c.args.self.now in
    c.in_ok-push_logged.ensures now refl
    ∙ ap (λ (bindings : List Arguments). c.push_front.new.page.items ++ logged_json bindings old.logged now)
    c.as_slice.ensures.value
    ∙ ap (λ (text : List ℕ). text ++ logged_json old.bindings.items old.logged now)
    (c.in_ok-push_front.ensures now refl refl refl)
    ∙ append_assoc old.steps.items (front_json now) (logged_json old.bindings.items old.logged now)

-- A recording after one more step.
use Rattle.std.proofs.Common.{◌≡◌, ◌∙◌, ℕ, List, [], ◌∷◌, ◌++◌, ap, sym}
use Rattle.cdc_commands.specs.Seen.{Seen}
use Rattle.cdc_page.specs.declared.recording.Recording.{Recording}
use Rattle.cdc_page.specs.Recordings.{entry_json, logged_after, logged_with, steps_json}
use Rattle.cdc_page.proofs.OneMoreStep.{logged_after-more, steps_after-more}

-- it has just the steps before and this one
pub step_recorded : (old new : Recording) (seen : List Seen) (s : Seen) → new.bindings ≡ old.bindings
    → new.steps.items ≡ old.steps.items ++ entry_json old.bindings.items old.logged s → new.logged ≡ logged_with s
    → (old.steps.items ≡ steps_json old.bindings.items seen) × (old.logged ≡ logged_after 0 seen)
    → (new.steps.items ≡ steps_json new.bindings.items (seen ++ s ∷ [])) × (new.logged ≡ logged_after 0 (seen ++ s ∷ []))
step_recorded old new seen s same steps logged has = (
  rw same (steps
      ∙ ap (λ (text : List ℕ). text ++ entry_json old.bindings.items old.logged s) has.0
      ∙ ap (λ (n : ℕ). steps_json old.bindings.items seen ++ entry_json old.bindings.items n s) has.1
      ∙ sym (steps_after-more old.bindings.items 0 seen s)),
  logged ∙ sym (logged_after-more 0 seen s),
)

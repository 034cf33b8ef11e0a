-- How the data of a page grows with one more step.
use Rattle.std.proofs.Common.{◌≡◌, ◌∙◌, ℕ, List, [], ◌∷◌, ◌++◌, ap, append-nil, append_assoc, refl, sym}
use Rattle.cdc_commands.specs.Seen.{Seen}
use Rattle.cdc_match.specs.Arguments.{Arguments}
use Rattle.cdc_page.specs.Recordings.{entry_json, logged_after, logged_with, steps_after}

-- one more step is one more object
pub steps_after-more : (bindings : List Arguments) (n : ℕ) (seen : List Seen) (s : Seen)
    → steps_after bindings n (seen ++ s ∷ [])
    ≡ steps_after bindings n seen ++ entry_json bindings (logged_after n seen) s
steps_after-more bindings n [] s = append-nil (entry_json bindings n s)
steps_after-more bindings n (x ∷ seen) s =
    ap (λ (rest : List ℕ). entry_json bindings n x ++ rest) (steps_after-more bindings (logged_with x) seen s)
    ∙ sym (append_assoc (entry_json bindings n x) (steps_after bindings (logged_with x) seen)
    (entry_json bindings (logged_after (logged_with x) seen) s))

-- how many events are logged after it
pub logged_after-more : (n : ℕ) (seen : List Seen) (s : Seen) → logged_after n (seen ++ s ∷ []) ≡ logged_with s
logged_after-more n [] s = refl
logged_after-more n (x ∷ seen) s = logged_after-more (logged_with x) seen s

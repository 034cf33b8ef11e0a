-- How what is kept of a world goes on when a step is tried.
use Rattle.std.specs.Prelude.{◌≡◌, ℕ, Bool, true, false, if◌then◌else◌, List, ◌∷◌, [], ◌++◌, drop, Ok, Err}
use Rattle.cdc_script.specs.declared.step_files.Act.{Act}
use Rattle.cdc_types.specs.declared.steps.Step.{Step}
use Rattle.cdc_world.specs.Next.{Outcome, next}
use Rattle.cdc_world.specs.Parts.{Parts}
use Rattle.cdc_world.specs.Stands.{Stands}
use Rattle.cdc_world.specs.Worlds.{WorldState}
use Rattle.cdc_enabled_steps.specs.Enabled.{Trial, after_trial}

-- what a step that is tried leads to: it is done, or it is refused and the world stays
abbrev pub IsTried : Outcome → Bool → WorldState → WorldState → Type 0
IsTried (Ok did) done before after = (done ≡ true) × (after ≡ did.1)
IsTried (Err why) done before after = (done ≡ false) × (after ≡ before)

-- a step is tried
abbrev pub TriesStep : Step → Bool → Parts → Parts → Type 0
TriesStep step done old new = (w : WorldState) → Stands old w
    → (after : WorldState) × (Stands new after × IsTried (next w step) done w after)

-- an act is tried, where so many of these submissions were made before it, and so many after it
abbrev pub TriesAct : List Step → Act → Bool → Parts → ℕ → Parts → ℕ → Type 0
TriesAct submissions a done old made new made_then = (trial : Trial) → Stands old trial.world
    → trial.left ≡ drop made submissions → (after : Trial) × (Stands new after.world
    × ((after.left ≡ drop made_then submissions) × ((after_trial trial a ≡ after)
    × (after.done ≡ (if done then trial.done ++ a ∷ [] else trial.done)))))

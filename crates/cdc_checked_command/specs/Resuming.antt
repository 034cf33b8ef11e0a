-- How checked following goes on from a saved state.
use Rattle.std.specs.Prelude.{◌≡◌, ◌⊎◌, ℕ, List, true}
use Rattle.cdc_files.specs.declared.errors.StoreError.{StoreError}
use Rattle.cdc_files.specs.declared.errors.StoreError.TheVariants.{BadRecord, OutOfMemory}
use Rattle.cdc_match.specs.Arguments.{Arguments}
use Rattle.cdc_bindings.specs.Bindings.{is_of}
use Rattle.cdc_checked_follow.specs.Checking.{CheckedState}
use Rattle.cdc_checked_follow.specs.Standing.{CheckedFollowerState, StandsFor}
use Rattle.cdc_checked_state.specs.declared.saved.SavedState.{SavedState}
use Rattle.cdc_checked_state.specs.Logs.{CanBeReplayed, IsLogText, IsRead}
use Rattle.cdc_checked_state.specs.Saveable.{CanBeSaved}

-- a follower goes on from a text: that of a log, with a torn end perhaps, of a binding that means the same as this one
abbrev pub IsResumed : Arguments → List ℕ → CheckedFollowerState → Type 0
IsResumed binding text follower =
    (saved : SavedState) × IsRead binding text saved × (is_of binding saved.binding.items ≡ true)
    × (follower ≡ saved.follower)

-- a text is that of no log of states that can be saved, of a binding that means the same as this one, whose records can
-- be replayed
abbrev pub IsNoLog : Arguments → List ℕ → Type 0
IsNoLog binding text =
    (saved : List ℕ) (base : CheckedFollowerState) (records : List (List ℕ)) (torn : List ℕ) (state : CheckedState)
    → is_of binding saved ≡ true → CanBeSaved saved base → StandsFor binding base state
    → CanBeReplayed state records torn → ¬ IsLogText text saved base records torn

-- a text isn't resumed because memory runs out, or because it is none of those
abbrev pub IsRefused : Arguments → List ℕ → StoreError → Type 0
IsRefused binding text error = (error ≡ OutOfMemory) ⊎ ((error ≡ BadRecord) × IsNoLog binding text)

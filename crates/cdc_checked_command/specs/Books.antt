-- What is kept of checked following, and how a later run goes on from it.
use Rattle.std.specs.Prelude.{◌≡◌, ℕ, List, Option}
use Rattle.cdc_streams.specs.Keeping.{AddsTexts}
use Rattle.cdc_checked_follow.specs.Standing.{CheckedFollowerState}
use Rattle.cdc_checked_state.specs.Logs.{Replays, log_text}
use Rattle.cdc_checked_command.specs.declared.books.CheckedLog.{CheckedLog}
use Rattle.cdc_checked_command.specs.declared.checkers.BoundFollower.{BoundFollower}
use Rattle.cdc_checked_command.specs.declared.checkers.CheckSetup.{CheckSetup}

-- a text is that of a log of this binding, whose replay is this follower
abbrev pub IsTextOf : List ℕ → BoundFollower → Type 0
IsTextOf text it =
    (base : CheckedFollowerState) × (records : List (List ℕ)) × (text ≡ log_text it.binding_text.items base records)
    × Replays it.binding base records it.follower

-- one log came from another, and meanwhile the store held the texts of logs of these, one after another
abbrev pub HasLogged : {L : Type 0} → (L → Option (List (List ℕ))) → CheckSetup → CheckedLog L → CheckedLog L
    → List BoundFollower → Type 0
HasLogged texts setup old new states = AddsTexts IsTextOf (texts old.log.store) (texts new.log.store) states

-- The log of a checked follower's state: frames, of which the first contains the text of a state, the base, and each
-- later one the lines that were followed since the one before. Read back, these lines are followed again. Refused
-- events are skipped, as they were.
use Rattle.std.specs.Prelude.{◌≡◌, ◌⊎◌, ◌<◌, ◌≤◌, ◌+◌, ◌^◌, ℕ, true, List, [], ◌∷◌, ◌++◌, codes, fold, length, take}
use Rattle.cdc_frames.specs.Frames.{BeginsNoFrame, frames}
use Rattle.cdc_match.specs.Arguments.{Arguments}
use Rattle.cdc_checked_follow.specs.declared.streams.CheckStop.TheVariants.{AtEnd}
use Rattle.cdc_checked_follow.specs.Checking.{CheckedState, bytes_checked}
use Rattle.cdc_checked_follow.specs.Standing.{CheckedFollowerState, StandsFor}
use Rattle.cdc_checked_state.specs.declared.saved.SavedState.{SavedState}
use Rattle.cdc_checked_state.specs.States.{state_text}

-- what each frame begins with: the first line of a log is "checked-book 0 bytes ..", and that of a state
-- "checked-book 1 applied .."
abbrev pub log_name : List ℕ
log_name = codes "checked-book"

-- the text of a log, with the text of the binding
abbrev pub log_text : List ℕ → CheckedFollowerState → List (List ℕ) → List ℕ
log_text binding base records = frames log_name 0 (state_text binding base ∷ records)

-- a text is that of a log, and then a torn end, with which no whole frame begins
abbrev pub IsLogText : List ℕ → List ℕ → CheckedFollowerState → List (List ℕ) → List ℕ → Type 0
IsLogText text binding base records torn =
    (text ≡ log_text binding base records ++ torn) × BeginsNoFrame log_name (length records + 1) torn

-- what was followed after the bytes of records, one after another
abbrev pub checked_all : CheckedState → List (List ℕ) → CheckedState
checked_all state records = fold (λ so_far bytes. (bytes_checked true so_far bytes).state) state records

-- each record is followed up to its end
abbrev pub AreWhole : CheckedState → List (List ℕ) → Type 0
AreWhole state [] = Unit {0}
AreWhole state (bytes ∷ more) =
    ((bytes_checked true state bytes).stop ≡ AtEnd) × AreWhole (bytes_checked true state bytes).state more

-- so is each but the last one, which may be followed in part
abbrev pub AreWholeButLast : CheckedState → List (List ℕ) → Type 0
AreWholeButLast state [] = Unit {0}
AreWholeButLast state (bytes ∷ []) = Unit {0}
AreWholeButLast state (bytes ∷ next ∷ more) =
    ((bytes_checked true state bytes).stop ≡ AtEnd)
    × AreWholeButLast (bytes_checked true state bytes).state (next ∷ more)

-- the records are followed; or nothing comes after them, and the last one is followed in part
abbrev pub CanBeReplayed : CheckedState → List (List ℕ) → List ℕ → Type 0
CanBeReplayed state records torn = AreWhole state records ⊎ (AreWholeButLast state records × (torn ≡ []))

-- whatever the base stood for, the records are followed after it, and the follower stands for what that comes to
abbrev pub Replays : Arguments → CheckedFollowerState → List (List ℕ) → CheckedFollowerState → Type 0
Replays taking base records follower =
    (state : CheckedState) → StandsFor taking base state
    → AreWhole state records × StandsFor taking follower (checked_all state records)

-- A saved state is read of this text, which is that of a log. Of the last record it may have taken only the lines
-- before one that isn't an entry: a crash may leave other bytes between the two lines of the last frame.
pub record IsRead (taking : Arguments) (text : List ℕ) (saved : SavedState) : Type 0 where
  pub base : CheckedFollowerState
  pub records : List (List ℕ)
  pub torn : List ℕ
  pub text_is : IsLogText text saved.binding.items base records torn
  pub followed : (state : CheckedState) → StandsFor taking base state
      → AreWholeButLast state records × StandsFor taking saved.follower (checked_all state records)

-- a log is cut after n bytes: the records that ended before the cut are kept, and what is left of the next one is torn
pub record IsCut (binding : List ℕ) (base : CheckedFollowerState) (records : List (List ℕ)) (n : ℕ) : Type 0 where
  pub kept : List (List ℕ)
  pub lost : List (List ℕ)
  pub torn : List ℕ
  pub parted : records ≡ kept ++ lost
  pub text_is : IsLogText (take n (log_text binding base records)) binding base kept torn
  pub next : (first : List ℕ) (others : List (List ℕ)) → lost ≡ first ∷ others
      → n < length (log_text binding base (kept ++ first ∷ []))

-- so it is wherever a log is cut, after its base
abbrev pub LogsCanBeCut : Type 0
LogsCanBeCut = (binding : List ℕ) (base : CheckedFollowerState) (records : List (List ℕ)) (n : ℕ)
    → length (log_text binding base records) < 2 ^ 64 → length (log_text binding base []) ≤ n
    → IsCut binding base records n

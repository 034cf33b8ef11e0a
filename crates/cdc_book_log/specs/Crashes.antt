-- A follower that keeps a log: what a crash leaves of it, wherever it cuts the text.
use Rattle.std.specs.Prelude.{◌≡◌, ◌≤◌, ◌<◌, ◌^◌, ℕ, List, [], ◌∷◌, ◌++◌, Bool, length, take}
use Rattle.std.specs.List.{AllByRecursion, flat_map}
use Rattle.cdc_match.specs.Arguments.{Arguments}
use Rattle.cdc_follow.specs.declared.entries.Entry.{Entry}
use Rattle.cdc_follow.specs.Following.{FollowState, follow_all}
use Rattle.cdc_follow.specs.Saved.{CanBeSaved, book_text}
use Rattle.cdc_follow.specs.Widths.{ContentFits}
use Rattle.cdc_frames.specs.Frames.{frame}
use Rattle.cdc_book_log.specs.Logs.{CanBeLogged, IsLogText, IsRead, log_name, log_text}
use Rattle.cdc_book_log.specs.Replay.{changes_by, replay}
use Rattle.cdc_book_log.specs.declared.logs.SavedLog.{SavedLog}

-- the text of the log of a follower that saved after each of these lists of entries
abbrev pub logged : Arguments → Bool → List ℕ → FollowState → List (List Entry) → List ℕ
logged binding chained name state saves = log_text chained name state (changes_by binding state saves)

-- what is left if that text is cut after n bytes: the log of the first saves, of those that end at or before the cut.
-- A reader reads it, and its follower is the one of the last of these saves.
pub record IsAfterCrash (binding : Arguments) (chained : Bool) (name : List ℕ) (state : FollowState)
    (saves : List (List Entry)) (n : ℕ) : Type 0 where
  pub done : List (List Entry)
  pub lost : List (List Entry)
  pub torn : List ℕ
  pub parted : saves ≡ done ++ lost
  pub text_is : IsLogText (take n (logged binding chained name state saves)) chained name state
      (changes_by binding state done) torn
  pub fits : CanBeLogged name state (changes_by binding state done)
  pub follower_is : replay state (changes_by binding state done)
      ≡ follow_all binding state (flat_map (λ entries. entries) done)
  pub ended : length (logged binding chained name state done) ≤ n
  pub next : (one : List Entry) (others : List (List Entry)) → lost ≡ one ∷ others
      → n < length (logged binding chained name state (done ++ one ∷ []))

-- a crash that leaves the base loses nothing of what was saved
abbrev pub CrashesKeepSaves : Type 0
CrashesKeepSaves = (binding : Arguments) (chained : Bool) (name : List ℕ) (state : FollowState)
    (saves : List (List Entry)) (n : ℕ) → CanBeSaved name state
    → AllByRecursion (AllByRecursion (λ entry. ContentFits entry.content)) saves
    → length (logged binding chained name state saves) < 2 ^ 64
    → length (frame log_name 0 (book_text chained name state)) ≤ n
    → IsAfterCrash binding chained name state saves n

-- a crash that cuts the base leaves nothing that is read as a log
abbrev pub CutBasesAreNotRead : Type 0
CutBasesAreNotRead = (chained : Bool) (name : List ℕ) (base : FollowState) (changes : List FollowState) (n : ℕ)
    (log : SavedLog) → length (log_text chained name base changes) < 2 ^ 64
    → n < length (frame log_name 0 (book_text chained name base))
    → IsRead (take n (log_text chained name base changes)) log → ⊥

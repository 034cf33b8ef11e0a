-- The log of a follower's book: frames, of which the first contains the text of a saved book, the base, and each later
-- one that of a book which has only the accounts that changed since the one before, and the place in the stream.
use Rattle.std.specs.Prelude.{◌≡◌, ℕ, List, ◌∷◌, Bool, codes, length, map}
use Rattle.std.specs.List.{AllByRecursion}
use Rattle.cdc_follow.specs.Following.{FollowState}
use Rattle.cdc_follow.specs.Saved.{CanBeSaved, book_text}
use Rattle.cdc_frames.specs.Frames.{frames}
use Rattle.cdc_frames.specs.Records.{AreRead, AreRecords}
use Rattle.cdc_book_log.specs.Replay.{replay}
use Rattle.cdc_book_log.specs.declared.logs.SavedLog.{SavedLog}

-- what each frame begins with: the first line of a log is "book 0 bytes ..", and that of a book "book 1 chained .."
abbrev pub log_name : List ℕ
log_name = codes "book"

-- the text of a log
abbrev pub log_text : Bool → List ℕ → FollowState → List FollowState → List ℕ
log_text chained binding base changes = frames log_name 0 (map (book_text chained binding) (base ∷ changes))

-- A text is that of a log, with all its records, and then a torn end. This is no frame, or a last one that contains no
-- book of this stream and binding.
abbrev pub IsLogText : List ℕ → Bool → List ℕ → FollowState → List FollowState → List ℕ → Type 0
IsLogText text chained binding base changes torn =
    AreRecords log_name (book_text chained binding) 0 text (base ∷ changes) torn

-- what is read is this log: its follower, how many records it has, and how many bytes precede the torn end
pub record IsLog (log : SavedLog) (chained : Bool) (binding : List ℕ) (base : FollowState) (changes : List FollowState)
    : Type 0 where
  pub chained_is : log.chained ≡ chained
  pub binding_is : log.binding.items ≡ binding
  pub follower_is : log.follower ≡ replay base changes
  pub records_are : log.records ≡ length changes
  pub whole_is : log.whole ≡ length (log_text chained binding base changes)

-- A text is that of the log that is read, and then a torn end. A frame of the torn end contains no book of this stream
-- and binding that can be saved.
pub record IsRead (text : List ℕ) (log : SavedLog) : Type 0 where
  pub base : FollowState
  pub changes : List FollowState
  pub torn : List ℕ
  pub text_is : AreRead log_name (CanBeSaved log.binding.items) (book_text log.chained log.binding.items) 0 text
      (base ∷ changes) torn
  pub log_is : IsLog log log.chained log.binding.items base changes

-- the states of a log can be saved
abbrev pub CanBeLogged : List ℕ → FollowState → List FollowState → Type 0
CanBeLogged binding base changes = CanBeSaved binding base × AllByRecursion (CanBeSaved binding) changes

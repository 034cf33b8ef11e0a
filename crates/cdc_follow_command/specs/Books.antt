-- A follower's book: what is kept of it, and how a later run goes on from it.
use Rattle.std.specs.Prelude.{◌≡◌, ◌≢◌, ◌⊎◌, ℕ, Bool, true, false, List, Option, Some, None}
use Rattle.std.specs.Prelude.{nat_eq, unwrap_or}
use Rattle.cdc_files.specs.declared.errors.StoreError.{StoreError}
use Rattle.cdc_match.specs.Arguments.{Arguments}
use Rattle.cdc_files.specs.declared.errors.StoreError.TheVariants.{BadRecord, OutOfMemory}
use Rattle.cdc_follow.specs.Following.{FollowState}
use Rattle.cdc_follow.specs.Laws.{begins}
use Rattle.cdc_follow.specs.Saved.{CanBeSaved, book_text}
use Rattle.cdc_book_log.specs.Logs.{CanBeLogged, IsLogText, IsRead, log_text}
use Rattle.cdc_book_log.specs.Replay.{replay}
use Rattle.cdc_book_log.specs.declared.logs.SavedLog.{SavedLog}
use Rattle.cdc_streams.specs.Keeping.{AddsTexts}
use Rattle.cdc_bindings.specs.Bindings.{is_of}
use Rattle.cdc_follow_command.specs.declared.followers.Followed.{Followed}
use Rattle.cdc_follow_command.specs.declared.books.BookLog.{BookLog}
use Rattle.cdc_follow_command.specs.declared.books.ResumeError.{ResumeError}
use Rattle.cdc_follow_command.specs.declared.books.ResumeError.TheVariants.{Store, Elsewhere}
use Rattle.cdc_follow_command.specs.declared.followers.FollowSetup.{FollowSetup}

-- a text is that of a log of this follower's book: a base, and the changes of the saves after it
abbrev pub IsLogOf : Bool → List ℕ → FollowState → List ℕ → Type 0
IsLogOf chained binding state text =
    (base : FollowState) × (changes : List FollowState) × (text ≡ log_text chained binding base changes)
    × (replay base changes ≡ state)

-- a text is that of a log of this follower's book
abbrev pub IsTextOf : FollowSetup → List ℕ → Followed → Type 0
IsTextOf setup text it = IsLogOf setup.rules.chained setup.binding_text.items it.follower text

-- one log came from another, and meanwhile the store held the texts of logs of these, one after another
abbrev pub HasLogged : {L : Type 0} → (L → Option (List (List ℕ))) → FollowSetup → BookLog L → BookLog L
    → List Followed → Type 0
HasLogged texts setup old new states = AddsTexts (IsTextOf setup) (texts old.log.store) (texts new.log.store) states

-- a follower goes on from a text: that of a log, with a torn end perhaps, or that of a book alone, of a binding that
-- means the same as this one
abbrev pub IsResumed : Bool → Arguments → List ℕ → FollowState → Type 0
IsResumed chained binding text state =
    ((saved : List ℕ) × (is_of binding saved ≡ true) × (text ≡ book_text chained saved state))
    ⊎ ((log : SavedLog) × IsRead text log × (log.chained ≡ chained) × (is_of binding log.binding.items ≡ true)
    × (log.follower ≡ state))

-- a text is that of no book that can be saved, of such a stream and a binding that means the same as this one
abbrev pub IsNoBook : Bool → Arguments → List ℕ → Type 0
IsNoBook chained binding text = (saved : List ℕ) (state : FollowState) → is_of binding saved ≡ true
    → CanBeSaved saved state → text ≢ book_text chained saved state

-- nor of a log of such books
abbrev pub IsNoLog : Bool → Arguments → List ℕ → Type 0
IsNoLog chained binding text =
    (saved : List ℕ) (base : FollowState) (changes : List FollowState) (torn : List ℕ) → is_of binding saved ≡ true
    → CanBeLogged saved base changes → ¬ IsLogText text chained saved base changes torn

-- a text isn't resumed because memory runs out, or because it is neither
abbrev pub IsRefused : Bool → Arguments → List ℕ → StoreError → Type 0
IsRefused chained binding text error =
    (error ≡ OutOfMemory) ⊎ ((error ≡ BadRecord) × IsNoBook chained binding text × IsNoLog chained binding text)

-- a follower that begins after the event of this timestamp, if there is one: it has applied nothing, and that event is
-- the last one seen
abbrev pub begins_after : Option ℕ → FollowState
begins_after after = record begins { seen = unwrap_or after 0 }

-- following may begin after the last event seen, if it is to begin after that of this timestamp
abbrev pub is_at : Option ℕ → ℕ → Bool
is_at None seen = true
is_at (Some timestamp) seen = nat_eq seen timestamp

-- a follower is where following is to begin
abbrev pub IsAt : Option ℕ → FollowState → Type 0
IsAt after state = is_at after state.seen ≡ true

-- a text isn't resumed, or its follower isn't where following is to begin
abbrev pub IsRefusedAt : Bool → Arguments → List ℕ → Option ℕ → ResumeError → Type 0
IsRefusedAt chained binding text after (Store error) = IsRefused chained binding text error
IsRefusedAt chained binding text after (Elsewhere seen) = (state : FollowState) × IsResumed chained binding text state
    × (state.seen ≡ seen) × (is_at after seen ≡ false)

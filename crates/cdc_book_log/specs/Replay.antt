-- Replaying the records of a log: each record has the accounts that changed since the one before, and the place.
use Rattle.std.specs.Prelude.{◌≡◌, List, [], ◌∷◌, fold}
use Rattle.std.specs.List.{flat_map}
use Rattle.cdc_match.specs.Arguments.{Arguments}
use Rattle.cdc_subscriber.specs.declared.book.BookEntry.{BookEntry}
use Rattle.cdc_subscriber.specs.Book.{put}
use Rattle.cdc_follow.specs.declared.entries.Entry.{Entry}
use Rattle.cdc_follow.specs.Following.{FollowState, follow_all}

-- accounts that are put into a book, one after another: each takes the place of the one with its number, or comes last
abbrev pub put_all : List BookEntry → List BookEntry → List BookEntry
put_all changed book = fold (λ b entry. put entry b) book changed

-- a follower after the changes that a record has: its accounts are put into the book, and all else is the record's
abbrev pub with_changes : FollowState → FollowState → FollowState
with_changes state change =
    record change { kept = record change.kept { book = put_all change.kept.book state.kept.book } }

-- the follower of a base and of the records after it
abbrev pub replay : FollowState → List FollowState → FollowState
replay base changes = fold with_changes base changes

-- a follower at the same place, with an empty book
abbrev pub emptied : FollowState → FollowState
emptied state = record state { kept = record state.kept { book = [] } }

-- what changes by entries: what a follower at this place, with an empty book, makes of them
abbrev pub change_by : Arguments → FollowState → List Entry → FollowState
change_by binding state entries = follow_all binding (emptied state) entries

-- the records of a follower that saves after each of these lists of entries
abbrev pub changes_by : Arguments → FollowState → List (List Entry) → List FollowState
changes_by binding state [] = []
changes_by binding state (entries ∷ later) =
    change_by binding state entries ∷ changes_by binding (follow_all binding state entries) later

-- such a record makes of the follower what the entries make of it
abbrev pub ChangesReplay : Type 0
ChangesReplay = (binding : Arguments) (state : FollowState) (entries : List Entry)
    → with_changes state (change_by binding state entries) ≡ follow_all binding state entries

-- and all the records make of it what all the entries make of it
abbrev pub SavesReplay : Type 0
SavesReplay = (binding : Arguments) (state : FollowState) (saves : List (List Entry))
    → replay state (changes_by binding state saves) ≡ follow_all binding state (flat_map (λ entries. entries) saves)

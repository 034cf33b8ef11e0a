-- What is kept of a book: in a log, or in rows.
use Rattle.std.specs.Prelude.{◌≡◌, List, [], ◌∷◌, ◌++◌, Some}
use Rattle.std.specs.Option.{option_map}
use Rattle.cdc_subscriber.specs.Book.{entries_of}
use Rattle.cdc_follow.specs.Following.{FollowState}
use Rattle.cdc_follow.specs.Saved.{book_text}
use Rattle.cdc_book_log.specs.Replay.{emptied}
use Rattle.cdc_sqlite_book.specs.Tables.{rows_mark}
use Rattle.cdc_follow_command.specs.declared.books.BookLog.{BookLog}
use Rattle.cdc_follow_command.specs.declared.followers.Followed.{Followed}
use Rattle.cdc_follow_command.specs.declared.followers.FollowSetup.{FollowSetup}
use Rattle.cdc_app_streams.specs.declared.kept_book.KeptBook.{KeptBook}
use Rattle.cdc_app_streams.specs.declared.kept_book.KeptBook.TheVariants.{Log, Rows}
use Rattle.cdc_app_streams.specs.declared.kept_book.RowBook.{RowBook}

-- this holds of the last of these, if there is one
abbrev pub OfLast : {S : Type 0} → (S → Type 0) → List S → Type 0
OfLast Holds [] = Unit {0}
OfLast Holds (state ∷ []) = Holds state
OfLast Holds (state ∷ later) = OfLast Holds later

-- the store of rows has last saved this follower: the mark and the text of its book without accounts, and its accounts
abbrev pub HoldsFollower : FollowSetup → RowBook → FollowState → Type 0
HoldsFollower setup rows state =
    (option_map (λ text. text.items) rows.book.known
    ≡ Some (rows_mark ++ book_text setup.rules.chained setup.binding_text.items (emptied state)))
    × (entries_of rows.book.accounts.entries ≡ state.kept.book)

abbrev pub HoldsBook : FollowSetup → RowBook → Followed → Type 0
HoldsBook setup rows it = HoldsFollower setup rows it.follower

-- two stores of rows have last saved the same
abbrev pub HoldSame : RowBook → RowBook → Type 0
HoldSame old new =
    (new.book.known ≡ old.book.known) × (new.book.accounts.entries ≡ old.book.accounts.entries)

-- a store of rows came from another one, and was given these books meanwhile; it holds the last one
abbrev pub HasKeptRows : FollowSetup → RowBook → RowBook → List Followed → Type 0
HasKeptRows setup old new states = OfLast (HoldsBook setup new) states

-- what was kept meanwhile, in a log or in rows
abbrev pub HasKeptIn : {L Q : Type 0} → (BookLog L → BookLog L → List Followed → Type 0)
    → (Q → Q → List Followed → Type 0) → KeptBook L Q → KeptBook L Q → List Followed → Type 0
HasKeptIn InLog InRows (Log old) (Log new) states = InLog old new states
HasKeptIn InLog InRows (Rows old) (Rows new) states = InRows old new states
HasKeptIn InLog InRows old new states = ⊥

-- what fits a log, or rows
abbrev pub FitsIn : {L Q : Type 0} → (BookLog L → Type 0) → (Q → Type 0) → KeptBook L Q → Type 0
FitsIn InLog InRows (Log book) = InLog book
FitsIn InLog InRows (Rows book) = InRows book

-- nothing was kept yet
pub none_kept : {L Q : Type 0} (InLog : BookLog L → BookLog L → List Followed → Type 0)
    (InRows : Q → Q → List Followed → Type 0) → ((log : BookLog L) → InLog log log [])
    → ((rows : Q) → InRows rows rows []) → (it : KeptBook L Q) → HasKeptIn InLog InRows it it []
none_kept InLog InRows in_log in_rows (Log log) = in_log log
none_kept InLog InRows in_log in_rows (Rows rows) = in_rows rows

-- what fits each log and all rows fits
pub fits_all : {L Q : Type 0} (InLog : BookLog L → Type 0) (InRows : Q → Type 0)
    → ((log : BookLog L) → InLog log) → ((rows : Q) → InRows rows) → (it : KeptBook L Q) → FitsIn InLog InRows it
fits_all InLog InRows in_log in_rows (Log log) = in_log log
fits_all InLog InRows in_log in_rows (Rows rows) = in_rows rows

-- what fits either fits still
pub fits_still : {L Q : Type 0} (InLog LaterInLog : BookLog L → Type 0) (InRows LaterInRows : Q → Type 0)
    → ((log : BookLog L) → InLog log → LaterInLog log) → ((rows : Q) → InRows rows → LaterInRows rows)
    → (it : KeptBook L Q) → FitsIn InLog InRows it → FitsIn LaterInLog LaterInRows it
fits_still InLog LaterInLog InRows LaterInRows in_log in_rows (Log log) fits = in_log log fits
fits_still InLog LaterInLog InRows LaterInRows in_log in_rows (Rows rows) fits = in_rows rows fits

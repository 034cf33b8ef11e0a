-- How the parts of a saved book's text are read back. Nothing is stated about other texts.
use Rattle.std.specs.Prelude.{◌≡◌, ℕ, Bool, List, ◌++◌}
use Rattle.std.specs.List.{flat_map}
use Rattle.cdc_subscriber.specs.declared.book.BookEntry.{BookEntry}
use Rattle.cdc_subscriber.specs.Lines.{account_line}
use Rattle.cdc_follow.specs.declared.saved.Front.{Front}
use Rattle.cdc_follow.specs.Following.{FollowState}
use Rattle.cdc_follow.specs.Saved.{CanBeSaved, EntryFits, book_text}

-- if the text begins with the line of an account, that account is read, and the bytes after the line are left
abbrev pub ReadsAccount : List ℕ → BookEntry → List ℕ → Type 0
ReadsAccount text value left =
    (entry : BookEntry) (rest : List ℕ) → EntryFits entry → text ≡ account_line entry ++ rest
    → (value ≡ entry) × (left ≡ rest)

-- the parts are those of this book
pub record IsFront (front : Front) (chained : Bool) (binding : List ℕ) (state : FollowState) : Type 0 where
  pub chained_is : front.chained ≡ chained
  pub seen : front.seen ≡ state.seen
  pub binding_is : front.binding.now ≡ binding
  pub applied : front.applied ≡ state.kept.applied
  pub last : front.last ≡ state.kept.last
  pub ended : front.ended ≡ state.kept.ended
  pub closed : front.closed ≡ state.kept.closed
  pub accounts : front.accounts.now ≡ flat_map account_line state.kept.book

-- if the text is that of a book, its parts are read
abbrev pub ReadsFront : List ℕ → Front → Type 0
ReadsFront text front =
    (chained : Bool) (binding : List ℕ) (state : FollowState) → CanBeSaved binding state
    → text ≡ book_text chained binding state → IsFront front chained binding state

-- The text of a saved book: a heading, and then the lines that a subscriber prints.
use Rattle.std.specs.Prelude.{◌≡◌, ℕ, ◌<◌, ◌^◌, Bool, true, List, ◌++◌, codes}
use Rattle.std.specs.List.{AllByRecursion, list_all}
use Rattle.cdc_codec.specs.Texts.{flagged, is_in_line, named}
use Rattle.cdc_subscriber.specs.declared.book.BookEntry.{BookEntry}
use Rattle.cdc_subscriber.specs.Book.{are_distinct, ids_of}
use Rattle.cdc_subscriber.specs.Lines.{subscriber_text}
use Rattle.cdc_follow.specs.declared.saved.SavedBook.{SavedBook}
use Rattle.cdc_follow.specs.Following.{FollowState}

-- the version of the text, whether the stream is chained, the timestamp of the last event seen, and the binding
unfoldable pub heading : Bool → List ℕ → ℕ → List ℕ
heading chained binding seen =
    flagged (codes "book 1 chained") chained
    ++ (named (codes " seen") seen ++ (codes "\nbinding " ++ (binding ++ codes "\n")))

-- the whole text
unfoldable pub book_text : Bool → List ℕ → FollowState → List ℕ
book_text chained binding state = heading chained binding state.seen ++ subscriber_text 1 state.kept

-- the numbers of an account have their widths
pub record EntryFits (entry : BookEntry) : Type 0 where
  pub id : entry.id < 2 ^ 128
  pub debits_pending : entry.balances.debits_pending < 2 ^ 128
  pub debits_posted : entry.balances.debits_posted < 2 ^ 128
  pub credits_pending : entry.balances.credits_pending < 2 ^ 128
  pub credits_posted : entry.balances.credits_posted < 2 ^ 128

-- the accounts of a book: none occurs twice
pub record AreBook (entries : List BookEntry) : Type 0 where
  pub fit : AllByRecursion EntryFits entries
  pub distinct : are_distinct (ids_of entries) ≡ true

-- what can be saved: the binding is one line, the numbers have their widths, and the accounts are those of a book
pub record CanBeSaved (binding : List ℕ) (state : FollowState) : Type 0 where
  pub line : list_all is_in_line binding ≡ true
  pub seen : state.seen < 2 ^ 64
  pub last : state.kept.last < 2 ^ 64
  pub applied : state.kept.applied < 2 ^ 64
  pub book : AreBook state.kept.book

-- a saved book is this one
pub record IsBook (book : SavedBook) (chained : Bool) (binding : List ℕ) (state : FollowState) : Type 0 where
  pub chained_is : book.chained ≡ chained
  pub binding_is : book.binding.items ≡ binding
  pub follower_is : book.follower ≡ state

-- What a subscriber keeps, as its readers give it.
use Rattle.std.specs.Prelude.{ℕ, Bool, List}
use Rattle.cdc_subscriber.specs.declared.book.BookEntry.{BookEntry}

-- the book and the number of the events that it has applied, the timestamp of the last of them, whether it has
-- received the end mark, and whether it is closed
pub record SubscriberState : Type 0 where
  pub book : List BookEntry
  pub last : ℕ
  pub applied : ℕ
  pub ended : Bool
  pub closed : Bool

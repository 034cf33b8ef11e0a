-- What is written of a book, line by line.
use Rattle.std.proofs.Common.{◌≡◌, ℕ, List, [], ◌∷◌, ◌++◌, Option, ap, sym, subst, ◌∙◌, append-nil, append_assoc}
use Rattle.std.specs.Io.KnownBytes.{Appends}
use Rattle.std.specs.List.{flat_map}
use Rattle.std.proofs.KnownBytes.{Appends-trans}
use Rattle.std.proofs.lemmas.Grind.{flat_map-append}
use Rattle.std.proofs.lemmas.List.{map-append}
use Rattle.cdc_types.specs.declared.accounts.Balances.{Balances}
use Rattle.cdc_subscriber.specs.declared.book.BookEntry.{BookEntry}
use Rattle.cdc_subscriber.specs.Book.{entries_of, entry_for}
use Rattle.cdc_subscriber.specs.Lines.{account_line}

-- accounts, each with its number
abbrev Accounts : Type 0
Accounts = List (ℕ × Balances)

-- the lines of accounts
abbrev lines : Accounts → List ℕ
lines accounts = flat_map account_line (entries_of accounts)

-- of a book's accounts those that aren't left were written
pub record Printed (book : List BookEntry) (left : Accounts) (old new : Option (List ℕ)) : Type 0 where
  pub done : Accounts
  pub parted : book ≡ entries_of (done ++ left)
  pub written : Appends old new (lines done)

-- none is written, and all are left
pub printed_none : {book : List BookEntry} {left : Accounts} {old : Option (List ℕ)} → book ≡ entries_of left
    → Appends old old [] → Printed book left old old
printed_none {left = left} all none = record { done = []; parted = all; written = none }

-- the line of one more account follows the lines of those before it
pub printed_more : {book : List BookEntry} {left rest : Accounts} {account : ℕ × Balances}
    {old mid new : Option (List ℕ)} → Printed book left old mid → left ≡ account ∷ rest
    → Appends mid new (account_line (entry_for account)) → Printed book rest old new
printed_more {left = left} {rest = rest} {account = account} {old = old} {mid = mid} {new = new} before first line =
    let done = before.done in
    let joined : lines (done ++ account ∷ []) ≡ lines done ++ account_line (entry_for account) =
    ap (flat_map account_line) (map-append entry_for done (account ∷ []))
    ∙ flat_map-append account_line (entries_of done) (entry_for account ∷ [])
    ∙ ap (λ l. lines done ++ l) (append-nil (account_line (entry_for account))) in
    record {
      done = done ++ account ∷ [];
      parted = before.parted
          ∙ ap (λ accounts. entries_of (done ++ accounts)) first
          ∙ ap entries_of (sym (append_assoc done (account ∷ []) rest));
      written = subst (Appends old new) (sym joined) (Appends-trans old mid new _ _ before.written line);
    }

-- none is left: the lines are those of the book
pub printed_all : {book : List BookEntry} {left : Accounts} {old new : Option (List ℕ)} → Printed book left old new
    → left ≡ [] → Appends old new (flat_map account_line book)
printed_all {old = old} {new = new} before none =
    let all = before.parted ∙ ap (λ accounts. entries_of (before.done ++ accounts)) none
    ∙ ap entries_of (append-nil before.done) in
    subst (λ entries. Appends old new (flat_map account_line entries)) (sym all) before.written

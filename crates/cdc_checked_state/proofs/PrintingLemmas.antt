-- The lines of a map's entries, one after another.
use Rattle.std.proofs.Common.{◌≡◌, ℕ, List, [], ◌∷◌, ◌++◌, refl, ap, ◌∙◌}
use Rattle.std.proofs.lemmas.Grind.{flat_map-append}
use Rattle.std.specs.Prelude.{codes}
use Rattle.std.specs.List.{flat_map}
use Rattle.cdc_types.specs.declared.accounts.Balances.{Balances}
use Rattle.cdc_types.specs.declared.events.Event.{Event}
use Rattle.cdc_subscriber.specs.Book.{entry_for}
use Rattle.cdc_subscriber.specs.Lines.{account_line}
use Rattle.cdc_audit_state.specs.States.{event_line}
use Rattle.cdc_checked.specs.declared.checker.KnownAccount.{KnownAccount}
use Rattle.cdc_checked_follow.specs.Standing.{CheckedFollowerState}
use Rattle.cdc_checked_state.specs.States.{all_rows, book_rows, known_line, known_rows, open_rows, row_line, rows_text}

abbrev pub account_text : ℕ × Balances → List ℕ
account_text a = account_line (entry_for a)

pub book_text : (book : List (ℕ × Balances)) → rows_text (book_rows book) ≡ flat_map account_text book
unfolding row_line
book_text [] = refl
book_text (a ∷ rest) = ap (λ text. account_text a ++ text) (book_text rest)

abbrev pub known_text : ℕ × KnownAccount → List ℕ
known_text a = known_line a.0 a.1

pub accounts_text : (accounts : List (ℕ × KnownAccount))
    → rows_text (known_rows accounts) ≡ flat_map known_text accounts
unfolding row_line
accounts_text [] = refl
accounts_text (a ∷ rest) = ap (λ text. known_text a ++ text) (accounts_text rest)

abbrev pub open_text : ℕ × Event → List ℕ
open_text o = event_line (codes "open ") o.1

pub open_ones_text : (events : List (ℕ × Event)) → rows_text (open_rows events) ≡ flat_map open_text events
unfolding row_line
open_ones_text [] = refl
open_ones_text (o ∷ rest) = ap (λ text. open_text o ++ text) (open_ones_text rest)

-- the three kinds of lines
pub all_text : (follower : CheckedFollowerState)
    → rows_text (all_rows follower) ≡ rows_text (book_rows follower.book)
    ++ (rows_text (known_rows follower.checker.accounts) ++ rows_text (open_rows follower.checker.open_ones))
all_text follower =
    let known = known_rows follower.checker.accounts in
    let open_ones = open_rows follower.checker.open_ones in
    flat_map-append row_line (book_rows follower.book) (known ++ open_ones)
    ∙ ap (λ text. rows_text (book_rows follower.book) ++ text) (flat_map-append row_line known open_ones)

-- Reading back a state's text (private: for the code's own contracts).
use Rattle.std.specs.Prelude.{◌≡◌, ℕ, ◌<◌, ◌^◌, true, List, ◌∷◌, ◌++◌, Option, IsSomeAnd}
use Rattle.std.specs.List.{list_all}
use Rattle.cdc_codec.specs.Texts.{is_in_line, spaced}
use Rattle.cdc_checked.specs.declared.checker.KnownAccount.{KnownAccount}
use Rattle.cdc_checked_follow.specs.Standing.{CheckedFollowerState}
use Rattle.cdc_checked_state.specs.declared.rows.ReadRow.{ReadRow}
use Rattle.cdc_checked_state.specs.declared.rows.Row.{Row}
use Rattle.cdc_checked_state.specs.declared.saved.Front.{Front}
use Rattle.cdc_checked_state.specs.Saveable.{KnownFits, RowFits}
use Rattle.cdc_checked_state.specs.States.{heading, row_line}

-- the line of an account of the book begins with `a`
abbrev pub account_byte : ℕ
account_byte = 97

-- the line of an account that the checker knows begins with `k`
abbrev pub known_byte : ℕ
known_byte = 107

-- the line of an open pending transfer begins with `o`
abbrev pub open_byte : ℕ
open_byte = 111

-- the numbers of what is known of an account, and what follows them
abbrev pub known_numbers : KnownAccount → List ℕ → List ℕ
known_numbers known rest =
    spaced known.balances.debits_pending ++ (spaced known.balances.debits_posted
    ++ (spaced known.balances.credits_pending ++ (spaced known.balances.credits_posted
    ++ (spaced known.last ++ rest))))

-- the text is read as this, and these bytes are left
abbrev pub ReadsKnown : List ℕ → KnownAccount → List ℕ → Type 0
ReadsKnown text value left =
    (known : KnownAccount) (rest : List ℕ) → KnownFits known → text ≡ known_numbers known (10 ∷ rest)
    → (value ≡ known) × (left ≡ rest)

-- the text is read as this row
abbrev pub ReadsRow : List ℕ → ReadRow → Type 0
ReadsRow text read =
    (row : Row) (rest : List ℕ) → RowFits row → text ≡ row_line row ++ rest
    → (read.row ≡ row) × (read.rest.now ≡ rest)

-- the text is read as this row, if there is one
abbrev pub GivesRow : List ℕ → Option ReadRow → Type 0
GivesRow text read =
    (row : Row) (rest : List ℕ) → RowFits row → text ≡ row_line row ++ rest
    → IsSomeAnd read (λ (it : ReadRow). (it.row ≡ row) × (it.rest.now ≡ rest))

-- this front has these parts of a follower, and these lines follow
pub record IsFront (front : Front) (binding : List ℕ) (follower : CheckedFollowerState) (lines : List ℕ) : Type 0 where
  pub applied : front.applied ≡ follower.applied
  pub last : front.last ≡ follower.last
  pub ended : front.ended ≡ follower.ended
  pub baseline : front.baseline ≡ follower.baseline
  pub binding_is : front.binding.now ≡ binding
  pub lines_are : front.lines.now ≡ lines

-- if a text begins with the heading of a follower, it is read
abbrev pub ReadsFront : List ℕ → Front → Type 0
ReadsFront text front =
    (binding : List ℕ) (follower : CheckedFollowerState) (lines : List ℕ) → list_all is_in_line binding ≡ true
    → follower.applied < 2 ^ 64 → follower.last < 2 ^ 64 → text ≡ heading binding follower ++ lines
    → IsFront front binding follower lines

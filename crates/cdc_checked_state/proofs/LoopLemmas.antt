-- Reading line after line.
use Rattle.std.proofs.Common.{◌≡◌, ℕ, ◌<◌, Bool, true, false, List, [], ◌∷◌, Some, None, length, refl, sym, ap, ◌∙◌, arith}
use Rattle.std.specs.Prelude.{◌==◌}
use Rattle.std.specs.List.{AllByRecursion}
use Rattle.cdc_audit_state.specs.Rows.{first_of}
use Rattle.cdc_checked_state.specs.declared.rows.ReadRow.{ReadRow}
use Rattle.cdc_checked_state.specs.declared.rows.Row.{Row}
use Rattle.cdc_checked_state.specs.declared.rows.Row.TheVariants.{Account, Known, Open}
use Rattle.cdc_checked_state.specs.Parts.{GivesParts, PartsState, no_parts, parts_of, with_row}
use Rattle.cdc_checked_state.specs.Rows.{GivesRow}
use Rattle.cdc_checked_state.specs.Saveable.{RowFits}
use Rattle.cdc_checked_state.specs.States.{rows_text}
use Rattle.cdc_checked_state.proofs.PartLemmas.{on}
use Rattle.cdc_checked_state.proofs.RowLemmas.{first_row, row_first}

-- lines of which the first ones were read: these parts are what they contain, and the text that is left has the others
pub record Left (rows : List Row) (parts : PartsState) (rest : List ℕ) : Type 0 where
  pub left : List Row
  pub goes_on : parts_of rows ≡ on parts left
  pub lines : rest ≡ rows_text left
  pub fit : AllByRecursion RowFits left

-- that holds of whatever lines the text has
abbrev pub ReadSoFar : List ℕ → PartsState → List ℕ → Type 0
ReadSoFar text parts rest =
    (rows : List Row) → AllByRecursion RowFits rows → text ≡ rows_text rows → Left rows parts rest

pub reads_begin : (text : List ℕ) (parts : PartsState) → parts ≡ no_parts → ReadSoFar text parts text
reads_begin text parts none rows fit is =
    record { left = rows; goes_on = ap (λ p. on p rows) (sym none); lines = is; fit = fit }

-- a line isn't empty
some_byte : (row : Row) → 0 < row_first row
some_byte (Account entry) = omega arith
some_byte (Known id known) = omega arith
some_byte (Open e) = omega arith

none_left : (rest : List ℕ) (left : List Row) → rest ≡ [] → rest ≡ rows_text left → left ≡ []
none_left rest [] none lines = refl
none_left rest (row ∷ more) none lines =
    let byte : 0 ≡ row_first row = ap first_of (sym none ∙ lines) ∙ first_row row (rows_text more) in
    absurd (omega (arith, some_byte row, byte))

-- text is left, or not
pub empty_is : (rest : List ℕ) (empty : Bool) → empty ≡ (length rest == 0) → empty ≡ true → rest ≡ []
empty_is [] empty is end = refl
empty_is (b ∷ rest) empty is end = grind arith

-- one more line
pub reads_more : (text rest : List ℕ) (parts new : PartsState) (read : ReadRow) (empty : Bool)
    → ReadSoFar text parts rest → empty ≡ (length rest == 0) → empty ≡ false → GivesRow rest (Some read)
    → new ≡ with_row parts read.row → ReadSoFar text new read.rest.now
reads_more text rest parts new read empty before empty_is more gives adds rows fit is =
    let so_far = before rows fit is in
    go so_far.left so_far.goes_on so_far.lines so_far.fit
  where
    go : (left : List Row) → parts_of rows ≡ on parts left → rest ≡ rows_text left → AllByRecursion RowFits left
        → Left rows new read.rest.now
    go [] goes lines all =
        let never : true ≡ false = ap (λ t. length t == 0) (sym lines) ∙ sym empty_is ∙ more in absurd cc
    go (row ∷ left) goes lines all =
        let both = gives row (rows_text left) all.0 lines in
        record {
          left = left;
          goes_on = goes ∙ ap (λ r. on (with_row parts r) left) (sym both.0) ∙ ap (λ p. on p left) (sym adds);
          lines = both.1;
          fit = all.1;
        }

-- a line that is none
pub reads_wrong : (text rest : List ℕ) (parts : PartsState) (empty : Bool) → ReadSoFar text parts rest
    → empty ≡ (length rest == 0) → empty ≡ false → GivesRow rest None → GivesParts text None
reads_wrong text rest parts empty before empty_is more gives rows fit is =
    let so_far = before rows fit is in go so_far.left so_far.lines so_far.fit
  where
    go : (left : List Row) → rest ≡ rows_text left → AllByRecursion RowFits left → ⊥
    go [] lines all =
        let never : true ≡ false = ap (λ t. length t == 0) (sym lines) ∙ sym empty_is ∙ more in cc
    go (row ∷ left) lines all = gives row (rows_text left) all.0 lines

-- no line is left
pub reads_all : (text rest : List ℕ) (parts : PartsState) (empty : Bool) → ReadSoFar text parts rest
    → empty ≡ (length rest == 0) → empty ≡ true → GivesParts text (Some parts)
reads_all text rest parts empty before is_empty end rows fit is =
    let so_far = before rows fit is in
    let none = none_left rest so_far.left (empty_is rest empty is_empty end) so_far.lines in
    sym (so_far.goes_on ∙ ap (on parts) none)

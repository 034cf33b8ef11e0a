-- Reading back a line of a state's text (private: for the code's own contracts).
use Rattle.std.specs.Prelude.{◌≡◌, ℕ, List, [], ◌∷◌, ◌++◌, Option, IsSomeAnd}
use Rattle.cdc_types.specs.declared.events.Event.{Event}
use Rattle.cdc_message.specs.Bodies.{body}
use Rattle.cdc_message.specs.Widths.{EventFits}
use Rattle.cdc_codec.specs.Texts.{spaced}
use Rattle.cdc_audit.specs.declared.fields.FixedFields.{FixedFields}
use Rattle.cdc_audit_state.specs.declared.rows.ReadRow.{ReadRow}
use Rattle.cdc_audit_state.specs.declared.rows.Row.{Row}
use Rattle.cdc_audit_state.specs.Saveable.{FieldsFit, RowFits}
use Rattle.cdc_audit_state.specs.States.{row_line}

-- the first byte, 0 if there is none
abbrev pub first_of : List ℕ → ℕ
first_of [] = 0
first_of (byte ∷ rest) = byte

-- the line of an account begins with `a`
abbrev pub account_byte : ℕ
account_byte = 97

-- the line of the last expiry begins with `e`
abbrev pub expired_byte : ℕ
expired_byte = 101

-- the line of an account's fixed fields begins with `f`
abbrev pub fields_byte : ℕ
fields_byte = 102

-- the line of a pending transfer begins with `h`
abbrev pub pending_byte : ℕ
pending_byte = 104

-- the line of the event of an open pending transfer begins with `o`
abbrev pub open_byte : ℕ
open_byte = 111

-- the line of a transfer that never was pending begins with `p`
abbrev pub plain_byte : ℕ
plain_byte = 112

-- the line of a transfer that was pending begins with `s`
abbrev pub settled_byte : ℕ
settled_byte = 115

-- the line of a timestamp begins with `t`
abbrev pub time_byte : ℕ
time_byte = 116

-- the numbers of an account's fixed fields, and what follows them
abbrev pub fields_numbers : FixedFields → List ℕ → List ℕ
fields_numbers fields rest =
    spaced fields.user_data_128 ++ (spaced fields.user_data_64 ++ (spaced fields.user_data_32
    ++ (spaced fields.ledger ++ (spaced fields.code ++ (spaced fields.flags ++ (spaced fields.timestamp ++ rest))))))

-- the text is read as these fields, and these bytes are left
abbrev pub ReadsFields : List ℕ → FixedFields → List ℕ → Type 0
ReadsFields text value left =
    (fields : FixedFields) (rest : List ℕ) → FieldsFit fields → text ≡ fields_numbers fields (10 ∷ rest)
    → (value ≡ fields) × (left ≡ rest)

-- a text's first line is the body of this event, and these bytes follow it
pub record IsEventLine (text : List ℕ) (e : Event) (rest : List ℕ) : Type 0 where
  pub fits : EventFits e
  pub whole : text ≡ body e ++ 10 ∷ rest

-- the text is read as this row
abbrev pub ReadsRow : List ℕ → ReadRow → Type 0
ReadsRow text read =
    (row : Row) (rest : List ℕ) → RowFits row → text ≡ row_line row ++ rest
    → (read.row ≡ row) × (read.rest.now ≡ rest)

-- the text is read as this row, if there is one
abbrev pub GivesRow : List ℕ → Option ReadRow → Type 0
GivesRow text read =
    (row : Row) (rest : List ℕ) → RowFits row → text ≡ row_line row ++ rest
    → IsSomeAnd read (λ (it : ReadRow). (it.row ≡ row) × (it.rest.now ≡ rest))

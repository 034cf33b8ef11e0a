-- A line's event.
use Rattle.cdc_audit_state.proofs.Words.{Err, Event, Expired, IsEventLine, IsSomeAnd, List, None, Ok, Open, Option, ReadsLine, Result, Row, RowFits, Some, ap, body, drop, expired_byte, first_of, inl, inr, open_byte, row_line, subst, sym, ℕ, ◌++◌, ◌∙◌, ◌≡◌, ◌≢◌}
use Rattle.cdc_message.specs.declared.errors.DecodeError.{DecodeError}
use Rattle.cdc_message.specs.declared.errors.DecodeError.TheVariants.{OutOfMemory}
use Rattle.cdc_message.specs.Errors.{GivesUnlessMemory}
use Rattle.cdc_message.specs.Reading.{read}
use Rattle.cdc_message.proofs.Law.{read-body}
use Rattle.cdc_audit_state.specs.declared.rows.ReadEvent.{ReadEvent}
use Rattle.cdc_audit_state.proofs.RowLemmas.{body_in_line, expired_is, open_is}

-- what a line's body is read as
line_read : (line after text : List ℕ) (e : Event) (left : List ℕ) → IsEventLine text e left
    → ReadsLine text line after → (read line ≡ Ok e) × (after ≡ left)
line_read line after text e left is reads =
    let both = reads (body e) left (body_in_line e is.fits) is.whole in
    (ap read both.0 ∙ read-body e is.fits, both.1)

-- what was read of it, unless memory ran out
pub event_given : (line after text : List ℕ) (event e : Event) (left : List ℕ) → IsEventLine text e left
    → ReadsLine text line after → GivesUnlessMemory (Ok event) (read line) → (event ≡ e) × (after ≡ left)
event_given line after text event e left is reads gives =
    let both = line_read line after text e left is reads in (
      elim gives [
        | inl same ↦ same_value (same ∙ both.0)
        | inr memory ↦ absurd cc
      ],
      both.1,
    )
  where
    same_value : {a b : Event} → ◌≡◌ {A = Result Event DecodeError} (Ok a) (Ok b) → a ≡ b
    same_value q = cc

-- and that is no error
pub event_wrong : (line after text : List ℕ) (error : DecodeError) (e : Event) (left : List ℕ)
    → IsEventLine text e left → ReadsLine text line after → GivesUnlessMemory (Err error) (read line)
    → error ≢ OutOfMemory → ⊥
event_wrong line after text error e left is reads gives other =
    let both = line_read line after text e left is reads in
    elim gives [
      | inl same ↦ let never : Err error ≡ Ok e = same ∙ both.0 in cc
      | inr memory ↦ other (same_error memory)
    ]
  where
    same_error : {a b : DecodeError} → ◌≡◌ {A = Result Event DecodeError} (Err a) (Err b) → a ≡ b
    same_error q = cc

-- ---- the row of an event

-- what was read of the rest of the line, if it is an event's
abbrev pub ReadsEvent : List ℕ → Option ReadEvent → Type 0
ReadsEvent text read = (e : Event) (left : List ℕ) → IsEventLine text e left
    → IsSomeAnd read (λ (it : ReadEvent). (it.event ≡ e) × (it.rest.now ≡ left))

pub expired_gives : (text mid : List ℕ) (read : Option ReadEvent) (it : ReadEvent) → first_of text ≡ expired_byte
    → mid ≡ drop 8 text → ReadsEvent mid read → read ≡ Some it → (row : Row) (rest : List ℕ) → RowFits row
    → text ≡ row_line row ++ rest → (Expired it.event ≡ row) × (it.rest.now ≡ rest)
expired_gives text mid read it first is reads some row rest fits whole =
    let shown = expired_is text row rest first fits whole in
    let given : ReadsEvent mid (Some it) = subst (ReadsEvent mid) some reads in
    let both = given shown.0 rest (subst (λ t. IsEventLine t shown.0 rest) (sym is) shown.2) in
    (ap Expired both.0 ∙ sym shown.1, both.1)

pub open_gives : (text mid : List ℕ) (read : Option ReadEvent) (it : ReadEvent) → first_of text ≡ open_byte
    → mid ≡ drop 5 text → ReadsEvent mid read → read ≡ Some it → (row : Row) (rest : List ℕ) → RowFits row
    → text ≡ row_line row ++ rest → (Open it.event ≡ row) × (it.rest.now ≡ rest)
open_gives text mid read it first is reads some row rest fits whole =
    let shown = open_is text row rest first fits whole in
    let given : ReadsEvent mid (Some it) = subst (ReadsEvent mid) some reads in
    let both = given shown.0 rest (subst (λ t. IsEventLine t shown.0 rest) (sym is) shown.2) in
    (ap Open both.0 ∙ sym shown.1, both.1)

-- there is one
pub expired_some : (text mid : List ℕ) (read : Option ReadEvent) (row : Row) (rest : List ℕ)
    → first_of text ≡ expired_byte → mid ≡ drop 8 text → ReadsEvent mid read → read ≡ None → RowFits row
    → text ≡ row_line row ++ rest → ⊥
expired_some text mid read row rest first is reads none fits whole =
    let shown = expired_is text row rest first fits whole in
    let given : ReadsEvent mid None = subst (ReadsEvent mid) none reads in
    given shown.0 rest (subst (λ t. IsEventLine t shown.0 rest) (sym is) shown.2)

pub open_some : (text mid : List ℕ) (read : Option ReadEvent) (row : Row) (rest : List ℕ)
    → first_of text ≡ open_byte → mid ≡ drop 5 text → ReadsEvent mid read → read ≡ None → RowFits row
    → text ≡ row_line row ++ rest → ⊥
open_some text mid read row rest first is reads none fits whole =
    let shown = open_is text row rest first fits whole in
    let given : ReadsEvent mid None = subst (ReadsEvent mid) none reads in
    given shown.0 rest (subst (λ t. IsEventLine t shown.0 rest) (sym is) shown.2)

-- The lines of a state's text, by their first bytes.
use Rattle.std.proofs.Common.{◌≡◌, ◌≢◌, ℕ, ◌<◌, ◌^◌, Bool, List, [], ◌∷◌, ◌++◌, Option, Some, None, append_assoc, drop, refl, sym, ap, ◌∙◌, subst, arith}
use Rattle.std.specs.Prelude.{IsSomeAnd, codes}
use Rattle.cdc_types.specs.declared.events.Event.{Event}
use Rattle.cdc_codec.specs.ReadBack.{ReadsNumber}
use Rattle.cdc_codec.specs.Texts.{spaced}
use Rattle.cdc_message.specs.Bodies.{body}
use Rattle.cdc_subscriber.specs.declared.book.BookEntry.{BookEntry}
use Rattle.cdc_follow.specs.SavedParts.{ReadsAccount}
use Rattle.cdc_follow.proofs.SavedLemmas.{account_parts}
use Rattle.cdc_audit_state.specs.declared.rows.ReadEvent.{ReadEvent}
use Rattle.cdc_audit_state.specs.Rows.{IsEventLine, first_of}
use Rattle.cdc_checked.specs.declared.checker.KnownAccount.{KnownAccount}
use Rattle.cdc_checked_state.specs.declared.rows.Row.{Row}
use Rattle.cdc_checked_state.specs.declared.rows.Row.TheVariants.{Account, Known, Open}
use Rattle.cdc_checked_state.specs.Rows.{ReadsKnown, account_byte, known_byte, known_numbers, open_byte}
use Rattle.cdc_checked_state.specs.Saveable.{RowFits}
use Rattle.cdc_checked_state.specs.States.{row_line}

-- ---- what each kind of line begins with

nest : (name a end rest : List ℕ) → (name ++ (a ++ end)) ++ rest ≡ name ++ (a ++ (end ++ rest))
nest name a end rest = simp append_assoc

nest_six : (name a b c d e f end rest : List ℕ)
    → (name ++ (a ++ (b ++ (c ++ (d ++ (e ++ (f ++ end))))))) ++ rest
    ≡ name ++ (a ++ (b ++ (c ++ (d ++ (e ++ (f ++ (end ++ rest)))))))
nest_six name a b c d e f end rest = simp append_assoc

known_start : (id : ℕ) (known : KnownAccount) (rest : List ℕ)
    → row_line (Known id known) ++ rest ≡ codes "known" ++ (spaced id ++ known_numbers known (10 ∷ rest))
unfolding row_line
known_start id known rest =
    nest_six (codes "known") (spaced id) (spaced known.balances.debits_pending)
    (spaced known.balances.debits_posted) (spaced known.balances.credits_pending)
    (spaced known.balances.credits_posted) (spaced known.last) (codes "\n") rest

open_start : (e : Event) (rest : List ℕ) → row_line (Open e) ++ rest ≡ codes "open " ++ (body e ++ 10 ∷ rest)
unfolding row_line
open_start e rest = nest (codes "open ") (body e) (codes "\n") rest

-- the first byte of a line
abbrev pub row_first : Row → ℕ
row_first (Account entry) = account_byte
row_first (Known id known) = known_byte
row_first (Open e) = open_byte

pub first_row : (row : Row) (rest : List ℕ) → first_of (row_line row ++ rest) ≡ row_first row
unfolding row_line
first_row (Account entry) rest = ap first_of (account_parts entry rest)
first_row (Known id known) rest = ap first_of (known_start id known rest)
first_row (Open e) rest = ap first_of (open_start e rest)

-- a text that begins with this byte is that of a row that does
begins : (text : List ℕ) (byte : ℕ) (row : Row) (rest : List ℕ) → first_of text ≡ byte
    → text ≡ row_line row ++ rest → byte ≡ row_first row
begins text byte row rest is whole = sym is ∙ ap first_of whole ∙ first_row row rest

-- ---- each kind of line is read back

-- a row, and what follows it
abbrev Reads : List ℕ → Row → List ℕ → Type 0
Reads text read left = (row : Row) (rest : List ℕ) → RowFits row → text ≡ row_line row ++ rest
    → (read ≡ row) × (left ≡ rest)

pub account_reads : (text left : List ℕ) (entry : BookEntry) → first_of text ≡ account_byte
    → ReadsAccount text entry left → Reads text (Account entry) left
unfolding row_line
account_reads text left entry is reads (Account shown) rest fits whole =
    let both = reads shown rest fits whole in (ap Account both.0, both.1)
account_reads text left entry is reads (Known id known) rest fits whole =
    let byte : account_byte ≡ known_byte = begins text account_byte (Known id known) rest is whole in
    absurd (omega arith)
account_reads text left entry is reads (Open e) rest fits whole =
    let byte : account_byte ≡ open_byte = begins text account_byte (Open e) rest is whole in absurd (omega arith)

pub known_reads : (text mid left : List ℕ) (id : ℕ) (known : KnownAccount) → first_of text ≡ known_byte
    → ReadsNumber (2 ^ 128) (drop 5 text) id mid → ReadsKnown mid known left → Reads text (Known id known) left
known_reads text mid left id known is first second (Known shown those) rest fits whole =
    let t : List ℕ = known_numbers those (10 ∷ rest) in
    let one = first shown 32 (drop 1 t) fits.0 refl (ap (drop 5) (whole ∙ known_start shown those rest)) in
    let all = second those rest fits.1 one.1 in
    (ap (λ i. Known i known) one.0 ∙ ap (λ k. Known shown k) all.0, all.1)
known_reads text mid left id known is first second (Account entry) rest fits whole =
    let byte : known_byte ≡ account_byte = begins text known_byte (Account entry) rest is whole in
    absurd (omega arith)
known_reads text mid left id known is first second (Open e) rest fits whole =
    let byte : known_byte ≡ open_byte = begins text known_byte (Open e) rest is whole in absurd (omega arith)

-- ---- events

-- a line's event
open_is : (text : List ℕ) (row : Row) (rest : List ℕ) → first_of text ≡ open_byte → RowFits row
    → text ≡ row_line row ++ rest → (e : Event) × (row ≡ Open e) × IsEventLine (drop 5 text) e rest
open_is text (Open e) rest is fits whole =
    (e, refl, record { fits = fits; whole = ap (drop 5) (whole ∙ open_start e rest) })
open_is text (Account entry) rest is fits whole =
    let byte : open_byte ≡ account_byte = begins text open_byte (Account entry) rest is whole in absurd (omega arith)
open_is text (Known id known) rest is fits whole =
    let byte : open_byte ≡ known_byte = begins text open_byte (Known id known) rest is whole in absurd (omega arith)

-- what was read of the rest of the line, if it is an event's
abbrev pub ReadsEvent : List ℕ → Option ReadEvent → Type 0
ReadsEvent text read = (e : Event) (left : List ℕ) → IsEventLine text e left
    → IsSomeAnd read (λ (it : ReadEvent). (it.event ≡ e) × (it.rest.now ≡ left))

pub open_gives : (text mid : List ℕ) (read : Option ReadEvent) (it : ReadEvent) → first_of text ≡ open_byte
    → mid ≡ drop 5 text → ReadsEvent mid read → read ≡ Some it → (row : Row) (rest : List ℕ) → RowFits row
    → text ≡ row_line row ++ rest → (Open it.event ≡ row) × (it.rest.now ≡ rest)
open_gives text mid read it first is reads some row rest fits whole =
    let shown = open_is text row rest first fits whole in
    let given : ReadsEvent mid (Some it) = subst (ReadsEvent mid) some reads in
    let both = given shown.0 rest (subst (λ t. IsEventLine t shown.0 rest) (sym is) shown.2) in
    (ap Open both.0 ∙ sym shown.1, both.1)

-- there is one
pub open_some : (text mid : List ℕ) (read : Option ReadEvent) (row : Row) (rest : List ℕ)
    → first_of text ≡ open_byte → mid ≡ drop 5 text → ReadsEvent mid read → read ≡ None → RowFits row
    → text ≡ row_line row ++ rest → ⊥
open_some text mid read row rest first is reads none fits whole =
    let shown = open_is text row rest first fits whole in
    let given : ReadsEvent mid None = subst (ReadsEvent mid) none reads in
    given shown.0 rest (subst (λ t. IsEventLine t shown.0 rest) (sym is) shown.2)

-- ---- records whose parts were read

pub same_known : {a b c d e : ℕ} (known : KnownAccount) → a ≡ known.balances.debits_pending
    → b ≡ known.balances.debits_posted → c ≡ known.balances.credits_pending → d ≡ known.balances.credits_posted
    → e ≡ known.last
    → (let read : KnownAccount = record {
      balances = record { debits_pending = a; debits_posted = b; credits_pending = c; credits_posted = d };
      last = e;
    } in read)
    ≡ known
same_known known p q r s t = λ i. record {
  balances = record {
    debits_pending = p i;
    debits_posted = q i;
    credits_pending = r i;
    credits_posted = s i;
  };
  last = t i;
}

-- a line that begins with none of these bytes is none
pub no_row : (byte : ℕ) (text : List ℕ) (row : Row) (rest : List ℕ) → byte ≡ first_of text
    → text ≡ row_line row ++ rest → byte ≢ account_byte → byte ≢ known_byte → byte ≢ open_byte → ⊥
no_row byte text (Account entry) rest is whole a k o = a (begins text byte (Account entry) rest (sym is) whole)
no_row byte text (Known id known) rest is whole a k o = k (begins text byte (Known id known) rest (sym is) whole)
no_row byte text (Open shown) rest is whole a k o = o (begins text byte (Open shown) rest (sym is) whole)

-- The lines of a state's text, by their first bytes.
use Rattle.cdc_audit_state.proofs.Words.{Account, BookEntry, Bool, Event, EventFits, Expired, Fields, FixedFields, IsEventLine, IsSomeAnd, List, Open, Option, Pending, Plain, ReadsFields, ReadsNumber, Row, RowFits, Settled, Stored, Time, Transfer, [], account_byte, and_parts, ap, append_assoc, arith, body, codes, drop, expired_byte, false, fields_byte, fields_numbers, first_of, in_quotes, is_in_line, join_with_byte, length, length-drop, list_all, member_text, narrow_member, nat_le, open_byte, pending_byte, plain_byte, refl, settled_byte, spaced, sym, time_byte, true, wide_member, ℕ, ◌&&◌, ◌++◌, ◌<◌, ◌^◌, ◌∙◌, ◌∷◌, ◌≡◌, ◌≢◌}
use Rattle.cdc_audit_state.specs.States.{row_line}
use Rattle.std.proofs.lemmas.List.Folds.{list_all-append}
use Rattle.cdc_message.specs.Headers.{headers_of_event}
use Rattle.cdc_follow.specs.SavedParts.{ReadsAccount}
use Rattle.cdc_follow.proofs.SavedLemmas.{account_parts}
use Rattle.cdc_queue_lines.specs.Lines.{headers_text, message_line, message_members, seconds_of}
use Rattle.cdc_queue_lines.proofs.Neat.{neat_message}

-- ---- what each kind of line begins with

nest : (name a end rest : List ℕ) → (name ++ (a ++ end)) ++ rest ≡ name ++ (a ++ (end ++ rest))
nest name a end rest = simp append_assoc

nest_two : (name a b end rest : List ℕ) → (name ++ (a ++ (b ++ end))) ++ rest ≡ name ++ (a ++ (b ++ (end ++ rest)))
nest_two name a b end rest = simp append_assoc

nest_eight : (name a b c d e f g h end rest : List ℕ)
    → (name ++ (a ++ (b ++ (c ++ (d ++ (e ++ (f ++ (g ++ (h ++ end))))))))) ++ rest
    ≡ name ++ (a ++ (b ++ (c ++ (d ++ (e ++ (f ++ (g ++ (h ++ (end ++ rest)))))))))
nest_eight name a b c d e f g h end rest = simp append_assoc

plain_start : (id : ℕ) (rest : List ℕ)
    → row_line (Transfer id Plain) ++ rest ≡ codes "plain" ++ (spaced id ++ 10 ∷ rest)
unfolding row_line
plain_start id rest = nest (codes "plain") (spaced id) (codes "\n") rest

held_start : (id amount : ℕ) (rest : List ℕ)
    → row_line (Transfer id (Pending amount)) ++ rest ≡ codes "held" ++ (spaced id ++ (spaced amount ++ 10 ∷ rest))
unfolding row_line
held_start id amount rest = nest_two (codes "held") (spaced id) (spaced amount) (codes "\n") rest

settled_start : (id amount : ℕ) (rest : List ℕ)
    → row_line (Transfer id (Settled amount)) ++ rest
    ≡ codes "settled" ++ (spaced id ++ (spaced amount ++ 10 ∷ rest))
unfolding row_line
settled_start id amount rest = nest_two (codes "settled") (spaced id) (spaced amount) (codes "\n") rest

fields_start : (id : ℕ) (fields : FixedFields) (rest : List ℕ)
    → row_line (Fields id fields) ++ rest ≡ codes "fields" ++ (spaced id ++ fields_numbers fields (10 ∷ rest))
unfolding row_line
fields_start id fields rest =
    nest_eight (codes "fields") (spaced id) (spaced fields.user_data_128) (spaced fields.user_data_64)
    (spaced fields.user_data_32) (spaced fields.ledger) (spaced fields.code) (spaced fields.flags)
    (spaced fields.timestamp) (codes "\n") rest

time_start : (timestamp : ℕ) (rest : List ℕ)
    → row_line (Time timestamp) ++ rest ≡ codes "time" ++ (spaced timestamp ++ 10 ∷ rest)
unfolding row_line
time_start timestamp rest = nest (codes "time") (spaced timestamp) (codes "\n") rest

expired_start : (e : Event) (rest : List ℕ)
    → row_line (Expired e) ++ rest ≡ codes "expired " ++ (body e ++ 10 ∷ rest)
unfolding row_line
expired_start e rest = nest (codes "expired ") (body e) (codes "\n") rest

open_start : (e : Event) (rest : List ℕ) → row_line (Open e) ++ rest ≡ codes "open " ++ (body e ++ 10 ∷ rest)
unfolding row_line
open_start e rest = nest (codes "open ") (body e) (codes "\n") rest

-- the first byte of a line
abbrev pub row_first : Row → ℕ
row_first (Account entry) = account_byte
row_first (Expired e) = expired_byte
row_first (Transfer id Plain) = plain_byte
row_first (Transfer id (Pending amount)) = pending_byte
row_first (Transfer id (Settled amount)) = settled_byte
row_first (Open e) = open_byte
row_first (Fields id fields) = fields_byte
row_first (Time timestamp) = time_byte

pub first_row : (row : Row) (rest : List ℕ) → first_of (row_line row ++ rest) ≡ row_first row
unfolding row_line
first_row (Account entry) rest = ap first_of (account_parts entry rest)
first_row (Expired e) rest = ap first_of (expired_start e rest)
first_row (Transfer id Plain) rest = ap first_of (plain_start id rest)
first_row (Transfer id (Pending amount)) rest = ap first_of (held_start id amount rest)
first_row (Transfer id (Settled amount)) rest = ap first_of (settled_start id amount rest)
first_row (Open e) rest = ap first_of (open_start e rest)
first_row (Fields id fields) rest = ap first_of (fields_start id fields rest)
first_row (Time timestamp) rest = ap first_of (time_start timestamp rest)

-- a text that begins with this byte is that of a row that does
pub begins : (text : List ℕ) (byte : ℕ) (row : Row) (rest : List ℕ) → first_of text ≡ byte
    → text ≡ row_line row ++ rest → byte ≡ row_first row
begins text byte row rest is whole = sym is ∙ ap first_of whole ∙ first_row row rest

-- a transfer's line begins with one of three bytes
no_transfer : (byte id : ℕ) (stored : Stored) → byte ≡ row_first (Transfer id stored) → byte ≢ plain_byte
    → byte ≢ pending_byte → byte ≢ settled_byte → ⊥
no_transfer byte id Plain is plain held settled = plain is
no_transfer byte id (Pending amount) is plain held settled = held is
no_transfer byte id (Settled amount) is plain held settled = settled is

-- a text that begins with a byte other than 0 is longer than what follows its first bytes
pub drop_less : (count byte : ℕ) (text : List ℕ) → first_of text ≡ byte → 0 < byte → 0 < count
    → length (drop count text) < length text
drop_less count byte [] is some more = absurd (omega arith)
drop_less count byte (b ∷ text) is some more = omega (arith, length-drop count (b ∷ text))

-- ---- each kind of line is read back

-- a row, and what follows it
abbrev Reads : List ℕ → Row → List ℕ → Type 0
Reads text read left = (row : Row) (rest : List ℕ) → RowFits row → text ≡ row_line row ++ rest
    → (read ≡ row) × (left ≡ rest)

pub account_reads : (text left : List ℕ) (entry : BookEntry) → first_of text ≡ account_byte
    → ReadsAccount text entry left → Reads text (Account entry) left
unfolding row_line
account_reads text left entry is reads (Account shown) rest fits whole =
    let both = reads shown rest fits whole in (ap Account both.0, both.1)
account_reads text left entry is reads (Transfer of stored) rest fits whole =
    absurd (no_transfer account_byte of stored (begins text account_byte (Transfer of stored) rest is whole)
    (λ e. omega arith)
    (λ e. omega arith)
    (λ e. omega arith))
account_reads text left entry is reads row rest fits whole =
    let byte : account_byte ≡ row_first row = begins text account_byte row rest is whole in absurd (omega arith)

pub plain_reads : (text mid left : List ℕ) (id : ℕ) → first_of text ≡ plain_byte
    → ReadsNumber (2 ^ 128) (drop 5 text) id mid → left ≡ drop 1 mid → Reads text (Transfer id Plain) left
plain_reads text mid left id is reads left_is (Transfer shown Plain) rest fits whole =
    let both = reads shown 10 rest fits.0 refl (ap (drop 5) (whole ∙ plain_start shown rest)) in
    (ap (λ i. Transfer i Plain) both.0, left_is ∙ ap (drop 1) both.1)
plain_reads text mid left id is reads left_is row rest fits whole =
    let byte : plain_byte ≡ row_first row = begins text plain_byte row rest is whole in absurd (omega arith)

-- two numbers
two : (text mid mid2 left : List ℕ) (id amount shown held : ℕ) (rest : List ℕ) → shown < 2 ^ 128 → held < 2 ^ 128
    → ReadsNumber (2 ^ 128) text id mid → ReadsNumber (2 ^ 128) mid amount mid2 → left ≡ drop 1 mid2
    → text ≡ spaced shown ++ (spaced held ++ 10 ∷ rest) → (id ≡ shown) × (amount ≡ held) × (left ≡ rest)
two text mid mid2 left id amount shown held rest small fits first second left_is whole =
    let t : List ℕ = spaced held ++ 10 ∷ rest in
    let one = first shown 32 (drop 1 t) small refl whole in
    let other = second held 10 rest fits refl one.1 in
    (one.0, other.0, left_is ∙ ap (drop 1) other.1)

pub held_reads : (text mid mid2 left : List ℕ) (id amount : ℕ) → first_of text ≡ pending_byte
    → ReadsNumber (2 ^ 128) (drop 4 text) id mid → ReadsNumber (2 ^ 128) mid amount mid2 → left ≡ drop 1 mid2
    → Reads text (Transfer id (Pending amount)) left
held_reads text mid mid2 left id amount is first second left_is (Transfer shown (Pending held)) rest fits whole =
    let all = two (drop 4 text) mid mid2 left id amount shown held rest fits.0 fits.1 first second left_is
    (ap (drop 4) (whole ∙ held_start shown held rest)) in
    (ap (λ i. Transfer i (Pending amount)) all.0 ∙ ap (λ a. Transfer shown (Pending a)) all.1, all.2)
held_reads text mid mid2 left id amount is first second left_is row rest fits whole =
    let byte : pending_byte ≡ row_first row = begins text pending_byte row rest is whole in absurd (omega arith)

pub settled_reads : (text mid mid2 left : List ℕ) (id amount : ℕ) → first_of text ≡ settled_byte
    → ReadsNumber (2 ^ 128) (drop 7 text) id mid → ReadsNumber (2 ^ 128) mid amount mid2 → left ≡ drop 1 mid2
    → Reads text (Transfer id (Settled amount)) left
settled_reads text mid mid2 left id amount is first second left_is (Transfer shown (Settled held)) rest fits whole =
    let all = two (drop 7 text) mid mid2 left id amount shown held rest fits.0 fits.1 first second left_is
    (ap (drop 7) (whole ∙ settled_start shown held rest)) in
    (ap (λ i. Transfer i (Settled amount)) all.0 ∙ ap (λ a. Transfer shown (Settled a)) all.1, all.2)
settled_reads text mid mid2 left id amount is first second left_is row rest fits whole =
    let byte : settled_byte ≡ row_first row = begins text settled_byte row rest is whole in absurd (omega arith)

pub fields_reads : (text mid left : List ℕ) (id : ℕ) (fields : FixedFields) → first_of text ≡ fields_byte
    → ReadsNumber (2 ^ 128) (drop 6 text) id mid → ReadsFields mid fields left → Reads text (Fields id fields) left
fields_reads text mid left id fields is first second (Fields shown those) rest fits whole =
    let t : List ℕ = fields_numbers those (10 ∷ rest) in
    let one = first shown 32 (drop 1 t) fits.0 refl (ap (drop 6) (whole ∙ fields_start shown those rest)) in
    let all = second those rest fits.1 one.1 in
    (ap (λ i. Fields i fields) one.0 ∙ ap (λ f. Fields shown f) all.0, all.1)
fields_reads text mid left id fields is first second (Transfer of stored) rest fits whole =
    absurd (no_transfer fields_byte of stored (begins text fields_byte (Transfer of stored) rest is whole)
    (λ e. omega arith)
    (λ e. omega arith)
    (λ e. omega arith))
fields_reads text mid left id fields is first second row rest fits whole =
    let byte : fields_byte ≡ row_first row = begins text fields_byte row rest is whole in absurd (omega arith)

pub time_reads : (text mid left : List ℕ) (timestamp : ℕ) → first_of text ≡ time_byte
    → ReadsNumber (2 ^ 64) (drop 4 text) timestamp mid → left ≡ drop 1 mid → Reads text (Time timestamp) left
time_reads text mid left timestamp is reads left_is (Time shown) rest fits whole =
    let both = reads shown 10 rest fits refl (ap (drop 4) (whole ∙ time_start shown rest)) in
    (ap Time both.0, left_is ∙ ap (drop 1) both.1)
time_reads text mid left timestamp is reads left_is (Transfer of stored) rest fits whole =
    absurd (no_transfer time_byte of stored (begins text time_byte (Transfer of stored) rest is whole)
    (λ e. omega arith)
    (λ e. omega arith)
    (λ e. omega arith))
time_reads text mid left timestamp is reads left_is row rest fits whole =
    let byte : time_byte ≡ row_first row = begins text time_byte row rest is whole in absurd (omega arith)

-- ---- events

-- a row is read, if there is one
abbrev Gives : List ℕ → Option (Row × List ℕ) → Type 0
Gives text read = (row : Row) (rest : List ℕ) → RowFits row → text ≡ row_line row ++ rest
    → IsSomeAnd read (λ (it : Row × List ℕ). (it.0 ≡ row) × (it.1 ≡ rest))

-- a line's event
pub expired_is : (text : List ℕ) (row : Row) (rest : List ℕ) → first_of text ≡ expired_byte → RowFits row
    → text ≡ row_line row ++ rest → (e : Event) × (row ≡ Expired e) × IsEventLine (drop 8 text) e rest
expired_is text (Expired e) rest is fits whole =
    (e, refl, record { fits = fits; whole = ap (drop 8) (whole ∙ expired_start e rest) })
expired_is text (Transfer of stored) rest is fits whole =
    absurd (no_transfer expired_byte of stored (begins text expired_byte (Transfer of stored) rest is whole)
    (λ e. omega arith)
    (λ e. omega arith)
    (λ e. omega arith))
expired_is text row rest is fits whole =
    let byte : expired_byte ≡ row_first row = begins text expired_byte row rest is whole in absurd (omega arith)

pub open_is : (text : List ℕ) (row : Row) (rest : List ℕ) → first_of text ≡ open_byte → RowFits row
    → text ≡ row_line row ++ rest → (e : Event) × (row ≡ Open e) × IsEventLine (drop 5 text) e rest
open_is text (Open e) rest is fits whole =
    (e, refl, record { fits = fits; whole = ap (drop 5) (whole ∙ open_start e rest) })
open_is text (Transfer of stored) rest is fits whole =
    absurd (no_transfer open_byte of stored (begins text open_byte (Transfer of stored) rest is whole)
    (λ e. omega arith)
    (λ e. omega arith)
    (λ e. omega arith))
open_is text row rest is fits whole =
    let byte : open_byte ≡ row_first row = begins text open_byte row rest is whole in absurd (omega arith)

-- printable bytes are no line feeds
printable_in_line : (text : List ℕ) → list_all (λ b. nat_le 32 b && nat_le b 126) text ≡ true
    → list_all is_in_line text ≡ true
printable_in_line [] plain = refl
printable_in_line (b ∷ text) plain =
    let parts = and_parts (nat_le 32 b && nat_le b 126) (list_all (λ b. nat_le 32 b && nat_le b 126) text) plain in
    rw (no_feed b parts.0, printable_in_line text parts.1) refl
  where
    no_feed : (b : ℕ) → (nat_le 32 b && nat_le b 126) ≡ true → is_in_line b ≡ true
    no_feed b is = by_test (is_in_line b) refl
      where
        by_test : (test : Bool) → is_in_line b ≡ test → is_in_line b ≡ true
        by_test true same = same
        by_test false same = grind arith

-- printable texts in longer ones
abbrev Printable : List ℕ → Type 0
Printable text = list_all (λ b. nat_le 32 b && nat_le b 126) text ≡ true

halves : (x y : List ℕ) → Printable (x ++ y) → Printable x × Printable y
halves x y is =
    let p : ℕ → Bool = λ b. nat_le 32 b && nat_le b 126 in
    let both = and_parts (list_all p x) (list_all p y) (sym (list_all-append p x y) ∙ is) in (both.0, both.1)

-- members without the first one
next : (m n : List ℕ) (ms : List (List ℕ)) → Printable (join_with_byte 44 (m ∷ n ∷ ms))
    → Printable (join_with_byte 44 (n ∷ ms))
next m n ms is =
    (halves (44 ∷ []) (join_with_byte 44 (n ∷ ms)) (halves m (44 ∷ join_with_byte 44 (n ∷ ms)) is).1).1

-- a body is printable, since the line of a message is
body_printable : (e : Event) → EventFits e → Printable (body e)
unfolding message_line
body_printable e fits =
    let kind = member_text (codes "kind") (in_quotes (codes "message")) in
    let previous = wide_member (codes "previous") 0 in
    let headers = member_text (codes "headers") (headers_text (headers_of_event e)) in
    let timestamp = narrow_member (codes "timestamp") (seconds_of e) in
    let last = member_text (codes "body") (body e) in
    let members = join_with_byte 44 (message_members 0 e) in
    let whole = (neat_message 0 e (omega arith) fits).plain in
    let all = (halves (codes "{") members (halves (codes "{" ++ members) (codes "}") whole).0).1 in
    let one = next kind previous (headers ∷ timestamp ∷ last ∷ []) all in
    let two = next previous headers (timestamp ∷ last ∷ []) one in
    let three = next headers timestamp (last ∷ []) two in
    let four = next timestamp last [] three in
    (halves (in_quotes (codes "body") ++ codes ":") (body e) four).1

-- a body is one line
pub body_in_line : (e : Event) → EventFits e → list_all is_in_line (body e) ≡ true
body_in_line e fits = printable_in_line (body e) (body_printable e fits)

-- ---- records whose parts were read

pub same_fields : {a b d e g h i : ℕ} (fields : FixedFields) → a ≡ fields.user_data_128 → b ≡ fields.user_data_64
    → d ≡ fields.user_data_32 → e ≡ fields.ledger → g ≡ fields.code → h ≡ fields.flags → i ≡ fields.timestamp
    → (let read : FixedFields = record {
      user_data_128 = a;
      user_data_64 = b;
      user_data_32 = d;
      ledger = e;
      code = g;
      flags = h;
      timestamp = i;
    } in read)
    ≡ fields
same_fields fields p q r s t u v = λ i. record {
  user_data_128 = p i;
  user_data_64 = q i;
  user_data_32 = r i;
  ledger = s i;
  code = t i;
  flags = u i;
  timestamp = v i;
}

-- a line that begins with none of these bytes is none
pub no_row : (byte : ℕ) (text : List ℕ) (row : Row) (rest : List ℕ) → byte ≡ first_of text
    → text ≡ row_line row ++ rest → byte ≢ account_byte → byte ≢ expired_byte → byte ≢ fields_byte
    → byte ≢ pending_byte → byte ≢ open_byte → byte ≢ plain_byte → byte ≢ settled_byte → byte ≢ time_byte → ⊥
no_row byte text (Account entry) rest is whole a e f h o p s t =
    a (begins text byte (Account entry) rest (sym is) whole)
no_row byte text (Expired shown) rest is whole a e f h o p s t =
    e (begins text byte (Expired shown) rest (sym is) whole)
no_row byte text (Transfer id Plain) rest is whole a e f h o p s t =
    p (begins text byte (Transfer id Plain) rest (sym is) whole)
no_row byte text (Transfer id (Pending amount)) rest is whole a e f h o p s t =
    h (begins text byte (Transfer id (Pending amount)) rest (sym is) whole)
no_row byte text (Transfer id (Settled amount)) rest is whole a e f h o p s t =
    s (begins text byte (Transfer id (Settled amount)) rest (sym is) whole)
no_row byte text (Open shown) rest is whole a e f h o p s t = o (begins text byte (Open shown) rest (sym is) whole)
no_row byte text (Fields id fields) rest is whole a e f h o p s t =
    f (begins text byte (Fields id fields) rest (sym is) whole)
no_row byte text (Time timestamp) rest is whole a e f h o p s t =
    t (begins text byte (Time timestamp) rest (sym is) whole)

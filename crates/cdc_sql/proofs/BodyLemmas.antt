-- What a save's text has before its commit: no letter M.
use Rattle.std.proofs.Common.{◌≡◌, ◌==◌, ℕ, ◌+◌, ◌<◌, ◌^◌, List, [], ◌∷◌, ◌++◌, Bool, true, false, cond, not, ◌%◌, refl}
use Rattle.std.proofs.Common.{sym, ap, ◌∙◌, arith, inl, inr, ◌&&◌}
use Rattle.std.specs.Prelude.{codes, decimal, length}
use Rattle.std.specs.Char.{is_ascii_digit}
use Rattle.std.specs.List.{AllByRecursion, list_all}
use Rattle.std.proofs.lemmas.Bool.{and_parts, false≢true}
use Rattle.std.proofs.lemmas.Bool.Decides.{eqb_tells}
use Rattle.std.proofs.lemmas.Fmt.{decimal_is_IsNumeral_wide}
use Rattle.std.proofs.lemmas.List.Folds.{list_all-append}
use Rattle.cdc_message.proofs.DecimalTexts.{own_digits}
use Rattle.cdc_codec.specs.Texts.{flagged}
use Rattle.cdc_types.specs.declared.events.Event.{Event}
use Rattle.cdc_types.specs.declared.events.EventKind.{EventKind}
use Rattle.cdc_types.specs.declared.events.EventKind.TheVariants.{SinglePhase, TwoPhasePending, TwoPhasePosted}
use Rattle.cdc_types.specs.declared.events.EventKind.TheVariants.{TwoPhaseVoided, TwoPhaseExpired}
use Rattle.cdc_message.specs.Kinds.{kind_text}
use Rattle.cdc_sql.specs.Laws.{AreNumbers, BodiesDoNotCommit, EventFits, RowFits, is_no_m}
use Rattle.cdc_sql.specs.Names.{is_in_name, is_name}
use Rattle.cdc_sql.specs.Places.{PlaceFits}
use Rattle.cdc_sql.specs.Plain.{is_plain, is_plain_byte}
use Rattle.cdc_sql.specs.Statements.{account_conflict, account_numbers, account_statement, accounts_table}
use Rattle.cdc_sql.specs.Statements.{accounts_text, between_text, event_columns, event_end, event_statement, event_text}
use Rattle.cdc_sql.specs.Statements.{events_table, events_text, lead_text, list_text, next_text, numbers_text}
use Rattle.cdc_sql.specs.Statements.{row_columns, row_numbers, row_text, statement_rows, statements_text}
use Rattle.cdc_sql.specs.Statements.{transfer_numbers}
use Rattle.cdc_sql.specs.Texts.{book_table, columns_text, move_text, position_text}
use Rattle.cdc_sql.specs.declared.places.Place.{Place}
use Rattle.cdc_sql.specs.declared.rows.AccountRow.{AccountRow}

-- a text has no letter M
record NoM (text : List ℕ) : Type 0 where
  pub none : list_all is_no_m text ≡ true

-- such a text that is written out
given : {text : List ℕ} → list_all is_no_m text ≡ true → NoM text
given none = record { none = none }

-- one text after another
join : (a b : List ℕ) → NoM a → NoM b → NoM (a ++ b)
join a b one two =
    given (list_all-append is_no_m a b ∙ ap (λ t. t && list_all is_no_m b) one.none ∙ two.none)

-- a test that fails at M
all_pass : (test : ℕ → Bool) (bytes : List ℕ) → test 77 ≡ false → list_all test bytes ≡ true → NoM bytes
all_pass test [] never all = given refl
all_pass test (byte ∷ bytes) never all =
    let parts = and_parts (test byte) (list_all test bytes) all in
    let more = all_pass test bytes never parts.1 in
    elim (eqb_tells byte 77) [
      | inl same ↦ absurd (false≢true (sym never ∙ sym (ap test same.1) ∙ parts.0))
      | inr other ↦ given (ap (λ t. not t && list_all is_no_m bytes) other.0 ∙ more.none)
    ]

number : (n : ℕ) → n < 2 ^ 128 → NoM (decimal n)
number n fits =
    let numeral = (decimal_is_IsNumeral_wide n (omega (arith, fits))).0 in
    all_pass is_ascii_digit (decimal n) refl (own_digits.from (decimal n) numeral.1)

number_64 : (n : ℕ) → n < 2 ^ 64 → NoM (decimal n)
number_64 n fits = number n (omega (arith, fits))

name_has_none : (name : List ℕ) → is_name name ≡ true → NoM name
name_has_none name is = all_pass is_in_name name refl (and_parts _ (list_all is_in_name name) is).1

flag_has_none : (name : List ℕ) (flag : Bool) → NoM name → NoM (flagged name flag)
flag_has_none name true is = join name (codes " yes") is (given refl)
flag_has_none name false is = join name (codes " no") is (given refl)

module _ (name : List ℕ) (named : is_name name ≡ true) (chained : Bool) (binding : List ℕ)
    (plain : is_plain binding ≡ true) where
  tables : (which : List ℕ) → NoM which → NoM (codes "\"" ++ (name ++ which))
  tables which is = join (codes "\"") _ (given refl) (join name which (name_has_none name named) is)

  quoted : NoM binding
  quoted = all_pass is_plain_byte binding refl plain

  position : (place : Place) → PlaceFits place → NoM (position_text chained binding place)
  position place fits =
      join (flagged (codes "book 1 chained") chained) _ (flag_has_none (codes "book 1 chained") chained (given refl))
      (join (codes " seen " ++ decimal place.seen) _
      (join (codes " seen ") (decimal place.seen) (given refl) (number_64 place.seen fits.seen))
      (join (codes "\nbinding ") _ (given refl) (join binding _ quoted
      (join (codes "\nsubscriber 1 applied " ++ decimal place.applied) _
      (join (codes "\nsubscriber 1 applied ") (decimal place.applied) (given refl) (number_64 place.applied fits.applied))
      (join (codes " last " ++ decimal place.last) _
      (join (codes " last ") (decimal place.last) (given refl) (number_64 place.last fits.last))
      (join (flagged (codes " ended") place.ended) _ (flag_has_none (codes " ended") place.ended (given refl))
      (flag_has_none (codes " closed") place.closed (given refl))))))))

  columns : (between : List ℕ) (place : Place) → NoM between → PlaceFits place
      → NoM (columns_text between chained binding place)
  columns between place is fits =
      join (codes "position = '") _ (given refl) (join (position_text chained binding place) _ (position place fits)
      (join (codes "'") _ (given refl) (join between _ is
      (join (codes "seen = " ++ decimal place.seen) _
      (join (codes "seen = ") (decimal place.seen) (given refl) (number_64 place.seen fits.seen)) (join between _ is
      (join (codes "last = " ++ decimal place.last) _
      (join (codes "last = ") (decimal place.last) (given refl) (number_64 place.last fits.last)) (join between _ is
      (join (codes "applied = ") (decimal place.applied) (given refl) (number_64 place.applied fits.applied)))))))))

  moves : (before after : Place) → PlaceFits before → PlaceFits after
      → NoM (move_text name chained binding before after)
  moves before after fits fit =
      join (codes "BEGIN;\nDO $$BEGIN\nUPDATE ") _ (given refl) (join (book_table name) _ (tables (codes "\".book") (given refl))
      (join (codes " SET ") _ (given refl) (join (columns_text (codes ", ") chained binding after) _
      (columns (codes ", ") after (given refl) fit) (join (codes "\nWHERE id = 1 AND ") _ (given refl)
      (join (columns_text (codes " AND ") chained binding before) _ (columns (codes " AND ") before (given refl) fits)
      (join (codes ";\n") _ (given refl)
      (join (codes "IF NOT FOUND THEN RAISE '") _ (given refl)
      (join (book_table name) (codes " is not where this follower left it'; END IF;\nEND$$;\n")
      (tables (codes "\".book") (given refl)) (given refl)))))))))

  either : (b : Bool) (x y : List ℕ) → NoM x → NoM y → NoM (cond b x y)
  either true x y one two = one
  either false x y one two = two

  comma : (n : ℕ) → n < 2 ^ 128 → NoM (codes ", " ++ decimal n)
  comma n fits = join (codes ", ") (decimal n) (given refl) (number n fits)

  numbers : (list : List ℕ) → AreNumbers list → NoM (numbers_text list)
  numbers [] fit = given refl
  numbers (n ∷ list) fit = join (codes ", " ++ decimal n) _ (comma n fit.0) (numbers list fit.1)

  leads : (start end : List ℕ) → NoM start → NoM end → (place : ℕ) → NoM (lead_text start end place)
  leads start end one two place =
      either (place == 0) start (between_text start end place) one
      (either ((place % statement_rows) == 0) (next_text start end) (codes ",\n")
      (join end start two one) (given refl))

  lists : {X : Type 0} (lead : ℕ → List ℕ) (row : X → List ℕ) (Fits : X → Type 0) → ((place : ℕ) → NoM (lead place))
      → ((x : X) → Fits x → NoM (row x)) → (place : ℕ) (items : List X) → AllByRecursion Fits items
      → NoM (list_text lead row place items)
  lists lead row Fits leading rows place [] fit = given refl
  lists lead row Fits leading rows place (x ∷ later) fit =
      join (lead place) _ (leading place) (join (row x) (list_text lead row (place + 1) later)
      (rows x fit.0) (lists lead row Fits leading rows (place + 1) later fit.1))

  statements : {X : Type 0} (start end : List ℕ) (row : X → List ℕ) (Fits : X → Type 0) → NoM start → NoM end
      → ((x : X) → Fits x → NoM (row x)) → (items : List X) → AllByRecursion Fits items
      → NoM (statements_text start end row items)
  statements start end row Fits one two rows items fit =
      either (length items == 0) [] (list_text (lead_text start end) row 0 items ++ end) (given refl)
      (join (list_text (lead_text start end) row 0 items) end
      (lists (lead_text start end) row Fits (leads start end one two) rows 0 items fit) two)

  account_row : (account : ℕ × AccountRow) → RowFits account → NoM (row_text account)
  account_row account fit =
      join (codes "(" ++ decimal account.0) _
      (join (codes "(") (decimal account.0) (given refl) (number account.0 fit.0))
      (join (numbers_text (row_numbers account.1)) (codes ")") (numbers (row_numbers account.1) fit.1) (given refl))

  account_start : NoM (account_statement name)
  account_start =
      join (codes "INSERT INTO ") _ (given refl) (join (accounts_table name)
      (codes " (id, " ++ (row_columns ++ codes ") VALUES\n")) (tables (codes "\".accounts") (given refl)) (given refl))

  accounts : (rows : List (ℕ × AccountRow)) → AllByRecursion RowFits rows → NoM (accounts_text name rows)
  accounts rows fit =
      statements (account_statement name) account_conflict row_text RowFits account_start (given refl) account_row rows fit

  kind : (k : EventKind) → NoM (kind_text k)
  kind SinglePhase = given refl
  kind TwoPhasePending = given refl
  kind TwoPhasePosted = given refl
  kind TwoPhaseVoided = given refl
  kind TwoPhaseExpired = given refl

  event_row : (e : Event) → EventFits e → NoM (event_text e)
  event_row e fit =
      join (codes "('") _ (given refl) (join (kind_text e.kind) _ (kind e.kind)
      (join (codes "', " ++ decimal e.timestamp) _
      (join (codes "', ") (decimal e.timestamp) (given refl) (number e.timestamp fit.0.0))
      (join (codes ", " ++ decimal e.ledger) _ (comma e.ledger fit.0.1.0)
      (join (numbers_text (transfer_numbers e.transfer)) _ (numbers (transfer_numbers e.transfer) fit.1.0)
      (join (numbers_text (account_numbers e.debit_account)) _ (numbers (account_numbers e.debit_account) fit.1.1.0)
      (join (numbers_text (account_numbers e.credit_account)) (codes ")")
      (numbers (account_numbers e.credit_account) fit.1.1.1) (given refl)))))))

  event_start : NoM (event_statement name)
  event_start =
      join (codes "INSERT INTO ") _ (given refl) (join (events_table name)
      (codes " (" ++ (event_columns ++ codes ") VALUES\n")) (tables (codes "\".events") (given refl)) (given refl))

  events : (added : List Event) → AllByRecursion EventFits added → NoM (events_text name added)
  events added fit =
      statements (event_statement name) event_end event_text EventFits event_start (given refl) event_row added fit

pub bodies : BodiesDoNotCommit
bodies name chained binding save named plain fits =
    (join (move_text name chained binding save.before save.after) _
    (moves name named chained binding plain save.before save.after fits.before fits.after)
    (join (accounts_text name save.rows) (events_text name save.events)
    (accounts name named chained binding plain save.rows fits.rows)
    (events name named chained binding plain save.events fits.events))).none

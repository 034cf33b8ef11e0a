-- What executing the saves of one follower leaves in the tables.
use Rattle.std.proofs.Common.{◌≡◌, ◌==◌, ℕ, List, [], ◌∷◌, ◌++◌, append_assoc, append-nil, Bool, true, false, cond, not, ◌&&◌, refl, sym, ap, ◌∙◌, subst}
use Rattle.std.proofs.lemmas.Slice.Eq.{bytes_eq-Decides}
use Rattle.cdc_types.specs.declared.events.Event.{Event}
use Rattle.cdc_subscriber.specs.Book.{are_distinct, is_among}
use Rattle.cdc_subscriber.proofs.BookLemmas.{eqb_same, neither}
use Rattle.cdc_sql.specs.Laws.{SavesMakeTables, events_of_steps, place_after}
use Rattle.cdc_sql.specs.Rows.{put_rows, rows_by}
use Rattle.cdc_sql.specs.Saves.{Step, events_in, kept_if, save_of, saves_from}
use Rattle.cdc_sql.specs.Tables.{BookRow, Tables, execute, execute_all, row_at, same_row, tables_by, takes, times_of}
use Rattle.cdc_sql.specs.declared.places.Place.{Place}
use Rattle.cdc_sql.proofs.PutLemmas.{Rows, put_join}

-- a row is the same as itself
pub same_here : (row : BookRow) → same_row row row ≡ true
same_here row =
    rw (
      (bytes_eq-Decides row.position row.position).1 refl,
      eqb_same row.seen,
      eqb_same row.last,
      eqb_same row.applied,
    ) refl

both_true : (a b : Bool) → (not a && b) ≡ true → (a ≡ false) × (b ≡ true)
both_true true b is = absurd cc
both_true false b is = (refl, is)

-- what isn't among events isn't among the first ones
among_front : (n : ℕ) (first more : List Event) → is_among n (times_of (first ++ more)) ≡ false
    → is_among n (times_of first) ≡ false
among_front n [] more absent = refl
among_front n (e ∷ first) more absent =
    let both = neither (e.timestamp == n) (is_among n (times_of (first ++ more))) absent in
    rw both.0 (among_front n first more both.1)

-- the first ones of events that have no timestamp twice
front_distinct : (first more : List Event) → are_distinct (times_of (first ++ more)) ≡ true
    → are_distinct (times_of first) ≡ true
front_distinct [] more is = refl
front_distinct (e ∷ first) more is =
    let times = times_of (first ++ more) in
    let both = both_true (is_among e.timestamp times) (are_distinct times) is in
    rw (among_front e.timestamp first more both.0) (front_distinct first more both.1)

kept_join : (keeps : Bool) (one other : List Event)
    → kept_if keeps one ++ kept_if keeps other ≡ kept_if keeps (one ++ other)
kept_join true one other = refl
kept_join false one other = refl

kept_distinct : (keeps : Bool) (one other : List Event) → are_distinct (times_of (one ++ other)) ≡ true
    → are_distinct (times_of (kept_if keeps one ++ kept_if keeps other)) ≡ true
kept_distinct true one other is = is
kept_distinct false one other is = refl

module _ (keeps chained : Bool) (binding : List ℕ) where
  -- the tables with the rows and the events of a step
  abbrev pub joined : Place → List Event → List Event → Tables
  joined to applied more = record {
    book = row_at chained binding to;
    accounts = put_rows (rows_by more) (rows_by applied);
    events = kept_if keeps applied ++ kept_if keeps more;
  }

  pub moved : (to : Place) (applied more : List Event)
      → joined to applied more ≡ tables_by keeps chained binding to (applied ++ more)
  moved to applied more =
      ap (λ (rows : Rows). record {
        book = row_at chained binding to;
        accounts = rows;
        events = kept_if keeps applied ++ kept_if keeps more;
      }) (put_join applied more)
      ∙ ap (λ (events : List Event). record {
        book = row_at chained binding to;
        accounts = rows_by (applied ++ more);
        events = events;
      }) (kept_join keeps applied more)

  -- a save that begins where the tables are
  pub one_save : (place : Place) (applied : List Event) (step : Step)
      → are_distinct (times_of (applied ++ events_in step.items)) ≡ true
      → execute chained binding (tables_by keeps chained binding place applied) (save_of keeps place step)
      ≡ tables_by keeps chained binding step.after (applied ++ events_in step.items)
  one_save place applied step new =
      let tables = tables_by keeps chained binding place applied in
      let save = save_of keeps place step in
      let taken : takes chained binding tables save ≡ true =
      ap (λ b. b && are_distinct (times_of (kept_if keeps applied ++ kept_if keeps (events_in step.items))))
      (same_here (row_at chained binding place))
      ∙ kept_distinct keeps applied (events_in step.items) new in
      ap (λ b. cond b (joined step.after applied (events_in step.items)) tables) taken
      ∙ moved step.after applied (events_in step.items)

  pub saves_make : (place : Place) (applied : List Event) (steps : List Step)
      → are_distinct (times_of (applied ++ events_of_steps steps)) ≡ true
      → execute_all chained binding (tables_by keeps chained binding place applied) (saves_from keeps place steps)
      ≡ tables_by keeps chained binding (place_after place steps) (applied ++ events_of_steps steps)
  saves_make place applied [] new =
      ap (tables_by keeps chained binding place) (sym (append-nil applied))
  saves_make place applied (step ∷ steps) new =
      let more = events_in step.items in
      let later = events_of_steps steps in
      let grouped = append_assoc applied more later in
      let all : are_distinct (times_of ((applied ++ more) ++ later)) ≡ true =
      subst (λ l. are_distinct (times_of l) ≡ true) (sym grouped) new in
      ap (λ t. execute_all chained binding t (saves_from keeps step.after steps))
      (one_save place applied step (front_distinct (applied ++ more) later all))
      ∙ saves_make step.after (applied ++ more) steps all
      ∙ ap (tables_by keeps chained binding (place_after step.after steps)) grouped

pub saves_made : SavesMakeTables
saves_made keeps chained binding place applied steps new = saves_make keeps chained binding place applied steps new

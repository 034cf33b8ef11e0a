-- What the saves of followers of a chained queue leave in the tables.
use Rattle.std.proofs.Common.{◌≡◌, ℕ, List, [], ◌∷◌, ◌++◌, Bool, true, false, cond, refl, sym, ap, ◌∙◌, subst}
use Rattle.std.specs.List.{AllByRecursion, flat_map}
use Rattle.std.proofs.lemmas.Bool.{and_parts}
use Rattle.std.proofs.lemmas.List.Sums.{fold-append}
use Rattle.cdc_types.specs.declared.events.Event.{Event}
use Rattle.cdc_types.specs.Timestamps.{RiseFrom}
use Rattle.cdc_match.specs.Arguments.{Arguments}
use Rattle.cdc_subscriber.specs.Book.{are_distinct}
use Rattle.cdc_follow.specs.declared.entries.Entry.{Entry}
use Rattle.cdc_follow.specs.Following.{FollowState, follow_all, next_follow}
use Rattle.cdc_follow.specs.Laws.{IsOfQueue, KeepsPrefix, taken_by}
use Rattle.cdc_sql.specs.Laws.{AreOf, AreOfPrefix, IsSaveOf, SavesKeepAPrefix, WhateverSavesKeepAPrefix}
use Rattle.cdc_sql.specs.Laws.{step_by, steps_by}
use Rattle.cdc_sql.specs.Places.{place_of}
use Rattle.cdc_sql.specs.Rows.{put_rows}
use Rattle.cdc_sql.specs.Saves.{Save, Step, events_in, save_of, saves_from}
use Rattle.cdc_sql.specs.Tables.{Tables, execute, execute_all, row_at, same_row, tables_by, takes, times_of}
use Rattle.cdc_sql.proofs.RowLemmas.{place_of_row}
use Rattle.cdc_sql.proofs.StepLemmas.{all_grow, same_step, taken_distinct}
use Rattle.cdc_sql.proofs.TableLemmas.{moved, one_save}

module _ (keeps : Bool) (arguments : Arguments) (chained : Bool) (binding : List ℕ) (queue : List Event)
    (rise : RiseFrom 0 queue) where
  -- what a save makes of tables that it takes
  abbrev made_of : Tables → Save → Tables
  made_of tables save = record {
    book = row_at chained binding save.after;
    accounts = put_rows save.rows tables.accounts;
    events = tables.events ++ save.events;
  }

  -- the tables of a prefix after a save, which is taken, or isn't
  one_more : (tables : Tables) (are : AreOfPrefix keeps arguments chained binding queue tables) (save : Save)
      → (made : IsSaveOf keeps arguments queue save)
      → AreOfPrefix keeps arguments chained binding queue
      (execute chained binding (tables_by keeps chained binding (place_of are.state) (taken_by arguments are.prefix.before))
      save)
  one_more tables are save made = go (takes chained binding here save) refl
    where
      applied : List Event
      applied = taken_by arguments are.prefix.before

      here : Tables
      here = tables_by keeps chained binding (place_of are.state) applied

      step : Step
      step = step_by arguments are.state made.entries

      runs : save.before ≡ place_of are.state → AreOfPrefix keeps arguments chained binding queue (made_of here save)
      runs same =
          let place : place_of made.state ≡ place_of are.state =
          sym (ap (λ (s : Save). s.before) made.is) ∙ same in
          let own : step_by arguments made.state made.entries ≡ step =
          same_step arguments made.state are.state made.entries place in
          let grown = all_grow arguments queue rise are.state are.prefix made.entries made.are_of_queue in
          record {
            state = follow_all arguments are.state made.entries;
            prefix = grown.0;
            are = ap (made_of here) made.is
                ∙ ap (λ s. made_of here (save_of keeps (place_of made.state) s)) own
                ∙ moved keeps chained binding step.after applied (events_in step.items)
                ∙ ap (tables_by keeps chained binding step.after) (sym grown.1);
          }

      go : (b : Bool) → takes chained binding here save ≡ b
          → AreOfPrefix keeps arguments chained binding queue (cond b (made_of here save) here)
      go true taken =
          let row = and_parts (same_row here.book (row_at chained binding save.before)) _ taken in
          runs (sym (place_of_row chained binding (place_of are.state) save.before row.0))
      go false other = record { state = are.state; prefix = are.prefix; are = refl }

  pub whatever : (tables : Tables) (saves : List Save) → AreOfPrefix keeps arguments chained binding queue tables
      → AllByRecursion (IsSaveOf keeps arguments queue) saves
      → AreOfPrefix keeps arguments chained binding queue (execute_all chained binding tables saves)
  whatever tables [] are all = are
  whatever tables (save ∷ saves) are all =
      whatever (execute chained binding tables save) saves
      (subst (λ t. AreOfPrefix keeps arguments chained binding queue (execute chained binding t save)) (sym are.are)
      (one_more tables are save all.0)) all.1

  -- one save of a follower whose tables these are
  own_save : (state : FollowState) (prefix : KeepsPrefix arguments queue state) (entries : List Entry)
      → AllByRecursion (IsOfQueue queue) entries
      → AreOf keeps arguments chained binding queue (follow_all arguments state entries)
      (execute chained binding (tables_by keeps chained binding (place_of state) (taken_by arguments prefix.before))
      (save_of keeps (place_of state) (step_by arguments state entries)))
  own_save state prefix entries are =
      let step = step_by arguments state entries in
      let grown = all_grow arguments queue rise state prefix entries are in
      let new : are_distinct (times_of (taken_by arguments prefix.before ++ events_in step.items)) ≡ true =
      subst (λ l. are_distinct (times_of l) ≡ true) grown.1
      (taken_distinct arguments queue grown.0.before grown.0.after rise grown.0.whole) in (
        grown.0,
        one_save keeps chained binding (place_of state) (taken_by arguments prefix.before) step new
            ∙ ap (tables_by keeps chained binding step.after) (sym grown.1),
      )

  pub own_saves : (state : FollowState) (tables : Tables) (lists : List (List Entry))
      → AreOf keeps arguments chained binding queue state tables
      → AllByRecursion (AllByRecursion (IsOfQueue queue)) lists
      → AreOf keeps arguments chained binding queue
      (follow_all arguments state (flat_map (λ entries. entries) lists))
      (execute_all chained binding tables (saves_from keeps (place_of state) (steps_by arguments state lists)))
  own_saves state tables [] are all = are
  own_saves state tables (entries ∷ later) are all =
      let next = follow_all arguments state entries in
      let save = save_of keeps (place_of state) (step_by arguments state entries) in
      let first : AreOf keeps arguments chained binding queue next (execute chained binding tables save) =
      subst (λ t. AreOf keeps arguments chained binding queue next (execute chained binding t save)) (sym are.1)
      (own_save state are.0 entries all.0) in
      subst (λ s. AreOf keeps arguments chained binding queue s
      (execute_all chained binding (execute chained binding tables save)
      (saves_from keeps (place_of next) (steps_by arguments next later))))
      (sym (fold-append (next_follow arguments) state entries (flat_map (λ es. es) later)))
      (own_saves next (execute chained binding tables save) later first all.1)

pub whatever_saves : WhateverSavesKeepAPrefix
whatever_saves keeps arguments chained binding queue tables saves rise are all =
    whatever keeps arguments chained binding queue rise tables saves are all

pub prefix_kept : SavesKeepAPrefix
prefix_kept keeps arguments chained binding queue state tables taken rise are all =
    own_saves keeps arguments chained binding queue rise state tables taken are all

-- A follower that keeps what it applies takes an entry.
use Rattle.std.proofs.Common.{◌≡◌, ℕ, Bool, List, [], ◌∷◌, ◌++◌, append-nil, Option, None, Some, refl, sym, ap, ◌∙◌}
use Rattle.std.specs.Option.{option_map}
use Rattle.std.specs.declared.alloc.Global.{Global}
use Rattle.std.specs.declared.vec.Vec.{Vec}
use Rattle.cdc_types.specs.declared.events.Event.{Event}
use Rattle.cdc_match.specs.Arguments.{Arguments}
use Rattle.cdc_follow.specs.declared.entries.Entry.{Entry}
use Rattle.cdc_follow.specs.declared.follower.Following.{Following}
use Rattle.cdc_follow.specs.Following.{next_follow, outcome_of}
use Rattle.cdc_book_log.specs.Details.{items_of}
use Rattle.cdc_sql.specs.Places.{place_of}
use Rattle.cdc_sql.specs.Rows.{rows_after}
use Rattle.cdc_sql.specs.Saves.{events_in}
use Rattle.cdc_sql.specs.declared.rows.AccountRow.{AccountRow}
use Rattle.cdc_sql_book.specs.Recording.{IsRecordedSince, RecordedState, RecordsOn, Taking}
use Rattle.cdc_sql_book.specs.Recording.{events_taken}

-- the events of a vector, if there is one
abbrev pub listed : Option (Vec Event Global) → Option (List Event)
listed events = option_map (λ kept. kept.items) events

-- more events after those of a vector
listed_more : (events : Option (Vec Event Global)) (more : List Event)
    → option_map (λ kept. kept.items ++ more) events ≡ option_map (λ kept. kept ++ more) (listed events)
listed_more None more = refl
listed_more (Some kept) more = refl

pub take_moves : (binding : Arguments) (entry : Entry) (old new : RecordedState) (following : Following)
    (rows : List (ℕ × AccountRow)) (mid after : Option (Vec Event Global))
    → following ≡ outcome_of binding old.follower entry → new.base ≡ old.base → new.is_saved ≡ old.is_saved
    → new.follower ≡ next_follow binding old.follower entry → rows ≡ old.rows
    → new.rows ≡ rows_after rows (events_in (items_of following entry.content)) → listed mid ≡ old.events
    → listed after ≡ option_map (λ kept. kept.items ++ events_in (items_of following entry.content)) mid
    → new.events ≡ listed after → RecordsOn old new
take_moves binding entry old new following rows mid after answer base saved state same shown was kept events =
    let one = items_of (outcome_of binding old.follower entry) entry.content in
    let taken : List Taking = record { binding = binding; entry = entry } ∷ [] in
    let more : events_in (items_of following entry.content) ≡ events_taken old.follower taken =
    ap (λ f. events_in (items_of f entry.content)) answer ∙ ap events_in (sym (append-nil one)) in record {
      taken = taken;
      base = base;
      is_saved = saved;
      follower = state;
      rows = shown ∙ ap (λ r. rows_after r (events_in (items_of following entry.content))) same
          ∙ ap (rows_after old.rows) more;
      events = events ∙ kept ∙ listed_more mid (events_in (items_of following entry.content))
          ∙ ap (option_map (λ all. all ++ events_in (items_of following entry.content))) was
          ∙ ap (λ m. option_map (λ all. all ++ m) old.events) more;
    }

-- no events in the place of some
abbrev nothing : List Event → List Event
nothing events = []

-- a follower that begins to keep what it applies
pub fresh : (old : RecordedState) (is_saved : Bool) → IsRecordedSince old.follower (record {
  follower = old.follower;
  base = place_of old.follower;
  is_saved = is_saved;
  rows = [];
  events = option_map (λ _. []) old.events;
})
fresh old is_saved = record {
  taken = [];
  base = refl;
  follower = refl;
  rows = refl;
  events = none old.events;
}
  where
    none : (events : Option (List Event))
        → option_map nothing events ≡ option_map nothing (option_map nothing events)
    none None = refl
    none (Some kept) = refl

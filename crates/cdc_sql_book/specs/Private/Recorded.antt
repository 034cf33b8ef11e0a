-- Followers that keep what they apply: the ghost members of one, and their laws. Cited by no public contract.
use Rattle.std.proofs.Common.{◌≡◌, ◌++◌, List, [], Option, None, Some, append-nil, refl, sym, ap}
use Rattle.std.specs.Option.{option_map}
use Rattle.cdc_types.specs.declared.events.Event.{Event}
use Rattle.cdc_sql_book.specs.Recording.{RecordedState, RecordsOn}

-- a follower that takes nothing keeps nothing more
pub stays_so : (it : RecordedState) → RecordsOn it it
stays_so it = record {
  taken = [];
  base = refl;
  is_saved = refl;
  follower = refl;
  rows = refl;
  events = kept it.events;
}
  where
    kept : (events : Option (List Event)) → events ≡ option_map (λ kept. kept ++ []) events
    kept None = refl
    kept (Some events) = ap Some (sym (append-nil events))

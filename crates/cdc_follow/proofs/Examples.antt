-- The definitions at work, beside the rules.
use Rattle.std.specs.Prelude.{ℕ, ◌≡◌, true, false, [], ◌∷◌, codes, Some, None, Ok, Err}
use Rattle.std.proofs.Common.{refl}
use Rattle.std.specs.Str.{is_utf8, chars}
use Rattle.serde_json.proofs.OnLiterals.{serde_json_on_literals}
use Rattle.cdc_message.specs.declared.errors.DecodeError.TheVariants.{NotJson}
use Rattle.cdc_types.specs.declared.events.Event.{Event}
use Rattle.cdc_types.specs.declared.events.EventAccount.{EventAccount}
use Rattle.cdc_types.specs.declared.events.EventKind.TheVariants.{SinglePhase}
use Rattle.cdc_match.specs.Arguments.{Arguments}
use Rattle.cdc_match.specs.declared.pairs.Mode.TheVariants.{All}
use Rattle.cdc_match.specs.declared.pairs.Pair.TheVariants.{Ledger}
use Rattle.cdc_subscriber.specs.Reception.{kept_of, nothing}
use Rattle.cdc_follow.specs.declared.entries.Content.TheVariants as content
use Rattle.cdc_follow.specs.declared.entries.Entry.{Entry}
use Rattle.cdc_follow.specs.declared.errors.LineError.TheVariants.{Decode, PreviousMissing}
use Rattle.cdc_follow.specs.declared.follower.Following.TheVariants.{Applied, PassedBy, Duplicate, Gap, Ended}
use Rattle.cdc_follow.specs.declared.follower.Following.TheVariants.{AfterEnd, OutOfRange}
use Rattle.cdc_follow.specs.Entries.{line_entry}
use Rattle.cdc_follow.specs.Following.{FollowState, follow, follow_all, outcome_of}
use Rattle.cdc_follow.specs.Lines.{lines_of}
use Rattle.cdc_follow.specs.Streams.{NumberedEntry, stream_of, stream_of_lines}

-- the last line may be without a line feed; a line feed alone is an empty line
lines : (lines_of (codes "a\n\nbc") ≡ codes "a" ∷ [] ∷ codes "bc" ∷ [])
    × (lines_of (codes "a\n") ≡ codes "a" ∷ []) × (lines_of [] ≡ [])
unfolding lines_of
lines = (refl, refl, refl)

-- an end, chained and not
is_the_end : (line_entry true (codes "{\"end\":true,\"previous\":\"2000\"}")
    ≡ Ok (Some (record { content = content.End; previous = Some 2000 })))
    × (line_entry false (codes "{\"end\":true}") ≡ Ok (Some (record { content = content.End; previous = None })))
    × (line_entry true (codes "{\"end\":true}") ≡ Err PreviousMissing)
unfolding line_entry serde_json_on_literals is_utf8 chars
is_the_end = (refl, refl, refl)

-- lines that are ignored, and one that is no JSON text
is_ignored : (line_entry true [] ≡ Ok None) × (line_entry true (codes "\r") ≡ Ok None)
    × (line_entry true (codes "event_type=single_phase ledger=1") ≡ Ok None)
    × (line_entry true (codes "hello") ≡ Err (Decode NotJson))
unfolding line_entry serde_json_on_literals is_utf8 chars
is_ignored = (refl, refl, refl, refl)

-- what comes after a bad line is not read
stops_at_bad : stream_of false (codes "\nhello\n{\"end\":true}\n")
    ≡ record { entries = []; bad = Some (record { line = 2; error = Decode NotJson }) }
unfolding line_entry lines_of stream_of_lines serde_json_on_literals is_utf8 chars
stops_at_bad = refl

-- an account as an event shows it
abbrev side : ℕ → ℕ → ℕ → EventAccount
side id debits credits = record {
  id = id;
  debits_pending = 0;
  debits_posted = debits;
  credits_pending = 0;
  credits_posted = credits;
  user_data_128 = 0;
  user_data_64 = 0;
  user_data_32 = 0;
  code = 10;
  flags = 0;
  timestamp = 1000;
}

-- an event of a ledger
abbrev event : ℕ → ℕ → Event
event ledger timestamp = record {
  timestamp = timestamp;
  kind = SinglePhase;
  ledger = ledger;
  transfer = record {
    id = timestamp;
    amount = 1;
    pending_id = 0;
    user_data_128 = 0;
    user_data_64 = 0;
    user_data_32 = 0;
    timeout = 0;
    code = 1;
    flags = 0;
    timestamp = timestamp;
  };
  debit_account = side 1 1 0;
  credit_account = side 2 0 1;
}

-- an entry with this event, behind the event of that timestamp
abbrev entry : ℕ → ℕ → ℕ → Entry
entry previous ledger timestamp =
    record { content = content.Event (event ledger timestamp); previous = Some previous }

-- an entry of a stream that isn't chained
abbrev lone : ℕ → ℕ → Entry
lone ledger timestamp = record { content = content.Event (event ledger timestamp); previous = None }

-- the end of such a stream
abbrev plain_end : Entry
plain_end = record { content = content.End; previous = None }

-- the end behind the event of that timestamp
abbrev end : ℕ → Entry
end previous = record { content = content.End; previous = Some previous }

-- the events of ledger 700
abbrev of_700 : Arguments
of_700 = record { mode = All; pairs = Ledger 700 ∷ [] }

-- a follower that begins
abbrev begins : FollowState
begins = record { kept = kept_of nothing; seen = 0 }

-- after an event of ledger 700 at 2000 and one of ledger 800 at 2001
abbrev after_two : FollowState
after_two = follow_all of_700 begins (entry 0 700 2000 ∷ entry 2000 800 2001 ∷ [])

-- what becomes of entries then: the next event is applied, or passed by; an event again is a duplicate, also the one
-- that was passed by; behind a missing event there is a gap, and also before an event that follows an earlier one,
-- which is of another queue; and the end is complete only behind the last event seen
becomes : (outcome_of of_700 after_two (entry 2001 700 2002) ≡ Applied)
    × (outcome_of of_700 after_two (entry 2001 800 2002) ≡ PassedBy)
    × (outcome_of of_700 after_two (entry 2000 800 2001) ≡ Duplicate)
    × (outcome_of of_700 after_two (entry 2002 700 2003) ≡ Gap)
    × (outcome_of of_700 after_two (entry 2000 700 2002) ≡ Gap)
    × (outcome_of of_700 after_two (end 2002) ≡ Gap)
    × (outcome_of of_700 after_two (end 2000) ≡ Gap)
    × (outcome_of of_700 after_two (end 2001) ≡ Ended)
becomes = (refl, refl, refl, refl, refl, refl, refl, refl)

-- of 10, a foreign 20 that follows nothing, and 30 that follows 10, the first and the last are applied
foreign : (follow_all of_700 begins (entry 0 700 10 ∷ entry 0 700 20 ∷ entry 10 700 30 ∷ [])).kept.applied ≡ 2
foreign = refl

-- the greatest timestamp of a ledger is applied, a greater one isn't
out_of_range : (outcome_of of_700 after_two (entry 2001 700 9223372036854775807) ≡ Applied)
    × (outcome_of of_700 after_two (entry 2001 700 9223372036854775808) ≡ OutOfRange)
    × (outcome_of of_700 begins (lone 700 9223372036854775808) ≡ OutOfRange)
out_of_range = (refl, refl, refl)

-- what was applied last, and what was seen last
keeps_both : (after_two.kept.last ≡ 2000) × (after_two.seen ≡ 2001) × (after_two.kept.applied ≡ 1)
keeps_both = (refl, refl, refl)

-- without predecessors an event that the binding doesn't take changes nothing
passes_by : outcome_of of_700 (follow_all of_700 begins (lone 800 2001 ∷ [])) (lone 700 2000) ≡ Applied
passes_by = refl

-- after both events and the end
abbrev ended : FollowState
ended = follow_all of_700 after_two (end 2001 ∷ [])

-- after the end, events and the end again are duplicates; a later event contradicts it, whether the binding takes it or
-- not, and so does the end of another place
after_end : (outcome_of of_700 ended (entry 2000 800 2001) ≡ Duplicate)
    × (outcome_of of_700 ended (end 2001) ≡ Duplicate)
    × (outcome_of of_700 ended (entry 2001 700 2002) ≡ AfterEnd)
    × (outcome_of of_700 ended (entry 2001 800 2002) ≡ AfterEnd)
    × (outcome_of of_700 ended (end 2002) ≡ AfterEnd)
    × (outcome_of of_700 ended (end 2000) ≡ AfterEnd)
after_end = (refl, refl, refl, refl, refl, refl)

-- without predecessors only an event that the binding takes does, since another one may be a redelivery
after_plain_end : (outcome_of of_700 (follow_all of_700 begins (lone 700 2000 ∷ plain_end ∷ [])) (lone 700 2001)
    ≡ AfterEnd)
    × (outcome_of of_700 (follow_all of_700 begins (lone 700 2000 ∷ plain_end ∷ [])) (lone 800 2001) ≡ PassedBy)
after_plain_end = (refl, refl)

-- an entry and its line
abbrev at : ℕ → Entry → NumberedEntry
at line entry = record { line = line; entry = entry }

-- what contradicts the end isn't skipped
stops_after_end : (follow of_700 true begins (at 1 (end 0) ∷ at 2 (entry 0 700 2000) ∷ [])).at
    ≡ Some (at 2 (entry 0 700 2000))
unfolding follow
stops_after_end = refl

-- a follower stops at a gap, or skips it and goes on
stops_at_gap : ((follow of_700 false begins (at 1 (entry 0 700 2000) ∷ at 3 (entry 2001 700 2002) ∷ [])).at
    ≡ Some (at 3 (entry 2001 700 2002)))
    × ((follow of_700 true begins (at 3 (entry 2001 700 2002) ∷ at 4 (entry 0 700 2000) ∷ [])).state.seen ≡ 2000)
unfolding follow
stops_at_gap = (refl, refl)

-- The widths of what a line holds.
use Rattle.std.proofs.Common.{◌≡◌, Bool, true, false, cond, codes, nat_lt, length, Option, Some, None, Ok, Err, Result}
use Rattle.std.proofs.Common.{refl, ap, subst, ◌∙◌}
use Rattle.serde_json.specs.Data.{Data}
use Rattle.serde_json.specs.Find.{get}
use Rattle.cdc_types.specs.declared.events.Event.{Event}
use Rattle.cdc_message.specs.declared.errors.DecodeError.{DecodeError}
use Rattle.cdc_message.specs.Reading.{event_of, value_of}
use Rattle.cdc_message.specs.Widths.{EventFits}
use Rattle.cdc_follow.specs.declared.entries.Content.{Content}
use Rattle.cdc_follow.specs.declared.entries.Entry.{Entry}
use Rattle.cdc_follow.specs.declared.entries.TheConstants.{LONGEST_LINE}
use Rattle.cdc_follow.specs.declared.errors.LineError.{LineError}
use Rattle.cdc_follow.specs.Entries.{◌>>=◌, as_event, content_from, content_of, entry_of, is_ignored, is_true}
use Rattle.cdc_follow.specs.Entries.{line_entry, other_content, previous_of, value_entry}
use Rattle.cdc_follow.specs.Widths.{ContentFits, ReadEntriesFit}
use Rattle.cdc_follow.proofs.WidthLemmas.{chosen, event_fits, same_value}

-- what was read in the end was read of something that was read before
goes_on : {A B : Type 0} (read : Result A LineError) (rest : A → Result B LineError) (b : B) → (read >>= rest) ≡ Ok b
    → (a : A) × (read ≡ Ok a) × (rest a ≡ Ok b)
goes_on (Ok a) rest b is = (a, refl, is)
goes_on (Err why) rest b is = absurd cc

same_some : {A : Type 0} {a b : A} → ◌≡◌ {A = Option A} (Some a) (Some b) → a ≡ b
same_some is = cc

as_event_fits : (read : Result Event DecodeError) (c : Content) → ((e : Event) → read ≡ Ok e → EventFits e)
    → as_event read ≡ Ok c → ContentFits c
as_event_fits (Ok e) c fits is = subst ContentFits (same_value is) (fits e refl)
as_event_fits (Err why) c fits is = absurd cc

other_fits : (value : Data) (why : DecodeError) (body : Option Data) (c : Content)
    → other_content value why body ≡ Ok c → ContentFits c
other_fits value why None c is =
    let both = chosen (is_true (get (codes "end") value)) (Ok _) _ c is in subst ContentFits (same_value both.1) tt
other_fits value why (Some body) c is = as_event_fits (event_of body) c (event_fits body) is

content_fits : (value : Data) (read : Result Event DecodeError) (c : Content)
    → ((e : Event) → read ≡ Ok e → EventFits e) → content_from value read ≡ Ok c → ContentFits c
content_fits value (Ok e) c fits is = subst ContentFits (same_value is) (fits e refl)
content_fits value (Err why) c fits is = other_fits value why (get (codes "body") value) c is

entry_fits : (chained : Bool) (value : Data) (entry : Entry) → entry_of chained value ≡ Ok entry
    → ContentFits entry.content
entry_fits chained value entry is =
    let c = goes_on (content_of value) _ entry is in
    let previous = goes_on (previous_of chained value) _ entry c.2 in
    subst (λ (found : Entry). ContentFits found.content) (same_value previous.2)
    (content_fits value (event_of value) c.0 (event_fits value) c.1)

value_fits : (chained : Bool) (value : Option Data) (entry : Entry) → value_entry chained value ≡ Ok (Some entry)
    → ContentFits entry.content
value_fits chained None entry is = absurd cc
value_fits chained (Some value) entry is =
    let found = goes_on (entry_of chained value) _ (Some entry) is in
    entry_fits chained value entry (found.1 ∙ ap Ok (same_some (same_value found.2)))

-- a line that has an entry is neither too long nor ignored
has_entry : {E : Type 0} (long quiet : Bool) (why : E) (read : Result (Option Entry) E) (entry : Entry)
    → cond long (Err why) (cond quiet (Ok None) read) ≡ Ok (Some entry) → read ≡ Ok (Some entry)
has_entry true quiet why read entry is = absurd cc
has_entry false true why read entry is = absurd cc
has_entry false false why read entry is = is

pub entries_fit : ReadEntriesFit
unfolding line_entry
entries_fit chained line entry is =
    value_fits chained (value_of line) entry
    (has_entry (nat_lt LONGEST_LINE (length line)) (is_ignored line) _ (value_entry chained (value_of line)) entry is)

-- What is read of a ledger's log may be offered to a session, and it is all that is wanted if its last event is the
-- log's last.
use Rattle.std.proofs.Common.{◌≡◌, ℕ, ◌-◌, ◌<◌, ◌≤◌, Bool, true, Some, None, List, [], ◌∷◌, ◌++◌, zero, suc, refl, sym, ap, ap₂, ◌∙◌, append-nil, length, take, get_or, length-take, arith}
use Rattle.std.specs.Prelude.{Contains, nat_le, ◌&&◌}
use Rattle.std.specs.List.{AllByRecursion, slice_get}
use Rattle.std.proofs.lemmas.Bool.{lt-leb}
use Rattle.std.proofs.lemmas.Bool.Decides.{nat_tests}
use Rattle.std.proofs.lemmas.List.Elements.{Contains-append_right, Contains-get_or}
use Rattle.cdc_laws.specs.Readings.{none_follow}
use Rattle.cdc_laws.proofs.Lines.{events_past, split_events}
use Rattle.cdc_laws.proofs.Rising.{last_behind, last_late}
use Rattle.cdc_laws.proofs.ListElements.{each_has}
use Rattle.cdc_laws.proofs.Splits.{split_at}
use Rattle.cdc_ledger.specs.Events.{events}
use Rattle.cdc_ledger.specs.History.{History}
use Rattle.cdc_ledger.specs.Sound.{IsSound}
use Rattle.cdc_ledger.specs.Submit.{IsLegal}
use Rattle.cdc_ledger.proofs.KeptLaws.{IsSound-from_legal}
use Rattle.cdc_log.specs.Log.{RiseFrom, events_after}
use Rattle.cdc_publisher.specs.Offers.{IsReply}
use Rattle.cdc_publisher.specs.declared.session.Poll.{Poll}
use Rattle.cdc_message.proofs.ReplayLaws.{Contains-take_all}
use Rattle.cdc_types.specs.declared.events.Event.{Event}
use Rattle.cdc_types.proofs.Rising.{last_timestamp_from-slice_get}
use Rattle.cdc_types.specs.Timestamps.{last_timestamp, last_timestamp_from}

-- rising events are at most n exactly if the last of the first n is the last of all
take_whole : (t n : ℕ) (es : List Event) → RiseFrom t es
    → nat_le (last_timestamp_from t es) (last_timestamp_from t (take n es)) ≡ nat_le (length es) n
take_whole t zero [] rise = grind (arith, nat_tests)
take_whole t (suc n) [] rise = grind (arith, nat_tests)
take_whole t zero (e ∷ es) rise =
    let up = last_late e.timestamp es rise.1 in
    lt-leb (last_timestamp_from e.timestamp es) t (omega (arith, rise.0))
    ∙ sym (lt-leb (suc (length es)) 0 (omega arith))
take_whole t (suc n) (e ∷ es) rise =
    let same : nat_le (length es) n ≡ nat_le (suc (length es)) (suc n) = grind (arith, nat_tests) in
    take_whole e.timestamp n es rise.1 ∙ same

-- the last of a list whose front is up to a timestamp, and whose back is later
last_of_front : (s t : ℕ) (front : List Event) → s ≤ t → AllByRecursion (λ e. e.timestamp ≤ t) front
    → last_timestamp_from s front ≤ t
last_of_front s t [] low all = low
last_of_front s t (e ∷ front) low all = last_of_front e.timestamp t front all.0 all.1

-- the same test, whether the last of all or the last of the later ones is asked for
same_test : (s t read : ℕ) (front back : List Event) → s ≤ t → AllByRecursion (λ e. e.timestamp ≤ t) front → t ≤ read
    → nat_le (last_timestamp_from s (front ++ back)) read ≡ nat_le (last_timestamp_from t back) read
same_test s t read front [] low all up =
    let is = ap (last_timestamp_from s) (append-nil front) in
    let least = last_of_front s t front low all in
    grind (arith, nat_tests)
same_test s t read front (e ∷ back) low all up = ap (λ (n : ℕ). nat_le n read) (last_behind s front e back)

-- the first of rising events rise
take_rise : (t n : ℕ) (es : List Event) → RiseFrom t es → RiseFrom t (take n es)
take_rise t zero es rise = tt
take_rise t (suc n) [] rise = tt
take_rise t (suc n) (e ∷ es) rise = (rise.0, take_rise e.timestamp n es rise.1)

-- what is read is of the history's events
pub Contains-read : (h : History) (after limit : ℕ) (e : Event) → IsSound h
    → Contains (take limit (events_after after (events h))) e → Contains (events h) e
Contains-read h after limit e sound there =
    let later : List Event = events_after after (events h) in
    let cut = split_events h after sound in
    rw cut.1.whole (Contains-append_right cut.0 later e (Contains-take_all limit later e there))

-- so it may be offered: no timestamp is past the last one that the ledger gave out
pub IsReply-read : (h : History) (poll : Poll) → IsLegal h
    → IsReply poll (take poll.limit (events_after poll.after (events h)))
IsReply-read h poll legal =
    let sound : IsSound h = IsSound-from_legal h legal in
    let later : List Event = events_after poll.after (events h) in
    let cut = split_events h poll.after sound in
    record {
      count = omega (arith, length-take poll.limit later);
      rising = take_rise poll.after poll.limit later cut.1.rise;
      fits = λ k d below.
          let e : Event = get_or (take poll.limit later) k d in
          let there = Contains-read h poll.after _ e sound (Contains-get_or (take poll.limit later) k d below) in
          let past = each_has (λ x. x.timestamp ≤ h.last) (events h) e (events_past h sound) there in
          omega (arith, past, sound.within);
    }

-- so a read of a closed ledger's log is whole exactly if its last event is the log's last or, if it has none, if the
-- log has none later than the timestamp
pub read_is_whole : (h : History) (poll : Poll) (read : List Event) (last last_read : ℕ) → true ≡ h.closed
    → read ≡ take poll.limit (events_after poll.after (events h)) → RiseFrom 0 (events h)
    → last ≡ last_timestamp (events h) → last_read ≡ last_timestamp_from poll.after read
    → nat_le last last_read ≡ none_follow h poll
read_is_whole h poll read last last_read closed is rise at at_read =
    let after : ℕ = poll.after in
    let es : List Event = events h in
    let later : List Event = events_after after es in
    let first : ℕ = last_timestamp_from after (take poll.limit later) in
    let cut = split_at after 0 es rise in
    let up = last_late after (take poll.limit later) (take_rise after poll.limit later cut.1.rise) in
    ap₂ (λ (a b : ℕ). nat_le a b) at (at_read ∙ ap (last_timestamp_from after) is)
    ∙ (ap (λ (all : List Event). nat_le (last_timestamp all) first) cut.1.whole
    ∙ (same_test 0 after first cut.0 later (omega arith) cut.1.low up
    ∙ (take_whole after poll.limit later cut.1.rise
    ∙ ap (λ (b : Bool). b && nat_le (length later) poll.limit) closed)))

-- one is found at each place
found_within : {X : Type 0} (xs : List X) (i : ℕ) → i < length xs → slice_get xs i ≡ None → ⊥
found_within [] i below h = omega arith
found_within (x ∷ xs) zero below h = cc
found_within (x ∷ xs) (suc i) below h = found_within xs i (omega arith) h

-- the last of the events that were read
pub last_read_some : (t : ℕ) (es : List Event) (e : Event) → slice_get es (length es - 1) ≡ Some e
    → e.timestamp ≡ last_timestamp_from t es
last_read_some t [] e found = cc
last_read_some t (x ∷ es) e found = sym (last_timestamp_from-slice_get (x ∷ es) e found)

-- if nothing was read, the read is no further than its start
pub last_read_none : (t : ℕ) (es : List Event) → slice_get es (length es - 1) ≡ None → t ≡ last_timestamp_from t es
last_read_none t [] found = refl
last_read_none t (x ∷ es) found = absurd (found_within (x ∷ es) (length (x ∷ es) - 1) (omega arith) found)

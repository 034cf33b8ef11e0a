-- What a checked follower applies of bytes.
use Rattle.std.proofs.Common.{◌≡◌, ℕ, suc, zero, Bool, true, false, List, [], ◌∷◌, Option, Some, None, take, refl, sym, ap, ◌∙◌, subst}
use Rattle.std.specs.Prelude.{Contains, fold, if◌then◌else◌}
use Rattle.std.specs.List.{AllByRecursion}
use Rattle.cdc_types.specs.declared.events.Event.{Event}
use Rattle.cdc_ledger.specs.Events.{events}
use Rattle.cdc_follow.specs.declared.entries.Content.{Content}
use Rattle.cdc_follow.specs.declared.entries.Content.TheVariants as content
use Rattle.cdc_follow.specs.Streams.{NumberedEntry, stream_of}
use Rattle.cdc_checked.specs.Based.{next_by}
use Rattle.cdc_checked.specs.Standing.{outcome_by}
use Rattle.cdc_checked_follow.specs.declared.follower.Checking.{Checking}
use Rattle.cdc_checked_follow.specs.declared.follower.Checking.TheVariants.{OutOfRange}
use Rattle.cdc_checked_follow.specs.declared.streams.CheckStop.{CheckStop}
use Rattle.cdc_checked_follow.specs.Checking.{CheckedState, begins, begins_by, bytes_checked, check_entries, checked_on, checking_of, content_outcome, is_out_of_range, next_content, stop_at, stop_for}
use Rattle.cdc_checked_laws.specs.Laws.{FollowedBytesAreChecked, FollowedBytesMissNoMoney, FollowedBytesMissNothing, MovedNoMoney, MovedNothing, event_before, events_in, missed, missed_between}
use Rattle.cdc_checked_laws.proofs.Baselines.{baselines_miss_no_money}
use Rattle.cdc_checked_laws.proofs.Missed.{checked_accounts_miss_nothing}

-- an entry doesn't change whether events are applied by baseline
same_rule : (state : CheckedState) (c : Content) → (next_content state c).baseline ≡ state.baseline
same_rule state content.End = refl
same_rule state (content.Event e) = by (is_out_of_range e)
  where
    by : (b : Bool)
        → (if b then state else record state { applied = next_by state.baseline state.applied e }).baseline
        ≡ state.baseline
    by true = refl
    by false = refl

-- an entry at which following doesn't stop, and those after it
goes_on : (skips : Bool) (state : CheckedState) (c : Content) (line : ℕ) (later : List Event)
    → stop_for skips (content_outcome state c) line ≡ None
    → fold (next_by state.baseline) (next_content state c).applied later
    ≡ fold (next_by state.baseline) state.applied (event_before c later)
goes_on skips state content.End line later on = refl
goes_on skips state (content.Event e) line later on =
    ap (λ es. fold (next_by state.baseline) es later) (by (is_out_of_range e) refl)
  where
    by : (b : Bool) → is_out_of_range e ≡ b
        → (next_content state (content.Event e)).applied ≡ next_by state.baseline state.applied e
    by true out =
        let stops : stop_for skips OutOfRange line ≡ None =
        sym (ap (λ (made : Checking). stop_for skips made line) (outcome_out out)) ∙ on in
        cc
      where
        outcome_out : is_out_of_range e ≡ true → content_outcome state (content.Event e) ≡ OutOfRange
        outcome_out is =
            ap (λ b. if b then OutOfRange else checking_of (outcome_by state.baseline state.applied e)) is
    by false within =
        ap (λ b. (if b then state
        else record state { applied = next_by state.baseline state.applied e }).applied) within

-- some of the first entries
record ChecksSome (by_baseline : Bool) (applied from : List Event) (entries : List NumberedEntry) : Type 0 where
  pub count : ℕ
  pub same : applied ≡ fold (next_by by_baseline) from (events_in (take count entries))

some_checked : (skips : Bool) (state : CheckedState) (end : CheckStop) (entries : List NumberedEntry)
    → ChecksSome state.baseline (check_entries skips state end entries).state.applied state.applied entries
unfolding check_entries
some_checked skips state end [] = record { count = 0; same = refl }
some_checked skips state end (numbered ∷ rest) =
    by (stop_for skips (content_outcome state numbered.entry.content) numbered.line) refl
    (subst (λ b. ChecksSome b
    (check_entries skips (next_content state numbered.entry.content) end rest).state.applied
    (next_content state numbered.entry.content).applied rest) (same_rule state numbered.entry.content)
    (some_checked skips (next_content state numbered.entry.content) end rest))
  where
    by : (stop : Option CheckStop)
        → stop_for skips (content_outcome state numbered.entry.content) numbered.line ≡ stop
        → ChecksSome state.baseline
        (check_entries skips (next_content state numbered.entry.content) end rest).state.applied
        (next_content state numbered.entry.content).applied rest
        → ChecksSome state.baseline (checked_on stop state
        (check_entries skips (next_content state numbered.entry.content) end rest)).state.applied state.applied
        (numbered ∷ rest)
    by (Some why) is later = record { count = 0; same = refl }
    by None is later = record {
      count = suc later.count;
      same = later.same
          ∙ goes_on skips state numbered.entry.content numbered.line (events_in (take later.count rest)) is;
    }

pub followed_bytes_are_checked : FollowedBytesAreChecked
followed_bytes_are_checked skips state bytes =
    let stream = stream_of false bytes in
    let some = some_checked skips state (stop_at stream.bad) stream.entries in (some.count, some.same)

-- what holds of all events holds of the first ones
first_all : (P : Event → Type 0) (entries : List NumberedEntry) (count : ℕ) → AllByRecursion P (events_in entries)
    → AllByRecursion P (events_in (take count entries))
first_all P [] zero all = tt
first_all P [] (suc count) all = tt
first_all P (numbered ∷ rest) zero all = tt
first_all P (numbered ∷ rest) (suc count) all = by numbered.entry.content all (first_all P rest count)
  where
    by : (c : Content) → AllByRecursion P (event_before c (events_in rest))
        → (AllByRecursion P (events_in rest) → AllByRecursion P (events_in (take count rest)))
        → AllByRecursion P (event_before c (events_in (take count rest)))
    by (content.Event e) all rest_of = (all.0, rest_of all.1)
    by content.End all rest_of = rest_of all

pub followed_bytes_miss_nothing : FollowedBytesMissNothing
followed_bytes_miss_nothing h skips bytes id e legal inside there named =
    let some = followed_bytes_are_checked skips begins bytes in
    let entries = (stream_of false bytes).entries in
    let received = events_in (take some.0 entries) in
    subst (λ (es : List Event). MovedNothing (events h) (missed (events h) es id e.timestamp) id) (sym some.1)
    (checked_accounts_miss_nothing h received id e legal
    (first_all (Contains (events h)) entries some.0 inside)
    (subst (λ (es : List Event). Contains es e) some.1 there) named)

pub followed_bytes_miss_no_money : FollowedBytesMissNoMoney
followed_bytes_miss_no_money h skips bytes id f e legal inside f_there e_there f_named e_named =
    let some = followed_bytes_are_checked skips (begins_by true) bytes in
    let entries = (stream_of false bytes).entries in
    let received = events_in (take some.0 entries) in
    subst (λ (es : List Event). MovedNoMoney (missed_between (events h) es id f.timestamp e.timestamp) id) (sym some.1)
    (baselines_miss_no_money h received id f e legal
    (first_all (Contains (events h)) entries some.0 inside)
    (subst (λ (es : List Event). Contains es f) some.1 f_there)
    (subst (λ (es : List Event). Contains es e) some.1 e_there) f_named e_named)

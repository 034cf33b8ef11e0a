-- What a follower sees of a chained stream is a chain.
use Rattle.std.proofs.Common.{◌≡◌, ℕ, ◌<◌, List, [], ◌∷◌, ◌++◌, Bool, true, false, cond, Option, Some}
use Rattle.std.proofs.Common.{◌⊎◌, inl, inr, refl, sym, ap, ◌∙◌, subst, eqb-true, leb-false}
use Rattle.std.specs.Prelude.{fold, nat_eq, nat_le, nat_lt}
use Rattle.std.specs.List.{AllByRecursion}
use Rattle.cdc_types.specs.declared.bounds.TheConstants.Limits.{TIMESTAMP}
use Rattle.cdc_types.specs.declared.events.Event.{Event}
use Rattle.cdc_message.specs.declared.items.Item.TheVariants as item
use Rattle.cdc_message.specs.Headers.{headers_of_event}
use Rattle.cdc_match.specs.Arguments.{Arguments}
use Rattle.cdc_match.specs.Matching.{matches}
use Rattle.cdc_subscriber.specs.Answers.{listens}
use Rattle.cdc_subscriber.specs.Steps.{next_state}
use Rattle.cdc_subscriber.specs.SubscriberState.{SubscriberState}
use Rattle.cdc_follow.specs.declared.entries.Content.{Content}
use Rattle.cdc_follow.specs.declared.entries.Content.TheVariants as content
use Rattle.cdc_follow.specs.declared.entries.Entry.{Entry}
use Rattle.cdc_follow.specs.declared.follower.Following.{Following}
use Rattle.cdc_follow.specs.declared.follower.Following.TheVariants.{AfterEnd, Duplicate, OutOfRange}
use Rattle.cdc_follow.specs.Following.{FollowState, after_outcome, closed_outcome, content_outcome, follow_all}
use Rattle.cdc_follow.specs.Following.{next_follow, outcome_of, state_by}
use Rattle.cdc_follow.specs.Laws.{entries_in, reception_of, taken_by}
use Rattle.cdc_follow.specs.Streams.{NumberedEntry}
use Rattle.cdc_follow.proofs.FoldLemmas.{folds}
use Rattle.cdc_follow.proofs.StepLemmas.{next-closed, next-open, outcome-open}
use Rattle.cdc_follow_laws.specs.Chains.{FollowedStreamsAreChains, NamesPrevious, SeesAChain}
use Rattle.cdc_follow_laws.specs.Chains.{WhateverComesIsAChain, is_seen, seen_among}

-- ---- one entry

-- the entry of an event
abbrev event_entry : ℕ → Event → Entry
event_entry previous e = record { content = content.Event e; previous = Some previous }

-- the entry of the end
abbrev end_entry : ℕ → Entry
end_entry previous = record { content = content.End; previous = Some previous }

-- what a subscriber keeps after an event, if its binding takes it
abbrev kept_with : Arguments → SubscriberState → Event → SubscriberState
kept_with binding kept e = cond (matches binding (headers_of_event e)) (next_state kept (item.Event e)) kept

-- an entry isn't seen, and changes nothing
abbrev IsUnseen : FollowState → Following → FollowState → Type 0
IsUnseen old becomes new = (is_seen becomes ≡ false) × (new ≡ old)

-- it is an event that is later than the last one seen, and names that one's timestamp
abbrev IsNextEvent : Arguments → FollowState → Entry → Following → FollowState → Type 0
IsNextEvent binding old entry becomes new = (e : Event) × (entry ≡ event_entry old.seen e)
    × (old.seen < e.timestamp) × (is_seen becomes ≡ true)
    × (new ≡ record { kept = kept_with binding old.kept e; seen = e.timestamp })

-- it is the end, and names the timestamp of the last event seen
abbrev IsTheEnd : FollowState → Entry → Following → FollowState → Type 0
IsTheEnd old entry becomes new = (entry ≡ end_entry old.seen) × (is_seen becomes ≡ true)
    × (new ≡ record old { kept = next_state old.kept item.EndMark }) × (listens old.kept ≡ true)

-- one of these
abbrev IsStep : Arguments → FollowState → Entry → Following → FollowState → Type 0
IsStep binding old entry becomes new = IsUnseen old becomes new
    ⊎ (IsNextEvent binding old entry becomes new ⊎ IsTheEnd old entry becomes new)

-- a step that an open follower makes
abbrev IsOpenStep : Arguments → FollowState → ℕ → Content → Type 0
IsOpenStep binding old previous content =
    IsStep binding old (record { content = content; previous = Some previous })
    (content_outcome binding old.seen (Some previous) content)
    (state_by (content_outcome binding old.seen (Some previous) content) old (Some previous) content)

-- what is kept after an event, by whether the binding takes it
kept_by : (binding : Arguments) (old : FollowState) (e : Event) (takes : Bool)
    → matches binding (headers_of_event e) ≡ takes
    → ◌≡◌ {A = FollowState} (record { kept = kept_with binding old.kept e; seen = e.timestamp })
    (record { kept = cond takes (next_state old.kept (item.Event e)) old.kept; seen = e.timestamp })
kept_by binding old e takes is =
    let with_kept : SubscriberState → FollowState = λ kept. record { kept = kept; seen = e.timestamp } in
    ap (λ (b : Bool). with_kept (cond b (next_state old.kept (item.Event e)) old.kept)) is

-- an event, by what is known of it
event_step : (binding : Arguments) (old : FollowState) (previous : ℕ) (e : Event) (late high next takes : Bool)
    → nat_le e.timestamp old.seen ≡ late → nat_lt TIMESTAMP e.timestamp ≡ high → nat_eq previous old.seen ≡ next
    → matches binding (headers_of_event e) ≡ takes → IsOpenStep binding old previous (content.Event e)
event_step binding old previous e true high next takes l h n t = rw l (inl (refl, refl))
event_step binding old previous e false true next takes l h n t = rw (l, h) (inl (refl, refl))
event_step binding old previous e false false false takes l h n t = rw (l, h, n) (inl (refl, refl))
event_step binding old previous e false false true true l h n t =
    let names : event_entry previous e ≡ event_entry old.seen e =
    ap (λ (p : ℕ). event_entry p e) (eqb-true previous old.seen n) in
    let later : old.seen < e.timestamp = leb-false e.timestamp old.seen l in
    rw (l, h, n, t) (inr (inl (e, names, later, refl, sym (kept_by binding old e true t))))
event_step binding old previous e false false true false l h n t =
    let names : event_entry previous e ≡ event_entry old.seen e =
    ap (λ (p : ℕ). event_entry p e) (eqb-true previous old.seen n) in
    let later : old.seen < e.timestamp = leb-false e.timestamp old.seen l in
    rw (l, h, n, t) (inr (inl (e, names, later, refl, sym (kept_by binding old e false t))))

-- the end
end_step : (binding : Arguments) (old : FollowState) (previous : ℕ) (next : Bool) → listens old.kept ≡ true
    → nat_eq previous old.seen ≡ next → IsOpenStep binding old previous content.End
end_step binding old previous false listening n = rw n (inl (refl, refl))
end_step binding old previous true listening n =
    rw n (inr (inr (ap end_entry (eqb-true previous old.seen n), refl, refl, listening)))

-- either
open_step : (binding : Arguments) (old : FollowState) (previous : ℕ) (content : Content) → listens old.kept ≡ true
    → IsOpenStep binding old previous content
open_step binding old previous (content.Event e) listening =
    event_step binding old previous e _ _ _ _ refl refl refl refl
open_step binding old previous content.End listening = end_step binding old previous _ listening refl

-- a closed follower sees no entry that names its predecessor
after_unseen : (binding : Arguments) (seen previous : ℕ) (content : Content)
    → is_seen (after_outcome binding seen (Some previous) content) ≡ false
after_unseen binding seen previous (content.Event e) = by_event (nat_le e.timestamp seen) (nat_lt TIMESTAMP e.timestamp)
  where
    by_event : (late high : Bool) → is_seen (cond late Duplicate (cond high OutOfRange AfterEnd)) ≡ false
    by_event true high = refl
    by_event false true = refl
    by_event false false = refl
after_unseen binding seen previous content.End = by_end (nat_eq previous seen)
  where
    by_end : (next : Bool) → is_seen (cond next Duplicate AfterEnd) ≡ false
    by_end true = refl
    by_end false = refl

closed_unseen : (binding : Arguments) (state : FollowState) (entry : Entry) → NamesPrevious entry
    → listens state.kept ≡ false → is_seen (outcome_of binding state entry) ≡ false
closed_unseen binding state entry names closed =
    ap (λ (b : Bool). is_seen (cond b (content_outcome binding state.seen entry.previous entry.content)
    (closed_outcome binding state entry))) closed
    ∙ by_end state.kept.ended
  where
    by_end : (ended : Bool)
        → is_seen (cond ended (after_outcome binding state.seen entry.previous entry.content) Duplicate) ≡ false
    by_end true =
        ap (λ (p : Option ℕ). is_seen (after_outcome binding state.seen p entry.content)) names.1
        ∙ after_unseen binding state.seen names.0 entry.content
    by_end false = refl

-- each entry that names its predecessor makes such a step
step : (binding : Arguments) (state : FollowState) (entry : Entry) → NamesPrevious entry
    → IsStep binding state entry (outcome_of binding state entry) (next_follow binding state entry)
step binding state entry names = by_listening (listens state.kept) refl
  where
    by_listening : (listening : Bool) → listens state.kept ≡ listening
        → IsStep binding state entry (outcome_of binding state entry) (next_follow binding state entry)
    by_listening false closed =
        inl (closed_unseen binding state entry names closed, next-closed binding state entry closed)
    by_listening true listening =
        let made = subst (λ (p : Option ℕ). IsStep binding state (record { content = entry.content; previous = p })
        (content_outcome binding state.seen p entry.content)
        (state_by (content_outcome binding state.seen p entry.content) state p entry.content)) (sym names.1)
        (open_step binding state names.0 entry.content listening) in
        subst (λ (new : FollowState). IsStep binding state entry (outcome_of binding state entry) new)
        (sym (next-open binding state entry listening))
        (subst (λ (becomes : Following). IsStep binding state entry becomes
        (state_by (content_outcome binding state.seen entry.previous entry.content) state entry.previous entry.content))
        (sym (outcome-open binding state entry listening)) made)

-- ---- all entries

-- a closed follower sees nothing more, and keeps what it has
closed_all : (binding : Arguments) (state : FollowState) (entries : List Entry) → listens state.kept ≡ false
    → AllByRecursion NamesPrevious entries
    → (seen_among binding state entries ≡ []) × (follow_all binding state entries ≡ state)
closed_all binding state [] closed names = (refl, refl)
closed_all binding state (entry ∷ rest) closed names =
    let unseen = closed_unseen binding state entry names.0 closed in
    let same = next-closed binding state entry closed in
    let later = closed_all binding state rest closed names.1 in (
      ap (λ (b : Bool). cond b (entry ∷ seen_among binding (next_follow binding state entry) rest)
          (seen_among binding (next_follow binding state entry) rest)) unseen
          ∙ ap (λ (s : FollowState). seen_among binding s rest) same ∙ later.0,
      ap (λ (s : FollowState). follow_all binding s rest) same ∙ later.1,
    )

-- a subscriber that takes the end listens no more
end_closes : (kept : SubscriberState) → listens kept ≡ true → listens (next_state kept item.EndMark) ≡ false
end_closes kept listening = by_state kept.closed kept.ended refl refl
  where
    by_state : (closed ended : Bool) → kept.closed ≡ closed → kept.ended ≡ ended
        → listens (next_state kept item.EndMark) ≡ false
    by_state true ended c e = rw c refl
    by_state false true c e = rw (c, e) refl
    by_state false false c e = rw (c, e) refl

-- the first event of a chain is received if the binding takes it
received_first : (binding : Arguments) (kept : SubscriberState) (e : Event) (events : List Event) (ended takes : Bool)
    → matches binding (headers_of_event e) ≡ takes
    → fold next_state (kept_with binding kept e) (reception_of (taken_by binding events) ended).items
    ≡ fold next_state kept (reception_of (taken_by binding (e ∷ events)) ended).items
received_first binding kept e events ended true is = rw is refl
received_first binding kept e events ended false is = rw is refl

-- one entry in front of others
sees-first : (binding : Arguments) (state : FollowState) (entry : Entry) (rest : List Entry)
    → AllByRecursion NamesPrevious rest
    → ((old : FollowState) → SeesAChain binding old rest (follow_all binding old rest))
    → IsStep binding state entry (outcome_of binding state entry) (next_follow binding state entry)
    → SeesAChain binding state (entry ∷ rest) (follow_all binding (next_follow binding state entry) rest)
sees-first binding state entry rest names later (inl unseen) =
    let sees = later state in record {
      events = sees.events;
      ended = sees.ended;
      chain = ap (λ (b : Bool). cond b (entry ∷ seen_among binding (next_follow binding state entry) rest)
          (seen_among binding (next_follow binding state entry) rest)) unseen.0
          ∙ ap (λ (s : FollowState). seen_among binding s rest) unseen.1 ∙ sees.chain;
      rising = sees.rising;
      last = ap (λ (s : FollowState). (follow_all binding s rest).seen) unseen.1 ∙ sees.last;
      kept = ap (λ (s : FollowState). (follow_all binding s rest).kept) unseen.1 ∙ sees.kept;
    }
sees-first binding state entry rest names later (inr (inl event)) =
    let e = event.0 in
    let next : FollowState = record { kept = kept_with binding state.kept e; seen = e.timestamp } in
    let sees = later next in record {
      events = e ∷ sees.events;
      ended = sees.ended;
      chain = ap (λ (b : Bool). cond b (entry ∷ seen_among binding (next_follow binding state entry) rest)
          (seen_among binding (next_follow binding state entry) rest)) event.3
          ∙ ap (λ (s : FollowState). entry ∷ seen_among binding s rest) event.4
          ∙ ap (λ (first : Entry). first ∷ seen_among binding next rest) event.1
          ∙ ap (λ (others : List Entry). event_entry state.seen e ∷ others) sees.chain;
      rising = (event.2, sees.rising);
      last = ap (λ (s : FollowState). (follow_all binding s rest).seen) event.4 ∙ sees.last;
      kept = ap (λ (s : FollowState). (follow_all binding s rest).kept) event.4 ∙ sees.kept
          ∙ received_first binding state.kept e sees.events sees.ended _ refl;
    }
sees-first binding state entry rest names later (inr (inr ends)) =
    let next : FollowState = record state { kept = next_state state.kept item.EndMark } in
    let nothing = closed_all binding next rest (end_closes state.kept ends.3) names in record {
      events = [];
      ended = true;
      chain = ap (λ (b : Bool). cond b (entry ∷ seen_among binding (next_follow binding state entry) rest)
          (seen_among binding (next_follow binding state entry) rest)) ends.1
          ∙ ap (λ (s : FollowState). entry ∷ seen_among binding s rest) ends.2
          ∙ ap (λ (first : Entry). first ∷ seen_among binding next rest) ends.0
          ∙ ap (λ (others : List Entry). end_entry state.seen ∷ others) nothing.0;
      rising = tt;
      last = ap (λ (s : FollowState). (follow_all binding s rest).seen) ends.2
          ∙ ap (λ (s : FollowState). s.seen) nothing.1;
      kept = ap (λ (s : FollowState). (follow_all binding s rest).kept) ends.2
          ∙ ap (λ (s : FollowState). s.kept) nothing.1;
    }

pub sees_a_chain : WhateverComesIsAChain
sees_a_chain binding state [] names =
    record { events = []; ended = false; chain = refl; rising = tt; last = refl; kept = refl }
sees_a_chain binding state (entry ∷ rest) names =
    sees-first binding state entry rest names.1 (λ old. sees_a_chain binding old rest names.1)
    (step binding state entry names.0)

-- ---- entries of a stream

-- what holds of all entries holds of the first ones
names_first : (before after : List NumberedEntry) → AllByRecursion NamesPrevious (entries_in (before ++ after))
    → AllByRecursion NamesPrevious (entries_in before)
names_first [] after names = tt
names_first (numbered ∷ before) after names = (names.0, names_first before after names.1)

pub followed_are_chains : FollowedStreamsAreChains
followed_are_chains binding skips state numbered names =
    let done = folds binding skips state numbered in record {
      before = done.before;
      after = done.after;
      whole = done.whole;
      sees = subst (SeesAChain binding state (entries_in done.before)) (sym done.folds)
          (sees_a_chain binding state (entries_in done.before)
          (names_first done.before done.after
          (subst (λ (all : List NumberedEntry). AllByRecursion NamesPrevious (entries_in all)) done.whole names)));
    }

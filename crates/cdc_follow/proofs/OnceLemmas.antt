-- A follower that is handed entries again changes nothing.
use Rattle.std.proofs.Common.{◌≡◌, ℕ, zero, suc, ◌<◌, ◌≤◌, List, [], ◌∷◌, length, Bool, true, false, cond, Some, None}
use Rattle.std.proofs.Common.{Option, refl, sym, ap, ◌∙◌, arith, subst, le-leb, leb-false}
use Rattle.std.proofs.lemmas.Bool.{false≢true}
use Rattle.std.specs.Prelude.{◌&&◌, ◌||◌, not, nat_le, nat_lt, is_none, Contains, slice_index_or}
use Rattle.std.specs.List.{AllByRecursion}
use Rattle.std.proofs.lemmas.List.Sums.{fold-append}
use Rattle.cdc_types.specs.declared.bounds.TheConstants.Limits.{TIMESTAMP}
use Rattle.cdc_types.specs.declared.events.Event.{Event}
use Rattle.cdc_message.specs.declared.items.Item.TheVariants as item
use Rattle.cdc_message.specs.Headers.{headers_of_event}
use Rattle.cdc_match.specs.Arguments.{Arguments}
use Rattle.cdc_match.specs.Matching.{matches}
use Rattle.cdc_subscriber.specs.declared.subscriber.Taking.TheVariants.{AfterClose, Repeat}
use Rattle.cdc_subscriber.specs.Answers.{listens}
use Rattle.cdc_subscriber.specs.Steps.{next_state}
use Rattle.cdc_subscriber.specs.SubscriberState.{SubscriberState}
use Rattle.cdc_follow.specs.declared.entries.Content.{Content}
use Rattle.cdc_follow.specs.declared.entries.Content.TheVariants as content
use Rattle.cdc_follow.specs.declared.entries.Entry.{Entry}
use Rattle.cdc_follow.specs.Following.{FollowState, content_outcome, follow_all, follows, is_gap, next_follow}
use Rattle.cdc_follow.specs.Following.{outcome_of, state_by}
use Rattle.cdc_follow.specs.Laws.{GoingOnIsOnce, HasNoGap}
use Rattle.cdc_follow.proofs.StepLemmas.{le_longer, next-closed, next-open, outcome-open}

-- an event changes nothing of an open follower: it isn't later than the last one seen, no ledger has it, or it names
-- no predecessor and the binding doesn't take it
abbrev is_past : Arguments → ℕ → Option ℕ → Content → Bool
is_past binding seen previous (content.Event e) =
    nat_le e.timestamp seen
    || (nat_lt TIMESTAMP e.timestamp || (is_none previous && not (matches binding (headers_of_event e))))
is_past binding seen previous content.End = false

-- an entry changes nothing
abbrev is_settled : Arguments → FollowState → Entry → Bool
is_settled binding state entry = not (listens state.kept) || is_past binding state.seen entry.previous entry.content

or_right : (a b : Bool) → b ≡ true → (a || b) ≡ true
or_right true b is = refl
or_right false b is = is

or_left : (a b : Bool) → a ≡ true → (a || b) ≡ true
or_left true b is = refl
or_left false b is = absurd (false≢true is)

-- ---- an entry that is settled changes nothing

past_keeps : (binding : Arguments) (state : FollowState) (previous : Option ℕ) (content : Content)
    → is_past binding state.seen previous content ≡ true
    → state_by (content_outcome binding state.seen previous content) state previous content ≡ state
past_keeps binding state previous (content.Event e) past = late (nat_le e.timestamp state.seen) refl
  where
    let_pass : (taken : Bool) (previous : Option ℕ) → matches binding (headers_of_event e) ≡ taken
        → nat_le e.timestamp state.seen ≡ false → nat_lt TIMESTAMP e.timestamp ≡ false
        → (is_none previous && not taken) ≡ true
        → state_by (content_outcome binding state.seen previous (content.Event e)) state previous (content.Event e)
        ≡ state
    let_pass true None takes later within is = cc
    let_pass true (Some p) takes later within is = cc
    let_pass false None takes later within is = rw (later, within, takes) refl
    let_pass false (Some p) takes later within is = cc

    high : (t : Bool) → nat_lt TIMESTAMP e.timestamp ≡ t → nat_le e.timestamp state.seen ≡ false
        → (nat_lt TIMESTAMP e.timestamp || (is_none previous && not (matches binding (headers_of_event e)))) ≡ true
        → state_by (content_outcome binding state.seen previous (content.Event e)) state previous (content.Event e)
        ≡ state
    high true is later either = rw (later, is) refl
    high false is later either =
        let_pass (matches binding (headers_of_event e)) previous refl later is (rw is at either)

    late : (t : Bool) → nat_le e.timestamp state.seen ≡ t
        → state_by (content_outcome binding state.seen previous (content.Event e)) state previous (content.Event e)
        ≡ state
    late true is = rw is refl
    late false is = high (nat_lt TIMESTAMP e.timestamp) refl is (rw is at past)
past_keeps binding state previous content.End past = cc

settled_keeps : (binding : Arguments) (state : FollowState) (entry : Entry) → is_settled binding state entry ≡ true
    → next_follow binding state entry ≡ state
settled_keeps binding state entry settled = case_of (listens state.kept) refl
  where
    case_of : (b : Bool) → listens state.kept ≡ b → next_follow binding state entry ≡ state
    case_of false is = next-closed binding state entry is
    case_of true is = next-open binding state entry is
        ∙ past_keeps binding state entry.previous entry.content (rw is at settled)

-- ---- an entry that is settled stays so

rises-event : (binding : Arguments) (state : FollowState) (previous : Option ℕ) (e : Event)
    (late high next takes : Bool) → nat_le e.timestamp state.seen ≡ late → nat_lt TIMESTAMP e.timestamp ≡ high
    → follows state.seen previous ≡ next → matches binding (headers_of_event e) ≡ takes
    → state.seen ≤ (state_by (content_outcome binding state.seen previous (content.Event e)) state previous
    (content.Event e)).seen
rises-event binding state previous e true high next takes l h n t = rw l (omega arith)
rises-event binding state previous e false true next takes l h n t = rw (l, h) (omega arith)
rises-event binding state previous e false false false takes l h n t = rw (l, h, n) (omega arith)
rises-event binding state previous e false false true true l h n t =
    let later = leb-false e.timestamp state.seen l in rw (l, h, n, t) (omega (arith, later))
rises-event binding state None e false false true false l h n t = rw (l, h, t) (omega arith)
rises-event binding state (Some p) e false false true false l h n t =
    let later = leb-false e.timestamp state.seen l in rw (l, h, n, t) (omega (arith, later))

rises-content : (binding : Arguments) (state : FollowState) (previous : Option ℕ) (content : Content)
    → state.seen ≤ (state_by (content_outcome binding state.seen previous content) state previous content).seen
rises-content binding state previous (content.Event e) =
    rises-event binding state previous e _ _ _ _ refl refl refl refl
rises-content binding state previous content.End = case_of (follows state.seen previous) refl
  where
    case_of : (next : Bool) → follows state.seen previous ≡ next
        → state.seen
        ≤ (state_by (content_outcome binding state.seen previous content.End) state previous content.End).seen
    case_of true is = rw is (omega arith)
    case_of false is = rw is (omega arith)

-- an open follower's last event seen never gets earlier
seen_rises : (binding : Arguments) (state : FollowState) (entry : Entry) → listens state.kept ≡ true
    → state.seen ≤ (next_follow binding state entry).seen
seen_rises binding state entry listening =
    subst (λ (s : FollowState). state.seen ≤ s.seen) (sym (next-open binding state entry listening))
    (rises-content binding state entry.previous entry.content)

past_later : (binding : Arguments) (seen later : ℕ) (previous : Option ℕ) (content : Content) → seen ≤ later
    → is_past binding seen previous content ≡ true → is_past binding later previous content ≡ true
past_later binding seen later previous (content.Event e) rises past = case_of (nat_le e.timestamp seen) refl
  where
    case_of : (late : Bool) → nat_le e.timestamp seen ≡ late → is_past binding later previous (content.Event e) ≡ true
    case_of true is = or_left _ _ (le_longer e.timestamp seen later is rises)
    case_of false is = or_right (nat_le e.timestamp later) _ (rw is at past)
past_later binding seen later previous content.End rises past = past

settled_stays : (binding : Arguments) (state : FollowState) (entry other : Entry)
    → is_settled binding state entry ≡ true → is_settled binding (next_follow binding state other) entry ≡ true
settled_stays binding state entry other settled = case_of (listens state.kept) refl
  where
    case_of : (listening : Bool) → listens state.kept ≡ listening
        → is_settled binding (next_follow binding state other) entry ≡ true
    case_of false is =
        subst (λ s. is_settled binding s entry ≡ true) (sym (next-closed binding state other is)) settled
    case_of true is = or_right _ _
        (past_later binding state.seen _ entry.previous entry.content (seen_rises binding state other is)
        (rw is at settled))

all_settled : (binding : Arguments) (state : FollowState) (entries : List Entry) (entry : Entry)
    → is_settled binding state entry ≡ true → is_settled binding (follow_all binding state entries) entry ≡ true
all_settled binding state [] entry settled = settled
all_settled binding state (other ∷ entries) entry settled =
    all_settled binding (next_follow binding state other) entries entry
    (settled_stays binding state entry other settled)

-- ---- an entry before which there is no gap is settled afterwards

-- whoever has the end listens to nothing
end_settles : (kept : SubscriberState) → listens kept ≡ true → listens (next_state kept item.EndMark) ≡ false
end_settles kept listening =
    ap (λ b. listens (cond b (record kept { ended = true }) kept)) listening ∙ case_of kept.closed
  where
    case_of : (closed : Bool) → is_none (cond closed (Some AfterClose) (Some Repeat)) ≡ false
    case_of true = refl
    case_of false = refl

settles-event : (binding : Arguments) (state : FollowState) (previous : Option ℕ) (e : Event)
    (late high next takes : Bool) → listens state.kept ≡ true → nat_le e.timestamp state.seen ≡ late
    → nat_lt TIMESTAMP e.timestamp ≡ high → follows state.seen previous ≡ next
    → matches binding (headers_of_event e) ≡ takes
    → is_gap (content_outcome binding state.seen previous (content.Event e)) ≡ false
    → is_past binding (state_by (content_outcome binding state.seen previous (content.Event e)) state previous
    (content.Event e)).seen previous (content.Event e) ≡ true
settles-event binding state previous e true high next takes listening l h n t none = rw l (or_left _ _ l)
settles-event binding state previous e false true next takes listening l h n t none =
    rw (l, h) (or_right _ true refl)
settles-event binding state previous e false false false takes listening l h n t none =
    absurd (false≢true (sym (rw (l, h, n) at none)))
settles-event binding state previous e false false true true listening l h n t none =
    rw (l, h, n, t) (or_left _ _ (le-leb e.timestamp e.timestamp (omega arith)))
settles-event binding state None e false false true false listening l h n t none =
    rw (l, h, t) (or_right _ _ refl)
settles-event binding state (Some p) e false false true false listening l h n t none =
    rw (l, h, n, t) (or_left _ _ (le-leb e.timestamp e.timestamp (omega arith)))

settles-content : (binding : Arguments) (state : FollowState) (entry : Entry) (content : Content)
    → entry.content ≡ content → listens state.kept ≡ true
    → is_gap (content_outcome binding state.seen entry.previous content) ≡ false
    → (not (listens (state_by (content_outcome binding state.seen entry.previous content) state entry.previous
    content).kept)
    || is_past binding (state_by (content_outcome binding state.seen entry.previous content) state entry.previous
    content).seen
    entry.previous content) ≡ true
settles-content binding state entry (content.Event e) is listening none =
    or_right _ _ (settles-event binding state entry.previous e _ _ _ _ listening refl refl refl refl none)
settles-content binding state entry content.End is listening none = case_of (follows state.seen entry.previous) refl
  where
    case_of : (next : Bool) → follows state.seen entry.previous ≡ next
        → (not (listens (state_by (content_outcome binding state.seen entry.previous content.End) state entry.previous
        content.End).kept) || is_past binding state.seen entry.previous content.End) ≡ true
    case_of false is = absurd (false≢true (sym (rw is at none)))
    case_of true is = rw is (or_left (not (listens (next_state state.kept item.EndMark))) _
        (ap not (end_settles state.kept listening)))

taken_settles : (binding : Arguments) (state : FollowState) (entry : Entry)
    → is_gap (outcome_of binding state entry) ≡ false
    → is_settled binding (next_follow binding state entry) entry ≡ true
taken_settles binding state entry none = case_of (listens state.kept) refl
  where
    case_of : (listening : Bool) → listens state.kept ≡ listening
        → is_settled binding (next_follow binding state entry) entry ≡ true
    case_of false is =
        subst (λ s. is_settled binding s entry ≡ true) (sym (next-closed binding state entry is))
        (or_left _ _ (ap not is))
    case_of true is =
        subst (λ s. is_settled binding s entry ≡ true) (sym (next-open binding state entry is))
        (settles-content binding state entry entry.content refl is
        (sym (ap is_gap (outcome-open binding state entry is)) ∙ none))

-- ---- going on

taken_are_settled : (binding : Arguments) (state : FollowState) (taken : List Entry) (entry : Entry) (k : ℕ)
    → HasNoGap binding state taken → k < length taken → slice_index_or taken k entry ≡ entry
    → is_settled binding (follow_all binding state taken) entry ≡ true
taken_are_settled binding state [] entry k none below is = absurd (omega (arith, below))
taken_are_settled binding state (first ∷ taken) entry zero none below is =
    all_settled binding (next_follow binding state first) taken entry
    (subst (λ e. is_settled binding (next_follow binding state first) e ≡ true) is
    (taken_settles binding state first none.0))
taken_are_settled binding state (first ∷ taken) entry (suc k) none below is =
    taken_are_settled binding (next_follow binding state first) taken entry k none.1 (omega (arith, below)) is

again_keeps : (binding : Arguments) (state : FollowState) (taken again : List Entry) → HasNoGap binding state taken
    → AllByRecursion (Contains taken) again
    → follow_all binding (follow_all binding state taken) again ≡ follow_all binding state taken
again_keeps binding state taken [] none are = refl
again_keeps binding state taken (entry ∷ again) none are =
    let kept = settled_keeps binding (follow_all binding state taken) entry
    (taken_are_settled binding state taken entry are.0.0 none are.0.1 are.0.2) in
    ap (λ s. follow_all binding s again) kept ∙ again_keeps binding state taken again none are.1

pub goes_on_once : GoingOnIsOnce
goes_on_once binding state taken again others none are =
    fold-append (next_follow binding) (follow_all binding state taken) again others
    ∙ ap (λ s. follow_all binding s others) (again_keeps binding state taken again none are)
    ∙ sym (fold-append (next_follow binding) state taken others)

-- A follower's step, by whether it is open.
use Rattle.std.proofs.Common.{◌≡◌, ℕ, ◌≤◌, Bool, true, false, cond, Option, Some, None, refl, ap, ◌∙◌, arith}
use Rattle.std.proofs.Common.{le-leb, leb-true}
use Rattle.std.specs.Prelude.{nat_le, nat_lt}
use Rattle.cdc_types.specs.declared.bounds.TheConstants.Limits.{TIMESTAMP}
use Rattle.cdc_message.specs.Headers.{headers_of_event}
use Rattle.cdc_match.specs.Arguments.{Arguments}
use Rattle.cdc_match.specs.Matching.{matches}
use Rattle.cdc_subscriber.specs.Answers.{listens}
use Rattle.cdc_follow.specs.declared.entries.Content.{Content}
use Rattle.cdc_follow.specs.declared.entries.Content.TheVariants as content
use Rattle.cdc_follow.specs.declared.entries.Entry.{Entry}
use Rattle.cdc_follow.specs.declared.follower.Following.TheVariants.{AfterEnd, Duplicate, OutOfRange, PassedBy}
use Rattle.cdc_follow.specs.Following.{FollowState, after_outcome, belongs, closed_outcome, content_outcome, follows}
use Rattle.cdc_follow.specs.Following.{next_follow, outcome_of, state_by}

-- what becomes of an entry that an open follower takes
pub outcome-open : (binding : Arguments) (state : FollowState) (entry : Entry) → listens state.kept ≡ true
    → outcome_of binding state entry ≡ content_outcome binding state.seen entry.previous entry.content
outcome-open binding state entry listening =
    ap (λ b. cond b (content_outcome binding state.seen entry.previous entry.content)
    (closed_outcome binding state entry)) listening

-- and what is kept then
pub next-open : (binding : Arguments) (state : FollowState) (entry : Entry) → listens state.kept ≡ true
    → next_follow binding state entry
    ≡ state_by (content_outcome binding state.seen entry.previous entry.content) state entry.previous entry.content
next-open binding state entry listening =
    ap (λ made. state_by made state entry.previous entry.content) (outcome-open binding state entry listening)

-- nothing changes after the end
after_keeps : (binding : Arguments) (state : FollowState) (previous : Option ℕ) (content : Content)
    → state_by (after_outcome binding state.seen previous content) state previous content ≡ state
after_keeps binding state previous (content.Event e) =
    by_event (nat_le e.timestamp state.seen) (nat_lt TIMESTAMP e.timestamp) previous
  where
    by_event : (late high : Bool) (previous : Option ℕ)
        → state_by
        (cond late Duplicate (cond high OutOfRange (cond (belongs binding previous e) AfterEnd PassedBy)))
        state previous (content.Event e) ≡ state
    by_event true high previous = refl
    by_event false true previous = refl
    by_event false false (Some p) = refl
    by_event false false None = by_binding (matches binding (headers_of_event e))
      where
        by_binding : (takes : Bool)
            → state_by (cond takes AfterEnd PassedBy) state None (content.Event e) ≡ state
        by_binding true = refl
        by_binding false = refl
after_keeps binding state previous content.End = by_end (follows state.seen previous)
  where
    by_end : (next : Bool) → state_by (cond next Duplicate AfterEnd) state previous content.End ≡ state
    by_end true = refl
    by_end false = refl

closed_keeps : (binding : Arguments) (state : FollowState) (entry : Entry)
    → state_by (closed_outcome binding state entry) state entry.previous entry.content ≡ state
closed_keeps binding state entry = by_end state.kept.ended
  where
    by_end : (ended : Bool)
        → state_by (cond ended (after_outcome binding state.seen entry.previous entry.content) Duplicate) state
        entry.previous entry.content ≡ state
    by_end true = after_keeps binding state entry.previous entry.content
    by_end false = refl

pub next-closed : (binding : Arguments) (state : FollowState) (entry : Entry) → listens state.kept ≡ false
    → next_follow binding state entry ≡ state
next-closed binding state entry closed =
    ap (λ b. state_by (cond b (content_outcome binding state.seen entry.previous entry.content)
    (closed_outcome binding state entry)) state entry.previous entry.content) closed
    ∙ closed_keeps binding state entry

-- a timestamp that isn't later than a later one
pub le_longer : (t a b : ℕ) → nat_le t a ≡ true → a ≤ b → nat_le t b ≡ true
le_longer t a b is more = le-leb t b (omega (arith, leb-true t a is, more))

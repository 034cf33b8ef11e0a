-- A follower of entries without predecessors is a subscriber of what its binding takes.
use Rattle.std.proofs.Common.{◌≡◌, List, [], ◌∷◌, Bool, true, false, cond, None, refl, sym, ap, ◌∙◌, subst}
use Rattle.std.specs.Prelude.{◌&&◌, not, nat_le, nat_lt, filter, fold, map}
use Rattle.cdc_types.specs.declared.bounds.TheConstants.Limits.{TIMESTAMP}
use Rattle.cdc_types.specs.declared.events.Event.{Event}
use Rattle.cdc_message.specs.declared.items.Item.TheVariants as item
use Rattle.cdc_message.specs.Headers.{headers_of_event}
use Rattle.cdc_match.specs.Arguments.{Arguments}
use Rattle.cdc_match.specs.Matching.{matches}
use Rattle.cdc_subscriber.specs.Answers.{listens}
use Rattle.cdc_subscriber.specs.Steps.{next_state, taken, with_event}
use Rattle.cdc_subscriber.specs.SubscriberState.{SubscriberState}
use Rattle.cdc_follow.specs.declared.entries.Content.{Content}
use Rattle.cdc_follow.specs.declared.entries.Content.TheVariants as content
use Rattle.cdc_follow.specs.declared.entries.Entry.{Entry}
use Rattle.cdc_follow.specs.Following.{FollowState, content_outcome, next_follow, state_by}
use Rattle.cdc_follow.specs.Laws.{PlainFollowersAreSubscribers, is_taken, item_of, items_taken}
use Rattle.cdc_follow.proofs.StepLemmas.{next-closed, next-open}

-- a follower goes to a state that keeps this, and in which the last event seen is the last one applied
record GoesTo (kept : SubscriberState) (state : FollowState) : Type 0 where
  pub is : state.kept ≡ kept
  pub last : state.seen ≡ state.kept.last

-- an event, by whether it is late and whether the binding takes it
plain-event : (binding : Arguments) (state : FollowState) (e : Event) (late high takes : Bool)
    → state.seen ≡ state.kept.last → listens state.kept ≡ true → nat_le e.timestamp state.seen ≡ late
    → nat_lt TIMESTAMP e.timestamp ≡ high → matches binding (headers_of_event e) ≡ takes
    → GoesTo (cond (not high && takes) (next_state state.kept (item.Event e)) state.kept)
    (state_by (content_outcome binding state.seen None (content.Event e)) state None (content.Event e))
plain-event binding state e true false true last listening l h t =
    let old : nat_le e.timestamp state.kept.last ≡ true = ap (nat_le e.timestamp) (sym last) ∙ l in
    rw l (record {
      is = sym (ap (λ b. cond b (cond (nat_le e.timestamp state.kept.last) state.kept (with_event state.kept e))
          state.kept)
          listening ∙ ap (λ b. cond b state.kept (with_event state.kept e)) old);
      last = last;
    })
plain-event binding state e true false false last listening l h t = rw l (record { is = refl; last = last })
plain-event binding state e true true takes last listening l h t = rw l (record { is = refl; last = last })
plain-event binding state e false true takes last listening l h t = rw (l, h) (record { is = refl; last = last })
plain-event binding state e false false true last listening l h t =
    let old : nat_le e.timestamp state.kept.last ≡ false = ap (nat_le e.timestamp) (sym last) ∙ l in
    rw (l, h, t) (record {
      is = refl;
      last = sym (ap (λ b. (cond b (cond (nat_le e.timestamp state.kept.last) state.kept (with_event state.kept e))
          state.kept).last) listening ∙ ap (λ b. (cond b state.kept (with_event state.kept e)).last) old);
    })
plain-event binding state e false false false last listening l h t =
    rw (l, h, t) (record { is = refl; last = last })

plain-content : (binding : Arguments) (state : FollowState) (content : Content) → state.seen ≡ state.kept.last
    → listens state.kept ≡ true
    → GoesTo (cond (is_taken binding content) (next_state state.kept (item_of content)) state.kept)
    (state_by (content_outcome binding state.seen None content) state None content)
plain-content binding state (content.Event e) last listening =
    plain-event binding state e _ _ _ last listening refl refl refl
plain-content binding state content.End last listening =
    record {
      is = refl;
      last = last ∙ sym (ap (λ b. (cond b (record state.kept { ended = true }) state.kept).last) listening);
    }

-- a subscriber that doesn't listen keeps what it has
deaf : (binding : Arguments) (kept : SubscriberState) (content : Content) (takes : Bool) → listens kept ≡ false
    → kept ≡ cond takes (next_state kept (item_of content)) kept
deaf binding kept content true closed = sym (ap (λ b. cond b (taken kept (item_of content)) kept) closed)
deaf binding kept content false closed = refl

plain-entry : (binding : Arguments) (state : FollowState) (entry : Entry) → state.seen ≡ state.kept.last
    → entry.previous ≡ None
    → GoesTo (cond (is_taken binding entry.content) (next_state state.kept (item_of entry.content)) state.kept)
    (next_follow binding state entry)
plain-entry binding state entry last none = case_of (listens state.kept) refl
  where
    case_of : (listening : Bool) → listens state.kept ≡ listening
        → GoesTo (cond (is_taken binding entry.content) (next_state state.kept (item_of entry.content)) state.kept)
        (next_follow binding state entry)
    case_of false is =
        subst
        (GoesTo (cond (is_taken binding entry.content) (next_state state.kept (item_of entry.content)) state.kept))
        (sym (next-closed binding state entry is))
        (record { is = deaf binding state.kept entry.content (is_taken binding entry.content) is; last = last })
    case_of true is =
        let plain : next_follow binding state entry
        ≡ state_by (content_outcome binding state.seen None entry.content) state None entry.content =
        next-open binding state entry is
        ∙ ap (λ p. state_by (content_outcome binding state.seen p entry.content) state p entry.content) none in
        subst
        (GoesTo (cond (is_taken binding entry.content) (next_state state.kept (item_of entry.content)) state.kept))
        (sym plain) (plain-content binding state entry.content last is)

-- what is handed on of an entry
fold-taken : (binding : Arguments) (kept : SubscriberState) (content : Content) (contents : List Content) (takes : Bool)
    → is_taken binding content ≡ takes
    → fold next_state (cond takes (next_state kept (item_of content)) kept)
    (map item_of (filter (is_taken binding) contents))
    ≡ fold next_state kept (map item_of (filter (is_taken binding) (content ∷ contents)))
fold-taken binding kept content contents true is = rw is refl
fold-taken binding kept content contents false is = rw is refl

pub plain_followers : PlainFollowersAreSubscribers
plain_followers binding state [] last none = refl
plain_followers binding state (entry ∷ entries) last none =
    let step = plain-entry binding state entry last none.0 in
    plain_followers binding (next_follow binding state entry) entries step.last none.1
    ∙ (ap (λ kept. fold next_state kept (items_taken binding entries)) step.is
    ∙ fold-taken binding state.kept entry.content (map (λ entry. entry.content) entries) _ refl)

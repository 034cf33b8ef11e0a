-- Streams of events that are accepted: of two parts, and of all but the last event.
use Rattle.std.proofs.Common.{◌≡◌, zero, suc, ℕ, true, List, [], ◌∷◌, ◌++◌, Option, Some, None, is_none, take, refl, ap, append_assoc, append-nil, subst, sym}
use Rattle.cdc_audit_laws.proofs.OfStd.{and_from, and_parts}
use Rattle.cdc_audit_laws.proofs.OfTypes.{Event, RiseFrom, last_timestamp, last_timestamp_from-push}
use Rattle.cdc_audit_laws.proofs.OfAudit.{Refusal, follows_on, is_accepted, refusal}
use Rattle.cdc_audit_laws.specs.Laws.{AcceptedEventsRise, PrefixesAreAccepted}
use Rattle.cdc_audit_laws.proofs.Following.{CanFollow, no_refusal, roomy, unrefused}
use Rattle.cdc_audit_laws.proofs.Rooms.{HasRoomAt, from_lines, to_lines}

-- no refusal
none_is : {A : Type 0} (o : Option A) → is_none o ≡ true → o ≡ None
none_is None is = refl
none_is (Some x) is = cc

-- an event follows if it and those after it follow
pub first_follows : (past : List Event) (e : Event) (rest : List Event) → follows_on past (e ∷ rest) ≡ true
    → CanFollow past e × (follows_on (past ++ e ∷ []) rest ≡ true)
unfolding follows_on
first_follows past e rest all =
    let parts = and_parts (is_none (refusal past e)) (follows_on (past ++ e ∷ []) rest) all in
    (unrefused past e (none_is (refusal past e) parts.0), parts.1)

-- and each chain that it is in can have its next item
pub first_room : (past : List Event) (e : Event) (rest : List Event) → follows_on past (e ∷ rest) ≡ true
    → HasRoomAt past e
unfolding follows_on
first_room past e rest all =
    let parts = and_parts (is_none (refusal past e)) (follows_on (past ++ e ∷ []) rest) all in
    from_lines past e (roomy past e (none_is (refusal past e) parts.0))

-- and the other way round
pub follows_first : (past : List Event) (e : Event) (rest : List Event) → CanFollow past e → HasRoomAt past e
    → follows_on (past ++ e ∷ []) rest ≡ true → follows_on past (e ∷ rest) ≡ true
unfolding follows_on
follows_first past e rest can room others =
    and_from _ _ (ap (λ (o : Option Refusal). is_none o) (no_refusal past e can (to_lines past e room))) others

-- nothing follows anything
pub none_follows : (past : List Event) → follows_on past [] ≡ true
unfolding follows_on
none_follows past = refl

-- events in two parts: the first ones follow, and so do the others after them
pub parts_follow : (past front back : List Event) → follows_on past (front ++ back) ≡ true
    → (follows_on past front ≡ true) × (follows_on (past ++ front) back ≡ true)
parts_follow past [] back all = (none_follows past, rw append-nil all)
parts_follow past (e ∷ front) back all =
    let first = first_follows past e (front ++ back) all in
    let rest = parts_follow (past ++ e ∷ []) front back first.1 in (
      follows_first past e front first.0 (first_room past e (front ++ back) all) rest.0,
      rw append_assoc at rest.1,
    )

-- and the other way round
pub follow_parts : (past front back : List Event) → follows_on past front ≡ true
    → follows_on (past ++ front) back ≡ true → follows_on past (front ++ back) ≡ true
follow_parts past [] back before after = rw append-nil at after
follow_parts past (e ∷ front) back before after =
    let first = first_follows past e front before in
    follows_first past e (front ++ back) first.0 (first_room past e front before)
    (follow_parts (past ++ e ∷ []) front back first.1 (rw append_assoc after))

-- the last event of an accepted stream follows those before it, which are accepted
pub last_follows : (front : List Event) (e : Event) → is_accepted (front ++ e ∷ []) ≡ true
    → (is_accepted front ≡ true) × CanFollow front e
last_follows front e all =
    let parts = parts_follow [] front (e ∷ []) all in
    (parts.0, (first_follows front e [] parts.1).0)

-- ---- the rules on next items of chains apart

-- each of these events follows from those before it, whatever the rules on the next items of chains are
abbrev pub FollowAll : List Event → List Event → Type 0
FollowAll past [] = Unit {0}
FollowAll past (e ∷ rest) = CanFollow past e × FollowAll (past ++ e ∷ []) rest

-- and each keeps those rules
abbrev pub HaveRoomAll : List Event → List Event → Type 0
HaveRoomAll past [] = Unit {0}
HaveRoomAll past (e ∷ rest) = HasRoomAt past e × HaveRoomAll (past ++ e ∷ []) rest

-- one more event
pub follow_all-push : (past rest : List Event) (e : Event) → FollowAll past rest → CanFollow (past ++ rest) e
    → FollowAll past (rest ++ e ∷ [])
follow_all-push past [] e all can = (subst (λ es. CanFollow es e) (append-nil past) can, tt)
follow_all-push past (x ∷ rest) e all can = (
  all.0,
  follow_all-push (past ++ x ∷ []) rest e all.1
      (subst (λ es. CanFollow es e) (sym (append_assoc past (x ∷ []) rest)) can),
)

-- both together
pub follow_all : (past rest : List Event) → FollowAll past rest → HaveRoomAll past rest → follows_on past rest ≡ true
follow_all past [] all room = none_follows past
follow_all past (e ∷ rest) all room =
    follows_first past e rest all.0 room.0 (follow_all (past ++ e ∷ []) rest all.1 room.1)

-- each prefix of events that follow follows
prefix_follows : (count : ℕ) (past events : List Event) → follows_on past events ≡ true
    → follows_on past (take count events) ≡ true
prefix_follows zero past events all = none_follows past
prefix_follows (suc count) past [] all = none_follows past
prefix_follows (suc count) past (e ∷ rest) all =
    let first = first_follows past e rest all in
    follows_first past e (take count rest) first.0 (first_room past e rest all)
    (prefix_follows count (past ++ e ∷ []) rest first.1)

-- so each prefix of an accepted stream is accepted
pub prefixes_are_accepted : PrefixesAreAccepted
prefixes_are_accepted events count all = prefix_follows count [] events all

-- events that follow others rise from the last timestamp of these
rise_on : (past rest : List Event) → follows_on past rest ≡ true → RiseFrom (last_timestamp past) rest
rise_on past [] all = tt
rise_on past (e ∷ rest) all =
    let first = first_follows past e rest all in
    (first.0.later, rw last_timestamp_from-push at (rise_on (past ++ e ∷ []) rest first.1))

-- so accepted events rise
pub accepted_events_rise : AcceptedEventsRise
accepted_events_rise events all = rise_on [] events all

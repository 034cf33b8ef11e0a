-- The messages that a connector takes in one turn.
use Rattle.cdc_connector_actor.proofs.Words.{◌++◌, ◌||◌, ◌∙◌, ◌∷◌, ◌≡◌, AllByRecursion, AreReceived, Bool, ConnectorCore, Course, FollowsToConnector, HasFailed, HasTaken, HasTakenAll, Incoming, IsOfSame, IsPublishing, IsReplyReceived, IsSending, IsTurnOf, IsUnasked, List, Option, Past, RunFault, Some, TakesMany, ToConnector, [], ap, arith, false, length_push, or_from, or_parts, refl, subst, suc, sym, zero, ℕ}
use Rattle.cdc_connector_actor.proofs.ConnectorLemmas.Turns.{GoesOn-same, same_of, same_trans}

-- ---- one after another

-- one message more
taken_push : (old : ConnectorCore) (messages : List ToConnector) (mid : ConnectorCore) (message : ToConnector)
    (new : ConnectorCore) → HasTakenAll old messages mid → HasTaken mid message new
    → HasTakenAll old (messages ++ message ∷ []) new
taken_push old [] mid message new same has = (new, rw same at has, refl)
taken_push old (first ∷ later) mid message new (next, one, rest) has =
    (next, one, taken_push next later mid message new rest has)

all_but_last : {X : Type 0} (P : X → Type 0) (xs : List X) (x : X) → AllByRecursion P (xs ++ x ∷ [])
    → AllByRecursion P xs × P x
all_but_last P [] x all = (tt, all.0)
all_but_last P (first ∷ later) x all =
    let rest = all_but_last P later x all.1 in ((all.0, rest.0), rest.1)

-- what was received is the message that was taken
taken_of : (old : ConnectorCore) (course : Course) (moved : Bool) (new : ConnectorCore)
    → IsPublishing old (Some course) → (is : IsReplyReceived old course moved new) → HasTaken old is.message new
taken_of old course moved new publishing is = record {
  takes = is.takes;
  sessions = is.sessions;
  course = course;
  stood = publishing.stands;
  saves = is.saves;
  unasked = λ other. (is.still (is.unasked other)).1;
  same = is.same;
}

-- the first message of a turn
pub received_first : (old : ConnectorCore) (course : Course) (moved : Bool) (new : ConnectorCore)
    → IsPublishing old (Some course) → IsTurnOf old course → IsReplyReceived old course moved new
    → AreReceived old course moved new
received_first old course moved new publishing turn is = record {
  messages = is.message ∷ [];
  some = omega arith;
  takes = (new, taken_of old course moved new publishing is, refl);
  next = is.next;
  publishing = is.publishing;
  turn = is.turn turn;
  working = is.working;
  unasked = λ all. is.unasked all.0;
  still = is.still;
}

-- and the one after others
pub received_more : (old : ConnectorCore) (course : Course) (moved : Bool) (mid : ConnectorCore)
    (are : AreReceived old course moved mid) (more : Bool) (new : ConnectorCore)
    → IsReplyReceived mid are.next more new → AreReceived old course (moved || more) new
received_more old course moved mid are more new is = record {
  messages = are.messages ++ is.message ∷ [];
  some = omega (arith, are.some, length_push are.messages is.message);
  takes = taken_push old are.messages mid is.message new are.takes (taken_of mid are.next more new are.publishing is);
  next = is.next;
  publishing = is.publishing;
  turn = is.turn are.turn;
  working = is.working ∙ are.working;
  unasked = λ all.
      let parts = all_but_last (IsUnasked old.poll) are.messages is.message all in
      let quiet : moved ≡ false = are.unasked parts.0 in
      let poll : mid.poll ≡ old.poll = ap (λ (c : ConnectorCore). c.poll) (are.still quiet).1 in
      or_from moved more quiet (is.unasked (rw poll parts.1));
  still = λ quiet.
      let both = or_parts moved more quiet in
      let before = are.still both.0 in
      let last = is.still both.1 in (
        last.0 ∙ before.0,
        last.1 ∙ ap (λ (c : ConnectorCore). record c { inbox = new.inbox }) before.1,
      );
}

-- a session still runs after them
pub received_sends : (old : ConnectorCore) (course : Course) (moved : Bool) (new : ConnectorCore)
    → old.finished ≡ false → AreReceived old course moved new → IsSending new
received_sends old course moved new working are = record {
  course = are.next;
  publishing = are.publishing;
  turn = are.turn;
  working = are.working ∙ working;
}

-- ---- what stays

pub taken_same : (old : ConnectorCore) (messages : List ToConnector) (new : ConnectorCore)
    → HasTakenAll old messages new → IsOfSame old new
taken_same old [] new same = subst (IsOfSame old) (sym same) (same_of old old (GoesOn-same old))
taken_same old (message ∷ later) new (mid, one, rest) = same_trans old mid new one.same (taken_same mid later new rest)

-- so many messages were received, and what was received after them
pub taken_then : (old : ConnectorCore) (messages : List ToConnector) (new : ConnectorCore)
    (inbox : Incoming ToConnector (Option Past)) → HasTakenAll old messages new
    → (n : ℕ) × TakesMany FollowsToConnector n new.inbox inbox
    → (n : ℕ) × TakesMany FollowsToConnector n old.inbox inbox
taken_then old [] new inbox same (n, many) = (n, rw same at many)
taken_then old (message ∷ later) new inbox (mid, one, rest) many =
    let all = taken_then mid later new inbox rest many in
    (suc all.0, (message, mid.inbox, one.takes, all.1))

-- they were received over the same link
pub link_of_many : (n : ℕ) (old new : Incoming ToConnector (Option Past))
    → TakesMany FollowsToConnector n old new → new.link ≡ old.link
link_of_many zero old new same = λ i. (same i).link
link_of_many (suc n) old new (message, mid, takes, rest) = link_of_many n mid new rest ∙ (λ i. (takes.4 i).link)

pub link_of_taken : (old : ConnectorCore) (messages : List ToConnector) (new : ConnectorCore)
    → HasTakenAll old messages new → new.inbox.link ≡ old.inbox.link
link_of_taken old messages new takes =
    let many = taken_then old messages new new.inbox takes (0, refl) in
    link_of_many many.0 old.inbox new.inbox many.1

-- ---- a turn that fails after them

pub failed_after : (old : ConnectorCore) (messages : List ToConnector) (mid new : ConnectorCore) (fault : RunFault)
    → old.finished ≡ false → HasTakenAll old messages mid → HasFailed mid fault new → HasFailed old fault new
failed_after old messages mid new fault working takes has = record {
  working = working;
  inbox = taken_then old messages mid new.inbox takes has.inbox;
  same = same_trans old mid new (taken_same old messages mid takes) has.same;
  risked = has.risked;
  so_far = has.so_far;
}

-- Pasts that continue one another, and their histories.
use Rattle.std.proofs.Common.{◌≡◌, Bool, true, false, List, [], ◌∷◌, ◌++◌, refl, sym, ap, ◌∙◌, subst, append_assoc, append-nil}
use Rattle.cdc_laws.specs.GoingOn.{GoesOn}
use Rattle.cdc_laws.proofs.GoingOn.{GoesOn-batches, GoesOn-closed, GoesOn-same, GoesOn-trans}
use Rattle.cdc_ledger.specs.History.{History, empty_history}
use Rattle.cdc_ledger.specs.Sound.{IsSound}
use Rattle.cdc_ledger.specs.Submit.{after_batches, closed_if, history_or, submit}
use Rattle.cdc_ledger.proofs.KeptLaws.{IsSound-after_batches}
use Rattle.cdc_ledger.proofs.SoundLaws.{IsSound-closed, IsSound-empty}
use Rattle.cdc_message.specs.Replays.{IsPrefix}
use Rattle.cdc_traffic.specs.Pasts.{Continues, history_of, with_batch}
use Rattle.cdc_traffic.specs.declared.pasts.Past.{Past}
use Rattle.cdc_types.specs.declared.batches.Batch.{Batch}

-- a past continues itself
pub Continues-same : (past : Past) → Continues past past
Continues-same past =
    record { batches = record { rest = []; whole = append-nil past.batches }; shut = λ closed. refl }

-- what continues a past that continues another continues that
pub Continues-trans : (a b c : Past) → Continues a b → Continues b c → Continues a c
Continues-trans a b c first second = record {
  batches = record {
    rest = first.batches.rest ++ second.batches.rest;
    whole = sym (append_assoc a.batches first.batches.rest second.batches.rest)
        ∙ ap (λ (bs : List Batch). bs ++ second.batches.rest) first.batches.whole
        ∙ second.batches.whole;
  };
  shut = λ closed.
      let same : b ≡ a = first.shut closed in
      second.shut (ap (λ (past : Past). past.closed) same ∙ closed) ∙ same;
}

-- one batch more continues a past that isn't closed
pub Continues-batch : (batch : Batch) (past : Past) → past.closed ≡ false → Continues past (with_batch batch past)
Continues-batch batch past not_closed = record {
  batches = record { rest = batch ∷ []; whole = refl };
  shut = λ closed. let no : true ≡ false = sym closed ∙ not_closed in cc;
}

-- later batches come upon what the earlier ones left
after_batches-append : (h : History) (xs ys : List Batch)
    → after_batches h (xs ++ ys) ≡ after_batches (after_batches h xs) ys
after_batches-append h [] ys = refl
after_batches-append h (x ∷ xs) ys = after_batches-append (history_or h (submit h x)) xs ys

-- a close, if there is one, keeps a history that goes on
closes : (close : Bool) (h k : History) → IsSound k → GoesOn h k
    → GoesOn h (closed_if close k) × IsSound (closed_if close k)
closes true h k is on = (GoesOn-trans h k (record k { closed = true }) on (GoesOn-closed k), IsSound-closed k is)
closes false h k is on = (on, is)

-- whatever batches make is sound
made_sound : (bs : List Batch) → IsSound (after_batches empty_history bs)
made_sound bs = IsSound-after_batches empty_history bs IsSound-empty

-- and so is the history of every past
pub past_sound : (past : Past) → IsSound (history_of past)
past_sound past =
    let k : History = after_batches empty_history past.batches in
    (closes past.closed k k (made_sound past.batches) (GoesOn-same k)).1

-- the past of these batches, with a close or without one
abbrev past_of : List Batch → Bool → Past
past_of batches closed = record { batches = batches; closed = closed }

-- the history of a past that continues another goes on from that one's history
goes_on : (early late : List Batch) (shut closed : Bool) → IsPrefix early late
    → (shut ≡ true → past_of late closed ≡ past_of early shut)
    → GoesOn (history_of (past_of early shut)) (history_of (past_of late closed))
goes_on early late true closed front same =
    let past : Past = past_of early true in
    subst (λ (p : Past). GoesOn (history_of past) (history_of p)) (sym (same refl)) (GoesOn-same (history_of past))
goes_on early late false closed front same =
    let h : History = after_batches empty_history early in
    let k : History = after_batches empty_history late in
    let whole : k ≡ after_batches h front.rest =
    ap (after_batches empty_history) (sym front.whole)
    ∙ after_batches-append empty_history early front.rest in
    let on : GoesOn h k = subst (GoesOn h) (sym whole) (GoesOn-batches h front.rest (made_sound early)) in
    (closes closed h k (made_sound late) on).0

pub pasts_go_on : (earlier later : Past) → Continues earlier later → GoesOn (history_of earlier) (history_of later)
pasts_go_on earlier later on =
    goes_on earlier.batches later.batches earlier.closed later.closed on.batches on.shut

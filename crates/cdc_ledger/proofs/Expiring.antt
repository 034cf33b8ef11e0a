-- A pulse on its way: some of what was due expired, and what is due now is the rest.
use Rattle.cdc_ledger.proofs.Words.{[], ◌+◌, ◌<◌, ◌∙◌, ◌∷◌, ◌≡◌, ◌≢◌, Entry, History, IsDueNext, IsLeast, IsSome, IsSound, IsStoredAt, List, None, Option, Some, Transfer, Triple, Triples, ap, arith, due, due_at, expiries_from, expiry, get_or, index_of, length, pushed, refl, subst, sym, ℕ}
use Rattle.cdc_ledger.proofs.AcceptedLaws.{Follows-expiry}
use Rattle.cdc_ledger.proofs.IndexKept.{due-none}
use Rattle.cdc_ledger.proofs.IndexNext.{IsNext, IsNext-least}

-- this number of the transfers that were due at the timestamp now in the history h expired, from the timestamp base
-- on, which turned h into g
pub record GoesOn (h : History) (base now count done : ℕ) (g : History) : Type 0 where
  pub left : length (due g now) + done ≡ count
  pub rest : expiries_from g (base + done) (due g now) ≡ expiries_from h base (due h now)

-- the next one expires
pub GoesOn-step : (h : History) (base now count done : ℕ) (g : History) (p : Transfer) → GoesOn h base now count done g
    → IsDueNext g now p → g.last < base + done → GoesOn h base now count (done + 1) (pushed g (expiry p (base + done)))
GoesOn-step h base now count done g p on next later =
    let first : due g now ≡ p ∷ due (pushed g (expiry p (base + done))) now = next.first (base + done) later in
    let long = ap (λ (ps : List Transfer). length ps) first in
    record {
      left = omega (arith, on.left, long);
      rest =
          ap (λ n. expiries_from (pushed g (expiry p (base + done))) n (due (pushed g (expiry p (base + done))) now))
          (omega arith)
          ∙ (sym (ap (expiries_from g (base + done)) first) ∙ on.rest);
    }

-- while some are left, some are due
pub GoesOn-some : (h : History) (base now count done : ℕ) (g : History) → GoesOn h base now count done g
    → done < count → due g now ≢ []
GoesOn-some h base now count done g on more none =
    let long = ap (λ (ps : List Transfer). length ps) none in absurd (omega (arith, on.left, long))

-- if some transfers are due, the index has an answer
pub IsSome-answer : (g : History) (s : Triples) (now : ℕ) (answer : Option Triple) → s ≡ index_of g → due g now ≢ []
    → IsLeast (due_at s now) answer → IsSome answer
IsSome-answer g s now None kept some least =
    absurd (some (due-none g now (subst (λ u. IsLeast (due_at u now) None) kept least)))
IsSome-answer g s now (Some t) kept some least = refl

-- the answer of an index that is kept up to date
pub IsNext-answer : (g : History) (s : Triples) (now : ℕ) (answer : Option Triple) (x : Triple) → IsSound g
    → s ≡ index_of g
    → IsLeast (due_at s now) answer → answer ≡ Some x → IsNext g now x
IsNext-answer g s now answer x sound kept least is =
    IsNext-least g now x sound (subst (λ a. IsLeast (due_at (index_of g) now) a) is
    (subst (λ u. IsLeast (due_at u now) answer) kept least))

-- the entry that is read at the slot of the answer
module _ (g : History) (s : Triples) (now : ℕ) (answer : Option Triple) (x : Triple) (sound : IsSound g)
    (kept : s ≡ index_of g) (least : IsLeast (due_at s now) answer) (is : answer ≡ Some x) (es : List Entry)
    (same : es ≡ g.entries) (d : Entry) where
  -- the triple is that of the transfer that expires next
  next : IsNext g now x
  next = IsNext-answer g s now answer x sound kept least is

  -- so the slot is inside
  pub slot-inside : x.slot < length es
  slot-inside = rw same next.found.within

  -- the transfer may expire at any later timestamp, and then the others are due
  pub IsDueNext-read : IsDueNext g now (get_or es x.slot d).transfer
  IsDueNext-read = rw (same, next.found.at d) (record {
    follows = λ t. Follows-expiry g next.found.entry t sound next.found.stored next.found.pending next.found.unsettled;
    first = next.first;
  })

  -- it is stored there
  pub IsStoredAt-read : IsStoredAt g (get_or es x.slot d).transfer.id x.slot
  IsStoredAt-read = rw (same, next.found.at d) (next.found.entry, next.found.there, next.found.stored)

-- The replies and the ledger of a run in which only one client submits batches.
use Rattle.cdc_run.proofs.Words.{All, All-cons, All-head, All-nil, All-tail, AreReplied, Batch, Bool, HaveNone, History, IsOfClients, IsReplied, List, LoneClientsAreServedAlone, Past, Reply, Result, [], answers_from, ap, arith, batches_by, batches_in, cases_lt, cond, empty_history, eq-eqb, eqb-false, eqb-true, false, filter, history_of, if◌then◌else◌, inl, inr, length, length-append, map, map-append, map-map, named_replies_from, named_replies_to, past_of, refl, reply_after, subst, suc, sym, true, zero, ℕ, ◌++◌, ◌+◌, ◌-◌, ◌<◌, ◌==◌, ◌∙◌, ◌∷◌, ◌≡◌, ◌≤◌, ◌⊎◌}
use Rattle.cdc_ledger.specs.declared.errors.BatchError.{BatchError}
use Rattle.cdc_ledger.specs.Submit.{after_batches, history_or, submit}
use Rattle.cdc_ledger.proofs.LegalLaws.{after_batches_push}
use Rattle.cdc_traffic.specs.Answering.{answer_shown}
use Rattle.cdc_types.specs.declared.batches.BatchResults.{BatchResults}

-- all batches are this client's
abbrev AllOwn : ℕ → List (ℕ × Batch) → Type 0
AllOwn client order = All (λ p. p.0 ≡ client) order

-- a batch of its own
is_own : (client : ℕ) (p : ℕ × Batch) (order : List (ℕ × Batch)) → AllOwn client (p ∷ order)
    → (p.0 == client) ≡ true
is_own client p order own = eq-eqb p.0 client (All-head (λ (q : ℕ × Batch). q.0 ≡ client) p order own)

-- so its batches are all there are
own_batches : (client : ℕ) (order : List (ℕ × Batch)) → AllOwn client order → batches_by client order ≡ batches_in order
own_batches client [] own = refl
own_batches client (p ∷ order) own =
    let kept : List (ℕ × Batch) = filter (λ q. q.0 == client) order in
    ap (λ (b : Bool). map (λ (q : ℕ × Batch). q.1) (cond b (p ∷ kept) kept)) (is_own client p order own)
    ∙ ap (λ (bs : List Batch). p.1 ∷ bs)
    (own_batches client order (All-tail (λ (q : ℕ × Batch). q.0 ≡ client) p order own))

-- the history that one batch more leaves
history_push : (before : List (ℕ × Batch)) (p : ℕ × Batch)
    → history_of (past_of (before ++ p ∷ []))
    ≡ history_or (history_of (past_of before)) (submit (history_of (past_of before)) p.1)
history_push before p =
    ap (after_batches empty_history) (map-append (λ (q : ℕ × Batch). q.1) before (p ∷ []))
    ∙ after_batches_push empty_history (batches_in before) p.1

-- and its replies have the ledger's answers to them, each after those before it
dispatched_in_turn : (client : ℕ) (before order : List (ℕ × Batch)) → AllOwn client order
    → map (λ m. m.0.answer) (named_replies_from client before order)
    ≡ answers_from (history_of (past_of before)) (batches_in order)
dispatched_in_turn client before [] own = refl
dispatched_in_turn client before (p ∷ order) own =
    let dispatched : List (Reply × Past) = named_replies_from client (before ++ p ∷ []) order in
    let first : Result BatchResults BatchError = answer_shown (history_of (past_of before)) p.1 in
    ap (λ (b : Bool). map (λ (m : Reply × Past). m.0.answer)
    ((if b then (reply_after client before p.1, past_of before) ∷ [] else []) ++ dispatched))
    (is_own client p order own)
    ∙ ap (λ (answers : List (Result BatchResults BatchError)). first ∷ answers)
    (dispatched_in_turn client (before ++ p ∷ []) order (All-tail (λ (q : ℕ × Batch). q.0 ≡ client) p order own)
    ∙ ap (λ (h : History). answers_from h (batches_in order)) (history_push before p))

-- ---- whose batches there are

-- a batch that isn't a client's own adds nothing to what is
none_behind : (client : ℕ) (p : ℕ × Batch) (order : List (ℕ × Batch)) (b : Bool) → (p.0 == client) ≡ b
    → batches_by client (p ∷ order) ≡ [] → batches_by client order ≡ []
none_behind client p order true is none =
    let kept : List (ℕ × Batch) = filter (λ (q : ℕ × Batch). q.0 == client) order in
    let some : p.1 ∷ map (λ (q : ℕ × Batch). q.1) kept ≡ [] =
    subst (λ (x : Bool). map (λ (q : ℕ × Batch). q.1) (cond x (p ∷ kept) kept) ≡ []) is none in
    cc
none_behind client p order false is none =
    let kept : List (ℕ × Batch) = filter (λ (q : ℕ × Batch). q.0 == client) order in
    subst (λ (x : Bool). map (λ (q : ℕ × Batch). q.1) (cond x (p ∷ kept) kept) ≡ []) is none

-- one that comes first is some client's
none_first : (p : ℕ × Batch) (order : List (ℕ × Batch)) → batches_by p.0 (p ∷ order) ≡ [] → ⊥
none_first p order none =
    let kept : List (ℕ × Batch) = filter (λ (q : ℕ × Batch). q.0 == p.0) order in
    let some : p.1 ∷ map (λ (q : ℕ × Batch). q.1) kept ≡ [] =
    subst (λ (x : Bool). map (λ (q : ℕ × Batch). q.1) (cond x (p ∷ kept) kept) ≡ []) (eq-eqb p.0 p.0 refl) none in
    cc

-- so the first batch is this client's, if no other has any
first_own : (client : ℕ) (p : ℕ × Batch) (order : List (ℕ × Batch)) (b : Bool) → (p.0 == client) ≡ b
    → ((p.0 ≡ client → ⊥) → batches_by p.0 (p ∷ order) ≡ []) → p.0 ≡ client
first_own client p order true is none = eqb-true p.0 client is
first_own client p order false is none = absurd (none_first p order (none (eqb-false p.0 client is)))

-- and so are all
all_own : (client n : ℕ) (order : List (ℕ × Batch)) → IsOfClients n order
    → ((k : ℕ) → 0 < k → k ≤ n → (k ≡ client → ⊥) → batches_by k order ≡ []) → AllOwn client order
all_own client n [] of none = All-nil (λ (q : ℕ × Batch). q.0 ≡ client)
all_own client n (p ∷ order) of none =
    let here = All-head (λ (q : ℕ × Batch). (0 < q.0) × (q.0 ≤ n)) p order of in
    All-cons (λ (q : ℕ × Batch). q.0 ≡ client) p order
    (first_own client p order (p.0 == client) refl (none p.0 here.0 here.1))
    (all_own client n order (All-tail (λ (q : ℕ × Batch). (0 < q.0) × (q.0 ≤ n)) p order of)
    (λ k first last other. none_behind k p order (p.0 == k) refl (none k first last other)))

-- clients that were replied nothing have no batch
none_replied : (order : List (ℕ × Batch)) (number : ℕ) (lists : List (List Reply)) → AreReplied number order lists
    → HaveNone lists → (d : ℕ) → d < length lists → batches_by (number + d) order ≡ []
none_replied order number [] are none d below = absurd (omega arith)
none_replied order number (l ∷ lists) are none zero below =
    let same : number + 0 ≡ number = omega arith in
    ap (λ (k : ℕ). batches_by k order) same
    ∙ are.0.batches
    ∙ ap (map (λ (r : Reply). r.batch)) (All-head (λ (l' : List Reply). l' ≡ []) l lists none)
none_replied order number (l ∷ lists) are none (suc d) below =
    let fewer : d < length lists = omega arith in
    let same : number + suc d ≡ number + 1 + d = omega arith in
    ap (λ (k : ℕ). batches_by k order) same
    ∙ none_replied order (number + 1) lists are.1 (All-tail (λ (l' : List Reply). l' ≡ []) l lists none) d fewer

-- the clients before one, that one, and those after it
parts : (order : List (ℕ × Batch)) (number : ℕ) (before : List (List Reply)) (own : List Reply)
    (after : List (List Reply)) (client : ℕ) → client ≡ number + length before
    → AreReplied number order (before ++ own ∷ after)
    → AreReplied number order before × (IsReplied order client own × AreReplied (client + 1) order after)
parts order number [] own after client is are =
    let same : number ≡ client = omega arith in
    (tt, subst (λ (k : ℕ). IsReplied order k own × AreReplied (k + 1) order after) same are)
parts order number (l ∷ before) own after client is are =
    let here : client ≡ number + 1 + length before = omega arith in
    let rest = parts order (number + 1) before own after client here are.1 in
    ((are.0, rest.0), rest.1)

module _ (order : List (ℕ × Batch)) (before after : List (List Reply)) (none_before : HaveNone before)
    (none_after : HaveNone after) (early : AreReplied 1 order before)
    (late : AreReplied (length before + 1 + 1) order after) where
  -- no other client has a batch
  others_late : (k : ℕ) → k ≤ length before + 1 + length after → (k ≡ length before + 1 → ⊥) → length before < k
      → (length before + 1 < k) ⊎ (k ≤ length before + 1) → batches_by k order ≡ []
  others_late k last other behind (inl later) =
      let d : ℕ = k - (length before + 1 + 1) in
      let below : d < length after = omega (arith, last, later) in
      let same : k ≡ length before + 1 + 1 + d = omega (arith, later) in
      ap (λ (n : ℕ). batches_by n order) same ∙ none_replied order (length before + 1 + 1) after late none_after d below
  others_late k last other behind (inr here) = absurd (other (omega (arith, here, behind)))

  others : (k : ℕ) → 0 < k → k ≤ length before + 1 + length after → (k ≡ length before + 1 → ⊥)
      → (length before < k) ⊎ (k ≤ length before) → batches_by k order ≡ []
  others k first last other (inl behind) =
      others_late k last other behind (cases_lt (length before + 1) k)
  others k first last other (inr here) =
      let d : ℕ = k - 1 in
      let below : d < length before = omega (arith, first, here) in
      let same : k ≡ 1 + d = omega (arith, first) in
      ap (λ (n : ℕ). batches_by n order) same ∙ none_replied order 1 before early none_before d below

pub lone_clients : LoneClientsAreServedAlone
lone_clients order ledger before replies after none_before none_after are =
    let client : ℕ = length before + 1 in
    let here : client ≡ 1 + length before = omega arith in
    let each = parts order 1 before replies after client here are.each in
    let replied : IsReplied order client replies = each.1.0 in
    let many : length (before ++ replies ∷ after) ≡ length before + 1 + length after =
    length-append before (replies ∷ after) ∙ omega arith in
    let own : AllOwn client order =
    all_own client (length before + 1 + length after) order
    (subst (λ (n : ℕ). IsOfClients n order) many are.of_clients)
    (λ k first last other.
    others order before after none_before none_after each.0 each.1.1 k first last other
    (cases_lt (length before) k)) in
    let dispatched : List (Reply × Past) = named_replies_to client order in
    let batches : batches_in order ≡ map (λ (r : Reply). r.batch) replies =
    sym (own_batches client order own) ∙ replied.batches in
    record {
      ledger_is = are.ledger_is
          ∙ ap (λ (bs : List Batch). history_of (record { batches = bs; closed = true })) batches;
      answers = ap (map (λ (r : Reply). r.answer)) replied.answers
          ∙ map-map (λ (r : Reply). r.answer) (λ (m : Reply × Past). m.0) dispatched
          ∙ dispatched_in_turn client [] order own
          ∙ ap (answers_from empty_history) batches;
    }

-- Whose messages were received: those of the senders that there are.
use Rattle.cdc_run.proofs.Words.{All, All-from_recursion, All-head, All-tail, AllByRecursion, AreNumbered, Batch, Bool, CanSend, FollowFrom, FollowsToLedger, List, MaySendLedger, OrdersAreOfClients, Outgoing, ToLedger, [], ap, arith, batch_in, batches_by, cond, eqb_tells, false, filter, follow-prefix, inl, inr, length, length-map, map, nat_lt, nat_tests, of_sender, of_sender-append, order_of, refl, subst, suc, sum_by, sum_by-cons, sym, true, ℕ, ◌++◌, ◌+◌, ◌<◌, ◌==◌, ◌∙◌, ◌∷◌, ◌≡◌, ◌≢◌, ◌≤◌}
use Rattle.cdc_traffic.specs.declared.messages.ToLedger.TheVariants as to_ledger
use Rattle.cdc_run.proofs.Replied.{all_kept, asked, asked_in, batches_asked, kept_most}

module _ {M N : Type 0} (entries : List (ℕ × (M × N))) where
  -- how many are of senders below a number
  abbrev below : ℕ → ℕ
  below number = length (filter (λ e. nat_lt e.0 number) entries)

-- a list with one more element if a test holds
length_cond : {X : Type 0} (b : Bool) (x : X) (xs : List X) → length (cond b (x ∷ xs) xs) ≡ cond b 1 0 + length xs
length_cond true x xs = omega arith
length_cond false x xs = omega arith

-- below the next number is whatever is below this one, and it
next_below : (k number : ℕ) → cond (nat_lt k (number + 1)) 1 0 ≡ cond (nat_lt k number) 1 0 + cond (k == number) 1 0
next_below k number = grind (arith, nat_tests)

-- with the next sender there are as many more as that one has
below_more : {M N : Type 0} (entries : List (ℕ × (M × N))) (number : ℕ)
    → below entries (number + 1) ≡ below entries number + length (of_sender number entries)
below_more [] number = refl
below_more {M} {N} (e ∷ entries) number =
    let later = below_more entries number in
    let less : ℕ → List (ℕ × (M × N)) = λ n. filter (λ x. nat_lt x.0 n) entries in
    let own : List (ℕ × (M × N)) = filter (λ x. x.0 == number) entries in
    let message : ℕ × (M × N) → M × N = λ x. x.1 in
    let next = length_cond (nat_lt e.0 (number + 1)) e (less (number + 1)) in
    let this = length_cond (nat_lt e.0 number) e (less number) in
    let its = length_cond (e.0 == number) e own in
    let mapped : length (of_sender number (e ∷ entries)) ≡ length (cond (e.0 == number) (e ∷ own) own) =
    length-map (cond (e.0 == number) (e ∷ own) own) message in
    let rest : length (of_sender number entries) ≡ length own = length-map own message in
    let add = next_below e.0 number in
    omega arith

-- so those of senders with numbers one after another are as many as these have sent
below_all : {M N : Type 0} (entries : List (ℕ × (M × N))) (number : ℕ) (ends : List (Outgoing M N))
    → All (λ end. of_sender end.number entries ≡ end.sent) ends → AreNumbered number ends
    → below entries number + sum_by (λ end. length end.sent) ends ≡ below entries (number + length ends)
below_all entries number [] whole are =
    let same : number + 0 ≡ number = omega arith in
    let first : below entries number ≡ below entries (number + 0) = ap (below entries) (sym same) in
    let none : below entries number + 0 ≡ below entries number = omega arith in
    none ∙ first
below_all {M} {N} entries number (end ∷ ends) whole are =
    let P : Outgoing M N → Type 0 = λ end. of_sender end.number entries ≡ end.sent in
    let later = below_all entries (number + 1) ends (All-tail P end ends whole) are.1 in
    let own : length (of_sender number entries) ≡ length end.sent =
    ap (λ (j : ℕ). length (of_sender j entries)) (sym are.0)
    ∙ ap (λ (l : List (M × N)). length l) (All-head P end ends whole) in
    let more = below_more entries number in
    let sum = sum_by-cons (λ (e : Outgoing M N). length e.sent) end ends in
    let place : number + 1 + length ends ≡ number + length (end ∷ ends) = omega arith in
    let there : below entries (number + 1 + length ends) ≡ below entries (number + length (end ∷ ends)) =
    ap (below entries) place in
    omega arith

-- if all are kept, each passes
passes_with : {X : Type 0} (x : X) (kept xs : List X) (b : Bool) → length kept ≤ length xs
    → cond b (x ∷ kept) kept ≡ x ∷ xs → (b ≡ true) × (kept ≡ xs)
passes_with x kept xs true most is = (refl, cc)
passes_with x kept xs false most is =
    let long : length kept ≡ suc (length xs) = ap (λ l. length l) is in
    absurd (omega arith)

all_pass : {X : Type 0} (test : X → Bool) (xs : List X) → filter test xs ≡ xs
    → AllByRecursion (λ x. test x ≡ true) xs
all_pass test [] is = tt
all_pass test (x ∷ xs) is =
    let passes = passes_with x (filter test xs) xs (test x) (kept_most test xs) is in
    (passes.0, all_pass test xs passes.1)

-- ---- the order

-- a batch of a sender below a number
one_below : (n sender : ℕ) (message : ToLedger) (order : List (ℕ × Batch)) → nat_lt sender n ≡ true
    → AllByRecursion (λ p. nat_lt p.0 n ≡ true) order
    → AllByRecursion (λ p. nat_lt p.0 n ≡ true) (batch_in sender message ++ order)
one_below n sender (to_ledger.Request request) order is rest = (is, rest)
one_below n sender (to_ledger.Done number) order is rest = rest
one_below n sender (to_ledger.Poll poll) order is rest = rest
one_below n sender to_ledger.Finish order is rest = rest

-- those of all that was received
order_below : (n : ℕ) (received left : List (ℕ × (ToLedger × Unit {0})))
    → AllByRecursion (λ e. nat_lt e.0 n ≡ true) (received ++ left)
    → AllByRecursion (λ p. nat_lt p.0 n ≡ true) (order_of received)
order_below n [] left are = tt
order_below n (e ∷ received) left are =
    one_below n e.0 e.1.0 (order_of received) are.0 (order_below n received left are.1)

-- the connector may send no batch
none_asked : (count : ℕ) (message : ToLedger) → MaySendLedger 0 count message → asked_in message ≡ []
none_asked count (to_ledger.Request request) may = absurd (let no : 0 < 0 = may.0 in omega arith)
none_asked count (to_ledger.Done number) may = refl
none_asked count (to_ledger.Poll poll) may = refl
none_asked count to_ledger.Finish may = refl

none_asked_by : (before sent : List (ToLedger × Unit {0})) → FollowFrom FollowsToLedger 0 before sent
    → asked (map (λ m. m.0) sent) ≡ []
none_asked_by before [] chain = refl
none_asked_by before (m ∷ sent) chain =
    ap (λ (l : List Batch). l ++ asked (map (λ m. m.0) sent)) (none_asked (length before) m.0 chain.0.may)
    ∙ none_asked_by (before ++ m ∷ []) sent chain.1

-- if nothing has the number 0, each has a number above it
above : (order : List (ℕ × Batch)) → batches_by 0 order ≡ [] → AllByRecursion (λ p. 0 < p.0) order
above [] none = tt
above (p ∷ order) none =
    elim (eqb_tells p.0 0) [
      | inl decides ↦
          let own : List (ℕ × Batch) = filter (λ q. q.0 == 0) order in
          let batches : List (ℕ × Batch) → List Batch = map (λ q. q.1) in
          let there : p.1 ∷ batches own ≡ [] =
          ap (λ (b : Bool). batches (cond b (p ∷ own) own)) (sym decides.0) ∙ none in
          absurd (let no : p.1 ∷ batches own ≡ [] = there in cc)
      | inr decides ↦
          let own : List (ℕ × Batch) = filter (λ q. q.0 == 0) order in
          let batches : List (ℕ × Batch) → List Batch = map (λ q. q.1) in
          let rest : batches own ≡ [] =
          ap (λ (b : Bool). batches (cond b (p ∷ own) own)) (sym decides.0) ∙ none in
          let apart : p.0 ≢ 0 = decides.1 in
          (omega arith, above order rest)
    ]

-- both
between : (n : ℕ) (order : List (ℕ × Batch)) → AllByRecursion (λ p. nat_lt p.0 (suc n) ≡ true) order
    → AllByRecursion (λ p. 0 < p.0) order → AllByRecursion (λ p. (0 < p.0) × (p.0 ≤ n)) order
between n [] low high = tt
between n (p ∷ order) low high =
    let first : nat_lt p.0 (suc n) ≡ true = low.0 in
    let at_most : p.0 ≤ n = grind (arith, nat_tests) in
    ((high.0, at_most), between n order low.1 high.1)

pub orders_are_of_clients : OrdersAreOfClients
orders_are_of_clients inbox polls requests left account are lawful =
    let entries : List (ℕ × (ToLedger × Unit {0})) = inbox.received ++ left in
    let ends : List (Outgoing ToLedger (Unit {0})) = polls ∷ requests in
    let n : ℕ = length requests in
    let order : List (ℕ × Batch) = order_of inbox.received in
    let sum = below_all entries 0 ends account.0 are in
    let place : 0 + length ends ≡ suc n = omega arith in
    let there : below entries (0 + length ends) ≡ below entries (suc n) = ap (below entries) place in
    let all : length entries ≡ sum_by (λ (end : Outgoing ToLedger (Unit {0})). length end.sent) ends = account.2 in
    let many : length entries ≤ length (filter (λ (e : ℕ × (ToLedger × Unit {0})). nat_lt e.0 (suc n)) entries) =
    omega arith in
    let kept = all_kept (λ (e : ℕ × (ToLedger × Unit {0})). nat_lt e.0 (suc n)) entries many in
    let low = order_below (suc n) inbox.received left
    (all_pass (λ (e : ℕ × (ToLedger × Unit {0})). nat_lt e.0 (suc n)) entries kept) in
    let whole : of_sender 0 entries ≡ polls.sent =
    ap (λ (j : ℕ). of_sender j entries) (sym are.0)
    ∙ All-head (λ (end : Outgoing ToLedger (Unit {0})). of_sender end.number entries ≡ end.sent) polls requests
    account.0 in
    let mine : List (ToLedger × Unit {0}) = of_sender 0 inbox.received in
    let chain : CanSend FollowsToLedger 0 (mine ++ of_sender 0 left) =
    subst (CanSend FollowsToLedger 0) (sym whole ∙ of_sender-append 0 inbox.received left) lawful in
    let none : batches_by 0 order ≡ [] =
    batches_asked 0 inbox.received
    ∙ none_asked_by [] mine (follow-prefix FollowsToLedger 0 [] mine (of_sender 0 left) chain) in
    All-from_recursion (λ (p : ℕ × Batch). (0 < p.0) × (p.0 ≤ n)) order (between n order low (above order none))

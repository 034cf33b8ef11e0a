-- What the chains of a batch keep of a history, whatever the rules of its items.
use Rattle.cdc_ledger.proofs.Words.{[], ◌&&◌, ◌+◌, ◌-◌, ◌<◌, ◌∷◌, ◌≡◌, ◌≤◌, AreUnrefused, Bool, History, IfSome, List, None, Option, Rules, Some, arith, before_others, chains_from, chains_of, false, history_after, if◌then◌else◌, in_front, is_none_left, items_from, length, played, refl, refused_in_chain, taken_all, timed, true, unwrap_or, ℕ}

-- how many items there are in these chains
abbrev total : {A : Type 0} → List (List A) → ℕ
total [] = 0
total (chain ∷ chains) = length chain + total chains

-- an item in front of chains is one more
total-in_front : {A : Type 0} (b : Bool) (a : A) (chains : List (List A))
    → total (in_front b a chains) ≡ 1 + total chains
total-in_front false a chains = refl
total-in_front true a [] = refl
total-in_front true a (chain ∷ chains) = omega arith

-- the chains of a batch have its items
total-chains_of : {A : Type 0} (linked : A → Bool) (items : List A) → total (chains_of linked items) ≡ length items
total-chains_of linked [] = refl
total-chains_of linked (a ∷ rest) =
    let more = total-in_front (linked a) a (chains_of linked rest) in
    let others = total-chains_of linked rest in
    omega (arith, more, others)

-- a weaker property still holds of a history, if there is one
some_weaker : (o : Option History) (X Y : History → Type 0) → ((g : History) → X g → Y g) → IfSome o X → IfSome o Y
some_weaker None X Y weaker holds = tt
some_weaker (Some g) X Y weaker holds = weaker g holds

-- what isn't refused for its chain isn't refused for itself
pub unrefused_itself : {R : Type 0} (b : Bool) (u : R) (o : Option R) → (if b then Some u else o) ≡ None → o ≡ None
unrefused_itself true u o none = cc
unrefused_itself false u o none = none

-- what every item and every timestamp of a batch keeps, of which each timestamp passes a test
module _ {A R : Type 0} (rules : Rules A R) (P : History → Type 0) (Q : ℕ → Type 0)
    (on_taken : (h : History) (a : A) (t : ℕ) → P h → h.last < t → Q t → rules.refused h a t ≡ None
    → P (rules.taken h a t))
    (on_timed : (h : History) (t : ℕ) → P h → h.last < t → Q t → P (timed h t))
    (at : (h : History) (a : A) (t : ℕ) → (rules.taken h a t).last ≡ t) where
  -- P holds of a history whose last timestamp is before t
  pub record Before (t : ℕ) (g : History) : Type 0 where
    pub holds : P g
    pub later : g.last < t

  -- so it does of one after items that were all accepted
  pub taken_all-keeps : (h : History) (t : ℕ) (items : List A) → P h → h.last < t
      → ((n : ℕ) → t ≤ n → n < t + length items → Q n) → AreUnrefused rules h t items
      → Before (t + length items) (taken_all rules h t items)
  taken_all-keeps h t [] holds later each unrefused = record { holds = holds; later = omega (arith, later) }
  taken_all-keeps h t (a ∷ rest) holds later each unrefused =
      let first = at h a t in
      let more = taken_all-keeps (rules.taken h a t) (t + 1) rest
      (on_taken h a t holds later (each t (omega arith) (omega arith)) unrefused.0)
      (omega (arith, first)) (λ n from below. each n (omega arith) (omega arith)) unrefused.1 in
      record { holds = more.holds; later = omega (arith, more.later) }

  -- a chain that is taken keeps it
  played-keeps : (h : History) (t : ℕ) (chain : List A) → P h → h.last < t
      → ((n : ℕ) → t ≤ n → n < t + length chain → Q n)
      → IfSome (played rules h t chain).1 (Before (t + length chain))
  played-keeps h t [] holds later each = record { holds = holds; later = omega (arith, later) }
  played-keeps h t (a ∷ rest) holds later each =
      let first = at h a t in
      by (refused_in_chain rules h a (is_none_left rest) t) refl
      (λ unrefused. played-keeps (rules.taken h a t) (t + 1) rest
      (on_taken h a t holds later (each t (omega arith) (omega arith)) unrefused)
      (omega (arith, first)) (λ n from below. each n (omega arith) (omega arith)))
    where
      by : (o : Option R) → refused_in_chain rules h a (is_none_left rest) t ≡ o
          → (rules.refused h a t ≡ None
          → IfSome (played rules (rules.taken h a t) (t + 1) rest).1 (Before (t + 1 + length rest)))
          → IfSome (before_others rules o rest (played rules (rules.taken h a t) (t + 1) rest)).1
          (Before (t + length (a ∷ rest)))
      by (Some r) is more = tt
      by None is more =
          some_weaker (played rules (rules.taken h a t) (t + 1) rest).1 (Before (t + 1 + length rest))
          (Before (t + length (a ∷ rest)))
          (λ g before. record { holds = before.holds; later = omega (arith, before.later) })
          (more (unrefused_itself (rules.linked a && is_none_left rest) rules.unfinished (rules.refused h a t) is))

  -- and one that fails does
  after_either : (h : History) (t n : ℕ) (o : Option History) → 0 < n → P h → h.last < t
      → ((m : ℕ) → t ≤ m → m < t + n → Q m) → IfSome o (Before (t + n))
      → Before (t + n) (unwrap_or o (timed h (t + n - 1)))
  after_either h t n None some holds later each taken = record {
    holds = on_timed h (t + n - 1) holds (omega arith) (each (t + n - 1) (omega arith) (omega arith));
    later = omega arith;
  }
  after_either h t n (Some g) some holds later each taken = taken

  -- so every chain does
  history_after-keeps : (h : History) (t : ℕ) (chain : List A) → P h → h.last < t
      → ((n : ℕ) → t ≤ n → n < t + length chain → Q n)
      → Before (t + length chain) (history_after rules h t chain)
  history_after-keeps h t [] holds later each = record { holds = holds; later = omega (arith, later) }
  history_after-keeps h t (a ∷ rest) holds later each =
      after_either h t (length (a ∷ rest)) (played rules h t (a ∷ rest)).1 (omega arith) holds later each
      (played-keeps h t (a ∷ rest) holds later each)

  -- and so do any number of them
  chains_from-keeps : (h : History) (t : ℕ) (chains : List (List A)) → P h → h.last < t
      → ((n : ℕ) → t ≤ n → n < t + total chains → Q n) → P (chains_from rules h t chains).1
  chains_from-keeps h t [] holds later each = holds
  chains_from-keeps h t (chain ∷ chains) holds later each =
      let first = history_after-keeps h t chain holds later (λ n from below. each n from (omega arith)) in
      chains_from-keeps (history_after rules h t chain) (t + length chain) chains first.holds first.later
      (λ n from below. each n (omega arith) (omega arith))

  -- so a batch does
  pub items_from-keeps : (h : History) (t : ℕ) (items : List A) → P h → h.last < t
      → ((n : ℕ) → t ≤ n → n < t + length items → Q n) → P (items_from rules h t items).1
  items_from-keeps h t items holds later each =
      chains_from-keeps h t (chains_of rules.linked items) holds later
      (λ n from below. each n from (let all = total-chains_of rules.linked items in omega (arith, all)))

-- a chain comes no further than its timestamps
pub history_after-later : {A R : Type 0} (rules : Rules A R)
    → ((h : History) (a : A) (t : ℕ) → (rules.taken h a t).last ≡ t)
    → (h : History) (t : ℕ) (chain : List A) → h.last < t → (history_after rules h t chain).last < t + length chain
history_after-later rules at h t chain later =
    let found = history_after-keeps rules (λ g. Unit {0}) (λ n. Unit {0}) (λ g a n holds before fits none. tt)
    (λ g n holds before fits. tt) at h t chain tt later (λ n from below. tt) in
    found.later

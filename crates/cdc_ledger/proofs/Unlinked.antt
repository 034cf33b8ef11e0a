-- A batch without a linked item: each item is validated against the history after those before it, and recorded by
-- itself.
use Rattle.cdc_ledger.proofs.Words.{[], ◌++◌, ◌+◌, ◌-◌, ◌∙◌, ◌∷◌, ◌≡◌, AllByRecursion, History, List, None, Option, Rules, Some, ap, arith, chains_from, chains_of, false, in_front, items_from, refl, timed, unwrap_or, ℕ}
use Rattle.cdc_ledger.proofs.BatchLaws.{alone_accepted, alone_refused}

module _ {A R : Type 0} (rules : Rules A R) where
  -- the result of a single item and the history after it; the line that refuses the item is given, if there is one
  abbrev pub alone : History → A → ℕ → Option R → R × History
  alone h a t (Some refusal) = (refusal, timed h t)
  alone h a t None = (rules.accepted, rules.taken h a t)

  -- the results of items one by one from the timestamp t on, and the history after them
  abbrev pub each_from : History → ℕ → List A → List R × History
  each_from h t [] = ([], h)
  each_from h t (a ∷ rest) =
      let one = alone h a t (rules.refused h a t) in
      let later = each_from one.1 (t + 1) rest in
      (one.0 ∷ later.0, later.1)

  -- the results and the history after one chain of one item, whose own are these, and the chains of the rest
  abbrev after_one : History → ℕ → List A → List R × Option History → List R × History
  after_one h t rest q =
      let later = chains_from rules (unwrap_or q.1 (timed h (t + 1 - 1))) (t + 1) (chains_of rules.linked rest) in
      (q.0 ++ later.0, later.1)

  -- the same of one result and the history after it
  abbrev with_one : ℕ → List A → R → History → List R × History
  with_one t rest r g = let later = items_from rules g (t + 1) rest in (r ∷ later.0, later.1)

  -- so if no item of a batch is linked, the batch has the same effect as its items one by one
  pub items_from-unlinked : (h : History) (t : ℕ) (items : List A)
      → AllByRecursion (λ a. rules.linked a ≡ false) items
      → items_from rules h t items ≡ each_from h t items
  items_from-unlinked h t [] all = refl
  items_from-unlinked h t (a ∷ rest) all =
      ap (λ b. chains_from rules h t (in_front b a (chains_of rules.linked rest))) all.0
      ∙ by (rules.refused h a t) refl (λ g. items_from-unlinked g (t + 1) rest all.1)
    where
      by : (o : Option R) → rules.refused h a t ≡ o
          → ((g : History) → items_from rules g (t + 1) rest ≡ each_from g (t + 1) rest)
          → chains_from rules h t ((a ∷ []) ∷ chains_of rules.linked rest)
          ≡ (let one = alone h a t o in
          let later = each_from one.1 (t + 1) rest in
          (one.0 ∷ later.0, later.1))
      by (Some refusal) is more =
          ap (after_one h t rest) (alone_refused rules h t a refusal all.0 is)
          ∙ ap (λ n. with_one t rest refusal (timed h n)) (let e : t + 1 - 1 ≡ t = omega arith in e)
          ∙ ap (λ (q : List R × History). (refusal ∷ q.0, q.1)) (more (timed h t))
      by None is more =
          ap (after_one h t rest) (alone_accepted rules h t a all.0 is)
          ∙ ap (λ (q : List R × History). (rules.accepted ∷ q.0, q.1)) (more (rules.taken h a t))

-- A ring whose entries are popped and pushed back in turn, except those with one tag.
use Rattle.std.proofs.Common.{◌≡◌, ℕ, suc, ◌+◌, ◌-◌, ◌<◌, ◌≤◌, ◌==◌, Bool, true, false, ◌||◌, not, List, [], ◌∷◌, ◌++◌, refl, sym, ap, ap₂, ◌∙◌, cond, Some, None, length, take, drop, get_or, take_all, drop-cons, append_assoc, append-nil, length-append, arith}
use Rattle.std.specs.Prelude.{slice_get}
use Rattle.std.proofs.lemmas.List.{take_more, drop_all, length-take, length-drop}
use Rattle.std.proofs.lemmas.List.Elements.{filter_more}
use Rattle.std.proofs.lemmas.List.Filters.{length-filter_both}
use Rattle.std.proofs.lemmas.List.Folds.{list_any-append}
use Rattle.std.proofs.Math.Bool.{or-false, or-true}
use Rattle.circular_buffer.specs.Buffer.{keep_last}
use Rattle.cdc_publisher.specs.declared.session.Unconfirmed.{Unconfirmed}
use Rattle.cdc_publisher.specs.SessionState.{confirmed_of, holds_tag, without_tag}

-- nothing is overwritten if everything fits
pub keep_all : {X : Type 0} (n : ℕ) (xs : List X) → length xs ≤ n → keep_last n xs ≡ xs
keep_all n xs fits = let none : length xs - n ≡ 0 = omega arith in ap (λ i. drop i xs) none

-- the others are no more than all
pub length-without_tag : (tag : ℕ) (entries : List Unconfirmed) → length (without_tag tag entries) ≤ length entries
length-without_tag tag entries =
    let other : Unconfirmed → Bool = λ entry. not (entry.tag == tag) in
    let parts = length-filter_both other (λ entry. not (other entry)) (λ entry. refl) entries in
    omega arith

-- how far all is confirmed, by the first entry
pub confirmed_first : (last_sent : ℕ) (entries : List Unconfirmed) (first : Unconfirmed)
    → slice_get entries 0 ≡ Some first → confirmed_of last_sent entries ≡ first.before
confirmed_first last_sent [] first is = cc
confirmed_first last_sent (entry ∷ entries) first is = cc

-- if no tag waits, all is confirmed up to the last event sent
pub confirmed_none : (last_sent : ℕ) (entries : List Unconfirmed) → slice_get entries 0 ≡ None
    → confirmed_of last_sent entries ≡ last_sent
confirmed_none last_sent [] is = refl
confirmed_none last_sent (entry ∷ entries) is = cc

module _ (tag : ℕ) (old : List Unconfirmed) (i : ℕ) (items : List Unconfirmed) (x : Unconfirmed)
    (inside : i < length old) (are : items ≡ drop i old ++ without_tag tag (take i old))
    (first : slice_get items 0 ≡ Some x) where
  -- those that were pushed back so far
  abbrev back : List Unconfirmed
  back = without_tag tag (take i old)

  -- the next entry, and everything after it
  in_turn : items ≡ get_or old i x ∷ drop (suc i) old ++ back
  in_turn = are ∙ ap (λ front. front ++ back) (drop-cons old i x inside)

  -- what is popped is the entry at this place
  pub popped : x ≡ get_or old i x
  popped = let same = sym first ∙ ap (λ entries. slice_get entries 0) in_turn in cc

  -- what is left once it is popped
  left_over : drop 1 items ≡ drop (i + 1) old ++ back
  left_over =
      let next : suc i ≡ i + 1 = omega arith in
      ap (drop 1) in_turn ∙ ap (λ n. drop n old ++ back) next

  -- with one entry more
  longer : without_tag tag (take (i + 1) old) ≡ back ++ cond (not (x.tag == tag)) (x ∷ []) []
  longer =
      filter_more (λ entry. not (entry.tag == tag)) old i x inside
      ∙ ap (λ (y : Unconfirmed). back ++ cond (not (y.tag == tag)) (y ∷ []) []) (sym popped)

  -- the tag's own entry goes
  pub turn_taken : (x.tag == tag) ≡ true
      → drop 1 items ≡ drop (i + 1) old ++ without_tag tag (take (i + 1) old)
  turn_taken is =
      left_over
      ∙ ap (λ entries. drop (i + 1) old ++ entries)
      (sym (longer ∙ ap (λ b. back ++ cond (not b) (x ∷ []) []) is ∙ append-nil back))

  -- any other one goes to the back
  pub turn_back : (x.tag == tag) ≡ false
      → drop 1 items ++ x ∷ [] ≡ drop (i + 1) old ++ without_tag tag (take (i + 1) old)
  turn_back is =
      ap (λ entries. entries ++ x ∷ []) left_over ∙ append_assoc (drop (i + 1) old) back (x ∷ [])
      ∙ ap (λ entries. drop (i + 1) old ++ entries)
      (sym (longer ∙ ap (λ b. back ++ cond (not b) (x ∷ []) []) is))

  -- whether the tag was among the first entries, with one more
  holds_longer : holds_tag tag (take (i + 1) old) ≡ (holds_tag tag (take i old) || ((x.tag == tag) || false))
  holds_longer =
      ap (holds_tag tag) (take_more old i x inside)
      ∙ list_any-append (λ entry. entry.tag == tag) (take i old) (get_or old i x ∷ [])
      ∙ ap (λ (y : Unconfirmed). holds_tag tag (take i old) || ((y.tag == tag) || false)) (sym popped)

  -- it is, if this is its entry
  pub holds_taken : (x.tag == tag) ≡ true → true ≡ holds_tag tag (take (i + 1) old)
  holds_taken is =
      sym (holds_longer ∙ ap (λ b. holds_tag tag (take i old) || (b || false)) is
      ∙ or-true (holds_tag tag (take i old)))

  -- otherwise it is exactly if it was before
  pub holds_back : (x.tag == tag) ≡ false → holds_tag tag (take i old) ≡ holds_tag tag (take (i + 1) old)
  holds_back is =
      sym (holds_longer ∙ ap (λ b. holds_tag tag (take i old) || (b || false)) is
      ∙ or-false (holds_tag tag (take i old)))

  -- there is room for it
  pub turn_fits : (capacity : ℕ) → length old ≤ capacity → length (drop 1 items ++ x ∷ []) ≤ capacity
  turn_fits capacity fits =
      let long : length items ≡ length (drop i old ++ back) = ap length are in
      let some : length items ≡ length (get_or old i x ∷ drop (suc i) old ++ back) = ap length in_turn in
      let few = length-without_tag tag (take i old) in
      omega (
        arith,
        length-append (drop i old) back,
        length-drop i old,
        length-take i old,
        length-append (drop 1 items) (x ∷ []),
        length-drop 1 items,
      )

-- once all had their turn, the others are left
pub turned : (tag : ℕ) (old : List Unconfirmed) (i : ℕ) → length old ≤ i
    → drop i old ++ without_tag tag (take i old) ≡ without_tag tag old
turned tag old i past =
    ap₂ (λ front entries. front ++ without_tag tag entries) (drop_all i old past) (take_all i old past)

-- Chains of linked items, of which all are accepted or none (TigerBeetle, Linked Events). One definition plays the
-- chains of a batch, of accounts or of transfers: it is given the rules of an item.
use Rattle.std.specs.Prelude.{ℕ, ◌+◌, ◌-◌, Bool, true, false, ◌&&◌, Option, Some, None, is_some, unwrap_or, List, [], ◌∷◌, ◌++◌, length, if◌then◌else◌}
use Rattle.cdc_ledger.specs.Changes.{timed}
use Rattle.cdc_ledger.specs.History.{History}

-- the rules of the items A of a batch, each of which gets a result R
pub record Rules (A R : Type 0) : Type 0 where
  -- the item is chained to the next one
  pub linked : A → Bool
  -- why an item is refused at a timestamp after a history, if it is
  pub refused : History → A → ℕ → Option R
  -- what one that is accepted makes of the history
  pub taken : History → A → ℕ → History
  -- the result of an item that is accepted
  pub accepted : R
  -- that of one whose chain failed at another item
  pub failed : R
  -- that of the last item of a batch, if it is chained to a next one
  pub unfinished : R

-- an item in front of the chains of the items after it: a linked item joins the first of them
abbrev pub in_front : {A : Type 0} → Bool → A → List (List A) → List (List A)
in_front false a chains = (a ∷ []) ∷ chains
in_front true a [] = (a ∷ []) ∷ []
in_front true a (chain ∷ chains) = (a ∷ chain) ∷ chains

-- the chains of a batch: each one extends over linked items up to the first that isn't linked, or to the end of the
-- batch; so an item that neither is linked nor follows a linked one is a chain by itself
abbrev pub chains_of : {A : Type 0} → (A → Bool) → List A → List (List A)
chains_of linked [] = []
chains_of linked (a ∷ rest) = in_front (linked a) a (chains_of linked rest)

-- no item is left
abbrev pub is_none_left : {A : Type 0} → List A → Bool
is_none_left [] = true
is_none_left (a ∷ rest) = false

module _ {A R : Type 0} (rules : Rules A R) where
  -- the result of an item that isn't validated since one before it in its chain was refused; it may be the chain's
  -- last
  abbrev pub unvalidated_one : A → Bool → R
  unvalidated_one a is_last = if rules.linked a && is_last then rules.unfinished else rules.failed

  -- the results of items that aren't validated
  abbrev pub unvalidated : List A → List R
  unvalidated [] = []
  unvalidated (a ∷ rest) = unvalidated_one a (is_none_left rest) ∷ unvalidated rest

  -- why an item of a chain is refused, if it is: that its chain is open is found before anything else
  abbrev pub refused_in_chain : History → A → Bool → ℕ → Option R
  refused_in_chain h a is_last t = if rules.linked a && is_last then Some rules.unfinished else rules.refused h a t

  -- an item before others of its chain, whose results and history these are if it is accepted
  abbrev pub before_others : Option R → List A → List R × Option History → List R × Option History
  before_others (Some refusal) rest later = (refusal ∷ unvalidated rest, None)
  before_others None rest later =
      ((if is_some later.1 then rules.accepted else rules.failed) ∷ later.0, later.1)

  -- the results of a chain from the timestamp t on, each item validated against the history after those before it,
  -- and the history after all of them if all are accepted
  abbrev pub played : History → ℕ → List A → List R × Option History
  played h t [] = ([], Some h)
  played h t (a ∷ rest) =
      before_others (refused_in_chain h a (is_none_left rest) t) rest (played (rules.taken h a t) (t + 1) rest)

  -- the history after a chain: a failed one leaves the history before it, and takes its timestamps all the same
  abbrev pub history_after : History → ℕ → List A → History
  history_after h t chain = unwrap_or (played h t chain).1 (timed h (t + length chain - 1))

  -- the results of chains from the timestamp t on, and the history after them
  abbrev pub chains_from : History → ℕ → List (List A) → List R × History
  chains_from h t [] = ([], h)
  chains_from h t (chain ∷ chains) =
      let later = chains_from (history_after h t chain) (t + length chain) chains in
      ((played h t chain).0 ++ later.0, later.1)

  -- the results of the items of a batch from the timestamp t on, and the history after them
  abbrev pub items_from : History → ℕ → List A → List R × History
  items_from h t items = chains_from h t (chains_of rules.linked items)

-- The answers to a batch, one chain at a time, and of a chain one item at a time: what the first ones leave, and what
-- is left of them.
use Rattle.cdc_ledger.proofs.Words.{[], ◌&&◌, ◌++◌, ◌+◌, ◌-◌, ◌<◌, ◌==◌, ◌∙◌, ◌∷◌, ◌≡◌, ◌≤◌, AllByRecursion, AreUnrefused, Bool, Entry, History, IsStopped, List, NewAccount, NewTransfer, None, Option, Rules, SinglePhase, Some, add-one, add-zero, ap, append-nil, append_assoc, ap₂, arith, as_asked, before_others, chains_from, chains_of, drop, false, get_or, history_after, if◌then◌else◌, in_front, is_none_left, items_from, length, length-drop, played, refl, refused_in_chain, replicate, subst, suc, sym, take, taken_all, timed, true, unvalidated, unvalidated_one, unwrap_or, zero, ℕ}
use Rattle.std.specs.Prelude.{is_some}
use Rattle.std.proofs.lemmas.Bool.{eq-eqb, ne_eqb}
use Rattle.std.proofs.lemmas.List.{take_more, at_drop_more, at_drop_all, drop_all, length-take-le, take-append-drop, take_all}
use Rattle.std.proofs.Math.Seq.{drop-drop, take-length, drop-length}
use Rattle.cdc_ledger.proofs.Elements.{AllByRecursion_push}
use Rattle.cdc_ledger.proofs.ChainLaws.{unrefused_itself}

-- the value that is read past the last request
abbrev pub no_account : NewAccount
no_account =
    record { id = 0; user_data_128 = 0; user_data_64 = 0; user_data_32 = 0; ledger = 0; code = 0; flags = 0 }

-- likewise
abbrev pub no_transfer : NewTransfer
no_transfer = record {
  id = 0;
  debit_account_id = 0;
  credit_account_id = 0;
  amount = 0;
  pending_id = 0;
  user_data_128 = 0;
  user_data_64 = 0;
  user_data_32 = 0;
  timeout = 0;
  ledger = 0;
  code = 0;
  flags = 0;
}

-- past the last entry
abbrev pub no_entry : Entry
no_entry = record { timestamp = 0; kind = SinglePhase; transfer = as_asked no_transfer 0 }

-- ---- the end of the first chain

module _ {A : Type 0} (linked : A → Bool) where
  -- it ends with the first item that isn't linked
  chain_ends : (d : A) (items : List A) (n : ℕ) → n < length items
      → ((k : ℕ) → k < n → linked (get_or items k d) ≡ true) → linked (get_or items n d) ≡ false
      → chains_of linked items ≡ take (suc n) items ∷ chains_of linked (drop (suc n) items)
  chain_ends d [] n inside before last = absurd (omega arith)
  chain_ends d (a ∷ rest) zero inside before last =
      ap (λ b. in_front b a (chains_of linked rest)) last
  chain_ends d (a ∷ rest) (suc n) inside before last =
      ap₂ (λ b chains. in_front b a chains) (before zero (omega arith))
      (chain_ends d rest n (omega arith) (λ k below. before (suc k) (omega arith)) last)

  -- or with the batch
  chain_open : (d : A) (items : List A) → 0 < length items
      → ((k : ℕ) → k < length items → linked (get_or items k d) ≡ true)
      → chains_of linked items ≡ items ∷ []
  chain_open d [] some each = absurd (omega arith)
  chain_open d (a ∷ []) some each = ap (λ b. in_front b a []) (each zero (omega arith))
  chain_open d (a ∷ b ∷ rest) some each =
      ap₂ (λ x chains. in_front x a chains) (each zero (omega arith))
      (chain_open d (b ∷ rest) (omega arith) (λ k below. each (suc k) (omega arith)))

  -- so it has one item more than those before this one
  pub first_chain : (d : A) (items : List A) (n : ℕ) → n < length items
      → ((k : ℕ) → k < n → linked (get_or items k d) ≡ true) → linked (get_or items n d) ≡ false
      → chains_of linked items ≡ take (n + 1) items ∷ chains_of linked (drop (n + 1) items)
  first_chain d items n inside before last =
      chain_ends d items n inside before last
      ∙ ap (λ m. take m items ∷ chains_of linked (drop m items)) (sym (add-one n))

  -- or all that there are
  pub whole_chain : (d : A) (items : List A) → 0 < length items
      → ((k : ℕ) → k < length items → linked (get_or items k d) ≡ true)
      → chains_of linked items ≡ take (length items) items ∷ chains_of linked (drop (length items) items)
  whole_chain d items some each =
      chain_open d items some each
      ∙ ap₂ (λ chain rest. chain ∷ chains_of linked rest) (sym (take-length items)) (sym (drop-length items))

-- an item is the last one if nothing follows it
pub last_left : {A : Type 0} (items : List A) (i : ℕ) → i < length items
    → (i + 1 == length items) ≡ is_none_left (drop (i + 1) items)
last_left {A = A} items i inside = by (drop (i + 1) items) refl
  where
    by : (rest : List A) → drop (i + 1) items ≡ rest → (i + 1 == length items) ≡ is_none_left rest
    by [] is =
        let long = length-drop (i + 1) items in
        let none = ap length is in
        eq-eqb (i + 1) (length items) (omega arith)
    by (x ∷ rest) is =
        let long = length-drop (i + 1) items in
        let some = ap length is in
        ne_eqb (i + 1) (length items) (λ e. absurd (omega arith))

-- one more of the same
replicate_push : {R : Type 0} (n : ℕ) (x : R) (rest : List R)
    → replicate n x ++ x ∷ rest ≡ replicate (suc n) x ++ rest
replicate_push zero x rest = refl
replicate_push (suc n) x rest = ap (λ xs. x ∷ xs) (replicate_push n x rest)

-- what holds of a list's elements holds of two parts of it, and the other way round
pub AllByRecursion_whole : {X : Type 0} (P : X → Type 0) (xs : List X) (n : ℕ) → AllByRecursion P (take n xs)
    → AllByRecursion P (drop n xs) → AllByRecursion P xs
AllByRecursion_whole {X = X} P xs n front back =
    subst (AllByRecursion P) (take-append-drop n xs) (both (take n xs) front)
  where
    both : (ys : List X) → AllByRecursion P ys → AllByRecursion P (ys ++ drop n xs)
    both [] all = back
    both (y ∷ ys) all = (all.0, both ys all.1)

-- a slice from an index to the end
slice_to_end : {X : Type 0} (xs : List X) (n : ℕ) → take (length xs - n) (drop n xs) ≡ drop n xs
slice_to_end xs n = ap (λ m. take m (drop n xs)) (sym (length-drop n xs)) ∙ take-length (drop n xs)

-- it has what is left of the length
pub slice_length : {X : Type 0} (xs : List X) (n : ℕ) → length (take (length xs - n) (drop n xs)) ≡ length xs - n
slice_length xs n = ap length (slice_to_end xs n) ∙ length-drop n xs

-- a slice of n elements from i on has n, if there are so many
pub slice_size : {X : Type 0} (xs : List X) (i n : ℕ) → n ≤ length (take (length xs - i) (drop i xs))
    → length (take (i + n - i) (drop i xs)) ≡ n
slice_size xs i n within =
    let left = slice_length xs i in
    let long = length-drop i xs in
    let span : i + n - i ≡ n = omega arith in
    length-take-le (i + n - i) (drop i xs) (omega arith) ∙ span

-- likewise of two parts as slices of the list
pub AllByRecursion_parts : {X : Type 0} (P : X → Type 0) (xs : List X) (n : ℕ) → AllByRecursion P (take n xs)
    → AllByRecursion P (take (length xs - n) (drop n xs)) → AllByRecursion P xs
AllByRecursion_parts P xs n front back =
    AllByRecursion_whole P xs n front
    (subst (AllByRecursion P) (slice_to_end xs n) back)

-- of the first i elements and of the next one
pub AllByRecursion_more : {X : Type 0} (P : X → Type 0) (xs : List X) (i : ℕ) (d : X) → i < length xs
    → AllByRecursion P (take i xs) → P (get_or xs i d) → AllByRecursion P (take (i + 1) xs)
AllByRecursion_more P xs i d inside front one =
    subst (AllByRecursion P) (sym (take_more xs i d inside))
    (AllByRecursion_push P (take i xs) (get_or xs i d) front one)

-- what holds of the first i elements and of the n after them
all_further : {X : Type 0} (P : X → Type 0) (i : ℕ) (xs : List X) (n m : ℕ) → m ≡ i + n
    → AllByRecursion P (take i xs) → AllByRecursion P (take n (drop i xs)) → AllByRecursion P (take m xs)
all_further P zero xs n m same front back =
    subst (λ k. AllByRecursion P (take k xs)) (let e : n ≡ m = omega arith in e) back
all_further P (suc i) [] n m same front back = subst (AllByRecursion P) (sym (take_all m [] (omega arith))) tt
all_further P (suc i) (x ∷ xs) n m same front back =
    subst (λ k. AllByRecursion P (take k (x ∷ xs))) (let e : suc (i + n) ≡ m = omega arith in e)
    (front.0, all_further P i xs n (i + n) refl front.1 back)

-- so it is with a slice of n elements from i on
pub AllByRecursion_further : {X : Type 0} (P : X → Type 0) (xs : List X) (i n : ℕ) → AllByRecursion P (take i xs)
    → AllByRecursion P (take (i + n - i) (drop i xs)) → AllByRecursion P (take (i + n) xs)
AllByRecursion_further P xs i n front back =
    all_further P i xs (i + n - i) (i + n) (omega arith) front back

module _ {A R : Type 0} (rules : Rules A R) where
  -- ---- a chain

  -- the results of a chain, of which the first n items were accepted one by one before these
  abbrev pub after_accepted : ℕ → List R × Option History → List R × Option History
  after_accepted n later =
      (replicate n (if is_some later.1 then rules.accepted else rules.failed) ++ later.0, later.1)

  -- one more item was accepted
  accepted_more : (n : ℕ) (rest : List A) (later : List R × Option History)
      → after_accepted n (before_others rules None rest later) ≡ after_accepted (n + 1) later
  accepted_more n rest later =
      ap (λ rs. (rs, later.1))
      (replicate_push n (if is_some later.1 then rules.accepted else rules.failed) later.0
      ∙ ap (λ m. replicate m (if is_some later.1 then rules.accepted else rules.failed) ++ later.0)
      (sym (add-one n)))

  -- the first i items of a chain were accepted from the timestamp t on, which turned the history h into g
  pub record IsOnItsWay (h : History) (t : ℕ) (chain : List A) (i : ℕ) (g : History) : Type 0 where
    pub rest : played rules h t chain ≡ after_accepted i (played rules g (t + i) (drop i chain))
    pub made : g ≡ taken_all rules h t (take i chain)
    pub unrefused : AreUnrefused rules h t (take i chain)

  -- before the first one
  pub IsOnItsWay_none : (h : History) (t : ℕ) (chain : List A) → IsOnItsWay h t chain 0 h
  IsOnItsWay_none h t chain = record {
    rest = ap (λ n. played rules h n chain) (sym (add-zero t));
    made = refl;
    unrefused = tt;
  }

  -- the history after one more item
  taken_all_push : (h : History) (t : ℕ) (items : List A) (a : A)
      → taken_all rules h t (items ++ a ∷ []) ≡ rules.taken (taken_all rules h t items) a (t + length items)
  taken_all_push h t [] a = ap (rules.taken h a) (sym (add-zero t))
  taken_all_push h t (x ∷ items) a =
      taken_all_push (rules.taken h x t) (t + 1) items a
      ∙ ap (rules.taken (taken_all rules (rules.taken h x t) (t + 1) items) a) (omega arith)

  -- which wasn't refused either
  AreUnrefused_push : (h : History) (t : ℕ) (items : List A) (a : A) → AreUnrefused rules h t items
      → rules.refused (taken_all rules h t items) a (t + length items) ≡ None
      → AreUnrefused rules h t (items ++ a ∷ [])
  AreUnrefused_push h t [] a all one = (ap (rules.refused h a) (sym (add-zero t)) ∙ one, tt)
  AreUnrefused_push h t (x ∷ items) a all one = (
    all.0,
    AreUnrefused_push (rules.taken h x t) (t + 1) items a all.1
        (ap (rules.refused (taken_all rules (rules.taken h x t) (t + 1) items) a) (omega arith) ∙ one),
  )

  -- and back
  AreUnrefused_pop : (h : History) (t : ℕ) (items : List A) (a : A) → AreUnrefused rules h t (items ++ a ∷ [])
      → AreUnrefused rules h t items × (rules.refused (taken_all rules h t items) a (t + length items) ≡ None)
  AreUnrefused_pop h t [] a all = (tt, ap (rules.refused h a) (add-zero t) ∙ all.0)
  AreUnrefused_pop h t (x ∷ items) a all =
      let rest = AreUnrefused_pop (rules.taken h x t) (t + 1) items a all.1 in (
        (all.0, rest.0),
        ap (rules.refused (taken_all rules (rules.taken h x t) (t + 1) items) a) (omega arith) ∙ rest.1,
      )

  -- the history after one item more of a list
  pub taken_all_more : (h : History) (t : ℕ) (all : List A) (i : ℕ) (d : A) → i < length all
      → taken_all rules h t (take (i + 1) all) ≡ rules.taken (taken_all rules h t (take i all)) (get_or all i d) (t + i)
  taken_all_more h t all i d inside =
      ap (taken_all rules h t) (take_more all i d inside) ∙ taken_all_push h t (take i all) (get_or all i d)
      ∙ ap (λ n. rules.taken (taken_all rules h t (take i all)) (get_or all i d) (t + n))
      (length-take-le i all (omega arith))

  -- none of the first i + 1 items was refused, so the last of them wasn't, nor were those before it
  pub AreUnrefused_less : (h : History) (t : ℕ) (all : List A) (i : ℕ) (d : A) → i < length all
      → AreUnrefused rules h t (take (i + 1) all)
      → AreUnrefused rules h t (take i all)
      × (rules.refused (taken_all rules h t (take i all)) (get_or all i d) (t + i) ≡ None)
  AreUnrefused_less h t all i d inside each =
      let parts = AreUnrefused_pop h t (take i all) (get_or all i d)
      (subst (AreUnrefused rules h t) (take_more all i d inside) each) in (
        parts.0,
        ap (λ n. rules.refused (taken_all rules h t (take i all)) (get_or all i d) (t + n))
            (sym (length-take-le i all (omega arith))) ∙ parts.1,
      )

  -- one more item is accepted
  pub IsOnItsWay_more : (h : History) (t : ℕ) (chain : List A) (i : ℕ) (g g' : History) (d : A) → i < length chain
      → IsOnItsWay h t chain i g
      → refused_in_chain rules g (get_or chain i d) (i + 1 == length chain) (t + i) ≡ None
      → g' ≡ rules.taken g (get_or chain i d) (t + i)
      → IsOnItsWay h t chain (i + 1) g'
  IsOnItsWay_more h t chain i g g' d inside on unrefused after =
      let a : A = get_or chain i d in
      let left : List A = drop (i + 1) chain in
      let is : refused_in_chain rules g a (is_none_left left) (t + i) ≡ None =
      ap (λ b. refused_in_chain rules g a b (t + i)) (sym (last_left chain i inside)) ∙ unrefused in
      let own = unrefused_itself (rules.linked a && is_none_left left) rules.unfinished (rules.refused g a (t + i)) is in
      let same : g ≡ taken_all rules h t (take i chain) = on.made in
      record {
        rest = on.rest
            ∙ ap (after_accepted i)
            (at_drop_more (played rules g (t + i)) chain i d inside
            ∙ ap (λ o. before_others rules o left (played rules (rules.taken g a (t + i)) (t + i + 1) left)) is)
            ∙ accepted_more i left (played rules (rules.taken g a (t + i)) (t + i + 1) left)
            ∙ ap₂ (λ k n. after_accepted (i + 1) (played rules k n left)) (sym after) (omega arith);
        made = after ∙ ap (λ k. rules.taken k a (t + i)) same ∙ sym (taken_all_more h t chain i d inside);
        unrefused = subst (AreUnrefused rules h t) (sym (take_more chain i d inside))
            (AreUnrefused_push h t (take i chain) a on.unrefused
            (ap₂ (λ k n. rules.refused k a (t + n)) (sym same) (length-take-le i chain (omega arith)) ∙ own));
      }

  -- one is refused, at which the chain fails
  pub IsStopped_at : (h : History) (t : ℕ) (chain : List A) (i : ℕ) (g : History) (d : A) (refusal : R)
      → i < length chain → IsOnItsWay h t chain i g
      → refused_in_chain rules g (get_or chain i d) (i + 1 == length chain) (t + i) ≡ Some refusal
      → IsStopped rules h t chain (Some (i, refusal)) g
  IsStopped_at h t chain i g d refusal inside on refused =
      let a : A = get_or chain i d in
      let left : List A = drop (i + 1) chain in
      let is : refused_in_chain rules g a (is_none_left left) (t + i) ≡ Some refusal =
      ap (λ b. refused_in_chain rules g a b (t + i)) (sym (last_left chain i inside)) ∙ refused in (
        inside,
        on.rest
            ∙ ap (after_accepted i)
            (at_drop_more (played rules g (t + i)) chain i d inside
            ∙ ap (λ o. before_others rules o left (played rules (rules.taken g a (t + i)) (t + i + 1) left)) is),
        on.made,
        on.unrefused,
      )

  -- none is
  pub IsStopped_never : (h : History) (t : ℕ) (chain : List A) (i : ℕ) (g : History) → i ≡ length chain
      → IsOnItsWay h t chain i g → IsStopped rules h t chain None g
  IsStopped_never h t chain i g all on =
      on.rest
      ∙ ap (after_accepted i) (at_drop_all (played rules g (t + i)) chain i (omega arith))
      ∙ ap₂ (λ rs n. (rs, Some g)) (append-nil (replicate i rules.accepted)) all
      ∙ ap (λ n. (replicate n rules.accepted, Some g)) all

  -- the answers to a chain that was accepted
  pub accepted_results : (h : History) (t : ℕ) (chain : List A) (g : History) (before after : List R)
      → IsStopped rules h t chain None g → after ≡ before ++ replicate (length chain) rules.accepted
      → after ≡ before ++ (played rules h t chain).0
  accepted_results h t chain g before after stopped same =
      same ∙ ap (λ (q : List R × Option History). before ++ q.0) (sym stopped)

  -- and the history after it
  pub accepted_history : (h : History) (t : ℕ) (chain : List A) (g : History) → IsStopped rules h t chain None g
      → g ≡ history_after rules h t chain
  accepted_history h t chain g stopped =
      sym (ap (λ (q : List R × Option History). unwrap_or q.1 (timed h (t + length chain - 1))) stopped)

  -- the answers to a chain that failed: in front of the item, of the item, and of those behind it
  pub failed_results : (h : History) (t : ℕ) (chain : List A) (i : ℕ) (r : R) (g : History)
      (before front one after : List R) → IsStopped rules h t chain (Some (i, r)) g
      → front ≡ before ++ replicate i rules.failed → one ≡ front ++ r ∷ []
      → after ≡ one ++ unvalidated rules (take (length chain - (i + 1)) (drop (i + 1) chain))
      → after ≡ before ++ (played rules h t chain).0
  failed_results h t chain i r g before front one after stopped p q s =
      let others = unvalidated rules (drop (i + 1) chain) in
      s ∙ ap₂ (λ xs ys. xs ++ unvalidated rules ys) (q ∙ ap (λ xs. xs ++ r ∷ []) p) (slice_to_end chain (i + 1))
      ∙ append_assoc (before ++ replicate i rules.failed) (r ∷ []) others
      ∙ append_assoc before (replicate i rules.failed) (r ∷ others)
      ∙ ap (λ (x : List R × Option History). before ++ x.0) (sym stopped.1)

  -- it takes its timestamps alone
  pub failed_history : (h : History) (t : ℕ) (chain : List A) (stop : ℕ × R) (g k : History) → 0 < length chain
      → IsStopped rules h t chain (Some stop) g → k ≡ timed h (t + (length chain - 1))
      → k ≡ history_after rules h t chain
  failed_history h t chain stop g k some stopped same =
      same ∙ ap (timed h) (omega arith)
      ∙ sym (ap (λ (q : List R × Option History). unwrap_or q.1 (timed h (t + length chain - 1))) stopped.1)

  -- ---- items that aren't validated

  -- one more result
  pub unjudged_more : (done : List R) (all : List A) (i : ℕ) (d : A) → i < length all
      → (done ++ unvalidated_one rules (get_or all i d) (i + 1 == length all) ∷ [])
      ++ unvalidated rules (drop (i + 1) all)
      ≡ done ++ unvalidated rules (drop i all)
  unjudged_more done all i d inside =
      append_assoc done (unvalidated_one rules (get_or all i d) (i + 1 == length all) ∷ [])
      (unvalidated rules (drop (i + 1) all))
      ∙ ap (λ xs. done ++ xs)
      (ap (λ b. unvalidated_one rules (get_or all i d) b ∷ unvalidated rules (drop (i + 1) all))
      (last_left all i inside)
      ∙ sym (at_drop_more (unvalidated rules) all i d inside))

  -- all of them
  pub unjudged_all : (done : List R) (all : List A) (i : ℕ) → length all ≤ i
      → done ++ unvalidated rules (drop i all) ≡ done
  unjudged_all done all i past = ap (λ xs. done ++ unvalidated rules xs) (drop_all i all past) ∙ append-nil done

  -- ---- a chain of one

  -- an item that isn't linked and is accepted
  pub alone_accepted : (h : History) (t : ℕ) (a : A) → rules.linked a ≡ false → rules.refused h a t ≡ None
      → played rules h t (a ∷ []) ≡ (rules.accepted ∷ [], Some (rules.taken h a t))
  alone_accepted h t a unlinked is =
      ap₂ (λ b o. before_others rules (if b && true then Some rules.unfinished else o) []
      (played rules (rules.taken h a t) (t + 1) [])) unlinked is

  -- one that is refused
  pub alone_refused : (h : History) (t : ℕ) (a : A) (refusal : R) → rules.linked a ≡ false
      → rules.refused h a t ≡ Some refusal → played rules h t (a ∷ []) ≡ (refusal ∷ [], None)
  alone_refused h t a refusal unlinked is =
      ap₂ (λ b o. before_others rules (if b && true then Some rules.unfinished else o) []
      (played rules (rules.taken h a t) (t + 1) [])) unlinked is

  -- the history after it
  pub after_accepted_alone : (h : History) (t : ℕ) (a : A) (g : History) → rules.linked a ≡ false
      → rules.refused h a t ≡ None → g ≡ rules.taken h a t → g ≡ history_after rules h t (a ∷ [])
  after_accepted_alone h t a g unlinked is same =
      same ∙ sym (ap (λ (q : List R × Option History). unwrap_or q.1 (timed h (t + 1 - 1)))
      (alone_accepted h t a unlinked is))

  -- after a refused one
  pub after_refused_alone : (h : History) (t : ℕ) (a : A) (refusal : R) (g : History) → rules.linked a ≡ false
      → rules.refused h a t ≡ Some refusal → g ≡ timed h t → g ≡ history_after rules h t (a ∷ [])
  after_refused_alone h t a refusal g unlinked is same =
      same ∙ ap (timed h) (omega arith)
      ∙ sym (ap (λ (q : List R × Option History). unwrap_or q.1 (timed h (t + 1 - 1)))
      (alone_refused h t a refusal unlinked is))

  -- ---- the chains of a batch

  -- the answers so far and the answers to the items from the i-th on are the answers to all, and likewise the history
  pub record ItemsGoOn (h : History) (t : ℕ) (all : List A) (i : ℕ) (done : List R) (now : History) : Type 0 where
    pub answers : done ++ (items_from rules now (t + i) (drop i all)).0 ≡ (items_from rules h t all).0
    pub after : (items_from rules now (t + i) (drop i all)).1 ≡ (items_from rules h t all).1

  -- before the first item all of them are left
  pub ItemsGoOn_none : (h : History) (t : ℕ) (all : List A) → ItemsGoOn h t all 0 [] h
  ItemsGoOn_none h t all = record {
    answers = ap (λ n. (items_from rules h n all).0) (add-zero t);
    after = ap (λ n. (items_from rules h n all).1) (add-zero t);
  }

  -- a chain of so many items is played
  pub ItemsGoOn_more : (h : History) (t : ℕ) (all : List A) (i j n : ℕ) (chain : List A) (done done' : List R)
      (now now' : History)
      → chains_of rules.linked (drop i all) ≡ chain ∷ chains_of rules.linked (drop n (drop i all))
      → length chain ≡ n → j ≡ i + n
      → done' ≡ done ++ (played rules now (t + i) chain).0
      → now' ≡ history_after rules now (t + i) chain
      → ItemsGoOn h t all i done now → ItemsGoOn h t all j done' now'
  ItemsGoOn_more h t all i j n chain done done' now now' parts long to results after goes =
      let rest : ℕ → List A → List R × History =
      λ m items. items_from rules (history_after rules now (t + i) chain) m items in
      let time : t + j ≡ t + i + length chain = omega arith in
      let left : drop j all ≡ drop n (drop i all) = ap (λ m. drop m all) to ∙ sym (drop-drop n i all) in
      let same : items_from rules now' (t + j) (drop j all)
      ≡ rest (t + i + length chain) (drop n (drop i all)) =
      ap (λ g. items_from rules g (t + j) (drop j all)) after ∙ ap₂ rest time left in
      let cut : items_from rules now (t + i) (drop i all)
      ≡ (
        (played rules now (t + i) chain).0 ++ (rest (t + i + length chain) (drop n (drop i all))).0,
        (rest (t + i + length chain) (drop n (drop i all))).1,
      ) =
      ap (chains_from rules now (t + i)) parts in
      record {
        answers = ap₂ (λ ds (q : List R × History). ds ++ q.0) results same
            ∙ append_assoc done (played rules now (t + i) chain).0 (rest (t + i + length chain) (drop n (drop i all))).0
            ∙ sym (ap (λ (q : List R × History). done ++ q.0) cut) ∙ goes.answers;
        after = ap (λ (q : List R × History). q.1) same ∙ sym (ap (λ (q : List R × History). q.1) cut) ∙ goes.after;
      }

  -- the first chain of those that are left is played, of so many items
  pub ItemsGoOn_chain : (h : History) (t : ℕ) (all : List A) (i n : ℕ) (done done' : List R) (now now' : History)
      → n ≤ length (take (length all - i) (drop i all))
      → chains_of rules.linked (take (length all - i) (drop i all))
      ≡ take n (take (length all - i) (drop i all))
      ∷ chains_of rules.linked (drop n (take (length all - i) (drop i all)))
      → done' ≡ done ++ (played rules now (t + i) (take (i + n - i) (drop i all))).0
      → now' ≡ history_after rules now (t + i) (take (i + n - i) (drop i all))
      → ItemsGoOn h t all i done now → ItemsGoOn h t all (i + n) done' now'
  ItemsGoOn_chain h t all i n done done' now now' within parts results after goes =
      let same : take (length all - i) (drop i all) ≡ drop i all = slice_to_end all i in
      let span : i + n - i ≡ n = omega arith in
      let inside : n ≤ length (drop i all) = subst (λ (xs : List A). n ≤ length xs) same within in
      ItemsGoOn_more h t all i (i + n) n (take n (drop i all)) done done' now now'
      (subst (λ xs. chains_of rules.linked xs ≡ take n xs ∷ chains_of rules.linked (drop n xs)) same parts)
      (length-take-le n (drop i all) inside) refl
      (results ∙ ap (λ m. done ++ (played rules now (t + i) (take m (drop i all))).0) span)
      (after ∙ ap (λ m. history_after rules now (t + i) (take m (drop i all))) span)
      goes

  -- an item that isn't linked is played by itself
  pub ItemsGoOn_alone : (h : History) (t : ℕ) (all : List A) (i : ℕ) (d : A) (done done' : List R)
      (now now' : History)
      → i < length all → rules.linked (get_or all i d) ≡ false
      → done' ≡ done ++ (played rules now (t + i) (get_or all i d ∷ [])).0
      → now' ≡ history_after rules now (t + i) (get_or all i d ∷ [])
      → ItemsGoOn h t all i done now → ItemsGoOn h t all (i + 1) done' now'
  ItemsGoOn_alone h t all i d done done' now now' inside unlinked results after goes =
      ItemsGoOn_more h t all i (i + 1) 1 (get_or all i d ∷ []) done done' now now'
      (at_drop_more (chains_of rules.linked) all i d inside
      ∙ ap (λ b. in_front b (get_or all i d) (chains_of rules.linked (drop (i + 1) all))) unlinked
      ∙ ap (λ xs. (get_or all i d ∷ []) ∷ chains_of rules.linked xs) (sym (drop-drop 1 i all)))
      refl refl results after goes

  -- when none is left, the answers are those of the whole batch
  pub ItemsGoOn_all : (h : History) (t : ℕ) (all : List A) (i : ℕ) (done : List R) (now : History) → length all ≤ i
      → ItemsGoOn h t all i done now → items_from rules h t all ≡ (done, now)
  ItemsGoOn_all h t all i done now past goes =
      let cut = at_drop_all (λ xs. items_from rules now (t + i) xs) all i past in
      ap₂ (λ (rs : List R) (g : History). (rs, g))
      (sym goes.answers ∙ (ap (λ (q : List R × History). done ++ q.0) cut ∙ append-nil done))
      (sym goes.after ∙ ap (λ (q : List R × History). q.1) cut)

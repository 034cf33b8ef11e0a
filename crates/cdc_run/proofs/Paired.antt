-- A loop over the endpoints of a link's senders, paired with endpoints of links of their own, place by place.
use Rattle.cdc_run.proofs.Words.{All, All-get_or, Incoming, IsFresh, LinkId, List, None, Option, Outgoing, Some, YieldsList, YieldsList-end, YieldsList-from_vec, YieldsList-from_zip, YieldsList-turn, [], ap, arith, fresh_endpoint, fresh_from, get_or, length, map, refl, subst, suc, sym, zero, zip, zips, ℕ, ◌+◌, ◌<◌, ◌∙◌, ◌∷◌, ◌≡◌}
use Rattle.std.specs.Iterator.{Yields}
use Rattle.std.specs.Iterator.Adapters.{zip_first, zip_second}
use Rattle.std.specs.Vec.Iter.{into_iter_items, into_iter_len, into_iter_steps}
use Rattle.std.specs.declared.iter.Zip.{Zip}
use Rattle.std.specs.declared.vec.IntoIter.{IntoIter}
use Rattle.std.proofs.lemmas.List.{map-id}
use Rattle.std.proofs.lemmas.Slice.Zip.{get_or-zip, length-zip}

-- so many endpoints
from_length : {M : Type 0} (N : Type 0) (link : LinkId M) (number n : ℕ)
    → length (fresh_from {M = M} {N = N} link number n) ≡ n
from_length N link number zero = refl
from_length N link number (suc n) = ap (λ (k : ℕ). suc k) (from_length N link (number + 1) n)

-- the one at each place
from_at : {M N : Type 0} (link : LinkId M) (number n k : ℕ) (d : Outgoing M N) → k < n
    → get_or (fresh_from link number n) k d ≡ fresh_endpoint link (number + k)
from_at link number zero k d below = absurd (omega arith)
from_at {M} {N} link number (suc n) zero d below =
    let same : number ≡ number + 0 = omega arith in
    ap (λ (j : ℕ). fresh_endpoint {M = M} {N = N} link j) same
from_at {M} {N} link number (suc n) (suc k) d below =
    let less : k < n = omega arith in
    let same : number + 1 + k ≡ number + suc k = omega arith in
    from_at link (number + 1) n k d less ∙ ap (λ (j : ℕ). fresh_endpoint {M = M} {N = N} link j) same

-- the pair at a place of two lists
pair_at : {M N O P : Type 0} (link : LinkId M) (outs : List (Outgoing M N)) (ins : List (Incoming O P)) (k : ℕ)
    (p : Outgoing M N × Incoming O P) → outs ≡ fresh_from link 1 (length ins) → All (IsFresh 1) ins
    → k < length (zip outs ins) → p ≡ get_or (zip outs ins) k p
    → (p.0 ≡ fresh_endpoint link (1 + k)) × IsFresh 1 p.1
pair_at {M} {N} {O} {P} link outs ins k p are fresh below is =
    let long : length outs ≡ length ins = ap (λ l. length l) are ∙ from_length N link 1 (length ins) in
    let both = length-zip outs ins in
    let inside : k < length ins = omega arith in
    let within : k < length outs = omega arith in
    let split : p ≡ (get_or outs k p.0, get_or ins k p.1) = is ∙ get_or-zip outs ins k p within inside in
    let first : p.0 ≡ fresh_endpoint link (1 + k) =
    ap (λ (q : Outgoing M N × Incoming O P). q.0) split
    ∙ ap (λ (l : List (Outgoing M N)). get_or l k p.0) are ∙ from_at link 1 (length ins) k p.0 inside in
    let second : p.1 ≡ get_or ins k p.1 = ap (λ (q : Outgoing M N × Incoming O P). q.1) split in
    (first, subst (λ (i : Incoming O P). IsFresh 1 i) (sym second) (All-get_or (IsFresh 1) ins k p.1 inside fresh))

-- what is read of the second of each pair
seconds : {A B C : Type 0} (read : B → C) (xs : List A) (ys : List B) → length xs ≡ length ys
    → map (λ p. read p.1) (zip xs ys) ≡ map read ys
seconds read [] [] long = refl
seconds read [] (y ∷ ys) long = absurd (omega arith)
seconds read (x ∷ xs) [] long = absurd (omega arith)
seconds read (x ∷ xs) (y ∷ ys) long =
    let shorter : length xs ≡ length ys = omega arith in
    ap (λ l. read y ∷ l) (seconds read xs ys shorter)

-- ---- the loop

-- a loop over two lists begins so
pub record IsOver {A B Z : Type 0} (xs : List A) (ys : List B) (s : Zip (IntoIter A Z) (IntoIter B Z)) : Type 0 where
  pub first : into_iter_items (zip_first s) ≡ xs
  pub first_count : into_iter_len (zip_first s) ≡ length xs
  pub second : into_iter_items (zip_second s) ≡ ys
  pub second_count : into_iter_len (zip_second s) ≡ length ys

-- in the words of the calls that begin it
pub is_over : {A B Z : Type 0} (xs : List A) (ys : List B) (a : IntoIter A Z) (z s : Zip (IntoIter A Z) (IntoIter B Z))
    → into_iter_items a ≡ xs → into_iter_len a ≡ length xs → zip_first z ≡ a → into_iter_items (zip_second z) ≡ ys
    → into_iter_len (zip_second z) ≡ length ys → s ≡ z → IsOver xs ys s
is_over {A} {B} {Z} xs ys a z s items len begins others count same =
    subst (λ (at : Zip (IntoIter A Z) (IntoIter B Z)). IsOver xs ys at) (sym same) (record {
      first = ap (λ (i : IntoIter A Z). into_iter_items i) begins ∙ items;
      first_count = ap (λ (i : IntoIter A Z). into_iter_len i) begins ∙ len;
      second = others;
      second_count = count;
    })

-- it goes over all pairs
road : {A B Z : Type 0} (xs : List A) (ys : List B) (s : Zip (IntoIter A Z) (IntoIter B Z)) → IsOver xs ys s
    → YieldsList (zips (into_iter_steps {X = A} {Z = Z}) (into_iter_steps {X = B} {Z = Z})) (λ p. (p.0, p.1)) s
    (zip xs ys)
road xs ys s over =
    YieldsList-from_zip (YieldsList-from_vec xs over.first over.first_count)
    (YieldsList-from_vec ys over.second over.second_count)

-- it has yielded ps and is at t; the next call gives r and leaves u
module _ {M N O P Z : Type 0} (outs : List (Outgoing M N)) (ins : List (Incoming O P))
    (s t u : Zip (IntoIter (Outgoing M N) Z) (IntoIter (Incoming O P) Z)) (ps : List (Outgoing M N × Incoming O P))
    (r : Option (Outgoing M N × Incoming O P)) (over : IsOver outs ins s)
    (so_far : Yields (zips into_iter_steps into_iter_steps) s ps t)
    (step : zips into_iter_steps into_iter_steps t r u) where
  -- the pair that comes next
  pub next_pair : (link : LinkId M) (p : Outgoing M N × Incoming O P) → r ≡ Some p
      → outs ≡ fresh_from link 1 (length ins) → All (IsFresh 1) ins
      → (p.0 ≡ fresh_endpoint link (1 + length ps)) × IsFresh 1 p.1
  next_pair link p some are fresh =
      let turn = YieldsList-turn (road outs ins s over) ps t so_far r u p some step in
      pair_at link outs ins (length ps) p are fresh turn.0 turn.1

  -- at the end of the loop all have come
  pub all_pairs : (link : LinkId M) → r ≡ None → outs ≡ fresh_from link 1 (length ins)
      → map (λ p. p.1.link) ps ≡ map (λ i. i.link) ins
  all_pairs link none are =
      let all = YieldsList-end (road outs ins s over) ps t so_far r u none step in
      let long : length outs ≡ length ins = ap (λ l. length l) are ∙ from_length N link 1 (length ins) in
      ap (map (λ (p : Outgoing M N × Incoming O P). p.1.link)) (sym (map-id ps) ∙ all.0)
      ∙ seconds (λ (i : Incoming O P). i.link) outs ins long

-- The entry that an index's answer names: it is the one whose pending transfer expires first.
use Rattle.cdc_ledger.proofs.Words.{[], ◌&&◌, ◌++◌, ◌+◌, ◌<◌, ◌==◌, ◌||◌, ◌∙◌, ◌∷◌, ◌≡◌, ◌≢◌, AllByRecursion, Bool, Contains, Entry, History, IsLeast, IsSound, List, Some, Triple, ap, ap₂, arith, due, due_at, expires_at, expiry, false, filter, holds, index_of, is_due, is_le, is_open, is_sooner, length, nat_le, nat_lt, not, open_triples, pushed, refl, resolved, slice_get, slice_index_or, stored, stores, subst, sym, triple_at, triple_cmp, true, ℕ}
use Rattle.std.proofs.lemmas.Bool.{and_parts}
use Rattle.std.proofs.lemmas.Bool.Decides.{nat_tests}
use Rattle.std.proofs.lemmas.List.{length-append}
use Rattle.std.proofs.lemmas.List.Elements.{All-contains, All-contains_itself, All-filter, recursion_from_All}
use Rattle.std.proofs.Math.Seq.{get_or-append_seam}
use Rattle.cdc_expiry.proofs.Lists.{due_at-set_of, IsLeastOf, IsLeastOf-set_of}
use Rattle.cdc_ledger.proofs.BalanceLaws.{stores-holds}
use Rattle.cdc_ledger.proofs.DueLaws.{due-first, due-rest, is_due-ready, is_ready, ready_triples, ready_triples-filter}
use Rattle.cdc_ledger.proofs.IndexTimes.{holds-open}
use Rattle.cdc_ledger.proofs.IndexTriples.{All-triples_from, IsOf, IsOf-contained}
use Rattle.cdc_ledger.proofs.Pending.{All-around, Around, Around-both, Around-weaker, IsAmong, IsOther, IsOther-around, stored-among}

-- an entry of the history that holds its amount back still, at the place that the triple names
pub record IsOpenAt (h : History) (t : Triple) : Type 0 where
  pub entry : Entry
  pub within : t.slot < length h.entries
  pub there : slice_get h.entries t.slot ≡ Some entry
  pub at : (d : Entry) → slice_index_or h.entries t.slot d ≡ entry
  pub stored : stored h entry.transfer.id ≡ Some entry
  pub pending : holds entry.kind ≡ true
  pub unsettled : resolved h entry.transfer h.last ≡ false

-- the entry between those before it and those after it is at the slot of its triple
get_seam : (front : List Entry) (e : Entry) (back : List Entry) → slice_get (front ++ e ∷ back) (length front) ≡ Some e
get_seam [] e back = refl
get_seam (x ∷ front) e back = get_seam front e back

-- a transfer that has a triple still was neither posted, voided nor expired
unresolved : (h : History) (e : Entry) → is_open h e ≡ true → resolved h e.transfer h.last ≡ false
unresolved h e = third (holds e.kind) (not (e.transfer.timeout == 0)) (resolved h e.transfer h.last)
  where
    third : (a b c : Bool) → (a && b && not c) ≡ true → c ≡ false
    third true true true all = sym all
    third true true false all = refl
    third a b c all = cc

module _ (h : History) (t : Triple) (sound : IsSound h) (of : IsOf (is_open h) 0 h.entries t) where
  -- the slot is the number of entries before the triple's own
  place : t.slot ≡ length of.front
  place = ap (λ (u : Triple). u.slot) of.made ∙ omega arith

  -- so the slot leads to that entry, which is still open
  IsOpenAt-of : IsOpenAt h t
  IsOpenAt-of = record {
    entry = of.entry;
    within =
        let long : length h.entries ≡ length (of.front ++ of.entry ∷ of.back) = ap length of.split in
        omega (arith, place, length-append of.front (of.entry ∷ of.back));
    there = ap₂ (λ es n. slice_get es n) of.split place ∙ get_seam of.front of.entry of.back;
    at = λ d. ap₂ (λ es n. slice_index_or es n d) of.split place ∙ get_or-append_seam of.front of.entry of.back d;
    stored = stored-among h of.entry sound (record { front = of.front; back = of.back; split = of.split })
        (stores-holds of.entry.kind (holds-open h of.entry of.passes));
    pending = holds-open h of.entry of.passes;
    unsettled = unresolved h of.entry of.passes;
  }

-- the one that is due first: the others are due once it expired
pub record IsNext (h : History) (now : ℕ) (t : Triple) : Type 0 where
  pub found : IsOpenAt h t
  pub contained : Contains (open_triples h) t
  pub first : (time : ℕ) → h.last < time
      → due h now ≡ found.entry.transfer ∷ due (pushed h (expiry found.entry.transfer time)) now

-- of triples with different timestamps the lesser one belongs to the transfer that expires sooner: slots never decide
sooner_numbers : (a b s t m n : ℕ)
    → is_le (triple_cmp (record { expires_at = a; timestamp = s; slot = m })
    (record { expires_at = b; timestamp = t; slot = n })) ≡ true
    → t ≢ s → (nat_lt a b || ((a == b) && nat_lt s t)) ≡ true
sooner_numbers a b s t m n le apart = grind (arith, nat_tests)

-- the first in the order of triples is the soonest of those that are due
module _ (h : History) (now : ℕ) (t : Triple) (sound : IsSound h) (of : IsOf (is_ready h now) 0 h.entries t)
    (least : AllByRecursion (λ u. is_le (triple_cmp t u) ≡ true) (ready_triples h now)) where
  -- the entry of the least triple among the others
  abbrev among : IsAmong h.entries of.entry
  among = record { front = of.front; back = of.back; split = of.split }

  -- it is open still
  is : is_open h of.entry ≡ true
  is = (and_parts (is_open h of.entry) (nat_le (expires_at of.entry.transfer) now) of.passes).0

  -- it expires sooner than this entry's transfer; at equal expiry times the earlier timestamp is the sooner
  abbrev IsSooner : Entry → Type 0
  IsSooner y = y.transfer.timestamp ≢ of.entry.transfer.timestamp → is_sooner of.entry.transfer y.transfer ≡ true

  -- it is sooner than every other one whose expiry time has come
  sooner : AllByRecursion (λ y. is_ready h now y ≡ true → IsSooner y) h.entries
  sooner =
      All-triples_from (λ u. is_le (triple_cmp t u) ≡ true) IsSooner
      (λ n y le. sooner_numbers (expires_at of.entry.transfer) (expires_at y.transfer) of.entry.transfer.timestamp
      y.transfer.timestamp (0 + length of.front) n
      (subst (λ u. is_le (triple_cmp u (triple_at n y)) ≡ true) of.made le)) (is_ready h now) 0 h.entries least

  -- it stored its transfer, so no other entry has its id or its timestamp
  stores_it : stores of.entry.kind ≡ true
  stores_it = stores-holds of.entry.kind (holds-open h of.entry is)

  -- so it is due before all others that are due
  others_later : Around (λ y. is_due h now y ≡ true → is_sooner of.entry.transfer y.transfer ≡ true) of.front of.back
  others_later =
      Around-weaker (λ y. (is_ready h now y ≡ true → IsSooner y) × (stores y.kind ≡ true → IsOther of.entry y))
      (λ y. is_due h now y ≡ true → is_sooner of.entry.transfer y.transfer ≡ true)
      (λ y known ends.
      let ready : is_ready h now y ≡ true = sym (is_due-ready h now y) ∙ ends in
      let has = (and_parts (is_open h y) (nat_le (expires_at y.transfer) now) ready).0 in
      known.0 ready (known.1 (stores-holds y.kind (holds-open h y has))).time) of.front of.back
      (Around-both (λ y. is_ready h now y ≡ true → IsSooner y) (λ y. stores y.kind ≡ true → IsOther of.entry y)
      of.front of.back
      (All-around (λ y. is_ready h now y ≡ true → IsSooner y) h.entries of.entry among sooner)
      (IsOther-around h of.entry among sound stores_it))

  -- with the others after it
  abbrev found : IsOpenAt h t
  found = IsOpenAt-of h t sound (record {
    front = of.front;
    entry = of.entry;
    back = of.back;
    split = of.split;
    passes = is;
    made = of.made;
  })

  -- the pulse's next expiry is this one, and after it the others are due as they were
  due-found : (time : ℕ) → h.last < time
      → due h now ≡ found.entry.transfer ∷ due (pushed h (expiry found.entry.transfer time)) now
  unfolding IsOpenAt-of
  due-found time later =
      due-first h now of.entry among (is_due-ready h now of.entry ∙ of.passes) others_later
      ∙ ap (λ more. of.entry.transfer ∷ more) (sym (due-rest h now of.entry among sound (holds-open h of.entry is)
      time later))

-- a triple that is due is one of the index
contains_filtered : (keep : Triple → Bool) (xs : List Triple) (x : Triple) → Contains (filter keep xs) x → Contains xs x
contains_filtered keep xs x there =
    All-contains (Contains xs) (filter keep xs) x (All-filter keep (Contains xs) xs (All-contains_itself xs)) there

-- the index's answer is the one that expires next
pub IsNext-least : (h : History) (now : ℕ) (t : Triple) → IsSound h → IsLeast (due_at (index_of h) now) (Some t)
    → IsNext h now t
IsNext-least h now t sound least =
    let of_filter = IsLeastOf-set_of (filter (λ u. nat_le u.expires_at now) (open_triples h)) (Some t) (subst (λ s.
    IsLeast s (Some t)) (due_at-set_of (open_triples h) now) least) in
    let of_list : IsLeastOf (ready_triples h now) (Some t) =
    subst (λ xs. IsLeastOf xs (Some t)) (ready_triples-filter h now) of_filter in
    let of : IsOf (is_ready h now) 0 h.entries t = IsOf-contained (is_ready h now) 0 h.entries t of_list.0 in
    let first = recursion_from_All (λ u. is_le (triple_cmp t u) ≡ true) (ready_triples h now) of_list.1 in
    record {
      found = found h now t sound of first;
      contained = contains_filtered (λ u. nat_le u.expires_at now) (open_triples h) t of_filter.0;
      first = due-found h now t sound of first;
    }

-- The replies to clients, put into the order of the script.
use Rattle.cdc_run_command.proofs.Words.{All, AreMerged, Bool, HasNext, IsOrderOf, List, Reply, Some, TakesNext, [], ap, arith, batch_line, false, filter, found_at, get_or_from_slice_get, if◌then◌else◌, inl, inr, length, length-map, length-set, map, map-append, numbered_lines, option_map, own_of, refl, reply_lines, slice_get, slice_get-map, slice_get_read, slice_get_within, slice_index_or, slice_set, subst, suc, sym, take, take_all, take_found, times_in, true, zero, ℕ, ◌++◌, ◌+◌, ◌-◌, ◌<◌, ◌==◌, ◌∙◌, ◌∷◌, ◌≡◌, ◌≢◌, ◌≤◌, ◌⊎◌}
use Rattle.cdc_run_command.proofs.ShareLemmas.{other_number, own_of-other, own_of-same, same_number, shares_are}

-- ---- elements of lists

-- what is found in a list of views is within the list
pub found_inside : {X Y : Type 0} (f : X → Y) (xs : List X) (i : ℕ) (y : Y) → slice_get (map f xs) i ≡ Some y
    → i < length xs
found_inside f xs i y found = subst (λ n. i < n) (length-map xs f) (slice_get_within (map f xs) i y found)

-- and is the view of the element there
pub found_as : {X Y : Type 0} (f : X → Y) (xs : List X) (i : ℕ) (x : X) (y : Y) → slice_get (map f xs) i ≡ Some y
    → slice_get xs i ≡ Some x → f x ≡ y
found_as f xs i x y mapped found =
    let same : Some (f x) ≡ Some y = sym (slice_get-map f xs i ∙ ap (option_map f) found) ∙ mapped in cc

-- a client's share, when its next element is looked up: the elements are views of what was read at its place, and as
-- many are taken as were read there; so there is one more
pub stands_within : {X Y : Type 0} (f : X → List Y) (xs : List X) (taken : List ℕ) (client : ℕ) (own : X) (count : ℕ)
    → HasNext (map f xs) taken client → own ≡ slice_index_or xs (client - 1) own
    → count ≡ slice_index_or taken (client - 1) count
    → (slice_get xs (client - 1) ≡ Some own) × (count < length (f own))
stands_within f xs taken client own count next own_is count_is =
    let inside = found_inside f xs (client - 1) next.share next.share_is in
    let found : slice_get xs (client - 1) ≡ Some own = slice_get_read xs _ (client - 1) own refl inside own_is in
    let same : f own ≡ next.share = found_as f xs (client - 1) own next.share next.share_is found in
    let counted : count ≡ next.count =
    count_is ∙ get_or_from_slice_get taken (client - 1) next.count count next.count_is in
    (found, omega (arith, ap length same, counted, next.left))

-- what is found in a list that was written to is what was written, or was there before
found_set : (xs : List ℕ) (j v k n : ℕ) → slice_get (slice_set xs j v) k ≡ Some n
    → ((k ≡ j) × (n ≡ v)) ⊎ ((k ≢ j) × (slice_get xs k ≡ Some n))
found_set [] zero v k n found = cc
found_set [] (suc j) v k n found = cc
found_set (x ∷ xs) zero v zero n found = let same : v ≡ n = cc in inl (refl, sym same)
found_set (x ∷ xs) zero v (suc k) n found = inr ((λ same. omega (arith, same)), found)
found_set (x ∷ xs) (suc j) v zero n found = inr ((λ same. omega (arith, same)), found)
found_set (x ∷ xs) (suc j) v (suc k) n found =
    elim (found_set xs j v k n found) [
      | inl is ↦ inl (ap suc is.0, is.1)
      | inr is ↦ inr ((λ same. is.0 (omega (arith, same))), is.1)
    ]

-- what holds of each holds of what is found
all_found : (P : ℕ → Type 0) (xs : List ℕ) (i x : ℕ) → All P xs → slice_get xs i ≡ Some x → P x
all_found P xs i x all found =
    subst P (get_or_from_slice_get xs i x x found) (all i x (slice_get_within xs i x found))

-- ---- how often a client occurs in an order

-- once more if it comes next
times_in-same : (client : ℕ) (order : List ℕ) (x : ℕ) → x ≡ client
    → times_in client (order ++ x ∷ []) ≡ times_in client order + 1
times_in-same client [] x same =
    ap (λ (b : Bool). length (if b then x ∷ [] else [])) (same_number x client same)
times_in-same client (c ∷ order) x same = more (c == client) (times_in-same client order x same)
  where
    more : (b : Bool) → times_in client (order ++ x ∷ []) ≡ times_in client order + 1
        → length (if b then c ∷ filter (λ c'. c' == client) (order ++ x ∷ [])
        else filter (λ c'. c' == client) (order ++ x ∷ []))
        ≡ length (if b then c ∷ filter (λ c'. c' == client) order else filter (λ c'. c' == client) order) + 1
    more true rest = omega (arith, rest)
    more false rest = rest

-- as often as before if another one comes next
times_in-other : (client : ℕ) (order : List ℕ) (x : ℕ) → x ≢ client
    → times_in client (order ++ x ∷ []) ≡ times_in client order
times_in-other client [] x other =
    ap (λ (b : Bool). length (if b then x ∷ [] else [])) (other_number x client other)
times_in-other client (c ∷ order) x other = more (c == client) (times_in-other client order x other)
  where
    more : (b : Bool) → times_in client (order ++ x ∷ []) ≡ times_in client order
        → length (if b then c ∷ filter (λ c'. c' == client) (order ++ x ∷ [])
        else filter (λ c'. c' == client) (order ++ x ∷ []))
        ≡ length (if b then c ∷ filter (λ c'. c' == client) order else filter (λ c'. c' == client) order)
    more true rest = ap suc rest
    more false rest = rest

-- a client occurs less often before one of its places than in the whole order
times_before : (order : List ℕ) (i client : ℕ) → slice_get order i ≡ Some client
    → times_in client (take i order) + 1 ≤ times_in client order
times_before [] i client found = cc
times_before (x ∷ order) zero client found =
    let same : x ≡ client = cc in
    subst (λ (b : Bool). 1 ≤ length (if b then x ∷ filter (λ c. c == client) order
    else filter (λ c. c == client) order))
    (sym (same_number x client same)) (omega arith)
times_before (x ∷ order) (suc i) client found = more (x == client) (times_before order i client found)
  where
    more : (b : Bool) → times_in client (take i order) + 1 ≤ times_in client order
        → length (if b then x ∷ filter (λ c. c == client) (take i order)
        else filter (λ c. c == client) (take i order)) + 1
        ≤ length (if b then x ∷ filter (λ c. c == client) order else filter (λ c. c == client) order)
    more true rest = omega (arith, rest)
    more false rest = rest

-- ---- replies that are put into the order of the script

-- the first so many of an order have their next one each: these entries; and so many of each client's own are taken
pub record IsMerging {X : Type 0} (order : List ℕ) (shares : List (List X)) (i : ℕ) (taken : List ℕ)
    (entries : List (ℕ × X)) : Type 0 where
  pub owners : map (λ (e : ℕ × X). e.0) entries ≡ take i order
  pub places : length taken ≡ length shares
  pub own : (k : ℕ) (share : List X) (n : ℕ) → slice_get shares k ≡ Some share → slice_get taken k ≡ Some n
      → own_of (k + 1) entries ≡ take n share
  pub counts : (k n : ℕ) → slice_get taken k ≡ Some n → n ≡ times_in (k + 1) (take i order)

module _ {X : Type 0} where
  -- at first none is taken
  pub merging_none : (order : List ℕ) (shares : List (List X)) (taken : List ℕ) → length taken ≡ length shares
      → All (λ n. n ≡ 0) taken → IsMerging order shares 0 taken []
  merging_none order shares taken places none = record {
    owners = refl;
    places = places;
    own = λ k share n share_is n_is. sym (ap (λ m. take m share) (all_found (λ m. m ≡ 0) taken k n none n_is));
    counts = λ k n n_is. all_found (λ m. m ≡ 0) taken k n none n_is;
  }

  -- whose turn it is has one left
  pub has_next : (order : List ℕ) (shares : List (List X)) (i : ℕ) (taken : List ℕ) (entries : List (ℕ × X))
      (client : ℕ) → IsOrderOf order shares → IsMerging order shares i taken entries
      → slice_get order i ≡ Some client → HasNext shares taken client
  has_next order shares i taken entries client of is found =
      let known : (1 ≤ client) × (client ≤ length shares) =
      all_found (λ c. (1 ≤ c) × (c ≤ length shares)) order i client of.known found in
      let inside : client - 1 < length shares = omega (arith, known.0, known.1) in
      let share = found_at shares (client - 1) inside in
      let count = found_at taken (client - 1) (subst (λ n. client - 1 < n) (sym is.places) inside) in
      let back : client - 1 + 1 ≡ client = omega (arith, known.0) in
      let so_often : count.0 ≡ times_in client (take i order) =
      is.counts (client - 1) count.0 count.1 ∙ ap (λ c. times_in c (take i order)) back in
      let all : length share.0 ≡ times_in client order =
      of.each (client - 1) share.0 share.1 ∙ ap (λ c. times_in c order) back in
      record {
        share = share.0;
        count = count.0;
        from_one = known.0;
        share_is = share.1;
        count_is = count.1;
        left = omega (arith, times_before order i client found, so_often, all);
      }

  -- and once it is taken there is one entry more
  pub merging_more : (order : List ℕ) (shares : List (List X)) (i : ℕ) (taken new : List ℕ) (entries : List (ℕ × X))
      (client : ℕ) (next : X) → 1 ≤ client → IsMerging order shares i taken entries
      → slice_get order i ≡ Some client → TakesNext shares taken client next new
      → IsMerging order shares (i + 1) new (entries ++ (client, next) ∷ [])
  merging_more order shares i taken new entries client next from_one is found takes = record {
    owners = map-append (λ (e : ℕ × X). e.0) entries ((client, next) ∷ [])
        ∙ ap (λ (cs : List ℕ). cs ++ client ∷ []) is.owners ∙ sym (take_found order i client found);
    places = ap length takes.new_is ∙ length-set taken (client - 1) (takes.count + 1) ∙ is.places;
    own = λ k share n share_is n_is.
        elim (found_set taken (client - 1) (takes.count + 1) k n
        (sym (ap (λ (xs : List ℕ). slice_get xs k) takes.new_is) ∙ n_is)) [
          | inl at ↦ taken_one k share n share_is at.0 at.1
          | inr at ↦
              own_of-other (k + 1) entries (client, next) (λ same. at.0 (omega (arith, same)))
              ∙ is.own k share n share_is at.1
        ];
    counts = λ k n n_is.
        elim (found_set taken (client - 1) (takes.count + 1) k n
        (sym (ap (λ (xs : List ℕ). slice_get xs k) takes.new_is) ∙ n_is)) [
          | inl at ↦
              at.1 ∙ ap (λ m. m + 1) (is.counts k takes.count (ap (slice_get taken) at.0 ∙ takes.count_is))
              ∙ sym (times_in-same (k + 1) (take i order) client (omega (arith, at.0, from_one)))
              ∙ sym (ap (times_in (k + 1)) (take_found order i client found))
          | inr at ↦
              is.counts k n at.1
              ∙ sym (times_in-other (k + 1) (take i order) client (λ same. at.0 (omega (arith, same))))
              ∙ sym (ap (times_in (k + 1)) (take_found order i client found))
        ];
  }
    where
      taken_one : (k : ℕ) (share : List X) (n : ℕ) → slice_get shares k ≡ Some share → k ≡ client - 1
          → n ≡ takes.count + 1 → own_of (k + 1) (entries ++ (client, next) ∷ []) ≡ take n share
      taken_one k share n share_is here count =
          let there : Some takes.share ≡ Some share =
          sym takes.share_is ∙ sym (ap (slice_get shares) here) ∙ share_is in
          let same : takes.share ≡ share = cc in
          own_of-same (k + 1) entries (client, next) (omega (arith, here, from_one))
          ∙ ap (λ (xs : List X). xs ++ next ∷ [])
          (is.own k share takes.count share_is (ap (slice_get taken) here ∙ takes.count_is))
          ∙ sym (take_found share takes.count next
          (sym (ap (λ (xs : List X). slice_get xs takes.count) same) ∙ takes.next_is))
          ∙ sym (ap (λ m. take m share) count)

  -- in the end all are in their places
  pub merged_whole : (order : List ℕ) (shares : List (List X)) (i : ℕ) (taken : List ℕ) (entries : List (ℕ × X))
      → IsOrderOf order shares → IsMerging order shares i taken entries → length order ≤ i
      → AreMerged order shares entries
  merged_whole order shares i taken entries of is all = record {
    owners = is.owners ∙ take_all i order all;
    own = shares_are 1 shares entries (λ k share found.
        let count = found_at taken k
        (subst (λ n. k < n) (sym is.places) (slice_get_within shares k share found)) in
        let so_often : count.0 ≡ length share =
        is.counts k count.0 count.1 ∙ ap (times_in (k + 1)) (take_all i order all) ∙ sym (of.each k share found) in
        ap (λ c. own_of c entries) (let e : 1 + k ≡ k + 1 = omega arith in e)
        ∙ is.own k share count.0 found count.1
        ∙ take_all count.0 share (omega (arith, so_often)));
  }

-- the replies to the first so many batches of an order
pub record HasFound (order : List ℕ) (shares : List (List Reply)) (i : ℕ) (taken : List ℕ) (found : List Reply)
    : Type 0 where
  pub entries : List (ℕ × Reply)
  pub merging : IsMerging order shares i taken entries
  pub found_are : found ≡ map (λ (e : ℕ × Reply). e.1) entries

-- at first there is none
pub found_none : (order : List ℕ) (shares : List (List Reply)) (taken : List ℕ) (found : List Reply)
    → length taken ≡ length shares → All (λ n. n ≡ 0) taken → found ≡ [] → HasFound order shares 0 taken found
found_none order shares taken found places none empty = record {
  entries = [];
  merging = merging_none order shares taken places none;
  found_are = empty;
}

-- one reply more
pub found_more : (order : List ℕ) (shares : List (List Reply)) (i : ℕ) (taken new : List ℕ) (found found' : List Reply)
    (client : ℕ) (next : Reply) → IsOrderOf order shares → HasFound order shares i taken found
    → slice_get order i ≡ Some client → TakesNext shares taken client next new → found' ≡ found ++ next ∷ []
    → HasFound order shares (i + 1) new found'
found_more order shares i taken new found found' client next of has there takes added =
    let first : HasNext shares taken client =
    has_next order shares i taken has.entries client of has.merging there in
    record {
      entries = has.entries ++ (client, next) ∷ [];
      merging = merging_more order shares i taken new has.entries client next first.from_one has.merging there takes;
      found_are = added ∙ ap (λ (xs : List Reply). xs ++ next ∷ []) has.found_are
          ∙ sym (map-append (λ (e : ℕ × Reply). e.1) has.entries ((client, next) ∷ []));
    }

-- ---- their lines

-- the lines of replies are those of the entries that have them
pub lines_numbered : (n : ℕ) (entries : List (ℕ × Reply))
    → numbered_lines n (map (λ (e : ℕ × Reply). e.1) entries) ≡ reply_lines n entries
lines_numbered n [] = refl
lines_numbered n (e ∷ entries) =
    ap (λ (text : List ℕ). batch_line n e.1.answer ++ text) (lines_numbered (n + 1) entries)

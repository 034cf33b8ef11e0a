-- What belongs to clients, parted and put together again.
use Rattle.cdc_run_command.proofs.Words.{Bool, List, Some, [], ap, append-nil, ap₂, arith, eqb_tells, false, filter, filter-append, if◌then◌else◌, inl, inr, length, map, map-append, not, own_of, refl, shares_from, slice_get, subst, suc, sym, times_in, true, zero, ℕ, ◌++◌, ◌+◌, ◌==◌, ◌∙◌, ◌∷◌, ◌≡◌, ◌≢◌}

-- a number is itself
pub same_number : (a b : ℕ) → a ≡ b → (a == b) ≡ true
same_number a b same =
    elim (eqb_tells a b) [
      | inl is ↦ is.0
      | inr is ↦ absurd (is.1 same)
    ]

-- and no other one
pub other_number : (a b : ℕ) → a ≢ b → (a == b) ≡ false
other_number a b other =
    elim (eqb_tells a b) [
      | inl is ↦ absurd (other is.1)
      | inr is ↦ is.0
    ]

module _ {X : Type 0} where
  -- what an entry adds to a client's own
  abbrev added : Bool → ℕ × X → List X
  added b e = map (λ (e' : ℕ × X). e'.1) (if b then e ∷ [] else [])

  -- one entry more
  own_of-more : (client : ℕ) (entries : List (ℕ × X)) (e : ℕ × X)
      → own_of client (entries ++ e ∷ []) ≡ own_of client entries ++ added (e.0 == client) e
  own_of-more client entries e =
      ap (map (λ (e' : ℕ × X). e'.1)) (filter-append (λ (e' : ℕ × X). e'.0 == client) entries (e ∷ []))
      ∙ map-append (λ (e' : ℕ × X). e'.1) (filter (λ (e' : ℕ × X). e'.0 == client) entries)
      (if e.0 == client then e ∷ [] else [])

  -- an element of the client comes after its others
  pub own_of-same : (client : ℕ) (entries : List (ℕ × X)) (e : ℕ × X) → e.0 ≡ client
      → own_of client (entries ++ e ∷ []) ≡ own_of client entries ++ e.1 ∷ []
  own_of-same client entries e same =
      own_of-more client entries e
      ∙ ap (λ (b : Bool). own_of client entries ++ added b e) (same_number e.0 client same)

  -- one of another client changes nothing
  pub own_of-other : (client : ℕ) (entries : List (ℕ × X)) (e : ℕ × X) → e.0 ≢ client
      → own_of client (entries ++ e ∷ []) ≡ own_of client entries
  own_of-other client entries e other =
      own_of-more client entries e
      ∙ ap (λ (b : Bool). own_of client entries ++ added b e) (other_number e.0 client other)
      ∙ append-nil (own_of client entries)

  -- a client's share stays if another client's is taken out
  pub own_of-others : (client other : ℕ) (entries : List (ℕ × X)) → client ≢ other
      → own_of client (filter (λ (e : ℕ × X). not (e.0 == other)) entries) ≡ own_of client entries
  own_of-others client other [] differ = refl
  own_of-others client other (e ∷ rest) differ =
      elim (eqb_tells e.0 other) [
        | inl is ↦
            ap (λ (b : Bool). own_of client (if not b then e ∷ filter (λ (e' : ℕ × X). not (e'.0 == other)) rest
            else filter (λ (e' : ℕ × X). not (e'.0 == other)) rest)) is.0
            ∙ own_of-others client other rest differ
            ∙ sym (ap (λ (b : Bool). map (λ (e' : ℕ × X). e'.1)
            (if b then e ∷ filter (λ (e' : ℕ × X). e'.0 == client) rest
            else filter (λ (e' : ℕ × X). e'.0 == client) rest))
            (other_number e.0 client (λ same. differ (sym same ∙ is.1))))
        | inr is ↦
            ap (λ (b : Bool). own_of client (if not b then e ∷ filter (λ (e' : ℕ × X). not (e'.0 == other)) rest
            else filter (λ (e' : ℕ × X). not (e'.0 == other)) rest)) is.0
            ∙ kept (e.0 == client) (own_of-others client other rest differ)
      ]
    where
      kept : (b : Bool)
          → own_of client (filter (λ (e' : ℕ × X). not (e'.0 == other)) rest) ≡ own_of client rest
          → map (λ (e' : ℕ × X). e'.1) (if b then e ∷ filter (λ (e' : ℕ × X). e'.0 == client)
          (filter (λ (e' : ℕ × X). not (e'.0 == other)) rest)
          else filter (λ (e' : ℕ × X). e'.0 == client) (filter (λ (e' : ℕ × X). not (e'.0 == other)) rest))
          ≡ map (λ (e' : ℕ × X). e'.1) (if b then e ∷ filter (λ (e' : ℕ × X). e'.0 == client) rest
          else filter (λ (e' : ℕ × X). e'.0 == client) rest)
      kept true same = ap (λ (xs : List X). e.1 ∷ xs) same
      kept false same = same

  -- the shares of one client more
  pub shares_from-more : (client n : ℕ) (entries : List (ℕ × X))
      → shares_from client (n + 1) entries ≡ shares_from client n entries ++ own_of (client + n) entries ∷ []
  shares_from-more client zero entries =
      ap (λ c. own_of c entries ∷ []) (let e : client ≡ client + 0 = omega arith in e)
  shares_from-more client (suc n) entries =
      ap (λ m. shares_from client m entries) (let e : suc n + 1 ≡ suc (n + 1) = omega arith in e)
      ∙ ap (λ (rest : List (List X)). own_of client entries ∷ rest) (shares_from-more (client + 1) n entries)
      ∙ ap (λ c. own_of client entries ∷ (shares_from (client + 1) n entries ++ own_of c entries ∷ []))
      (let e : client + 1 + n ≡ client + suc n = omega arith in e)

  -- there is one for each client
  pub length-shares_from : (client n : ℕ) (entries : List (ℕ × X)) → length (shares_from client n entries) ≡ n
  length-shares_from client zero entries = refl
  length-shares_from client (suc n) entries = ap suc (length-shares_from (client + 1) n entries)

  -- the share at a place is that of its client
  pub slice_get-shares_from : (client n k : ℕ) (entries : List (ℕ × X)) (share : List X)
      → slice_get (shares_from client n entries) k ≡ Some share → share ≡ own_of (client + k) entries
  slice_get-shares_from client zero k entries share found = cc
  slice_get-shares_from client (suc n) zero entries share found =
      let same : own_of client entries ≡ share = cc in
      sym same ∙ ap (λ c. own_of c entries) (let e : client ≡ client + 0 = omega arith in e)
  slice_get-shares_from client (suc n) (suc k) entries share found =
      slice_get-shares_from (client + 1) n k entries share found
      ∙ ap (λ c. own_of c entries) (let e : client + 1 + k ≡ client + suc k = omega arith in e)

  -- lists of which each is its client's own are the shares
  pub shares_are : (client : ℕ) (shares : List (List X)) (entries : List (ℕ × X))
      → ((k : ℕ) (share : List X) → slice_get shares k ≡ Some share → own_of (client + k) entries ≡ share)
      → shares_from client (length shares) entries ≡ shares
  shares_are client [] entries each = refl
  shares_are client (share ∷ rest) entries each =
      ap₂ (λ (x : List X) (xs : List (List X)). x ∷ xs)
      (subst (λ c. own_of c entries ≡ share) (let e : client + 0 ≡ client = omega arith in e) (each 0 share refl))
      (shares_are (client + 1) rest entries (λ k s found.
      subst (λ c. own_of c entries ≡ s) (let e : client + suc k ≡ client + 1 + k = omega arith in e)
      (each (suc k) s found)))

  -- a client's share has as many elements as it occurs among the entries
  pub length-own_of : (client : ℕ) (entries : List (ℕ × X))
      → length (own_of client entries) ≡ times_in client (map (λ (e : ℕ × X). e.0) entries)
  length-own_of client [] = refl
  length-own_of client (e ∷ rest) = counted (e.0 == client) (length-own_of client rest)
    where
      counted : (b : Bool) → length (own_of client rest) ≡ times_in client (map (λ (e' : ℕ × X). e'.0) rest)
          → length (map (λ (e' : ℕ × X). e'.1) (if b then e ∷ filter (λ (e' : ℕ × X). e'.0 == client) rest
          else filter (λ (e' : ℕ × X). e'.0 == client) rest))
          ≡ length (if b then e.0 ∷ filter (λ c. c == client) (map (λ (e' : ℕ × X). e'.0) rest)
          else filter (λ c. c == client) (map (λ (e' : ℕ × X). e'.0) rest))
      counted true same = ap suc same
      counted false same = same

-- The endpoints of a new link's senders, one by one.
use Rattle.cdc_run.proofs.Words.{All-push, AreOwn, Incoming, IsFresh, LinkId, List, Outgoing, [], add-one, ap, arith, drop, fresh_endpoint, fresh_endpoints, fresh_from, map, map-append, only_sender, refl, slice_index_or, suc, sym, take, zero, ℕ, ◌++◌, ◌+◌, ◌∙◌, ◌∷◌, ◌≡◌}

module _ {M N : Type 0} (link : LinkId M) where
  -- one more has the next number
  from_push : (number n : ℕ)
      → fresh_from {M = M} {N = N} link number n ++ fresh_endpoint link (number + n) ∷ []
      ≡ fresh_from link number (suc n)
  from_push number zero =
      let same : number + 0 ≡ number = omega arith in
      ap (λ (k : ℕ). fresh_endpoint {M = M} {N = N} link k ∷ []) same
  from_push number (suc n) =
      let same : number + suc n ≡ number + 1 + n = omega arith in
      ap (λ (l : List (Outgoing M N)). fresh_endpoint link number ∷ l)
      (ap (λ (k : ℕ). fresh_from {M = M} {N = N} link (number + 1) n ++ fresh_endpoint link k ∷ []) same
      ∙ from_push (number + 1) n)

  -- all senders are the one of number 0 and those from 1 on
  pub all_from : (n : ℕ) → fresh_endpoints {M = M} {N = N} link (suc n) ≡ fresh_endpoint link 0 ∷ fresh_from link 1 n
  all_from zero = refl
  all_from (suc n) =
      let same : suc n ≡ 1 + n = omega arith in
      ap (λ (l : List (Outgoing M N)). l ++ fresh_endpoint link (suc n) ∷ []) (all_from n)
      ∙ ap (λ (l : List (Outgoing M N)). fresh_endpoint link 0 ∷ l)
      (ap (λ (k : ℕ). fresh_from {M = M} {N = N} link 1 n ++ fresh_endpoint link k ∷ []) same ∙ from_push 1 n)

  -- the first of all is that of number 0
  pub first_of_all : (outs : List (Outgoing M N)) (n : ℕ) (first : Outgoing M N) → outs ≡ fresh_endpoints link (n + 1)
      → first ≡ slice_index_or outs 0 first → first ≡ fresh_endpoint link 0
  first_of_all outs n first all is =
      is ∙ ap (λ (l : List (Outgoing M N)). slice_index_or l 0 first)
      (all ∙ ap (fresh_endpoints link) (add-one n) ∙ all_from n)

  -- and the others are those from 1 on
  pub rest_of_all : (outs rest : List (Outgoing M N)) (n : ℕ) → outs ≡ fresh_endpoints link (n + 1)
      → rest ≡ take 0 outs ++ drop (0 + 1) outs → rest ≡ fresh_from link 1 n
  rest_of_all outs rest n all is =
      is ∙ ap (λ (l : List (Outgoing M N)). take 0 l ++ drop (0 + 1) l)
      (all ∙ ap (fresh_endpoints link) (add-one n) ∙ all_from n)

-- one more link of its own
pub own_push : {M N : Type 0} (outs : List (Outgoing M N)) (ins : List (Incoming M N)) (out : Outgoing M N)
    (into : Incoming M N) → AreOwn outs ins → out ≡ only_sender into → IsFresh 1 into
    → AreOwn (outs ++ out ∷ []) (ins ++ into ∷ [])
own_push outs ins out into are its fresh = record {
  sender =
      ap (λ l. l ++ out ∷ []) are.sender ∙ ap (λ o. map only_sender ins ++ o ∷ []) its
      ∙ sym (map-append only_sender ins (into ∷ []));
  fresh = All-push (IsFresh 1) ins into are.fresh fresh;
}

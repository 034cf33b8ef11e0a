-- An index of accounts by their timestamps, made of one account after another.
use Rattle.cdc_audit.proofs.Words.{FixedFields, IsLinkIndex, IsTimeIndex, List, None, Option, Some, [], ap, append-nil, append_assoc, cond, lookup, nat_eq, option_or, refl, subst, sym, ℕ, ◌++◌, ◌==◌, ◌∙◌, ◌∷◌, ◌≡◌}
use Rattle.cdc_audit.proofs.ApartLemmas.{index-push}

-- the index has the accounts that aren't left
pub record Indexed (all left : List (ℕ × FixedFields)) (index : List (ℕ × ℕ)) : Type 0 where
  pub done : List (ℕ × FixedFields)
  pub parted : all ≡ done ++ left
  pub has : IsTimeIndex index done

pub indexed_none : (all left : List (ℕ × FixedFields)) (index : List (ℕ × ℕ)) → all ≡ left → index ≡ []
    → Indexed all left index
indexed_none all left index is none = record { done = []; parted = is; has = λ t. ap (lookup (nat_eq t)) none }

-- one more account
pub indexed_more : (all left rest : List (ℕ × FixedFields)) (a : ℕ × FixedFields) (old mid new : List (ℕ × ℕ))
    → Indexed all left old → left ≡ a ∷ rest → mid ≡ old
    → ((t : ℕ) → lookup (nat_eq t) new
    ≡ option_or (lookup (nat_eq t) mid) (cond (a.1.timestamp == t) (Some a.0) None))
    → Indexed all rest new
indexed_more all left rest a old mid new before first same adds = record {
  done = before.done ++ a ∷ [];
  parted = before.parted ∙ ap (λ es. before.done ++ es) first ∙ sym (append_assoc before.done (a ∷ []) rest);
  has = index-push mid new before.done a adds (subst (λ i. IsTimeIndex i before.done) (sym same) before.has);
}

-- all of them
pub indexed_all : (all left : List (ℕ × FixedFields)) (index : List (ℕ × ℕ)) → Indexed all left index → left ≡ []
    → IsTimeIndex index all
indexed_all all left index before none =
    subst (IsTimeIndex index)
    (sym (before.parted ∙ ap (λ es. before.done ++ es) none ∙ append-nil before.done)) before.has

-- ---- of the linked ones

-- the index has those that aren't left
pub record LinkIndexed (all left : List (ℕ × FixedFields)) (index : List (ℕ × ℕ)) : Type 0 where
  pub done : List (ℕ × FixedFields)
  pub parted : all ≡ done ++ left
  pub has : IsLinkIndex index done

pub linked_none : (all left : List (ℕ × FixedFields)) (index : List (ℕ × ℕ)) → all ≡ left → index ≡ []
    → LinkIndexed all left index
linked_none all left index is none = record { done = []; parted = is; has = λ t. ap (lookup (nat_eq t)) none }

-- one more account
pub linked_more : (all left rest : List (ℕ × FixedFields)) (a : ℕ × FixedFields) (old mid new : List (ℕ × ℕ))
    → LinkIndexed all left old → left ≡ a ∷ rest → mid ≡ old
    → ((fs : List (ℕ × FixedFields)) → IsLinkIndex mid fs → IsLinkIndex new (fs ++ a ∷ []))
    → LinkIndexed all rest new
linked_more all left rest a old mid new before first same adds = record {
  done = before.done ++ a ∷ [];
  parted = before.parted ∙ ap (λ es. before.done ++ es) first ∙ sym (append_assoc before.done (a ∷ []) rest);
  has = adds before.done (subst (λ i. IsLinkIndex i before.done) (sym same) before.has);
}

-- all of them
pub linked_all : (all left : List (ℕ × FixedFields)) (index : List (ℕ × ℕ)) → LinkIndexed all left index → left ≡ []
    → IsLinkIndex index all
linked_all all left index before none =
    subst (IsLinkIndex index)
    (sym (before.parted ∙ ap (λ es. before.done ++ es) none ∙ append-nil before.done)) before.has

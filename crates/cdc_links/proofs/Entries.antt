-- Lists of what was sent: what one sender's part of them is, and that it could be sent in this order.
use Rattle.std.proofs.Common.{◌≡◌, ◌≢◌, ◌==◌, ℕ, Bool, cond, List, [], ◌∷◌, ◌++◌, map, sym, refl, ap, ◌∙◌, subst, eq-eqb, ne_eqb, append_assoc, append-nil}
use Rattle.std.specs.List.{filter}
use Rattle.std.proofs.lemmas.List.{map-append}
use Rattle.std.proofs.lemmas.List.Elements.{filter-append}
use Rattle.cdc_links.specs.Links.{of_sender, FollowFrom}

module _ {M N : Type 0} where
  -- the part of two lists is the parts of both
  pub of_sender-append : (j : ℕ) (xs ys : List (ℕ × (M × N)))
      → of_sender j (xs ++ ys) ≡ of_sender j xs ++ of_sender j ys
  of_sender-append j xs ys =
      let own : ℕ × (M × N) → Bool = λ e. e.0 == j in
      let message : ℕ × (M × N) → M × N = λ e. e.1 in
      ap (map message) (filter-append own xs ys) ∙ map-append message (filter own xs) (filter own ys)

  -- a sender's own message is part of it
  pub of_sender-own : (e : ℕ × (M × N)) (xs : List (ℕ × (M × N))) → of_sender e.0 (e ∷ xs) ≡ e.1 ∷ of_sender e.0 xs
  of_sender-own e xs =
      let own : ℕ × (M × N) → Bool = λ x. x.0 == e.0 in
      let message : ℕ × (M × N) → M × N = λ x. x.1 in
      ap (λ b. map message (cond b (e ∷ filter own xs) (filter own xs))) (eq-eqb e.0 e.0 refl)

  -- another's isn't
  pub of_sender-other : (j : ℕ) (e : ℕ × (M × N)) (xs : List (ℕ × (M × N))) → e.0 ≢ j
      → of_sender j (e ∷ xs) ≡ of_sender j xs
  of_sender-other j e xs apart =
      let own : ℕ × (M × N) → Bool = λ x. x.0 == j in
      let message : ℕ × (M × N) → M × N = λ x. x.1 in
      ap (λ b. map message (cond b (e ∷ filter own xs) (filter own xs))) (ne_eqb e.0 j apart)

  -- a message more of this sender
  pub of_sender-snoc_own : (e : ℕ × (M × N)) (xs : List (ℕ × (M × N)))
      → of_sender e.0 (xs ++ e ∷ []) ≡ of_sender e.0 xs ++ e.1 ∷ []
  of_sender-snoc_own e xs = of_sender-append e.0 xs (e ∷ []) ∙ ap (λ l. of_sender e.0 xs ++ l) (of_sender-own e [])

  -- a message more of another
  pub of_sender-snoc_other : (j : ℕ) (e : ℕ × (M × N)) (xs : List (ℕ × (M × N))) → e.0 ≢ j
      → of_sender j (xs ++ e ∷ []) ≡ of_sender j xs
  of_sender-snoc_other j e xs apart =
      of_sender-append j xs (e ∷ [])
      ∙ (ap (λ l. of_sender j xs ++ l) (of_sender-other j e [] apart) ∙ append-nil (of_sender j xs))

  -- a message of this sender between two others
  pub of_sender-middle : (e : ℕ × (M × N)) (xs ys : List (ℕ × (M × N)))
      → of_sender e.0 (xs ++ e ∷ ys) ≡ of_sender e.0 xs ++ e.1 ∷ of_sender e.0 ys
  of_sender-middle e xs ys = of_sender-append e.0 xs (e ∷ ys) ∙ ap (λ l. of_sender e.0 xs ++ l) (of_sender-own e ys)

  module _ (may_follow : ℕ → List (M × N) → M × N → Type 0) where
    -- one message more, which could follow all of them
    pub follow-snoc : (j : ℕ) (before messages : List (M × N)) (m : M × N) → FollowFrom may_follow j before messages
        → may_follow j (before ++ messages) m → FollowFrom may_follow j before (messages ++ m ∷ [])
    follow-snoc j before [] m chain next = (subst (λ l. may_follow j l m) (append-nil before) next, tt)
    follow-snoc j before (x ∷ xs) m chain next = (
      chain.0,
      follow-snoc j (before ++ x ∷ []) xs m chain.1
          (subst (λ l. may_follow j l m) (sym (append_assoc before (x ∷ []) xs)) next),
    )

    -- a message between two others could follow those before it
    pub follow-middle : (j : ℕ) (before messages : List (M × N)) (m : M × N) (rest : List (M × N))
        → FollowFrom may_follow j before (messages ++ m ∷ rest) → may_follow j (before ++ messages) m
    follow-middle j before [] m rest chain = subst (λ l. may_follow j l m) (sym (append-nil before)) chain.0
    follow-middle j before (x ∷ xs) m rest chain =
        subst (λ l. may_follow j l m) (append_assoc before (x ∷ []) xs)
        (follow-middle j (before ++ x ∷ []) xs m rest chain.1)

    -- a prefix of what could be sent could be sent
    pub follow-prefix : (j : ℕ) (before messages rest : List (M × N))
        → FollowFrom may_follow j before (messages ++ rest)
        → FollowFrom may_follow j before messages
    follow-prefix j before [] rest chain = tt
    follow-prefix j before (x ∷ xs) rest chain = (chain.0, follow-prefix j (before ++ x ∷ []) xs rest chain.1)

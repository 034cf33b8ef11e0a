-- The first line of two tables, one after the other, and the test of a line by its result.
use Rattle.cdc_ledger.proofs.Words.{[], ◌++◌, ◌==◌, ◌∙◌, ◌∷◌, ◌≡◌, Bool, List, None, Option, Some, ap, false, first_line, if◌then◌else◌, option_or, refl, true, ℕ}

module _ {R : Type 0} where
  -- if the first line applies it decides, whether tables follow or not
  from : (b : Bool) (r : R) (p q : Option R)
      → (if b then Some r else option_or p q) ≡ option_or (if b then Some r else p) q
  from true r p q = refl
  from false r p q = refl

  -- of two tables the first one decides; if none of its lines applies, the second one does
  pub first_line-append : (xs ys : List (Bool × R)) → first_line (xs ++ ys) ≡ option_or (first_line xs) (first_line ys)
  first_line-append [] ys = refl
  first_line-append (x ∷ xs) ys = ap (λ o. if x.0 then Some x.1 else o) (first_line-append xs ys)
      ∙ from x.0 x.1 (first_line xs) (first_line ys)

  -- so a request that passes the first table is validated by the second one
  pub first_line-append_none : (xs ys : List (Bool × R)) → first_line xs ≡ None → first_line (xs ++ ys) ≡ first_line ys
  first_line-append_none xs ys h = first_line-append xs ys ∙ ap (λ o. option_or o (first_line ys)) h

  -- and one that the first table refuses has its result
  pub first_line-append_some : (xs ys : List (Bool × R)) (r : R) → first_line xs ≡ Some r
      → first_line (xs ++ ys) ≡ Some r
  first_line-append_some xs ys r h = first_line-append xs ys ∙ ap (λ o. option_or o (first_line ys)) h

  -- if there is no result, this line's test failed and the later lines gave none
  parts : (b : Bool) (r : R) (o : Option R) → (if b then Some r else o) ≡ None → (b ≡ false) × (o ≡ None)
  parts true r o h = cc
  parts false r o h = (refl, h)

  -- no line applies: neither does the first, nor one of the others
  first_line_none_parts : (line : Bool × R) (lines : List (Bool × R)) → first_line (line ∷ lines) ≡ None
      → (line.0 ≡ false) × (first_line lines ≡ None)
  first_line_none_parts line lines h = parts line.0 line.1 (first_line lines) h

  -- if neither table refuses, the request passes each of them
  or_parts : (p q : Option R) → option_or p q ≡ None → (p ≡ None) × (q ≡ None)
  or_parts None q h = (refl, h)
  or_parts (Some x) q h = cc

  -- a request that two tables let pass is let pass by each, so that each one's tests are known to fail
  pub first_line_append_none_parts : (xs ys : List (Bool × R)) → first_line (xs ++ ys) ≡ None
      → (first_line xs ≡ None) × (first_line ys ≡ None)
  first_line_append_none_parts xs ys h = or_parts (first_line xs) (first_line ys) (rw first_line-append at h)

-- if both tests fail, so does the one that is chosen
both_fail : (b p q : Bool) → p ≡ false → q ≡ false → (if b then p else q) ≡ false
both_fail true p q no_p no_q = no_p
both_fail false p q no_p no_q = no_q

-- a line is identified by the number of its result, so that a proof finds it at any position of its table
module _ {R : Type 0} (number : R → ℕ) (result : R) where
  -- the test of the line with this result; of a table that is written out this computes to that test
  abbrev pub test_of : List (Bool × R) → Bool
  test_of [] = false
  test_of (line ∷ lines) = if number line.1 == number result then line.0 else test_of lines

  -- no line applies, so the test of this one fails
  pub test_fails : (lines : List (Bool × R)) → first_line lines ≡ None → test_of lines ≡ false
  test_fails [] h = refl
  test_fails (line ∷ lines) h =
      let both : (line.0 ≡ false) × (first_line lines ≡ None) = first_line_none_parts line lines h in
      both_fail (number line.1 == number result) line.0 (test_of lines) both.0 (test_fails lines both.1)

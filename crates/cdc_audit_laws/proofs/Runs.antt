-- Runs of timestamps that pass a test.
use Rattle.std.proofs.Common.{◌≡◌, zero, suc, ℕ, ◌+◌, ◌-◌, ◌<◌, ◌≤◌, Bool, true, false, if◌then◌else◌, sym, ◌∙◌, subst, refl, arith}
use Rattle.cdc_audit_laws.proofs.OfStd.{false≢true}
use Rattle.cdc_audit.specs.Rooms.{run_down, run_up}

module _ (test : ℕ → Bool) where
  abbrev Passes : ℕ → Type 0
  Passes t = test t ≡ true

  -- each timestamp of a run passes
  pub run_up-true : (most t j : ℕ) → j < run_up test most t → test (t + j) ≡ true
  run_up-true zero t j less = absurd (let no : ⊥ = omega (arith, less) in no)
  run_up-true (suc most) t j less = by (test t) refl j less (λ i. run_up-true most (t + 1) i)
    where
      by : (b : Bool) → test t ≡ b → (j : ℕ) → j < (if b then run_up test most (t + 1) + 1 else 0)
          → ((i : ℕ) → i < run_up test most (t + 1) → test (t + 1 + i) ≡ true) → test (t + j) ≡ true
      by false is j less more = absurd (let no : ⊥ = omega (arith, less) in no)
      by true is zero less more = subst Passes (let same : t ≡ t + 0 = omega arith in same) is
      by true is (suc j) less more =
          subst Passes (let same : t + 1 + j ≡ t + suc j = omega arith in same) (more j (omega (arith, less)))

  pub run_down-true : (most t j : ℕ) → j < run_down test most t → test (t - j) ≡ true
  run_down-true zero t j less = absurd (let no : ⊥ = omega (arith, less) in no)
  run_down-true (suc most) t j less = by (test t) refl j less (λ i. run_down-true most (t - 1) i)
    where
      by : (b : Bool) → test t ≡ b → (j : ℕ) → j < (if b then run_down test most (t - 1) + 1 else 0)
          → ((i : ℕ) → i < run_down test most (t - 1) → test (t - 1 - i) ≡ true) → test (t - j) ≡ true
      by false is j less more = absurd (let no : ⊥ = omega (arith, less) in no)
      by true is zero less more = subst Passes (let same : t ≡ t - 0 = omega arith in same) is
      by true is (suc j) less more =
          subst Passes (let same : t - 1 - j ≡ t - suc j = omega arith in same) (more j (omega (arith, less)))

  -- a run that is shorter than it may be ends before a timestamp that doesn't pass
  pub run_up-stop : (most t : ℕ) → run_up test most t < most → test (t + run_up test most t) ≡ false
  run_up-stop zero t less = absurd (let no : ⊥ = omega (arith, less) in no)
  run_up-stop (suc most) t less = by (test t) refl less (run_up-stop most (t + 1))
    where
      by : (b : Bool) → test t ≡ b → (if b then run_up test most (t + 1) + 1 else 0) < suc most
          → (run_up test most (t + 1) < most → test (t + 1 + run_up test most (t + 1)) ≡ false)
          → test (t + (if b then run_up test most (t + 1) + 1 else 0)) ≡ false
      by true is less more =
          subst (λ n. test n ≡ false)
          (let same : t + 1 + run_up test most (t + 1) ≡ t + (run_up test most (t + 1) + 1) = omega arith in same)
          (more (omega (arith, less)))
      by false is less more = subst (λ n. test n ≡ false) (let same : t ≡ t + 0 = omega arith in same) is

  -- and one of so many that pass is no shorter
  pub run_up-least : (most t m : ℕ) → ((j : ℕ) → j < m → test (t + j) ≡ true) → m ≤ most → m ≤ run_up test most t
  run_up-least most t zero all within = omega arith
  run_up-least zero t (suc m) all within = absurd (let no : ⊥ = omega (arith, within) in no)
  run_up-least (suc most) t (suc m) all within =
      by (test t) refl (run_up-least most (t + 1) m
      (λ j less. subst Passes (let same : t + suc j ≡ t + 1 + j = omega arith in same)
      (all (suc j) (omega (arith, less))))
      (omega (arith, within)))
    where
      by : (b : Bool) → test t ≡ b → m ≤ run_up test most (t + 1)
          → suc m ≤ (if b then run_up test most (t + 1) + 1 else 0)
      by true is more = omega (arith, more)
      by false is more =
          absurd (false≢true (sym is ∙ subst Passes (let same : t + 0 ≡ t = omega arith in same) (all 0 (omega arith))))

  pub run_down-least : (most t m : ℕ) → ((j : ℕ) → j < m → test (t - j) ≡ true) → m ≤ most
      → m ≤ run_down test most t
  run_down-least most t zero all within = omega arith
  run_down-least zero t (suc m) all within = absurd (let no : ⊥ = omega (arith, within) in no)
  run_down-least (suc most) t (suc m) all within =
      by (test t) refl (run_down-least most (t - 1) m
      (λ j less. subst Passes (let same : t - suc j ≡ t - 1 - j = omega arith in same)
      (all (suc j) (omega (arith, less))))
      (omega (arith, within)))
    where
      by : (b : Bool) → test t ≡ b → m ≤ run_down test most (t - 1)
          → suc m ≤ (if b then run_down test most (t - 1) + 1 else 0)
      by true is more = omega (arith, more)
      by false is more =
          absurd (false≢true (sym is ∙ subst Passes (let same : t - 0 ≡ t = omega arith in same) (all 0 (omega arith))))

-- Cases of a test, and several facts in a row.
use Rattle.std.proofs.Common.{◌≡◌, ◌⊎◌, inl, inr, Bool, true, false, ◌&&◌, ◌||◌, refl}

infixr 5 ◌&◌
-- one fact and another one, as in `a & b & c & tt`
abbrev pub ◌&◌ : {A B : Type 0} → A → B → A × B
a & b = (a, b)

-- of two tests the second fails, if the first passes
pub and_unless : (one other : Bool) → (one ≡ true → other ≡ false) → (one && other) ≡ false
and_unless true other fails = fails refl
and_unless false other fails = refl

-- of two tests one passes
pub either : (one other : Bool) → (one || other) ≡ true → (one ≡ true) ⊎ (other ≡ true)
either true other is = inl refl
either false other is = inr is

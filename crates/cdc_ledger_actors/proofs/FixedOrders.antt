-- An order is fixed by the clients of its batches and by each client's own batches.
use Rattle.std.proofs.Common.{◌≡◌, ◌==◌, ℕ, Bool, true, false, List, [], ◌∷◌, refl, sym, ap, ap₂, ◌∙◌, eq-eqb}
use Rattle.cdc_ledger_actors.specs.Orders.{OrdersAreFixed, batches_by, clients_in}
use Rattle.cdc_ledger_actors.proofs.ClientReplies.{own_batches}
use Rattle.cdc_types.specs.declared.batches.Batch.{Batch}

-- lists that are the same begin the same, and go on so
begin_same : {X : Type 0} (x y : X) (xs ys : List X) → x ∷ xs ≡ y ∷ ys → x ≡ y
begin_same x y xs ys same = cc

go_on_same : {X : Type 0} (x y : X) (xs ys : List X) → x ∷ xs ≡ y ∷ ys → xs ≡ ys
go_on_same x y xs ys same = cc

module _ (p q : ℕ × Batch) (one other : List (ℕ × Batch)) (own : p.0 ≡ q.0)
    (each : (client : ℕ) → batches_by client (p ∷ one) ≡ batches_by client (q ∷ other)) where
  -- the test on one is the test on the other
  tested : (client : ℕ) (b : Bool) → (p.0 == client) ≡ b → (q.0 == client) ≡ b
  tested client b is = ap (λ (n : ℕ). n == client) (sym own) ∙ is

  -- the first ones have the same batch
  first_same : p.1 ≡ q.1
  first_same =
      let is : (p.0 == p.0) ≡ true = eq-eqb p.0 p.0 refl in
      begin_same p.1 q.1 (batches_by p.0 one) (batches_by p.0 other)
      (sym (own_batches p.0 p one true is) ∙ each p.0 ∙ own_batches p.0 q other true (tested p.0 true is))

  -- and of the others each client has the same ones
  others_same : (client : ℕ) → batches_by client one ≡ batches_by client other
  others_same client = cases (p.0 == client) refl
    where
      cases : (b : Bool) → (p.0 == client) ≡ b → batches_by client one ≡ batches_by client other
      cases true is =
          go_on_same p.1 q.1 (batches_by client one) (batches_by client other)
          (sym (own_batches client p one true is) ∙ each client
          ∙ own_batches client q other true (tested client true is))
      cases false is =
          sym (own_batches client p one false is) ∙ each client
          ∙ own_batches client q other false (tested client false is)

pub orders_are_fixed : OrdersAreFixed
orders_are_fixed [] [] same each = refl
orders_are_fixed [] (q ∷ other) same each =
    let none : [] ≡ q.0 ∷ clients_in other = same in cc
orders_are_fixed (p ∷ one) [] same each =
    let none : p.0 ∷ clients_in one ≡ [] = same in cc
orders_are_fixed (p ∷ one) (q ∷ other) same each =
    let own : p.0 ≡ q.0 = begin_same p.0 q.0 (clients_in one) (clients_in other) same in
    let batch : p.1 ≡ q.1 = first_same p q one other own each in
    let first : p ≡ q = ap₂ (λ (client : ℕ) (b : Batch). (client, b)) own batch in
    ap₂ (λ (x : ℕ × Batch) (xs : List (ℕ × Batch)). x ∷ xs) first
    (orders_are_fixed one other (go_on_same p.0 q.0 (clients_in one) (clients_in other) same)
    (others_same p q one other own each))

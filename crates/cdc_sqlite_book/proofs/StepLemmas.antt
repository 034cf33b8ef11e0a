-- What statements in a transaction leave of the last commit.
use Rattle.std.proofs.Common.{◌≡◌, inl, inr, ℕ, suc, zero, List, [], ◌∷◌, ◌++◌, take, slice_get, Some, option_map, Bool, false, IsTrue, Ok, Err, Result, IfErr, OnErr, refl, sym, ap, subst, ◌∙◌}
use Rattle.std.proofs.lemmas.Bool.{cases_Bool}
use Rattle.sqlite.specs.Order.{Row}
use Rattle.sqlite.specs.declared.error.Error.{Error}
use Rattle.sqlite.specs.Effect.{Database}
use Rattle.sqlite.specs.State.{State, Shows, KeepsCommit, ExecutesInside}
use Rattle.sqlite.specs.Steps.{FailsToCommit}
use Rattle.cdc_subscriber.specs.Balances.{Balances}
use Rattle.cdc_subscriber.specs.declared.book.BookEntry.{BookEntry}
use Rattle.cdc_subscriber.specs.Book.{entry_for, id_and_balances}

-- a state that shows the last commit keeps it
shows_commit : (old new : State) (now : Database) (mode : Bool) → Shows old new now old.committed mode
    → KeepsCommit old new
shows_commit old new now mode s = record { was_open = λ _. s.was_open; committed = λ _. s.committed_is }

-- a statement in a transaction keeps the last commit
pub keeps : (sql : List ℕ) (params : Row) (old new : State) (r : Result ℕ Error)
    → (old.in_transaction ≡ false → new ≡ old)
    → (IsTrue old.in_transaction → ExecutesInside 0 sql params old new r) → KeepsCommit old new
keeps sql params old new r same runs = elim (cases_Bool old.in_transaction) [
  | inl inside ↦ go r (runs inside)
  | inr none ↦ subst (KeepsCommit old) (sym (same none)) (record { was_open = λ h. h; committed = λ _. refl })
]
  where
    go : (r : Result ℕ Error) → ExecutesInside 0 sql params old new r → KeepsCommit old new
    go (Ok count) h = shows_commit old new _ _ h.1
    go (Err e) (inl h) = elim h.1 [
      | inl unchanged ↦ shows_commit old new _ _ unchanged.0
      | inr rolled ↦ record { was_open = rolled.was_open; committed = λ open_now. (rolled.undone open_now).1 }
    ]
    go (Err e) (inr h) = shows_commit old new _ _ h.2.0

-- two steps that keep the last commit
pub keeps_then : (a b c : State) → KeepsCommit a b → KeepsCommit b c → KeepsCommit a c
keeps_then a b c one two =
    record {
      was_open = λ h. one.was_open (two.was_open h);
      committed = λ h. two.committed h
          ∙ one.committed (two.was_open h);
    }

-- a commit that failed keeps the last one
pub commit_keeps : (mid new : State) (r : Result (Unit {0}) Error) → IfErr r (FailsToCommit mid new)
    → IsTrue new.is_open
    → OnErr r (IsTrue mid.is_open) × OnErr r (new.committed ≡ mid.committed)
commit_keeps mid new (Ok _) h now = (tt, tt)
commit_keeps mid new (Err e) (inl fails) now = (fails.3.was_open now, (fails.3.undone now).1)
commit_keeps mid new (Err e) (inr h) now = (h.2.0.was_open, h.2.0.committed_is)

-- nothing is taken
take_none : (book : List BookEntry) → take 0 book ≡ []
take_none [] = refl
take_none (entry ∷ more) = refl

-- one account more of a book
pub took : (book : List BookEntry) (place id : ℕ) (balances : Balances)
    → option_map id_and_balances (slice_get book place) ≡ Some (id, balances)
    → take (suc place) book ≡ take place book ++ record { id = id; balances = balances } ∷ []
took [] place id balances is = absurd cc
took (entry ∷ more) zero id balances is =
    let one : BookEntry = record { id = id; balances = balances } in
    let pair : id_and_balances entry ≡ (id, balances) = cc in
    let same : entry ≡ one = ap entry_for pair in
    ap (λ rest. entry ∷ rest) (take_none more) ∙ ap (λ it. it ∷ []) same
    ∙ ap (λ front. front ++ one ∷ []) (sym (take_none (entry ∷ more)))
took (entry ∷ more) (suc place) id balances is = ap (λ rest. entry ∷ rest) (took more place id balances is)

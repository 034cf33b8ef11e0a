-- The list of the senders that were taken in: what adding one to it asks.
use Rattle.std.proofs.Common.{◌≡◌, ◌≢◌, ◌<◌, ◌≤◌, ℕ, List, [], ◌∷◌, ◌++◌, sym, ◌∙◌, arith}
use Rattle.cdc_links.specs.Links.{of_sender}
use Rattle.cdc_links.specs.Rule.{IsApart, AreApart, AreWhole}
use Rattle.cdc_links.proofs.Entries.{of_sender-snoc_other}

module _ {M N : Type 0} where
  -- a number that isn't there is no other's, also once one more was taken in
  pub apart-snoc : (j : ℕ) (xs : List (ℕ × List (M × N))) (x : ℕ × List (M × N)) → IsApart j xs → x.0 ≢ j
      → IsApart j (xs ++ x ∷ [])
  apart-snoc j [] x _ ne = (ne, tt)
  apart-snoc j (y ∷ ys) x h ne = (h.0, apart-snoc j ys x h.1 ne)

  -- each number occurs once, also after a new one was joined
  pub once-snoc : (xs : List (ℕ × List (M × N))) (x : ℕ × List (M × N)) → AreApart xs → IsApart x.0 xs
      → AreApart (xs ++ x ∷ [])
  once-snoc [] x _ _ = (tt, tt)
  once-snoc (y ∷ ys) x h apart = (apart-snoc y.0 ys x h.0 (λ e. apart.0 (sym e)), once-snoc ys x h.1 apart.1)

  -- what the ones taken in have sent stays the same when another sends
  pub whole-sent : (all : List (ℕ × (M × N))) (given : ℕ) (xs : List (ℕ × List (M × N))) (e : ℕ × (M × N))
      → IsApart e.0 xs
      → AreWhole all given xs → AreWhole (all ++ e ∷ []) given xs
  whole-sent all given [] e _ _ = tt
  whole-sent all given (x ∷ xs) e apart h =
      (of_sender-snoc_other x.0 e all (λ is. apart.0 (sym is)) ∙ h.0, h.1, whole-sent all given xs e apart.1 h.2)

  -- and when there are more senders
  pub whole-given : (all : List (ℕ × (M × N))) (given more : ℕ) (xs : List (ℕ × List (M × N))) → given ≤ more
      → AreWhole all given xs → AreWhole all more xs
  whole-given all given more [] _ _ = tt
  whole-given all given more (x ∷ xs) le h =
      let below : x.0 < given = h.1 in (h.0, omega arith, whole-given all given more xs le h.2)

  -- one more that was taken in
  pub whole-snoc : (all : List (ℕ × (M × N))) (given : ℕ) (xs : List (ℕ × List (M × N))) (x : ℕ × List (M × N))
      → AreWhole all given xs
      → of_sender x.0 all ≡ x.1 → x.0 < given → AreWhole all given (xs ++ x ∷ [])
  whole-snoc all given [] x _ is below = (is, below, tt)
  whole-snoc all given (y ∷ ys) x h is below = (h.0, h.1, whole-snoc all given ys x h.2 is below)

  -- a number that is below all of the number of senders is apart from those above
  pub apart-above : (all : List (ℕ × (M × N))) (given : ℕ) (xs : List (ℕ × List (M × N))) → AreWhole all given xs
      → IsApart given xs
  apart-above all given [] _ = tt
  apart-above all given (x ∷ xs) h =
      let below : x.0 < given = h.1 in ((λ is. absurd (omega arith)), apart-above all given xs h.2)

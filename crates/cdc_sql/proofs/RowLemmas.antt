-- Rows that are the same are those of one place.
use Rattle.std.proofs.Common.{◌≡◌, ◌==◌, ℕ, List, ◌++◌, Bool, true, false, get_or, refl, sym, ap, ◌∙◌, inl, inr}
use Rattle.std.specs.Prelude.{bytes_eq, codes, decimal, nat_eq}
use Rattle.std.proofs.lemmas.Bool.{and_parts, false≢true}
use Rattle.std.proofs.lemmas.Bool.Decides.{eqb_tells}
use Rattle.std.proofs.lemmas.List.{append_cancel_left}
use Rattle.std.proofs.lemmas.Slice.Eq.{bytes_eq-Decides}
use Rattle.cdc_codec.specs.Texts.{flagged}
use Rattle.cdc_sql.specs.Tables.{row_at, same_row}
use Rattle.cdc_sql.specs.Texts.{position_text}
use Rattle.cdc_sql.specs.declared.places.Place.{Place}

-- numbers that pass the test are equal
same_number : (a b : ℕ) → (a == b) ≡ true → a ≡ b
same_number a b is = elim (eqb_tells a b) [ inl same ↦ same.1 | inr other ↦ absurd (false≢true (sym other.0 ∙ is)) ]

-- the letter of yes, at this index
abbrev has_yes : ℕ → List ℕ → Bool
has_yes index text = nat_eq (get_or text index 0) 121

ended_shown : (flag : Bool) (rest : List ℕ) → has_yes 7 (flagged (codes " ended") flag ++ rest) ≡ flag
ended_shown true rest = refl
ended_shown false rest = refl

closed_shown : (flag : Bool) → has_yes 8 (flagged (codes " closed") flag) ≡ flag
closed_shown true = refl
closed_shown false = refl

-- the flags that a position ends with
abbrev flags : Bool → Bool → List ℕ
flags ended closed = flagged (codes " ended") ended ++ flagged (codes " closed") closed

module _ (chained : Bool) (binding : List ℕ) where
  -- a place by its parts
  abbrev at : ℕ → ℕ → ℕ → Bool → Bool → Place
  at seen last applied ended closed =
      record { seen = seen; last = last; applied = applied; ended = ended; closed = closed }

  -- positions with the same numbers have the same flags
  same_flags : (seen last applied : ℕ) (e f c d : Bool)
      → position_text chained binding (at seen last applied e c)
      ≡ position_text chained binding (at seen last applied f d) → flags e c ≡ flags f d
  same_flags seen last applied e f c d same =
      append_cancel_left (codes " last " ++ decimal last) _ _
      (append_cancel_left (codes "\nsubscriber 1 applied " ++ decimal applied) _ _
      (append_cancel_left binding _ _
      (append_cancel_left (codes "\nbinding ") _ _
      (append_cancel_left (codes " seen " ++ decimal seen) _ _
      (append_cancel_left (flagged (codes "book 1 chained") chained) _ _ same)))))

  same_place : (p q : Place) → p.seen ≡ q.seen → p.last ≡ q.last → p.applied ≡ q.applied
      → position_text chained binding p ≡ position_text chained binding q → p ≡ q
  same_place p q seen last applied same =
      let moved : at q.seen q.last q.applied p.ended p.closed ≡ p =
      (λ i. at (sym seen i) (sym last i) (sym applied i) p.ended p.closed) in
      let both = same_flags q.seen q.last q.applied p.ended q.ended p.closed q.closed
      (ap (position_text chained binding) moved ∙ same) in
      let ended : p.ended ≡ q.ended =
      sym (ended_shown p.ended (flagged (codes " closed") p.closed)) ∙ ap (has_yes 7) both
      ∙ ended_shown q.ended (flagged (codes " closed") q.closed) in
      let rest : flagged (codes " closed") p.closed ≡ flagged (codes " closed") q.closed =
      append_cancel_left (flagged (codes " ended") q.ended) _ _
      (ap (λ e. flags e p.closed) (sym ended) ∙ both) in
      let closed : p.closed ≡ q.closed =
      sym (closed_shown p.closed) ∙ ap (has_yes 8) rest ∙ closed_shown q.closed in
      (λ i. at (seen i) (last i) (applied i) (ended i) (closed i))

  -- rows that are the same in every column are those of one place
  pub place_of_row : (p q : Place) → same_row (row_at chained binding p) (row_at chained binding q) ≡ true → p ≡ q
  place_of_row p q same =
      let one = row_at chained binding p in
      let other = row_at chained binding q in
      let texts = and_parts (bytes_eq one.position other.position) _ same in
      let seen = and_parts (p.seen == q.seen) _ texts.1 in
      let last = and_parts (p.last == q.last) _ seen.1 in
      same_place p q (same_number p.seen q.seen seen.0) (same_number p.last q.last last.0)
      (same_number p.applied q.applied last.1) ((bytes_eq-Decides one.position other.position).0 texts.0)

-- What was written of a text, piece by piece.
use Rattle.std.proofs.Common.{◌≡◌, ℕ, List, [], ◌++◌, take, drop, refl, sym, ap, ◌∙◌, subst, Option, Some, None, append-nil}
use Rattle.std.proofs.Common.{append_assoc, arith, length, length-drop, take-append-drop, ◌-◌}
use Rattle.std.proofs.lemmas.List.{take-take, take_all}
use Rattle.std.specs.Io.KnownBytes.{Appends, Keeps}
use Rattle.std.proofs.KnownBytes.{Appends-trans}

-- a first part of a text was written, and the rest is left
abbrev pub HasPart : Option (List ℕ) → Option (List ℕ) → List ℕ → List ℕ → Type 0
HasPart old new text rest = (done : List ℕ) × (text ≡ done ++ rest) × Appends old new done

none_written : (known : Option (List ℕ)) → Appends known known []
none_written None = tt
none_written (Some bytes) = sym (append-nil bytes)

pub part_begins : (known : Option (List ℕ)) (text : List ℕ) → HasPart known known text text
part_begins known text = ([], refl, none_written known)

-- some more of it is written
pub part_more : (old mid new : Option (List ℕ)) (text rest : List ℕ) (n size : ℕ) → HasPart old mid text rest
    → n ≡ size → Appends mid new (take n (take size rest))
    → HasPart old new text (take (length rest - n) (drop n rest))
part_more old mid new text rest n size has same adds =
    let piece : take n (take size rest) ≡ take n rest = take-take n size rest (omega (arith, same)) in
    let left : take (length rest - n) (drop n rest) ≡ drop n rest =
    take_all (length rest - n) (drop n rest) (omega (arith, length-drop n rest)) in (
      has.0 ++ take n rest,
      has.1 ∙ ap (λ r. has.0 ++ r) (sym (take-append-drop n rest) ∙ ap (λ l. take n rest ++ l) (sym left))
          ∙ sym (append_assoc has.0 (take n rest) (take (length rest - n) (drop n rest))),
      Appends-trans old mid new has.0 (take n rest) has.2 (subst (Appends mid new) piece adds),
    )

-- nothing more of it
pub part_kept : (old mid new : Option (List ℕ)) (text rest : List ℕ) → HasPart old mid text rest → Keeps mid new
    → HasPart old new text rest
part_kept old mid new text rest has keeps = (
  has.0,
  has.1,
  subst (Appends old new) (append-nil has.0) (Appends-trans old mid new has.0 [] has.2
      (keeps_all mid new keeps)),
)
  where
    keeps_all : (old new : Option (List ℕ)) → Keeps old new → Appends old new []
    keeps_all None new keeps = tt
    keeps_all (Some xs) None keeps = absurd keeps
    keeps_all (Some xs) (Some ys) keeps = keeps ∙ sym (append-nil xs)

-- all of it
pub part_whole : (old new : Option (List ℕ)) (text rest : List ℕ) → HasPart old new text rest → rest ≡ []
    → Appends old new text
part_whole old new text rest has none =
    subst (Appends old new) (sym (has.1 ∙ ap (λ r. has.0 ++ r) none ∙ append-nil has.0)) has.2

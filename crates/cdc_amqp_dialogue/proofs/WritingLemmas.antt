-- Writing a text, part by part.
use Rattle.std.proofs.Common.{◌≡◌, ℕ, ◌-◌, List, ◌++◌, length, take, drop, Option, sym, ap, ◌∙◌, subst, arith}
use Rattle.std.proofs.Common.{append_assoc, length-drop}
use Rattle.std.specs.Io.KnownBytes.{Appends, Keeps}
use Rattle.std.proofs.KnownBytes.{Appends-kept, Appends-trans}
use Rattle.std.proofs.Math.Seq.{take-append_seam}
use Rattle.std.proofs.lemmas.List.{take-append-drop, take_all}
use Rattle.cdc_amqp_dialogue.specs.Steps.{WritesPart}

-- a part of a text was written, and the rest is left
abbrev pub HasPart : Option (List ℕ) → Option (List ℕ) → List ℕ → List ℕ → Type 0
HasPart old new text rest = (done : List ℕ) × (text ≡ done ++ rest) × Appends old new done

-- some more of it is written
pub part_on : (text rest : List ℕ) (n : ℕ) (old mid new : Option (List ℕ)) → HasPart old mid text rest
    → Appends mid new (take n rest) → HasPart old new text (take (length rest - n) (drop n rest))
part_on text rest n old mid new has adds =
    let whole : take (length rest - n) (drop n rest) ≡ drop n rest =
    take_all (length rest - n) (drop n rest) (omega (arith, length-drop n rest)) in (
      has.0 ++ take n rest,
      has.1 ∙ ap (λ r. has.0 ++ r) (sym (take-append-drop n rest) ∙ ap (λ l. take n rest ++ l) (sym whole))
          ∙ sym (append_assoc has.0 (take n rest) (take (length rest - n) (drop n rest))),
      Appends-trans old mid new has.0 (take n rest) has.2 adds,
    )

-- nothing more of it is
pub part_kept : (text rest : List ℕ) (old mid new : Option (List ℕ)) → HasPart old mid text rest → Keeps mid new
    → HasPart old new text rest
part_kept text rest old mid new has keeps = (has.0, has.1, Appends-kept old mid new has.0 has.2 keeps)

-- and then it ends
pub part_stops : (text rest : List ℕ) (old new : Option (List ℕ)) → HasPart old new text rest → WritesPart old new text
part_stops text rest old new has = (
  length has.0,
  subst (Appends old new) (sym (ap (take (length has.0)) has.1 ∙ take-append_seam has.0 rest)) has.2,
)

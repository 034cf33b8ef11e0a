-- A text of saves that is cut off.
use Rattle.std.proofs.Common.{◌≡◌, ℕ, ◌+◌, ◌-◌, ◌≤◌, List, [], ◌∷◌, ◌++◌, Bool, length, take, refl, sym, ap, ◌∙◌}
use Rattle.std.proofs.Common.{append_assoc, arith, inl, inr, subst}
use Rattle.std.specs.Prelude.{codes}
use Rattle.std.proofs.lemmas.Bool.Decides.{leb_tells}
use Rattle.std.proofs.lemmas.List.{length-append, take-append-le}
use Rattle.std.proofs.Math.Seq.{take-append-add, take-nil}
use Rattle.cdc_sql.specs.Laws.{CutsLeaveWholeSaves, IsCut, IsPartOf}
use Rattle.cdc_sql.specs.Saves.{Save}
use Rattle.cdc_sql.specs.Texts.{body_text, report_text, saves_text, transaction_text}

module _ (name : List ℕ) (chained : Bool) (binding : List ℕ) where
  -- a save's text that is cut off
  part_of : (save : Save) (n : ℕ)
      → IsPartOf name chained binding save (take n (transaction_text name chained binding save))
  part_of save n =
      let body = body_text name chained binding save in
      let report = codes ";\n" ++ report_text name save.after.ended in
      let size : length (body ++ codes "COMMI") ≡ length body + 5 = length-append body (codes "COMMI") in
      let whole_size : length (body ++ codes "COMMIT") ≡ length body + 6 = length-append body (codes "COMMIT") in
      let early = sym (append_assoc body (codes "COMMI") (codes "T" ++ report)) in
      let late = sym (append_assoc body (codes "COMMIT") report) in
      elim (leb_tells n (length (body ++ codes "COMMI"))) [
        | inl within ↦
            inl (n, ap (take n) early ∙ take-append-le n (body ++ codes "COMMI") (codes "T" ++ report) within.1)
        | inr beyond ↦
            let k = n - length (body ++ codes "COMMIT") in
            let all : n ≡ length (body ++ codes "COMMIT") + k = omega (arith, beyond.1, size, whole_size) in
            inr (
              take k report,
              ap (take n) late ∙ ap (λ m. take m ((body ++ codes "COMMIT") ++ report)) all
                  ∙ take-append-add (body ++ codes "COMMIT") report k
                  ∙ append_assoc body (codes "COMMIT") (take k report),
            )
      ]

  pub cut : (saves : List Save) (n : ℕ) → IsCut name chained binding saves n
  cut [] n = record {
    done = [];
    lost = [];
    part = [];
    parted = refl;
    text_is = take-nil n;
    last = λ none. refl;
    next = λ save later is. absurd cc;
  }
  cut (save ∷ saves) n =
      let text = transaction_text name chained binding save in
      let rest = saves_text name chained binding saves in
      elim (leb_tells (length text) n) [
        | inl whole ↦
            let k = n - length text in
            let all : n ≡ length text + k = omega (arith, whole.1) in
            let later = cut saves k in
            record {
              done = save ∷ later.done;
              lost = later.lost;
              part = later.part;
              parted = ap (λ s. save ∷ s) later.parted;
              text_is = ap (λ m. take m (text ++ rest)) all ∙ take-append-add text rest k
                  ∙ ap (λ t. text ++ t) later.text_is
                  ∙ sym (append_assoc text (saves_text name chained binding later.done) later.part);
              last = later.last;
              next = later.next;
            }
        | inr early ↦
            let short : n ≤ length text = omega (arith, early.1) in
            record {
              done = [];
              lost = save ∷ saves;
              part = take n text;
              parted = refl;
              text_is = take-append-le n text rest short;
              last = λ none. absurd cc;
              next = λ first later is.
                  let same : save ≡ first = cc in
                  subst (λ s. IsPartOf name chained binding s (take n text)) same (part_of save n);
            }
      ]

pub cuts : CutsLeaveWholeSaves
cuts name chained binding saves n = cut name chained binding saves n

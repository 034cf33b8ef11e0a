-- The lines of a map's entries, one after another.
use Rattle.cdc_audit_state.proofs.Words.{Event, FixedFields, List, Stored, [], ap, append-nil, append_assoc, codes, event_line, fields_line, fields_rows, flat_map, flat_map-append, open_rows, refl, rows_text, sym, time_line, time_rows, transfer_line, transfer_rows, ℕ, ◌++◌, ◌∙◌, ◌∷◌, ◌≡◌}
use Rattle.cdc_audit_state.specs.States.{row_line}

-- the lines of the entries that aren't left were pushed
pub record Pushed {V : Type 0} (line : V → List ℕ) (all left : List V) (old new : List ℕ) : Type 0 where
  pub done : List V
  pub parted : all ≡ done ++ left
  pub pushed : new ≡ old ++ flat_map line done

module _ {V : Type 0} (line : V → List ℕ) (all : List V) (old : List ℕ) where
  pub pushed_none : (left : List V) → all ≡ left → Pushed line all left old old
  pushed_none left is = record { done = []; parted = is; pushed = sym (append-nil old) }

  pub pushed_more : (left rest : List V) (entry : V) (mid new : List ℕ) → Pushed line all left old mid
      → left ≡ entry ∷ rest → new ≡ mid ++ line entry → Pushed line all rest old new
  pushed_more left rest entry mid new before first adds = record {
    done = before.done ++ entry ∷ [];
    parted = before.parted ∙ ap (λ es. before.done ++ es) first ∙ sym (append_assoc before.done (entry ∷ []) rest);
    pushed = adds ∙ ap (λ text. text ++ line entry) before.pushed ∙ append_assoc old (flat_map line before.done) _
        ∙ ap (λ text. old ++ text) (sym (flat_map-append line before.done (entry ∷ [])
        ∙ ap (λ text. flat_map line before.done ++ text) (append-nil (line entry))));
  }

  pub pushed_all : (left : List V) (new : List ℕ) → Pushed line all left old new → left ≡ []
      → new ≡ old ++ flat_map line all
  pushed_all left new before none =
      before.pushed ∙ ap (λ es. old ++ flat_map line es)
      (sym (before.parted ∙ ap (λ es. before.done ++ es) none ∙ append-nil before.done))

abbrev pub transfer_text : ℕ × Stored → List ℕ
transfer_text t = transfer_line t.0 t.1

pub transfers_text : (transfers : List (ℕ × Stored))
    → rows_text (transfer_rows transfers) ≡ flat_map transfer_text transfers
unfolding row_line
transfers_text [] = refl
transfers_text (t ∷ rest) = ap (λ text. transfer_line t.0 t.1 ++ text) (transfers_text rest)

abbrev pub open_text : ℕ × Event → List ℕ
open_text o = event_line (codes "open ") o.1

pub open_ones_text : (events : List (ℕ × Event)) → rows_text (open_rows events) ≡ flat_map open_text events
unfolding row_line
open_ones_text [] = refl
open_ones_text (o ∷ rest) = ap (λ text. open_text o ++ text) (open_ones_text rest)

abbrev pub fields_text : ℕ × FixedFields → List ℕ
fields_text f = fields_line f.0 f.1

pub all_fields_text : (fields : List (ℕ × FixedFields)) → rows_text (fields_rows fields) ≡ flat_map fields_text fields
unfolding row_line
all_fields_text [] = refl
all_fields_text (f ∷ rest) = ap (λ text. fields_line f.0 f.1 ++ text) (all_fields_text rest)

pub times_text : (times : List ℕ) → rows_text (time_rows times) ≡ flat_map time_line times
unfolding row_line
times_text [] = refl
times_text (t ∷ rest) = ap (λ text. time_line t ++ text) (times_text rest)

-- a piece, and what follows it
pub pieces : (old mid new piece rest : List ℕ) → mid ≡ old ++ piece → new ≡ mid ++ rest → new ≡ old ++ (piece ++ rest)
pieces old mid new piece rest h k = rw (k, h, append_assoc) refl

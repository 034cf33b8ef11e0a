-- A record's text: what is read of it, and what it is made of.
use Rattle.std.proofs.Common.{◌≡◌, ◌≢◌, ◌↔◌, ℕ, ◌+◌, ◌<◌, ◌^◌, List, [], ◌∷◌, ◌++◌, drop, length, get_or, decimal}
use Rattle.std.proofs.Common.{refl, sym, ap, ◌∙◌, arith, append_assoc, inl, inr}
use denote.Ref.{Bor}
use Rattle.std.specs.Prelude.{codes}
use Rattle.std.specs.List.{flat_map}
use Rattle.std.proofs.lemmas.List.{append_cancel_left, at_drop_more}
use Rattle.cdc_codec.specs.Parts.{narrow, number_at}
use Rattle.cdc_codec.specs.ReadBack.{ReadsNumber}
use Rattle.cdc_codec.specs.Texts.{spaced}
use Rattle.cdc_progress.specs.Records.{Fits, IsTextOf, Saved, first_text_of, text_of}

-- the text of parts, one after another
abbrev pub joined : List (Bor (List ℕ)) → List ℕ
joined parts = flat_map (λ (part : Bor (List ℕ)). part.now) parts

-- the text is that of all parts if and only if the rest of it is that of the parts from this one on
abbrev pub Left : List ℕ → List (Bor (List ℕ)) → ℕ → List ℕ → Type 0
Left text parts from rest = (text ≡ joined parts) ↔ (rest ≡ joined (drop from parts))

module _ (text : List ℕ) (parts : List (Bor (List ℕ))) (at : ℕ) (part : Bor (List ℕ)) (rest : List ℕ)
    (below : at < length parts) (before : Left text parts at rest) where
  next : joined (drop at parts) ≡ (get_or parts at part).now ++ joined (drop (at + 1) parts)
  next = at_drop_more joined parts at part below

  pub left_next : (bytes after : List ℕ) → bytes ≡ (get_or parts at part).now → rest ≡ bytes ++ after
      → Left text parts (at + 1) after
  left_next bytes after is parted =
      let more = next ∙ ap (λ front. front ++ joined (drop (at + 1) parts)) (sym is) in (
        λ whole. append_cancel_left bytes after _ (sym parted ∙ before.0 whole ∙ more),
        λ others. before.1 (parted ∙ ap (λ t. bytes ++ t) others ∙ sym more),
      )

  pub left_other : (bytes : List ℕ) → bytes ≡ (get_or parts at part).now
      → ((after : List ℕ) → rest ≢ bytes ++ after) → text ≢ joined parts
  left_other bytes is other whole =
      other (joined (drop (at + 1) parts))
      (before.0 whole ∙ next ∙ ap (λ front. front ++ joined (drop (at + 1) parts)) (sym is))

-- a record's line, number by number
line_parts : (saved : Saved)
    → text_of saved ≡ codes "tb-cdc 2" ++ (spaced saved.session ++ (spaced saved.timestamp
    ++ (spaced saved.start ++ 10 ∷ [])))
line_parts saved =
    let session = decimal saved.session in
    let timestamp = decimal saved.timestamp in
    let start = decimal saved.start in
    ap (λ text. codes "tb-cdc 2 " ++ text) (append_assoc session (32 ∷ (timestamp ++ 32 ∷ start)) (codes "\n")
    ∙ ap (λ text. session ++ 32 ∷ text) (append_assoc timestamp (32 ∷ start) (codes "\n")))

-- the line of the first version
first_line_parts : (saved : Saved)
    → first_text_of saved ≡ codes "tb-cdc 1" ++ (spaced saved.session ++ (spaced saved.timestamp ++ 10 ∷ []))
first_line_parts saved =
    ap (λ text. codes "tb-cdc 1 " ++ text)
    (append_assoc (decimal saved.session) (32 ∷ decimal saved.timestamp) (codes "\n"))

-- where the line ends, no number is read
no_number : narrow (2 ^ 64) (number_at (10 ∷ [])).value ≡ 0
unfolding number_at
no_number = refl

-- a record's numbers are read back, and 0 is the start of a line that has none
pub numbers_read : (saved : Saved) (bytes all mid left after : List ℕ) (session timestamp start : ℕ) → Fits saved
    → IsTextOf saved bytes → all ≡ drop 8 bytes → ReadsNumber (2 ^ 64) all session mid
    → ReadsNumber (2 ^ 64) mid timestamp left → ReadsNumber (2 ^ 64) left start after
    → start ≡ narrow (2 ^ 64) (number_at left).value
    → (session ≡ saved.session) × (timestamp ≡ saved.timestamp) × (start ≡ saved.start)
numbers_read saved bytes all mid left after session timestamp start fits (inl is) skipped first second third any =
    let t2 = spaced saved.start ++ 10 ∷ [] in
    let t1 = spaced saved.timestamp ++ t2 in
    let one = first saved.session 32 (drop 1 t1) fits.session refl (skipped ∙ ap (drop 8) (is ∙ line_parts saved)) in
    let two = second saved.timestamp 32 (drop 1 t2) (omega (arith, fits.timestamp)) refl one.1 in
    let three = third saved.start 10 [] (omega (arith, fits.timestamp, fits.start)) refl two.1 in
    (one.0, two.0, three.0)
numbers_read saved bytes all mid left after session timestamp start fits (inr is) skipped first second third any =
    let t1 = spaced saved.timestamp ++ 10 ∷ [] in
    let one = first saved.session 32 (drop 1 t1) fits.session refl
    (skipped ∙ ap (drop 8) (is.1 ∙ first_line_parts saved)) in
    let two = second saved.timestamp 10 [] (omega (arith, fits.timestamp)) refl one.1 in
    (one.0, two.0, any ∙ ap (λ text. narrow (2 ^ 64) (number_at text).value) two.1 ∙ no_number ∙ sym is.0)

-- so the record is the one that was written
pub same_record : {session timestamp start : ℕ} (saved : Saved)
    → (session ≡ saved.session) × (timestamp ≡ saved.timestamp) × (start ≡ saved.start)
    → (let read : Saved = record { session = session; timestamp = timestamp; start = start } in read) ≡ saved
same_record saved same = λ i. record { session = same.0 i; timestamp = same.1 i; start = same.2 i }

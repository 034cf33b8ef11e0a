-- The record in a file's bytes, if as many were read as a record can have, and one more.
use Rattle.std.proofs.Common.{◌≡◌, ℕ, ◌<◌, ◌≤◌, List, [], ◌∷◌, ◌++◌, Option, Some, None, length, sym, ap, ◌∙◌, subst, inl, inr, arith, length-append}
use Rattle.std.specs.Prelude.{IfSome, codes, decimal, Err}
use Rattle.std.specs.Io.KnownBytes.{Consumes, IsAtEnd}
use Rattle.std.proofs.lemmas.Fmt.{length-decimal-le}
use Rattle.std.proofs.lemmas.List.{append-nil}
use Rattle.cdc_progress.specs.Records.{Fits, IsTextOf, Saved, first_text_of, numbers_text, text_of}
use Rattle.cdc_progress.specs.Stores.{ReadsAs}
use Rattle.cdc_files.specs.declared.errors.StoreError.TheVariants.{BadRecord}

-- a record's text is short
line_is_short : (saved : Saved) → Fits saved → length (text_of saved) ≤ 128
line_is_short saved fits =
    omega (
      arith,
      length-append (codes "tb-cdc 2 ")
          ((decimal saved.session ++ 32 ∷ numbers_text saved.timestamp saved.start) ++ codes "\n"),
      length-append (decimal saved.session ++ 32 ∷ numbers_text saved.timestamp saved.start) (codes "\n"),
      length-append (decimal saved.session) (32 ∷ numbers_text saved.timestamp saved.start),
      length-append (decimal saved.timestamp) (32 ∷ decimal saved.start),
      length-decimal-le 20 saved.session (omega arith) (omega (arith, fits.session)) fits.session,
      length-decimal-le 20 saved.timestamp (omega arith) (omega (arith, fits.timestamp))
          (omega (arith, fits.timestamp)),
      length-decimal-le 20 saved.start (omega arith) (omega (arith, fits.timestamp, fits.start))
          (omega (arith, fits.timestamp, fits.start)),
    )

-- and so is that of the first version
first_line_is_short : (saved : Saved) → Fits saved → length (first_text_of saved) ≤ 128
first_line_is_short saved fits =
    omega (
      arith,
      length-append (codes "tb-cdc 1 ") (numbers_text saved.session saved.timestamp ++ codes "\n"),
      length-append (numbers_text saved.session saved.timestamp) (codes "\n"),
      length-append (decimal saved.session) (32 ∷ decimal saved.timestamp),
      length-decimal-le 20 saved.session (omega arith) (omega (arith, fits.session)) fits.session,
      length-decimal-le 20 saved.timestamp (omega arith) (omega (arith, fits.timestamp))
          (omega (arith, fits.timestamp)),
    )

-- so every text of a record is short
text_is_short : (saved : Saved) (bytes : List ℕ) → Fits saved → IsTextOf saved bytes → length bytes ≤ 128
text_is_short saved bytes fits (inl is) = omega (arith, ap length is, line_is_short saved fits)
text_is_short saved bytes fits (inr (none, is)) = omega (arith, ap length is, first_line_is_short saved fits)

-- with nothing after it
with_none_behind : (xs rest : List ℕ) → rest ≡ [] → xs ++ rest ≡ xs
with_none_behind xs rest none = ap (λ ys. xs ++ ys) none ∙ append-nil xs

-- the bytes that were read are a record's text: so they are all, since it is short
pub record_read : (old new : Option (List ℕ)) (xs : List ℕ) (saved : Saved) → Fits saved → IsTextOf saved xs
    → Consumes old new xs → (length xs < 129 → IsAtEnd new) → IfSome old (λ bytes. IsTextOf saved bytes)
record_read None new xs saved fits is consumed whole = tt
record_read (Some bytes) None xs saved fits is consumed whole = absurd consumed
record_read (Some bytes) (Some rest) xs saved fits is consumed whole =
    subst (IsTextOf saved)
    (sym (consumed ∙ with_none_behind xs rest (whole (omega (arith, text_is_short saved xs fits is))))) is

-- they are none: so all bytes are none, be they these or more than a record has
pub none_read : (old new : Option (List ℕ)) (xs : List ℕ)
    → ((saved : Saved) → Fits saved → IsTextOf saved xs → ⊥)
    → Consumes old new xs → (length xs < 129 → IsAtEnd new) → IfSome old (λ bytes. ReadsAs bytes (Err BadRecord))
none_read None new xs isnt consumed whole = tt
none_read (Some bytes) None xs isnt consumed whole = absurd consumed
none_read (Some bytes) (Some rest) xs isnt consumed whole = λ saved fits is.
    isnt saved fits
    (subst (IsTextOf saved) (consumed ∙ with_none_behind xs rest (whole (omega (
      arith,
      length-append xs rest,
      ap length consumed,
      text_is_short saved bytes fits is,
    )))) is)

-- The word in error in a text that was read up to its limit.
use Rattle.cdc_commands.proofs.Terms.{Err, IfSome, IsParsedAs, List, None, Option, Result, ScriptFault, Some, acts_of, ap, append-nil, arith, bytes_at, cases_lt, inl, inr, length, max_bytes, nat_lt, nat_tests, refl, script_of, subst, sym, true, whole_fault, ℕ, ◌++◌, ◌<◌, ◌∙◌, ◌≡◌, ◌≤◌, ◌⊎◌}
use Rattle.std.specs.Io.KnownBytes.{Consumes, IsAtEnd}
use Rattle.cdc_script.specs.declared.faults.FaultKind.TheVariants.{TooLong}

-- a text that was read is too long, or all there is
long_or_whole : (text all : List ℕ) (new : Option (List ℕ)) → Consumes (Some all) new text
    → (length text ≤ max_bytes → IsAtEnd new) → (max_bytes < length text) ⊎ (text ≡ all)
long_or_whole text all None consumed whole = absurd consumed
long_or_whole text all (Some rest) consumed whole = by_length (cases_lt max_bytes (length text))
  where
    by_length : (max_bytes < length text) ⊎ (length text ≤ max_bytes) → (max_bytes < length text) ⊎ (text ≡ all)
    by_length (inl long) = inl long
    by_length (inr short) =
        inr (sym (consumed ∙ (ap (λ (more : List ℕ). text ++ more) (whole short) ∙ append-nil text)))

-- for whatever finds long texts too long
module _ {A : Type 0} (parse : List ℕ → Result A ScriptFault)
    (too_long : (text : List ℕ) → max_bytes < length text → parse text ≡ Err (whole_fault TooLong)) where
  -- a text that is too long has no word in error
  no_word : (text all : List ℕ) (at : ScriptFault) → max_bytes < length text → parse text ≡ Err at
      → bytes_at text at.word ≡ bytes_at all at.word
  no_word text all at long bad =
      let is : Err (whole_fault TooLong) ≡ Err at = sym (too_long text long) ∙ bad in
      let same : whole_fault TooLong ≡ at = cc in
      subst (λ (f : ScriptFault). bytes_at text f.word ≡ bytes_at all f.word) same refl

  -- so a text that was read is parsed as all there is
  pub parsed_as : (text : List ℕ) (old new : Option (List ℕ)) → Consumes old new text
      → (length text ≤ max_bytes → IsAtEnd new) → IfSome old (λ all. parse text ≡ parse all)
      → IfSome old (IsParsedAs parse text)
  parsed_as text None new consumed whole same = tt
  parsed_as text (Some all) new consumed whole same =
      (same, λ at bad. by_length at bad (long_or_whole text all new consumed whole))
    where
      by_length : (at : ScriptFault) → parse text ≡ Err at → (max_bytes < length text) ⊎ (text ≡ all)
          → bytes_at text at.word ≡ bytes_at all at.word
      by_length at bad (inl long) = no_word text all at long bad
      by_length at bad (inr is) = ap (λ (bytes : List ℕ). bytes_at bytes at.word) is

long_script : (text : List ℕ) → max_bytes < length text → script_of text ≡ Err (whole_fault TooLong)
long_script text long =
    let test : nat_lt max_bytes (length text) ≡ true = grind (arith, nat_tests, long) in
    rw test refl

long_steps : (text : List ℕ) → max_bytes < length text → acts_of text ≡ Err (whole_fault TooLong)
long_steps text long =
    let test : nat_lt max_bytes (length text) ≡ true = grind (arith, nat_tests, long) in
    rw test refl

pub parsed_as_script : (text : List ℕ) (old new : Option (List ℕ)) → Consumes old new text
    → (length text ≤ max_bytes → IsAtEnd new) → IfSome old (λ all. script_of text ≡ script_of all)
    → IfSome old (IsParsedAs script_of text)
parsed_as_script = parsed_as script_of long_script

pub parsed_as_steps : (text : List ℕ) (old new : Option (List ℕ)) → Consumes old new text
    → (length text ≤ max_bytes → IsAtEnd new) → IfSome old (λ all. acts_of text ≡ acts_of all)
    → IfSome old (IsParsedAs acts_of text)
parsed_as_steps = parsed_as acts_of long_steps

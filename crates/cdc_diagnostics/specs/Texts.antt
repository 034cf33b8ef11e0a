-- What a text holds.
use Rattle.std.specs.Prelude.{◌≡◌, ℕ, IsFalse, List, string_bytes}
use Rattle.cdc_diagnostics.specs.declared.texts.Text.{Text}

-- memory ran out for a piece of the text, or these are its bytes
abbrev pub Holds : Text → List ℕ → Type 0
Holds text bytes = IsFalse text.is_out_of_memory → string_bytes text.pieces ≡ bytes

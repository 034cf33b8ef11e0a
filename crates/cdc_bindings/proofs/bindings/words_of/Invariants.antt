use Rattle.std.proofs.Common.{◌≡◌, ◌≤◌, ◌-◌, ◌++◌, map}
use denote.Text.{Utf8}
use denote.Shadow.{shadow}
use Rattle.cdc_bindings.specs.Bindings.{words}
use Rattle.cdc_bindings.proofs.bindings.words_of.Given as goal

-- the words so far, and those of the text that is left, are those of the whole text
abbrev pub invariant-loop-spaces : goal.invariant-loop-spaces
invariant-loop-spaces l = record {
  rest_is_text : shadow (Utf8 l.rest);
  few : l.spaces ≤ 11;
  whole : map (λ word. word.now) l.words.items ++ words (11 - l.spaces) l.rest ≡ words 11 l.text;
}

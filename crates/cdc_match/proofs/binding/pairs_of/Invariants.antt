use Rattle.std.proofs.Common.{◌≡◌, ◌≤◌, map, take, length, Ok}
use Rattle.cdc_types.specs.declared.bounds.TheConstants.Limits.{BINDING_PAIRS}
use Rattle.cdc_match.specs.Parsing.{each, pair_of}
use Rattle.cdc_match.proofs.binding.pairs_of.Given as goal

abbrev pub invariant-loop-word : goal.invariant-loop-word
invariant-loop-word l = record {
  found : each pair_of (take l.word-index (map (λ word. word.now) l.words)) ≡ Ok l.pairs.items;
  counted : length l.pairs.items ≡ l.word-index;
  few : l.word-index ≤ BINDING_PAIRS;
}

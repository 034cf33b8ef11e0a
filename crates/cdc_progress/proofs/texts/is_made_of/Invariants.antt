use Rattle.cdc_progress.proofs.TextLemmas.{Left}
use Rattle.cdc_progress.proofs.texts.is_made_of.Given as goal

-- what is left of the text decides
abbrev pub invariant-loop-part : goal.invariant-loop-part
invariant-loop-part l = Left l.text l.parts l.part-index l.rest

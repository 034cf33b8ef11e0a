use Rattle.cdc_bindings.proofs.BindingLemmas.{same_take}
use Rattle.cdc_bindings.proofs.laws.same_bindings_take_same.Goals as goal

pub returns : goal.returns
returns c = same_take

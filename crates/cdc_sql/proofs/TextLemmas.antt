-- One part of a text after another.
use Rattle.std.proofs.Common.{◌≡◌, List, ◌++◌, ap, ◌∙◌, append_assoc}
use Rattle.std.specs.Prelude.{Err, Ok, OnOk, Result}

-- a part is added, and then the others
pub pieces : {A : Type 0} (old mid new part others : List A) → mid ≡ old ++ part → new ≡ mid ++ others
    → new ≡ old ++ (part ++ others)
pieces {A = A} old mid new part others first then =
    then ∙ ap (λ (t : List A). t ++ others) first ∙ append_assoc old part others

-- what follows from what holds of a result that is no error
pub on_ok_then : {T E P Q : Type 0} (result : Result T E) → OnOk result P → (P → Q) → OnOk result Q
on_ok_then (Ok value) holds then = then holds
on_ok_then (Err error) holds then = tt

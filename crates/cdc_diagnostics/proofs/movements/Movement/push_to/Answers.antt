use Rattle.cdc_diagnostics.proofs.Words.{List, append_assoc, codes, decimal, kind_text, ℕ, ◌++◌}
use Rattle.cdc_diagnostics.proofs.movements.Movement.push_to.Goals as goal

pub returns : goal.returns
returns c bytes held kept =
    let one : List ℕ = bytes ++ codes "transfer " in
    let two : List ℕ = one ++ decimal c.args.self.transfer in
    let three : List ℕ = two ++ kind_text c.args.self.kind c.args.self.pending in
    let four : List ℕ = three ++ codes ", " in
    let five : List ℕ = four ++ decimal c.args.self.amount in
    let six : List ℕ = five ++ codes " from " in
    let seven : List ℕ = six ++ decimal c.args.self.debit in
    let eight : List ℕ = seven ++ codes " to " in
    simp append_assoc (simp append_assoc at
    (c.push_number-4.ensures eight (c.push-4.ensures.holds seven (c.push_number-3.ensures six
    (c.push-3.ensures.holds five (c.push_number-2.ensures four (c.push-2.ensures.holds three
    (c.push_kind.ensures two (c.push_number.ensures one (c.push.ensures.holds bytes held)))))))) kept))

use Rattle.std.proofs.Common.{◌≡◌, ◌∙◌, [], ◌∷◌, ◌++◌, ap, sym, take, drop}
use Rattle.std.specs.Fmt.{digits}
use Rattle.std.specs.Cmp.Lexicographic.{bytes_decides}
use Rattle.std.proofs.Math.ListN.{take-append-drop}
use Rattle.cdc_message.proofs.own_bodies.Cursor.quoted_zero.Goals as goal

pub returns-in-Some-clause-zero : goal.returns-in-Some-clause-zero
unfolding digits
returns-in-Some-clause-zero c _ =
    let rest = c.args.self.now.rest.now in
    let front : take 3 rest ≡ 34 ∷ 48 ∷ 34 ∷ [] = (bytes_decides _ _).0 c.in-Some.ensures.cases.0 in
    sym (take-append-drop 3 rest) ∙ ap (λ bytes. bytes ++ drop 3 rest) front
    ∙ ap (λ bytes. 34 ∷ 48 ∷ 34 ∷ bytes) (sym c.in-Some.ensures.cases.1)

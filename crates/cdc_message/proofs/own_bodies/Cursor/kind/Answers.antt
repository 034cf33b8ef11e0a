use Rattle.std.proofs.Common.{◌≡◌, ◌∙◌, ◌-◌, ◌++◌, ap, codes, drop, length, sym, take}
use Rattle.std.proofs.lemmas.List.{take-append-drop}
use Rattle.std.specs.Cmp.Lexicographic.{bytes_decides}
use Rattle.cdc_message.proofs.OwnKinds.{name_is}
use Rattle.cdc_message.proofs.own_bodies.Cursor.kind.Goals as goal

-- the name, and what ends the body
pub returns-clause-text : goal.returns-clause-text
returns-clause-text c =
    let text = c.args.self.now.rest.now in
    let front = length text - 2 in
    let found = c.in_ok-strip_suffix.ensures.cases in
    let suffix : drop front text ≡ codes "\"}" = (bytes_decides _ _).0 found.0 in
    name_is c.kind_of.result c.in_ok-strip_suffix.field-0.now text c.kind_of.ensures
    (sym (take-append-drop front text) ∙ ap (λ back. take front text ++ back) suffix
    ∙ ap (λ name. name ++ codes "\"}") (sym found.1))

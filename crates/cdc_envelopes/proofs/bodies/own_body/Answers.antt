use Rattle.std.proofs.Common.{◌≡◌, ◌∙◌, ◌-◌, ◌++◌, ap, codes, drop, length, sym, take}
use Rattle.std.proofs.lemmas.List.{take-append-drop}
use Rattle.std.specs.Cmp.Lexicographic.{bytes_decides}
use Rattle.cdc_envelopes.proofs.BodyLemmas.{own_before}
use Rattle.cdc_envelopes.proofs.bodies.own_body.Goals as goal

pub returns-clause-text : goal.returns-clause-text
returns-clause-text c =
    let text = c.args.text.now in
    let front = length text - 1 in
    let found = c.in_ok-strip_suffix.ensures.cases in
    let suffix : drop front text ≡ codes "}" = (bytes_decides _ _).0 found.0 in
    own_before c.own_event.result c.in_ok-strip_suffix.field-0.now text c.own_event.ensures.own
    (sym (take-append-drop front text) ∙ ap (λ back. take front text ++ back) suffix
    ∙ ap (λ name. name ++ codes "}") (sym found.1))

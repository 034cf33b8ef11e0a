use Rattle.std.proofs.Common.{ap, ◌∙◌}
use Rattle.std.proofs.lemmas.Str.{is_utf8-from_IsUtf8}
use Rattle.cdc_bindings.specs.Bindings.{words}
use Rattle.cdc_bindings.proofs.BindingLemmas.{gives_binding, gives_none, texts}
use Rattle.cdc_bindings.proofs.bindings.binding_of.Goals as goal

pub returns-in_ok-words-in-Ok : goal.returns-in_ok-words-in-Ok
returns-in_ok-words-in-Ok c =
    let is = c.in-Ok.ensures.cases in
    gives_binding c.parse.result (texts c.as_slice.result.now) c.args.text.now
    (is_utf8-from_IsUtf8 c.args.text.now is.1)
    (ap texts c.as_slice.ensures.value ∙ c.in_ok-words-in-Ok.ensures ∙ ap (words 11) is.0) c.parse.ensures.binding

pub returns-in-Err : goal.returns-in-Err
returns-in-Err c = gives_none c.args.text.now c.in-Err.ensures.cases.0

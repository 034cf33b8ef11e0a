use Rattle.std.proofs.Common.{◌≡◌, Err, decimal, sym, ap, ◌∙◌, arith}
use Rattle.std.proofs.lemmas.Result.{err_from_is_err_and}
use Rattle.std.proofs.lemmas.Fmt.{IsAscii-decimal_wide, parse-decimal_wide}
use Rattle.std.proofs.lemmas.Str.{IsUtf8-from_ascii}
use Rattle.sqlite.specs.Order.{column}
use Rattle.cdc_sqlite_book.proofs.FindLemmas.{never_differs, parsed_is, read_fails}
use Rattle.cdc_sqlite_book.proofs.loading.number_in.Goals as goal

pub returns-in_err-text-clause-all : goal.returns-in_err-text-clause-all
returns-in_err-text-clause-all c number fits within is =
    let exit = err_from_is_err_and c.from_residual.result c.from_residual.ensures.1 in
    rw (exit.1, exit.2)
    (read_fails c.args.at (column c.args.row.now c.args.at) _ _ c.in_err-text.ensures.named
    (λ memory. c.in_err-text.ensures.kind memory within)
    (decimal number, is, IsUtf8-from_ascii _ (IsAscii-decimal_wide number (omega arith))))

pub returns-in_default-clause-all : goal.returns-in_default-clause-all
returns-in_default-clause-all c number fits within is =
    let read = c.in_ok-text.ensures.ok.1 in
    let text : c.as_str.result.now ≡ decimal number = cc (read, is, c.as_str.ensures.value) in
    let parsed = parse-decimal_wide 128 number c.as_str.result.now (Err c.in_default.field-0) fits (omega arith) text
    c.in_default.ensures.value.0 in
    absurd cc

pub returns-then-ne-clause-all : goal.returns-then-ne-clause-all
returns-then-ne-clause-all c number fits within is =
    let read = c.in_ok-text.ensures.ok.1 in
    let text : c.as_str.result.now ≡ decimal number = cc (read, is, c.as_str.ensures.value) in
    let number_is = parsed_is c.in-Ok.number number c.as_str.result.now fits text c.in-Ok.ensures.value.0 in
    let same : c.format.result.now ≡ c.as_str-2.result.now =
    c.format.ensures.text ∙ ap decimal number_is ∙ cc (read, is, c.as_str-2.ensures.value) in
    absurd (never_differs c.format.result.now c.as_str-2.result.now same (sym c.ne.ensures ∙ c.if-ne.true))

pub returns-clause-all : goal.returns-clause-all
returns-clause-all c number fits within is =
    let read = c.in_ok-text.ensures.ok.1 in
    let text : c.as_str.result.now ≡ decimal number = cc (read, is, c.as_str.ensures.value) in
    parsed_is c.in-Ok.number number c.as_str.result.now fits text c.in-Ok.ensures.value.0

use Rattle.std.proofs.Common.{ℕ, ◌<◌, arith}
use Rattle.std.proofs.lemmas.List.Elements.{All-from_get_or}
use Rattle.cdc_page_text.proofs.Units.{read_escaped, safe_escaped}
use Rattle.cdc_page_text.proofs.strings.push_escaped.Goals as goal

pub returns-in_err-push_unit-clause-safe : goal.returns-in_err-push_unit-clause-safe
returns-in_err-push_unit-clause-safe c =
    safe_escaped c.args.bytes.now (All-from_get_or (λ b. b < 256) c.args.bytes.now 0 (λ i h. omega (arith, (c.type_inv.bytes i).fits)))

pub returns-in_err-push_unit-clause-read : goal.returns-in_err-push_unit-clause-read
returns-in_err-push_unit-clause-read c = λ rest.
    read_escaped c.args.bytes.now rest (All-from_get_or (λ b. b < 256) c.args.bytes.now 0 (λ i h. omega (arith, (c.type_inv.bytes i).fits)))

pub returns-clause-safe : goal.returns-clause-safe
returns-clause-safe c =
    safe_escaped c.args.bytes.now (All-from_get_or (λ b. b < 256) c.args.bytes.now 0 (λ i h. omega (arith, (c.type_inv.bytes i).fits)))

pub returns-clause-read : goal.returns-clause-read
returns-clause-read c = λ rest.
    read_escaped c.args.bytes.now rest (All-from_get_or (λ b. b < 256) c.args.bytes.now 0 (λ i h. omega (arith, (c.type_inv.bytes i).fits)))

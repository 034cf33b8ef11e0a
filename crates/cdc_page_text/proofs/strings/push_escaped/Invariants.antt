use Rattle.std.proofs.Common.{◌≡◌, ◌++◌, take}
use Rattle.cdc_page_text.specs.Strings.{escaped}
use Rattle.cdc_page_text.proofs.strings.push_escaped.Given as goal

-- what is written of the bytes so far
abbrev pub invariant-loop-byte : goal.invariant-loop-byte
invariant-loop-byte l = l.page.items ≡ l.fn.page.items ++ escaped (take l.byte-index l.bytes)

use Rattle.cdc_commands.proofs.Terms.{map, shown_byte, string_bytes, take, ◌++◌, ◌≡◌}
use Rattle.cdc_commands.proofs.words.push_shown.Given as goal

-- the bytes so far
abbrev pub invariant-loop-byte : goal.invariant-loop-byte
invariant-loop-byte l =
    string_bytes l.text ≡ string_bytes l.fn.text ++ map shown_byte (take l.byte-index l.bytes)

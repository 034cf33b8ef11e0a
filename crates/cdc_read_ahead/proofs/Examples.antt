-- The definitions at work on a reader that gives "ab", a line feed, and "c".
use Rattle.std.specs.Prelude.{◌≡◌, true, false, [], Some, None, codes}
use Rattle.std.proofs.Common.{refl}
use Rattle.cdc_read_ahead.specs.declared.pieces.Ending.TheVariants.{AtEnd}
use Rattle.cdc_read_ahead.specs.Pieces.{EndsAfter, IsFront}
use Rattle.cdc_read_ahead.specs.Readers.{has_line_in, is_ready_in, unreceived}

-- what may be received of it, and when it may end
prefixes : IsFront (Some (codes "ab\nc")) [] × IsFront (Some (codes "ab\nc")) (codes "ab\n")
    × EndsAfter (Some (codes "ab\nc")) (codes "ab\nc") AtEnd
prefixes = (refl, refl, refl)

-- what is left after a block of two bytes
rest : (unreceived (Some (codes "ab\nc")) (codes "ab") ≡ Some (codes "\nc")) × (unreceived None (codes "ab") ≡ None)
rest = (refl, refl)

-- whether the next line is there: after the second block it is, and the last line is only at the end
ready : (has_line_in (codes "ab") ≡ false) × (has_line_in (codes "ab\nc") ≡ true)
    × (is_ready_in (codes "c") (record { bytes = codes "ab\nc"; ending = None }) ≡ false)
    × (is_ready_in (codes "c") (record { bytes = codes "ab\nc"; ending = Some AtEnd }) ≡ true)
ready = (refl, refl, refl, refl)

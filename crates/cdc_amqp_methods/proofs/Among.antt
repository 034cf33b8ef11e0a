-- Looking for a name among the fields of a table, one after another.
use Rattle.std.proofs.Common.{◌≡◌, ℕ, suc, ◌-◌, ◌+◌, ◌≤◌, ◌<◌, true, false, List, length, eqb}
use Rattle.std.proofs.Common.{refl, sym, ◌∙◌, arith, Option, Some, None}
use Rattle.std.specs.Str.{bytes_eq}
use Rattle.cdc_amqp_methods.specs.Tables.{Parts, field_at, find_among}

-- no bytes are left, so no field has the name
pub among_empty : (n i : ℕ) (name rest : List ℕ) (total : Option (Option Parts)) → i < n → eqb (length rest) 0 ≡ true
    → find_among (n - i) name rest ≡ total → total ≡ Some None
unfolding find_among
among_empty n i name rest total lt empty so_far =
    let k : n - i ≡ suc (n - (i + 1)) = omega arith in
    let one : find_among (n - i) name rest ≡ Some None = rw (k, empty) refl in
    sym so_far ∙ one

-- what is left doesn't begin with a field
pub among_broken : (n i : ℕ) (name rest : List ℕ) (total : Option (Option Parts)) → i < n → eqb (length rest) 0 ≡ false
    → field_at rest ≡ None → find_among (n - i) name rest ≡ total → total ≡ None
unfolding find_among
among_broken n i name rest total lt some broken so_far =
    let k : n - i ≡ suc (n - (i + 1)) = omega arith in
    let one : find_among (n - i) name rest ≡ None = rw (k, some, broken) refl in
    sym so_far ∙ one

-- the next field has the name
pub among_found : (n i : ℕ) (name rest after : List ℕ) (field : Parts) (total : Option (Option Parts)) → i < n
    → eqb (length rest) 0 ≡ false → field_at rest ≡ Some (field, after) → bytes_eq field.name name ≡ true
    → find_among (n - i) name rest ≡ total → total ≡ Some (Some field)
unfolding find_among
among_found n i name rest after field total lt some is same so_far =
    let k : n - i ≡ suc (n - (i + 1)) = omega arith in
    let one : find_among (n - i) name rest ≡ Some (Some field) = rw (k, some, is, same) refl in
    sym so_far ∙ one

-- the next field has another name
pub among_on : (n i : ℕ) (name rest after : List ℕ) (field : Parts) (total : Option (Option Parts)) → i < n
    → eqb (length rest) 0 ≡ false → field_at rest ≡ Some (field, after) → bytes_eq field.name name ≡ false
    → find_among (n - i) name rest ≡ total → find_among (n - (i + 1)) name after ≡ total
unfolding find_among
among_on n i name rest after field total lt some is other so_far =
    let k : n - i ≡ suc (n - (i + 1)) = omega arith in
    let one : find_among (n - i) name rest ≡ find_among (n - (i + 1)) name after = rw (k, some, is, other) refl in
    sym one ∙ so_far

-- a table has no more fields than bytes
pub among_done : (n i : ℕ) (name rest : List ℕ) (total : Option (Option Parts)) → n ≤ i
    → find_among (n - i) name rest ≡ total → total ≡ Some None
unfolding find_among
among_done n i name rest total le so_far =
    let k : n - i ≡ 0 = omega arith in
    let one : find_among (n - i) name rest ≡ Some None = rw k refl in
    sym so_far ∙ one

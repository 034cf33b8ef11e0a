-- Writers of which it is known what they hold. Cited by no public contract.
use Rattle.std.proofs.Common.{◌≡◌, ℕ, List, Option, None, Some}

-- what is known isn't unknown
pub never_unknown : (bytes : List ℕ) (other : Option (List ℕ)) → Some bytes ≡ None → other ≡ None
never_unknown bytes other none = absurd cc

-- Laws of replays: elements of a prefix, and the same function of all elements.
use Rattle.std.proofs.Common.{◌≡◌, ℕ, ◌<◌, Some, List, [], ◌∷◌, length, get_or, map, take, refl, sym, ap, ◌∙◌, subst, arith}
use Rattle.std.specs.Prelude.{Contains, slice_get}
use Rattle.std.proofs.lemmas.List.{get_or-map, get_or-take, length-map, length-take, take-map}
use Rattle.std.proofs.lemmas.List.Elements.{Contains-get_or}
use Rattle.std.proofs.lemmas.Option.{slice_get_read}
use Rattle.cdc_message.specs.Replays.{HaveSame, IsReplay}
use Rattle.cdc_message.proofs.ReplayLaws.{HaveSame-refl}

-- a list is a replay of itself
pub IsReplay-same : {X : Type 0} (f : List X) → IsReplay f f
IsReplay-same f = record { prefixes = λ n. (n, HaveSame-refl (take n f)) }

-- an element of a prefix, by its place: so what is known of each element before a place is known of the prefix
pub from_places : {X : Type 0} (P : X → Type 0) (n : ℕ) (f : List X)
    → ((i : ℕ) (x : X) → i < n → slice_get f i ≡ Some x → P x) → (x : X) → Contains (take n f) x → P x
from_places P n f before x (i, below, is) =
    let low : i < n = omega (arith, length-take n f) in
    let within : i < length f = omega (arith, length-take n f) in
    let at : x ≡ get_or f i x = sym is ∙ get_or-take n f i x low in
    before i x low (slice_get_read f (length f) i x refl within at)

-- ---- a function of all elements

-- so that the item of each delivery is among the items
pub Contains-map : {X Y : Type 0} (g : X → Y) (xs : List X) (x : X) → Contains xs x → Contains (map g xs) (g x)
Contains-map g xs x (k, below, is) =
    (k, omega (arith, length-map xs g), get_or-map g xs k x (g x) below ∙ ap g is)

-- and each acknowledged position is that of some delivery
pub Contains-unmap : {X Y : Type 0} (g : X → Y) (xs : List X) (y : Y) → Contains (map g xs) y
    → (x : X) × Contains xs x × (g x ≡ y)
Contains-unmap g [] y (k, below, is) = absurd (omega arith)
Contains-unmap g (x ∷ xs) y (k, below, is) =
    let within : k < length (x ∷ xs) = omega (arith, length-map (x ∷ xs) g) in (
      get_or (x ∷ xs) k x,
      Contains-get_or (x ∷ xs) k x within,
      sym (get_or-map g (x ∷ xs) k x y within) ∙ is,
    )

-- if two lists have the same deliveries, each item of the one is an item of the other
map_forth : {X Y : Type 0} (g : X → Y) (xs ys : List X) → HaveSame xs ys → (y : Y) → Contains (map g xs) y
    → Contains (map g ys) y
map_forth g xs ys same y there =
    let found = Contains-unmap g xs y there in
    subst (Contains (map g ys)) found.2 (Contains-map g ys found.0 (same.forth found.0 found.1))

-- so they have the same items
HaveSame-map : {X Y : Type 0} (g : X → Y) (xs ys : List X) → HaveSame xs ys → HaveSame (map g xs) (map g ys)
HaveSame-map g xs ys same = record {
  forth = map_forth g xs ys same;
  back = map_forth g ys xs (record { forth = same.back; back = same.forth });
}

-- so the items of a replay of deliveries are a replay of the items
pub IsReplay-map : {X Y : Type 0} (g : X → Y) (w f : List X) → IsReplay w f → IsReplay (map g w) (map g f)
IsReplay-map g w f replay = record {
  prefixes = λ n.
      let m = replay.prefixes n in
      (m.0, rw (take-map g n w, take-map g m.0 f) (HaveSame-map g (take n w) (take m.0 f) m.1));
}

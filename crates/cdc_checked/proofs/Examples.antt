-- Short streams: what is applied of them, and what checked following can't notice.
use Rattle.std.proofs.Common.{◌≡◌, [], ◌∷◌, ◌++◌, refl}
use Rattle.cdc_checked.specs.Based.{based, is_based}
use Rattle.cdc_checked.specs.Checked.{checked, is_applicable}
use Rattle.cdc_checked.proofs.ExampleEvents.{after_post, after_void, all, elsewhere, first, fourth, hold_one, hold_other, holding, holds_more, nothing, pays, pays_again, pays_late, posting, posts_some, second, third, void_one, void_other, voiding}

-- a whole stream is applied, and a redelivered event changes nothing
whole : (checked all ≡ all) × (checked (all ++ all) ≡ all)
    × (checked (first ∷ first ∷ second ∷ first ∷ []) ≡ first ∷ second ∷ [])
unfolding is_applicable
whole = (refl, refl, refl)

-- a lost payment stops its own accounts, and no others
lost : checked (second ∷ third ∷ elsewhere ∷ nothing ∷ fourth ∷ []) ≡ elsewhere ∷ []
unfolding is_applicable
lost = refl

-- a lost payment that is redelivered is applied, and then so are its accounts' later events once they are redelivered
redelivered : checked (second ∷ third ∷ elsewhere ∷ first ∷ second ∷ third ∷ fourth ∷ [])
    ≡ elsewhere ∷ first ∷ second ∷ third ∷ fourth ∷ []
unfolding is_applicable
redelivered = refl

-- a lost event that moves nothing isn't noticed, and is late once it is redelivered
silent : (checked (first ∷ second ∷ third ∷ elsewhere ∷ fourth ∷ []) ≡ first ∷ second ∷ third ∷ elsewhere ∷ fourth ∷ [])
    × (checked (first ∷ second ∷ third ∷ fourth ∷ nothing ∷ []) ≡ first ∷ second ∷ third ∷ fourth ∷ [])
unfolding is_applicable
silent = (refl, refl)

-- the loss of a pending transfer together with its void isn't noticed; together with its post it is
pending : (checked (first ∷ holding ∷ voiding ∷ after_void ∷ []) ≡ first ∷ holding ∷ voiding ∷ after_void ∷ [])
    × (checked (first ∷ after_void ∷ []) ≡ first ∷ after_void ∷ [])
    × (checked (first ∷ voiding ∷ after_void ∷ []) ≡ first ∷ after_void ∷ [])
    × (checked (first ∷ posting ∷ after_post ∷ []) ≡ first ∷ [])
    × (checked (first ∷ holding ∷ after_post ∷ []) ≡ first ∷ holding ∷ [])
unfolding is_applicable
pending = (refl, refl, refl, refl, refl)

-- the swap: of two pending transfers of the same amount the void of the first and the second itself are lost. The
-- balances are the same, so the next event is applied; the void of the second pending transfer is refused
swapped : (checked (hold_one ∷ pays ∷ []) ≡ hold_one ∷ pays ∷ [])
    × (checked (hold_one ∷ pays ∷ void_other ∷ []) ≡ hold_one ∷ pays ∷ [])
unfolding is_applicable
swapped = (refl, refl)

-- then the accounts are stuck, even if all events are redelivered: what was missed is late
stuck : checked (hold_one ∷ pays ∷ hold_one ∷ void_one ∷ hold_other ∷ pays ∷ void_other ∷ pays_again ∷ [])
    ≡ hold_one ∷ pays ∷ []
unfolding is_applicable
stuck = refl

-- a stream that begins late is applied by baseline, also a post of a pending transfer that it lacks
late : (checked (pays_late ∷ []) ≡ []) × (based (pays_late ∷ []) ≡ pays_late ∷ [])
    × (based (hold_one ∷ pays_late ∷ holds_more ∷ []) ≡ hold_one ∷ pays_late ∷ holds_more ∷ [])
unfolding is_applicable is_based
late = (refl, refl, refl)

-- by baseline a lost payment is noticed after the first event of an account, and before it isn't
late_lost : (based (second ∷ fourth ∷ []) ≡ second ∷ []) × (based (fourth ∷ []) ≡ fourth ∷ [])
unfolding is_based
late_lost = (refl, refl)

-- a lost pending transfer isn't, if the next event settles one of before: the post releases 5, and seems to release 2
late_held : based (pays_late ∷ posts_some ∷ []) ≡ pays_late ∷ posts_some ∷ []
unfolding is_based
late_held = refl

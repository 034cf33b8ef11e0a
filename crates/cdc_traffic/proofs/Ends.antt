-- The last message of a conversation is the last.
use Rattle.std.proofs.Common.{◌≡◌, ℕ, Bool, true, false, List, [], ◌∷◌, ◌++◌, refl, sym, ap, ◌∙◌, subst, append_assoc}
use Rattle.std.specs.Prelude.{◌||◌}
use Rattle.cdc_links.specs.Links.{CanSend}
use Rattle.cdc_links.proofs.Entries.{follow-middle}
use Rattle.cdc_traffic.specs.Following.{has_ended}
use Rattle.cdc_traffic.specs.Laws.{EndsAreLast}

-- a test that holds after others
or_true : (b : Bool) → (b || true) ≡ true
or_true true = refl
or_true false = refl

-- a list that ends with a last message has one
ended_by : {M N : Type 0} (is_last : M → Bool) (sent : List (M × N)) (last : M × N) → is_last last.0 ≡ true
    → has_ended is_last (sent ++ last ∷ []) ≡ true
ended_by is_last [] last is = ap (λ b. b || false) is
ended_by is_last (x ∷ sent) last is =
    ap (λ b. is_last x.0 || b) (ended_by is_last sent last is) ∙ or_true (is_last x.0)

-- if a message may only follow messages none of which is a last one
pub ends_are_last : {M N : Type 0} (follows : ℕ → List (M × N) → M × N → Type 0) (is_last : M → Bool)
    → ((sender : ℕ) (before : List (M × N)) (next : M × N) → follows sender before next
    → has_ended is_last before ≡ false)
    → EndsAreLast follows is_last
ends_are_last follows is_last states sender sent [] last chain is = refl
ends_are_last {M} {N} follows is_last states sender sent (x ∷ rest) last chain is =
    let before : List (M × N) = sent ++ last ∷ [] in
    let whole : CanSend follows sender (before ++ x ∷ rest) =
    subst (CanSend follows sender) (sym (append_assoc sent (last ∷ []) (x ∷ rest))) chain in
    let next : follows sender before x = follow-middle follows sender [] before x rest whole in
    let no : true ≡ false = sym (ended_by is_last sent last is) ∙ states sender before x next in
    cc

-- The lines of subscribers, one after another.
use Rattle.cdc_commands.proofs.Terms.{Arguments, Item, List, Some, SubscriberState, [], ap, append-nil, append_assoc, drop, drop_all, drop_found, kept_by, kept_text, length, map, refl, slice_get, subscriber_text, subscribers_text, sym, ℕ, ◌++◌, ◌+◌, ◌∙◌, ◌∷◌, ◌≡◌, ◌≤◌}

-- one more subscriber is printed
pub kept_text-more : (all : List SubscriberState) (place : ℕ) (kept : SubscriberState) (now next whole : List ℕ)
    → slice_get all place ≡ Some kept → next ≡ now ++ subscriber_text (place + 1) kept
    → now ++ kept_text (place + 1) (drop place all) ≡ whole
    → next ++ kept_text (place + 1 + 1) (drop (place + 1) all) ≡ whole
kept_text-more all place kept now next whole found added before =
    ap (λ (text : List ℕ). text ++ kept_text (place + 1 + 1) (drop (place + 1) all)) added
    ∙ append_assoc now (subscriber_text (place + 1) kept) (kept_text (place + 1 + 1) (drop (place + 1) all))
    ∙ ap (λ (left : List SubscriberState). now ++ kept_text (place + 1) left) (sym (drop_found all place kept found))
    ∙ before

-- no subscriber is left
pub kept_text-whole : (all : List SubscriberState) (place : ℕ) (now whole : List ℕ) → length all ≤ place
    → now ++ kept_text (place + 1) (drop place all) ≡ whole → now ≡ whole
kept_text-whole all place now whole past before =
    sym (append-nil now)
    ∙ ap (λ (left : List SubscriberState). now ++ kept_text (place + 1) left) (sym (drop_all place all past))
    ∙ before

-- the lines of the subscribers of these bindings, of what they keep
pub kept_text-bindings : (n : ℕ) (items : List Item) (bindings : List Arguments)
    → kept_text n (map (kept_by items) bindings) ≡ subscribers_text n items bindings
kept_text-bindings n items [] = refl
kept_text-bindings n items (b ∷ rest) =
    ap (λ (text : List ℕ). subscriber_text n (kept_by items b) ++ text) (kept_text-bindings (n + 1) items rest)

-- Lines that are added one after another.
use Rattle.std.proofs.Common.{◌≡◌, ℕ, ◌+◌, ◌≤◌, List, [], ◌∷◌, ◌++◌, Some, None, refl, sym, ap, ◌∙◌, map, take, drop, length, append_assoc, append-nil}
use Rattle.std.specs.Prelude.{Option}
use Rattle.std.specs.List.{slice_get}
use Rattle.std.specs.Option.{option_map}
use Rattle.std.proofs.lemmas.List.{drop_all, map-append}
use Rattle.std.proofs.lemmas.Grind.{flat_map-append}
use Rattle.serde_json.specs.Data.{Data}
use Rattle.cdc_output.proofs.FoundElements.{drop_found, take_found}
use Rattle.cdc_output.specs.Lines.{json_line, json_lines, kept_values, subscriber_values}
use Rattle.cdc_subscriber.specs.SubscriberState.{SubscriberState}
use Rattle.cdc_subscriber.specs.Book.{entry_for, id_and_balances}
use Rattle.cdc_subscriber.specs.declared.book.BookEntry.{BookEntry}
use Rattle.cdc_subscriber.specs.Balances.{Balances}

-- the lines of one value more
pub json_lines-more : (values : List Data) (value : Data)
    → json_lines (values ++ value ∷ []) ≡ json_lines values ++ json_line value
json_lines-more values value =
    flat_map-append json_line values (value ∷ []) ∙ ap (λ xs. json_lines values ++ xs) (append-nil (json_line value))

-- the lines of the values of the first elements of a list, and that of the next one
pub lines_more : {X : Type 0} (f : X → Data) (xs : List X) (i : ℕ) (x : X) (first now next : List ℕ)
    → now ≡ first ++ json_lines (map f (take i xs)) → slice_get xs i ≡ Some x → next ≡ now ++ json_line (f x)
    → next ≡ first ++ json_lines (map f (take (i + 1) xs))
lines_more f xs i x first now next before found added =
    added ∙ ap (λ (text : List ℕ). text ++ json_line (f x)) before
    ∙ append_assoc first (json_lines (map f (take i xs))) (json_line (f x))
    ∙ ap (λ (text : List ℕ). first ++ text)
    (sym (json_lines-more (map f (take i xs)) (f x))
    ∙ ap json_lines (sym (map-append f (take i xs) (x ∷ [])) ∙ ap (map f) (sym (take_found xs i x found))))

-- an account that a book has at a place is the entry there
pub entry_there : (entry : Option BookEntry) (id : ℕ) (balances : Balances)
    → Some (id, balances) ≡ option_map id_and_balances entry
    → entry ≡ Some (record { id = id; balances = balances })
entry_there None id balances is = cc
entry_there (Some entry) id balances is =
    let same : (id, balances) ≡ id_and_balances entry = cc in
    sym (ap (λ (account : ℕ × Balances). Some (entry_for account)) same)

-- if the book shows no account there, there is no entry
pub none_there : (entry : Option BookEntry) → None ≡ option_map id_and_balances entry → entry ≡ None
none_there None is = refl
none_there (Some entry) is = cc

-- ---- lines of what is numbered

-- the lines of some values, and of those that follow
pub json_lines-append : (values rest : List Data) → json_lines (values ++ rest) ≡ json_lines values ++ json_lines rest
json_lines-append values rest = flat_map-append json_line values rest

-- one more subscriber is reported
pub kept_more : (all : List SubscriberState) (place : ℕ) (kept : SubscriberState) (now next whole : List ℕ)
    → slice_get all place ≡ Some kept
    → next ≡ now ++ json_lines (subscriber_values (place + 1) kept)
    → now ++ json_lines (kept_values (place + 1) (drop place all)) ≡ whole
    → next ++ json_lines (kept_values (place + 1 + 1) (drop (place + 1) all)) ≡ whole
kept_more all place kept now next whole found added before =
    let own = subscriber_values (place + 1) kept in
    let rest = kept_values (place + 1 + 1) (drop (place + 1) all) in
    ap (λ (text : List ℕ). text ++ json_lines rest) added
    ∙ append_assoc now (json_lines own) (json_lines rest)
    ∙ ap (λ (text : List ℕ). now ++ text) (sym (json_lines-append own rest))
    ∙ ap (λ (left : List SubscriberState). now ++ json_lines (kept_values (place + 1) left))
    (sym (drop_found all place kept found))
    ∙ before

-- no subscriber is left
pub kept_whole : (all : List SubscriberState) (place : ℕ) (now whole : List ℕ) → length all ≤ place
    → now ++ json_lines (kept_values (place + 1) (drop place all)) ≡ whole → now ≡ whole
kept_whole all place now whole past before =
    sym (append-nil now)
    ∙ ap (λ (left : List SubscriberState). now ++ json_lines (kept_values (place + 1) left))
    (sym (drop_all place all past))
    ∙ before

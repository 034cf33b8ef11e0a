-- The object of an envelope, read member by member.
use Rattle.std.proofs.Common.{◌≡◌, ℕ, ◌≤◌, ◌<◌, ◌^◌, List, [], ◌∷◌, ◌++◌, true, false, bytes_eq, Option, Some, None, Ok, codes, refl, sym, ap, ◌∙◌, arith}
use Rattle.std.specs.Option.{option_and_then, option_map}
use Rattle.std.specs.Str.{IsUtf8, is_utf8}
use Rattle.std.proofs.lemmas.Slice.Eq.{bytes_eq-Decides}
use Rattle.std.proofs.lemmas.Str.{is_utf8-from_IsUtf8}
use Rattle.json.specs.Json as json
use Rattle.json.specs.Lex.{token, comma, colon, fresh, after_value, after_comma, begins_colon, lex, between, punctuate, tokens}
use Rattle.json.specs.Token.{begin_object, end_object, string}
use Rattle.json.specs.Tree.{depth, json_tokens}
use Rattle.json.proofs.Printed.Trees.{value-json_tokens}
use Rattle.serde_json.specs.Data.{Data, object, no_members, put}
use Rattle.serde_json.specs.Find.{get, get_member}
use Rattle.serde_json.specs.Read.{of_json, of_members, max_depth}
use Rattle.serde_json.specs.Read as values
use Rattle.serde_json.proofs.Views.{get_member-put, get_member-put_other}
use Rattle.cdc_types.specs.declared.events.Event.{Event}
use Rattle.cdc_message.specs.Reading.{event_of, value_of, whole_number}
use Rattle.cdc_message.specs.Unordered.{Gives, GivesEvent}
use Rattle.cdc_message.proofs.Unordered.{begin_lexes, last_one, object_tokens, one_more}
use Rattle.cdc_envelopes.specs.Envelopes.{IsEnvelope}
use Rattle.cdc_envelopes.specs.Private.Members.{SoFar, Whole}

-- no member was read yet
pub begins : (text here : List ℕ) → text ≡ 123 ∷ here → (IsUtf8 here → IsUtf8 text) → SoFar text None here
begins text here is utf8 = record {
  found = no_members;
  untyped = refl;
  has = refl;
  utf8 = utf8;
  place = fresh;
  may = refl;
  going = λ ms rest shallow ends. record {
    all = ms;
    tokens = object_tokens text here rest ms (begin_lexes text here (ap (lex between) is)) ends;
    shallow = shallow;
    converts = refl;
  };
}

-- one more member, and whatever the member `previous` is with it
more : (text : List ℕ) (old new : Option Data) (most : ℕ) (Is : Data → Type 0) (k a b c d : List ℕ)
    → most ≤ 2 → (before : SoFar text old a) → lex between a ≡ token (string k) ∷ colon ∷ lex between b
    → (given : Gives most b Is c) → lex between c ≡ comma ∷ lex between d → (IsUtf8 d → IsUtf8 a)
    → (codes "type" ≡ k → ⊥) → get_member (codes "previous") (put k given.value before.found) ≡ new
    → SoFar text new d
more text old new most Is k a b c d few before named given next utf8 typed has = record {
  found = put k given.value before.found;
  untyped = get_member-put_other (codes "type") k given.value before.found typed ∙ before.untyped;
  has = has;
  utf8 = λ rest. before.utf8 (utf8 rest);
  place = after_comma;
  may = refl;
  going = λ ms rest shallow ends.
      let low = given.shallow in
      let whole = before.going (json.member k given.json ms) rest (omega (arith, few, low, shallow))
      (one_more before.place most Is k a b c d rest ms before.may named given next ends) in
      record {
        all = whole.all;
        tokens = whole.tokens;
        shallow = whole.shallow;
        converts = whole.converts ∙ ap (option_and_then (λ e. of_members ms (put k e before.found))) given.converts;
      };
}

-- a member other than `type` and `previous`
pub one_other : (text : List ℕ) (previous : Option Data) (most : ℕ) (Is : Data → Type 0) (k a b c d : List ℕ)
    → most ≤ 2 → SoFar text previous a → lex between a ≡ token (string k) ∷ colon ∷ lex between b
    → Gives most b Is c → lex between c ≡ comma ∷ lex between d → (IsUtf8 d → IsUtf8 a)
    → (codes "type" ≡ k → ⊥) → (codes "previous" ≡ k → ⊥) → SoFar text previous d
one_other text previous most Is k a b c d few before named given next utf8 typed other =
    more text previous previous most Is k a b c d few before named given next utf8 typed
    (get_member-put_other (codes "previous") k given.value before.found other ∙ before.has)

-- names that are compared as different
pub apart : (a b : List ℕ) → bytes_eq a b ≡ false → a ≡ b → ⊥
apart a b other e = let same = (bytes_eq-Decides a b).1 e in cc

-- the member `previous`
pub one_previous : (text : List ℕ) (previous : Option Data) (most : ℕ) (Is : Data → Type 0) (a b c d : List ℕ)
    → most ≤ 2 → SoFar text previous a
    → lex between a ≡ token (string (codes "previous")) ∷ colon ∷ lex between b
    → (given : Gives most b Is c) → lex between c ≡ comma ∷ lex between d → (IsUtf8 d → IsUtf8 a)
    → SoFar text (Some given.value) d
one_previous text previous most Is a b c d few before named given next utf8 =
    more text previous (Some given.value) most Is (codes "previous") a b c d few before named given next utf8
    (apart (codes "type") (codes "previous") refl) (get_member-put (codes "previous") given.value before.found)

-- a text of these tokens is this value
parsed : (text : List ℕ) (j : json.Json) (value : Data) → IsUtf8 text → tokens text ≡ json_tokens j ++ []
    → depth j ≤ max_depth → of_json j ≡ Some value → value_of text ≡ Some value
parsed text j value utf8 same shallow converts =
    let read : values.read text ≡ Some value =
    ap (λ r. option_and_then of_json (option_and_then (λ p. json.if_last p.0 p.1) r))
    (ap (json.value max_depth) same ∙ value-json_tokens j max_depth [] shallow)
    ∙ converts in
    rw (is_utf8-from_IsUtf8 text utf8, read)

-- the last member is the body
pub whole_envelope : (text here after : List ℕ) (previous : ℕ) (predecessor : Data) (event : Event)
    → SoFar text (Some predecessor) here → whole_number predecessor ≡ Some previous → previous < 2 ^ 64
    → lex between here ≡ token (string (codes "body")) ∷ colon ∷ lex between after → (IsUtf8 after → IsUtf8 here)
    → IsUtf8 after → GivesEvent after event (codes "}") → IsEnvelope text event previous
unfolding lex punctuate
whole_envelope text here after previous predecessor event before is fits named utf8 end given =
    let low = given.shallow in
    let ms = json.member (codes "body") given.json json.no_members in
    let whole = before.going ms [] (omega (arith, low))
    (last_one before.place 2 (λ value. event_of value ≡ Ok event) (codes "body") here after (codes "}") [] before.may
    named given refl) in
    let found = put (codes "body") given.value before.found in
    let shallow = whole.shallow in
    let converts : of_json (json.object whole.all) ≡ Some (object found) =
    ap (option_map object)
    (whole.converts ∙ ap (option_and_then (λ e. of_members json.no_members (put (codes "body") e before.found)))
    given.converts) in
    record {
      value = object found;
      read = parsed text (json.object whole.all) (object found) (before.utf8 (utf8 end)) whole.tokens
          (omega (arith, shallow)) converts;
      untyped = get_member-put_other (codes "type") (codes "body") given.value before.found
          (apart (codes "type") (codes "body") refl) ∙ before.untyped;
      predecessor = predecessor;
      has_predecessor = get_member-put_other (codes "previous") (codes "body") given.value before.found
          (apart (codes "previous") (codes "body") refl) ∙ before.has;
      predecessor_is = is;
      predecessor_fits = fits;
      body = given.value;
      has_body = get_member-put (codes "body") given.value before.found;
      body_is = given.holds;
    }

-- A text of JSON is read value by value.
use Rattle.std.proofs.Common.{◌≡◌, ℕ, ◌<◌, ◌^◌, List, [], ◌∷◌, ◌++◌, true, false, Some, decimal, refl, sym, ap, ap₂, ◌∙◌, arith, append_assoc, inl, inr}
use Rattle.std.proofs.lemmas.Bool.Decides.{eqb_tells}
use Rattle.json.specs.Json as json
use Rattle.json.specs.Lex.{token, comma, colon, Place, fresh, after_value, after_comma, after_key, lex, between, string_token, begins_colon, may_begin, punctuate}
use Rattle.json.specs.Token.{begin_object, end_object, key, string}
use Rattle.json.specs.Tree.{json_tokens, members_tokens}
use Rattle.json.specs.Print.{escape}
use Rattle.json.specs.Word.{ends_word, is_space}
use Rattle.json.proofs.Printed.Decimals.{IsNumber-decimal}
use Rattle.json.proofs.Printed.Numbers.{lex-number}
use Rattle.json.proofs.Printed.Strings.{content-escape, lex-escape}
use Rattle.serde_json.specs.Data.{Data, object}
use Rattle.serde_json.specs.Data as value
use Rattle.serde_json.specs.Find.{as_str}
use Rattle.serde_json.proofs.Numbers.{number_of-decimal}
use Rattle.serde_json.proofs.OnLiterals.{serde_json_on_literals}
use Rattle.cdc_types.specs.declared.events.EventKind.{EventKind}
use Rattle.cdc_message.specs.declared.fields.FieldName.{FieldName}
use Rattle.cdc_message.specs.declared.fields.FieldName.TheVariants.{Timestamp, Kind, Ledger, TransferPart, DebitAccount, CreditAccount, Id, Amount, PendingId, UserData128, UserData64, UserData32, Timeout, Code, Flags, DebitsPending, DebitsPosted, CreditsPending, CreditsPosted}
use Rattle.cdc_message.specs.Bodies.{in_quotes}
use Rattle.cdc_message.specs.Fields.{key_of}
use Rattle.cdc_message.specs.Kinds.{kind_text}
use Rattle.cdc_message.specs.Reading.{whole_number}
use Rattle.cdc_message.specs.Unordered.{tokens_at, Gives}
use Rattle.cdc_message.proofs.Back.{whole_number-wide}
use Rattle.cdc_message.proofs.Texts.{after_quote, plain_decimal, plain_kind}

-- ---- strings and numbers

-- a string that needs no escape
pub lex-plain : (s rest : List ℕ) → after_quote s ≡ s ++ 34 ∷ []
    → lex between (in_quotes s ++ rest) ≡ token (string s) ∷ lex between rest
unfolding lex
lex-plain s rest is =
    let same : s ++ 34 ∷ [] ≡ escape s ++ 34 ∷ [] = sym is in
    let whole : (s ++ 34 ∷ []) ++ rest ≡ escape s ++ 34 ∷ rest =
    ap (λ t. t ++ rest) same ∙ append_assoc (escape s) (34 ∷ []) rest in
    ap (λ t. lex between (34 ∷ t)) whole
    ∙ ap₂ (λ o l. token (string_token o) ∷ l) (content-escape s rest) (lex-escape s rest)

-- white space
pub lex_space : (b : ℕ) (rest : List ℕ) → is_space b ≡ true → lex between (b ∷ rest) ≡ lex between rest
unfolding lex
lex_space b rest space = elim (eqb_tells b 32) [
  | inl e ↦ rw e.1
  | inr no_space ↦ elim (eqb_tells b 9) [
    | inl e ↦ rw e.1
    | inr no_tab ↦ elim (eqb_tells b 10) [
      | inl e ↦ rw e.1
      | inr no_feed ↦ elim (eqb_tells b 13) [
        | inl e ↦ rw e.1
        | inr no_return ↦
            let never : false ≡ true = rw (no_space.0, no_tab.0, no_feed.0, no_return.0) at space in absurd (cc)
      ]
    ]
  ]
]

-- no name of a field needs an escape
pub plain_key : (name : FieldName) → after_quote (key_of name) ≡ key_of name ++ 34 ∷ []
unfolding serde_json_on_literals
plain_key Timestamp = refl
plain_key Kind = refl
plain_key Ledger = refl
plain_key TransferPart = refl
plain_key DebitAccount = refl
plain_key CreditAccount = refl
plain_key Id = refl
plain_key Amount = refl
plain_key PendingId = refl
plain_key UserData128 = refl
plain_key UserData64 = refl
plain_key UserData32 = refl
plain_key Timeout = refl
plain_key Code = refl
plain_key Flags = refl
plain_key DebitsPending = refl
plain_key DebitsPosted = refl
plain_key CreditsPending = refl
plain_key CreditsPosted = refl

-- a comma
pub comma_lexes : (text rest : List ℕ) → lex between text ≡ lex between (44 ∷ rest)
    → lex between text ≡ comma ∷ lex between rest
unfolding lex
comma_lexes text rest is = is

-- the start of an object
pub begin_lexes : (text rest : List ℕ) → lex between text ≡ lex between (123 ∷ rest)
    → lex between text ≡ token begin_object ∷ lex between rest
unfolding lex
begin_lexes text rest is = is

-- its end
pub end_lexes : (text rest : List ℕ) → lex between text ≡ lex between (125 ∷ rest)
    → lex between text ≡ token end_object ∷ lex between rest
unfolding lex
end_lexes text rest is = is

-- a text in quotes, read in three parts
pub in_three : (s text a b rest : List ℕ) → lex between text ≡ lex between (34 ∷ a) → a ≡ s ++ b → b ≡ 34 ∷ rest
    → lex between text ≡ lex between (in_quotes s ++ rest)
in_three s text a b rest opened is ended =
    opened
    ∙ ap (λ t. lex between (34 ∷ t)) (is ∙ ap (λ t. s ++ t) ended ∙ sym (append_assoc s (34 ∷ []) rest))

-- a name and its colon
pub name_lexes : (name : FieldName) (text a b c rest : List ℕ) → lex between text ≡ lex between (34 ∷ a)
    → a ≡ key_of name ++ b → b ≡ 34 ∷ c → lex between c ≡ lex between (58 ∷ rest)
    → lex between text ≡ token (string (key_of name)) ∷ colon ∷ lex between rest
unfolding lex
name_lexes name text a b c rest opened is ended next =
    in_three (key_of name) text a b c opened is ended ∙ lex-plain (key_of name) c (plain_key name)
    ∙ ap (λ ls. token (string (key_of name)) ∷ ls) next

-- a string is a value
pub string_gives : (Is : Data → Type 0) (s rest : List ℕ) → after_quote s ≡ s ++ 34 ∷ [] → Is (value.string s)
    → Gives 0 (in_quotes s ++ rest) Is rest
unfolding punctuate
string_gives Is s rest is holds = record {
  json = json.string s;
  value = value.string s;
  shallow = omega arith;
  converts = refl;
  tokens = λ no_colon. ap (punctuate fresh) (lex-plain s rest is) ∙ rw no_colon;
  holds = holds;
}

-- a number in quotes
pub quoted_gives : (n : ℕ) (rest : List ℕ) → n < 2 ^ 128
    → Gives 0 (in_quotes (decimal n) ++ rest) (λ value. whole_number value ≡ Some n) rest
quoted_gives n rest fits =
    string_gives (λ value. whole_number value ≡ Some n) (decimal n) rest (plain_decimal n (omega arith))
    (whole_number-wide n (omega arith))

-- a bare number
pub bare_gives : (n : ℕ) (rest : List ℕ) → n < 2 ^ 64 → ends_word rest ≡ true
    → Gives 0 (decimal n ++ rest) (λ value. whole_number value ≡ Some n) rest
unfolding punctuate
bare_gives n rest fits ended = record {
  json = json.number (decimal n);
  value = value.number (value.unsigned n);
  shallow = omega arith;
  converts = rw (number_of-decimal n fits);
  tokens = λ no_colon. ap (punctuate fresh) (lex-number (decimal n) rest (IsNumber-decimal n fits) ended);
  holds = refl;
}

-- the name of a kind
pub kind_gives : (kind : EventKind) (rest : List ℕ)
    → Gives 0 (in_quotes (kind_text kind) ++ rest) (λ value. as_str value ≡ Some (kind_text kind)) rest
kind_gives kind rest =
    string_gives (λ value. as_str value ≡ Some (kind_text kind)) (kind_text kind) rest (plain_kind kind) refl

-- white space before a value doesn't count
pub gives_after : (most : ℕ) (Is : Data → Type 0) (text other rest : List ℕ) → lex between text ≡ lex between other
    → Gives most other Is rest → Gives most text Is rest
gives_after most Is text other rest same given = record {
  json = given.json;
  value = given.value;
  shallow = given.shallow;
  converts = given.converts;
  tokens = λ no_colon. ap (punctuate fresh) same ∙ given.tokens no_colon;
  holds = given.holds;
}

-- ---- members

-- a name, its value and a comma
pub member_more : (place : Place) (most : ℕ) (Is : Data → Type 0) (k a b c d : List ℕ) → may_begin place ≡ true
    → lex between a ≡ token (string k) ∷ colon ∷ lex between b → (given : Gives most b Is c)
    → lex between c ≡ comma ∷ lex between d
    → tokens_at place a ≡ key k ∷ (json_tokens given.json ++ tokens_at after_comma d)
unfolding punctuate
member_more fresh most Is k a b c d may named given next =
    ap (punctuate fresh) named
    ∙ ap (λ ts. key k ∷ ts) (given.tokens (ap begins_colon next))
    ∙ ap (λ ls. key k ∷ (json_tokens given.json ++ punctuate after_value ls)) next
member_more after_value most Is k a b c d may named given next = absurd (cc)
member_more after_comma most Is k a b c d may named given next =
    ap (punctuate after_comma) named
    ∙ ap (λ ts. key k ∷ ts) (given.tokens (ap begins_colon next))
    ∙ ap (λ ls. key k ∷ (json_tokens given.json ++ punctuate after_value ls)) next
member_more after_key most Is k a b c d may named given next = absurd (cc)

-- a name, its value and the end of the object
pub member_last : (place : Place) (most : ℕ) (Is : Data → Type 0) (k a b c d : List ℕ) → may_begin place ≡ true
    → lex between a ≡ token (string k) ∷ colon ∷ lex between b → (given : Gives most b Is c)
    → lex between c ≡ token end_object ∷ lex between d
    → tokens_at place a ≡ key k ∷ (json_tokens given.json ++ end_object ∷ tokens_at after_value d)
unfolding punctuate
member_last fresh most Is k a b c d may named given next =
    ap (punctuate fresh) named
    ∙ ap (λ ts. key k ∷ ts) (given.tokens (ap begins_colon next))
    ∙ ap (λ ls. key k ∷ (json_tokens given.json ++ punctuate after_value ls)) next
member_last after_value most Is k a b c d may named given next = absurd (cc)
member_last after_comma most Is k a b c d may named given next =
    ap (punctuate after_comma) named
    ∙ ap (λ ts. key k ∷ ts) (given.tokens (ap begins_colon next))
    ∙ ap (λ ls. key k ∷ (json_tokens given.json ++ punctuate after_value ls)) next
member_last after_key most Is k a b c d may named given next = absurd (cc)

-- from this place on come these members, the end of their object and the rest
abbrev pub Ends : Place → List ℕ → json.Members → List ℕ → Type 0
Ends place text ms rest = tokens_at place text ≡ members_tokens ms ++ tokens_at after_value rest

-- one more member before them
pub one_more : (place : Place) (most : ℕ) (Is : Data → Type 0) (k a b c d rest : List ℕ) (ms : json.Members)
    → may_begin place ≡ true → lex between a ≡ token (string k) ∷ colon ∷ lex between b → (given : Gives most b Is c)
    → lex between c ≡ comma ∷ lex between d → Ends after_comma d ms rest
    → Ends place a (json.member k given.json ms) rest
one_more place most Is k a b c d rest ms may named given next ends =
    member_more place most Is k a b c d may named given next
    ∙ ap (λ ts. key k ∷ (json_tokens given.json ++ ts)) ends
    ∙ sym (ap (λ ts. key k ∷ ts) (append_assoc (json_tokens given.json) (members_tokens ms)
    (tokens_at after_value rest)))

-- the last member
pub last_one : (place : Place) (most : ℕ) (Is : Data → Type 0) (k a b c rest : List ℕ)
    → may_begin place ≡ true → lex between a ≡ token (string k) ∷ colon ∷ lex between b → (given : Gives most b Is c)
    → lex between c ≡ token end_object ∷ lex between rest
    → Ends place a (json.member k given.json json.no_members) rest
last_one place most Is k a b c rest may named given next =
    member_last place most Is k a b c rest may named given next
    ∙ sym (ap (λ ts. key k ∷ ts)
    (append_assoc (json_tokens given.json) (end_object ∷ []) (tokens_at after_value rest)))

-- so an object
pub object_tokens : (text a rest : List ℕ) (ms : json.Members) → lex between text ≡ token begin_object ∷ lex between a
    → Ends fresh a ms rest → tokens_at fresh text ≡ json_tokens (json.object ms) ++ tokens_at after_value rest
unfolding punctuate
object_tokens text a rest ms opened ends = ap (punctuate fresh) opened ∙ ap (λ ts. begin_object ∷ ts) ends

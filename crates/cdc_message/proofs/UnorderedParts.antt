-- The objects of a documented body, read member by member.
use Rattle.std.proofs.Common.{◌≡◌, ℕ, ◌<◌, ◌≤◌, ◌^◌, ◌-◌, ◌∷◌, ◌++◌, [], List, true, eqb, find, bytes_eq, Option, Some, None, Ok, refl, sym, ap, ◌∙◌, arith, inl, inr, codes}
use Rattle.std.proofs.lemmas.Bool.Decides.{eqb_tells}
use Rattle.std.specs.Option.{option_and_then, option_map}
use Rattle.json.specs.Json as json
use Rattle.json.specs.Lex.{token, comma, colon, Place, fresh, after_value, after_comma, lex, between, may_begin}
use Rattle.json.specs.Token.{begin_object, end_object, string}
use Rattle.json.specs.Tree.{json_tokens, members_depth}
use Rattle.serde_json.specs.Data.{Data, object, Members, no_members, put}
use Rattle.serde_json.specs.Find.{get, get_member, as_str}
use Rattle.serde_json.specs.Read.{of_members}
use Rattle.serde_json.proofs.Views.{get_member-put, get_member-put_other}
use Rattle.cdc_types.specs.declared.events.Event.{Event}
use Rattle.cdc_message.specs.declared.fields.Field.{Field}
use Rattle.cdc_message.specs.declared.fields.FieldName.{FieldName}
use Rattle.cdc_message.specs.declared.fields.FieldName.TheVariants.{Timestamp, Kind, Ledger, TransferPart, DebitAccount, CreditAccount, Id, Amount, PendingId, UserData128, UserData64, UserData32, Timeout, Code, Flags, DebitsPending, DebitsPosted, CreditsPending, CreditsPosted}
use Rattle.cdc_message.specs.declared.fields.Part.TheVariants.{Top, Debit, Credit}
use Rattle.cdc_message.specs.declared.part_numbers.Numbers.{Numbers}
use Rattle.cdc_message.specs.Fields.{key_of, field}
use Rattle.cdc_message.specs.Kinds.{kind_text}
use Rattle.cdc_message.specs.Reading.{◌>>=◌, present, typed, up_to, whole_number, number_at, is_object, event_of}
use Rattle.cdc_message.specs.Unordered.{tokens_at, Gives, Holds, IsAccount, IsTransfer, number_of, place_of}
use Rattle.cdc_message.proofs.Back.{up_to_width, kind_named-kind_text}
use Rattle.cdc_message.proofs.Unordered.{Ends, one_more, last_one, object_tokens}

-- ---- names

-- every name, by its place
abbrev all_names : List FieldName
all_names =
    Timestamp ∷ Kind ∷ Ledger ∷ TransferPart ∷ DebitAccount ∷ CreditAccount ∷ Id ∷ Amount ∷ PendingId ∷ UserData128 ∷
    UserData64 ∷ UserData32 ∷ Timeout ∷ Code ∷ Flags ∷ DebitsPending ∷ DebitsPosted ∷ CreditsPending
    ∷ CreditsPosted ∷ []

-- the name at a place
abbrev name_at : ℕ → Option FieldName
name_at place = find (λ name. eqb (place_of name) place) all_names

-- the name of a key
abbrev named : List ℕ → Option FieldName
named key = find (λ name. bytes_eq (key_of name) key) all_names

-- each name is found by its place and by its key
found_by : (name : FieldName) → (name_at (place_of name) ≡ Some name) × (named (key_of name) ≡ Some name)
found_by Timestamp = (refl, refl)
found_by Kind = (refl, refl)
found_by Ledger = (refl, refl)
found_by TransferPart = (refl, refl)
found_by DebitAccount = (refl, refl)
found_by CreditAccount = (refl, refl)
found_by Id = (refl, refl)
found_by Amount = (refl, refl)
found_by PendingId = (refl, refl)
found_by UserData128 = (refl, refl)
found_by UserData64 = (refl, refl)
found_by UserData32 = (refl, refl)
found_by Timeout = (refl, refl)
found_by Code = (refl, refl)
found_by Flags = (refl, refl)
found_by DebitsPending = (refl, refl)
found_by DebitsPosted = (refl, refl)
found_by CreditsPending = (refl, refl)
found_by CreditsPosted = (refl, refl)

-- two names that are found alike are one
same_found : (a b : FieldName) (o : Option FieldName) → o ≡ Some a → o ≡ Some b → a ≡ b
same_found a b o x y = let both : Some a ≡ Some b = sym x ∙ y in cc

-- so no two names have one place
same_place : (a b : FieldName) → place_of a ≡ place_of b → a ≡ b
same_place a b is = same_found a b (name_at (place_of a)) (found_by a).0 (ap name_at is ∙ (found_by b).0)

-- and no two have one key
same_key : (a b : FieldName) → key_of a ≡ key_of b → a ≡ b
same_key a b is = same_found a b (named (key_of a)) (found_by a).1 (ap named is ∙ (found_by b).1)

-- ---- the numbers of a part

-- a member more, and its number
holds_put : (old new : Numbers) (found : Members) (name : FieldName) (n : ℕ) (value : Data) → Holds old (object found)
    → whole_number value ≡ Some n → number_of new name ≡ Some n
    → ((other : FieldName) → (other ≡ name → ⊥) → number_of new other ≡ number_of old other)
    → Holds new (object (put (key_of name) value found))
holds_put old new found name n value holds is same others = record {
  object = refl;
  members = λ other m of_other. elim (eqb_tells (place_of other) (place_of name)) [
    | inl equal ↦
        let one : other ≡ name = same_place other name equal.1 in
        let number : n ≡ m = let both : Some n ≡ Some m = sym same ∙ ap (number_of new) (sym one) ∙ of_other in cc in
        ap (λ k. option_and_then whole_number (get_member (key_of k) (put (key_of name) value found))) one
        ∙ ap (option_and_then whole_number) (get_member-put (key_of name) value found) ∙ is ∙ ap Some number
    | inr differ ↦
        let apart : other ≡ name → ⊥ = λ one. differ.1 (ap place_of one) in
        ap (option_and_then whole_number)
        (get_member-put_other (key_of other) (key_of name) value found (λ e. apart (same_key other name e)))
        ∙ holds.members other m (sym (others other apart) ∙ of_other)
  ];
}

-- what is there of a whole object, with these members still to come and then the rest
pub record Whole (text : List ℕ) (found : Members) (ms : json.Members) (rest : List ℕ) : Type 0 where
  pub all : json.Members
  pub tokens : tokens_at fresh text ≡ json_tokens (json.object all) ++ tokens_at after_value rest
  pub shallow : members_depth all ≤ 0
  pub converts : of_members all no_members ≡ of_members ms found

-- an object was read up to here, and has these numbers
pub record SoFar (text : List ℕ) (numbers : Numbers) (here : List ℕ) : Type 0 where
  pub found : Members
  pub place : Place
  pub may : may_begin place ≡ true
  pub going : (ms : json.Members) (rest : List ℕ) → members_depth ms ≤ 0 → Ends place here ms rest
      → Whole text found ms rest
  pub holds : Holds numbers (object found)

-- no member was read yet
pub so_far_none : (text a : List ℕ) (numbers : Numbers) → lex between text ≡ token begin_object ∷ lex between a
    → ((name : FieldName) → number_of numbers name ≡ None) → SoFar text numbers a
so_far_none text a numbers opened none = record {
  found = no_members;
  place = fresh;
  may = refl;
  going = λ ms rest shallow ends. record {
    all = ms;
    tokens = object_tokens text a rest ms opened ends;
    shallow = shallow;
    converts = refl;
  };
  holds = record {
    object = refl;
    members = λ name n is. let never : None ≡ Some n = sym (none name) ∙ is in absurd (cc);
  };
}

-- a member was read, and another one follows
pub so_far_more : (text a b c d : List ℕ) (old new : Numbers) (name : FieldName) (n : ℕ) → SoFar text old a
    → lex between a ≡ token (string (key_of name)) ∷ colon ∷ lex between b
    → Gives 0 b (λ value. whole_number value ≡ Some n) c → lex between c ≡ comma ∷ lex between d
    → number_of new name ≡ Some n
    → ((other : FieldName) → (other ≡ name → ⊥) → number_of new other ≡ number_of old other)
    → SoFar text new d
so_far_more text a b c d old new name n before is_named given next same others = record {
  found = put (key_of name) given.value before.found;
  place = after_comma;
  may = refl;
  going = λ ms rest shallow ends.
      let flat = given.shallow in
      let whole = before.going (json.member (key_of name) given.json ms) rest (omega (arith, flat, shallow))
      (one_more before.place 0 _ (key_of name) a b c d rest ms before.may is_named given next ends) in
      record {
        all = whole.all;
        tokens = whole.tokens;
        shallow = whole.shallow;
        converts = whole.converts ∙ ap (option_and_then (λ d. of_members ms (put (key_of name) d before.found)))
            given.converts;
      };
  holds = holds_put old new before.found name n given.value before.holds given.holds same others;
}

-- the last member was read
pub so_far_last : (text a b c d : List ℕ) (old new : Numbers) (name : FieldName) (n : ℕ) → SoFar text old a
    → lex between a ≡ token (string (key_of name)) ∷ colon ∷ lex between b
    → Gives 0 b (λ value. whole_number value ≡ Some n) c → lex between c ≡ token end_object ∷ lex between d
    → number_of new name ≡ Some n
    → ((other : FieldName) → (other ≡ name → ⊥) → number_of new other ≡ number_of old other)
    → Gives 1 text (Holds new) d
so_far_last text a b c d old new name n before is_named given next same others =
    let flat = given.shallow in
    let whole = before.going (json.member (key_of name) given.json json.no_members) d (omega (arith, flat))
    (last_one before.place 0 _ (key_of name) a b c d before.may is_named given next) in
    let shallow = whole.shallow in
    record {
      json = json.object whole.all;
      value = object (put (key_of name) given.value before.found);
      shallow = omega (arith, shallow);
      converts =
          ap (option_map object)
          (whole.converts
          ∙ ap (option_and_then (λ d. of_members json.no_members (put (key_of name) d before.found))) given.converts);
      tokens = λ no_colon. whole.tokens;
      holds = holds_put old new before.found name n given.value before.holds given.holds same others;
    }

-- ---- fields

-- a field whose member has this number
from_member : (bits : ℕ) (at : Field) (o : Option Data) (n : ℕ) → option_and_then whole_number o ≡ Some n → n < 2 ^ bits
    → (present at o >>= (λ found. typed at (whole_number found) >>= (λ m. up_to (2 ^ bits - 1) at m))) ≡ Ok n
from_member bits at None n is fits = absurd (cc)
from_member bits at (Some value) n is fits = rw is (up_to_width bits at n fits)

-- a field of a part whose numbers were read
pub field_held : (bits : ℕ) (at : Field) (value : Data) (numbers : Numbers) (n : ℕ) → Holds numbers value
    → number_of numbers at.name ≡ Some n → n < 2 ^ bits → number_at bits at value ≡ Ok n
field_held bits at value numbers n holds is fits =
    from_member bits at (get (key_of at.name) value) n (holds.members at.name n is) fits

-- a field whose member is there
field_is : (bits : ℕ) (at : Field) (value member : Data) (n : ℕ) → get (key_of at.name) value ≡ Some member
    → whole_number member ≡ Some n → n < 2 ^ bits → number_at bits at value ≡ Ok n
field_is bits at value member n found is fits =
    from_member bits at (get (key_of at.name) value) n (ap (option_and_then whole_number) found ∙ is) fits

-- an event, by its members
pub event_is : (event : Event) (value timestamp kind ledger transfer debit credit : Data) → is_object value ≡ true
    → get (codes "timestamp") value ≡ Some timestamp → get (codes "type") value ≡ Some kind
    → get (codes "ledger") value ≡ Some ledger → get (codes "transfer") value ≡ Some transfer
    → get (codes "debit_account") value ≡ Some debit → get (codes "credit_account") value ≡ Some credit
    → whole_number timestamp ≡ Some event.timestamp → event.timestamp < 2 ^ 64
    → as_str kind ≡ Some (kind_text event.kind) → whole_number ledger ≡ Some event.ledger → event.ledger < 2 ^ 32
    → IsTransfer event.transfer transfer → IsAccount event.debit_account debit → IsAccount event.credit_account credit
    → event_of value ≡ Ok event
event_is event value timestamp kind ledger transfer debit credit is_whole at_timestamp at_kind at_ledger at_transfer
    at_debit at_credit is_timestamp timestamp_fits is_kind is_ledger ledger_fits is_transfer is_debit is_credit =
    rw (
      is_whole,
      field_is 64 (field Top Timestamp) value timestamp event.timestamp at_timestamp is_timestamp timestamp_fits,
      at_kind,
      is_kind,
      kind_named-kind_text event.kind,
      field_is 32 (field Top Ledger) value ledger event.ledger at_ledger is_ledger ledger_fits,
      at_transfer,
      is_transfer.object,
      is_transfer.fields,
      at_debit,
      is_debit.object,
      is_debit.fields Debit,
      at_credit,
      is_credit.object,
      is_credit.fields Credit,
    )

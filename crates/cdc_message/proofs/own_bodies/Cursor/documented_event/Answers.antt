use Rattle.std.proofs.Common.{◌≤◌, Some, ap, ◌∙◌, refl, arith, codes}
use Rattle.json.specs.Json as json
use Rattle.json.specs.Lex.{fresh, after_comma}
use Rattle.json.specs.Tree.{depth}
use Rattle.serde_json.specs.Data.{object, put, no_members}
use Rattle.cdc_types.specs.declared.events.Event.{Event}
use Rattle.cdc_message.proofs.Unordered.{one_more, last_one, object_tokens, comma_lexes, begin_lexes, end_lexes}
use Rattle.cdc_message.proofs.UnorderedParts.{event_is}
use Rattle.cdc_message.proofs.own_bodies.Cursor.documented_event.Goals as goal

-- member by member, from the last one to the first
pub returns : goal.returns
returns c =
    let event : Event = record {
      timestamp = c.in_ok-timestamp.timestamp;
      kind = c.in_ok-kind.kind;
      ledger = c.in_ok-ledger.ledger;
      transfer = c.in_ok-transfer.transfer;
      debit_account = c.in_ok-debit_account.debit_account;
      credit_account = c.in_ok-credit_account.credit_account;
    } in
    let g1 = c.in_ok-any_number.ensures in
    let g2 = c.in_ok-kind.ensures in
    let g3 = c.in_ok-any_number-2.ensures in
    let g4 = c.in_ok-transfer.ensures in
    let g5 = c.in_ok-debit_account.ensures in
    let g6 = c.in_ok-credit_account.ensures in
    let a1 = c.sign.new.self.rest.now in
    let b1 = c.name.new.self.rest.now in
    let c1 = c.any_number.new.self.rest.now in
    let a2 = c.sign-2.new.self.rest.now in
    let b2 = c.name-2.new.self.rest.now in
    let c2 = c.any_kind.new.self.rest.now in
    let a3 = c.sign-3.new.self.rest.now in
    let b3 = c.name-3.new.self.rest.now in
    let c3 = c.any_number-2.new.self.rest.now in
    let a4 = c.sign-4.new.self.rest.now in
    let b4 = c.name-4.new.self.rest.now in
    let c4 = c.any_transfer.new.self.rest.now in
    let a5 = c.sign-5.new.self.rest.now in
    let b5 = c.name-5.new.self.rest.now in
    let c5 = c.any_account.new.self.rest.now in
    let a6 = c.sign-6.new.self.rest.now in
    let b6 = c.name-6.new.self.rest.now in
    let c6 = c.any_account-2.new.self.rest.now in
    let rest = c.sign-7.new.self.rest.now in
    let j6 = json.member (codes "credit_account") g6.json json.no_members in
    let j5 = json.member (codes "debit_account") g5.json j6 in
    let j4 = json.member (codes "transfer") g4.json j5 in
    let j3 = json.member (codes "ledger") g3.json j4 in
    let j2 = json.member (codes "type") g2.json j3 in
    let j1 = json.member (codes "timestamp") g1.json j2 in
    let m6 = last_one after_comma 1 _ (codes "credit_account") a6 b6 c6 rest refl c.in_ok-name-6.ensures g6
    (end_lexes c6 rest c.in_ok-sign-7.ensures) in
    let m5 = one_more after_comma 1 _ (codes "debit_account") a5 b5 c5 a6 rest j6 refl c.in_ok-name-5.ensures g5
    (comma_lexes c5 a6 c.in_ok-sign-6.ensures) m6 in
    let m4 = one_more after_comma 1 _ (codes "transfer") a4 b4 c4 a5 rest j5 refl c.in_ok-name-4.ensures g4
    (comma_lexes c4 a5 c.in_ok-sign-5.ensures) m5 in
    let m3 = one_more after_comma 0 _ (codes "ledger") a3 b3 c3 a4 rest j4 refl c.in_ok-name-3.ensures g3
    (comma_lexes c3 a4 c.in_ok-sign-4.ensures) m4 in
    let m2 = one_more after_comma 0 _ (codes "type") a2 b2 c2 a3 rest j3 refl c.in_ok-name-2.ensures g2
    (comma_lexes c2 a3 c.in_ok-sign-3.ensures) m3 in
    let m1 = one_more fresh 0 _ (codes "timestamp") a1 b1 c1 a2 rest j2 refl c.in_ok-name.ensures g1
    (comma_lexes c1 a2 c.in_ok-sign-2.ensures) m2 in
    let s1 : depth g1.json ≤ 0 = g1.shallow in
    let s2 : depth g2.json ≤ 0 = g2.shallow in
    let s3 : depth g3.json ≤ 0 = g3.shallow in
    let s4 : depth g4.json ≤ 1 = g4.shallow in
    let s5 : depth g5.json ≤ 1 = g5.shallow in
    let s6 : depth g6.json ≤ 1 = g6.shallow in
    let found1 = put (codes "timestamp") g1.value no_members in
    let found2 = put (codes "type") g2.value found1 in
    let found3 = put (codes "ledger") g3.value found2 in
    let found4 = put (codes "transfer") g4.value found3 in
    let found5 = put (codes "debit_account") g5.value found4 in
    let found6 = put (codes "credit_account") g6.value found5 in
    record {
      json = json.object j1;
      value = object found6;
      shallow = omega (arith, s1, s2, s3, s4, s5, s6);
      converts = rw (g1.converts, g2.converts, g3.converts, g4.converts, g5.converts, g6.converts);
      tokens = λ no_colon. object_tokens c.args.self.now.rest.now a1 rest j1
          (begin_lexes c.args.self.now.rest.now a1 c.in_ok-sign.ensures) m1;
      holds = event_is event (object found6) g1.value g2.value g3.value g4.value g5.value g6.value refl refl refl refl
          refl refl refl (g1.holds ∙ ap Some c.in_ok-timestamp.ensures.same) c.in_ok-timestamp.ensures.fits g2.holds
          (g3.holds ∙ ap Some c.in_ok-ledger.ensures.same) c.in_ok-ledger.ensures.fits g4.holds g5.holds g6.holds;
    }

use Rattle.cdc_ledger.proofs.Words.{◌++◌, ◌∙◌, known_transfer_lines, stored, sym, transfer_shape_lines}
use Rattle.cdc_ledger.proofs.AcceptedLaws.{own_lines}
use Rattle.cdc_ledger.proofs.LineLaws.{first_line-append_none, first_line-append_some}
use Rattle.cdc_ledger.proofs.tables.Tables.validate.Goals as goal

-- a line on the request's own fields applies
pub returns-in-Some : goal.returns-in-Some
returns-in-Some c =
    let h = c.args.self.now.history in
    let r = c.args.request.now in
    let known = known_transfer_lines (stored h r.id) h r in
    first_line-append_some (transfer_shape_lines r ++ known) (own_lines h r c.args.timestamp) c.in-Some.refusal
    (first_line-append_some (transfer_shape_lines r) known c.in-Some.refusal
    (sym c.check_shape.ensures ∙ c.in-Some.is))

-- or one on the transfer that has its id
pub returns-in-Some-known_refusal : goal.returns-in-Some-known_refusal
returns-in-Some-known_refusal c =
    let h = c.args.self.now.history in
    let r = c.args.request.now in
    let known = known_transfer_lines (stored h r.id) h r in
    first_line-append_some (transfer_shape_lines r ++ known) (own_lines h r c.args.timestamp)
    c.in-Some-known_refusal.refusal
    (first_line-append_none (transfer_shape_lines r) known (sym c.check_shape.ensures ∙ c.in_default.is)
    ∙ (sym c.known_refusal.ensures ∙ c.in-Some-known_refusal.is))

pub validate_plain-requires : goal.validate_plain-requires
validate_plain-requires c = record {
  later = c.requires.later;
  within = c.requires.within;
  shape = sym c.check_shape.ensures ∙ c.in_default.is;
  unknown = sym c.known_refusal.ensures ∙ c.in_default-known_refusal.is;
  plain = sym c.is_plain.ensures ∙ c.if-is_plain.true;
}

pub validate_settling-requires : goal.validate_settling-requires
validate_settling-requires c = record {
  later = c.requires.later;
  within = c.requires.within;
  shape = sym c.check_shape.ensures ∙ c.in_default.is;
  unknown = sym c.known_refusal.ensures ∙ c.in_default-known_refusal.is;
  settles = sym c.is_plain.ensures ∙ c.if-is_plain.false;
}

pub returns-then-is_plain : goal.returns-then-is_plain
returns-then-is_plain c = c.validate_plain.ensures

pub returns-else-is_plain : goal.returns-else-is_plain
returns-else-is_plain c = c.validate_settling.ensures

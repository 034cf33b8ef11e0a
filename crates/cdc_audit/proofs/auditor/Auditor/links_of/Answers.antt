use Rattle.cdc_audit.proofs.Words.{and_parts, arith, can_link, fields_under, is_link_at, is_none, ltb-true, nat_le, nat_lt, sym, ◌&&◌, ◌∙◌}
use Rattle.std.proofs.lemmas.Bool.{leb-true}
use Rattle.cdc_types.specs.Flags.{has_flag}
use Rattle.cdc_types.specs.declared.accounts.TheConstants.AccountFlags.{LINKED}
use Rattle.cdc_types.specs.declared.bounds.TheConstants.Limits.{TIMESTAMP}
use Rattle.cdc_audit.proofs.StandLemmas.{links_made, links_none}
use Rattle.cdc_audit.proofs.auditor.Auditor.links_of.Goals as goal

pub run_up-requires : goal.run_up-requires
run_up-requires c =
    let a = c.args.account.now in
    let t = c.args.event.now.timestamp in
    let counts = sym c.is_new_link.ensures ∙ c.if-is_new_link.true in
    let can = (and_parts (can_link a t) (is_none (fields_under c.args.self.now.fields a.id)) counts).0 in
    let times = (and_parts (has_flag a.flags LINKED) (nat_lt a.timestamp t && nat_le t TIMESTAMP) can).1 in
    let both = and_parts (nat_lt a.timestamp t) (nat_le t TIMESTAMP) times in
    let earlier = ltb-true a.timestamp t both.0 in
    let within = leb-true t TIMESTAMP both.1 in
    omega (arith, earlier, within)

pub returns-then-is_new_link : goal.returns-then-is_new_link
returns-then-is_new_link c = λ ordered.
    links_made _ c.args.self.now.times (is_link_at c.args.self.now.fields c.args.event.now) c.args.account.now.timestamp
    c.has_event.result c.run_down.result c.run_up.result (sym c.is_new_link.ensures ∙ c.if-is_new_link.true)
    (c.has_event.ensures ordered) c.run_down.ensures.run c.run_up.ensures.run

pub returns-else-is_new_link : goal.returns-else-is_new_link
returns-else-is_new_link c = λ ordered.
    links_none _ c.args.self.now.times (is_link_at c.args.self.now.fields c.args.event.now) c.args.account.now.timestamp
    (sym c.is_new_link.ensures ∙ c.if-is_new_link.false)

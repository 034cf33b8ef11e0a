use Rattle.std.proofs.Common.{◌∷◌, ap, ◌∙◌}
use Rattle.json.specs.Lex.{lex, between}
use Rattle.cdc_message.specs.Unordered.{end_or_comma}
use Rattle.cdc_message.proofs.UnorderedParts.{so_far_none, so_far_more, so_far_last}
use Rattle.cdc_message.proofs.own_bodies.Cursor.numbers.Goals as goal

pub members-init : goal.members-init
unfolding lex
members-init c =
    so_far_none c.args.self.now.rest.now c.sign.new.self.rest.now c.none-numbers.result c.in_ok-sign.ensures
    c.none-numbers.ensures

-- a comma follows
pub members-preserved : goal.members-preserved
members-preserved c =
    so_far_more _ _ _ _ _ _ _ c.in_ok-name.name c.in_ok-number.number c.members.invariant c.in_ok-name.ensures
    c.in_ok-number.ensures
    (c.in_ok-more.ensures ∙ ap (λ more. end_or_comma more ∷ lex between c.more.new.self.rest.now) c.if-not-more.false)
    c.set.ensures.same c.set.ensures.others

-- the object ends
pub returns-then-not-more : goal.returns-then-not-more
returns-then-not-more c =
    so_far_last _ _ _ _ _ _ _ c.in_ok-name.name c.in_ok-number.number c.members.invariant c.in_ok-name.ensures
    c.in_ok-number.ensures
    (c.in_ok-more.ensures ∙ ap (λ more. end_or_comma more ∷ lex between c.more.new.self.rest.now) c.if-not-more.true)
    c.set.ensures.same c.set.ensures.others

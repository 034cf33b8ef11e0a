use Rattle.cdc_run.proofs.Words.{AllZip, IsAccounted, IsOnlySender, [], append-nil, nil_from_length, on_ok_weaker, rules, sym, ◌++◌, ◌∙◌, ◌∷◌}
use Rattle.cdc_run.proofs.Zips.{none_before, same_zip, zip_push, zip_unpush}
use Rattle.cdc_run.proofs.settled_links.+settle_each.Goals as goal

-- there are as many of the one as of the other
pub returns-in_default-pop : goal.returns-in_default-pop
returns-in_default-pop g t c =
    let ins = c.pop.new.self.items in
    let outs = c.pop-2.new.self.items in
    let none = c.in_default-pop.ensures.items ∙ append-nil outs in
    absurd (none_before IsOnlySender ins c.in-Some.into
    (same_zip IsOnlySender c.args.ins.items (ins ++ c.in-Some.into ∷ []) c.args.outs.items []
    c.in-Some.ensures.items
    (none ∙ nil_from_length outs (sym c.pop-2.new.self.ok.0 ∙ c.in_default-pop.ensures.cases.1)) c.requires))

pub settle_one-requires : goal.settle_one-requires
settle_one-requires g t c =
    (zip_unpush IsOnlySender c.pop.new.self.items c.pop-2.new.self.items c.in-Some.into c.in-Some-pop.out
    (same_zip IsOnlySender c.args.ins.items (c.pop.new.self.items ++ c.in-Some.into ∷ []) c.args.outs.items
    (c.pop-2.new.self.items ++ c.in-Some-pop.out ∷ []) c.in-Some.ensures.items c.in-Some-pop.ensures.items
    c.requires)).1

pub settle_each-requires : goal.settle_each-requires
settle_each-requires g t c =
    let rest : AllZip IsOnlySender c.pop.new.self.items c.pop-2.new.self.items =
    (zip_unpush IsOnlySender c.pop.new.self.items c.pop-2.new.self.items c.in-Some.into c.in-Some-pop.out
    (same_zip IsOnlySender c.args.ins.items (c.pop.new.self.items ++ c.in-Some.into ∷ []) c.args.outs.items
    (c.pop-2.new.self.items ++ c.in-Some-pop.out ∷ []) c.in-Some.ensures.items c.in-Some-pop.ensures.items
    c.requires)).0 in
    search rules

pub returns : goal.returns
returns g t c =
    on_ok_weaker c.settle_each.result
    (λ rest.
    same_zip IsAccounted (c.pop.new.self.items ++ c.in-Some.into ∷ []) c.args.ins.items
    (c.pop-2.new.self.items ++ c.in-Some-pop.out ∷ []) c.args.outs.items (sym c.in-Some.ensures.items)
    (sym c.in-Some-pop.ensures.items)
    (zip_push IsAccounted c.pop.new.self.items c.pop-2.new.self.items c.in-Some.into c.in-Some-pop.out rest
    c.in_ok-settle_one.ensures))
    c.settle_each.ensures

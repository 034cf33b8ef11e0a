use Rattle.cdc_run.proofs.Fresh.{first_of_all, rest_of_all}
use Rattle.cdc_run.proofs.wires.shared.Goals as goal

pub returns-clause-first : goal.returns-clause-first
returns-clause-first g c =
    first_of_all c.in-Ok.into.link c.in-Ok.outs.items c.args.others c.remove-first.result c.in-Ok.ensures.outs
    c.remove-first.ensures.value

pub returns-clause-others : goal.returns-clause-others
returns-clause-others g c =
    rest_of_all c.in-Ok.into.link c.in-Ok.outs.items c.remove-first.new.self.items c.args.others c.in-Ok.ensures.outs
    c.remove-first.ensures.by_index.2

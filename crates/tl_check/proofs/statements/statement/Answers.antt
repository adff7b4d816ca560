use Rattle.tl_check.proofs.Combined.{stat_runs, stat_declares, stat_stores}
use Rattle.tl_check.proofs.statements.statement.Goals as goal

pub returns-in-Call : goal.returns-in-Call
returns-in-Call c = stat_runs c.args.uses.now c.args.env.now.items c.as_slice.result.now c.args.stat c.in-Call.pos c.in-Call.expr c.call.result c.as_slice.ensures.value c.in-Call.is c.call.ensures

pub returns-in-Local : goal.returns-in-Local
returns-in-Local c =
    stat_declares c.args.uses.now c.args.env.now.items c.local.new.env.items c.args.stat c.in-Local.pos c.in-Local.names c.in-Local.values c.local.result c.in-Local.is c.local.ensures

pub returns-in-Assign : goal.returns-in-Assign
returns-in-Assign c =
    stat_stores c.args.uses.now c.args.env.now.items c.assign.new.env.items c.args.stat c.in-Assign.pos c.in-Assign.targets c.in-Assign.values c.assign.result c.in-Assign.is c.assign.ensures

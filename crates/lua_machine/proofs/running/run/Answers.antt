use Rattle.std.proofs.Common.{◌≡◌, ◌∙◌}
use Rattle.lua_machine.specs.Runs.{at_work}
use Rattle.lua_machine.proofs.Traces.{run_to, run_on}
use Rattle.lua_machine.proofs.running.run.Goals as goal

pub loop-preserved : goal.loop-preserved
loop-preserved c = record {
  runs = run_on c.args.functions.now (at_work c.args.state.now) (at_work c.loop.state) c.args.tracing.now.limit c.loop.tracing.limit c.args.tracing.now.steps.items c.loop.tracing.steps.items
      c.do_next.new.tracing.steps.items c.loop.invariant.runs c.loop.invariant.limit c.in_ok-pace.pace c.do_next.new.state _ c.in_ok-pace.ensures.comes c.in_ok-pace.ensures.traced c.in-On.is;
  limit = c.in_ok-pace.ensures.limit ∙ c.loop.invariant.limit;
}

pub returns-in_default : goal.returns-in_default
returns-in_default c =
    run_to c.args.functions.now (at_work c.args.state.now) (at_work c.loop.state) c.args.tracing.now.limit c.loop.tracing.limit c.args.tracing.now.steps.items c.loop.tracing.steps.items
    c.do_next.new.tracing.steps.items c.loop.invariant.runs c.loop.invariant.limit c.in_ok-pace.pace c.do_next.new.state _ c.in_ok-pace.ensures.comes c.in_ok-pace.ensures.traced

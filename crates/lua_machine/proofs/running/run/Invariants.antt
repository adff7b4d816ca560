use Rattle.std.proofs.Common.{◌≡◌}
use Rattle.lua_machine.specs.Runs.{RunsOn, at_work}
use Rattle.lua_machine.proofs.running.run.Given as goal

abbrev pub invariant-loop : goal.invariant-loop
invariant-loop l = record {
  runs : RunsOn l.functions (at_work l.initial.state) (at_work l.state) l.initial.tracing.limit l.initial.tracing.steps.items l.tracing.steps.items;
  limit : l.tracing.limit ≡ l.initial.tracing.limit;
}

use Rattle.std.proofs.Common.{◌≡◌, map, drop}
use Rattle.lua_scope.specs.Seen.{event_of}
use Rattle.lua_scope.specs.Steps.{state_of}
use Rattle.lua_tree.specs.Scopes.Binding.{run}
use Rattle.lua_scope.proofs.binding.Binder.run.Given as goal

abbrev pub invariant-loop-event : goal.invariant-loop-event
invariant-loop-event l = run (map event_of (drop l.event-index l.event-items)) (state_of l.self) ≡ run (map event_of l.event-items) (state_of l.initial.self)

use Rattle.std.proofs.Common.{◌≡◌, ◌-◌, reverse}
use Rattle.lua_machine.specs.Lists.{taken}
use Rattle.lua_machine.proofs.lists.pop_many.Given as goal

abbrev pub invariant-loop : goal.invariant-loop
invariant-loop l = record {
  taken : taken (l.count - l.counter) (reverse l.popped.items) l.frames.frame.stack ≡ taken l.count (reverse l.initial.popped.items) l.initial.frames.frame.stack;
  rest : l.frames ≡ record l.initial.frames { frame = record l.initial.frames.frame { stack = l.frames.frame.stack } };
}

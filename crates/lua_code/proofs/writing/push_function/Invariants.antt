use Rattle.std.proofs.Common.{◌≡◌, ◌++◌, drop}
use Rattle.lua_code.specs.Listings.{lines_from}
use Rattle.lua_code.proofs.writing.push_function.Given as goal

abbrev pub invariant-loop-instr : goal.invariant-loop-instr
invariant-loop-instr l = l.to ++ lines_from l.function l.at (drop l.instr-index l.instr-items) ≡ l.initial.to ++ lines_from l.function 0 l.instr-items

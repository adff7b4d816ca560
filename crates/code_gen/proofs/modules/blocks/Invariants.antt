use Rattle.std.proofs.Common.{◌≡◌, ◌+◌, ◌++◌, length, drop, map}
use Rattle.lua_meaning.specs.Programs.{module_of}
use Rattle.lua_code.specs.Generated.{main_protos, inner_protos}
use Rattle.code_gen.proofs.modules.blocks.Given as goal

abbrev pub invariant-loop-scoped : goal.invariant-loop-scoped
invariant-loop-scoped l =
    (l.blocks ++ main_protos (map module_of (drop l.scoped-index l.modules)) l.number (l.first + length l.inner) ≡ main_protos (map module_of l.modules) 0 (l.first + length l.fn.inner))
    × (l.inner ++ inner_protos (map module_of (drop l.scoped-index l.modules)) (l.first + length l.inner) ≡ l.fn.inner ++ inner_protos (map module_of l.modules) (l.first + length l.fn.inner))

-- The function of a module's block.
use Rattle.std.specs.Prelude.{ℕ, false, []}
use Rattle.lua_meaning.specs.Programs.{Module}
use Rattle.lua_code.specs.declared.code.Proto.{Proto}
use Rattle.lua_code.specs.Sizes.{block_slots}
use Rattle.lua_code.specs.Generated.{proto_of, body_code, module_place, module_scope}

-- where the functions inside are numbered from base on
abbrev pub module_proto : ℕ → Module → ℕ → Proto
module_proto m x base = proto_of 0 false [] (block_slots x.body) (body_code 0 x.body (module_place m) (module_scope x.names) base)

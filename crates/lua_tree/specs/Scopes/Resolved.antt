-- The module whose names are bound, or its first refusal by place.
use Rattle.std.specs.Prelude.{◌≡◌, true, false, [], map, None, Result, Ok, Err}
use Rattle.tl_base.specs.declared.refusal.Refusal.{Refusal}
use Rattle.lua_tree.specs.declared.syntax.Chunk.{Chunk}
use Rattle.lua_tree.specs.declared.scoped.Require.{Require}
use Rattle.lua_tree.specs.declared.scoped.Scoped.{Scoped}
use Rattle.lua_tree.specs.Scopes.Places.{Place, State}
use Rattle.lua_tree.specs.Scopes.Binding.{Outcome, run}
use Rattle.lua_tree.specs.Scopes.Trees.{block_of}

-- the module's outermost block is function 0, which has `...`
abbrev pub first_place : Place
first_place = record { visible = []; alive = 0; function = 0; in_loop = false; has_rest = true }

abbrev pub first_state : State
first_state = record {
  place = first_place;
  around = [];
  declared = [];
  found = record { functions = 1; captures = []; uses = []; locals = []; required = [] };
}

abbrev pub bound : Chunk → Outcome → Result Scoped Refusal
bound chunk (Ok s) = Ok (record { chunk = chunk; uses = s.found.uses; locals = s.found.locals; required = s.found.required })
bound chunk (Err r) = Err r

-- what the names of a module mean
abbrev pub resolution : Chunk → Result Scoped Refusal
resolution chunk = bound chunk (run (block_of chunk.body) first_state)

-- a call of `require` before it is bound
abbrev pub unbound : Require → Require
unbound r = record r { «module» = None }

-- the bindings of `require` aside, this is what the module's names mean
abbrev pub IsResolved : Scoped → Type 0
IsResolved s = resolution s.chunk ≡ Ok (record s { required = map unbound s.required })

-- The lists that are found of a module's names.
use Rattle.std.specs.Prelude.{Result, Ok, Err}
use Rattle.tl_base.specs.declared.refusal.Refusal.{Refusal}
use Rattle.lua_scope.specs.declared.binding.Parts.{Parts}
use Rattle.lua_tree.specs.Scopes.Places.{State}
use Rattle.lua_tree.specs.Scopes.Binding.{Outcome}

abbrev pub parts_in : State → Parts
parts_in s = record { uses = s.found.uses; locals = s.found.locals; required = s.found.required }

abbrev pub parts_of : Outcome → Result Parts Refusal
parts_of (Ok s) = Ok (parts_in s)
parts_of (Err r) = Err r

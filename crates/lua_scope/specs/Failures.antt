-- The failure that an outcome is.
use Rattle.std.specs.Prelude.{◌≡◌, Ok, Err}
use Rattle.tl_base.specs.declared.refusal.Failure.{Failure}
use Rattle.tl_base.specs.declared.refusal.Failure.TheVariants as failure
use Rattle.lua_tree.specs.Scopes.Binding.{Outcome}

abbrev pub IsFailure : Outcome → Failure → Type 0
IsFailure (Ok s) f = ⊥
IsFailure (Err r) f = f ≡ failure.Refused r

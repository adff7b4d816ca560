-- What the code keeps, as the definition's state, and what its answers say of the definition's outcome.
use Rattle.std.specs.Prelude.{◌≡◌, map, reverse, Result, Ok, Err}
use Rattle.tl_base.specs.declared.refusal.Failure.{Failure}
use Rattle.tl_base.specs.declared.refusal.Failure.TheVariants as failure
use Rattle.lua_scope.specs.declared.binding.Binder.{Binder}
use Rattle.lua_scope.specs.Shown.{binding_of}
use Rattle.lua_tree.specs.Scopes.Places.{State}
use Rattle.lua_tree.specs.Scopes.Binding.{Outcome}

abbrev pub state_of : Binder → State
state_of b = record {
  place = b.scopes.place;
  around = b.scopes.around;
  declared = map binding_of (reverse b.declared.items);
  found = record { functions = b.functions; captures = b.captures; uses = b.uses; locals = b.locals.items; required = b.required };
}

-- the answer of a call that ends in this state is the outcome, or memory ran out
abbrev pub Answers : {A : Type 0} → Outcome → Result A Failure → State → Type 0
Answers o (Ok _) s = o ≡ Ok s
Answers o (Err (failure.Refused r)) s = o ≡ Err r
Answers o (Err failure.NoMemory) s = Unit {0}

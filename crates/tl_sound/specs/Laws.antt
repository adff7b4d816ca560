-- The words of the soundness laws.
use Rattle.std.specs.Prelude.{◌≡◌, List, [], ◌∷◌, Some, Contains, IsSome}
use Rattle.tl_base.specs.declared.crossing.Crossing.{Crossing}
use Rattle.tl_types.specs.Below.{Test}
use Rattle.tl_rules.specs.Checked.{fine}
use Rattle.tl_rules.specs.Crossings.{block_marks}
use Rattle.tl_rules.specs.Orders.{AreOrders}
use Rattle.tl_rules.specs.Statements.{check_module}
use Rattle.lua_meaning.specs.World.{KindError}
use Rattle.lua_meaning.specs.Programs.{Module}

-- the rules, with tests that decide the two orders, take m, and m' is its marked form. A straight-line module has no interfaces.
pub record IsMarked (below consistent : Test) (m m' : Module) : Type 0 where
  pub orders : AreOrders [] below consistent
  pub kind : m'.kind ≡ m.kind
  pub names : m'.names ≡ m.names
  pub body : check_module m.names.uses below consistent m.kind m.body ≡ fine m'.body

-- a mark was passed before the error
abbrev pub HasMark : KindError → Type 0
HasMark e = IsSome e.after

-- the first mark passed before the error is on the list
abbrev pub IsAfterOneOf : List Crossing → KindError → Type 0
IsAfterOneOf list e = (c : Crossing) × (e.after ≡ Some c) × Contains list c

-- the marks of the main module, which is the first
abbrev pub main_marks : List Module → List Crossing
main_marks [] = []
main_marks (m ∷ ms) = block_marks m.body

-- Where a piece of text stands in the scopes of a module, and what was found of the module's names before it.
use Rattle.std.specs.Prelude.{ℕ, Bool, List}
use Rattle.lua_tree.specs.declared.scoped.Use.{Use}
use Rattle.lua_tree.specs.declared.scoped.LocalInfo.{LocalInfo}
use Rattle.lua_tree.specs.declared.scoped.Require.{Require}

-- a local by its number, and the number of the function that declares it
pub record Local : Type 0 where
  pub number : ℕ
  pub function : ℕ

-- a local under its name
pub record Binding : Type 0 where
  pub name : List ℕ
  pub local : Local

pub record Place : Type 0 where
  -- the locals in scope, the latest first
  pub visible : List Binding
  -- how many locals of the innermost function are alive
  pub alive : ℕ
  -- the number of the innermost function
  pub function : ℕ
  pub in_loop : Bool
  -- whether the innermost function has `...`
  pub has_rest : Bool

-- a function and a local of an outer function that it captures, by their numbers
abbrev pub Capture : Type 0
Capture = ℕ × ℕ

-- what was found so far
pub record Found : Type 0 where
  -- how many functions have begun, the module's block among them
  pub functions : ℕ
  -- each capture once
  pub captures : List Capture
  pub uses : List Use
  pub locals : List LocalInfo
  pub required : List Require

pub record State : Type 0 where
  pub place : Place
  -- the places where the blocks around began, the innermost first
  pub around : List Place
  -- the locals that are declared and not visible yet, the latest first
  pub declared : List Binding
  pub found : Found

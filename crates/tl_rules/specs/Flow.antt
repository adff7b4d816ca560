-- How a value flows to a place that has a type.
use Rattle.std.specs.Prelude.{Bool, true, false}
use Rattle.tl_base.specs.declared.crossing.CrossKind.TheVariants as cross
use Rattle.tl_base.specs.declared.refusal.RefusalCode.TheVariants as code
use Rattle.lua_tree.specs.Tree as tree
use Rattle.lua_tree.specs.Tree.{Exp}
use Rattle.lua_tree.specs.Places.{place_of}
use Rattle.tl_types.specs.declared.types.Ty.{Ty}
use Rattle.tl_types.specs.Below.{Test}
use Rattle.tl_rules.specs.Checked.{Checked, fine, fault}

-- a value at the place to which it flowed: the type that is known of it there, and its marked tree
pub record Flowed : Type 0 where
  pub ty : Ty
  pub tree : Exp

-- by whether the value's type is below the place's, and whether it is so in the consistent order
abbrev pub flow_by : (plain loose : Bool) → Ty → Ty → Exp → Checked Flowed
flow_by true loose s t e = fine (record { ty = s; tree = e })
flow_by false true s t e = fine (record { ty = t; tree = tree.marked cross.Place e })
flow_by false false s t e = fault code.F1 (place_of e)

module _ (below consistent : Test) where
  -- the value of the tree e, of type s, flows to a place of type t
  abbrev pub flow : Ty → Ty → Exp → Checked Flowed
  flow s t e = flow_by (below s t) (consistent s t) s t e

-- Marks on a target or on the object of a field.
use Rattle.std.proofs.Common.{◌≡◌, refl}
use Rattle.tl_base.specs.declared.crossing.CrossKind.{CrossKind}
use Rattle.lua_tree.specs.Tree as tree
use Rattle.lua_tree.specs.Tree.{Exp, marked}
use Rattle.lua_code.specs.Generated.{Scope, field_instr, store_instr}

pub marked_field : (k : CrossKind) (e : Exp) (sc : Scope) → field_instr (marked k e) sc ≡ field_instr e sc
marked_field k (tree.one_of m) sc = refl
marked_field k e sc = refl

pub marked_store : (k : CrossKind) (e : Exp) (sc : Scope) → store_instr (marked k e) sc ≡ store_instr e sc
marked_store k (tree.one_of m) sc = refl
marked_store k e sc = refl

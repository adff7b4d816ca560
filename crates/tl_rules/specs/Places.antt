-- The place of a statement, and that of a type as it is written: that of the first token.
use Rattle.tl_base.specs.declared.place.Pos.{Pos}
use Rattle.lua_tree.specs.declared.annotation.TypeExpr.{TypeExpr, Nil, Bool, Int, Str, Named, Paren', Array', Map', Record', Optional', Function', Union'}
use Rattle.lua_tree.specs.Tree as tree
use Rattle.lua_tree.specs.Tree.{Stat}

abbrev pub stat_place : Stat → Pos
stat_place (tree.empty p) = p
stat_place (tree.assign p ts es) = p
stat_place (tree.run p e) = p
stat_place (tree.leave p) = p
stat_place (tree.scope p b) = p
stat_place (tree.while p e b) = p
stat_place (tree.repeat p b e) = p
stat_place (tree.choose p cs b) = p
stat_place (tree.count p n a b c d) = p
stat_place (tree.each p ns es b) = p
stat_place (tree.define p e f) = p
stat_place (tree.define_method p e n f) = p
stat_place (tree.declare_function p n f) = p
stat_place (tree.declare p ns es) = p
stat_place (tree.interface p n fs) = p
stat_place (tree.alias p n t) = p

abbrev pub type_place : TypeExpr → Pos
type_place (Nil p) = p
type_place (Bool p b) = p
type_place (Int p n) = p
type_place (Str p s) = p
type_place (Named p m n) = p
type_place (Paren' p a t) = p
type_place (Array' p a t) = p
type_place (Map' p a k b t) = p
type_place (Record' p fs r) = p
type_place (Optional' p a t) = p
type_place (Function' p a x y z) = p
type_place (Union' p ts r) = p

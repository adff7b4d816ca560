-- The place of an expression (Lua 5.3 manual, section 3.4): that of its first token.
use Rattle.tl_base.specs.declared.place.Pos.{Pos}
use Rattle.lua_tree.specs.Tree as tree
use Rattle.lua_tree.specs.Tree.{Exp, Multi}

abbrev mutual
  pub place_of : Exp → Pos
  place_of (tree.nothing p) = p
  place_of (tree.truth p b) = p
  place_of (tree.integer p n) = p
  place_of (tree.text p s) = p
  place_of (tree.function p f) = p
  place_of (tree.name p n s) = p
  place_of (tree.paren p e) = p
  place_of (tree.field p e n) = p
  place_of (tree.index p e k) = p
  place_of (tree.table p es) = p
  place_of (tree.unary p o e) = p
  place_of (tree.binary p o a b) = p
  place_of (tree.mark k e) = place_of e
  place_of (tree.one_of m) = multi_place m

  pub multi_place : Multi → Pos
  multi_place (tree.vararg p) = p
  multi_place (tree.call p f es) = p
  multi_place (tree.method p e n es) = p
  multi_place (tree.mark_all k m) = multi_place m

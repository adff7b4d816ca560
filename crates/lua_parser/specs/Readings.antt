-- Small words of the reader.
use Rattle.std.specs.Prelude.{List, [], ◌∷◌}
use Rattle.tl_base.specs.declared.place.Pos.{Pos}
use Rattle.lua_tree.specs.declared.syntax.Expr.{Expr}
use Rattle.lua_parser.specs.Grammar.Syntax.{place}

-- the place of the first of some expressions
abbrev pub first_place : List Expr → Pos
first_place [] = record { «module» = 0; line = 0; column = 0 }
first_place (a ∷ es) = place a

-- The height of a type: 1 where no type stands in it, else one more than the highest that stands directly in it. Parentheses and `?` count.
use Rattle.std.specs.Prelude.{ℕ, ◌+◌, max, List, [], ◌∷◌, Option, Some, None}
use Rattle.lua_tree.specs.declared.annotation.TypeExpr.TheOpen as open_type
use Rattle.lua_tree.specs.declared.annotation.TypeExpr.TheOpen.{TypeExpr-F, TypeField-F, TypeTuple-F, TypeResults-F}
use Rattle.lua_tree.specs.declared.annotation.TypeExpr.{TypeExpr, fold-TypeExpr}

-- the highest of these, 0 where there is none
abbrev pub highest : List ℕ → ℕ
highest [] = 0
highest (h ∷ hs) = max h (highest hs)

abbrev pub height_or : Option ℕ → ℕ
height_or None = 0
height_or (Some h) = h

-- by the heights of what stands in it
abbrev pub type_height_at : TypeExpr-F ℕ ℕ ℕ ℕ → ℕ
type_height_at (open_type.Nil p) = 1
type_height_at (open_type.Bool p b) = 1
type_height_at (open_type.Int p n) = 1
type_height_at (open_type.Str p x) = 1
type_height_at (open_type.Named p m n) = 1
type_height_at (open_type.Paren p h) = h + 1
type_height_at (open_type.Array p h) = h + 1
type_height_at (open_type.Map p k h) = max k h + 1
type_height_at (open_type.Record p hs) = highest hs + 1
type_height_at (open_type.Optional p h) = h + 1
type_height_at (open_type.Function p params results) = max params results + 1
type_height_at (open_type.Union p hs) = highest hs + 1

abbrev pub field_height_at : TypeField-F ℕ ℕ ℕ ℕ → ℕ
field_height_at f = f.ty

abbrev pub tuple_height_at : TypeTuple-F ℕ ℕ ℕ ℕ → ℕ
tuple_height_at x = max (highest x.items) (height_or x.tail)

abbrev pub results_height_at : TypeResults-F ℕ ℕ ℕ ℕ → ℕ
results_height_at r = highest r.tuples

abbrev pub type_height : TypeExpr → ℕ
type_height = fold-TypeExpr ℕ ℕ ℕ ℕ type_height_at field_height_at results_height_at tuple_height_at

-- What a tree has of uses of names, locals and function bodies, in order of place.
use Rattle.std.specs.Prelude.{◌≡◌, ℕ, ◌+◌, List, [], ◌∷◌, ◌++◌, map, Option}
use Rattle.std.specs.Option.{option_map_or}
use Rattle.std.specs.List.{flat_map}
use Rattle.lua_tree.specs.declared.syntax.Entry.{Entry, fold-Entry}
use Rattle.lua_tree.specs.declared.syntax.Entry.TheOpen as open_tree
use Rattle.lua_tree.specs.declared.syntax.Entry.TheOpen.{Entry-F, Stat-F, Block-F, Body-F, Clause-F, Return-F}
use Rattle.lua_tree.specs.declared.syntax.Expr.{Expr, Expr-F, fold-Expr}
use Rattle.lua_tree.specs.declared.syntax.Stat.{Stat, fold-Stat}
use Rattle.lua_tree.specs.declared.syntax.Block.{Block, fold-Block}
use Rattle.lua_tree.specs.declared.syntax.Body.{Body, fold-Body}
use Rattle.lua_tree.specs.declared.syntax.Clause.{Clause, fold-Clause}
use Rattle.lua_tree.specs.declared.syntax.Return.{Return, fold-Return}

pub data Part : Type 0 where
  -- a use of a name, with its number
  use_of : ℕ → Part
  -- a local that is declared
  local : Part
  -- a function's body, which begins here
  body : Part

abbrev pub Parts : Type 0
Parts = List Part

abbrev pub locals : {A : Type 0} → List A → Parts
locals xs = map (λ x. local) xs

abbrev pub all_of : List Parts → Parts
all_of ps = flat_map (λ p. p) ps

abbrev pub maybe_of : Option Parts → Parts
maybe_of p = option_map_or (λ x. x) p []

abbrev pub expr_at : Expr-F Parts Parts Parts Parts Parts Parts Parts → Parts
expr_at (open_tree.Nil p) = []
expr_at (open_tree.Bool p b) = []
expr_at (open_tree.Int p n) = []
expr_at (open_tree.Str p x) = []
expr_at (open_tree.Vararg p) = []
expr_at (open_tree.«Expr::Function» p f) = f
expr_at (open_tree.Name p n x) = use_of n ∷ []
expr_at (open_tree.Paren p a) = a
expr_at (open_tree.Field p a x) = a
expr_at (open_tree.Index p a k) = a ++ k
expr_at (open_tree.«Expr::Call» p a es) = a ++ all_of es
expr_at (open_tree.«Expr::Method» p a x es) = a ++ all_of es
expr_at (open_tree.Table p es) = all_of es
expr_at (open_tree.Unary p o a) = a
expr_at (open_tree.Binary p o a b) = a ++ b
expr_at (open_tree.Mark k a) = a

abbrev pub entry_at : Entry-F Parts Parts Parts Parts Parts Parts Parts → Parts
entry_at (open_tree.Keyed k a) = k ++ a
entry_at (open_tree.Named x a) = a
entry_at (open_tree.Item a) = a

abbrev pub stat_at : Stat-F Parts Parts Parts Parts Parts Parts Parts → Parts
stat_at (open_tree.Empty p) = []
stat_at (open_tree.Assign p ts es) = all_of ts ++ all_of es
stat_at (open_tree.«Stat::Call» p a) = a
stat_at (open_tree.Break p) = []
stat_at (open_tree.Do p b) = b
stat_at (open_tree.While p a b) = a ++ b
stat_at (open_tree.Repeat p b a) = b ++ a
stat_at (open_tree.If p cs b) = all_of cs ++ maybe_of b
stat_at (open_tree.NumericFor p x a b c d) = local ∷ a ++ (b ++ (maybe_of c ++ d))
stat_at (open_tree.GenericFor p xs es b) = locals xs ++ (all_of es ++ b)
stat_at (open_tree.«Stat::Function» p a f) = a ++ f
-- a method has the local `self`
stat_at (open_tree.«Stat::Method» p a x f) = a ++ local ∷ f
stat_at (open_tree.LocalFunction p x f) = local ∷ f
stat_at (open_tree.Local p xs es) = locals xs ++ all_of es
stat_at (open_tree.Interface p x fs) = []
stat_at (open_tree.Alias p x a) = []

abbrev pub return_at : Return-F Parts Parts Parts Parts Parts Parts Parts → Parts
return_at r = all_of r.values

abbrev pub block_at : Block-F Parts Parts Parts Parts Parts Parts Parts → Parts
block_at b = all_of b.stats ++ maybe_of b.result

abbrev pub body_at : Body-F Parts Parts Parts Parts Parts Parts Parts → Parts
body_at b = body ∷ locals b.params ++ b.block

abbrev pub clause_at : Clause-F Parts Parts Parts Parts Parts Parts Parts → Parts
clause_at c = c.condition ++ c.block

abbrev pub parts_of : Block → Parts
parts_of = fold-Block Parts Parts Parts Parts Parts Parts Parts entry_at expr_at stat_at block_at body_at clause_at return_at

abbrev pub parts_of_expr : Expr → Parts
parts_of_expr = fold-Expr Parts Parts Parts Parts Parts Parts Parts entry_at expr_at stat_at block_at body_at clause_at return_at

abbrev pub parts_of_entry : Entry → Parts
parts_of_entry = fold-Entry Parts Parts Parts Parts Parts Parts Parts entry_at expr_at stat_at block_at body_at clause_at return_at

abbrev pub parts_of_stat : Stat → Parts
parts_of_stat = fold-Stat Parts Parts Parts Parts Parts Parts Parts entry_at expr_at stat_at block_at body_at clause_at return_at

abbrev pub parts_of_body : Body → Parts
parts_of_body = fold-Body Parts Parts Parts Parts Parts Parts Parts entry_at expr_at stat_at block_at body_at clause_at return_at

abbrev pub parts_of_clause : Clause → Parts
parts_of_clause = fold-Clause Parts Parts Parts Parts Parts Parts Parts entry_at expr_at stat_at block_at body_at clause_at return_at

abbrev pub parts_of_return : Return → Parts
parts_of_return = fold-Return Parts Parts Parts Parts Parts Parts Parts entry_at expr_at stat_at block_at body_at clause_at return_at

-- The uses among these are numbered one after the other, from this number on.
abbrev pub AreNumbered : ℕ → Parts → Type 0
AreNumbered n [] = Unit {0}
AreNumbered n (use_of k ∷ ps) = (k ≡ n) × AreNumbered (n + 1) ps
AreNumbered n (local ∷ ps) = AreNumbered n ps
AreNumbered n (body ∷ ps) = AreNumbered n ps

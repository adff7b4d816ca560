-- Bodies, clauses and returns as they are seen, and the elements of a list.
use Rattle.std.proofs.Common.{◌≡◌, sym, ap, ◌∙◌, ℕ, suc, ◌+◌, ◌<◌, List, ◌∷◌, length, drop, get_or, arith}
use Rattle.std.proofs.Math.Seq.{drop-cons}
use Rattle.lua_tree.specs.declared.syntax.Body.{Body, out-Body}
use Rattle.lua_tree.specs.declared.syntax.Clause.{Clause, out-Clause}
use Rattle.lua_tree.specs.declared.syntax.Return.{Return, out-Return}
use Rattle.lua_tree.specs.declared.syntax.Entry.TheFolds.{fold_out-Body, fold_out-Clause, fold_out-Return}
use Rattle.lua_tree.specs.Tree as tree
use Rattle.lua_tree.specs.Tree.{Exp, Stat, Block, Function}
use Rattle.lua_tree.specs.View.{SeenEntry, SeenReturn, SeenClause, entry_at, expr_at, stat_at, block_at, body_at, clause_at, return_at, exp_of, exps_of, block_of, function_of, clause_of, return_of}
use Rattle.code_gen.specs.Work.{Work, with_values, with_stat}

pub body_seen : (b : Body) → function_of b ≡ tree.function_of (out-Body b).params (out-Body b).rest (out-Body b).results (block_of (out-Body b).block)
body_seen b = fold_out-Body SeenEntry Exp Stat Block Function SeenClause SeenReturn entry_at expr_at stat_at block_at body_at clause_at return_at b

pub clause_seen : (c : Clause) → clause_of c ≡ record { condition = exp_of (out-Clause c).condition; body = block_of (out-Clause c).block }
clause_seen c = fold_out-Clause SeenEntry Exp Stat Block Function SeenClause SeenReturn entry_at expr_at stat_at block_at body_at clause_at return_at c

pub return_seen : (r : Return) → return_of r ≡ record { place = (out-Return r).pos; values = exps_of (out-Return r).values }
return_seen r = fold_out-Return SeenEntry Exp Stat Block Function SeenClause SeenReturn entry_at expr_at stat_at block_at body_at clause_at return_at r

pub item_seen : {A : Type 0} (xs : List A) (i : ℕ) (x : A) → i < length xs → x ≡ get_or xs i x → drop i xs ≡ x ∷ drop (i + 1) xs
item_seen xs i x h e = let more : suc i ≡ i + 1 = omega arith in drop-cons xs i x h ∙ ap (λ z. z ∷ drop (suc i) xs) (sym e) ∙ ap (λ n. x ∷ drop n xs) more

pub values_seen : (x y : Exp) (w v : Work) → x ≡ y → v ≡ with_values y w → v ≡ with_values x w
values_seen x y w v s h = h ∙ ap (λ z. with_values z w) (sym s)

pub stat_seen : (x y : Stat) (brk : ℕ) (w v : Work) → x ≡ y → v ≡ with_stat y brk w → v ≡ with_stat x brk w
stat_seen x y brk w v s h = h ∙ ap (λ z. with_stat z brk w) (sym s)

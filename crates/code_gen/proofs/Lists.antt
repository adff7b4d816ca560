-- The size of a list of values from those of the values.
use Rattle.std.proofs.Common.{◌≡◌, refl, sym, ℕ, ◌+◌, Bool, true, false, List, [], ◌∷◌, length, add-zero, add-one, ap, ◌∙◌}
use Rattle.lua_tree.specs.declared.syntax.Expr.{Expr}
use Rattle.lua_tree.specs.Tree as tree
use Rattle.lua_tree.specs.Tree.{Exp, Exps, push}
use Rattle.lua_tree.specs.View.{exp_of, exps_of, targets_of}
use Rattle.lua_code.specs.Sizes.{exp_size, exps_size, targets_size}
use Rattle.lua_code.specs.Generated.{target_count}
use Rattle.code_gen.specs.Work.{is_open}

-- what is still to come, where the last one could give any number of values, or not
abbrev pub rest_size : Bool → Exps → ℕ
rest_size true tree.none = 0
rest_size whole es = exps_size es

push_size : (whole : Bool) (e : Exp) (es : Exps) → rest_size whole (push e es) ≡ exp_size e + rest_size (is_open e) es
push_size true (tree.one_of m) tree.none = sym (add-zero (exp_size (tree.one_of m)))
push_size false (tree.one_of m) tree.none = sym (add-zero (exp_size (tree.one_of m)))
push_size true (tree.one_of m) es = refl
push_size false (tree.one_of m) es = refl
push_size true e es = refl
push_size false e es = refl

pub rest_more : (whole : Bool) (e : Expr) (es : List Expr) → rest_size whole (exps_of (e ∷ es)) ≡ exp_size (exp_of e) + rest_size (is_open (exp_of e)) (exps_of es)
rest_more whole e es = push_size whole (exp_of e) (exps_of es)

pub targets_long : (ts : List Expr) → targets_size (targets_of ts) ≡ length ts
targets_long [] = refl
targets_long (t ∷ ts) = ap (λ n. n + 1) (targets_long ts) ∙ add-one (length ts)

pub targets_counted : (ts : List Expr) → length ts ≡ target_count (targets_of ts)
targets_counted [] = refl
targets_counted (t ∷ ts) = sym (ap (λ n. n + 1) (sym (targets_counted ts)) ∙ add-one (length ts))

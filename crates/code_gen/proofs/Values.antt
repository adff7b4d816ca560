-- Steps of the loop over a list of values.
use Rattle.std.proofs.Common.{◌≡◌, refl, sym, ap, ◌∙◌, ℕ, ◌+◌, ◌<◌, true, false, List, [], ◌∷◌, length, arith}
use Rattle.tl_base.specs.declared.place.Pos.{Pos}
use Rattle.lua_tree.specs.declared.syntax.Expr.{Expr}
use Rattle.lua_tree.specs.Tree as tree
use Rattle.lua_tree.specs.Tree.{Exp, Multi, Exps, push}
use Rattle.lua_tree.specs.View.{exp_of, exps_of}
use Rattle.lua_code.specs.declared.code.Instr.TheVariants as instr
use Rattle.code_gen.specs.Work.{Work, put, with_exp, with_values, with_list, is_open}
use Rattle.code_gen.proofs.Forms.Expressions.{list_more, list_ends}

push_some : (e x : Exp) (xs : Exps) → push e (push x xs) ≡ tree.more e (push x xs)
push_some (tree.one_of m) (tree.one_of k) tree.none = refl
push_some (tree.one_of m) (tree.one_of k) xs = refl
push_some (tree.one_of m) x xs = refl
push_some e x xs = refl

pub inner_written : (x : Expr) (rest : List Expr) (p : Pos) (n : ℕ) (w : Work) → 0 < length rest
    → with_list (exps_of rest) p (n + 1) (with_exp (exp_of x) w) ≡ with_list (exps_of (x ∷ rest)) p n w
inner_written x [] p n w h = absurd (omega (arith, h))
inner_written x (y ∷ ys) p n w h =
    list_more (exp_of x) (exps_of (y ∷ ys)) p n w ∙ ap (λ z. with_list z p n w) (sym (push_some (exp_of x) (exp_of y) (exps_of ys)))

last_of : (e : Exp) (p : Pos) (n : ℕ) (w : Work) → is_open e ≡ false → with_list tree.none p (n + 1) (with_values e w) ≡ with_list (push e tree.none) p n w
last_of (tree.one_of m) p n w h = cc
last_of e p n w h = list_more e tree.none p n w

open_of : (e : Exp) (p : Pos) (n : ℕ) (w : Work) → is_open e ≡ true → put (instr.Cons n) p (with_values e w) ≡ with_list (push e tree.none) p n w
open_of (tree.one_of m) p n w h = list_ends m p n w
open_of e p n w h = cc

pub last_written : (x : Expr) (p : Pos) (n : ℕ) (w : Work) → is_open (exp_of x) ≡ false
    → with_list (exps_of []) p (n + 1) (with_values (exp_of x) w) ≡ with_list (exps_of (x ∷ [])) p n w
last_written x p n w h = last_of (exp_of x) p n w h

pub open_written : (x : Expr) (p : Pos) (n : ℕ) (w : Work) → is_open (exp_of x) ≡ true
    → put (instr.Cons n) p (with_values (exp_of x) w) ≡ with_list (exps_of (x ∷ [])) p n w
open_written x p n w h = open_of (exp_of x) p n w h

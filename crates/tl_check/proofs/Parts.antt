-- The one value, local or target of a statement.
use Rattle.std.proofs.Common.{◌≡◌, refl, ap, true, false, List, [], ◌∷◌, Some, None}
use Rattle.tl_base.specs.declared.place.Pos.{Pos}
use Rattle.tl_base.specs.declared.refusal.RefusalCode.TheVariants as code
use Rattle.lua_tree.specs.declared.annotation.Typed.{Typed}
use Rattle.lua_tree.specs.declared.syntax.Expr.{Expr}
use Rattle.lua_tree.specs.Tree as tree
use Rattle.lua_tree.specs.Tree.{Exp, Exps, push}
use Rattle.lua_tree.specs.View.{exp_of, exps_of, targets_of}
use Rattle.lua_tree.specs.Places.{place_of}
use Rattle.tl_rules.specs.Checked.{fine, fault}
use Rattle.tl_rules.specs.Statements.{one_value, one_local, one_target}
use Rattle.tl_check.specs.Answers.{only, gives_many}

pub local_is : (p : Pos) (ns : List Typed) (n : Typed) → only ns ≡ Some n → one_local p ns ≡ fine n
local_is p [] n h = let e : ⊥ = cc in absurd e
local_is p (x ∷ []) n h = let e : x ≡ n = cc in ap fine e
local_is p (x ∷ y ∷ ns) n h = let e : ⊥ = cc in absurd e

pub no_local : (p : Pos) (ns : List Typed) → only ns ≡ None → one_local p ns ≡ fault code.X1 p
no_local p [] h = refl
no_local p (x ∷ []) h = let e : ⊥ = cc in absurd e
no_local p (x ∷ y ∷ ns) h = refl

pub target_is : (p : Pos) (ts : List Expr) (t : Expr) → only ts ≡ Some t → one_target p (targets_of ts) ≡ fine (exp_of t)
target_is p [] t h = let e : ⊥ = cc in absurd e
target_is p (x ∷ []) t h = let e : x ≡ t = cc in ap (λ z. fine (exp_of z)) e
target_is p (x ∷ y ∷ ts) t h = let e : ⊥ = cc in absurd e

pub no_target : (p : Pos) (ts : List Expr) → only ts ≡ None → one_target p (targets_of ts) ≡ fault code.X1 p
no_target p [] h = refl
no_target p (x ∷ []) h = let e : ⊥ = cc in absurd e
no_target p (x ∷ y ∷ ts) h = refl

-- a value alone, by whether it ends a list with all its values
many_alone : (p : Pos) (e : Exp) → gives_many e ≡ true → one_value p (push e tree.none) ≡ fault code.X1 (place_of e)
many_alone p (tree.one_of m) h = refl
many_alone p e h = let no : ⊥ = cc in absurd no

one_alone : (p : Pos) (e : Exp) → gives_many e ≡ false → one_value p (push e tree.none) ≡ fine e
one_alone p (tree.one_of m) h = let no : ⊥ = cc in absurd no
one_alone p e h = refl

pushed_some : (e : Exp) (es : Exps) → push e es ≡ tree.none → ⊥
pushed_some (tree.one_of m) tree.none h = cc
pushed_some (tree.one_of m) (tree.ends n) h = cc
pushed_some (tree.one_of m) (tree.more a es) h = cc
pushed_some e es h = cc

more_values : (p : Pos) (e : Exp) (es : Exps) → (es ≡ tree.none → ⊥) → one_value p (push e es) ≡ fault code.X1 p
more_values p (tree.one_of m) tree.none h = absurd (h refl)
more_values p (tree.one_of m) (tree.ends n) h = refl
more_values p (tree.one_of m) (tree.more a es) h = refl
more_values p e tree.none h = absurd (h refl)
more_values p e (tree.ends n) h = refl
more_values p e (tree.more a es) h = refl

pub value_is : (p : Pos) (es : List Expr) (e : Expr) → only es ≡ Some e → gives_many (exp_of e) ≡ false → one_value p (exps_of es) ≡ fine (exp_of e)
value_is p [] e h k = let no : ⊥ = cc in absurd no
value_is p (x ∷ []) e h k = let same : x ≡ e = cc in rw same (one_alone p (exp_of e) k)
value_is p (x ∷ y ∷ es) e h k = let no : ⊥ = cc in absurd no

pub values_are : (p : Pos) (es : List Expr) (e : Expr) → only es ≡ Some e → gives_many (exp_of e) ≡ true → one_value p (exps_of es) ≡ fault code.X1 (place_of (exp_of e))
values_are p [] e h k = let no : ⊥ = cc in absurd no
values_are p (x ∷ []) e h k = let same : x ≡ e = cc in rw same (many_alone p (exp_of e) k)
values_are p (x ∷ y ∷ es) e h k = let no : ⊥ = cc in absurd no

pub no_value : (p : Pos) (es : List Expr) → only es ≡ None → one_value p (exps_of es) ≡ fault code.X1 p
no_value p [] h = refl
no_value p (x ∷ []) h = let no : ⊥ = cc in absurd no
no_value p (x ∷ y ∷ es) h = more_values p (exp_of x) (push (exp_of y) (exps_of es)) (pushed_some (exp_of y) (exps_of es))

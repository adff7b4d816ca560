-- What the check of a form's parts comes to.
use Rattle.std.proofs.Common.{◌≡◌, refl, sym, ap, subst, ◌∙◌, true, List, Result}
use Rattle.tl_base.specs.declared.place.Pos.{Pos}
use Rattle.tl_base.specs.declared.crossing.CrossKind.{CrossKind}
use Rattle.tl_base.specs.declared.refusal.Failure.{Failure}
use Rattle.lua_tree.specs.declared.scoped.Use.{Use}
use Rattle.lua_tree.specs.declared.syntax.BinaryOperator.{BinaryOperator}
use Rattle.lua_tree.specs.Tree as tree
use Rattle.lua_tree.specs.Tree.{Exp, marked}
use Rattle.tl_rules.specs.Checked.{fine, then_check, where_ruled}
use Rattle.tl_rules.specs.Locals.{Env}
use Rattle.tl_rules.specs.Operands.{is_ruled}
use Rattle.tl_rules.specs.Expressions.{TypedExp, check_exp, operation}
use Rattle.tl_check.specs.declared.expressions.Typed.{Typed}
use Rattle.tl_check.specs.Answers.{Answers, typed_view}

pub binary_answers : (uses : List Use) (env : Env) (p : Pos) (o : BinaryOperator) (a b : Exp) (l r : TypedExp) (x : Result Typed Failure) → l.env ≡ env → is_ruled o ≡ true → check_exp uses env a ≡ fine l → check_exp uses env b ≡ fine r
    → Answers (typed_view env) (operation p o l r) x → Answers (typed_view env) (check_exp uses env (tree.binary p o a b)) x
binary_answers uses env p o a b l r x same ruled e f h =
    let second = λ (v : TypedExp). then_check (check_exp uses v.env b) (λ w. operation p o v w) in
    let here : check_exp uses env (tree.binary p o a b) ≡ operation p o l r =
    ap (λ z. where_ruled z p (then_check (check_exp uses env a) second)) ruled
    ∙ (ap (λ z. then_check z second) e
    ∙ (ap (λ z. then_check (check_exp uses z b) (λ w. operation p o l w)) same
    ∙ ap (λ z. then_check z (λ w. operation p o l w)) f)) in
    subst (λ z. Answers (typed_view env) z x) (sym here) h

pub marked_checks : (uses : List Use) (env : Env) (k : CrossKind) (e : Exp) → check_exp uses env (marked k e) ≡ check_exp uses env e
marked_checks uses env k (tree.one_of m) = refl
marked_checks uses env k e = refl

use Rattle.std.proofs.Common.{rules, ◌≡◌, refl, sym, ap, subst, ◌∙◌, true}
use Rattle.lua_tree.specs.Tree.{binary}
use Rattle.lua_tree.specs.View.{exp_of}
use Rattle.lua_tree.proofs.Views.{exp_of-Binary, exp_of-Mark}
use Rattle.tl_rules.specs.Checked.{fine}
use Rattle.tl_rules.specs.Expressions.{check_exp}
use Rattle.tl_rules.specs.Operands.{is_ruled}
use Rattle.tl_check.specs.Answers.{Answers, typed_view}
use Rattle.tl_check.proofs.Steps.{binary_answers, marked_checks}
use Rattle.tl_check.proofs.expressions.+expression.Goals as goal

pub returns-in_ok-right-in-Binary : goal.returns-in_ok-right-in-Binary
returns-in_ok-right-in-Binary t c =
    let env = c.args.env.now in
    let uses = c.args.uses.now in
    let ruled : is_ruled c.in-Binary.operator ≡ true = search rules in
    let first : check_exp uses env (exp_of c.in-Binary.left) ≡ fine (typed_view env c.in_ok-left-in-Binary.left) = search rules in
    let second : check_exp uses env (exp_of c.in-Binary.right) ≡ fine (typed_view env c.in_ok-right-in-Binary.right) = search rules in
    let whole : exp_of c.args.expr ≡ binary c.in-Binary.pos c.in-Binary.operator (exp_of c.in-Binary.left) (exp_of c.in-Binary.right) = ap exp_of c.in-Binary.is ∙ exp_of-Binary c.in-Binary.pos c.in-Binary.operator c.in-Binary.left c.in-Binary.right in
    subst (λ z. Answers (typed_view env) (check_exp uses env z) c.operation_of.result) (sym whole)
    (binary_answers uses env c.in-Binary.pos c.in-Binary.operator (exp_of c.in-Binary.left) (exp_of c.in-Binary.right) (typed_view env c.in_ok-left-in-Binary.left) (typed_view env c.in_ok-right-in-Binary.right)
    c.operation_of.result refl ruled first second (c.operation_of.ensures env))

pub returns-in-Mark : goal.returns-in-Mark
returns-in-Mark t c =
    let env = c.args.env.now in
    let uses = c.args.uses.now in
    let inner : Answers (typed_view env) (check_exp uses env (exp_of c.in-Mark.inner)) c.expression-in-Mark.result = search rules in
    let whole : check_exp uses env (exp_of c.args.expr) ≡ check_exp uses env (exp_of c.in-Mark.inner) =
    ap (λ z. check_exp uses env (exp_of z)) c.in-Mark.is ∙ (ap (check_exp uses env) (exp_of-Mark c.in-Mark.field-0 c.in-Mark.inner) ∙ marked_checks uses env c.in-Mark.field-0 (exp_of c.in-Mark.inner)) in
    subst (λ z. Answers (typed_view env) z c.expression-in-Mark.result) (sym whole) inner

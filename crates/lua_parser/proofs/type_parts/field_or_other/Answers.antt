use Rattle.std.proofs.Common.{◌≡◌, ◌∷◌, length, true, false, refl, sym, ap, ◌∙◌, arith, inl, inr}
use Rattle.std.proofs.lemmas.Result.{err_from_is_err_and}
use Rattle.lua_lexer.specs.declared.token.Symbol.TheVariants as s
use Rattle.lua_parser.specs.Words.{sign, named}
use Rattle.lua_parser.specs.Outcomes.{head_is, head_name}
use Rattle.lua_parser.proofs.type_parts.field_or_other.Goals as goal

pub returns-then-eat : goal.returns-then-eat
returns-then-eat c = let h = c.if-eat.ensures in (let e = ap length h.1 in (omega arith, refl, inl (h.0, refl, refl, h.1)))

pub returns-then-not-is_const : goal.returns-then-not-is_const
returns-then-not-is_const c = let h = c.if-eat.ensures in (refl, h.0, h.1, λ e. let d : false ≡ true = c.if-not-is_const.ensures ∙ e in cc)

pub returns-in_err-second : goal.returns-in_err-second
returns-in_err-second c = let p = err_from_is_err_and c.from_residual.result c.from_residual.ensures.1 in rw (p.1, p.2, c.in_err-second.ensures) tt

pub returns-in_err-want-in-Some : goal.returns-in_err-want-in-Some
returns-in_err-want-in-Some c = let p = err_from_is_err_and c.from_residual-in_err-want-in-Some.result c.from_residual-in_err-want-in-Some.ensures.1 in (let v = c.in_err-want-in-Some.ensures in (let h = rw c.in-Some.is at c.in_ok-second.ensures in rw (p.1, p.2, v.0) (c.in-Some.second, sym c.if-not-is_const.ensures, sym c.if-eat.ensures.0 ∙ h ∙ ap (λ z. named c.in-Some.second ∷ z) (sym v.1), ap (head_is (sign s.Colon)) v.1 ∙ v.2)))

pub returns-in_ok-want-in-Some : goal.returns-in_ok-want-in-Some
returns-in_ok-want-in-Some c = let h = rw c.in-Some.is at c.in_ok-second.ensures in (let v = c.in_ok-want-in-Some.ensures in (let e = sym c.if-eat.ensures.0 ∙ h ∙ ap (λ z. named c.in-Some.second ∷ z) v.1 in (let l = ap length e in (omega arith, refl, inr (v.0, refl, sym c.if-not-is_const.ensures, e)))))

pub returns-in-None : goal.returns-in-None
returns-in-None c = let h = c.if-eat.ensures in (let n = rw c.in-None.is at c.in_ok-second.ensures in (refl, n.0 ∙ h.0, h.1, λ e. ap head_name (sym h.0) ∙ n.1))

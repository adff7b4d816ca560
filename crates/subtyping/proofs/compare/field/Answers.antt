use Rattle.std.proofs.Common.{◌≡◌, Bool, true, false, ◌&&◌, ◌||◌, not, refl, sym, ap, ◌∙◌}
use Rattle.tl_types.specs.Types.{Field}
use Rattle.tl_types.specs.Below.{Test, field_below}
use Rattle.subtyping.proofs.Steps.{failed, and_stop, and_then, at_ok, same_claim, settled}
use Rattle.subtyping.proofs.compare.field.Goals as goal

and_true : (a : Bool) → (a && true) ≡ a
and_true true = refl
and_true false = refl

and_false : (a : Bool) → (a && false) ≡ false
and_false true = refl
and_false false = refl

-- a const field on the right
const_right : (R : Test) (f g : Field) → g.is_const ≡ true → R f.ty g.ty ≡ field_below R f g
const_right R f g is = sym (ap (λ b. R f.ty g.ty && (b || (not f.is_const && R g.ty f.ty))) is ∙ and_true (R f.ty g.ty))

-- a const field on the left alone
const_left : (R : Test) (f g : Field) → g.is_const ≡ false → f.is_const ≡ true → field_below R f g ≡ false
const_left R f g mutable is = ap (λ b. R f.ty g.ty && (b || (not f.is_const && R g.ty f.ty))) mutable ∙ (ap (λ b. R f.ty g.ty && (not b && R g.ty f.ty)) is ∙ and_false (R f.ty g.ty))

both_mutable : (R : Test) (f g : Field) → g.is_const ≡ false → f.is_const ≡ false → (R f.ty g.ty && R g.ty f.ty) ≡ field_below R f g
both_mutable R f g mutable is = sym (ap (λ b. R f.ty g.ty && (b || (not f.is_const && R g.ty f.ty))) mutable ∙ ap (λ b. R f.ty g.ty && (not b && R g.ty f.ty)) is)

pub returns-in_err-assume : goal.returns-in_err-assume
returns-in_err-assume c = failed c.args.rules.loose c.args.rules.bodies.now _ _ _ _ _ _ (c.assume.ensures c.args.rules.loose c.args.rules.bodies.now) c.from_residual.ensures.0

pub returns-then-not-branch : goal.returns-then-not-branch
returns-then-not-branch c =
    let loose = c.args.rules.loose in
    let bodies = c.args.rules.bodies.now in
    let f = c.args.f.now in
    let g = c.args.g.now in
    and_stop loose bodies (λ R. R f.ty g.ty) (λ R. g.is_const || (not f.is_const && R g.ty f.ty)) _ _ (at_ok loose bodies _ _ _ _ _ _ (c.assume.ensures loose bodies) c.in_ok-assume.was c.if-not-branch.true)

pub returns-then-g : goal.returns-then-g
returns-then-g c =
    let loose = c.args.rules.loose in
    let bodies = c.args.rules.bodies.now in
    let f = c.args.f.now in
    let g = c.args.g.now in
    same_claim loose bodies (λ R. R f.ty g.ty) (λ R. field_below R f g) _ _ _ (λ R. const_right R f g c.if-g.true) (at_ok loose bodies _ _ _ _ _ _ (c.assume.ensures loose bodies) c.in_ok-assume.was c.if-not-branch.false)

pub returns-then-f : goal.returns-then-f
returns-then-f c =
    let loose = c.args.rules.loose in
    let bodies = c.args.rules.bodies.now in
    let f = c.args.f.now in
    let g = c.args.g.now in
    settled loose bodies _ (λ R. field_below R f g) _ false _ _ (c.assume.ensures loose bodies) (λ R. const_left R f g c.if-g.false c.if-f.true)

pub returns : goal.returns
returns c =
    let loose = c.args.rules.loose in
    let bodies = c.args.rules.bodies.now in
    let f = c.args.f.now in
    let g = c.args.g.now in
    same_claim loose bodies (λ R. R f.ty g.ty && R g.ty f.ty) (λ R. field_below R f g) _ _ _ (λ R. both_mutable R f g c.if-g.false c.if-f.false)
    (and_then loose bodies (λ R. R f.ty g.ty) (λ R. R g.ty f.ty) _ _ _ _ (at_ok loose bodies _ _ _ _ _ _ (c.assume.ensures loose bodies) c.in_ok-assume.was c.if-not-branch.false) (c.assume-2.ensures loose bodies))

use Rattle.std.proofs.Common.{◌≡◌, ap, sym, ◌∙◌, pos, Some, FitsSigned, rules, w64, of_z, unsigned_abs}
use Rattle.std.proofs.lemmas.Int.{to_z-of_z}
use lib.Signed.{lt_z}
use Rattle.lua_values.proofs.Words.{quotient-negatives}
use Rattle.lua_values.proofs.integers.idiv.Goals as goal

pub returns-else-a-gt0 : goal.returns-else-a-gt0
returns-else-a-gt0 c =
    let same_a = to_z-of_z w64 c.args.a c.ranges.a in
    let same_b = to_z-of_z w64 c.args.b c.ranges.b in
    let fits : FitsSigned w64 c.cast_signed.result = search rules in
    let below_a = ap (lt_z (pos 0)) (sym same_a) ∙ c.if-a-gt0.false in
    let below_b = ap (lt_z (pos 0)) (sym same_b) ∙ c.if-b-gt0.false in
    let nonzero = λ (e : c.args.b ≡ pos 0). c.if-b-eq0.false (ap (of_z w64) e) in
    let size_a = c.unsigned_abs.ensures.value ∙ ap unsigned_abs same_a in
    let size_b = c.unsigned_abs-divisor.ensures.value ∙ ap unsigned_abs same_b in
    ap Some (to_z-of_z w64 c.cast_signed.result fits) ∙ quotient-negatives c.args.a c.args.b _ _ _ below_a below_b nonzero size_a size_b c.unsigned_abs.type_inv c.cast_signed.ensures

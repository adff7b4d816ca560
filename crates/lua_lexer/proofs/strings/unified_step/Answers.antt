use Rattle.std.proofs.Common.{length, refl, ap, sym, arith}
use Rattle.lua_lexer.proofs.Parts.{unified_line, unified_byte, line_byte_shorter}
use Rattle.lua_lexer.proofs.strings.unified_step.Goals as goal

pub returns-in_ok-push : goal.returns-in_ok-push
returns-in_ok-push c =
    let e = ap length c.behind_line_byte.ensures in
    let k = line_byte_shorter c.args.byte c.args.text.now in
    (10, c.in_ok-push.ensures.ok, (λ out f. unified_line {b = c.args.byte} {t = c.args.text.now} refl (sym c.if-is_line_byte.ensures) c.behind_line_byte.ensures out f), omega (arith, e, k))

pub returns-in_ok-push-2 : goal.returns-in_ok-push-2
returns-in_ok-push-2 c = (c.args.byte, c.in_ok-push-2.ensures.ok, (λ out f. unified_byte refl (sym c.if-is_line_byte.ensures) out f), omega arith)

use Rattle.std.proofs.Common.{true, false, sym, ap, ◌∙◌, arith, rules}
use Rattle.std.proofs.lemmas.Result.{err_from_is_err_and}
use Rattle.std.proofs.lemmas.Int.{to_z-of_z}
use Rattle.std.specs.Int.{w64}
use mir.Val.{SFits}
use Rattle.lua_tree.specs.declared.annotation.TypeExpr.TheVariants as t
use Rattle.lua_lexer.specs.declared.token.Symbol.TheVariants as s
use Rattle.lua_lexer.specs.declared.token.Keyword.TheVariants as w
use Rattle.lua_parser.specs.Words.{sign, key}
use Rattle.lua_parser.specs.Machine.Plan.{Item, read}
use Rattle.lua_parser.specs.TypeReadings.{rest_of_name}
use Rattle.lua_parser.specs.Outcomes.{head_is, head_name, head_number, head_text}
use Rattle.lua_parser.proofs.TypeSteps as steps
use Rattle.lua_parser.proofs.type_parts.literal.Goals as goal

pub returns-then-eat_word : goal.returns-then-eat_word
returns-then-eat_word c = λ b. let h = c.if-eat_word.ensures in steps.at_head (key w.Nil) (read Item.a_plain_member) (λ p k. read (Item.maybe_mark (t.Nil p)) k) steps.nil_leads _ _ _ h.0 c.pos-pos.ensures h.1

pub returns-then-eat_word-2 : goal.returns-then-eat_word-2
returns-then-eat_word-2 c = λ b. let h = c.if-eat_word-2.ensures in steps.at_head (key w.True) (read Item.a_plain_member) (λ p k. read (Item.maybe_mark (t.Bool p true)) k) steps.true_leads _ _ _ h.0 c.pos-pos.ensures (sym c.if-eat_word.ensures.0 ∙ h.1)

pub returns-then-eat_word-3 : goal.returns-then-eat_word-3
returns-then-eat_word-3 c = λ b. let h = c.if-eat_word-3.ensures in steps.at_head (key w.False) (read Item.a_plain_member) (λ p k. read (Item.maybe_mark (t.Bool p false)) k) steps.false_leads _ _ _ h.0 c.pos-pos.ensures (sym (c.if-eat_word-2.ensures.0 ∙ c.if-eat_word.ensures.0) ∙ h.1)

pub returns-then-eat : goal.returns-then-eat
returns-then-eat c = λ b. let h = c.if-eat.ensures in steps.turns_part (λ v. 1) (λ v. 1) (read Item.a_plain_member) (read (Item.negated c.pos-pos.result)) (λ v k. k v) steps.then_mark _ _ _ c.negative.result (steps.at_head (sign s.Minus) (read Item.a_plain_member) (λ p k. read (Item.negated p) (steps.then_mark k)) steps.minus_leads _ _ _ h.0 c.pos-pos.ensures (sym (c.if-eat_word-3.ensures.0 ∙ c.if-eat_word-2.ensures.0 ∙ c.if-eat_word.ensures.0) ∙ h.1)) (λ v. omega arith) c.negative.ensures

pub advance-requires : goal.advance-requires
advance-requires c = steps.number_there _ _ (sym c.number.ensures ∙ c.in-Some.is)

pub returns-in-Some : goal.returns-in-Some
returns-in-Some c = λ b. let fits = rw c.in-Some.is at c.number.type_inv in (let g : SFits w64 c.in-Some.number = search (rules, fits) in steps.int_at _ _ _ _ _ _ (c.if-eat.ensures.0 ∙ c.if-eat_word-3.ensures.0 ∙ c.if-eat_word-2.ensures.0 ∙ c.if-eat_word.ensures.0) c.pos-pos.ensures (sym c.number.ensures ∙ c.in-Some.is) c.advance.ensures (to_z-of_z w64 c.in-Some.number g))

pub returns-in_err-text : goal.returns-in_err-text
returns-in_err-text c = λ b. let p = err_from_is_err_and c.from_residual.result c.from_residual.ensures.1 in rw (p.1, p.2) (steps.fails_memory c.in_err-text.ensures)

pub returns-in-Some-2 : goal.returns-in-Some-2
returns-in-Some-2 c = λ b. let h = rw c.in-Some-2.is at c.in_ok-text.ensures in steps.text_at _ _ _ _ h.0 c.in-Some-2.text (c.if-eat.ensures.0 ∙ c.if-eat_word-3.ensures.0 ∙ c.if-eat_word-2.ensures.0 ∙ c.if-eat_word.ensures.0) c.pos-pos.ensures h.1

pub returns-in_err-name : goal.returns-in_err-name
returns-in_err-name c = λ b. let p = err_from_is_err_and c.from_residual-in_err-name.result c.from_residual-in_err-name.ensures.1 in (let n = steps.none_is c.number.result c.in_default.not-Some in (let tn = steps.none_is c.in_ok-text.field-0 c.in_default-2.not-Some in (let tx = rw tn at c.in_ok-text.ensures in rw (p.1, p.2) (steps.literal_halts _ c.text.new.self _ _ (tx.0 ∙ (c.if-eat.ensures.0 ∙ c.if-eat_word-3.ensures.0 ∙ c.if-eat_word-2.ensures.0 ∙ c.if-eat_word.ensures.0)) (λ nn. record { no_brace = b; no_nil = c.if-eat_word.ensures.1; no_true = ap (head_is (key w.True)) (sym c.if-eat_word.ensures.0) ∙ c.if-eat_word-2.ensures.1; no_false = ap (head_is (key w.False)) (sym (c.if-eat_word-2.ensures.0 ∙ c.if-eat_word.ensures.0)) ∙ c.if-eat_word-3.ensures.1; no_minus = ap (head_is (sign s.Minus)) (sym (c.if-eat_word-3.ensures.0 ∙ c.if-eat_word-2.ensures.0 ∙ c.if-eat_word.ensures.0)) ∙ c.if-eat.ensures.1; no_int = ap head_number (sym (c.if-eat.ensures.0 ∙ c.if-eat_word-3.ensures.0 ∙ c.if-eat_word-2.ensures.0 ∙ c.if-eat_word.ensures.0)) ∙ sym c.number.ensures ∙ n; no_text = ap head_text (sym (c.if-eat.ensures.0 ∙ c.if-eat_word-3.ensures.0 ∙ c.if-eat_word-2.ensures.0 ∙ c.if-eat_word.ensures.0)) ∙ tx.1; no_name = ap head_name (sym (tx.0 ∙ (c.if-eat.ensures.0 ∙ c.if-eat_word-3.ensures.0 ∙ c.if-eat_word-2.ensures.0 ∙ c.if-eat_word.ensures.0))) ∙ nn }) c.in_err-name.ensures))))

pub returns : goal.returns
returns c = λ b. let n = steps.none_is c.number.result c.in_default.not-Some in (let tn = steps.none_is c.in_ok-text.field-0 c.in_default-2.not-Some in (let tx = rw tn at c.in_ok-text.ensures in steps.turns_part (λ v. 0) (λ v. 1) (read Item.a_plain_member) (rest_of_name c.in_ok-name.name) (λ v k. k v) steps.then_mark _ _ _ c.dotted.result (steps.took (sym (tx.0 ∙ (c.if-eat.ensures.0 ∙ c.if-eat_word-3.ensures.0 ∙ c.if-eat_word-2.ensures.0 ∙ c.if-eat_word.ensures.0)) ∙ c.in_ok-name.ensures) (steps.dotted_leads c.in_ok-name.name _)) (λ v. omega arith) c.dotted.ensures))

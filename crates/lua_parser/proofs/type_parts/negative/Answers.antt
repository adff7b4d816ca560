use Rattle.std.proofs.Common.{refl, sym, ap, ◌∙◌, rules}
use Rattle.std.proofs.lemmas.Int.{wrapping_neg_is, to_z-of_z}
use Rattle.std.specs.Int.{w64, int_wrapping_neg}
use mir.Val.{SFits}
use Rattle.lua_tree.specs.declared.annotation.TypeExpr.TheVariants as t
use Rattle.lua_parser.proofs.TypeSteps as steps
use Rattle.lua_parser.proofs.type_parts.negative.Goals as goal

pub advance-requires : goal.advance-requires
advance-requires c = steps.number_there _ _ (sym c.number.ensures ∙ c.in-Some.is)

pub returns-in-Some : goal.returns-in-Some
returns-in-Some c = steps.gives (steps.number_leads c.args.pos _ _ _ (sym c.number.ensures ∙ c.in-Some.is) c.advance.ensures) (let fits = rw c.in-Some.is at c.number.type_inv in (let g : SFits w64 c.in-Some.number = search (rules, fits) in (let f : SFits w64 c.wrapping_neg.result = search (rules, c.wrapping_neg.type_inv) in ap (t.Int c.args.pos) (sym (to_z-of_z w64 c.wrapping_neg.result f ∙ c.wrapping_neg.ensures ∙ ap (int_wrapping_neg w64) (to_z-of_z w64 c.in-Some.number g) ∙ wrapping_neg_is w64 c.in-Some.number g)))))

pub returns-in-None : goal.returns-in-None
returns-in-None c = steps.fails_here refl (steps.no_number _ _ (sym c.number.ensures ∙ c.in-None.is))

use Rattle.std.proofs.Common.{◌∷◌, ◌++◌, [], Some, None, refl, sym, ap, ◌∙◌, arith, append-nil}
use Rattle.std.proofs.lemmas.Result.{err_from_is_err_and}
use Rattle.lua_tree.specs.declared.annotation.TypeExpr.TheVariants as t
use Rattle.lua_lexer.specs.declared.token.Symbol.TheVariants as s
use Rattle.lua_parser.specs.Words.{sign}
use Rattle.lua_parser.specs.Machine.Plan.{Item, read}
use Rattle.lua_parser.specs.TypeReadings.{rest_of_union, rest_of_map, behind_paren, member_of, end_of_array}
use Rattle.lua_parser.specs.Outcomes.{head_is, head_name}
use Rattle.lua_parser.proofs.TypeSteps as steps
use Rattle.lua_parser.proofs.types.+types.Goals as goal

pub any_type-returns-in_err-first : goal.any_type-returns-in_err-first
any_type-returns-in_err-first bound c = let p = err_from_is_err_and c.from_residual.result c.from_residual.ensures.1 in rw (p.1, p.2) (steps.fails_in steps.unioned (steps.type_leads _) c.in_err-first.ensures)

pub any_type-returns : goal.any_type-returns
any_type-returns bound c = steps.turns_on (λ v. 0) (λ v. 1) (read Item.a_type) (rest_of_union c.in_ok-first.first) (λ v k. k v) _ _ _ c.union.result (steps.leads_part steps.unioned (steps.type_leads _) c.in_ok-first.ensures) (λ v. omega arith) c.union.ensures

pub union-returns-in_err-second : goal.union-returns-in_err-second
union-returns-in_err-second bound c = let p = err_from_is_err_and c.from_residual.result c.from_residual.ensures.1 in rw (p.1, p.2) (steps.fails_in (steps.union_with c.args.first.ty) (steps.leads_same (rest_of_union c.args.first) _) c.in_err-second.ensures)

pub union-returns-in-None : goal.union-returns-in-None
union-returns-in-None bound c = let h = rw c.in-None.is at c.in_ok-second.ensures in steps.leads_part (steps.union_with c.args.first.ty) (steps.leads_same (rest_of_union c.args.first) _) h

pub union-returns-in_err-types : goal.union-returns-in_err-types
union-returns-in_err-types bound c = let p = err_from_is_err_and c.from_residual-in_err-types.result c.from_residual-in_err-types.ensures.1 in rw (p.1, p.2) (steps.fails_memory refl)

pub union-loop-types-init : goal.union-loop-types-init
union-loop-types-init bound c = let h = rw c.in-Some.is at c.in_ok-second.ensures in steps.union_begins c.args.first.ty c.in-Some.second.ty _ _ _ (steps.leads_part (steps.union_with c.args.first.ty) (steps.leads_same (rest_of_union c.args.first) _) h) c.place-pos.ensures c.in_ok-types.ensures

pub union-returns-in_err-next : goal.union-returns-in_err-next
union-returns-in_err-next bound c = let p = err_from_is_err_and c.from_residual-in_err-next.result c.from_residual-in_err-next.ensures.1 in rw (p.1, p.2) (steps.fails_in (steps.many _ _) c.loop-types.invariant c.in_err-next.ensures)

pub union-loop-types-preserved : goal.union-loop-types-preserved
union-loop-types-preserved bound c = let h = rw c.in-Some-2.is at c.in_ok-next.ensures in steps.union_more _ _ _ _ _ c.in-Some-2.next.ty c.loop-types.invariant h c.in_ok-push.ensures.ok

pub union-returns-in_err-push : goal.union-returns-in_err-push
union-returns-in_err-push bound c = let p = err_from_is_err_and c.from_residual-in_err-push.result c.from_residual-in_err-push.ensures.1 in rw (p.1, p.2) (steps.fails_memory refl)

pub union-returns-in_err-closes : goal.union-returns-in_err-closes
union-returns-in_err-closes bound c = let p = err_from_is_err_and c.from_residual-in_err-closes.result c.from_residual-in_err-closes.ensures.1 in rw (p.1, p.2) (steps.fails_deep c.in_err-closes.ensures)

pub union-returns : goal.union-returns
union-returns bound c = let n = steps.none_is c.in_ok-next.field-0 c.in_default.not-Some in (let h = rw n at c.in_ok-next.ensures in steps.gives (steps.stayed c.in_ok-closes.ensures (steps.leads_part (steps.many _ _) c.loop-types.invariant h)) (ap (t.Union _) (append-nil _)))

pub next_member-returns-in_err-joins : goal.next_member-returns-in_err-joins
next_member-returns-in_err-joins bound c = let p = err_from_is_err_and c.from_residual.result c.from_residual.ensures.1 in rw (p.1, p.2) (c.in_err-joins.ensures)

pub next_member-returns-in_err-ty-in-Plain : goal.next_member-returns-in_err-ty-in-Plain
next_member-returns-in_err-ty-in-Plain bound c = let p = err_from_is_err_and c.from_residual-in_err-ty-in-Plain.result c.from_residual-in_err-ty-in-Plain.ensures.1 in rw (p.1, p.2) (let h = rw c.in-Plain.is at c.in_ok-joins.ensures in steps.fails_in steps.then_more h c.in_err-ty-in-Plain.ensures)

pub next_member-returns-in_err-next-in-Member : goal.next_member-returns-in_err-next-in-Member
next_member-returns-in_err-next-in-Member bound c = let p = err_from_is_err_and c.from_residual-in_err-next-in-Member.result c.from_residual-in_err-next-in-Member.ensures.1 in rw (p.1, p.2) (let h = rw c.in-Member.is at c.in_ok-joins.ensures in steps.fails_in steps.then_members h c.in_err-next-in-Member.ensures)

pub next_member-returns-in-Over : goal.next_member-returns-in-Over
next_member-returns-in-Over bound c = rw c.in-Over.is at c.in_ok-joins.ensures

pub next_member-returns-in_ok-ty-in-Plain : goal.next_member-returns-in_ok-ty-in-Plain
next_member-returns-in_ok-ty-in-Plain bound c = let h = rw c.in-Plain.is at c.in_ok-joins.ensures in steps.leads_less 1 (steps.leads_part steps.then_more h c.in_ok-ty-in-Plain.ensures) (omega arith)

pub next_member-returns-in_ok-next-in-Member : goal.next_member-returns-in_ok-next-in-Member
next_member-returns-in_ok-next-in-Member bound c = let h = rw c.in-Member.is at c.in_ok-joins.ensures in steps.leads_less 1 (steps.leads_part steps.then_members h c.in_ok-next-in-Member.ensures) (omega arith)

pub member-returns-then-eat : goal.member-returns-then-eat
member-returns-then-eat bound c = let h = c.if-eat.ensures in steps.turns_on (λ v. 1) (λ v. 1) (read Item.a_member) (behind_paren c.pos-pos.result) (λ v k. k (member_of v)) _ _ _ c.behind_paren.result (steps.at_head (sign s.OpenParen) (read Item.a_member) behind_paren steps.paren_leads _ _ _ h.0 c.pos-pos.ensures h.1) (λ v. omega arith) c.behind_paren.ensures

pub member-returns-in_err-ty : goal.member-returns-in_err-ty
member-returns-in_err-ty bound c = let p = err_from_is_err_and c.from_residual.result c.from_residual.ensures.1 in rw (p.1, p.2) (steps.fails_in steps.in_itself (let h = c.if-eat.ensures in steps.stayed h.0 (steps.member_leads _ h.1)) c.in_err-ty.ensures)

pub member-returns : goal.member-returns
member-returns bound c = steps.leads_part steps.in_itself (let h = c.if-eat.ensures in steps.stayed h.0 (steps.member_leads _ h.1)) c.in_ok-ty.ensures

pub plain-returns-in_err-braced : goal.plain-returns-in_err-braced
plain-returns-in_err-braced bound c = let p = err_from_is_err_and c.from_residual.result c.from_residual.ensures.1 in rw (p.1, p.2) (steps.fails_in steps.then_mark (let h = c.if-eat.ensures in steps.at_head (sign s.OpenBrace) (read Item.a_plain_member) steps.in_brace steps.brace_leads _ _ _ h.0 c.pos-pos.ensures h.1) c.in_err-braced.ensures)

pub plain-returns-in_err-ty : goal.plain-returns-in_err-ty
plain-returns-in_err-ty bound c = let p = err_from_is_err_and c.from_residual-in_err-ty.result c.from_residual-in_err-ty.ensures.1 in rw (p.1, p.2) (steps.fails_at (steps.leads_part steps.then_mark (let h = c.if-eat.ensures in steps.at_head (sign s.OpenBrace) (read Item.a_plain_member) steps.in_brace steps.brace_leads _ _ _ h.0 c.pos-pos.ensures h.1) c.in_ok-braced.ensures) c.in_err-ty.ensures)

pub plain-returns-then-eat : goal.plain-returns-then-eat
plain-returns-then-eat bound c = steps.leads_less 1 (steps.leads_on (steps.leads_part steps.then_mark (let h = c.if-eat.ensures in steps.at_head (sign s.OpenBrace) (read Item.a_plain_member) steps.in_brace steps.brace_leads _ _ _ h.0 c.pos-pos.ensures h.1) c.in_ok-braced.ensures) c.in_ok-ty.ensures) (omega arith)

pub plain-returns-in_err-simple : goal.plain-returns-in_err-simple
plain-returns-in_err-simple bound c = let p = err_from_is_err_and c.from_residual-in_err-simple.result c.from_residual-in_err-simple.ensures.1 in rw (p.1, p.2) (steps.fails_at (let h = c.if-eat.ensures in steps.stayed h.0 (steps.leads_same (read Item.a_plain_member) _)) (c.in_err-simple.ensures (steps.still (sign s.OpenBrace) _ _ c.if-eat.ensures.0 c.if-eat.ensures.1)))

pub plain-returns-in_err-ty-2 : goal.plain-returns-in_err-ty-2
plain-returns-in_err-ty-2 bound c = let p = err_from_is_err_and c.from_residual-in_err-ty-2.result c.from_residual-in_err-ty-2.ensures.1 in rw (p.1, p.2) (steps.fails_at (steps.leads_on (let h = c.if-eat.ensures in steps.stayed h.0 (steps.leads_same (read Item.a_plain_member) _)) (c.in_ok-simple.ensures (steps.still (sign s.OpenBrace) _ _ c.if-eat.ensures.0 c.if-eat.ensures.1))) c.in_err-ty-2.ensures)

pub plain-returns : goal.plain-returns
plain-returns bound c = steps.leads_less 1 (steps.leads_on (steps.leads_on (let h = c.if-eat.ensures in steps.stayed h.0 (steps.leads_same (read Item.a_plain_member) _)) (c.in_ok-simple.ensures (steps.still (sign s.OpenBrace) _ _ c.if-eat.ensures.0 c.if-eat.ensures.1))) c.in_ok-ty-2.ensures) (omega arith)

pub behind_paren-returns-in_err-inside : goal.behind_paren-returns-in_err-inside
behind_paren-returns-in_err-inside bound c = let p = err_from_is_err_and c.from_residual.result c.from_residual.ensures.1 in rw (p.1, p.2) (steps.fails_in (steps.then_behind c.args.pos) (steps.leads_same (behind_paren c.args.pos) _) (steps.tuple_fails _ s.CloseParen _ c.in_err-inside.ensures))

pub behind_paren-returns-in_err-inside-2 : goal.behind_paren-returns-in_err-inside-2
behind_paren-returns-in_err-inside-2 bound c = let p = err_from_is_err_and c.from_residual-in_err-inside-2.result c.from_residual-in_err-inside-2.ensures.1 in rw (p.1, p.2) (steps.fails_in (steps.then_behind c.args.pos) (steps.leads_same (behind_paren c.args.pos) _) c.in_err-inside-2.ensures)

pub behind_paren-returns-in_err-meets : goal.behind_paren-returns-in_err-meets
behind_paren-returns-in_err-meets bound c = let p = err_from_is_err_and c.from_residual-in_err-meets.result c.from_residual-in_err-meets.ensures.1 in rw (p.1, p.2) (steps.fails_at (steps.leads_part (steps.then_behind c.args.pos) (steps.leads_same (behind_paren c.args.pos) _) c.in_ok-inside-2.ensures) (steps.meets_fails (Item.behind_tuple _ _ _) _ _ _ c.in_err-meets.ensures))

pub behind_paren-returns-then-not-branch : goal.behind_paren-returns-then-not-branch
behind_paren-returns-then-not-branch bound c = let h = rw c.if-not-branch.true at c.in_ok-meets.ensures in steps.turns_on (λ v. 0) (λ v. 1) (behind_paren c.args.pos) (read (Item.behind_tuple c.args.pos c.in_ok-inside-2.inside.items c.in_ok-inside-2.inside.tail)) (λ v k. k (member_of v)) _ _ _ c.parenthesised.result (steps.stayed h.0 (steps.leads_part (steps.then_behind c.args.pos) (steps.leads_same (behind_paren c.args.pos) _) c.in_ok-inside-2.ensures)) (λ v. omega arith) (c.parenthesised.ensures (steps.still_there (sign s.Arrow) _ _ h))

pub behind_paren-returns-in_err-returned : goal.behind_paren-returns-in_err-returned
behind_paren-returns-in_err-returned bound c = let p = err_from_is_err_and c.from_residual-in_err-returned.result c.from_residual-in_err-returned.ensures.1 in rw (p.1, p.2) (let h = rw c.if-not-branch.false at c.in_ok-meets.ensures in steps.fails_in (steps.then_function c.args.pos c.in_ok-inside-2.inside.items c.in_ok-inside-2.inside.tail) (steps.leads_on (steps.leads_part (steps.then_behind c.args.pos) (steps.leads_same (behind_paren c.args.pos) _) c.in_ok-inside-2.ensures) (steps.took h.1 (steps.arrow_leads c.args.pos c.in_ok-inside-2.inside.items c.in_ok-inside-2.inside.tail h.0 _))) c.in_err-returned.ensures)

pub behind_paren-returns-in_err-ends_function : goal.behind_paren-returns-in_err-ends_function
behind_paren-returns-in_err-ends_function bound c = let p = err_from_is_err_and c.from_residual-in_err-ends_function.result c.from_residual-in_err-ends_function.ensures.1 in rw (p.1, p.2) (steps.fails_deep c.in_err-ends_function.ensures)

pub behind_paren-returns : goal.behind_paren-returns
behind_paren-returns bound c = let h = rw c.if-not-branch.false at c.in_ok-meets.ensures in steps.gives (steps.stayed c.in_ok-ends_function.ensures (steps.leads_less 1 (steps.leads_part (steps.then_function c.args.pos c.in_ok-inside-2.inside.items c.in_ok-inside-2.inside.tail) (steps.leads_on (steps.leads_part (steps.then_behind c.args.pos) (steps.leads_same (behind_paren c.args.pos) _) c.in_ok-inside-2.ensures) (steps.took h.1 (steps.arrow_leads c.args.pos c.in_ok-inside-2.inside.items c.in_ok-inside-2.inside.tail h.0 _))) c.in_ok-returned.ensures) (omega arith))) (sym c.function.ensures)

pub tuple-returns-then-eat : goal.tuple-returns-then-eat
tuple-returns-then-eat bound c = let h = c.if-eat.ensures in steps.gives (steps.took h.1 (steps.no_types h.0 _)) (steps.items_nil _ c.new-items.ensures)

pub tuple-loop-items-init : goal.tuple-loop-items-init
tuple-loop-items-init bound c = let h = c.if-eat.ensures in steps.stayed h.0 (steps.types_begin _ c.new-items.ensures (steps.types_lead _ h.1))

pub tuple-returns-in_err-ty : goal.tuple-returns-in_err-ty
tuple-returns-in_err-ty bound c = let p = err_from_is_err_and c.from_residual.result c.from_residual.ensures.1 in rw (p.1, p.2) (steps.fails_in (steps.in_row c.loop-items.items) c.loop-items.invariant c.in_err-ty.ensures)

pub tuple-returns-in_err-want : goal.tuple-returns-in_err-want
tuple-returns-in_err-want bound c = let p = err_from_is_err_and c.from_residual-in_err-want.result c.from_residual-in_err-want.ensures.1 in rw (p.1, p.2) (steps.want_fails (sign s.CloseParen) (λ k _. k (c.loop-items.items ++ [], Some c.in_ok-ty.ty)) (steps.leads_part (steps.packed c.loop-items.items) (steps.leads_part (steps.in_row c.loop-items.items) c.loop-items.invariant c.in_ok-ty.ensures) (steps.took c.if-eat-2.ensures.1 (steps.star_leads c.in_ok-ty.ty c.if-eat-2.ensures.0 _))) c.in_err-want.ensures)

pub tuple-returns-in_err-new : goal.tuple-returns-in_err-new
tuple-returns-in_err-new bound c = let p = err_from_is_err_and c.from_residual-in_err-new.result c.from_residual-in_err-new.ensures.1 in rw (p.1, p.2) (steps.fails_memory refl)

pub tuple-returns-then-eat-2 : goal.tuple-returns-then-eat-2
tuple-returns-then-eat-2 bound c = steps.gives (steps.leads_less 1 (steps.leads_want (sign s.CloseParen) (λ k. k (c.loop-items.items ++ [], Some c.in_ok-ty.ty)) (steps.leads_part (steps.packed c.loop-items.items) (steps.leads_part (steps.in_row c.loop-items.items) c.loop-items.invariant c.in_ok-ty.ensures) (steps.took c.if-eat-2.ensures.1 (steps.star_leads c.in_ok-ty.ty c.if-eat-2.ensures.0 _))) c.in_ok-want.ensures) (omega arith)) (steps.items_tail _ _ _ c.in_ok-new.ensures)

pub tuple-returns-in_err-push : goal.tuple-returns-in_err-push
tuple-returns-in_err-push bound c = let p = err_from_is_err_and c.from_residual-in_err-push.result c.from_residual-in_err-push.ensures.1 in rw (p.1, p.2) (steps.fails_memory refl)

pub tuple-returns-in_err-want-2 : goal.tuple-returns-in_err-want-2
tuple-returns-in_err-want-2 bound c = let p = err_from_is_err_and c.from_residual-in_err-want-2.result c.from_residual-in_err-want-2.ensures.1 in rw (p.1, p.2) (steps.want_fails (sign s.CloseParen) (λ k _. k (c.loop-items.items ++ (c.in_ok-ty.ty ∷ []), None)) (steps.leads_part (steps.packed c.loop-items.items) (steps.leads_part (steps.in_row c.loop-items.items) c.loop-items.invariant c.in_ok-ty.ensures) (steps.stayed (c.if-not-eat.ensures.0 ∙ c.if-eat-2.ensures.0) (steps.last_leads c.in_ok-ty.ty _ c.if-eat-2.ensures.1 (ap (head_is (sign s.Comma)) (sym c.if-eat-2.ensures.0) ∙ c.if-not-eat.ensures.1)))) c.in_err-want-2.ensures)

pub tuple-returns-then-not-eat : goal.tuple-returns-then-not-eat
tuple-returns-then-not-eat bound c = steps.gives (steps.leads_less 1 (steps.leads_want (sign s.CloseParen) (λ k. k (c.loop-items.items ++ (c.in_ok-ty.ty ∷ []), None)) (steps.leads_part (steps.packed c.loop-items.items) (steps.leads_part (steps.in_row c.loop-items.items) c.loop-items.invariant c.in_ok-ty.ensures) (steps.stayed (c.if-not-eat.ensures.0 ∙ c.if-eat-2.ensures.0) (steps.last_leads c.in_ok-ty.ty _ c.if-eat-2.ensures.1 (ap (head_is (sign s.Comma)) (sym c.if-eat-2.ensures.0) ∙ c.if-not-eat.ensures.1)))) c.in_ok-want-2.ensures) (omega arith)) (steps.items_last _ _ _ c.in_ok-push.ensures.ok)

pub tuple-loop-items-preserved : goal.tuple-loop-items-preserved
tuple-loop-items-preserved bound c = steps.types_more _ _ _ (steps.leads_part (steps.packed c.loop-items.items) (steps.leads_part (steps.in_row c.loop-items.items) c.loop-items.invariant c.in_ok-ty.ensures) (steps.took (sym c.if-eat-2.ensures.0 ∙ c.if-not-eat.ensures.1) (steps.comma_leads c.in_ok-ty.ty c.if-not-eat.ensures.0 _))) c.in_ok-push.ensures.ok

pub results-returns-in_err-in_results : goal.results-returns-in_err-in_results
results-returns-in_err-in_results bound c = let p = err_from_is_err_and c.from_residual.result c.from_residual.ensures.1 in rw (p.1, p.2) (steps.fails_deep c.in_err-in_results.ensures)

pub results-returns-in_err-ty : goal.results-returns-in_err-ty
results-returns-in_err-ty bound c = let p = err_from_is_err_and c.from_residual-in_err-ty.result c.from_residual-in_err-ty.ensures.1 in rw (p.1, p.2) (steps.fails_in steps.as_single (let h = c.if-not-eat.ensures in steps.stayed h.0 (steps.result_leads _ h.1)) c.in_err-ty.ensures)

pub results-returns-in_err-single : goal.results-returns-in_err-single
results-returns-in_err-single bound c = let p = err_from_is_err_and c.from_residual-in_err-single.result c.from_residual-in_err-single.ensures.1 in rw (p.1, p.2) (steps.fails_memory refl)

pub results-returns-then-not-eat : goal.results-returns-then-not-eat
results-returns-then-not-eat bound c = steps.gives (steps.leads_part steps.as_single (let h = c.if-not-eat.ensures in steps.stayed h.0 (steps.result_leads _ h.1)) c.in_ok-ty.ensures) (steps.single_is _ _ c.in_ok-single.ensures)

pub results-returns-in_err-inside : goal.results-returns-in_err-inside
results-returns-in_err-inside bound c = let p = err_from_is_err_and c.from_residual-in_err-inside.result c.from_residual-in_err-inside.ensures.1 in rw (p.1, p.2) (let h = c.if-not-eat.ensures in steps.fails_in (steps.one_tuple c.pos-pos.result) (steps.at_head (sign s.OpenParen) (read Item.some_results) steps.first_tuple steps.results_lead _ _ _ h.0 c.pos-pos.ensures h.1) (steps.tuple_fails _ s.CloseParen _ c.in_err-inside.ensures))

pub results-loop-tuples-init : goal.results-loop-tuples-init
results-loop-tuples-init bound c = let h = c.if-not-eat.ensures in steps.tuples_begin c.pos-pos.result _ c.new-tuples.ensures (steps.at_head (sign s.OpenParen) (read Item.some_results) steps.first_tuple steps.results_lead _ _ _ h.0 c.pos-pos.ensures h.1)

pub results-returns-in_err-types : goal.results-returns-in_err-types
results-returns-in_err-types bound c = let p = err_from_is_err_and c.from_residual-in_err-types.result c.from_residual-in_err-types.ensures.1 in rw (p.1, p.2) (steps.fails_in (steps.more_tuples c.pos-pos.result c.loop-tuples.tuples) c.loop-tuples.invariant c.in_err-types.ensures)

pub results-returns-in_err-push : goal.results-returns-in_err-push
results-returns-in_err-push bound c = let p = err_from_is_err_and c.from_residual-in_err-push.result c.from_residual-in_err-push.ensures.1 in rw (p.1, p.2) (steps.fails_memory refl)

pub results-returns-in_err-meets : goal.results-returns-in_err-meets
results-returns-in_err-meets bound c = let p = err_from_is_err_and c.from_residual-in_err-meets.result c.from_residual-in_err-meets.ensures.1 in rw (p.1, p.2) (steps.fails_in (steps.returned c.pos-pos.result c.push.new.self) (steps.tuples_pushed c.pos-pos.result c.loop-tuples.tuples c.push.new.self _ _ (steps.leads_part (steps.more_tuples c.pos-pos.result c.loop-tuples.tuples) c.loop-tuples.invariant c.in_ok-types.ensures) c.tuple_of.ensures c.in_ok-push.ensures.ok) (steps.meets_fails Item.more_results _ _ _ c.in_err-meets.ensures))

pub results-returns-then-not-branch : goal.results-returns-then-not-branch
results-returns-then-not-branch bound c = let h = rw c.if-not-branch.true at c.in_ok-meets.ensures in steps.gives (steps.leads_less 1 (steps.leads_part (steps.returned c.pos-pos.result c.push.new.self) (steps.tuples_pushed c.pos-pos.result c.loop-tuples.tuples c.push.new.self _ _ (steps.leads_part (steps.more_tuples c.pos-pos.result c.loop-tuples.tuples) c.loop-tuples.invariant c.in_ok-types.ensures) c.tuple_of.ensures c.in_ok-push.ensures.ok) (steps.stayed h.0 (steps.results_end_leads _ h.1 h.2))) (omega arith)) (steps.returned_is c.pos-pos.result c.push.new.self _)

pub results-returns-in_err-meets-2 : goal.results-returns-in_err-meets-2
results-returns-in_err-meets-2 bound c = let p = err_from_is_err_and c.from_residual-in_err-meets-2.result c.from_residual-in_err-meets-2.ensures.1 in rw (p.1, p.2) (steps.fails_in (steps.returned c.pos-pos.result c.push.new.self) (let g = rw c.if-not-branch.false at c.in_ok-meets.ensures in steps.leads_part (steps.returned c.pos-pos.result c.push.new.self) (steps.tuples_pushed c.pos-pos.result c.loop-tuples.tuples c.push.new.self _ _ (steps.leads_part (steps.more_tuples c.pos-pos.result c.loop-tuples.tuples) c.loop-tuples.invariant c.in_ok-types.ensures) c.tuple_of.ensures c.in_ok-push.ensures.ok) (steps.took g.1 (steps.more_results_lead g.0 _))) (steps.meets_fails Item.behind_bar _ _ _ c.in_err-meets-2.ensures))

pub results-returns-then-not-branch-2 : goal.results-returns-then-not-branch-2
results-returns-then-not-branch-2 bound c = let h = rw c.if-not-branch-2.true at c.in_ok-meets-2.ensures in steps.gives (steps.leads_less 1 (steps.leads_part (steps.returned c.pos-pos.result c.push.new.self) (let g = rw c.if-not-branch.false at c.in_ok-meets.ensures in steps.leads_part (steps.returned c.pos-pos.result c.push.new.self) (steps.tuples_pushed c.pos-pos.result c.loop-tuples.tuples c.push.new.self _ _ (steps.leads_part (steps.more_tuples c.pos-pos.result c.loop-tuples.tuples) c.loop-tuples.invariant c.in_ok-types.ensures) c.tuple_of.ensures c.in_ok-push.ensures.ok) (steps.took g.1 (steps.more_results_lead g.0 _))) (steps.stayed h.0 (steps.joined_results_lead _ h.1 h.2))) (omega arith)) (steps.returned_is c.pos-pos.result c.push.new.self _)

pub results-loop-tuples-preserved : goal.results-loop-tuples-preserved
results-loop-tuples-preserved bound c = let h = rw c.if-not-branch-2.false at c.in_ok-meets-2.ensures in steps.leads_less 1 (steps.leads_part (steps.returned c.pos-pos.result c.push.new.self) (let g = rw c.if-not-branch.false at c.in_ok-meets.ensures in steps.leads_part (steps.returned c.pos-pos.result c.push.new.self) (steps.tuples_pushed c.pos-pos.result c.loop-tuples.tuples c.push.new.self _ _ (steps.leads_part (steps.more_tuples c.pos-pos.result c.loop-tuples.tuples) c.loop-tuples.invariant c.in_ok-types.ensures) c.tuple_of.ensures c.in_ok-push.ensures.ok) (steps.took g.1 (steps.more_results_lead g.0 _))) (steps.took h.1 (steps.next_results_lead h.0 _))) (omega arith)

pub braces-returns-in_err-inside : goal.braces-returns-in_err-inside
braces-returns-in_err-inside bound c = let p = err_from_is_err_and c.from_residual.result c.from_residual.ensures.1 in rw (p.1, p.2) (steps.braces_fails c.args.pos _ _ c.in_err-inside.ensures)

pub braces-returns-then-eat : goal.braces-returns-then-eat
braces-returns-then-eat bound c = let h = c.if-eat.ensures in steps.gives (steps.took h.1 (steps.no_fields_lead c.args.pos h.0 _)) (ap (t.Record c.args.pos) (sym c.new.ensures))

pub braces-returns-then-eat-2 : goal.braces-returns-then-eat-2
braces-returns-then-eat-2 bound c = steps.turns_on (λ v. 1) (λ v. 1) (read (Item.in_braces c.args.pos)) (rest_of_map c.args.pos) (λ v k. k v) _ _ _ c.map.result (steps.took (sym c.if-eat.ensures.0 ∙ c.if-eat-2.ensures.1) (steps.map_leads c.args.pos c.if-eat-2.ensures.0 _)) (λ v. omega arith) c.map.ensures

pub braces-returns-in_err-name : goal.braces-returns-in_err-name
braces-returns-in_err-name bound c = let p = err_from_is_err_and c.from_residual-in_err-name.result c.from_residual-in_err-name.ensures.1 in rw (p.1, p.2) (steps.fails_memory c.in_err-name.ensures)

pub braces-returns-in-Some : goal.braces-returns-in-Some
braces-returns-in-Some bound c = let h = rw c.in-Some.is at c.in_ok-name.ensures in steps.turns_on (λ v. 1) (λ v. 1) (read (Item.in_braces c.args.pos)) (read (Item.named_in_braces c.args.pos c.in-Some.name)) (λ v k. k v) _ _ _ c.named_in_braces.result (steps.took (sym (c.if-eat-2.ensures.0 ∙ c.if-eat.ensures.0) ∙ h) (steps.name_leads c.args.pos c.in-Some.name _)) (λ v. omega arith) c.named_in_braces.ensures

pub braces-returns-in_err-ty-in-None : goal.braces-returns-in_err-ty-in-None
braces-returns-in_err-ty-in-None bound c = let p = err_from_is_err_and c.from_residual-in_err-ty-in-None.result c.from_residual-in_err-ty-in-None.ensures.1 in rw (p.1, p.2) (steps.fails_in (steps.then_array c.args.pos) (let n = rw c.in-None.is at c.in_ok-name.ensures in steps.stayed (n.0 ∙ c.if-eat-2.ensures.0 ∙ c.if-eat.ensures.0) (steps.array_leads c.args.pos _ c.if-eat.ensures.1 (ap (head_is (sign s.OpenBracket)) (sym c.if-eat.ensures.0) ∙ c.if-eat-2.ensures.1) (ap head_name (sym (c.if-eat-2.ensures.0 ∙ c.if-eat.ensures.0)) ∙ n.1))) c.in_err-ty-in-None.ensures)

pub braces-returns-in_ok-ty-in-None : goal.braces-returns-in_ok-ty-in-None
braces-returns-in_ok-ty-in-None bound c = steps.turns_on (λ v. 1) (λ v. 1) (read (Item.in_braces c.args.pos)) (end_of_array c.args.pos c.in_ok-ty-in-None.ty) (λ v k. k v) _ _ _ c.array.result (steps.leads_part (steps.then_array c.args.pos) (let n = rw c.in-None.is at c.in_ok-name.ensures in steps.stayed (n.0 ∙ c.if-eat-2.ensures.0 ∙ c.if-eat.ensures.0) (steps.array_leads c.args.pos _ c.if-eat.ensures.1 (ap (head_is (sign s.OpenBracket)) (sym c.if-eat.ensures.0) ∙ c.if-eat-2.ensures.1) (ap head_name (sym (c.if-eat-2.ensures.0 ∙ c.if-eat.ensures.0)) ∙ n.1))) c.in_ok-ty-in-None.ensures) (λ v. omega arith) c.array.ensures

pub map-returns-in_err-inside : goal.map-returns-in_err-inside
map-returns-in_err-inside bound c = let p = err_from_is_err_and c.from_residual.result c.from_residual.ensures.1 in rw (p.1, p.2) (steps.map_fails c.args.pos _ s.OpenBrace s.OpenBrace _ c.in_err-inside.ensures)

pub map-returns-in_err-key : goal.map-returns-in_err-key
map-returns-in_err-key bound c = let p = err_from_is_err_and c.from_residual-in_err-key.result c.from_residual-in_err-key.ensures.1 in rw (p.1, p.2) (steps.fails_in (steps.map_key c.args.pos) (steps.leads_same (rest_of_map c.args.pos) _) c.in_err-key.ensures)

pub map-returns-in_err-want : goal.map-returns-in_err-want
map-returns-in_err-want bound c = let p = err_from_is_err_and c.from_residual-in_err-want.result c.from_residual-in_err-want.ensures.1 in rw (p.1, p.2) (steps.want_fails (sign s.CloseBracket) (λ k _. steps.map_colon c.args.pos c.in_ok-key.key k) (steps.leads_part (steps.map_key c.args.pos) (steps.leads_same (rest_of_map c.args.pos) _) c.in_ok-key.ensures) c.in_err-want.ensures)

pub map-returns-in_err-want-2 : goal.map-returns-in_err-want-2
map-returns-in_err-want-2 bound c = let p = err_from_is_err_and c.from_residual-in_err-want-2.result c.from_residual-in_err-want-2.ensures.1 in rw (p.1, p.2) (steps.want_fails (sign s.Colon) (λ k _. steps.map_value c.args.pos c.in_ok-key.key k) (steps.leads_want (sign s.CloseBracket) (steps.map_colon c.args.pos c.in_ok-key.key) (steps.leads_part (steps.map_key c.args.pos) (steps.leads_same (rest_of_map c.args.pos) _) c.in_ok-key.ensures) c.in_ok-want.ensures) c.in_err-want-2.ensures)

pub map-returns-in_err-value : goal.map-returns-in_err-value
map-returns-in_err-value bound c = let p = err_from_is_err_and c.from_residual-in_err-value.result c.from_residual-in_err-value.ensures.1 in rw (p.1, p.2) (steps.fails_in (steps.map_end c.args.pos c.in_ok-key.key) (steps.leads_want (sign s.Colon) (steps.map_value c.args.pos c.in_ok-key.key) (steps.leads_want (sign s.CloseBracket) (steps.map_colon c.args.pos c.in_ok-key.key) (steps.leads_part (steps.map_key c.args.pos) (steps.leads_same (rest_of_map c.args.pos) _) c.in_ok-key.ensures) c.in_ok-want.ensures) c.in_ok-want-2.ensures) c.in_err-value.ensures)

pub map-returns-in_err-want-3 : goal.map-returns-in_err-want-3
map-returns-in_err-want-3 bound c = let p = err_from_is_err_and c.from_residual-in_err-want-3.result c.from_residual-in_err-want-3.ensures.1 in rw (p.1, p.2) (steps.want_fails (sign s.CloseBrace) (λ k _. k (t.Map c.args.pos c.in_ok-key.key c.in_ok-value.value)) (steps.leads_part (steps.map_end c.args.pos c.in_ok-key.key) (steps.leads_want (sign s.Colon) (steps.map_value c.args.pos c.in_ok-key.key) (steps.leads_want (sign s.CloseBracket) (steps.map_colon c.args.pos c.in_ok-key.key) (steps.leads_part (steps.map_key c.args.pos) (steps.leads_same (rest_of_map c.args.pos) _) c.in_ok-key.ensures) c.in_ok-want.ensures) c.in_ok-want-2.ensures) c.in_ok-value.ensures) c.in_err-want-3.ensures)

pub map-returns-in_err-closes : goal.map-returns-in_err-closes
map-returns-in_err-closes bound c = let p = err_from_is_err_and c.from_residual-in_err-closes.result c.from_residual-in_err-closes.ensures.1 in rw (p.1, p.2) (steps.fails_deep c.in_err-closes.ensures)

pub map-returns-in_err-map_type : goal.map-returns-in_err-map_type
map-returns-in_err-map_type bound c = let p = err_from_is_err_and c.from_residual-in_err-map_type.result c.from_residual-in_err-map_type.ensures.1 in rw (p.1, p.2) (steps.fails_memory refl)

pub map-returns : goal.map-returns
map-returns bound c = steps.gives (steps.stayed c.in_ok-closes.ensures (steps.leads_less 1 (steps.leads_want (sign s.CloseBrace) (λ k. k (t.Map c.args.pos c.in_ok-key.key c.in_ok-value.value)) (steps.leads_part (steps.map_end c.args.pos c.in_ok-key.key) (steps.leads_want (sign s.Colon) (steps.map_value c.args.pos c.in_ok-key.key) (steps.leads_want (sign s.CloseBracket) (steps.map_colon c.args.pos c.in_ok-key.key) (steps.leads_part (steps.map_key c.args.pos) (steps.leads_same (rest_of_map c.args.pos) _) c.in_ok-key.ensures) c.in_ok-want.ensures) c.in_ok-want-2.ensures) c.in_ok-value.ensures) c.in_ok-want-3.ensures) (omega arith))) (sym c.in_ok-map_type.ensures)

pub named_in_braces-returns-in_err-first : goal.named_in_braces-returns-in_err-first
named_in_braces-returns-in_err-first bound c = let p = err_from_is_err_and c.from_residual.result c.from_residual.ensures.1 in rw (p.1, p.2) (steps.named_fails c.args.pos c.args.name _ _ _ c.in_err-first.ensures)

pub named_in_braces-returns-in_err-fields-in-Field : goal.named_in_braces-returns-in_err-fields-in-Field
named_in_braces-returns-in_err-fields-in-Field bound c = let p = err_from_is_err_and c.from_residual-in_err-fields-in-Field.result c.from_residual-in_err-fields-in-Field.ensures.1 in rw (p.1, p.2) (steps.fails_in (steps.as_record c.args.pos) (steps.named_field_leads c.args.pos c.args.name _ _ _ (rw c.in-Field.is at c.in_ok-first.ensures)) c.in_err-fields-in-Field.ensures)

pub named_in_braces-returns-in_err-closes-in-Field : goal.named_in_braces-returns-in_err-closes-in-Field
named_in_braces-returns-in_err-closes-in-Field bound c = let p = err_from_is_err_and c.from_residual-in_err-closes-in-Field.result c.from_residual-in_err-closes-in-Field.ensures.1 in rw (p.1, p.2) (steps.fails_deep c.in_err-closes-in-Field.ensures)

pub named_in_braces-returns-in_err-named-in-Other : goal.named_in_braces-returns-in_err-named-in-Other
named_in_braces-returns-in_err-named-in-Other bound c = let p = err_from_is_err_and c.from_residual-in_err-named-in-Other.result c.from_residual-in_err-named-in-Other.ensures.1 in rw (p.1, p.2) (steps.fails_in (steps.then_union c.args.pos) (steps.named_other_leads c.args.pos c.args.name _ _ _ (rw c.in-Other.is at c.in_ok-first.ensures)) c.in_err-named-in-Other.ensures)

pub named_in_braces-returns-in_err-ty-in-Other : goal.named_in_braces-returns-in_err-ty-in-Other
named_in_braces-returns-in_err-ty-in-Other bound c = let p = err_from_is_err_and c.from_residual-in_err-ty-in-Other.result c.from_residual-in_err-ty-in-Other.ensures.1 in rw (p.1, p.2) (steps.fails_in (steps.after_mark c.args.pos) (steps.leads_part (steps.then_union c.args.pos) (steps.named_other_leads c.args.pos c.args.name _ _ _ (rw c.in-Other.is at c.in_ok-first.ensures)) c.in_ok-named-in-Other.ensures) c.in_err-ty-in-Other.ensures)

pub named_in_braces-returns-in_err-item-in-Other : goal.named_in_braces-returns-in_err-item-in-Other
named_in_braces-returns-in_err-item-in-Other bound c = let p = err_from_is_err_and c.from_residual-in_err-item-in-Other.result c.from_residual-in_err-item-in-Other.ensures.1 in rw (p.1, p.2) (steps.fails_in (steps.then_array c.args.pos) (steps.leads_part (steps.after_mark c.args.pos) (steps.leads_part (steps.then_union c.args.pos) (steps.named_other_leads c.args.pos c.args.name _ _ _ (rw c.in-Other.is at c.in_ok-first.ensures)) c.in_ok-named-in-Other.ensures) c.in_ok-ty-in-Other.ensures) c.in_err-item-in-Other.ensures)

pub named_in_braces-returns-in_ok-closes-in-Field : goal.named_in_braces-returns-in_ok-closes-in-Field
named_in_braces-returns-in_ok-closes-in-Field bound c = steps.stayed c.in_ok-closes-in-Field.ensures (steps.leads_less 1 (steps.leads_part (steps.as_record c.args.pos) (steps.named_field_leads c.args.pos c.args.name _ _ _ (rw c.in-Field.is at c.in_ok-first.ensures)) c.in_ok-fields-in-Field.ensures) (omega arith))

pub named_in_braces-returns-in_ok-item-in-Other : goal.named_in_braces-returns-in_ok-item-in-Other
named_in_braces-returns-in_ok-item-in-Other bound c = steps.turns_on (λ v. 1) (λ v. 1) (read (Item.named_in_braces c.args.pos c.args.name)) (end_of_array c.args.pos c.in_ok-item-in-Other.item) (λ v k. k v) _ _ _ c.array.result (steps.leads_part (steps.then_array c.args.pos) (steps.leads_part (steps.after_mark c.args.pos) (steps.leads_part (steps.then_union c.args.pos) (steps.named_other_leads c.args.pos c.args.name _ _ _ (rw c.in-Other.is at c.in_ok-first.ensures)) c.in_ok-named-in-Other.ensures) c.in_ok-ty-in-Other.ensures) c.in_ok-item-in-Other.ensures) (λ v. omega arith) c.array.ensures

pub fields-loop-start-init : goal.fields-loop-start-init
fields-loop-start-init bound c = steps.fields_start c.args.first _ _ c.new-fields.ensures

pub fields-returns-in_err-ty : goal.fields-returns-in_err-ty
fields-returns-in_err-ty bound c = let p = err_from_is_err_and c.from_residual.result c.from_residual.ensures.1 in rw (p.1, p.2) (steps.fails_in (steps.typed_field c.loop-start.start c.loop-start.fields) c.loop-start.invariant c.in_err-ty.ensures)

pub fields-returns-in_err-push : goal.fields-returns-in_err-push
fields-returns-in_err-push bound c = let p = err_from_is_err_and c.from_residual-in_err-push.result c.from_residual-in_err-push.ensures.1 in rw (p.1, p.2) (steps.fails_memory refl)

pub fields-returns-in_err-next : goal.fields-returns-in_err-next
fields-returns-in_err-next bound c = let p = err_from_is_err_and c.from_residual-in_err-next.result c.from_residual-in_err-next.ensures.1 in rw (p.1, p.2) (steps.fails_in (steps.fields_with c.push.new.self) (steps.fields_pushed c.loop-start.fields c.push.new.self _ _ (steps.leads_part (steps.typed_field c.loop-start.start c.loop-start.fields) c.loop-start.invariant c.in_ok-ty.ensures) c.field_of.ensures c.in_ok-push.ensures.ok) c.in_err-next.ensures)

pub fields-returns-in-None : goal.fields-returns-in-None
fields-returns-in-None bound c = let h = rw c.in-None.is at c.in_ok-next.ensures in steps.gives (steps.leads_less 1 (steps.leads_part (steps.fields_with c.push.new.self) (steps.fields_pushed c.loop-start.fields c.push.new.self _ _ (steps.leads_part (steps.typed_field c.loop-start.start c.loop-start.fields) c.loop-start.invariant c.in_ok-ty.ensures) c.field_of.ensures c.in_ok-push.ensures.ok) h) (omega arith)) (append-nil c.push.new.self)

pub fields-loop-start-preserved : goal.fields-loop-start-preserved
fields-loop-start-preserved bound c = let h = rw c.in-Some.is at c.in_ok-next.ensures in steps.leads_less 0 (steps.leads_part (steps.fields_with c.push.new.self) (steps.fields_pushed c.loop-start.fields c.push.new.self _ _ (steps.leads_part (steps.typed_field c.loop-start.start c.loop-start.fields) c.loop-start.invariant c.in_ok-ty.ensures) c.field_of.ensures c.in_ok-push.ensures.ok) h) (omega arith)

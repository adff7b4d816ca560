use Rattle.std.proofs.Common.{◌≡◌, sym, ap, ap₂, ◌∙◌, ◌+◌, ◌<◌, length, drop, length-drop, map, [], ◌∷◌, ◌++◌, append_assoc, Some, true, false, arith}
use Rattle.std.specs.Option.{option_map, is_some}
use Rattle.std.proofs.lemmas.List.{append-nil, drop_all}
use Rattle.lua_tree.specs.declared.syntax.Block.{out-Block}
use Rattle.lua_tree.specs.declared.syntax.Body.{out-Body}
use Rattle.lua_tree.specs.declared.syntax.Clause.{out-Clause}
use Rattle.lua_tree.specs.Tree as tree
use Rattle.lua_tree.specs.View.{exp_of, exps_of, stat_of, block_of, clauses_of, targets_of, entries_of, function_of, return_of, block_from, end_from, step_from, else_from}
use Rattle.lua_tree.proofs.Views.{exp_of-Nil, exp_of-Bool, exp_of-Int, exp_of-Str, exp_of-Vararg, exp_of-Function, exp_of-Name, exp_of-Paren, exp_of-Field, exp_of-Index, exp_of-Call, exp_of-Method, exp_of-Table, exp_of-Unary, exp_of-Binary, exp_of-Mark, stat_of-Empty, stat_of-Interface, stat_of-Alias, stat_of-Assign, stat_of-Call, stat_of-Break, stat_of-Do, stat_of-While, stat_of-Repeat, stat_of-If, stat_of-NumericFor, stat_of-GenericFor, stat_of-Function, stat_of-Method, stat_of-LocalFunction, stat_of-Local}
use Rattle.lua_tree.specs.Places.{place_of}
use Rattle.lua_meaning.specs.Trees.{first_place}
use Rattle.lua_meaning.specs.Locals.{exp_locals, exps_locals, entries_locals, targets_locals}
use Rattle.lua_code.specs.Generated.{field_instr, stores, iterate_code, captures_in, inside, begin_locals}
use Rattle.lua_code.specs.Sizes.{function_inner, block_size, block_slots, exp_size}
use Rattle.lua_code.specs.declared.code.Instr.TheVariants as instr
use Rattle.code_gen.specs.Pieces.{between, settled, behind}
use Rattle.code_gen.specs.Work.{Work, base, is_open, skip, put_all, put, free_from, next_from, declaring, leaving, with_exp, with_values, with_list, with_function, with_body, at_work, finished, with_scoped, with_block, with_step, with_else, with_clauses, with_count_begun, with_each_begun, with_bound, patched, all_patched, last_jumps}
use Rattle.code_gen.proofs.Forms.Expressions.{nothing_form, truth_form, integer_form, text_form, name_form, field_form, index_form, table_form, paren_form, function_form, unary_form, vararg_form, call_form, method_form, marked_form, list_none, no_step_form, step_form}
use Rattle.code_gen.proofs.Forms.Statements.{scoped_form, finish_form, returns_form, next_form, empty_form, interface_form, alias_form, define_method_form, run_form, leave_form, scope_form, repeat_form, no_clause_form, no_else_form, else_form, define_form, declare_function_form, declare_form}
use Rattle.code_gen.proofs.Forms.Functions.{function_written, function_number}
use Rattle.code_gen.proofs.Forms.Numbers.{while_written, assign_written, count_written, each_written, count_at, each_at}
use Rattle.code_gen.proofs.Patches.{binary_at, binary_settled, clause_settled, clause_place, last_jump, choose_settled}
use Rattle.code_gen.proofs.Values.{inner_written, last_written, open_written}
use Rattle.code_gen.proofs.Lists.{targets_counted}
use Rattle.code_gen.proofs.Seen.{body_seen, clause_seen, return_seen, item_seen, values_seen, stat_seen}
use Rattle.code_gen.proofs.writer.Writer.+writing.Goals as goal
use Rattle.code_gen.proofs.writer.Writer.+writing.Goals.{list-then-count-values+in_ok-exp, list-else-count-values+in_ok-values+else-branch}

-- ---- expressions

pub values-returns-in_ok-put-in-Nil-clause-code : goal.values-returns-in_ok-put-in-Nil-clause-code
values-returns-in_ok-put-in-Nil-clause-code t c =
    values_seen (exp_of c.args.e.now) (tree.nothing c.in-Nil.pos) c.args.self.now _ (ap exp_of c.in-Nil.is ∙ exp_of-Nil c.in-Nil.pos)
    (c.in_ok-put-in-Nil.ensures ∙ nothing_form c.in-Nil.pos c.args.self.now)

pub values-returns-in_ok-put-in-Bool-clause-code : goal.values-returns-in_ok-put-in-Bool-clause-code
values-returns-in_ok-put-in-Bool-clause-code t c =
    values_seen (exp_of c.args.e.now) (tree.truth c.in-Bool.pos c.in-Bool.truth) c.args.self.now _ (ap exp_of c.in-Bool.is ∙ exp_of-Bool c.in-Bool.pos c.in-Bool.truth)
    (c.in_ok-put-in-Bool.ensures ∙ ap (λ i. put i c.in-Bool.pos c.args.self.now) c.truth_instr.ensures ∙ truth_form c.in-Bool.pos c.in-Bool.truth c.args.self.now)

pub values-returns-in_ok-put-in-Int-clause-code : goal.values-returns-in_ok-put-in-Int-clause-code
values-returns-in_ok-put-in-Int-clause-code t c =
    values_seen (exp_of c.args.e.now) (tree.integer c.in-Int.pos c.in-Int.number) c.args.self.now _ (ap exp_of c.in-Int.is ∙ exp_of-Int c.in-Int.pos c.in-Int.number)
    (c.in_ok-put-in-Int.ensures ∙ ap (λ i. put i c.in-Int.pos c.args.self.now) c.int_instr.ensures ∙ integer_form c.in-Int.pos c.in-Int.number c.args.self.now)

pub values-returns-in_ok-put-in-Str-clause-code : goal.values-returns-in_ok-put-in-Str-clause-code
values-returns-in_ok-put-in-Str-clause-code t c =
    values_seen (exp_of c.args.e.now) (tree.text c.in-Str.pos c.in-Str.text) c.args.self.now _ (ap exp_of c.in-Str.is ∙ exp_of-Str c.in-Str.pos c.in-Str.text)
    (c.in_ok-put-in-Str.ensures ∙ ap (λ s. put (instr.Str s) c.in-Str.pos c.args.self.now) c.in_ok-copy-in-Str.ensures ∙ text_form c.in-Str.pos c.in-Str.text c.args.self.now)

pub values-returns-in_ok-put-in-Vararg-clause-code : goal.values-returns-in_ok-put-in-Vararg-clause-code
values-returns-in_ok-put-in-Vararg-clause-code t c =
    values_seen (exp_of c.args.e.now) (tree.one_of (tree.vararg c.in-Vararg.pos)) c.args.self.now _ (ap exp_of c.in-Vararg.is ∙ exp_of-Vararg c.in-Vararg.pos)
    (c.in_ok-put-in-Vararg.ensures ∙ vararg_form c.in-Vararg.pos c.args.self.now)

pub values-returns-in_ok-put-in-Function-clause-code : goal.values-returns-in_ok-put-in-Function-clause-code
values-returns-in_ok-put-in-Function-clause-code t c =
    let f : tree.Function = function_of c.in-Function.body in
    let same : function_of c.get.result.now ≡ f = ap function_of c.get.ensures in
    values_seen (exp_of c.args.e.now) (tree.function c.in-Function.pos f) c.args.self.now _ (ap exp_of c.in-Function.is ∙ exp_of-Function c.in-Function.pos c.in-Function.body)
    (c.in_ok-put-in-Function.ensures
    ∙ ap₂ (λ n v. put (instr.Closure n) c.in-Function.pos v) c.in_ok-number-in-Function.ensures.number c.in_ok-number-in-Function.ensures.code
    ∙ ap (λ z. put (instr.Closure (base c.args.self.now + function_inner z)) c.in-Function.pos (with_function z c.in-Function.pos c.args.self.now)) same
    ∙ function_form c.in-Function.pos f c.args.self.now)

pub values-returns-in_ok-put-in-Name-clause-code : goal.values-returns-in_ok-put-in-Name-clause-code
values-returns-in_ok-put-in-Name-clause-code t c =
    values_seen (exp_of c.args.e.now) (tree.name c.in-Name.pos c.in-Name.number c.in-Name.field-2) c.args.self.now _ (ap exp_of c.in-Name.is ∙ exp_of-Name c.in-Name.pos c.in-Name.number c.in-Name.field-2)
    (c.in_ok-put-in-Name.ensures ∙ ap (λ i. put i c.in-Name.pos c.args.self.now) c.read-instr.ensures ∙ name_form c.in-Name.pos c.in-Name.number c.in-Name.field-2 c.args.self.now)

pub values-returns-in_ok-exp-in-Paren-clause-code : goal.values-returns-in_ok-exp-in-Paren-clause-code
values-returns-in_ok-exp-in-Paren-clause-code t c =
    values_seen (exp_of c.args.e.now) (tree.paren c.in-Paren.field-0 (exp_of c.in-Paren.inner)) c.args.self.now _ (ap exp_of c.in-Paren.is ∙ exp_of-Paren c.in-Paren.field-0 c.in-Paren.inner)
    (c.in_ok-exp-in-Paren.ensures ∙ ap (λ z. with_exp (exp_of z) c.args.self.now) c.get-in-Paren.ensures ∙ paren_form c.in-Paren.field-0 (exp_of c.in-Paren.inner) c.args.self.now)

pub values-returns-in_ok-put-in-Field-clause-code : goal.values-returns-in_ok-put-in-Field-clause-code
values-returns-in_ok-put-in-Field-clause-code t c =
    let e : tree.Exp = exp_of c.in-Field.object in
    let i = c.field-instr.ensures ∙ ap (λ z. field_instr (exp_of z) c.args.self.now.scope) c.get-in-Field.ensures in
    let n = c.in_ok-exp_locals-in-Field.ensures ∙ ap (λ z. exp_locals (exp_of z)) c.get-in-Field-2.ensures in
    values_seen (exp_of c.args.e.now) (tree.field c.in-Field.pos e c.in-Field.field-2) c.args.self.now _ (ap exp_of c.in-Field.is ∙ exp_of-Field c.in-Field.pos c.in-Field.object c.in-Field.field-2)
    (c.in_ok-put-in-Field.ensures
    ∙ ap₂ (λ z v. put z c.in-Field.pos v) i (c.in_ok-skip-in-Field.ensures ∙ ap (λ k. skip k c.args.self.now) n)
    ∙ field_form c.in-Field.pos e c.in-Field.field-2 c.args.self.now)

pub values-returns-in_ok-put-in-Index-clause-code : goal.values-returns-in_ok-put-in-Index-clause-code
values-returns-in_ok-put-in-Index-clause-code t c =
    let n = c.in_ok-sum-in-Index.ensures ∙ ap₂ (λ x y. x + y) (c.in_ok-exp_locals-in-Index.ensures ∙ ap (λ z. exp_locals (exp_of z)) c.get-in-Index.ensures) (c.in_ok-exp_locals-in-Index-2.ensures ∙ ap (λ z. exp_locals (exp_of z)) c.get-in-Index-2.ensures) in
    values_seen (exp_of c.args.e.now) (tree.index c.in-Index.pos (exp_of c.in-Index.object) (exp_of c.in-Index.key)) c.args.self.now _ (ap exp_of c.in-Index.is ∙ exp_of-Index c.in-Index.pos c.in-Index.object c.in-Index.key)
    (c.in_ok-put-in-Index.ensures
    ∙ ap (λ v. put instr.Nil c.in-Index.pos v) (c.in_ok-skip-in-Index.ensures ∙ ap (λ k. skip k c.args.self.now) n)
    ∙ index_form c.in-Index.pos (exp_of c.in-Index.object) (exp_of c.in-Index.key) c.args.self.now)

pub values-returns-in_ok-put-in-Call-clause-code : goal.values-returns-in_ok-put-in-Call-clause-code
values-returns-in_ok-put-in-Call-clause-code t c =
    let f : tree.Exp = exp_of c.in-Call.callee in
    let es : tree.Exps = exps_of c.in-Call.arguments in
    let one = c.in_ok-exp-in-Call.ensures ∙ ap (λ z. with_exp (exp_of z) c.args.self.now) c.get-in-Call.ensures in
    values_seen (exp_of c.args.e.now) (tree.one_of (tree.call c.in-Call.pos f es)) c.args.self.now _ (ap exp_of c.in-Call.is ∙ exp_of-Call c.in-Call.pos c.in-Call.callee c.in-Call.arguments)
    (c.in_ok-put-in-Call.ensures
    ∙ ap (λ v. put instr.Call c.in-Call.pos v) (c.in_ok-list-in-Call.ensures ∙ ap₂ (λ z v. with_list (exps_of z) c.in-Call.pos 0 v) c.as_slice.ensures one)
    ∙ call_form c.in-Call.pos f es c.args.self.now)

pub values-returns-in_ok-put-in-Method-clause-code : goal.values-returns-in_ok-put-in-Method-clause-code
values-returns-in_ok-put-in-Method-clause-code t c =
    let n = c.in_ok-count-in-Method.ensures ∙ ap₂ (λ x y. x + y) (c.in_ok-exp_locals-in-Method.ensures ∙ ap (λ z. exp_locals (exp_of z)) c.get-in-Method.ensures) (c.in_ok-all_locals-in-Method.ensures ∙ ap (λ z. exps_locals (exps_of z)) c.as_slice-in-Method.ensures) in
    values_seen (exp_of c.args.e.now) (tree.one_of (tree.method c.in-Method.pos (exp_of c.in-Method.object) c.in-Method.field-2 (exps_of c.in-Method.arguments))) c.args.self.now _ (ap exp_of c.in-Method.is ∙ exp_of-Method c.in-Method.pos c.in-Method.object c.in-Method.field-2 c.in-Method.arguments)
    (c.in_ok-put-in-Method.ensures
    ∙ ap (λ v. put (instr.Pack 0) c.in-Method.pos v) (c.in_ok-skip-in-Method.ensures ∙ ap (λ k. skip k c.args.self.now) n)
    ∙ method_form c.in-Method.pos (exp_of c.in-Method.object) c.in-Method.field-2 (exps_of c.in-Method.arguments) c.args.self.now)

pub values-returns-in_ok-put-in-Table-clause-code : goal.values-returns-in_ok-put-in-Table-clause-code
values-returns-in_ok-put-in-Table-clause-code t c =
    let n = c.in_ok-all_entry_locals-in-Table.ensures ∙ ap (λ z. entries_locals (entries_of z)) c.as_slice-in-Table.ensures in
    values_seen (exp_of c.args.e.now) (tree.table c.in-Table.pos (entries_of c.in-Table.entries)) c.args.self.now _ (ap exp_of c.in-Table.is ∙ exp_of-Table c.in-Table.pos c.in-Table.entries)
    (c.in_ok-put-in-Table.ensures
    ∙ ap (λ v. put instr.Nil c.in-Table.pos v) (c.in_ok-skip-in-Table.ensures ∙ ap (λ k. skip k c.args.self.now) n)
    ∙ table_form c.in-Table.pos (entries_of c.in-Table.entries) c.args.self.now)

pub values-returns-in_ok-put-in-Unary-clause-code : goal.values-returns-in_ok-put-in-Unary-clause-code
values-returns-in_ok-put-in-Unary-clause-code t c =
    values_seen (exp_of c.args.e.now) (tree.unary c.in-Unary.pos c.in-Unary.operator (exp_of c.in-Unary.operand)) c.args.self.now _ (ap exp_of c.in-Unary.is ∙ exp_of-Unary c.in-Unary.pos c.in-Unary.operator c.in-Unary.operand)
    (c.in_ok-put-in-Unary.ensures
    ∙ ap₂ (λ i v. put i c.in-Unary.pos v) c.unary_instr.ensures (c.in_ok-exp-in-Unary.ensures ∙ ap (λ z. with_exp (exp_of z) c.args.self.now) c.get-in-Unary.ensures)
    ∙ unary_form c.in-Unary.pos c.in-Unary.operator (exp_of c.in-Unary.operand) c.args.self.now)

pub values-returns-in_ok-behind-in-Binary-clause-code : goal.values-returns-in_ok-behind-in-Binary-clause-code
values-returns-in_ok-behind-in-Binary-clause-code t c =
    let w : Work = c.args.self.now in
    let p = c.in-Binary.pos in
    let o = c.in-Binary.operator in
    let a : tree.Exp = exp_of c.in-Binary.left in
    let b : tree.Exp = exp_of c.in-Binary.right in
    let slot = c.free-slot.ensures in
    let w1 = c.in_ok-exp-in-Binary.ensures ∙ ap (λ z. with_exp (exp_of z) w) c.get-in-Binary.ensures in
    let place = c.place-place.ensures ∙ ap (λ v. length v.code) w1 in
    let w2 = c.in_ok-between-in-Binary.ensures ∙ ap (λ v. put_all (between o p c.free-slot.result 0) v) w1 in
    let n = c.in_ok-sum-in-Binary.ensures ∙ ap (λ k. c.free-slot.result + k) c.operator_slots.ensures in
    let w3 = c.set_free.ensures ∙ ap₂ (λ k v. free_from k v) n w2 in
    let w4 = c.in_ok-exp-in-Binary-2.ensures ∙ ap₂ (λ z v. with_exp (exp_of z) v) c.get-in-Binary-2.ensures w3 in
    let w5 = c.settle.ensures ∙ ap₂ (λ k v. settled o p k v) place w4 in
    let w6 = c.set_free-in-Binary.ensures ∙ ap (λ v. free_from c.free-slot.result v) w5 in
    let w7 = c.in_ok-behind-in-Binary.ensures ∙ ap (λ v. put_all (behind o p c.free-slot.result) v) w6 in
    values_seen (exp_of c.args.e.now) (tree.binary p o a b) w _ (ap exp_of c.in-Binary.is ∙ exp_of-Binary p o c.in-Binary.left c.in-Binary.right)
    (w7
    ∙ ap (λ s. binary_at w p o a b s) slot
    ∙ binary_settled p o a b w)

pub values-returns-in_ok-put-in-Mark-clause-code : goal.values-returns-in_ok-put-in-Mark-clause-code
values-returns-in_ok-put-in-Mark-clause-code t c =
    let w : Work = c.args.self.now in
    let k = c.in-Mark.kind in
    let e : tree.Exp = exp_of c.in-Mark.inner in
    let q = c.pos-pos.ensures ∙ ap (λ z. place_of (exp_of z)) c.get-in-Mark-2.ensures in
    let v = c.in_ok-open-in-Mark.ensures.code ∙ ap (λ z. with_values (exp_of z) w) c.get-in-Mark.ensures in
    values_seen (exp_of c.args.e.now) (tree.marked k e) w _ (ap exp_of c.in-Mark.is ∙ exp_of-Mark k c.in-Mark.inner)
    (c.in_ok-put-in-Mark.ensures
    ∙ ap₂ (λ p u. put (instr.Mark k p.line p.column) p u) q v
    ∙ marked_form k e w)

-- ---- lists of values

pub list-returns : goal.list-returns
list-returns t c =
    let e : drop c.loop-e.e-index c.args.values.now ≡ [] = drop_all c.loop-e.e-index c.args.values.now c.loop-e-test.false in
    c.in_ok-put-2.ensures
    ∙ ap (λ n. put (instr.Pack n) c.args.pos c.loop-e.self) c.loop-e.invariant.1
    ∙ list_none c.args.pos c.loop-e.e-index c.loop-e.self
    ∙ ap (λ l. with_list (exps_of l) c.args.pos c.loop-e.e-index c.loop-e.self) (sym e)
    ∙ c.loop-e.invariant.0

pub list-returns-then-branch : goal.list-returns-then-branch
list-returns-then-branch t c =
    let xs = c.args.values.now in
    let i = c.loop-e.e-index in
    let x = c.e-item.result in
    let v = c.loop-e.self in
    let count = c.loop-e.invariant.1 in
    let last : drop (i + 1) xs ≡ [] = drop_all (i + 1) xs (omega (arith, count, c.if-count-values.false)) in
    let many : is_open (exp_of x) ≡ true = sym c.in_ok-values.ensures.many ∙ c.if-branch.true in
    c.in_ok-put.ensures
    ∙ ap₂ (λ n u. put (instr.Cons n) c.args.pos u) count c.in_ok-values.ensures.code
    ∙ open_written x c.args.pos i v many
    ∙ ap (λ l. with_list (exps_of l) c.args.pos i v) (sym (item_seen xs i x c.loop-e-test.true c.e-item.is ∙ ap (λ l. x ∷ l) last))
    ∙ c.loop-e.invariant.0

pub list-loop-e-preserved : goal.list-loop-e-preserved
list-loop-e-preserved t c =
    let xs = c.args.values.now in
    let i = c.loop-e.e-index in
    let x = c.e-item.result in
    let v = c.loop-e.self in
    let count = c.loop-e.invariant.1 in
    let seen = item_seen xs i x c.loop-e-test.true c.e-item.is in
    elim c.if-count-values.branch [
      | list-then-count-values+in_ok-exp w ↦
          let some : 0 < length (drop (i + 1) xs) = omega (arith, count, w.if-count-values.true, length-drop (i + 1) xs) in (
            ap (λ u. with_list (exps_of (drop (i + 1) xs)) c.args.pos (i + 1) u) (w.self-is ∙ w.in_ok-exp.ensures)
                ∙ inner_written x (drop (i + 1) xs) c.args.pos i v some
                ∙ ap (λ l. with_list (exps_of l) c.args.pos i v) (sym seen)
                ∙ c.loop-e.invariant.0,
            ap (λ n. n + 1) count,
          )
      | list-else-count-values+in_ok-values+else-branch w ↦
          let last : drop (i + 1) xs ≡ [] = drop_all (i + 1) xs (omega (arith, count, w.if-count-values.false)) in
          let closed : is_open (exp_of x) ≡ false = sym w.in_ok-values.ensures.many ∙ w.if-branch.false in (
            ap (λ u. with_list (exps_of (drop (i + 1) xs)) c.args.pos (i + 1) u) (w.self-is ∙ w.in_ok-values.ensures.code)
                ∙ ap (λ l. with_list (exps_of l) c.args.pos (i + 1) (with_values (exp_of x) v)) last
                ∙ last_written x c.args.pos i v closed
                ∙ ap (λ l. with_list (exps_of l) c.args.pos i v) (sym (seen ∙ ap (λ l. x ∷ l) last))
                ∙ c.loop-e.invariant.0,
            ap (λ n. n + 1) count,
          )
    ]

-- ---- functions

pub function-returns-clause-code : goal.function-returns-clause-code
function-returns-clause-code t c =
    let w : Work = c.args.self.now in
    let f = out-Body c.args.body.now in
    let b : tree.Block = block_of f.block in
    let p = c.args.pos in
    let n = c.len-params.result in
    let begun = c.begin-outer.ensures.work ∙ ap (λ sc. at_work [] sc w) c.in_ok-inner.ensures in
    let body = c.in_ok-body.ensures ∙ ap (λ v. with_body n b p v) begun in
    let slots = c.in_ok-slots.ensures ∙ ap (λ k. n + k) c.in_ok-block_slots.ensures in
    c.in_ok-number.ensures.work
    ∙ ap₂ (λ oc os. finished oc os n c.is_some.result c.in_ok-slots.slots c.in_ok-captures.captures c.body.new.self) c.begin-outer.ensures.code c.begin-outer.ensures.scope
    ∙ ap₂ (λ k v. finished w.code w.scope n c.is_some.result c.in_ok-slots.slots k v) c.in_ok-captures.ensures body
    ∙ ap₂ (λ r s. finished w.code w.scope n r s (captures_in w.scope) (with_body n b p (at_work [] (inside n w.scope) w))) c.is_some.ensures slots
    ∙ ap (λ n. finished w.code w.scope n (is_some f.rest) (n + block_slots b) (captures_in w.scope) (with_body n b p (at_work [] (inside n w.scope) w))) c.len-params.ensures
    ∙ function_written f.params f.rest f.results b p w
    ∙ ap (λ z. with_function z p w) (sym (body_seen c.args.body.now))

pub function-returns-clause-number : goal.function-returns-clause-number
function-returns-clause-number t c =
    let w : Work = c.args.self.now in
    let f = out-Body c.args.body.now in
    let b : tree.Block = block_of f.block in
    let p = c.args.pos in
    let n = c.len-params.result in
    let begun = c.begin-outer.ensures.work ∙ ap (λ sc. at_work [] sc w) c.in_ok-inner.ensures in
    let body = c.in_ok-body.ensures ∙ ap (λ v. with_body n b p v) begun in
    c.in_ok-number.ensures.number
    ∙ ap (λ v. base v) body
    ∙ ap (λ n. base (with_body n b p (at_work [] (inside n w.scope) w))) c.len-params.ensures
    ∙ function_number f.params f.rest f.results b p w
    ∙ ap (λ z. base w + function_inner z) (sym (body_seen c.args.body.now))

-- ---- blocks

pub scoped-returns : goal.scoped-returns
scoped-returns t c =
    let w : Work = c.args.self.now in
    c.leave.ensures
    ∙ ap₂ (λ n v. leaving n c.free-free.result v) c.count-count.ensures c.in_ok-block.ensures
    ∙ ap (λ s. leaving (length w.scope.own) s (with_block (block_of c.args.block.now) c.args.exit w)) c.free-free.ensures
    ∙ scoped_form (block_of c.args.block.now) c.args.exit w

pub block-loop-stat-preserved : goal.block-loop-stat-preserved
block-loop-stat-preserved t c =
    let r = option_map return_of (out-Block c.args.block.now).result in
    let items = c.as_slice-stat-items.result.now in
    let i = c.loop-stat.stat-index in
    let seen = item_seen items i c.stat-item.result c.loop-stat-test.true c.stat-item.is in
    ap (λ v. with_block (block_from (map stat_of (drop (i + 1) items)) r) c.args.exit v) c.in_ok-stat.ensures
    ∙ next_form (stat_of c.stat-item.result) (block_from (map stat_of (drop (i + 1) items)) r) c.args.exit c.loop-stat.self
    ∙ ap (λ l. with_block (block_from (map stat_of l) r) c.args.exit c.loop-stat.self) (sym seen)
    ∙ c.loop-stat.invariant

pub block-returns-in-None : goal.block-returns-in-None
block-returns-in-None t c =
    let items = c.as_slice-stat-items.result.now in
    let i = c.loop-stat.stat-index in
    let e : drop i items ≡ [] = drop_all i items c.loop-stat-test.false in
    finish_form c.args.exit c.loop-stat.self
    ∙ ap (λ r. with_block (end_from (option_map return_of r)) c.args.exit c.loop-stat.self) (sym c.in-None.is)
    ∙ ap (λ l. with_block (block_from (map stat_of l) (option_map return_of (out-Block c.args.block.now).result)) c.args.exit c.loop-stat.self) (sym e)
    ∙ c.loop-stat.invariant

pub block-returns-in_ok-put-in-Some : goal.block-returns-in_ok-put-in-Some
block-returns-in_ok-put-in-Some t c =
    let items = c.as_slice-stat-items.result.now in
    let i = c.loop-stat.stat-index in
    let v = c.loop-stat.self in
    let p = c.in-Some.result.pos in
    let e : drop i items ≡ [] = drop_all i items c.loop-stat-test.false in
    let back = ap (λ r. option_map return_of r) c.in-Some.is ∙ ap (λ r. Some r) (return_seen c.in-Some.result) in
    c.in_ok-put-in-Some.ensures
    ∙ ap (λ u. put instr.Return p u) (c.in_ok-list-in-Some.ensures ∙ ap (λ l. with_list (exps_of l) p 0 v) c.as_slice.ensures)
    ∙ returns_form p (exps_of c.in-Some.result.values) c.args.exit v
    ∙ ap (λ r. with_block (end_from r) c.args.exit v) (sym back)
    ∙ ap (λ l. with_block (block_from (map stat_of l) (option_map return_of (out-Block c.args.block.now).result)) c.args.exit v) (sym e)
    ∙ c.loop-stat.invariant

-- ---- the parts of an `if`

pub otherwise-returns-in_ok-scoped-in-Some : goal.otherwise-returns-in_ok-scoped-in-Some
otherwise-returns-in_ok-scoped-in-Some t c =
    c.in_ok-scoped-in-Some.ensures
    ∙ else_form (block_of c.in-Some.block) c.args.exit c.args.self.now
    ∙ ap (λ b. with_else (else_from (option_map block_of b)) c.args.exit c.args.self.now) (sym c.in-Some.is)

pub otherwise-returns-in-None : goal.otherwise-returns-in-None
otherwise-returns-in-None t c =
    no_else_form c.args.exit c.args.self.now
    ∙ ap (λ b. with_else (else_from (option_map block_of b)) c.args.exit c.args.self.now) (sym c.in-None.is)

pub clauses-returns-clause-code : goal.clauses-returns-clause-code
clauses-returns-clause-code t c =
    let e : drop c.loop-clause.clause-index c.args.all.now ≡ [] = drop_all c.loop-clause.clause-index c.args.all.now c.loop-clause-test.false in
    no_clause_form c.args.pos 0 c.args.exit c.loop-clause.self
    ∙ ap (λ l. with_clauses (clauses_of l) c.args.pos 0 c.args.exit c.loop-clause.self) (sym e)
    ∙ c.loop-clause.invariant.0

pub clauses-returns-clause-jumps : goal.clauses-returns-clause-jumps
clauses-returns-clause-jumps t c =
    let e : drop c.loop-clause.clause-index c.args.all.now ≡ [] = drop_all c.loop-clause.clause-index c.args.all.now c.loop-clause-test.false in
    sym (append-nil c.loop-clause.jumps.items)
    ∙ ap (λ l. c.loop-clause.jumps.items ++ last_jumps (clauses_of l) (length c.loop-clause.self.code)) (sym e)
    ∙ c.loop-clause.invariant.1

pub clauses-loop-clause-preserved : goal.clauses-loop-clause-preserved
clauses-loop-clause-preserved t c =
    let xs = c.args.all.now in
    let i = c.loop-clause.clause-index in
    let v = c.loop-clause.self in
    let x = c.clause-item.result in
    let a : tree.Exp = exp_of (out-Clause x).condition in
    let b : tree.Block = block_of (out-Clause x).block in
    let p = c.args.pos in
    let rest : tree.Clauses = clauses_of (drop (i + 1) xs) in
    let seen : clauses_of (drop i xs) ≡ tree.clause a b rest =
    ap clauses_of (item_seen xs i x c.loop-clause-test.true c.clause-item.is) ∙ ap (λ z. tree.clause z.condition z.body rest) (clause_seen x) in
    let w1 = c.in_ok-exp.ensures in
    let test = c.place-test.ensures ∙ ap (λ u. length u.code) w1 in
    let w2 = c.in_ok-put.ensures ∙ ap (λ u. put (instr.JumpIfNot 0) p u) w1 in
    let w3 = c.in_ok-scoped.ensures ∙ ap (λ u. with_scoped b c.args.exit u) w2 in
    let last = c.place-last.ensures ∙ ap (λ u. length u.code) w3 ∙ last_jump a p b c.args.exit v in
    let w4 = c.in_ok-put-2.ensures ∙ ap (λ u. put (instr.Jump 0) p u) w3 in
    let w5 = c.patch.ensures ∙ ap₂ (λ k j. patched k (instr.JumpIfNot j) p c.put-in-loop-clause.new.self) test c.place-next.ensures ∙ ap (λ u. patched (length (with_exp a v).code) (instr.JumpIfNot (length u.code)) p u) w4 in
    let long = ap (λ u. length u.code) w5 ∙ clause_place a p b c.args.exit v in (
      ap (λ u. with_clauses rest p 0 c.args.exit u) w5
          ∙ clause_settled a b rest p c.args.exit v
          ∙ ap (λ z. with_clauses z p 0 c.args.exit v) (sym seen)
          ∙ c.loop-clause.invariant.0,
      ap₂ (λ l n. l ++ last_jumps rest n) c.in_ok-push.ensures.items long
          ∙ append_assoc c.loop-clause.jumps.items (c.place-last.result ∷ []) (last_jumps rest (length v.code + exp_size a + 1 + block_size b + 1))
          ∙ ap (λ n. c.loop-clause.jumps.items ++ (n ∷ last_jumps rest (length v.code + exp_size a + 1 + block_size b + 1))) last
          ∙ ap (λ z. c.loop-clause.jumps.items ++ last_jumps z (length v.code)) (sym seen)
          ∙ c.loop-clause.invariant.1,
    )

-- ---- the step of a loop

pub step-returns-in_ok-put-in-Some-clause-code : goal.step-returns-in_ok-put-in-Some-clause-code
step-returns-in_ok-put-in-Some-clause-code t c =
    c.in_ok-put-in-Some.ensures
    ∙ ap₂ (λ q v. put instr.Bound q v) c.pos.ensures c.in_ok-exp-in-Some.ensures
    ∙ step_form c.args.pos (exp_of c.in-Some.e) c.args.self.now
    ∙ ap (λ s. with_step (step_from (option_map exp_of s)) c.args.pos c.args.self.now) (sym c.in-Some.is)

pub step-returns-in_ok-put-in-None-clause-code : goal.step-returns-in_ok-put-in-None-clause-code
step-returns-in_ok-put-in-None-clause-code t c =
    c.in_ok-put-in-None.ensures
    ∙ no_step_form c.args.pos c.args.self.now
    ∙ ap (λ s. with_step (step_from (option_map exp_of s)) c.args.pos c.args.self.now) (sym c.in-None.is)

-- ---- statements

pub stat-returns-in-Empty : goal.stat-returns-in-Empty
stat-returns-in-Empty t c =
    stat_seen (stat_of c.args.stat.now) (tree.empty c.in-Empty.field-0) c.args.exit c.args.self.now _ (ap stat_of c.in-Empty.is ∙ stat_of-Empty c.in-Empty.field-0) (empty_form c.in-Empty.field-0 c.args.exit c.args.self.now)

pub stat-returns-in-Interface : goal.stat-returns-in-Interface
stat-returns-in-Interface t c =
    stat_seen (stat_of c.args.stat.now) (tree.interface c.in-Interface.field-0 c.in-Interface.field-1 c.in-Interface.field-2) c.args.exit c.args.self.now _
    (ap stat_of c.in-Interface.is ∙ stat_of-Interface c.in-Interface.field-0 c.in-Interface.field-1 c.in-Interface.field-2)
    (interface_form c.in-Interface.field-0 c.in-Interface.field-1 c.in-Interface.field-2 c.args.exit c.args.self.now)

pub stat-returns-in-Alias : goal.stat-returns-in-Alias
stat-returns-in-Alias t c =
    stat_seen (stat_of c.args.stat.now) (tree.alias c.in-Alias.field-0 c.in-Alias.field-1 c.in-Alias.field-2) c.args.exit c.args.self.now _
    (ap stat_of c.in-Alias.is ∙ stat_of-Alias c.in-Alias.field-0 c.in-Alias.field-1 c.in-Alias.field-2)
    (alias_form c.in-Alias.field-0 c.in-Alias.field-1 c.in-Alias.field-2 c.args.exit c.args.self.now)

pub stat-returns-in_ok-stores-in-Assign : goal.stat-returns-in_ok-stores-in-Assign
stat-returns-in_ok-stores-in-Assign t c =
    let w : Work = c.args.self.now in
    let p = c.in-Assign.pos in
    let ts : tree.Targets = targets_of c.in-Assign.targets in
    let es : tree.Exps = exps_of c.in-Assign.values in
    let n = c.in_ok-targets_locals-in-Assign.ensures ∙ ap (λ l. targets_locals (targets_of l)) c.as_slice.ensures in
    let w1 = c.in_ok-skip-in-Assign.ensures ∙ ap (λ k. skip k w) n in
    let w2 = c.in_ok-list-in-Assign.ensures ∙ ap₂ (λ l v. with_list (exps_of l) p 0 v) c.as_slice-in-Assign.ensures w1 in
    let k = c.len.ensures ∙ targets_counted c.in-Assign.targets in
    let w3 = c.in_ok-put-in-Assign.ensures ∙ ap₂ (λ z v. put (instr.Spread z) p v) k w2 in
    let w4 = c.in_ok-stores-in-Assign.ensures ∙ ap₂ (λ l v. put_all (stores (targets_of l) p v.scope) v) c.as_slice-in-Assign-2.ensures w3 in
    stat_seen (stat_of c.args.stat.now) (tree.assign p ts es) c.args.exit w _ (ap stat_of c.in-Assign.is ∙ stat_of-Assign p c.in-Assign.targets c.in-Assign.values)
    (w4 ∙ assign_written p ts es c.args.exit w)

pub stat-returns-in_ok-put-in-Call : goal.stat-returns-in_ok-put-in-Call
stat-returns-in_ok-put-in-Call t c =
    stat_seen (stat_of c.args.stat.now) (tree.run c.in-Call.pos (exp_of c.in-Call.call)) c.args.exit c.args.self.now _ (ap stat_of c.in-Call.is ∙ stat_of-Call c.in-Call.pos c.in-Call.call)
    (c.in_ok-put-in-Call.ensures ∙ ap (λ v. put instr.Pop c.in-Call.pos v) c.in_ok-exp-in-Call.ensures ∙ run_form c.in-Call.pos (exp_of c.in-Call.call) c.args.exit c.args.self.now)

pub stat-returns-in_ok-put-in-Break : goal.stat-returns-in_ok-put-in-Break
stat-returns-in_ok-put-in-Break t c =
    stat_seen (stat_of c.args.stat.now) (tree.leave c.in-Break.pos) c.args.exit c.args.self.now _ (ap stat_of c.in-Break.is ∙ stat_of-Break c.in-Break.pos)
    (c.in_ok-put-in-Break.ensures ∙ leave_form c.in-Break.pos c.args.exit c.args.self.now)

pub stat-returns-in_ok-scoped-in-Do : goal.stat-returns-in_ok-scoped-in-Do
stat-returns-in_ok-scoped-in-Do t c =
    stat_seen (stat_of c.args.stat.now) (tree.scope c.in-Do.field-0 (block_of c.in-Do.block)) c.args.exit c.args.self.now _ (ap stat_of c.in-Do.is ∙ stat_of-Do c.in-Do.field-0 c.in-Do.block)
    (c.in_ok-scoped-in-Do.ensures ∙ scope_form c.in-Do.field-0 (block_of c.in-Do.block) c.args.exit c.args.self.now)

pub stat-returns-in_ok-otherwise-in-If : goal.stat-returns-in_ok-otherwise-in-If
stat-returns-in_ok-otherwise-in-If t c =
    let w : Work = c.args.self.now in
    let p = c.in-If.pos in
    let cs : tree.Clauses = clauses_of c.in-If.clauses in
    let b : tree.Else = else_from (option_map block_of c.in-If.otherwise) in
    let w1 = c.in_ok-jumps-in-If.ensures.code ∙ ap (λ l. with_clauses (clauses_of l) p 0 c.args.exit w) c.as_slice-in-If.ensures in
    let w2 = c.in_ok-otherwise-in-If.ensures ∙ ap (λ v. with_else b c.args.exit v) w1 in
    let jumps = c.as_slice-in-If-2.ensures.value ∙ c.in_ok-jumps-in-If.ensures.jumps ∙ ap (λ l. last_jumps (clauses_of l) (length w.code)) c.as_slice-in-If.ensures in
    stat_seen (stat_of c.args.stat.now) (tree.choose p cs b) c.args.exit w _ (ap stat_of c.in-If.is ∙ stat_of-If p c.in-If.clauses c.in-If.otherwise)
    (c.settle_jumps.ensures ∙ ap₂ (λ l v. all_patched l (instr.Jump (length v.code)) p v) jumps w2 ∙ choose_settled p cs b c.args.exit w)

pub stat-returns-in_ok-put-in-Function : goal.stat-returns-in_ok-put-in-Function
stat-returns-in_ok-put-in-Function t c =
    let w : Work = c.args.self.now in
    let p = c.in-Function.pos in
    let e : tree.Exp = exp_of c.in-Function.target in
    let f : tree.Exp = exp_of c.in-Function.function in
    let w1 = c.in_ok-skip-in-Function.ensures ∙ ap (λ k. skip k w) c.in_ok-exp_locals-in-Function.ensures in
    let w2 = c.in_ok-exp-in-Function.ensures ∙ ap (λ v. with_exp f v) w1 in
    let w3 = c.in_ok-put-in-Function.ensures ∙ ap₂ (λ i v. put i p v) c.store-instr.ensures w2 in
    stat_seen (stat_of c.args.stat.now) (tree.define p e f) c.args.exit w _ (ap stat_of c.in-Function.is ∙ stat_of-Function p c.in-Function.target c.in-Function.function)
    (w3 ∙ define_form p e f c.args.exit w)

pub stat-returns-in_ok-skip-in-Method : goal.stat-returns-in_ok-skip-in-Method
stat-returns-in_ok-skip-in-Method t c =
    let w : Work = c.args.self.now in
    let before = c.in_ok-before-in-Method.ensures ∙ ap (λ k. k + 1) c.in_ok-exp_locals-in-Method.ensures in
    let n = c.in_ok-sum-in-Method.ensures ∙ ap₂ (λ x y. x + y) before c.in_ok-exp_locals-in-Method-2.ensures in
    stat_seen (stat_of c.args.stat.now) (tree.define_method c.in-Method.field-0 (exp_of c.in-Method.object) c.in-Method.field-2 (exp_of c.in-Method.function)) c.args.exit w _
    (ap stat_of c.in-Method.is ∙ stat_of-Method c.in-Method.field-0 c.in-Method.object c.in-Method.field-2 c.in-Method.function)
    (c.in_ok-skip-in-Method.ensures ∙ ap (λ k. skip k w) n ∙ define_method_form c.in-Method.field-0 (exp_of c.in-Method.object) c.in-Method.field-2 (exp_of c.in-Method.function) c.args.exit w)

pub stat-returns-in_ok-put-in-LocalFunction-4 : goal.stat-returns-in_ok-put-in-LocalFunction-4
stat-returns-in_ok-put-in-LocalFunction-4 t c =
    let w : Work = c.args.self.now in
    let p = c.in-LocalFunction.pos in
    let f : tree.Exp = exp_of c.in-LocalFunction.function in
    let s = c.free-slot.result in
    let x = c.next-local.result in
    let w2 = c.in_ok-put-in-LocalFunction-2.ensures ∙ ap (λ v. put (instr.SetSlot s) p v) c.in_ok-put-in-LocalFunction.ensures in
    let w3 = c.in_ok-put-in-LocalFunction-3.ensures ∙ ap (λ v. put (instr.NewCell s) p v) w2 in
    let w4 = c.in_ok-declare-in-LocalFunction.ensures ∙ ap (λ v. declaring 1 x v) w3 in
    let w5 = c.in_ok-skip-in-LocalFunction.ensures ∙ ap (λ v. skip 1 v) w4 in
    let w6 = c.in_ok-exp-in-LocalFunction.ensures ∙ ap (λ v. with_exp f v) w5 in
    let w7 = c.in_ok-put-in-LocalFunction-4.ensures ∙ ap (λ v. put (instr.SetCell s) p v) w6 in
    stat_seen (stat_of c.args.stat.now) (tree.declare_function p c.in-LocalFunction.field-1 f) c.args.exit w _ (ap stat_of c.in-LocalFunction.is ∙ stat_of-LocalFunction p c.in-LocalFunction.field-1 c.in-LocalFunction.function)
    (w7
    ∙ ap₂ (λ s x. put (instr.SetCell s) p (with_exp f (skip 1 (declaring 1 x (put (instr.NewCell s) p (put (instr.SetSlot s) p (put instr.Nil p w))))))) c.free-slot.ensures c.next-local.ensures
    ∙ declare_function_form p c.in-LocalFunction.field-1 f c.args.exit w)

pub stat-returns-in_ok-declare-in-Local : goal.stat-returns-in_ok-declare-in-Local
stat-returns-in_ok-declare-in-Local t c =
    let w : Work = c.args.self.now in
    let p = c.in-Local.pos in
    let es : tree.Exps = exps_of c.in-Local.values in
    let s = c.free-slot-in-Local.result in
    let x = c.next-local-in-Local.result in
    let n = c.len-count.result in
    let w2 = c.in_ok-list-in-Local.ensures ∙ ap₂ (λ l v. with_list (exps_of l) p 0 v) c.as_slice-in-Local.ensures c.in_ok-skip-in-Local.ensures in
    let w3 = c.in_ok-put-in-Local.ensures ∙ ap (λ v. put (instr.Spread n) p v) w2 in
    let w4 = c.in_ok-begin_locals-in-Local.ensures ∙ ap (λ v. put_all (begin_locals s n p) v) w3 in
    let w5 = c.in_ok-declare-in-Local.ensures ∙ ap (λ v. declaring n x v) w4 in
    stat_seen (stat_of c.args.stat.now) (tree.declare p c.in-Local.names es) c.args.exit w _ (ap stat_of c.in-Local.is ∙ stat_of-Local p c.in-Local.names c.in-Local.values)
    (w5
    ∙ ap₂ (λ s x. declaring n x (put_all (begin_locals s n p) (put (instr.Spread n) p (with_list es p 0 (skip n w))))) c.free-slot-in-Local.ensures c.next-local-in-Local.ensures
    ∙ ap (λ n. declaring n w.scope.next (put_all (begin_locals w.scope.free n p) (put (instr.Spread n) p (with_list es p 0 (skip n w))))) c.len-count.ensures
    ∙ declare_form p c.in-Local.names es c.args.exit w)

-- ---- loops

pub repetition-returns-in_ok-put-in-While : goal.repetition-returns-in_ok-put-in-While
repetition-returns-in_ok-put-in-While t c = λ _.
    let w : Work = c.args.self.now in
    let p = c.in-While.pos in
    let e : tree.Exp = exp_of c.in-While.condition in
    let b : tree.Block = block_of c.in-While.block in
    let w1 = c.in_ok-scoped-in-While.ensures ∙ ap₂ (λ n v. with_scoped b n v) c.in_ok-behind-in-While.ensures.exit c.in_ok-behind-in-While.ensures.code in
    let passed = c.next-passed.ensures ∙ ap (λ v. v.scope.next) w1 in
    let w2 = c.set_next.ensures ∙ ap₂ (λ n v. next_from n v) c.next-next.ensures w1 in
    let w3 = c.in_ok-exp-in-While.ensures ∙ ap (λ v. with_exp e v) w2 in
    let w4 = c.in_ok-put-in-While.ensures ∙ ap₂ (λ n v. put (instr.JumpIf n) p v) (c.in_ok-turn-in-While.ensures ∙ ap (λ n. n + 1) c.place.ensures) w3 in
    let w5 = c.set_next-in-While.ensures ∙ ap₂ (λ n v. next_from n v) passed w4 in
    stat_seen (stat_of c.args.stat.now) (tree.while p e b) c.args.exit w _ (ap stat_of c.in-While.is ∙ stat_of-While p c.in-While.condition c.in-While.block)
    (w5 ∙ while_written p e b c.args.exit w)

pub repetition-returns-in_ok-put-in-Repeat : goal.repetition-returns-in_ok-put-in-Repeat
repetition-returns-in_ok-put-in-Repeat t c = λ _.
    let w : Work = c.args.self.now in
    let p = c.in-Repeat.pos in
    let b : tree.Block = block_of c.in-Repeat.block in
    let e : tree.Exp = exp_of c.in-Repeat.condition in
    let w1 = c.in_ok-block-in-Repeat.ensures ∙ ap₂ (λ n v. with_block b n v) c.in_ok-behind-in-Repeat.ensures.exit c.in_ok-behind-in-Repeat.ensures.code in
    let w2 = c.in_ok-exp-in-Repeat.ensures ∙ ap (λ v. with_exp e v) w1 in
    let w3 = c.in_ok-put-in-Repeat.ensures ∙ ap₂ (λ n v. put (instr.JumpIfNot n) p v) c.place-start.ensures w2 in
    let w4 = c.leave.ensures ∙ ap₂ (λ n v. leaving n c.free-free.result v) c.count-count.ensures w3 in
    stat_seen (stat_of c.args.stat.now) (tree.repeat p b e) c.args.exit w _ (ap stat_of c.in-Repeat.is ∙ stat_of-Repeat p c.in-Repeat.block c.in-Repeat.condition)
    (w4
    ∙ ap (λ s. leaving (length w.scope.own) s (put (instr.JumpIfNot (length w.code)) p (with_exp e (with_block b (length w.code + 1 + block_size b + exp_size e + 1) (put instr.Turn p w))))) c.free-free.ensures
    ∙ repeat_form p b e c.args.exit w)

pub repetition-returns-in_ok-put-in-NumericFor : goal.repetition-returns-in_ok-put-in-NumericFor
repetition-returns-in_ok-put-in-NumericFor t c = λ _.
    let w : Work = c.args.self.now in
    let p = c.in-NumericFor.pos in
    let a : tree.Exp = exp_of c.in-NumericFor.first in
    let b : tree.Exp = exp_of c.in-NumericFor.limit in
    let s : tree.Step = step_from (option_map exp_of c.in-NumericFor.step) in
    let d : tree.Block = block_of c.in-NumericFor.block in
    let slot = c.free-slot.result in
    let x = c.next-local.result in
    let second = c.in_ok-second-in-NumericFor.second in
    let w2 = c.in_ok-exp-in-NumericFor.ensures ∙ ap (λ v. with_exp a v) c.in_ok-skip-in-NumericFor.ensures in
    let w3 = c.in_ok-end_bound-in-NumericFor.ensures ∙ ap₂ (λ q v. free_from (slot + 1) (put (instr.SetSlot slot) p (put instr.Bound q v))) c.pos.ensures w2 in
    let w4 = c.in_ok-exp-in-NumericFor-2.ensures ∙ ap (λ v. with_exp b v) w3 in
    let w5 = c.in_ok-end_bound-in-NumericFor-2.ensures ∙ ap₂ (λ q v. free_from (second + 1) (put (instr.SetSlot second) p (put instr.Bound q v))) c.pos-in-NumericFor.ensures w4 in
    let w6 = w5 ∙ ap (λ k. with_bound b k p (with_bound a slot p (skip 1 w))) c.in_ok-second-in-NumericFor.ensures in
    let w7 = c.in_ok-place-in-NumericFor.ensures.code ∙ ap (λ v. with_step s p v) w6 in
    let turn = c.in_ok-turn-in-NumericFor.ensures ∙ ap (λ k. k + 2) (c.place-in-NumericFor.ensures ∙ ap (λ v. length v.code) w7) in
    let w8 = c.in_ok-behind-in-NumericFor.ensures.code
    ∙ ap₂ (λ q v. with_count_begun slot x (length v.code + 2 + 4 + block_size d + 1) q p (put (instr.SetSlot (slot + 2)) p v)) c.in_ok-place-in-NumericFor.ensures.place w7 in
    let behind = c.in_ok-behind-in-NumericFor.ensures.exit ∙ ap (λ v. length v.code + 2 + 4 + block_size d + 1) w7 in
    let w9 = c.in_ok-scoped-in-NumericFor.ensures ∙ ap₂ (λ k v. with_scoped d k v) behind w8 in
    let w10 = c.in_ok-put-in-NumericFor.ensures ∙ ap₂ (λ k v. put (instr.ForStep slot k) p v) turn w9 in
    let w11 = c.leave-in-NumericFor.ensures ∙ ap₂ (λ k v. leaving k slot v) c.count-count-in-NumericFor.ensures w10 in
    stat_seen (stat_of c.args.stat.now) (tree.count p c.in-NumericFor.field-1 a b s d) c.args.exit w _
    (ap stat_of c.in-NumericFor.is ∙ stat_of-NumericFor p c.in-NumericFor.field-1 c.in-NumericFor.first c.in-NumericFor.limit c.in-NumericFor.step c.in-NumericFor.block)
    (w11
    ∙ ap₂ (λ j k. count_at w p a b s d (length w.scope.own) j k) c.free-slot.ensures c.next-local.ensures
    ∙ count_written p c.in-NumericFor.field-1 a b s d c.args.exit w)

pub repetition-returns-in_ok-iterate-in-GenericFor : goal.repetition-returns-in_ok-iterate-in-GenericFor
repetition-returns-in_ok-iterate-in-GenericFor t c = λ _.
    let w : Work = c.args.self.now in
    let p = c.in-GenericFor.pos in
    let es : tree.Exps = exps_of c.in-GenericFor.values in
    let d : tree.Block = block_of c.in-GenericFor.block in
    let slot = c.free-slot-in-GenericFor.result in
    let x = c.next-local-in-GenericFor.result in
    let n = c.len-variables.result in
    let w2 = c.in_ok-list-in-GenericFor.ensures ∙ ap₂ (λ l v. with_list (exps_of l) p 0 v) c.as_slice.ensures c.in_ok-skip-in-GenericFor.ensures in
    let turn = c.in_ok-turn-in-GenericFor.ensures ∙ ap (λ k. k + 5) (c.place-in-GenericFor.ensures ∙ ap (λ v. length v.code) w2) in
    let test = c.in_ok-test-in-GenericFor.ensures.test ∙ ap (λ v. length v.code + 5 + 2 + n + n + block_size d) w2 in
    let w3 = c.in_ok-test-in-GenericFor.ensures.code ∙ ap (λ v. with_each_begun slot n x (length v.code + 5 + 2 + n + n + block_size d) p v) w2 in
    let behind = c.in_ok-behind-in-GenericFor.ensures ∙ ap (λ k. k + 13) test in
    let w4 = c.in_ok-scoped-in-GenericFor.ensures ∙ ap₂ (λ k v. with_scoped d k v) behind w3 in
    let w5 = c.in_ok-iterate-in-GenericFor.ensures ∙ ap₂ (λ k v. put_all (iterate_code slot k p c.first_place.result) v) turn w4 in
    let w6 = c.leave-in-GenericFor.ensures ∙ ap₂ (λ k v. leaving k slot v) c.count-count-in-GenericFor.ensures w5 in
    let q = c.first_place.ensures ∙ ap (λ l. first_place p (exps_of l)) c.as_slice-in-GenericFor.ensures in
    stat_seen (stat_of c.args.stat.now) (tree.each p c.in-GenericFor.names es d) c.args.exit w _
    (ap stat_of c.in-GenericFor.is ∙ stat_of-GenericFor p c.in-GenericFor.names c.in-GenericFor.values c.in-GenericFor.block)
    (w6
    ∙ ap₂ (λ j k. each_at w p es d (length w.scope.own) j k n c.first_place.result) c.free-slot-in-GenericFor.ensures c.next-local-in-GenericFor.ensures
    ∙ ap₂ (λ k z. each_at w p es d (length w.scope.own) w.scope.free w.scope.next k z) c.len-variables.ensures q
    ∙ each_written p c.in-GenericFor.names es d c.args.exit w)

-- Forms whose jumps lead to places that are counted from where the writing stands.
use Rattle.std.proofs.Common.{◌≡◌, refl, ap, ◌∙◌, ℕ, ◌+◌, List, length, arith, add_assoc}
use Rattle.std.proofs.lemmas.List.{length-append}
use Rattle.tl_base.specs.declared.place.Pos.{Pos}
use Rattle.lua_tree.specs.Tree as tree
use Rattle.lua_tree.specs.declared.annotation.Name.{Name}
use Rattle.lua_tree.specs.declared.syntax.BinaryOperator.{BinaryOperator}
use Rattle.lua_tree.specs.declared.syntax.BinaryOperator.TheVariants as binary
use Rattle.lua_tree.specs.Tree.{Exp, Targets, Multi, Exps, Entries, Function, Stat, Clauses, Else, Step, Block}
use Rattle.lua_meaning.specs.Locals.{targets_locals, exp_locals, exps_locals}
use Rattle.lua_code.specs.declared.code.Instr.TheVariants as instr
use Rattle.lua_code.specs.Sizes.{block_size, step_size, operator_size, operator_slots, exp_size, exps_size}
use Rattle.lua_code.specs.Generated.{stores, target_count, step_place, iterate_code, past}
use Rattle.lua_code.proofs.Faithful.Lengths.{exp_length, list_length, step_length}
use Rattle.code_gen.specs.Pieces.{between, behind}
use Rattle.code_gen.proofs.Forms.Expressions.{binary_form}
use Rattle.code_gen.proofs.Forms.Statements.{stores_past, assign_form, while_form, clause_form}
use Rattle.code_gen.proofs.Forms.Loops.{count_form, each_form}
use Rattle.lua_meaning.specs.Trees.{first_place}
use Rattle.code_gen.specs.Work.{Work, skip, free_from, next_from, put_all, put, with_exp, with_list, with_step, leaving, with_bound, with_count_begun, with_each_begun, with_stat, with_clauses, with_block, with_scoped}

-- where the end of an operation is counted from behind its left operand
same_between : (o : BinaryOperator) (p : Pos) (slot at a b : ℕ) → between o p slot (at + a + b + 1) ≡ between o p slot (at + (a + b + operator_size o))
same_between binary.Or p slot at a b = ap (between binary.Or p slot) (omega arith)
same_between binary.And p slot at a b = ap (between binary.And p slot) (omega arith)
same_between binary.Less p slot at a b = refl
same_between binary.Greater p slot at a b = refl
same_between binary.LessEqual p slot at a b = refl
same_between binary.GreaterEqual p slot at a b = refl
same_between binary.NotEqual p slot at a b = refl
same_between binary.Equal p slot at a b = refl
same_between binary.BitOr p slot at a b = refl
same_between binary.BitXor p slot at a b = refl
same_between binary.BitAnd p slot at a b = refl
same_between binary.ShiftLeft p slot at a b = refl
same_between binary.ShiftRight p slot at a b = refl
same_between binary.Concat p slot at a b = refl
same_between binary.Add p slot at a b = refl
same_between binary.Subtract p slot at a b = refl
same_between binary.Multiply p slot at a b = refl
same_between binary.Divide p slot at a b = refl
same_between binary.Modulo p slot at a b = refl

pub exp_place : (e : Exp) (w : Work) → length (with_exp e w).code ≡ length w.code + exp_size e
unfolding with_exp
exp_place e w = simp (length-append, exp_length)

pub binary_written : (p : Pos) (o : BinaryOperator) (a b : Exp) (w : Work)
    → put_all (behind o p w.scope.free) (free_from w.scope.free (with_exp b (free_from (w.scope.free + operator_slots o) (put_all (between o p w.scope.free (length (with_exp a w).code + exp_size b + 1)) (with_exp a w)))))
    ≡ with_exp (tree.binary p o a b) w
binary_written p o a b w =
    let e : between o p w.scope.free (length (with_exp a w).code + exp_size b + 1) ≡ between o p w.scope.free (length w.code + exp_size (tree.binary p o a b)) =
    ap (λ n. between o p w.scope.free (n + exp_size b + 1)) (exp_place a w) ∙ same_between o p w.scope.free (length w.code) (exp_size a) (exp_size b) in
    ap (λ c. put_all (behind o p w.scope.free) (free_from w.scope.free (with_exp b (free_from (w.scope.free + operator_slots o) (put_all c (with_exp a w)))))) e
    ∙ binary_form p o a b w

-- ---- where the writing stands behind a part

step_place_of : (c : Step) (p : Pos) (w : Work) → length (with_step c p w).code ≡ length w.code + step_size c
unfolding with_step
step_place_of c p w = simp (length-append, step_length)

bound_place : (e : Exp) (s : ℕ) (p : Pos) (w : Work) → length (with_bound e s p w).code ≡ length w.code + exp_size e + 2
unfolding with_exp put_all free_from
bound_place e s p w = simp (length-append, exp_length, add_assoc)

skip_place : (n : ℕ) (w : Work) → length (skip n w).code ≡ length w.code
unfolding skip
skip_place n w = refl

list_place : (es : Exps) (p : Pos) (n : ℕ) (w : Work) → length (with_list es p n w).code ≡ length w.code + exps_size es
unfolding with_list
list_place es p n w = simp (length-append, list_length)

-- ---- statements

pub while_written : (p : Pos) (e : Exp) (b : Block) (brk : ℕ) (w : Work)
    → let inner : Work = with_scoped b (length w.code + 2 + block_size b + exp_size e + 1) (skip (exp_locals e) (put instr.Turn p (put (instr.Jump (length w.code + 2 + block_size b)) p w))) in
    next_from inner.scope.next (put (instr.JumpIf (length w.code + 1)) p (with_exp e (next_from w.scope.next inner))) ≡ with_stat (tree.while p e b) brk w
unfolding with_scoped with_block skip put_all
while_written p e b brk w = while_form p e b brk w

pub clause_written : (e : Exp) (b : Block) (cs : Clauses) (p : Pos) (end brk : ℕ) (w : Work)
    → with_clauses cs p end brk
    (put (instr.Jump end) p
    (with_scoped b brk
    (put (instr.JumpIfNot (length (with_exp e w).code + 1 + block_size b + 1)) p (with_exp e w))))
    ≡ with_clauses (tree.clause e b cs) p end brk w
clause_written e b cs p end brk w =
    ap (λ n. with_clauses cs p end brk (put (instr.Jump end) p (with_scoped b brk (put (instr.JumpIfNot (n + 1 + block_size b + 1)) p (with_exp e w))))) (exp_place e w)
    ∙ clause_form e b cs p end brk w

pub count_written : (p : Pos) (n : Name) (a b : Exp) (c : Step) (d : Block) (brk : ℕ) (w : Work)
    → let begun : Work = with_step c p (with_bound b (w.scope.free + 1) p (with_bound a w.scope.free p (skip 1 w))) in
    leaving (length w.scope.own) w.scope.free
    (put (instr.ForStep w.scope.free (length begun.code + 2)) p
    (with_scoped d (length begun.code + 2 + 4 + block_size d + 1)
    (with_count_begun w.scope.free w.scope.next (length begun.code + 2 + 4 + block_size d + 1) (step_place c p) p
    (put (instr.SetSlot (w.scope.free + 2)) p begun))))
    ≡ with_stat (tree.count p n a b c d) brk w
count_written p n a b c d brk w =
    let one : Work = with_bound a w.scope.free p (skip 1 w) in
    let two : Work = with_bound b (w.scope.free + 1) p one in
    let here : length (with_step c p two).code + 2 ≡ length w.code + exp_size a + 2 + exp_size b + 2 + step_size c + 2 =
    omega (arith, step_place_of c p two, bound_place b (w.scope.free + 1) p one, bound_place a w.scope.free p (skip 1 w), skip_place 1 w) in
    count_form w p a b c d (length (with_step c p two).code + 2) (length (with_step c p two).code + 2 + 4 + block_size d + 1) here refl n brk

pub each_written : (p : Pos) (ns : List Name) (es : Exps) (d : Block) (brk : ℕ) (w : Work)
    → let listed : Work = with_list es p 0 (skip (length ns) w) in
    leaving (length w.scope.own) w.scope.free
    (put_all (iterate_code w.scope.free (length listed.code + 5) p (first_place p es))
    (with_scoped d (length listed.code + 5 + 2 + length ns + length ns + block_size d + 13)
    (with_each_begun w.scope.free (length ns) w.scope.next (length listed.code + 5 + 2 + length ns + length ns + block_size d) p listed)))
    ≡ with_stat (tree.each p ns es d) brk w
each_written p ns es d brk w =
    let listed : Work = with_list es p 0 (skip (length ns) w) in
    let here : length listed.code + 5 ≡ length w.code + exps_size es + 5 = omega (arith, list_place es p 0 (skip (length ns) w), skip_place (length ns) w) in
    each_form w p ns es d (length listed.code + 5) (length listed.code + 5 + 2 + length ns + length ns + block_size d) here refl brk

-- the stores read of the scope only which locals are where
pub assign_written : (p : Pos) (ts : Targets) (es : Exps) (brk : ℕ) (w : Work)
    → let spread : Work = put (instr.Spread (target_count ts)) p (with_list es p 0 (skip (targets_locals ts) w)) in
    put_all (stores ts p spread.scope) spread ≡ with_stat (tree.assign p ts es) brk w
unfolding with_list put_all skip
assign_written p ts es brk w =
    let spread : Work = put (instr.Spread (target_count ts)) p (with_list es p 0 (skip (targets_locals ts) w)) in
    ap (λ c. put_all c spread) (stores_past ts p (exps_locals es) (past (targets_locals ts) w.scope) ∙ stores_past ts p (targets_locals ts) w.scope)
    ∙ assign_form p ts es brk w

-- a numeric `for` from its slot, its variable, and how many locals are in scope before it
abbrev pub count_at : Work → Pos → Exp → Exp → Step → Block → ℕ → ℕ → ℕ → Work
count_at w p a b c d count slot x =
    let begun : Work = with_step c p (with_bound b (slot + 1) p (with_bound a slot p (skip 1 w))) in
    leaving count slot
    (put (instr.ForStep slot (length begun.code + 2)) p
    (with_scoped d (length begun.code + 2 + 4 + block_size d + 1)
    (with_count_begun slot x (length begun.code + 2 + 4 + block_size d + 1) (step_place c p) p
    (put (instr.SetSlot (slot + 2)) p begun))))

-- and a generic one, also from how many variables it has and the place of its call
abbrev pub each_at : Work → Pos → Exps → Block → ℕ → ℕ → ℕ → ℕ → Pos → Work
each_at w p es d count slot x n q =
    let listed : Work = with_list es p 0 (skip n w) in
    leaving count slot
    (put_all (iterate_code slot (length listed.code + 5) p q)
    (with_scoped d (length listed.code + 5 + 2 + n + n + block_size d + 13)
    (with_each_begun slot n x (length listed.code + 5 + 2 + n + n + block_size d) p listed)))

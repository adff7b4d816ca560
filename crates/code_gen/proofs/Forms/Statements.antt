-- What each form of statement adds, from what its parts add.
use Rattle.std.proofs.Common.{◌≡◌, refl, sym, ap, ◌∙◌, ℕ, zero, suc, ◌+◌, ◌-◌, drop, add-one, zero-add, List, ◌∷◌, ◌++◌, length, arith, add_assoc, append_assoc, add-zero}
use Rattle.std.proofs.lemmas.List.{length-append, append-nil}
use native.Mathlib.Numerals.{unary_clauses}
use Rattle.std.proofs.Common.{Option, Some, None, ap₂}
use Rattle.lua_tree.specs.declared.scoped.Use.{Use}
use Rattle.lua_tree.specs.declared.scoped.Use.TheVariants as means
use Rattle.tl_base.specs.declared.place.Pos.{Pos}
use Rattle.lua_tree.specs.Tree as tree
use Rattle.lua_tree.specs.declared.annotation.Name.{Name}
use Rattle.lua_tree.specs.declared.annotation.Typed.{Typed}
use Rattle.lua_tree.specs.declared.annotation.TypeExpr.{TypeExpr}
use Rattle.lua_tree.specs.declared.annotation.TypeField.{TypeField}
use Rattle.lua_tree.specs.Tree.{Exp, Targets, Multi, Exps, Entries, Function, Stat, Clauses, Else, Step, Block}
use Rattle.lua_meaning.specs.Locals.{targets_locals, exp_locals, stat_locals, block_locals}
use Rattle.lua_code.specs.declared.code.Instr.TheVariants as instr
use Rattle.lua_code.specs.Sizes.{block_size, clauses_size, else_size, stat_declares, block_declares, exp_size}
use Rattle.lua_code.specs.Generated.{in_slots, behind_stat, behind_block, stores, store_instr, target_count, write_use, begin_locals, one, Scope, past, use_in}
use Rattle.lua_code.proofs.Faithful.Lengths.{exp_length, exp_count, stat_length, stat_count, block_length, block_count, clauses_length, clauses_count}
use Rattle.code_gen.specs.Work.{Work, skip, free_from, next_from, put_all, put, with_exp, with_list, declaring, leaving, with_stat, with_clauses, with_else, with_block, with_scoped}

-- ---- where a block leaves the scope

pub behind_next : (b : Block) (sc : Scope) → (behind_block b sc).next ≡ sc.next + block_locals b
behind_next tree.finish sc = sym (add-zero sc.next)
behind_next (tree.returns p es) sc = refl
behind_next (tree.next s b) sc = behind_next b (behind_stat s sc) ∙ add_assoc sc.next (stat_locals s) (block_locals b)

pub behind_names : (b : Block) (sc : Scope) → (behind_block b sc).names ≡ sc.names
behind_names tree.finish sc = refl
behind_names (tree.returns p es) sc = refl
behind_names (tree.next s b) sc = behind_names b (behind_stat s sc)

pub behind_captured : (b : Block) (sc : Scope) → (behind_block b sc).captured ≡ sc.captured
behind_captured tree.finish sc = refl
behind_captured (tree.returns p es) sc = refl
behind_captured (tree.next s b) sc = behind_captured b (behind_stat s sc)

-- the locals that are there stay as they are below those that come
dropped : (n x s k : ℕ) (own : List (ℕ × ℕ)) → drop (n + k) (in_slots n x s own) ≡ drop k own
dropped zero x s k own = ap (λ z. drop z own) (zero-add k)
dropped (suc n) x s k own =
    let e : suc n + k ≡ n + (k + 1) = omega arith in
    ap (λ z. drop z (in_slots n (x + 1) (s + 1) ((x, s) ∷ own))) e ∙ dropped n (x + 1) (s + 1) (k + 1) ((x, s) ∷ own) ∙ rw add-one refl

in_slots_length : (n x s : ℕ) (own : List (ℕ × ℕ)) → length (in_slots n x s own) ≡ n + length own
in_slots_length zero x s own = sym (zero-add (length own))
in_slots_length (suc n) x s own = in_slots_length n (x + 1) (s + 1) ((x, s) ∷ own) ∙ omega arith

behind_long : (b : Block) (sc : Scope) → length (behind_block b sc).own ≡ block_declares b + length sc.own
behind_long tree.finish sc = sym (zero-add (length sc.own))
behind_long (tree.returns p es) sc = sym (zero-add (length sc.own))
behind_long (tree.next s b) sc = omega (arith, behind_long b (behind_stat s sc), in_slots_length (stat_declares s) sc.next sc.free sc.own)

behind_dropped : (b : Block) (k : ℕ) (sc : Scope) → drop (block_declares b + k) (behind_block b sc).own ≡ drop k sc.own
behind_dropped tree.finish k sc = ap (λ z. drop z sc.own) (zero-add k)
behind_dropped (tree.returns p es) k sc = ap (λ z. drop z sc.own) (zero-add k)
behind_dropped (tree.next s b) k sc =
    let e : stat_declares s + block_declares b + k ≡ block_declares b + (stat_declares s + k) = omega arith in
    ap (λ z. drop z (behind_block b (behind_stat s sc)).own) e
    ∙ behind_dropped b (stat_declares s + k) (behind_stat s sc)
    ∙ dropped (stat_declares s) sc.next sc.free k sc.own

pub behind_own : (b : Block) (sc : Scope) → drop (length (behind_block b sc).own - length sc.own) (behind_block b sc).own ≡ sc.own
behind_own b sc =
    let e : length (behind_block b sc).own - length sc.own ≡ block_declares b + 0 = omega (arith, behind_long b sc) in
    ap (λ z. drop z (behind_block b sc).own) e ∙ behind_dropped b 0 sc

pub scoped_form : (b : Block) (brk : ℕ) (w : Work) → leaving (length w.scope.own) w.scope.free (with_block b brk w) ≡ with_scoped b brk w
unfolding with_scoped with_block skip free_from next_from declaring leaving
scoped_form b brk w = simp (behind_own, behind_names, behind_captured, behind_next)

pub left_slots : (n x s : ℕ) (own : List (ℕ × ℕ)) → drop (length (in_slots n x s own) - length own) (in_slots n x s own) ≡ own
left_slots n x s own =
    let e : length (in_slots n x s own) - length own ≡ n + 0 = omega (arith, in_slots_length n x s own) in
    ap (λ z. drop z (in_slots n x s own)) e ∙ dropped n x s 0 own

-- ---- blocks

pub finish_form : (brk : ℕ) (w : Work) → w ≡ with_block tree.finish brk w
unfolding with_block skip free_from next_from declaring leaving
finish_form brk w = simp append-nil

pub returns_form : (p : Pos) (es : Exps) (brk : ℕ) (w : Work) → put instr.Return p (with_list es p 0 w) ≡ with_block (tree.returns p es) brk w
unfolding with_block with_list put_all skip free_from next_from declaring leaving
returns_form p es brk w = simp append_assoc

pub next_form : (s : Stat) (b : Block) (brk : ℕ) (w : Work) → with_block b brk (with_stat s brk w) ≡ with_block (tree.next s b) brk w
unfolding with_block with_stat skip free_from next_from declaring leaving
next_form s b brk w = simp (append_assoc, length-append, stat_length, stat_count, add_assoc)

-- ---- statements

pub empty_form : (p : Pos) (brk : ℕ) (w : Work) → w ≡ with_stat (tree.empty p) brk w
unfolding with_stat skip free_from next_from declaring leaving
empty_form p brk w = simp (append-nil, add-zero)

pub interface_form : (p : Pos) (n : Name) (fs : List TypeField) (brk : ℕ) (w : Work) → w ≡ with_stat (tree.interface p n fs) brk w
unfolding with_stat skip free_from next_from declaring leaving
interface_form p n fs brk w = simp (append-nil, add-zero)

pub alias_form : (p : Pos) (n : Name) (t : TypeExpr) (brk : ℕ) (w : Work) → w ≡ with_stat (tree.alias p n t) brk w
unfolding with_stat skip free_from next_from declaring leaving
alias_form p n t brk w = simp (append-nil, add-zero)

pub define_method_form : (p : Pos) (e : Exp) (n : Name) (f : Exp) (brk : ℕ) (w : Work) → skip (exp_locals e + 1 + exp_locals f) w ≡ with_stat (tree.define_method p e n f) brk w
unfolding with_stat skip free_from next_from declaring leaving
define_method_form p e n f brk w = simp (append-nil, add-zero)

store_past : (e : Exp) (n : ℕ) (sc : Scope) → store_instr e (past n sc) ≡ store_instr e sc
store_past (tree.name p u s) n sc = local_past (use_in sc u)
  where
    local_past : (u : Option Use) → write_use (past n sc) u ≡ write_use sc u
    local_past None = refl
    local_past (Some (means.Local x)) = refl
    local_past (Some (means.Lib l)) = refl
store_past (tree.mark k e) n sc = store_past e n sc
store_past e n sc = refl

pub stores_past : (ts : Targets) (p : Pos) (n : ℕ) (sc : Scope) → stores ts p (past n sc) ≡ stores ts p sc
stores_past tree.no_target p n sc = refl
stores_past (tree.target e ts) p n sc =
    ap₂ (λ a b. a ++ one b p) (stores_past ts p (exp_locals e) (past n sc) ∙ stores_past ts p n sc ∙ sym (stores_past ts p (exp_locals e) sc)) (store_past e n sc)

pub assign_form : (p : Pos) (ts : Targets) (es : Exps) (brk : ℕ) (w : Work)
    → put_all (stores ts p w.scope) (put (instr.Spread (target_count ts)) p (with_list es p 0 (skip (targets_locals ts) w))) ≡ with_stat (tree.assign p ts es) brk w
unfolding with_stat with_list put_all skip free_from next_from declaring leaving
assign_form p ts es brk w = simp (append_assoc, add_assoc, add-zero)

pub run_form : (p : Pos) (e : Exp) (brk : ℕ) (w : Work) → put instr.Pop p (with_exp e w) ≡ with_stat (tree.run p e) brk w
unfolding with_stat with_exp put_all skip free_from next_from declaring leaving
run_form p e brk w = simp (append_assoc, add-zero)

pub leave_form : (p : Pos) (brk : ℕ) (w : Work) → put (instr.Jump brk) p w ≡ with_stat (tree.leave p) brk w
unfolding with_stat put_all skip free_from next_from declaring leaving
leave_form p brk w = simp (append-nil, add-zero)

suc_plus : (a b : ℕ) → suc a + b ≡ suc (a + b)
suc_plus a b = omega arith

one_plus : (a b : ℕ) → a + (1 + b) ≡ suc (a + b)
one_plus a b = omega arith

pub scope_form : (p : Pos) (b : Block) (brk : ℕ) (w : Work) → with_scoped b brk w ≡ with_stat (tree.scope p b) brk w
unfolding with_stat with_scoped with_block skip free_from next_from declaring leaving
scope_form p b brk w = simp add-zero

pub while_form : (p : Pos) (e : Exp) (b : Block) (brk : ℕ) (w : Work)
    → next_from (w.scope.next + exp_locals e + block_locals b)
    (put (instr.JumpIf (length w.code + 1)) p
    (with_exp e
    (next_from w.scope.next
    (with_scoped b (length w.code + 2 + block_size b + exp_size e + 1)
    (skip (exp_locals e)
    (put instr.Turn p
    (put (instr.Jump (length w.code + 2 + block_size b)) p w)))))))
    ≡ with_stat (tree.while p e b) brk w
unfolding with_stat with_scoped with_block with_exp put_all skip free_from next_from declaring leaving
while_form p e b brk w = simp (append_assoc, length-append, block_length, block_count, add_assoc, add-zero, suc_plus, unary_clauses)

-- with the text of the block passed
block_passed : (b : Block) (brk : ℕ) (w : Work) → next_from (w.scope.next + block_locals b) (with_block b brk w) ≡ with_block b brk w
unfolding with_block skip free_from next_from declaring leaving
block_passed b brk w = ap (λ z. next_from z (with_block b brk w)) (sym (behind_next b w.scope))

repeat_passed : (p : Pos) (b : Block) (e : Exp) (brk : ℕ) (w : Work)
    → leaving (length w.scope.own) w.scope.free (put (instr.JumpIfNot (length w.code)) p (with_exp e (next_from (w.scope.next + block_locals b) (with_block b (length w.code + 1 + block_size b + exp_size e + 1) (put instr.Turn p w)))))
    ≡ with_stat (tree.repeat p b e) brk w
unfolding with_stat with_block with_exp put_all skip free_from next_from declaring leaving
repeat_passed p b e brk w =
    rw (behind_own b w.scope)
    (simp (append_assoc, length-append, block_length, block_count, behind_names, behind_captured, add_assoc, add-zero, suc_plus, unary_clauses))

pub repeat_form : (p : Pos) (b : Block) (e : Exp) (brk : ℕ) (w : Work)
    → leaving (length w.scope.own) w.scope.free (put (instr.JumpIfNot (length w.code)) p (with_exp e (with_block b (length w.code + 1 + block_size b + exp_size e + 1) (put instr.Turn p w))))
    ≡ with_stat (tree.repeat p b e) brk w
unfolding with_block with_exp put_all skip free_from next_from declaring leaving
repeat_form p b e brk w =
    ap (λ v. leaving (length w.scope.own) w.scope.free (put (instr.JumpIfNot (length w.code)) p (with_exp e v))) (sym (block_passed b (length w.code + 1 + block_size b + exp_size e + 1) (put instr.Turn p w)))
    ∙ repeat_passed p b e brk w

pub choose_form : (p : Pos) (cs : Clauses) (b : Else) (brk : ℕ) (w : Work)
    → with_else b brk (with_clauses cs p (length w.code + clauses_size cs + else_size b) brk w) ≡ with_stat (tree.choose p cs b) brk w
unfolding with_stat with_clauses with_else skip free_from next_from declaring leaving
choose_form p cs b brk w = simp (append_assoc, length-append, clauses_length, clauses_count, add_assoc, add-zero)

pub no_clause_form : (p : Pos) (end brk : ℕ) (w : Work) → w ≡ with_clauses tree.no_clause p end brk w
unfolding with_clauses skip free_from next_from declaring leaving
no_clause_form p end brk w = simp (append-nil, add-zero)

pub clause_form : (e : Exp) (b : Block) (cs : Clauses) (p : Pos) (end brk : ℕ) (w : Work)
    → with_clauses cs p end brk
    (put (instr.Jump end) p
    (with_scoped b brk
    (put (instr.JumpIfNot (length w.code + exp_size e + 1 + block_size b + 1)) p (with_exp e w))))
    ≡ with_clauses (tree.clause e b cs) p end brk w
unfolding with_clauses with_scoped with_block with_exp put_all skip free_from next_from declaring leaving
clause_form e b cs p end brk w = simp (append_assoc, length-append, exp_length, exp_count, block_length, block_count, add_assoc, suc_plus, unary_clauses)

pub no_else_form : (brk : ℕ) (w : Work) → w ≡ with_else tree.no_else brk w
unfolding with_else skip free_from next_from declaring leaving
no_else_form brk w = simp (append-nil, add-zero)

pub else_form : (b : Block) (brk : ℕ) (w : Work) → with_scoped b brk w ≡ with_else (tree.else_do b) brk w
unfolding with_else with_scoped with_block skip free_from next_from declaring leaving
else_form b brk w = refl

pub define_form : (p : Pos) (e f : Exp) (brk : ℕ) (w : Work) → put (store_instr e w.scope) p (with_exp f (skip (exp_locals e) w)) ≡ with_stat (tree.define p e f) brk w
unfolding with_stat with_exp put_all skip free_from next_from declaring leaving
define_form p e f brk w = simp (append_assoc, add_assoc, add-zero)

pub declare_function_form : (p : Pos) (n : Name) (f : Exp) (brk : ℕ) (w : Work)
    → put (instr.SetCell w.scope.free) p
    (with_exp f
    (skip 1
    (declaring 1 w.scope.next
    (put (instr.NewCell w.scope.free) p
    (put (instr.SetSlot w.scope.free) p
    (put instr.Nil p w))))))
    ≡ with_stat (tree.declare_function p n f) brk w
unfolding with_stat with_exp put_all skip free_from next_from declaring leaving
declare_function_form p n f brk w = simp (append_assoc, length-append, add_assoc, suc_plus, unary_clauses) (simp one_plus)

pub declare_form : (p : Pos) (ns : List Typed) (es : Exps) (brk : ℕ) (w : Work)
    → declaring (length ns) w.scope.next
    (put_all (begin_locals w.scope.free (length ns) p)
    (put (instr.Spread (length ns)) p
    (with_list es p 0
    (skip (length ns) w))))
    ≡ with_stat (tree.declare p ns es) brk w
unfolding with_stat with_list put_all skip free_from next_from declaring leaving
declare_form p ns es brk w = simp (append_assoc, add_assoc)

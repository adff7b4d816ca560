-- Jumps that are written before the place that they lead to is known: with their targets set, the code is that of the whole.
use Rattle.std.proofs.Common.{◌≡◌, refl, sym, ap, ◌∙◌, ℕ, ◌+◌, List, [], ◌∷◌, ◌++◌, length, arith, add_assoc, append_assoc}
use Rattle.std.specs.Prelude.{slice_set}
use Rattle.std.proofs.lemmas.List.{length-append, set_at}
use Rattle.tl_base.specs.declared.place.Pos.{Pos}
use Rattle.lua_tree.specs.Tree as tree
use Rattle.lua_tree.specs.declared.syntax.BinaryOperator.{BinaryOperator}
use Rattle.lua_tree.specs.declared.syntax.BinaryOperator.TheVariants as binary
use Rattle.lua_tree.specs.Tree.{Exp, Clauses, Else, Block}
use Rattle.lua_meaning.specs.Locals.{exp_locals, block_locals}
use Rattle.lua_code.specs.declared.code.Instr.{Instr}
use Rattle.lua_code.specs.declared.code.Instr.TheVariants as instr
use Rattle.lua_code.specs.Sizes.{exp_size, block_size, clauses_size, else_size, operator_slots, exp_functions, block_functions}
use Rattle.lua_code.specs.Generated.{Placed, one, Scope, past, exp_code, block_code, clauses_code}
use Rattle.lua_code.proofs.Faithful.Lengths.{exp_length, block_length, clauses_length, else_length}
use Rattle.code_gen.specs.Pieces.{between, settled, behind}
use Rattle.code_gen.proofs.Forms.Statements.{choose_form}
use Rattle.code_gen.proofs.Forms.Numbers.{binary_written, clause_written, exp_place}
use Rattle.code_gen.specs.Work.{Work, free_from, put_all, put, with_exp, with_stat, with_clauses, with_else, with_block, with_scoped, patched, all_patched, last_jumps}

set_behind : {A : Type 0} (xs ys : List A) (y a : A) → slice_set (xs ++ y ∷ ys) (length xs) a ≡ xs ++ a ∷ ys
set_behind xs ys y a = set_at xs y ys a (length xs) refl

put_place : (i : Instr) (p : Pos) (w : Work) → length (put i p w).code ≡ length w.code + 1
unfolding put_all
put_place i p w = length-append w.code (one i p)

-- ---- operations

-- what stands before the right operand
right_set : (i j : Instr) (p : Pos) (b : Exp) (k : ℕ) (v : Work) → patched (length v.code) j p (with_exp b (free_from k (put i p v))) ≡ with_exp b (free_from k (put j p v))
unfolding patched with_exp put_all free_from
right_set i j p b k v = simp (append_assoc, length-append, set_behind)

right_place : (i : Instr) (p : Pos) (b : Exp) (k : ℕ) (v : Work) → length (with_exp b (free_from k (put i p v))).code ≡ length v.code + exp_size b + 1
unfolding free_from
right_place i p b k v = exp_place b (free_from k (put i p v)) ∙ ap (λ n. n + exp_size b) (put_place i p v) ∙ omega arith

settled_right : (o : BinaryOperator) (p : Pos) (b : Exp) (s k : ℕ) (v : Work)
    → settled o p (length v.code) (with_exp b (free_from k (put_all (between o p s 0) v))) ≡ with_exp b (free_from k (put_all (between o p s (length v.code + exp_size b + 1)) v))
settled_right binary.Or p b s k v =
    ap (λ n. patched (length v.code) (instr.KeepIf n) p (with_exp b (free_from k (put (instr.KeepIf 0) p v)))) (right_place (instr.KeepIf 0) p b k v)
    ∙ right_set (instr.KeepIf 0) (instr.KeepIf (length v.code + exp_size b + 1)) p b k v
settled_right binary.And p b s k v =
    ap (λ n. patched (length v.code) (instr.KeepIfNot n) p (with_exp b (free_from k (put (instr.KeepIfNot 0) p v)))) (right_place (instr.KeepIfNot 0) p b k v)
    ∙ right_set (instr.KeepIfNot 0) (instr.KeepIfNot (length v.code + exp_size b + 1)) p b k v
settled_right binary.Less p b s k v = refl
settled_right binary.Greater p b s k v = refl
settled_right binary.LessEqual p b s k v = refl
settled_right binary.GreaterEqual p b s k v = refl
settled_right binary.NotEqual p b s k v = refl
settled_right binary.Equal p b s k v = refl
settled_right binary.BitOr p b s k v = refl
settled_right binary.BitXor p b s k v = refl
settled_right binary.BitAnd p b s k v = refl
settled_right binary.ShiftLeft p b s k v = refl
settled_right binary.ShiftRight p b s k v = refl
settled_right binary.Concat p b s k v = refl
settled_right binary.Add p b s k v = refl
settled_right binary.Subtract p b s k v = refl
settled_right binary.Multiply p b s k v = refl
settled_right binary.Divide p b s k v = refl
settled_right binary.Modulo p b s k v = refl

-- an operation from its first free slot
abbrev pub binary_at : Work → Pos → BinaryOperator → Exp → Exp → ℕ → Work
binary_at w p o a b slot =
    let left : Work = with_exp a w in
    put_all (behind o p slot) (free_from slot (settled o p (length left.code) (with_exp b (free_from (slot + operator_slots o) (put_all (between o p slot 0) left)))))

pub binary_settled : (p : Pos) (o : BinaryOperator) (a b : Exp) (w : Work) → binary_at w p o a b w.scope.free ≡ with_exp (tree.binary p o a b) w
binary_settled p o a b w =
    ap (λ v. put_all (behind o p w.scope.free) (free_from w.scope.free v)) (settled_right o p b w.scope.free (w.scope.free + operator_slots o) (with_exp a w))
    ∙ binary_written p o a b w

-- ---- the clauses of an `if`

-- what stands before a clause's block
test_set : (i j k : Instr) (p : Pos) (b : Block) (brk : ℕ) (v : Work) → patched (length v.code) j p (put k p (with_scoped b brk (put i p v))) ≡ put k p (with_scoped b brk (put j p v))
unfolding patched with_scoped with_block put_all
test_set i j k p b brk v = simp (append_assoc, length-append, set_behind)

scoped_place : (b : Block) (brk : ℕ) (w : Work) → length (with_scoped b brk w).code ≡ length w.code + block_size b
unfolding with_scoped with_block
scoped_place b brk w = simp (length-append, block_length)

last_place : (i : Instr) (p : Pos) (b : Block) (brk : ℕ) (v : Work) → length (with_scoped b brk (put i p v)).code ≡ length v.code + 1 + block_size b
last_place i p b brk v = scoped_place b brk (put i p v) ∙ ap (λ n. n + block_size b) (put_place i p v)

-- where its last jump stands
pub last_jump : (e : Exp) (p : Pos) (b : Block) (brk : ℕ) (w : Work) → length (with_scoped b brk (put (instr.JumpIfNot 0) p (with_exp e w))).code ≡ length w.code + exp_size e + 1 + block_size b
last_jump e p b brk w = last_place (instr.JumpIfNot 0) p b brk (with_exp e w) ∙ ap (λ n. n + 1 + block_size b) (exp_place e w)

-- a clause from behind its condition
abbrev pub clause_at : Pos → Block → ℕ → Work → Work
clause_at p b brk v =
    let u : Work = put (instr.Jump 0) p (with_scoped b brk (put (instr.JumpIfNot 0) p v)) in
    patched (length v.code) (instr.JumpIfNot (length u.code)) p u

clause_set : (p : Pos) (b : Block) (brk : ℕ) (v : Work) → clause_at p b brk v ≡ put (instr.Jump 0) p (with_scoped b brk (put (instr.JumpIfNot (length v.code + 1 + block_size b + 1)) p v))
clause_set p b brk v =
    let u : Work = put (instr.Jump 0) p (with_scoped b brk (put (instr.JumpIfNot 0) p v)) in
    ap (λ n. patched (length v.code) (instr.JumpIfNot n) p u) (put_place (instr.Jump 0) p (with_scoped b brk (put (instr.JumpIfNot 0) p v)) ∙ ap (λ n. n + 1) (last_place (instr.JumpIfNot 0) p b brk v))
    ∙ test_set (instr.JumpIfNot 0) (instr.JumpIfNot (length v.code + 1 + block_size b + 1)) (instr.Jump 0) p b brk v

pub clause_settled : (e : Exp) (b : Block) (cs : Clauses) (p : Pos) (brk : ℕ) (w : Work) → with_clauses cs p 0 brk (clause_at p b brk (with_exp e w)) ≡ with_clauses (tree.clause e b cs) p 0 brk w
clause_settled e b cs p brk w = ap (λ v. with_clauses cs p 0 brk v) (clause_set p b brk (with_exp e w)) ∙ clause_written e b cs p 0 brk w

pub clause_place : (e : Exp) (p : Pos) (b : Block) (brk : ℕ) (w : Work) → length (clause_at p b brk (with_exp e w)).code ≡ length w.code + exp_size e + 1 + block_size b + 1
clause_place e p b brk w =
    let v : Work = with_exp e w in
    let j : Instr = instr.JumpIfNot (length v.code + 1 + block_size b + 1) in
    ap (λ u. length u.code) (clause_set p b brk v)
    ∙ put_place (instr.Jump 0) p (with_scoped b brk (put j p v))
    ∙ ap (λ n. n + 1) (last_place j p b brk v ∙ ap (λ n. n + 1 + block_size b) (exp_place e w))

-- ---- the end of an `if`

-- an element at some places
abbrev set_each : List ℕ → Instr × Pos → Placed → Placed
set_each [] x c = c
set_each (at ∷ ats) x c = set_each ats x (slice_set c at x)

abbrev with_code : Placed → Work → Work
with_code c w = record w { code = c }

all_set : (ats : List ℕ) (i : Instr) (p : Pos) (w : Work) → all_patched ats i p w ≡ with_code (set_each ats (i, p) w.code) w
unfolding patched
all_set [] i p w = refl
all_set (at ∷ ats) i p w = all_set ats i p (patched at i p w)

-- the code of a clause and of those behind it, around its last jump
parted : (pre a b r post : Placed) (j k : Instr × Pos) → pre ++ ((a ++ j ∷ (b ++ k ∷ r)) ++ post) ≡ (pre ++ (a ++ j ∷ b)) ++ k ∷ (r ++ post)
parted pre a b r post j k = simp append_assoc

last_set : (cs : Clauses) (p : Pos) (sc : Scope) (base at end brk : ℕ) (pre post : Placed) → length pre ≡ at
    → set_each (last_jumps cs at) (instr.Jump end, p) (pre ++ (clauses_code cs p sc base at 0 brk ++ post)) ≡ pre ++ (clauses_code cs p sc base at end brk ++ post)
last_set tree.no_clause p sc base at end brk pre post h = refl
last_set (tree.clause e b cs) p sc base at end brk pre post h =
    let inner : ℕ = at + exp_size e + 1 in
    let there : ℕ = inner + block_size b in
    let test : Instr × Pos = (instr.JumpIfNot (there + 1), p) in
    let x : Instr × Pos = (instr.Jump end, p) in
    let a : Placed = exp_code e sc base at in
    let c : Placed = block_code b (past (exp_locals e) sc) (base + exp_functions e) inner brk in
    let front : Placed = pre ++ (a ++ test ∷ c) in
    let behind_it : Scope = past (exp_locals e + block_locals b) sc in
    let base_there : ℕ = base + exp_functions e + block_functions b in
    let first : Placed = clauses_code cs p behind_it base_there (there + 1) 0 brk in
    let last : Placed = clauses_code cs p behind_it base_there (there + 1) end brk in
    let long : length front ≡ there =
    omega (arith, h, length-append pre (a ++ test ∷ c), length-append a (test ∷ c), exp_length e sc base at, block_length b (past (exp_locals e) sc) (base + exp_functions e) inner brk) in
    let longer : length (front ++ x ∷ []) ≡ there + 1 = length-append front (x ∷ []) ∙ ap (λ n. n + 1) long in
    ap (λ l. set_each (last_jumps cs (there + 1)) x (slice_set l there x)) (parted pre a c first post test (instr.Jump 0, p))
    ∙ ap (λ l. set_each (last_jumps cs (there + 1)) x l) (set_at front (instr.Jump 0, p) (first ++ post) x there long ∙ sym (append_assoc front (x ∷ []) (first ++ post)))
    ∙ last_set cs p behind_it base_there (there + 1) end brk (front ++ x ∷ []) post longer
    ∙ append_assoc front (x ∷ []) (last ++ post)
    ∙ sym (parted pre a c last post test x)

last_set_here : (cs : Clauses) (p : Pos) (sc : Scope) (base end brk : ℕ) (pre post : Placed)
    → set_each (last_jumps cs (length pre)) (instr.Jump end, p) (pre ++ (clauses_code cs p sc base (length pre) 0 brk ++ post)) ≡ pre ++ (clauses_code cs p sc base (length pre) end brk ++ post)
last_set_here cs p sc base end brk pre post = last_set cs p sc base (length pre) end brk pre post refl

ends_set : (cs : Clauses) (b : Else) (p : Pos) (end brk : ℕ) (w : Work)
    → all_patched (last_jumps cs (length w.code)) (instr.Jump end) p (with_else b brk (with_clauses cs p 0 brk w)) ≡ with_else b brk (with_clauses cs p end brk w)
unfolding with_else with_clauses
ends_set cs b p end brk w =
    all_set (last_jumps cs (length w.code)) (instr.Jump end) p (with_else b brk (with_clauses cs p 0 brk w))
    ∙ simp (append_assoc, length-append, clauses_length, last_set_here)

end_place : (cs : Clauses) (b : Else) (p : Pos) (brk : ℕ) (w : Work) → length (with_else b brk (with_clauses cs p 0 brk w)).code ≡ length w.code + clauses_size cs + else_size b
unfolding with_else with_clauses
end_place cs b p brk w = simp (length-append, clauses_length, else_length, add_assoc)

pub choose_settled : (p : Pos) (cs : Clauses) (b : Else) (brk : ℕ) (w : Work)
    → let chosen : Work = with_else b brk (with_clauses cs p 0 brk w) in
    all_patched (last_jumps cs (length w.code)) (instr.Jump (length chosen.code)) p chosen ≡ with_stat (tree.choose p cs b) brk w
choose_settled p cs b brk w =
    ap (λ n. all_patched (last_jumps cs (length w.code)) (instr.Jump n) p (with_else b brk (with_clauses cs p 0 brk w))) (end_place cs b p brk w)
    ∙ ends_set cs b p (length w.code + clauses_size cs + else_size b) brk w
    ∙ choose_form p cs b brk w

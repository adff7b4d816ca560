-- The sizes are the lengths of what is generated.
use Rattle.std.proofs.Common.{◌≡◌, refl, ap, ℕ, zero, suc, ◌+◌, List, [], ◌∷◌, ◌++◌, length, arith}
use Rattle.std.proofs.lemmas.List.{length-append}
use Rattle.tl_base.specs.declared.place.Pos.{Pos}
use Rattle.lua_tree.specs.declared.syntax.BinaryOperator.{BinaryOperator}
use Rattle.lua_tree.specs.declared.syntax.BinaryOperator.TheVariants as binary
use Rattle.lua_tree.specs.Tree as tree
use Rattle.lua_tree.specs.Tree.{Exp, Multi, Exps, Function, Stat, Targets, Clauses, Else, Step, Block}
use Rattle.lua_tree.specs.Places.{place_of, multi_place}
use Rattle.lua_meaning.specs.Locals.{exp_locals, exps_locals, targets_locals, clauses_locals, step_locals, block_locals}
use Rattle.lua_meaning.specs.Trees.{first_place}
use Rattle.lua_code.specs.declared.code.Proto.{Proto}
use Rattle.lua_code.specs.declared.code.Instr.{Instr}
use Rattle.lua_code.specs.declared.code.Instr.TheVariants as instr
use Rattle.std.specs.Option.{is_some}
use Rattle.lua_code.specs.Sizes.{operator_size, operator_gap, operator_slots, exp_size, multi_size, exps_size, targets_size, step_size, stat_size, clauses_size, else_size, block_size, exp_functions, multi_functions, exps_functions, function_inner, step_functions, stat_functions, clauses_functions, else_functions, block_functions, block_slots}
use Rattle.lua_code.specs.Generated.{Placed, one, Scope, past, taken, declared, behind_stat, behind_block, store_instr, target_count, stores, unary_instr, mark_at, step_place, body_code, proto_of, captures_in, set_slots, new_cells, begin_locals, binary_code, exp_code, multi_code, list_code, step_code, iterate_code, stat_code, clauses_code, else_code, block_code, inside, exp_protos, multi_protos, exps_protos, function_protos, step_protos, stat_protos, clauses_protos, else_protos, block_protos}

pub len : {A : Type 0} (a b : List A) → length (a ++ b) ≡ length a + length b
len a b = length-append a b

joined : (a b : Placed) (i : Instr) (p : Pos) → length (a ++ (b ++ one i p)) ≡ length a + length b + 1
joined a b i p = Prim.omega (arith, len a (b ++ one i p), len b (one i p))

swapped : (a b : Placed) (i j k : Instr) (p : Pos) → length (a ++ (i, p) ∷ (b ++ (j, p) ∷ one k p)) ≡ length a + length b + 3
swapped a b i j k p = Prim.omega (arith, len a ((i, p) ∷ (b ++ (j, p) ∷ one k p)), len b ((j, p) ∷ one k p))

binary_length : (o : BinaryOperator) (p : Pos) (slot end : ℕ) (a b : Placed) → length (binary_code o p slot end a b) ≡ length a + length b + operator_size o
binary_length binary.Or p slot end a b = Prim.omega (arith, len a ((instr.KeepIf end, p) ∷ b))
binary_length binary.And p slot end a b = Prim.omega (arith, len a ((instr.KeepIfNot end, p) ∷ b))
binary_length binary.Less p slot end a b = joined a b _ p
binary_length binary.Greater p slot end a b = swapped a b _ _ _ p
binary_length binary.LessEqual p slot end a b = joined a b _ p
binary_length binary.GreaterEqual p slot end a b = swapped a b _ _ _ p
binary_length binary.NotEqual p slot end a b = Prim.omega (arith, len a (b ++ (instr.Eq, p) ∷ one instr.Not p), len b ((instr.Eq, p) ∷ one instr.Not p))
binary_length binary.Equal p slot end a b = joined a b _ p
binary_length binary.BitOr p slot end a b = joined a b _ p
binary_length binary.BitXor p slot end a b = joined a b _ p
binary_length binary.BitAnd p slot end a b = joined a b _ p
binary_length binary.ShiftLeft p slot end a b = joined a b _ p
binary_length binary.ShiftRight p slot end a b = joined a b _ p
binary_length binary.Concat p slot end a b = joined a b _ p
binary_length binary.Add p slot end a b = joined a b _ p
binary_length binary.Subtract p slot end a b = joined a b _ p
binary_length binary.Multiply p slot end a b = joined a b _ p
binary_length binary.Divide p slot end a b = joined a b _ p
binary_length binary.Modulo p slot end a b = joined a b _ p

pub set_slots_length : (n s : ℕ) (p : Pos) → length (set_slots s n p) ≡ n
set_slots_length zero s p = refl
set_slots_length (suc n) s p = Prim.omega (arith, len (set_slots (s + 1) n p) (one (instr.SetSlot s) p), set_slots_length n (s + 1) p)

pub new_cells_length : (n s : ℕ) (p : Pos) → length (new_cells s n p) ≡ n
new_cells_length zero s p = refl
new_cells_length (suc n) s p = ap suc (new_cells_length n (s + 1) p)

pub begin_length : (n s : ℕ) (p : Pos) → length (begin_locals s n p) ≡ n + n
begin_length n s p = Prim.omega (arith, len (set_slots s n p) (new_cells s n p), set_slots_length n s p, new_cells_length n s p)

pub stores_length : (ts : Targets) (p : Pos) (sc : Scope) → length (stores ts p sc) ≡ targets_size ts
stores_length tree.no_target p sc = refl
stores_length (tree.target e ts) p sc = Prim.omega (arith, len (stores ts p (past (exp_locals e) sc)) (one (store_instr e sc) p), stores_length ts p (past (exp_locals e) sc))

mutual
  pub exp_length : (e : Exp) (sc : Scope) (base at : ℕ) → length (exp_code e sc base at) ≡ exp_size e
  exp_length (tree.nothing p) sc base at = refl
  exp_length (tree.truth p b) sc base at = refl
  exp_length (tree.integer p n) sc base at = refl
  exp_length (tree.text p s) sc base at = refl
  exp_length (tree.function p f) sc base at = refl
  exp_length (tree.name p u s) sc base at = refl
  exp_length (tree.paren p e) sc base at = exp_length e sc base at
  exp_length (tree.field p e n) sc base at = refl
  exp_length (tree.index p e k) sc base at = refl
  exp_length (tree.table p es) sc base at = refl
  exp_length (tree.unary p o e) sc base at = Prim.omega (arith, len (exp_code e sc base at) (one (unary_instr o) p), exp_length e sc base at)
  exp_length (tree.binary p o a b) sc base at =
      let sb : Scope = taken (operator_slots o) (past (exp_locals a) sc) in
      let cb : Placed = exp_code b sb (base + exp_functions a) (at + exp_size a + operator_gap o) in
      Prim.omega (arith, binary_length o p sc.free (at + exp_size (tree.binary p o a b)) (exp_code a sc base at) cb, exp_length a sc base at, exp_length b sb (base + exp_functions a) (at + exp_size a + operator_gap o))
  exp_length (tree.mark k e) sc base at = Prim.omega (arith, len (exp_code e sc base at) (mark_at k (place_of e)), exp_length e sc base at)
  exp_length (tree.one_of m) sc base at = Prim.omega (arith, len (multi_code m sc base at) (one instr.First (multi_place m)), multi_length m sc base at)

  pub multi_length : (m : Multi) (sc : Scope) (base at : ℕ) → length (multi_code m sc base at) ≡ multi_size m
  multi_length (tree.vararg p) sc base at = refl
  multi_length (tree.call p f es) sc base at =
      let ce : Placed = list_code es p 0 (past (exp_locals f) sc) (base + exp_functions f) (at + exp_size f) in
      Prim.omega (arith, len (exp_code f sc base at) (ce ++ one instr.Call p), len ce (one instr.Call p), exp_length f sc base at, list_length es p 0 (past (exp_locals f) sc) (base + exp_functions f) (at + exp_size f))
  multi_length (tree.method p e n es) sc base at = refl
  multi_length (tree.mark_all k m) sc base at = Prim.omega (arith, len (multi_code m sc base at) (mark_at k (multi_place m)), multi_length m sc base at)

  pub list_length : (es : Exps) (p : Pos) (n : ℕ) (sc : Scope) (base at : ℕ) → length (list_code es p n sc base at) ≡ exps_size es
  list_length tree.none p n sc base at = refl
  list_length (tree.ends m) p n sc base at = Prim.omega (arith, len (multi_code m sc base at) (one (instr.Cons n) p), multi_length m sc base at)
  list_length (tree.more e es) p n sc base at =
      let ce : Placed = list_code es p (n + 1) (past (exp_locals e) sc) (base + exp_functions e) (at + exp_size e) in
      Prim.omega (arith, len (exp_code e sc base at) ce, exp_length e sc base at, list_length es p (n + 1) (past (exp_locals e) sc) (base + exp_functions e) (at + exp_size e))

pub step_length : (c : Step) (p : Pos) (sc : Scope) (base at : ℕ) → length (step_code c p sc base at) ≡ step_size c
step_length tree.no_step p sc base at = refl
step_length (tree.step e) p sc base at = Prim.omega (arith, len (exp_code e sc base at) (one instr.Bound (place_of e)), exp_length e sc base at)

mutual
  pub stat_length : (s : Stat) (sc : Scope) (base at brk : ℕ) → length (stat_code s sc base at brk) ≡ stat_size s
  stat_length (tree.empty p) sc base at brk = refl
  stat_length (tree.assign p ts es) sc base at brk =
      Prim.omega (arith, len (list_code es p 0 (past (targets_locals ts) sc) base at) ((instr.Spread (target_count ts), p) ∷ stores ts p sc), list_length es p 0 (past (targets_locals ts) sc) base at, stores_length ts p sc)
  stat_length (tree.run p e) sc base at brk = Prim.omega (arith, len (exp_code e sc base at) (one instr.Pop p), exp_length e sc base at)
  stat_length (tree.leave p) sc base at brk = refl
  stat_length (tree.scope p b) sc base at brk = block_length b sc base at brk
  stat_length (tree.while p e b) sc base at brk =
      let cb : Placed = block_code b (past (exp_locals e) sc) base (at + 2) (at + 2 + block_size b + exp_size e + 1) in
      let ce : Placed = exp_code e sc (base + block_functions b) (at + 2 + block_size b) in
      Prim.omega (
        arith,
        len cb (ce ++ one (instr.JumpIf (at + 1)) p),
        len ce (one (instr.JumpIf (at + 1)) p),
        block_length b (past (exp_locals e) sc) base (at + 2) (at + 2 + block_size b + exp_size e + 1),
        exp_length e sc (base + block_functions b) (at + 2 + block_size b),
      )
  stat_length (tree.repeat p b e) sc base at brk =
      let se : Scope = record (behind_block b sc) { next = sc.next + block_locals b } in
      let cb : Placed = block_code b sc base (at + 1) (at + 1 + block_size b + exp_size e + 1) in
      let ce : Placed = exp_code e se (base + block_functions b) (at + 1 + block_size b) in
      Prim.omega (
        arith,
        len cb (ce ++ one (instr.JumpIfNot at) p),
        len ce (one (instr.JumpIfNot at) p),
        block_length b sc base (at + 1) (at + 1 + block_size b + exp_size e + 1),
        exp_length e se (base + block_functions b) (at + 1 + block_size b),
      )
  stat_length (tree.choose p cs b) sc base at brk =
      let cc1 : Placed = clauses_code cs p sc base at (at + clauses_size cs + else_size b) brk in
      let cb : Placed = else_code b (past (clauses_locals cs) sc) (base + clauses_functions cs) (at + clauses_size cs) brk in
      Prim.omega (arith, len cc1 cb, clauses_length cs p sc base at (at + clauses_size cs + else_size b) brk, else_length b (past (clauses_locals cs) sc) (base + clauses_functions cs) (at + clauses_size cs) brk)
  stat_length (tree.count p n a b c d) sc base at brk =
      let first : ℕ = at + exp_size a + 2 in
      let second : ℕ = first + exp_size b + 2 in
      let turn : ℕ = second + step_size c + 2 in
      let behind : ℕ = turn + 4 + block_size d + 1 in
      let sb : Scope = taken 1 (past (1 + exp_locals a) sc) in
      let scc : Scope = taken 2 (past (1 + exp_locals a + exp_locals b) sc) in
      let sd : Scope = record (declared 1 (taken 3 sc)) { next = sc.next + (1 + exp_locals a + exp_locals b + step_locals c) } in
      let ca : Placed = exp_code a (past 1 sc) base at in
      let cb : Placed = exp_code b sb (base + exp_functions a) first in
      let cs : Placed = step_code c p scc (base + exp_functions a + exp_functions b) second in
      let cd : Placed = block_code d sd (base + exp_functions a + exp_functions b + step_functions c) (turn + 4) behind in
      let r4 : Placed = one (instr.ForStep sc.free turn) p in
      let r3 : Placed = (instr.SetSlot (sc.free + 2), p) ∷ (instr.ForPrep sc.free behind, step_place c p) ∷ (instr.Turn, p) ∷ (instr.GetSlot sc.free, p) ∷ (instr.SetSlot (sc.free + 3), p) ∷ (instr.NewCell (sc.free + 3), p) ∷ (cd ++ r4) in
      let r2 : Placed = (instr.Bound, place_of b) ∷ (instr.SetSlot (sc.free + 1), p) ∷ (cs ++ r3) in
      let r1 : Placed = (instr.Bound, place_of a) ∷ (instr.SetSlot sc.free, p) ∷ (cb ++ r2) in
      Prim.omega (
        arith,
        len ca r1,
        len cb r2,
        len cs r3,
        len cd r4,
        exp_length a (past 1 sc) base at,
        exp_length b sb (base + exp_functions a) first,
        step_length c p scc (base + exp_functions a + exp_functions b) second,
        block_length d sd (base + exp_functions a + exp_functions b + step_functions c) (turn + 4) behind,
      )
  stat_length (tree.each p ns es b) sc base at brk =
      let n : ℕ = length ns in
      let turn : ℕ = at + exps_size es + 5 in
      let test : ℕ = turn + 2 + n + n + block_size b in
      let sb : Scope = record (declared n (taken 3 sc)) { next = sc.next + (n + exps_locals es) } in
      let ce : Placed = list_code es p 0 (past n sc) base at in
      let cl : Placed = begin_locals (sc.free + 3) n p in
      let cb : Placed = block_code b sb (base + exps_functions es) (turn + 2 + n + n) (test + 13) in
      let ci : Placed = iterate_code sc.free turn p (first_place p es) in
      let r1 : Placed = (instr.Spread 3, p) ∷ (instr.SetSlot (sc.free + 2), p) ∷ (instr.SetSlot (sc.free + 1), p) ∷ (instr.SetSlot sc.free, p) ∷ (instr.Jump test, p) ∷ (instr.Turn, p) ∷ (instr.Spread n, p) ∷ (cl ++ (cb ++ ci)) in
      Prim.omega (arith, len ce r1, len cl (cb ++ ci), len cb ci, list_length es p 0 (past n sc) base at, begin_length n (sc.free + 3) p, block_length b sb (base + exps_functions es) (turn + 2 + n + n) (test + 13))
  stat_length (tree.define p e f) sc base at brk = Prim.omega (arith, len (exp_code f (past (exp_locals e) sc) base at) (one (store_instr e sc) p), exp_length f (past (exp_locals e) sc) base at)
  stat_length (tree.define_method p e n f) sc base at brk = refl
  stat_length (tree.declare_function p n f) sc base at brk =
      Prim.omega (arith, len (exp_code f (past 1 (declared 1 sc)) base (at + 3)) (one (instr.SetCell sc.free) p), exp_length f (past 1 (declared 1 sc)) base (at + 3))
  stat_length (tree.declare p ns es) sc base at brk =
      Prim.omega (arith, len (list_code es p 0 (past (length ns) sc) base at) ((instr.Spread (length ns), p) ∷ begin_locals sc.free (length ns) p), list_length es p 0 (past (length ns) sc) base at, begin_length (length ns) sc.free p)
  stat_length (tree.interface p n fs) sc base at brk = refl
  stat_length (tree.alias p n t) sc base at brk = refl

  pub clauses_length : (cs : Clauses) (p : Pos) (sc : Scope) (base at end brk : ℕ) → length (clauses_code cs p sc base at end brk) ≡ clauses_size cs
  clauses_length tree.no_clause p sc base at end brk = refl
  clauses_length (tree.clause e b cs) p sc base at end brk =
      let ce : Placed = exp_code e sc base at in
      let cb : Placed = block_code b (past (exp_locals e) sc) (base + exp_functions e) (at + exp_size e + 1) brk in
      let cr : Placed = clauses_code cs p (past (exp_locals e + block_locals b) sc) (base + exp_functions e + block_functions b) (at + exp_size e + 1 + block_size b + 1) end brk in
      Prim.omega (
        arith,
        len ce ((instr.JumpIfNot (at + exp_size e + 1 + block_size b + 1), p) ∷ (cb ++ (instr.Jump end, p) ∷ cr)),
        len cb ((instr.Jump end, p) ∷ cr),
        exp_length e sc base at,
        block_length b (past (exp_locals e) sc) (base + exp_functions e) (at + exp_size e + 1) brk,
        clauses_length cs p (past (exp_locals e + block_locals b) sc) (base + exp_functions e + block_functions b) (at + exp_size e + 1 + block_size b + 1) end brk,
      )

  pub else_length : (b : Else) (sc : Scope) (base at brk : ℕ) → length (else_code b sc base at brk) ≡ else_size b
  else_length tree.no_else sc base at brk = refl
  else_length (tree.else_do b) sc base at brk = block_length b sc base at brk

  pub block_length : (b : Block) (sc : Scope) (base at brk : ℕ) → length (block_code b sc base at brk) ≡ block_size b
  block_length tree.finish sc base at brk = refl
  block_length (tree.returns p es) sc base at brk = Prim.omega (arith, len (list_code es p 0 sc base at) (one instr.Return p), list_length es p 0 sc base at)
  block_length (tree.next s b) sc base at brk =
      let cb : Placed = block_code b (behind_stat s sc) (base + stat_functions s) (at + stat_size s) brk in
      Prim.omega (arith, len (stat_code s sc base at brk) cb, stat_length s sc base at brk, block_length b (behind_stat s sc) (base + stat_functions s) (at + stat_size s) brk)

-- ---- functions

mutual
  pub exp_count : (e : Exp) (sc : Scope) (base : ℕ) → length (exp_protos e sc base) ≡ exp_functions e
  exp_count (tree.nothing p) sc base = refl
  exp_count (tree.truth p b) sc base = refl
  exp_count (tree.integer p n) sc base = refl
  exp_count (tree.text p s) sc base = refl
  exp_count (tree.function p f) sc base = function_count f p sc base
  exp_count (tree.name p u s) sc base = refl
  exp_count (tree.paren p e) sc base = exp_count e sc base
  exp_count (tree.field p e n) sc base = refl
  exp_count (tree.index p e k) sc base = refl
  exp_count (tree.table p es) sc base = refl
  exp_count (tree.unary p o e) sc base = exp_count e sc base
  exp_count (tree.binary p o a b) sc base =
      let sb : Scope = taken (operator_slots o) (past (exp_locals a) sc) in
      Prim.omega (arith, len (exp_protos a sc base) (exp_protos b sb (base + exp_functions a)), exp_count a sc base, exp_count b sb (base + exp_functions a))
  exp_count (tree.mark k e) sc base = exp_count e sc base
  exp_count (tree.one_of m) sc base = multi_count m sc base

  pub multi_count : (m : Multi) (sc : Scope) (base : ℕ) → length (multi_protos m sc base) ≡ multi_functions m
  multi_count (tree.vararg p) sc base = refl
  multi_count (tree.call p f es) sc base =
      Prim.omega (arith, len (exp_protos f sc base) (exps_protos es (past (exp_locals f) sc) (base + exp_functions f)), exp_count f sc base, exps_count es (past (exp_locals f) sc) (base + exp_functions f))
  multi_count (tree.method p e n es) sc base = refl
  multi_count (tree.mark_all k m) sc base = multi_count m sc base

  pub exps_count : (es : Exps) (sc : Scope) (base : ℕ) → length (exps_protos es sc base) ≡ exps_functions es
  exps_count tree.none sc base = refl
  exps_count (tree.ends m) sc base = multi_count m sc base
  exps_count (tree.more e es) sc base =
      Prim.omega (arith, len (exp_protos e sc base) (exps_protos es (past (exp_locals e) sc) (base + exp_functions e)), exp_count e sc base, exps_count es (past (exp_locals e) sc) (base + exp_functions e))

  pub function_count : (f : Function) (p : Pos) (sc : Scope) (base : ℕ) → length (function_protos f p sc base) ≡ function_inner f + 1
  function_count (tree.function_of ps rest rs b) p sc base =
      Prim.omega (arith, len (block_protos b (inside (length ps) sc) base) (proto_of (length ps) (is_some rest) (captures_in sc) (length ps + block_slots b) (body_code (length ps) b p (inside (length ps) sc) base) ∷ []), block_count b (inside (length ps) sc) base)

  pub step_count : (c : Step) (sc : Scope) (base : ℕ) → length (step_protos c sc base) ≡ step_functions c
  step_count tree.no_step sc base = refl
  step_count (tree.step e) sc base = exp_count e sc base

  pub stat_count : (s : Stat) (sc : Scope) (base : ℕ) → length (stat_protos s sc base) ≡ stat_functions s
  stat_count (tree.empty p) sc base = refl
  stat_count (tree.assign p ts es) sc base = exps_count es (past (targets_locals ts) sc) base
  stat_count (tree.run p e) sc base = exp_count e sc base
  stat_count (tree.leave p) sc base = refl
  stat_count (tree.scope p b) sc base = block_count b sc base
  stat_count (tree.while p e b) sc base =
      Prim.omega (arith, len (block_protos b (past (exp_locals e) sc) base) (exp_protos e sc (base + block_functions b)), block_count b (past (exp_locals e) sc) base, exp_count e sc (base + block_functions b))
  stat_count (tree.repeat p b e) sc base =
      let se : Scope = record (behind_block b sc) { next = sc.next + block_locals b } in
      Prim.omega (arith, len (block_protos b sc base) (exp_protos e se (base + block_functions b)), block_count b sc base, exp_count e se (base + block_functions b))
  stat_count (tree.choose p cs b) sc base =
      Prim.omega (arith, len (clauses_protos cs sc base) (else_protos b (past (clauses_locals cs) sc) (base + clauses_functions cs)), clauses_count cs sc base, else_count b (past (clauses_locals cs) sc) (base + clauses_functions cs))
  stat_count (tree.count p n a b c d) sc base =
      let sb : Scope = taken 1 (past (1 + exp_locals a) sc) in
      let scc : Scope = taken 2 (past (1 + exp_locals a + exp_locals b) sc) in
      let sd : Scope = record (declared 1 (taken 3 sc)) { next = sc.next + (1 + exp_locals a + exp_locals b + step_locals c) } in
      let pb : List Proto = exp_protos b sb (base + exp_functions a) in
      let pc : List Proto = step_protos c scc (base + exp_functions a + exp_functions b) in
      let pd : List Proto = block_protos d sd (base + exp_functions a + exp_functions b + step_functions c) in
      Prim.omega (
        arith,
        len (exp_protos a (past 1 sc) base) (pb ++ (pc ++ pd)),
        len pb (pc ++ pd),
        len pc pd,
        exp_count a (past 1 sc) base,
        exp_count b sb (base + exp_functions a),
        step_count c scc (base + exp_functions a + exp_functions b),
        block_count d sd (base + exp_functions a + exp_functions b + step_functions c),
      )
  stat_count (tree.each p ns es b) sc base =
      let sb : Scope = record (declared (length ns) (taken 3 sc)) { next = sc.next + (length ns + exps_locals es) } in
      Prim.omega (arith, len (exps_protos es (past (length ns) sc) base) (block_protos b sb (base + exps_functions es)), exps_count es (past (length ns) sc) base, block_count b sb (base + exps_functions es))
  stat_count (tree.define p e f) sc base = exp_count f (past (exp_locals e) sc) base
  stat_count (tree.define_method p e n f) sc base = refl
  stat_count (tree.declare_function p n f) sc base = exp_count f (past 1 (declared 1 sc)) base
  stat_count (tree.declare p ns es) sc base = exps_count es (past (length ns) sc) base
  stat_count (tree.interface p n fs) sc base = refl
  stat_count (tree.alias p n t) sc base = refl

  pub clauses_count : (cs : Clauses) (sc : Scope) (base : ℕ) → length (clauses_protos cs sc base) ≡ clauses_functions cs
  clauses_count tree.no_clause sc base = refl
  clauses_count (tree.clause e b cs) sc base =
      let pb : List Proto = block_protos b (past (exp_locals e) sc) (base + exp_functions e) in
      let pr : List Proto = clauses_protos cs (past (exp_locals e + block_locals b) sc) (base + exp_functions e + block_functions b) in
      Prim.omega (
        arith,
        len (exp_protos e sc base) (pb ++ pr),
        len pb pr,
        exp_count e sc base,
        block_count b (past (exp_locals e) sc) (base + exp_functions e),
        clauses_count cs (past (exp_locals e + block_locals b) sc) (base + exp_functions e + block_functions b),
      )

  pub else_count : (b : Else) (sc : Scope) (base : ℕ) → length (else_protos b sc base) ≡ else_functions b
  else_count tree.no_else sc base = refl
  else_count (tree.else_do b) sc base = block_count b sc base

  pub block_count : (b : Block) (sc : Scope) (base : ℕ) → length (block_protos b sc base) ≡ block_functions b
  block_count tree.finish sc base = refl
  block_count (tree.returns p es) sc base = exps_count es sc base
  block_count (tree.next s b) sc base =
      Prim.omega (arith, len (stat_protos s sc base) (block_protos b (behind_stat s sc) (base + stat_functions s)), stat_count s sc base, block_count b (behind_stat s sc) (base + stat_functions s))

-- What the loops over numbers and over what an iterator gives add. The parts come behind code that is long already.
use Rattle.std.proofs.Common.{◌≡◌, ap, ◌∙◌, ℕ, ◌+◌, List, [], ◌∷◌, ◌++◌, length, arith, add_assoc, append_assoc, add-zero}
use Rattle.std.proofs.lemmas.List.{length-append, append-nil}
use Rattle.tl_base.specs.declared.place.Pos.{Pos}
use Rattle.lua_tree.specs.Tree as tree
use Rattle.lua_tree.specs.declared.annotation.Name.{Name}
use Rattle.lua_tree.specs.Tree.{Exp, Targets, Multi, Exps, Entries, Function, Stat, Clauses, Else, Step, Block}
use Rattle.lua_tree.specs.Places.{place_of}
use Rattle.lua_meaning.specs.Locals.{exp_locals, exps_locals, step_locals, stat_locals, block_locals}
use Rattle.lua_code.specs.declared.code.Proto.{Proto}
use Rattle.lua_code.specs.declared.code.Instr.{Instr}
use Rattle.lua_code.specs.declared.code.Instr.TheVariants as instr
use Rattle.lua_code.specs.Sizes.{block_size, step_size, step_functions, exp_size, exps_size, exp_functions, exps_functions}
use Rattle.lua_code.specs.Generated.{in_slots, begin_locals, step_place, iterate_code, block_code, block_protos, Placed, one, Scope, past, exp_code, list_code, step_code, exp_protos, exps_protos, step_protos}
use Rattle.lua_code.proofs.Faithful.Lengths.{exp_length, list_length, exp_count, exps_count, step_length, step_count, begin_length}
use Rattle.code_gen.proofs.Forms.Statements.{left_slots}
use Rattle.lua_meaning.specs.Trees.{first_place}
use Rattle.code_gen.specs.Work.{Work, base, grown, skip, free_from, next_from, put_all, put, with_exp, with_list, with_step, declaring, with_bound, with_count_begun, with_each_begun, leaving, with_stat, with_block, with_scoped}

module _ (w : Work) (c : Placed) (ps : List Proto) (sc : Scope) where
  put_after : (i : Instr) (p : Pos) → put i p (grown c ps sc w) ≡ grown (c ++ one i p) ps sc w
  unfolding put_all skip free_from next_from declaring leaving
  put_after i p = simp append_assoc

  put_all_after : (d : Placed) → put_all d (grown c ps sc w) ≡ grown (c ++ d) ps sc w
  unfolding put_all skip free_from next_from declaring leaving
  put_all_after d = simp append_assoc

  module _ (a b : ℕ) (here : length w.code + length c ≡ a) (number : base w + length ps ≡ b) where
    exp_after : (e : Exp) → with_exp e (grown c ps sc w) ≡ grown (c ++ exp_code e sc b a) (ps ++ exp_protos e sc b) (past (exp_locals e) sc) w
    unfolding with_exp skip free_from next_from declaring leaving
    exp_after e = rw (← here, ← number) (simp (append_assoc, length-append, add_assoc))

    step_after : (e : Step) (p : Pos) → with_step e p (grown c ps sc w) ≡ grown (c ++ step_code e p sc b a) (ps ++ step_protos e sc b) (past (step_locals e) sc) w
    unfolding with_step skip free_from next_from declaring leaving
    step_after e p = rw (← here, ← number) (simp (append_assoc, length-append, add_assoc))

    list_after : (es : Exps) (p : Pos) (n : ℕ) → with_list es p n (grown c ps sc w) ≡ grown (c ++ list_code es p n sc b a) (ps ++ exps_protos es sc b) (past (exps_locals es) sc) w
    unfolding with_list skip free_from next_from declaring leaving
    list_after es p n = rw (← here, ← number) (simp (append_assoc, length-append, add_assoc))

    scoped_after : (d : Block) (brk : ℕ) → with_scoped d brk (grown c ps sc w) ≡ grown (c ++ block_code d sc b a brk) (ps ++ block_protos d sc b) (past (block_locals d) sc) w
    unfolding with_scoped with_block skip free_from next_from declaring leaving
    scoped_after d brk = rw (← here, ← number) (simp (append_assoc, length-append, add_assoc))

    bound_after : (e : Exp) (slot : ℕ) (p : Pos)
        → with_bound e slot p (grown c ps sc w) ≡ grown (c ++ (exp_code e sc b a ++ (instr.Bound, place_of e) ∷ one (instr.SetSlot slot) p)) (ps ++ exp_protos e sc b) (record (past (exp_locals e) sc) { free = slot + 1 }) w
    unfolding put_all skip free_from next_from declaring leaving
    bound_after e slot p = ap (λ v. free_from (slot + 1) (put (instr.SetSlot slot) p (put instr.Bound (place_of e) v))) (exp_after e) ∙ simp append_assoc

begun : (w : Work) → w ≡ grown [] [] w.scope w
begun w = simp append-nil

-- ---- the numeric `for`

begun_count_after : (w : Work) (c : Placed) (ps : List Proto) (sc : Scope) (slot x end : ℕ) (q p : Pos)
    → with_count_begun slot x end q p (grown c ps sc w)
    ≡ grown (c ++ (instr.ForPrep slot end, q) ∷ (instr.Turn, p) ∷ (instr.GetSlot slot, p) ∷ (instr.SetSlot (slot + 3), p) ∷ one (instr.NewCell (slot + 3)) p) ps (record sc { own = (x, slot + 3) ∷ sc.own; free = slot + 3 + 1 }) w
unfolding put_all skip free_from next_from declaring leaving
begun_count_after w c ps sc slot x end q p = simp append_assoc

module _ (w : Work) (p : Pos) (a b : Exp) (c : Step) (d : Block) (turn end : ℕ)
    (at_turn : turn ≡ length w.code + exp_size a + 2 + exp_size b + 2 + step_size c + 2)
    (at_end : end ≡ turn + 4 + block_size d + 1) where
  abbrev slot : ℕ
  slot = w.scope.free

  abbrev second : ℕ
  second = length w.code + exp_size a + 2

  abbrev third : ℕ
  third = second + exp_size b + 2

  -- the code, the functions and the scope behind each of the parts
  abbrev code_a : Placed
  code_a = exp_code a (past 1 w.scope) (base w) (length w.code) ++ (instr.Bound, place_of a) ∷ one (instr.SetSlot slot) p

  abbrev scope_a : Scope
  scope_a = record w.scope { next = w.scope.next + 1 + exp_locals a; free = slot + 1 }

  abbrev code_b : Placed
  code_b = exp_code b scope_a (base w + exp_functions a) second ++ (instr.Bound, place_of b) ∷ one (instr.SetSlot (slot + 1)) p

  abbrev scope_b : Scope
  scope_b = record w.scope { next = w.scope.next + 1 + exp_locals a + exp_locals b; free = slot + 1 + 1 }

  abbrev code_c : Placed
  code_c = step_code c p scope_b (base w + exp_functions a + exp_functions b) third

  abbrev code_turn : Placed
  code_turn = (instr.ForPrep slot end, step_place c p) ∷ (instr.Turn, p) ∷ (instr.GetSlot slot, p) ∷ (instr.SetSlot (slot + 3), p) ∷ one (instr.NewCell (slot + 3)) p

  abbrev scope_turn : Scope
  scope_turn = record w.scope { own = (w.scope.next, slot + 3) ∷ w.scope.own; next = w.scope.next + 1 + exp_locals a + exp_locals b + step_locals c; free = slot + 3 + 1 }

  abbrev functions_a : List Proto
  functions_a = exp_protos a (past 1 w.scope) (base w)

  abbrev functions_b : List Proto
  functions_b = exp_protos b scope_a (base w + exp_functions a)

  abbrev functions_c : List Proto
  functions_c = step_protos c scope_b (base w + exp_functions a + exp_functions b)

  part_a : with_bound a slot p (skip 1 w) ≡ grown ([] ++ code_a) ([] ++ functions_a) scope_a w
  unfolding skip free_from next_from declaring leaving
  part_a = ap (λ v. with_bound a slot p v) (begun (skip 1 w)) ∙ bound_after (skip 1 w) [] [] (past 1 w.scope) (length w.code) (base w) (add-zero (length w.code)) (add-zero (base w)) a slot p

  part_b : with_bound b (slot + 1) p (grown ([] ++ code_a) ([] ++ functions_a) scope_a w) ≡ grown ([] ++ code_a ++ code_b) ([] ++ functions_a ++ functions_b) scope_b w
  part_b =
      bound_after w ([] ++ code_a) ([] ++ functions_a) scope_a second (base w + exp_functions a)
      (omega (arith, length-append (exp_code a (past 1 w.scope) (base w) (length w.code)) ((instr.Bound, place_of a) ∷ one (instr.SetSlot slot) p), exp_length a (past 1 w.scope) (base w) (length w.code)))
      (omega (arith, exp_count a (past 1 w.scope) (base w)))
      b (slot + 1) p

  part_c : put (instr.SetSlot (slot + 2)) p (with_step c p (grown ([] ++ code_a ++ code_b) ([] ++ functions_a ++ functions_b) scope_b w))
      ≡ grown ([] ++ code_a ++ code_b ++ code_c ++ one (instr.SetSlot (slot + 2)) p) ([] ++ functions_a ++ functions_b ++ functions_c) (past (step_locals c) scope_b) w
  part_c =
      ap (put (instr.SetSlot (slot + 2)) p)
      (step_after w ([] ++ code_a ++ code_b) ([] ++ functions_a ++ functions_b) scope_b third (base w + exp_functions a + exp_functions b) (here_b) (number_b) c p)
      ∙ put_after w ([] ++ code_a ++ code_b ++ code_c) ([] ++ functions_a ++ functions_b ++ functions_c) (past (step_locals c) scope_b) (instr.SetSlot (slot + 2)) p
    where
      here_b : length w.code + length ([] ++ code_a ++ code_b) ≡ third
      here_b = omega (
        arith,
        length-append code_a code_b,
        length-append (exp_code a (past 1 w.scope) (base w) (length w.code)) ((instr.Bound, place_of a) ∷ one (instr.SetSlot slot) p),
        exp_length a (past 1 w.scope) (base w) (length w.code),
        length-append (exp_code b scope_a (base w + exp_functions a) second) ((instr.Bound, place_of b) ∷ one (instr.SetSlot (slot + 1)) p),
        exp_length b scope_a (base w + exp_functions a) second,
      )

      number_b : base w + length ([] ++ functions_a ++ functions_b) ≡ base w + exp_functions a + exp_functions b
      number_b = omega (arith, length-append functions_a functions_b, exp_count a (past 1 w.scope) (base w), exp_count b scope_a (base w + exp_functions a))

  abbrev code_begun : Placed
  code_begun = [] ++ code_a ++ code_b ++ code_c ++ one (instr.SetSlot (slot + 2)) p ++ code_turn

  abbrev functions_begun : List Proto
  functions_begun = [] ++ functions_a ++ functions_b ++ functions_c

  code_begun_length : length w.code + length code_begun ≡ turn + 4
  code_begun_length = omega (
    arith,
    at_turn,
    length-append ([] ++ code_a ++ code_b ++ code_c ++ one (instr.SetSlot (slot + 2)) p) code_turn,
    length-append ([] ++ code_a ++ code_b ++ code_c) (one (instr.SetSlot (slot + 2)) p),
    length-append ([] ++ code_a ++ code_b) code_c,
    length-append code_a code_b,
    length-append (exp_code a (past 1 w.scope) (base w) (length w.code)) ((instr.Bound, place_of a) ∷ one (instr.SetSlot slot) p),
    exp_length a (past 1 w.scope) (base w) (length w.code),
    length-append (exp_code b scope_a (base w + exp_functions a) second) ((instr.Bound, place_of b) ∷ one (instr.SetSlot (slot + 1)) p),
    exp_length b scope_a (base w + exp_functions a) second,
    step_length c p scope_b (base w + exp_functions a + exp_functions b) third,
  )

  functions_begun_length : base w + length functions_begun ≡ base w + exp_functions a + exp_functions b + step_functions c
  functions_begun_length = omega (
    arith,
    length-append (functions_a ++ functions_b) functions_c,
    length-append functions_a functions_b,
    exp_count a (past 1 w.scope) (base w),
    exp_count b scope_a (base w + exp_functions a),
    step_count c scope_b (base w + exp_functions a + exp_functions b),
  )

  part_turn : with_count_begun slot w.scope.next end (step_place c p) p (grown ([] ++ code_a ++ code_b ++ code_c ++ one (instr.SetSlot (slot + 2)) p) functions_begun (past (step_locals c) scope_b) w)
      ≡ grown code_begun functions_begun scope_turn w
  part_turn = begun_count_after w ([] ++ code_a ++ code_b ++ code_c ++ one (instr.SetSlot (slot + 2)) p) functions_begun (past (step_locals c) scope_b) slot w.scope.next end (step_place c p) p

  part_d : put (instr.ForStep slot turn) p (with_scoped d end (grown code_begun functions_begun scope_turn w))
      ≡ grown (code_begun ++ block_code d scope_turn (base w + exp_functions a + exp_functions b + step_functions c) (turn + 4) end ++ one (instr.ForStep slot turn) p) (functions_begun ++ block_protos d scope_turn (base w + exp_functions a + exp_functions b + step_functions c)) (past (block_locals d) scope_turn) w
  part_d =
      ap (put (instr.ForStep slot turn) p)
      (scoped_after w code_begun functions_begun scope_turn (turn + 4) (base w + exp_functions a + exp_functions b + step_functions c) code_begun_length functions_begun_length d end)
      ∙ put_after w (code_begun ++ block_code d scope_turn (base w + exp_functions a + exp_functions b + step_functions c) (turn + 4) end) (functions_begun ++ block_protos d scope_turn (base w + exp_functions a + exp_functions b + step_functions c)) (past (block_locals d) scope_turn) (instr.ForStep slot turn) p

  abbrev count_end : Work → Work
  count_end v = put (instr.ForStep slot turn) p (with_scoped d end v)

  abbrev count_turn : Work → Work
  count_turn v = with_count_begun slot w.scope.next end (step_place c p) p v

  abbrev count_step : Work → Work
  count_step v = put (instr.SetSlot (slot + 2)) p (with_step c p v)

  parts : count_end (count_turn (count_step (with_bound b (slot + 1) p (with_bound a slot p (skip 1 w)))))
      ≡ grown (code_begun ++ block_code d scope_turn (base w + exp_functions a + exp_functions b + step_functions c) (turn + 4) end ++ one (instr.ForStep slot turn) p) (functions_begun ++ block_protos d scope_turn (base w + exp_functions a + exp_functions b + step_functions c)) (past (block_locals d) scope_turn) w
  parts =
      ap (λ v. count_end (count_turn (count_step (with_bound b (slot + 1) p v)))) part_a
      ∙ ap (λ v. count_end (count_turn (count_step v))) part_b
      ∙ ap (λ v. count_end (count_turn v)) part_c
      ∙ ap count_end part_turn
      ∙ part_d

  whole : (n : Name) (brk : ℕ)
      → grown (code_begun ++ block_code d scope_turn (base w + exp_functions a + exp_functions b + step_functions c) (turn + 4) end ++ one (instr.ForStep slot turn) p) (functions_begun ++ block_protos d scope_turn (base w + exp_functions a + exp_functions b + step_functions c)) (record w.scope { next = w.scope.next + stat_locals (tree.count p n a b c d) }) w
      ≡ with_stat (tree.count p n a b c d) brk w
  unfolding with_stat skip free_from next_from declaring leaving
  whole n brk = rw (at_end, at_turn) (simp (append_assoc, add_assoc, add-zero))

  count_left : leaving (length w.scope.own) w.scope.free (grown (code_begun ++ block_code d scope_turn (base w + exp_functions a + exp_functions b + step_functions c) (turn + 4) end ++ one (instr.ForStep slot turn) p) (functions_begun ++ block_protos d scope_turn (base w + exp_functions a + exp_functions b + step_functions c)) (past (block_locals d) scope_turn) w)
      ≡ grown (code_begun ++ block_code d scope_turn (base w + exp_functions a + exp_functions b + step_functions c) (turn + 4) end ++ one (instr.ForStep slot turn) p) (functions_begun ++ block_protos d scope_turn (base w + exp_functions a + exp_functions b + step_functions c)) (record w.scope { next = w.scope.next + (1 + exp_locals a + exp_locals b + step_locals c + block_locals d) }) w
  unfolding skip free_from next_from declaring leaving
  count_left = rw (left_slots 1 w.scope.next (slot + 3) w.scope.own) (simp add_assoc)

  pub count_form : (n : Name) (brk : ℕ) → leaving (length w.scope.own) w.scope.free (count_end (count_turn (count_step (with_bound b (slot + 1) p (with_bound a slot p (skip 1 w)))))) ≡ with_stat (tree.count p n a b c d) brk w
  count_form n brk = ap (leaving (length w.scope.own) w.scope.free) parts ∙ count_left ∙ whole n brk

-- ---- the generic `for`

begun_each_after : (w : Work) (c : Placed) (ps : List Proto) (sc : Scope) (slot n x test : ℕ) (p : Pos)
    → with_each_begun slot n x test p (grown c ps sc w)
    ≡ grown
    (c ++ (instr.Spread 3, p) ∷ (instr.SetSlot (slot + 2), p) ∷ (instr.SetSlot (slot + 1), p) ∷ (instr.SetSlot slot, p) ∷ (instr.Jump test, p) ∷ (instr.Turn, p) ∷ (instr.Spread n, p) ∷ begin_locals (slot + 3) n p)
    ps (record sc { own = in_slots n x (slot + 3) sc.own; free = slot + 3 + n }) w
unfolding put_all skip free_from next_from declaring leaving
begun_each_after w c ps sc slot n x test p = simp append_assoc

module _ (w : Work) (p : Pos) (ns : List Name) (es : Exps) (d : Block) (turn test : ℕ)
    (at_turn : turn ≡ length w.code + exps_size es + 5)
    (at_test : test ≡ turn + 2 + length ns + length ns + block_size d) where
  abbrev each_scope : Scope
  each_scope = record w.scope { own = in_slots (length ns) w.scope.next (w.scope.free + 3) w.scope.own; free = w.scope.free + 3 + length ns; next = w.scope.next + length ns + exps_locals es }

  abbrev each_list : Placed
  each_list = list_code es p 0 (past (length ns) w.scope) (base w) (length w.code)

  abbrev each_functions : List Proto
  each_functions = exps_protos es (past (length ns) w.scope) (base w)

  abbrev each_turn : Placed
  each_turn =
      (instr.Spread 3, p) ∷ (instr.SetSlot (w.scope.free + 2), p) ∷ (instr.SetSlot (w.scope.free + 1), p) ∷ (instr.SetSlot w.scope.free, p) ∷ (instr.Jump test, p) ∷ (instr.Turn, p) ∷ (instr.Spread (length ns), p)
      ∷ begin_locals (w.scope.free + 3) (length ns) p

  abbrev each_block : Placed
  each_block = block_code d each_scope (base w + exps_functions es) (turn + 2 + length ns + length ns) (test + 13)

  abbrev each_inner : List Proto
  each_inner = block_protos d each_scope (base w + exps_functions es)

  each_listed : with_list es p 0 (skip (length ns) w) ≡ grown ([] ++ each_list) ([] ++ each_functions) (past (exps_locals es) (past (length ns) w.scope)) w
  unfolding skip free_from next_from declaring leaving
  each_listed = ap (with_list es p 0) (begun (skip (length ns) w)) ∙ list_after (skip (length ns) w) [] [] (past (length ns) w.scope) (length w.code) (base w) (add-zero (length w.code)) (add-zero (base w)) es p 0

  each_here : length w.code + length ([] ++ each_list ++ each_turn) ≡ turn + 2 + length ns + length ns
  each_here = omega (arith, at_turn, length-append each_list each_turn, list_length es p 0 (past (length ns) w.scope) (base w) (length w.code), begin_length (length ns) (w.scope.free + 3) p)

  each_number : base w + length ([] ++ each_functions) ≡ base w + exps_functions es
  each_number = omega (arith, exps_count es (past (length ns) w.scope) (base w))

  abbrev each_whole : Placed
  each_whole = [] ++ each_list ++ each_turn ++ each_block ++ iterate_code w.scope.free turn p (first_place p es)

  abbrev each_end : Work → Work
  each_end v = put_all (iterate_code w.scope.free turn p (first_place p es)) (with_scoped d (test + 13) v)

  each_parts : each_end (with_each_begun w.scope.free (length ns) w.scope.next test p (with_list es p 0 (skip (length ns) w))) ≡ grown each_whole ([] ++ each_functions ++ each_inner) (past (block_locals d) each_scope) w
  each_parts =
      ap (λ v. each_end (with_each_begun w.scope.free (length ns) w.scope.next test p v)) each_listed
      ∙ ap each_end (begun_each_after w ([] ++ each_list) ([] ++ each_functions) (past (exps_locals es) (past (length ns) w.scope)) w.scope.free (length ns) w.scope.next test p)
      ∙ ap (put_all (iterate_code w.scope.free turn p (first_place p es))) (scoped_after w ([] ++ each_list ++ each_turn) ([] ++ each_functions) each_scope (turn + 2 + length ns + length ns) (base w + exps_functions es) each_here each_number d (test + 13))
      ∙ put_all_after w ([] ++ each_list ++ each_turn ++ each_block) ([] ++ each_functions ++ each_inner) (past (block_locals d) each_scope) (iterate_code w.scope.free turn p (first_place p es))

  each_left : leaving (length w.scope.own) w.scope.free (grown each_whole ([] ++ each_functions ++ each_inner) (past (block_locals d) each_scope) w)
      ≡ grown each_whole ([] ++ each_functions ++ each_inner) (record w.scope { next = w.scope.next + (length ns + exps_locals es + block_locals d) }) w
  unfolding skip free_from next_from declaring leaving
  each_left = rw (left_slots (length ns) w.scope.next (w.scope.free + 3) w.scope.own) (simp add_assoc)

  each_same : (brk : ℕ) → grown each_whole ([] ++ each_functions ++ each_inner) (record w.scope { next = w.scope.next + (length ns + exps_locals es + block_locals d) }) w ≡ with_stat (tree.each p ns es d) brk w
  unfolding with_stat skip free_from next_from declaring leaving
  each_same brk = rw (at_test, at_turn) (simp (append_assoc, add_assoc, add-zero))

  pub each_form : (brk : ℕ) → leaving (length w.scope.own) w.scope.free (each_end (with_each_begun w.scope.free (length ns) w.scope.next test p (with_list es p 0 (skip (length ns) w)))) ≡ with_stat (tree.each p ns es d) brk w
  each_form brk = ap (leaving (length w.scope.own) w.scope.free) each_parts ∙ each_left ∙ each_same brk

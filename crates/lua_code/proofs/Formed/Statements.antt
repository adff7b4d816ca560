-- The code of statements agrees with its shapes.
use Rattle.std.proofs.Common.{◌≡◌, refl, ap, sym, subst, ◌∙◌, ℕ, ◌+◌, ◌<◌, ◌≤◌, max, pos, List, [], ◌∷◌, ◌++◌, length, replicate, slice_get, Some, arith}
use Rattle.std.proofs.lemmas.List.{length-append, length-replicate, append_assoc, append-nil, replicate-append-replicate}
use Rattle.tl_base.specs.declared.place.Pos.{Pos}
use Rattle.lua_tree.specs.declared.annotation.Name.{Name}
use Rattle.lua_tree.specs.Tree as tree
use Rattle.lua_tree.specs.Tree.{Exp, Exps, Stat, Targets, Clauses, Else, Step, Block}
use Rattle.lua_tree.specs.Places.{place_of}
use Rattle.lua_meaning.specs.Locals.{exp_locals, exps_locals, targets_locals, clauses_locals, step_locals, stat_locals, block_locals}
use Rattle.lua_meaning.specs.Trees.{first_place}
use Rattle.lua_code.specs.declared.code.Proto.{Proto}
use Rattle.lua_code.specs.declared.code.Instr.TheVariants as instr
use Rattle.lua_code.specs.Sizes.{exp_size, exps_size, targets_size, step_size, stat_size, clauses_size, else_size, block_size, exp_functions, exps_functions, step_functions, stat_functions, clauses_functions, block_functions, exp_slots, exps_slots, step_slots, stat_declares, block_declares, stat_slots, clauses_slots, else_slots, block_slots}
use Rattle.lua_code.specs.Generated.{Placed, one, Scope, past, taken, declared, behind_stat, behind_block, target_count, begin_locals, step_code, step_place, iterate_code, exp_code, list_code, stat_code, clauses_code, else_code, block_code, exp_protos, exps_protos, step_protos, stat_protos, clauses_protos, else_protos, block_protos}
use Rattle.lua_code.specs.Shapes.{ItemKind, value, values, SlotKind, held, celled, Shape, AreEnough, IsEnoughIn, Hold, three_held}
use Rattle.lua_code.proofs.Faithful.Lists.{HasAt, has_front, has_next}
use Rattle.lua_code.proofs.Faithful.Lengths.{exp_count, exps_count, step_count, stat_count, clauses_count, block_count}
use Rattle.lua_code.proofs.Formed.Slots.{enough_same, enough_on, meets_more, filled, filled_get, filled_fewer, get_there}
use Rattle.lua_code.proofs.Formed.Pieces.{shape, Asked, nothing, Ahead, Turned, Both, Piece, jumps_ahead, jumps_back, none_to, given, to_end, less, moved, behind, join, looped, looped_in, plain, branching, jumping, returning}
use Rattle.lua_code.proofs.Formed.Scopes.{Fit, fit_past, fit_next, fit_taken, fit_declared}
use Rattle.lua_code.proofs.Formed.Expressions.{Goes, exp_ok, list_ok, set_ok, get_ok}
use Rattle.lua_code.proofs.Formed.Locals.{change_ok, cell_ok, set_slots_ok, begin_ok, store_ok, stores_ok}

-- locals of a statement, and those of the block behind it
more_declared : (n m : ℕ) (known : List SlotKind) → (known ++ replicate n celled) ++ replicate m celled ≡ known ++ replicate (n + m) celled
more_declared n m known = append_assoc known (replicate n celled) (replicate m celled) ∙ ap (λ l. known ++ l) (replicate-append-replicate n m celled)

module _ (code : List Proto) (proto : Proto) (total : ℕ) where
  abbrev At : List ItemKind → List SlotKind → Shape
  At st known = shape st (filled total known)

  abbrev Covers : List SlotKind → List SlotKind → Type 0
  Covers known out = AreEnough (filled total known) (filled total out)

  -- a piece from the empty stack to the empty stack, with these slots known before and behind it; `break` goes to a place where those of out are known
  abbrev pub Runs : Placed → ℕ → ℕ → ℕ → List SlotKind → List SlotKind → List SlotKind → Type 0
  Runs is at to brk out known known2 = Piece code proto (Ahead brk (shape [] (filled total out))) is at to (shape [] (filled total known)) (shape [] (filled total known2))

  abbrev pub StatOk : Stat → Type 0
  StatOk s = (sc : Scope) (base at brk : ℕ) (known out : List SlotKind) → HasAt code base (stat_protos s sc base) → Fit proto sc known → length known + stat_slots s ≤ total → at + stat_size s ≤ brk → Covers known out
      → Runs (stat_code s sc base at brk) at (at + stat_size s) brk out known (known ++ replicate (stat_declares s) celled)

  abbrev pub ClausesOk : Clauses → Type 0
  ClausesOk cs = (p : Pos) (sc : Scope) (base at end brk : ℕ) (known out : List SlotKind) → HasAt code base (clauses_protos cs sc base) → Fit proto sc known → length known + clauses_slots cs ≤ total
      → at + clauses_size cs ≤ end → at + clauses_size cs ≤ brk → Covers known out
      → Piece code proto (Both (Ahead end (shape [] (filled total known))) (Ahead brk (shape [] (filled total out)))) (clauses_code cs p sc base at end brk) at (at + clauses_size cs) (shape [] (filled total known)) (shape [] (filled total known))

  abbrev pub ElseOk : Else → Type 0
  ElseOk b = (sc : Scope) (base at brk : ℕ) (known out : List SlotKind) → HasAt code base (else_protos b sc base) → Fit proto sc known → length known + else_slots b ≤ total → at + else_size b ≤ brk → Covers known out
      → Runs (else_code b sc base at brk) at (at + else_size b) brk out known known

  abbrev pub BlockOk : Block → Type 0
  BlockOk b = (sc : Scope) (base at brk : ℕ) (known out : List SlotKind) → HasAt code base (block_protos b sc base) → Fit proto sc known → length known + block_slots b ≤ total → at + block_size b ≤ brk → Covers known out
      → Runs (block_code b sc base at brk) at (at + block_size b) brk out known (known ++ replicate (block_declares b) celled)

  -- nothing more is known behind the piece
  still : (G : Asked) (is : Placed) (at to : ℕ) (s : Shape) (known : List SlotKind) → Piece code proto G is at to s (At [] known) → Piece code proto G is at to s (At [] (known ++ []))
  still G is at to s known p = subst (λ l. Piece code proto G is at to s (At [] l)) (sym (append-nil known)) p

  -- locals go out of scope
  closed : (G : Asked) (is : Placed) (at to : ℕ) (s : Shape) (known more : List SlotKind) → Piece code proto G is at to s (At [] (known ++ more)) → Piece code proto G is at to s (At [] known)
  closed G is at to s known more p = less code proto G is at to s [] (filled total (known ++ more)) (filled total known) (filled_fewer total known more) p

  -- a piece that jumps nowhere outside
  anywhere : (G : Asked) (is : Placed) (at to : ℕ) (s t : Shape) → Piece code proto nothing is at to s t → Piece code proto G is at to s t
  anywhere G is at to s t p = given code proto nothing G (λ w all g. tt) is at to s t p

  pop_ok : (p : Pos) (at : ℕ) (k : ItemKind) (st : List ItemKind) (known : List SlotKind) → Goes code proto total (one instr.Pop p) at (at + 1) (k ∷ st) st known
  pop_ok p at k st known = plain code proto nothing instr.Pop p at (k ∷ []) [] [] [] st (filled total known) tt refl tt

  turn_ok : (G : Asked) (p : Pos) (at : ℕ) (s : Shape) → Piece code proto G (one instr.Turn p) at (at + 1) s s
  turn_ok G p at s = plain code proto G instr.Turn p at [] [] [] [] s.stack s.slots tt refl tt

  -- ---- plain statements

  empty_ok : (at brk : ℕ) (known out : List SlotKind) → Runs [] at (at + 0) brk out known (known ++ [])
  empty_ok at brk known out = still (Ahead brk (At [] out)) [] at (at + 0) (At [] known) known (none_to code proto (Ahead brk (At [] out)) at (at + 0) (At [] known) (Prim.omega arith))

  spread_ok : (n : ℕ) (p : Pos) (at : ℕ) (known : List SlotKind) → Goes code proto total (one (instr.Spread n) p) at (at + 1) (values ∷ []) (replicate n value ++ []) known
  spread_ok n p at known = plain code proto nothing (instr.Spread n) p at (values ∷ []) (replicate n value) [] [] [] (filled total known) tt refl tt

  assign_ok : (p : Pos) (ts : Targets) (es : Exps) → StatOk (tree.assign p ts es)
  assign_ok p ts es sc base at brk known out has f le low covers =
      let all : Placed = stat_code (tree.assign p ts es) sc base at brk in
      let to : ℕ = at + (exps_size es + 1 + targets_size ts) in
      let sy : Scope = past (targets_locals ts) sc in
      still (Ahead brk (At [] out)) all at to (At [] known) known
      (anywhere (Ahead brk (At [] out)) all at to (At [] known) (At [] known)
      (join code proto (list_ok code proto total es p 0 sy base at [] known has (fit_past proto sc known (targets_locals ts) f) (Prim.omega (arith, le)))
      (join code proto (spread_ok (target_count ts) p (at + exps_size es) known) (stores_ok code proto total ts sc p (at + exps_size es + 1) [] known f (Prim.omega (arith, le))) refl refl) refl (Prim.omega arith)))

  run_ok : (p : Pos) (e : Exp) → StatOk (tree.run p e)
  run_ok p e sc base at brk known out has f le low covers =
      let all : Placed = stat_code (tree.run p e) sc base at brk in
      still (Ahead brk (At [] out)) all at (at + (exp_size e + 1)) (At [] known) known
      (anywhere (Ahead brk (At [] out)) all at (at + (exp_size e + 1)) (At [] known) (At [] known)
      (join code proto (exp_ok code proto total e sc base at [] known has f (Prim.omega (arith, le))) (pop_ok p (at + exp_size e) value [] known) refl (Prim.omega arith)))

  leave_ok : (p : Pos) → StatOk (tree.leave p)
  leave_ok p sc base at brk known out has f le low covers =
      jumping code proto (Ahead brk (At [] out)) p at brk (At [] known) (At [] (known ++ []))
      (λ w all g. (meets_more (slice_get all brk) [] (filled total known) (filled total out) covers g, jumps_ahead w at brk (Prim.omega (arith, low))))

  scope_ok : (p : Pos) (b : Block) → BlockOk b → StatOk (tree.scope p b)
  scope_ok p b ok sc base at brk known out has f le low covers =
      let G : Asked = Ahead brk (At [] out) in
      let cb : Placed = block_code b sc base at brk in
      still G cb at (at + block_size b) (At [] known) known (closed G cb at (at + block_size b) (At [] known) known (replicate (block_declares b) celled) (ok sc base at brk known out has f le low covers))

  define_ok : (p : Pos) (e g : Exp) → StatOk (tree.define p e g)
  define_ok p e g sc base at brk known out has f le low covers =
      let all : Placed = stat_code (tree.define p e g) sc base at brk in
      still (Ahead brk (At [] out)) all at (at + (exp_size g + 1)) (At [] known) known
      (anywhere (Ahead brk (At [] out)) all at (at + (exp_size g + 1)) (At [] known) (At [] known)
      (join code proto (exp_ok code proto total g (past (exp_locals e) sc) base at [] known has (fit_past proto sc known (exp_locals e) f) (Prim.omega (arith, le))) (store_ok code proto total e sc p (at + exp_size g) [] known f (Prim.omega (arith, le))) refl (Prim.omega arith)))

  declare_ok : (p : Pos) (n : ℕ) (es : Exps) (sc : Scope) (base at brk : ℕ) (known out : List SlotKind) → HasAt code base (exps_protos es (past n sc) base) → Fit proto sc known → length known + max (exps_slots es) n ≤ total
      → Runs (list_code es p 0 (past n sc) base at ++ (instr.Spread n, p) ∷ begin_locals sc.free n p) at (at + (exps_size es + 1 + n + n)) brk out known (known ++ replicate n celled)
  declare_ok p n es sc base at brk known out has f le =
      let all : Placed = list_code es p 0 (past n sc) base at ++ (instr.Spread n, p) ∷ begin_locals sc.free n p in
      let free : length known ≡ sc.free = f.free in
      anywhere (Ahead brk (At [] out)) all at (at + (exps_size es + 1 + n + n)) (At [] known) (At [] (known ++ replicate n celled))
      (join code proto (list_ok code proto total es p 0 (past n sc) base at [] known has (fit_past proto sc known n f) (Prim.omega (arith, le)))
      (join code proto (spread_ok n p (at + exps_size es) known) (begin_ok code proto total nothing n sc.free p (at + exps_size es + 1) [] known free (Prim.omega (arith, le, free))) refl refl) refl (Prim.omega arith))

  declare_function_ok : (p : Pos) (g : Exp) (sc : Scope) (base at brk : ℕ) (known out : List SlotKind) → HasAt code base (exp_protos g (past 1 (declared 1 sc)) base) → Fit proto sc known → length known + (1 + exp_slots g) ≤ total
      → Runs ((instr.Nil, p) ∷ (instr.SetSlot sc.free, p) ∷ (instr.NewCell sc.free, p) ∷ (exp_code g (past 1 (declared 1 sc)) base (at + 3) ++ one (instr.SetCell sc.free) p)) at (at + (3 + exp_size g + 1)) brk out known (known ++ celled ∷ [])
  declare_function_ok p g sc base at brk known out has f le =
      let all : Placed = (instr.Nil, p) ∷ (instr.SetSlot sc.free, p) ∷ (instr.NewCell sc.free, p) ∷ (exp_code g (past 1 (declared 1 sc)) base (at + 3) ++ one (instr.SetCell sc.free) p) in
      let free : length known ≡ sc.free = f.free in
      let more : List SlotKind = known ++ celled ∷ [] in
      let long : length more ≡ length known + 1 = length-append known (celled ∷ []) in
      let there : slice_get more sc.free ≡ Some celled = subst (λ z. slice_get more z ≡ Some celled) free (get_there known celled []) in
      anywhere (Ahead brk (At [] out)) all at (at + (3 + exp_size g + 1)) (At [] known) (At [] more)
      (join code proto (plain code proto nothing instr.Nil p at [] (value ∷ []) [] [] [] (filled total known) tt refl tt)
      (join code proto (set_ok code proto total nothing sc.free p (at + 1) [] known free (Prim.omega (arith, free, le)))
      (join code proto (cell_ok code proto total nothing sc.free p (at + 1 + 1) [] known [] free (Prim.omega (arith, free, le)))
      (join code proto (exp_ok code proto total g (past 1 (declared 1 sc)) base (at + 3) [] more has (fit_past proto (declared 1 sc) more 1 (fit_declared proto sc known 1 f)) (Prim.omega (arith, le, long)))
      (plain code proto nothing (instr.SetCell sc.free) p (at + 3 + exp_size g) (value ∷ []) [] ((sc.free, celled) ∷ []) [] [] (filled total more) tt refl
      (subst (λ z. IsEnoughIn z celled) (sym (filled_get total more sc.free celled there (Prim.omega (arith, le, long)))) tt, tt)) refl refl) (Prim.omega arith) refl) refl refl) refl (Prim.omega arith))

  -- ---- `while` and `repeat`

  while_ok : (p : Pos) (e : Exp) (b : Block) → BlockOk b → StatOk (tree.while p e b)
  while_ok p e b ok sc base at brk known out has f le low covers =
      let mid : ℕ = at + 2 + block_size b in
      let end : ℕ = mid + exp_size e + 1 in
      let s : Shape = At [] known in
      let G : Asked = Ahead brk (At [] out) in
      let F : Asked = Both (Turned (at + 1) s) (Ahead end s) in
      let sb : Scope = past (exp_locals e) sc in
      let cb : Placed = block_code b sb base (at + 2) end in
      let ce : Placed = exp_code e sc (base + block_functions b) mid in
      let pb : List Proto = block_protos b sb base in
      let pe : List Proto = exp_protos e sc (base + block_functions b) in
      let inner : Piece code proto F cb (at + 2) mid s s =
      given code proto (Ahead end s) F (λ w all g. g.1) cb (at + 2) mid s s
      (closed (Ahead end s) cb (at + 2) mid s known (replicate (block_declares b) celled)
      (ok sb base (at + 2) end known known (has_front code base pb pe has) (fit_past proto sc known (exp_locals e) f) (Prim.omega (arith, le)) (Prim.omega arith) (enough_same (filled total known)))) in
      let body : Piece code proto F ((instr.Turn, p) ∷ cb) (at + 1) mid s s = join code proto (turn_ok F p (at + 1) s) inner (Prim.omega arith) refl in
      let test : Piece code proto F (ce ++ one (instr.JumpIf (at + 1)) p) mid end s s =
      join code proto (anywhere F ce mid (mid + exp_size e) s (At (value ∷ []) known) (exp_ok code proto total e sc (base + block_functions b) mid [] known (has_next code base (base + block_functions b) pb pe (ap (λ z. base + z) (block_count b sb base)) has) f (Prim.omega (arith, le))))
      (branching code proto F (instr.JumpIf (at + 1)) p (mid + exp_size e) (at + 1) (value ∷ []) [] [] [] [] (filled total known) tt refl tt (λ w all g. (g.0.0, jumps_back w (mid + exp_size e) (at + 1) g.0.1.0 g.0.1.1))) refl refl in
      let whole : Piece code proto G (stat_code (tree.while p e b) sc base at brk) at end s s = looped_in code proto F G p p cb (ce ++ one (instr.JumpIf (at + 1)) p) at mid end s s s (λ w all t l g. (t, l)) body test in
      still G (stat_code (tree.while p e b) sc base at brk) at (at + (2 + block_size b + exp_size e + 1)) s known
      (moved code proto G (stat_code (tree.while p e b) sc base at brk) at at end (at + (2 + block_size b + exp_size e + 1)) s s refl (Prim.omega arith) whole)

  -- the condition of a `repeat` sees the locals of its block
  fit_behind : (b : Block) (sc : Scope) (known : List SlotKind) → Fit proto sc known → Fit proto (behind_block b sc) (known ++ replicate (block_declares b) celled)
  fit_behind tree.finish sc known f = subst (λ l. Fit proto sc l) (sym (append-nil known)) f
  fit_behind (tree.returns p es) sc known f = subst (λ l. Fit proto (past (exps_locals es) sc) l) (sym (append-nil known)) (fit_past proto sc known (exps_locals es) f)
  fit_behind (tree.next s b) sc known f =
      subst (λ l. Fit proto (behind_block b (behind_stat s sc)) l) (more_declared (stat_declares s) (block_declares b) known)
      (fit_behind b (behind_stat s sc) (known ++ replicate (stat_declares s) celled) (fit_next proto (declared (stat_declares s) sc) (known ++ replicate (stat_declares s) celled) (sc.next + stat_locals s) (fit_declared proto sc known (stat_declares s) f)))

  declares_low : (b : Block) → block_declares b ≤ block_slots b
  declares_low tree.finish = Prim.omega arith
  declares_low (tree.returns p es) = Prim.omega arith
  declares_low (tree.next s b) = let low : block_declares b ≤ block_slots b = declares_low b in Prim.omega (arith, low)

  repeat_ok : (p : Pos) (b : Block) (e : Exp) → BlockOk b → StatOk (tree.repeat p b e)
  repeat_ok p b e ok sc base at brk known out has f le low covers =
      let mid : ℕ = at + 1 + block_size b in
      let end : ℕ = mid + exp_size e + 1 in
      let locals : List SlotKind = replicate (block_declares b) celled in
      let seen : List SlotKind = known ++ locals in
      let s : Shape = At [] known in
      let t : Shape = At [] seen in
      let G : Asked = Ahead brk (At [] out) in
      let F : Asked = Both (Turned at s) (Ahead end s) in
      let se : Scope = record (behind_block b sc) { next = sc.next + block_locals b } in
      let cb : Placed = block_code b sc base (at + 1) end in
      let ce : Placed = exp_code e se (base + block_functions b) mid in
      let pb : List Proto = block_protos b sc base in
      let pe : List Proto = exp_protos e se (base + block_functions b) in
      let long : length seen ≡ length known + length locals = length-append known locals in
      let count : length locals ≡ block_declares b = length-replicate (block_declares b) celled in
      let inner : Piece code proto F cb (at + 1) mid s t =
      given code proto (Ahead end s) F (λ w all g. g.1) cb (at + 1) mid s t
      (ok sc base (at + 1) end known known (has_front code base pb pe has) f (Prim.omega (arith, le)) (Prim.omega arith) (enough_same (filled total known))) in
      let cond : Piece code proto F ce mid (mid + exp_size e) t (At (value ∷ []) seen) =
      anywhere F ce mid (mid + exp_size e) t (At (value ∷ []) seen)
      (exp_ok code proto total e se (base + block_functions b) mid [] seen (has_next code base (base + block_functions b) pb pe (ap (λ z. base + z) (block_count b sc base)) has)
      (fit_next proto (behind_block b sc) seen (sc.next + block_locals b) (fit_behind b sc known f)) (Prim.omega (arith, le, long, count))) in
      let jump : Piece code proto F (one (instr.JumpIfNot at) p) (mid + exp_size e) end (At (value ∷ []) seen) t =
      branching code proto F (instr.JumpIfNot at) p (mid + exp_size e) at (value ∷ []) [] [] [] [] (filled total seen) tt refl tt
      (λ w all g. (meets_more (slice_get all at) [] (filled total seen) (filled total known) (filled_fewer total known locals) g.0.0, jumps_back w (mid + exp_size e) at g.0.1.0 g.0.1.1)) in
      let rest : Placed = cb ++ (ce ++ one (instr.JumpIfNot at) p) in
      let whole : Piece code proto F ((instr.Turn, p) ∷ rest) at end s t = join code proto (turn_ok F p at s) (join code proto inner (join code proto cond jump refl refl) refl refl) refl refl in
      let loop : Piece code proto G ((instr.Turn, p) ∷ rest) at end s s = looped code proto F G p rest at end s s (λ w all h l g. (h, l)) (closed F ((instr.Turn, p) ∷ rest) at end s known locals whole) in
      still G ((instr.Turn, p) ∷ rest) at (at + (1 + block_size b + exp_size e + 1)) s known
      (moved code proto G ((instr.Turn, p) ∷ rest) at at end (at + (1 + block_size b + exp_size e + 1)) s s refl (Prim.omega arith) loop)

  -- ---- `if`

  clause_ok : (e : Exp) (b : Block) (cs : Clauses) → BlockOk b → ClausesOk cs → ClausesOk (tree.clause e b cs)
  clause_ok e b cs ok oks p sc base at end brk known out has f le low low2 covers =
      let test : ℕ = at + exp_size e in
      let next : ℕ = test + 1 + block_size b + 1 in
      let to : ℕ = at + (exp_size e + 1 + block_size b + 1 + clauses_size cs) in
      let s : Shape = At [] known in
      let G : Asked = Both (Ahead end s) (Ahead brk (At [] out)) in
      let F : Asked = Both G (Ahead next s) in
      let sb : Scope = past (exp_locals e) sc in
      let sr : Scope = past (exp_locals e + block_locals b) sc in
      let ce : Placed = exp_code e sc base at in
      let cb : Placed = block_code b sb (base + exp_functions e) (test + 1) brk in
      let cr : Placed = clauses_code cs p sr (base + exp_functions e + block_functions b) next end brk in
      let pe : List Proto = exp_protos e sc base in
      let pb : List Proto = block_protos b sb (base + exp_functions e) in
      let pr : List Proto = clauses_protos cs sr (base + exp_functions e + block_functions b) in
      let q1 : HasAt code (base + exp_functions e) (pb ++ pr) = has_next code base (base + exp_functions e) pe (pb ++ pr) (ap (λ z. base + z) (exp_count e sc base)) has in
      let q2 : HasAt code (base + exp_functions e + block_functions b) pr =
      has_next code (base + exp_functions e) (base + exp_functions e + block_functions b) pb pr (ap (λ z. base + exp_functions e + z) (block_count b sb (base + exp_functions e))) q1 in
      let cond : Piece code proto G ce at test s (At (value ∷ []) known) =
      anywhere G ce at test s (At (value ∷ []) known) (exp_ok code proto total e sc base at [] known (has_front code base pe (pb ++ pr) has) f (Prim.omega (arith, le))) in
      let fork : Piece code proto F (one (instr.JumpIfNot next) p) test (test + 1) (At (value ∷ []) known) s =
      branching code proto F (instr.JumpIfNot next) p test next (value ∷ []) [] [] [] [] (filled total known) tt refl tt (λ w all g. (g.1, jumps_ahead w test next (Prim.omega arith))) in
      let inner : Piece code proto F cb (test + 1) (test + 1 + block_size b) s s =
      given code proto (Ahead brk (At [] out)) F (λ w all g. g.0.1) cb (test + 1) (test + 1 + block_size b) s s
      (closed (Ahead brk (At [] out)) cb (test + 1) (test + 1 + block_size b) s known (replicate (block_declares b) celled)
      (ok sb (base + exp_functions e) (test + 1) brk known out (has_front code (base + exp_functions e) pb pr q1) (fit_past proto sc known (exp_locals e) f) (Prim.omega (arith, le)) (Prim.omega (arith, low2)) covers)) in
      let leap : Piece code proto F (one (instr.Jump end) p) (test + 1 + block_size b) next s s =
      jumping code proto F p (test + 1 + block_size b) end s s (λ w all g. (g.0.0, jumps_ahead w (test + 1 + block_size b) end (Prim.omega (arith, low)))) in
      let front : Placed = (instr.JumpIfNot next, p) ∷ (cb ++ one (instr.Jump end) p) in
      let taken_way : Piece code proto F front test next (At (value ∷ []) known) s = join code proto fork (join code proto inner leap refl refl) refl refl in
      let others : Piece code proto G cr next (next + clauses_size cs) s s =
      oks p sr (base + exp_functions e + block_functions b) next end brk known out q2 (fit_past proto sc known (exp_locals e + block_locals b) f) (Prim.omega (arith, le)) (Prim.omega (arith, low)) (Prim.omega (arith, low2)) covers in
      let both : Piece code proto G (front ++ cr) test (next + clauses_size cs) (At (value ∷ []) known) s =
      behind code proto F G front cr test next (next + clauses_size cs) (At (value ∷ []) known) s s (λ w all h g. (g, h)) taken_way others in
      join code proto cond
      (subst (λ l. Piece code proto G ((instr.JumpIfNot next, p) ∷ l) test (next + clauses_size cs) (At (value ∷ []) known) s) (append_assoc cb (one (instr.Jump end) p) cr) both) refl (Prim.omega arith)

  choose_ok : (p : Pos) (cs : Clauses) (b : Else) → ClausesOk cs → ElseOk b → StatOk (tree.choose p cs b)
  choose_ok p cs b oks ok sc base at brk known out has f le low covers =
      let mid : ℕ = at + clauses_size cs in
      let end : ℕ = mid + else_size b in
      let s : Shape = At [] known in
      let G : Asked = Ahead brk (At [] out) in
      let F : Asked = Both (Ahead end s) G in
      let sb : Scope = past (clauses_locals cs) sc in
      let cc1 : Placed = clauses_code cs p sc base at end brk in
      let cb : Placed = else_code b sb (base + clauses_functions cs) mid brk in
      let pc : List Proto = clauses_protos cs sc base in
      let pb : List Proto = else_protos b sb (base + clauses_functions cs) in
      let first : Piece code proto F cc1 at mid s s = oks p sc base at end brk known out (has_front code base pc pb has) f (Prim.omega (arith, le)) (Prim.omega arith) (Prim.omega (arith, low)) covers in
      let last : Piece code proto F cb mid end s s =
      given code proto G F (λ w all g. g.1) cb mid end s s
      (ok sb (base + clauses_functions cs) mid brk known out (has_next code base (base + clauses_functions cs) pc pb (ap (λ z. base + z) (clauses_count cs sc base)) has) (fit_past proto sc known (clauses_locals cs) f) (Prim.omega (arith, le)) (Prim.omega (arith, low)) covers) in
      let whole : Piece code proto G (cc1 ++ cb) at end s s = to_end code proto F G (cc1 ++ cb) at end s s (λ w all l g. (l, g)) (join code proto first last refl refl) in
      still G (cc1 ++ cb) at (at + (clauses_size cs + else_size b)) s known (moved code proto G (cc1 ++ cb) at at end (at + (clauses_size cs + else_size b)) s s refl (Prim.omega arith) whole)

  -- ---- `for`

  bound_ok : (p : Pos) (at : ℕ) (known : List SlotKind) → Goes code proto total (one instr.Bound p) at (at + 1) (value ∷ []) (value ∷ []) known
  bound_ok p at known = plain code proto nothing instr.Bound p at (value ∷ []) (value ∷ []) [] [] [] (filled total known) tt refl tt

  step_ok : (c : Step) (p : Pos) (sc : Scope) (base at : ℕ) (known : List SlotKind) → HasAt code base (step_protos c sc base) → Fit proto sc known → length known + step_slots c ≤ total
      → Goes code proto total (step_code c p sc base at) at (at + step_size c) [] (value ∷ []) known
  step_ok tree.no_step p sc base at known has f le = plain code proto nothing (instr.Int (pos 1)) p at [] (value ∷ []) [] [] [] (filled total known) tt refl tt
  step_ok (tree.step e) p sc base at known has f le =
      join code proto (exp_ok code proto total e sc base at [] known has f (Prim.omega (arith, le))) (bound_ok (place_of e) (at + exp_size e) known) refl (Prim.omega arith)

  -- the hidden slots of a loop
  hidden_ok : (G : Asked) (k i : ℕ) (p : Pos) (at : ℕ) (known : List SlotKind) → length known + k ≡ i → i < total
      → Piece code proto G (one (instr.SetSlot i) p) at (at + 1) (At (value ∷ []) (known ++ replicate k held)) (At [] (known ++ replicate (k + 1) held))
  hidden_ok G k i p at known e lt =
      let all : List SlotKind = known ++ replicate k held in
      let long : length all ≡ length known + length (replicate k held) = length-append known (replicate k held) in
      let count : length (replicate k held) ≡ k = length-replicate k held in
      let more : all ++ held ∷ [] ≡ known ++ replicate (k + 1) held = append_assoc known (replicate k held) (held ∷ []) ∙ ap (λ l. known ++ l) (replicate-append-replicate k 1 held) in
      subst (λ l. Piece code proto G (one (instr.SetSlot i) p) at (at + 1) (At (value ∷ []) all) (At [] l)) more (set_ok code proto total G i p at [] all (Prim.omega (arith, e, long, count)) lt)

  -- they stand where they are looked for
  hidden_get : (k i : ℕ) (known more : List SlotKind) → length known + k ≡ i → slice_get (known ++ (replicate k held ++ held ∷ more)) i ≡ Some held
  hidden_get k i known more e =
      let front : List SlotKind = known ++ replicate k held in
      let long : length front ≡ length known + length (replicate k held) = length-append known (replicate k held) in
      let count : length (replicate k held) ≡ k = length-replicate k held in
      let here : length front ≡ i = Prim.omega (arith, e, long, count) in
      subst (λ l. slice_get l i ≡ Some held) (append_assoc known (replicate k held) (held ∷ more)) (subst (λ z. slice_get (front ++ held ∷ more) z ≡ Some held) here (get_there front held more))

  abbrev three : List SlotKind
  three = held ∷ held ∷ held ∷ []

  enough_held : (i : ℕ) (known : List SlotKind) → slice_get known i ≡ Some held → length known ≤ total → IsEnoughIn (slice_get (filled total known) i) held
  enough_held i known e le = subst (λ z. IsEnoughIn z held) (sym (filled_get total known i held e le)) tt

  three_ok : (i : ℕ) (known : List SlotKind) → length known ≡ i → i + 3 ≤ total → Hold (filled total (known ++ three)) (three_held i)
  three_ok i known e le =
      let long : length (known ++ three) ≡ length known + 3 = length-append known three in
      let fits : length (known ++ three) ≤ total = Prim.omega (arith, long, e, le) in (
        enough_held i (known ++ three) (hidden_get 0 i known (held ∷ held ∷ []) (Prim.omega (arith, e))) fits,
        (
          enough_held (i + 1) (known ++ three) (hidden_get 1 (i + 1) known (held ∷ []) (Prim.omega (arith, e))) fits,
          (enough_held (i + 2) (known ++ three) (hidden_get 2 (i + 2) known [] (Prim.omega (arith, e))) fits, tt),
        ),
      )

  count_ok : (p : Pos) (n : Name) (a b : Exp) (c : Step) (d : Block) → BlockOk d → StatOk (tree.count p n a b c d)
  count_ok p n a b c d ok sc base at brk known out has f le low covers =
      let first : ℕ = at + exp_size a + 2 in
      let second : ℕ = first + exp_size b + 2 in
      let turn : ℕ = second + step_size c + 2 in
      let behind_it : ℕ = turn + 4 + block_size d + 1 in
      let i : ℕ = sc.free in
      let la : ℕ = exp_locals a in
      let lb : ℕ = exp_locals b in
      let sb : Scope = taken 1 (past (1 + la) sc) in
      let scc : Scope = taken 2 (past (1 + la + lb) sc) in
      let sd : Scope = record (declared 1 (taken 3 sc)) { next = sc.next + (1 + la + lb + step_locals c) } in
      let ca : Placed = exp_code a (past 1 sc) base at in
      let cb : Placed = exp_code b sb (base + exp_functions a) first in
      let cs : Placed = step_code c p scc (base + exp_functions a + exp_functions b) second in
      let cd : Placed = block_code d sd (base + exp_functions a + exp_functions b + step_functions c) (turn + 4) behind_it in
      let pa : List Proto = exp_protos a (past 1 sc) base in
      let pb : List Proto = exp_protos b sb (base + exp_functions a) in
      let pc : List Proto = step_protos c scc (base + exp_functions a + exp_functions b) in
      let pd : List Proto = block_protos d sd (base + exp_functions a + exp_functions b + step_functions c) in
      let q1 : HasAt code (base + exp_functions a) (pb ++ (pc ++ pd)) = has_next code base (base + exp_functions a) pa (pb ++ (pc ++ pd)) (ap (λ z. base + z) (exp_count a (past 1 sc) base)) has in
      let q2 : HasAt code (base + exp_functions a + exp_functions b) (pc ++ pd) =
      has_next code (base + exp_functions a) (base + exp_functions a + exp_functions b) pb (pc ++ pd) (ap (λ z. base + exp_functions a + z) (exp_count b sb (base + exp_functions a))) q1 in
      let q3 : HasAt code (base + exp_functions a + exp_functions b + step_functions c) pd =
      has_next code (base + exp_functions a + exp_functions b) (base + exp_functions a + exp_functions b + step_functions c) pc pd (ap (λ z. base + exp_functions a + exp_functions b + z) (step_count c scc (base + exp_functions a + exp_functions b))) q2 in
      let free : length known ≡ i = f.free in
      let known3 : List SlotKind = known ++ three in
      let known4 : List SlotKind = known3 ++ celled ∷ [] in
      let long1 : length (known ++ held ∷ []) ≡ length known + 1 = length-append known (held ∷ []) in
      let long2 : length (known ++ held ∷ held ∷ []) ≡ length known + 2 = length-append known (held ∷ held ∷ []) in
      let long3 : length known3 ≡ length known + 3 = length-append known three in
      let long4 : length known4 ≡ length known3 + 1 = length-append known3 (celled ∷ []) in
      let s : Shape = At [] known in
      let s3 : Shape = At [] known3 in
      let G : Asked = Ahead brk (At [] out) in
      let E : Asked = Ahead behind_it s in
      let F : Asked = Both (Turned turn s3) E in
      let hides : (w : Placed) (all : List Shape) → Ahead behind_it s w all → Ahead behind_it s3 w all = λ w all g. meets_more (slice_get all behind_it) [] (filled total known3) (filled total known) (filled_fewer total known three) g in
      let inner : Piece code proto F cd (turn + 4) (turn + 4 + block_size d) (At [] known4) s3 =
      given code proto (Ahead behind_it s3) F (λ w all g. hides w all g.1) cd (turn + 4) (turn + 4 + block_size d) (At [] known4) s3
      (closed (Ahead behind_it s3) cd (turn + 4) (turn + 4 + block_size d) (At [] known4) known3 (celled ∷ [])
      (closed (Ahead behind_it s3) cd (turn + 4) (turn + 4 + block_size d) (At [] known4) known4 (replicate (block_declares d) celled)
      (ok sd (base + exp_functions a + exp_functions b + step_functions c) (turn + 4) behind_it known4 known3 q3
      (fit_next proto (declared 1 (taken 3 sc)) known4 (sc.next + (1 + la + lb + step_locals c)) (fit_declared proto (taken 3 sc) known3 1 (fit_taken proto sc known 3 f)))
      (Prim.omega (arith, le, long3, long4)) (Prim.omega arith) (filled_fewer total known3 (celled ∷ []))))) in
      let again : Piece code proto F (one (instr.ForStep i turn) p) (turn + 4 + block_size d) behind_it s3 s3 =
      branching code proto F (instr.ForStep i turn) p (turn + 4 + block_size d) turn [] [] [] (three_held i) [] (filled total known3) tt refl (three_ok i known free (Prim.omega (arith, le, free))) (λ w all g. (g.0.0, jumps_back w (turn + 4 + block_size d) turn g.0.1.0 g.0.1.1)) in
      let rest : Placed = (instr.GetSlot i, p) ∷ (instr.SetSlot (i + 3), p) ∷ (instr.NewCell (i + 3), p) ∷ (cd ++ one (instr.ForStep i turn) p) in
      let whole : Piece code proto F ((instr.Turn, p) ∷ rest) turn behind_it s3 s3 =
      join code proto (turn_ok F p turn s3)
      (join code proto (get_ok code proto total F i p (turn + 1) [] known3 (hidden_get 0 i known (held ∷ held ∷ []) (Prim.omega (arith, free))) (Prim.omega (arith, le, long3)))
      (join code proto (set_ok code proto total F (i + 3) p (turn + 1 + 1) [] known3 (Prim.omega (arith, free, long3)) (Prim.omega (arith, le, free)))
      (join code proto (cell_ok code proto total F (i + 3) p (turn + 1 + 1 + 1) [] known3 [] (Prim.omega (arith, free, long3)) (Prim.omega (arith, le, free)))
      (join code proto inner again refl refl) (Prim.omega arith) refl) refl refl) refl refl) refl refl in
      let loop : Piece code proto E ((instr.Turn, p) ∷ rest) turn behind_it s3 s3 = looped code proto F E p rest turn behind_it s3 s3 (λ w all h l g. (h, g)) whole in
      let enter : Piece code proto E (one (instr.ForPrep i behind_it) (step_place c p)) (second + step_size c + 1) (second + step_size c + 1 + 1) s3 s3 =
      branching code proto E (instr.ForPrep i behind_it) (step_place c p) (second + step_size c + 1) behind_it [] [] [] (three_held i) [] (filled total known3) tt refl (three_ok i known free (Prim.omega (arith, le, free)))
      (λ w all g. (hides w all g, jumps_ahead w (second + step_size c + 1) behind_it (Prim.omega arith))) in
      let part_a : Piece code proto E ca at (at + exp_size a) s (At (value ∷ []) known) =
      anywhere E ca at (at + exp_size a) s (At (value ∷ []) known) (exp_ok code proto total a (past 1 sc) base at [] known (has_front code base pa (pb ++ (pc ++ pd)) has) (fit_past proto sc known 1 f) (Prim.omega (arith, le))) in
      let part_b : Piece code proto E cb first (first + exp_size b) (At [] (known ++ held ∷ [])) (At (value ∷ []) (known ++ held ∷ [])) =
      anywhere E cb first (first + exp_size b) (At [] (known ++ held ∷ [])) (At (value ∷ []) (known ++ held ∷ []))
      (exp_ok code proto total b sb (base + exp_functions a) first [] (known ++ held ∷ []) (has_front code (base + exp_functions a) pb (pc ++ pd) q1) (fit_taken proto (past (1 + la) sc) known 1 (fit_past proto sc known (1 + la) f)) (Prim.omega (arith, le, long1))) in
      let part_c : Piece code proto E cs second (second + step_size c) (At [] (known ++ held ∷ held ∷ [])) (At (value ∷ []) (known ++ held ∷ held ∷ [])) =
      anywhere E cs second (second + step_size c) (At [] (known ++ held ∷ held ∷ [])) (At (value ∷ []) (known ++ held ∷ held ∷ []))
      (step_ok c p scc (base + exp_functions a + exp_functions b) second (known ++ held ∷ held ∷ []) (has_front code (base + exp_functions a + exp_functions b) pc pd q2) (fit_taken proto (past (1 + la + lb) sc) known 2 (fit_past proto sc known (1 + la + lb) f)) (Prim.omega (arith, le, long2))) in
      let bound_a : Piece code proto E (one instr.Bound (place_of a)) (at + exp_size a) (at + exp_size a + 1) (At (value ∷ []) known) (At (value ∷ []) known) =
      anywhere E (one instr.Bound (place_of a)) (at + exp_size a) (at + exp_size a + 1) (At (value ∷ []) known) (At (value ∷ []) known) (bound_ok (place_of a) (at + exp_size a) known) in
      let bound_b : Piece code proto E (one instr.Bound (place_of b)) (first + exp_size b) (first + exp_size b + 1) (At (value ∷ []) (known ++ held ∷ [])) (At (value ∷ []) (known ++ held ∷ [])) =
      anywhere E (one instr.Bound (place_of b)) (first + exp_size b) (first + exp_size b + 1) (At (value ∷ []) (known ++ held ∷ [])) (At (value ∷ []) (known ++ held ∷ [])) (bound_ok (place_of b) (first + exp_size b) (known ++ held ∷ [])) in
      let all : Placed = stat_code (tree.count p n a b c d) sc base at brk in
      let made : Piece code proto E all at behind_it s s3 =
      join code proto part_a
      (join code proto bound_a
      (join code proto (set_ok code proto total E i p (at + exp_size a + 1) [] known free (Prim.omega (arith, le, free)))
      (join code proto part_b
      (join code proto bound_b
      (join code proto (hidden_ok E 1 (i + 1) p (first + exp_size b + 1) known (Prim.omega (arith, free)) (Prim.omega (arith, le, free)))
      (join code proto part_c
      (join code proto (hidden_ok E 2 (i + 2) p (second + step_size c) known (Prim.omega (arith, free)) (Prim.omega (arith, le, free)))
      (join code proto enter loop (Prim.omega arith) refl) refl refl) refl refl) (Prim.omega arith) refl) refl refl) refl refl) (Prim.omega arith) refl) refl refl) refl refl in
      let closed_it : Piece code proto G all at behind_it s s = to_end code proto E G all at behind_it s s (λ w all l g. l) (closed E all at behind_it s known three made) in
      still G all at (at + (exp_size a + 2 + exp_size b + 2 + step_size c + 6 + block_size d + 1)) s known
      (moved code proto G all at at behind_it (at + (exp_size a + 2 + exp_size b + 2 + step_size c + 6 + block_size d + 1)) s s refl (Prim.omega arith) closed_it)

  -- the control value of a generic `for` is stored where it stands
  control_ok : (G : Asked) (i : ℕ) (p : Pos) (at : ℕ) (st : List ItemKind) (known : List SlotKind) → length known ≡ i → i + 3 ≤ total
      → Piece code proto G (one (instr.SetSlot (i + 2)) p) at (at + 1) (At (value ∷ st) (known ++ three)) (At st (known ++ three))
  control_ok G i p at st known e le =
      let front : List SlotKind = known ++ held ∷ held ∷ [] in
      let long : length front ≡ length known + 2 = length-append known (held ∷ held ∷ []) in
      subst (λ l. Piece code proto G (one (instr.SetSlot (i + 2)) p) at (at + 1) (At (value ∷ st) l) (At st l)) (append_assoc known (held ∷ held ∷ []) (held ∷ []))
      (change_ok code proto total G (i + 2) p at st front [] held (Prim.omega (arith, long, e)) (Prim.omega (arith, le)))

  iterate_ok : (i turn : ℕ) (p q : Pos) (at : ℕ) (known : List SlotKind) → length known ≡ i → i + 3 ≤ total
      → Piece code proto (Turned turn (At (values ∷ []) (known ++ three))) (iterate_code i turn p q) at (at + 13) (At [] (known ++ three)) (At [] (known ++ three))
  iterate_ok i turn p q at known e le =
      let known3 : List SlotKind = known ++ three in
      let F : Asked = Turned turn (At (values ∷ []) known3) in
      let ks : List SlotKind = filled total known3 in
      let long : length known3 ≡ length known + 3 = length-append known three in
      let fits : length known3 ≤ total = Prim.omega (arith, long, e, le) in
      join code proto (get_ok code proto total F i p at [] known3 (hidden_get 0 i known (held ∷ held ∷ []) (Prim.omega (arith, e))) fits)
      (join code proto (get_ok code proto total F (i + 1) p (at + 1) (value ∷ []) known3 (hidden_get 1 (i + 1) known (held ∷ []) (Prim.omega (arith, e))) fits)
      (join code proto (get_ok code proto total F (i + 2) p (at + 2) (value ∷ value ∷ []) known3 (hidden_get 2 (i + 2) known [] (Prim.omega (arith, e))) fits)
      (join code proto (plain code proto F (instr.Pack 2) p (at + 3) (value ∷ value ∷ []) (values ∷ []) [] [] (value ∷ []) ks tt refl tt)
      (join code proto (plain code proto F instr.Call q (at + 4) (values ∷ value ∷ []) (values ∷ []) [] [] [] ks tt refl tt)
      (join code proto (plain code proto F instr.Dup p (at + 5) (values ∷ []) (values ∷ values ∷ []) [] [] [] ks tt refl tt)
      (join code proto (plain code proto F instr.First p (at + 6) (values ∷ []) (value ∷ []) [] [] (values ∷ []) ks tt refl tt)
      (join code proto (plain code proto F instr.Dup p (at + 7) (value ∷ []) (value ∷ value ∷ []) [] [] (values ∷ []) ks tt refl tt)
      (join code proto (control_ok F i p (at + 8) (value ∷ values ∷ []) known e le)
      (join code proto (plain code proto F instr.Nil p (at + 9) [] (value ∷ []) [] [] (value ∷ values ∷ []) ks tt refl tt)
      (join code proto (plain code proto F instr.Eq p (at + 10) (value ∷ value ∷ []) (value ∷ []) [] [] (values ∷ []) ks tt refl tt)
      (join code proto (branching code proto F (instr.JumpIfNot turn) p (at + 11) turn (value ∷ []) [] [] [] (values ∷ []) ks tt refl tt (λ w all g. (g.0, jumps_back w (at + 11) turn g.1.0 g.1.1)))
      (plain code proto F instr.Pop p (at + 12) (values ∷ []) [] [] [] [] ks tt refl tt)
      (Prim.omega arith) refl) (Prim.omega arith) refl) (Prim.omega arith) refl) (Prim.omega arith) refl) (Prim.omega arith) refl) (Prim.omega arith) refl) (Prim.omega arith) refl) (Prim.omega arith) refl)
      (Prim.omega arith) refl) (Prim.omega arith) refl) (Prim.omega arith) refl) refl (Prim.omega arith)

  -- the three hidden values of a generic `for` go into their slots
  three_set_ok : (G : Asked) (i : ℕ) (p : Pos) (at : ℕ) (known : List SlotKind) → length known ≡ i → i + 3 ≤ total
      → Piece code proto G ((instr.SetSlot (i + 2), p) ∷ (instr.SetSlot (i + 1), p) ∷ one (instr.SetSlot i) p) at (at + 3) (At (value ∷ value ∷ value ∷ []) known) (At [] (known ++ three))
  three_set_ok G i p at known e le =
      let same : i + 1 + 1 ≡ i + 2 = Prim.omega arith in
      subst (λ z. Piece code proto G ((instr.SetSlot z, p) ∷ (instr.SetSlot (i + 1), p) ∷ one (instr.SetSlot i) p) at (at + 3) (At (value ∷ value ∷ value ∷ []) known) (At [] (known ++ three))) same
      (set_slots_ok code proto total G 3 i p at [] known e le)

  each_ok : (p : Pos) (ns : List Name) (es : Exps) (b : Block) → BlockOk b → StatOk (tree.each p ns es b)
  each_ok p ns es b ok sc base at brk known out has f le low covers =
      let n : ℕ = length ns in
      let turn : ℕ = at + exps_size es + 5 in
      let test : ℕ = turn + 2 + n + n + block_size b in
      let end : ℕ = test + 13 in
      let i : ℕ = sc.free in
      let sb : Scope = record (declared n (taken 3 sc)) { next = sc.next + (n + exps_locals es) } in
      let ce : Placed = list_code es p 0 (past n sc) base at in
      let cl : Placed = begin_locals (i + 3) n p in
      let cb : Placed = block_code b sb (base + exps_functions es) (turn + 2 + n + n) end in
      let ci : Placed = iterate_code i turn p (first_place p es) in
      let pe : List Proto = exps_protos es (past n sc) base in
      let pb : List Proto = block_protos b sb (base + exps_functions es) in
      let q1 : HasAt code (base + exps_functions es) pb = has_next code base (base + exps_functions es) pe pb (ap (λ z. base + z) (exps_count es (past n sc) base)) has in
      let free : length known ≡ i = f.free in
      let known3 : List SlotKind = known ++ three in
      let locals : List SlotKind = replicate n celled in
      let known4 : List SlotKind = known3 ++ locals in
      let long3 : length known3 ≡ length known + 3 = length-append known three in
      let long4 : length known4 ≡ length known3 + length locals = length-append known3 locals in
      let count : length locals ≡ n = length-replicate n celled in
      let s : Shape = At [] known in
      let s3 : Shape = At [] known3 in
      let v3 : Shape = At (values ∷ []) known3 in
      let G : Asked = Ahead brk (At [] out) in
      let F : Asked = Both (Turned turn v3) (Ahead end s3) in
      let inner : Piece code proto F cb (turn + 2 + n + n) test (At [] known4) s3 =
      given code proto (Ahead end s3) F (λ w all g. g.1) cb (turn + 2 + n + n) test (At [] known4) s3
      (closed (Ahead end s3) cb (turn + 2 + n + n) test (At [] known4) known3 locals
      (closed (Ahead end s3) cb (turn + 2 + n + n) test (At [] known4) known4 (replicate (block_declares b) celled)
      (ok sb (base + exps_functions es) (turn + 2 + n + n) end known4 known3 q1
      (fit_next proto (declared n (taken 3 sc)) known4 (sc.next + (n + exps_locals es)) (fit_declared proto (taken 3 sc) known3 n (fit_taken proto sc known 3 f)))
      (Prim.omega (arith, le, long3, long4, count)) (Prim.omega arith) (filled_fewer total known3 locals)))) in
      let begins : Piece code proto F cl (turn + 2) (turn + 2 + (n + n)) (At (replicate n value ++ []) known3) (At [] known4) =
      begin_ok code proto total F n (i + 3) p (turn + 2) [] known3 (Prim.omega (arith, free, long3)) (Prim.omega (arith, le, free)) in
      let spreads : Piece code proto F (one (instr.Spread n) p) (turn + 1) (turn + 1 + 1) v3 (At (replicate n value ++ []) known3) =
      anywhere F (one (instr.Spread n) p) (turn + 1) (turn + 1 + 1) v3 (At (replicate n value ++ []) known3) (spread_ok n p (turn + 1) known3) in
      let rest : Placed = (instr.Spread n, p) ∷ (cl ++ cb) in
      let body : Piece code proto F ((instr.Turn, p) ∷ rest) turn test v3 s3 =
      join code proto (turn_ok F p turn v3) (join code proto spreads (join code proto begins inner (Prim.omega arith) refl) (Prim.omega arith) refl) refl refl in
      let asks : Piece code proto F ci test end s3 s3 =
      given code proto (Turned turn v3) F (λ w all g. g.0) ci test end s3 s3 (iterate_ok i turn p (first_place p es) test known free (Prim.omega (arith, le, free))) in
      let place : turn ≡ at + exps_size es + 4 + 1 = Prim.omega arith in
      let loop : Piece code proto G ((instr.Jump test, p) ∷ (((instr.Turn, p) ∷ rest) ++ ci)) (at + exps_size es + 4) end s3 s3 =
      looped_in code proto F G p p rest ci (at + exps_size es + 4) test end v3 s3 s3 (λ w all h l g. (subst (λ z. Turned z v3 w all) (sym place) h, l))
      (moved code proto F ((instr.Turn, p) ∷ rest) turn (at + exps_size es + 4 + 1) test test v3 s3 place refl body) asks in
      let loop2 : Piece code proto G ((instr.Jump test, p) ∷ (instr.Turn, p) ∷ (instr.Spread n, p) ∷ (cl ++ (cb ++ ci))) (at + exps_size es + 4) end s3 s3 =
      subst (λ l. Piece code proto G ((instr.Jump test, p) ∷ (instr.Turn, p) ∷ (instr.Spread n, p) ∷ l) (at + exps_size es + 4) end s3 s3) (append_assoc cl cb ci) loop in
      let part_e : Piece code proto G ce at (at + exps_size es) s (At (values ∷ []) known) =
      anywhere G ce at (at + exps_size es) s (At (values ∷ []) known) (list_ok code proto total es p 0 (past n sc) base at [] known (has_front code base pe pb has) (fit_past proto sc known n f) (Prim.omega (arith, le))) in
      let spread3 : Piece code proto G (one (instr.Spread 3) p) (at + exps_size es) (at + exps_size es + 1) (At (values ∷ []) known) (At (value ∷ value ∷ value ∷ []) known) =
      anywhere G (one (instr.Spread 3) p) (at + exps_size es) (at + exps_size es + 1) (At (values ∷ []) known) (At (value ∷ value ∷ value ∷ []) known) (spread_ok 3 p (at + exps_size es) known) in
      let all : Placed = stat_code (tree.each p ns es b) sc base at brk in
      let made : Piece code proto G all at end s s3 =
      join code proto part_e
      (join code proto spread3
      (join code proto (three_set_ok G i p (at + exps_size es + 1) known free (Prim.omega (arith, le, free))) loop2 (Prim.omega arith) refl) refl refl) refl refl in
      still G all at (at + (exps_size es + 7 + n + n + block_size b + 13)) s known
      (moved code proto G all at at end (at + (exps_size es + 7 + n + n + block_size b + 13)) s s refl (Prim.omega arith) (closed G all at end s known three made))

  -- ---- blocks

  returns_ok : (p : Pos) (es : Exps) → BlockOk (tree.returns p es)
  returns_ok p es sc base at brk known out has f le low covers =
      let G : Asked = Ahead brk (At [] out) in
      let ce : Placed = list_code es p 0 sc base at in
      join code proto (anywhere G ce at (at + exps_size es) (At [] known) (At (values ∷ []) known) (list_ok code proto total es p 0 sc base at [] known has f le))
      (returning code proto G p (at + exps_size es) [] (filled total known) (At [] (known ++ []))) refl (Prim.omega arith)

  next_ok : (s : Stat) (b : Block) → StatOk s → BlockOk b → BlockOk (tree.next s b)
  next_ok s b ok oks sc base at brk known out has f le low covers =
      let n : ℕ = stat_declares s in
      let more : List SlotKind = known ++ replicate n celled in
      let sb : Scope = behind_stat s sc in
      let ps : List Proto = stat_protos s sc base in
      let pb : List Proto = block_protos b sb (base + stat_functions s) in
      let cb : Placed = block_code b sb (base + stat_functions s) (at + stat_size s) brk in
      let long : length more ≡ length known + length (replicate n celled) = length-append known (replicate n celled) in
      let count : length (replicate n celled) ≡ n = length-replicate n celled in
      let rest : Runs cb (at + stat_size s) (at + stat_size s + block_size b) brk out more (more ++ replicate (block_declares b) celled) =
      oks sb (base + stat_functions s) (at + stat_size s) brk more out (has_next code base (base + stat_functions s) ps pb (ap (λ z. base + z) (stat_count s sc base)) has)
      (fit_next proto (declared n sc) more (sc.next + stat_locals s) (fit_declared proto sc known n f)) (Prim.omega (arith, le, long, count)) (Prim.omega (arith, low))
      (enough_on (filled total more) (filled total known) (filled total out) (filled_fewer total known (replicate n celled)) covers) in
      join code proto (ok sc base at brk known out (has_front code base ps pb has) f (Prim.omega (arith, le)) (Prim.omega (arith, low)) covers)
      (subst (λ l. Runs cb (at + stat_size s) (at + stat_size s + block_size b) brk out more l) (more_declared n (block_declares b) known) rest) refl (Prim.omega arith)

  else_do_ok : (b : Block) → BlockOk b → ElseOk (tree.else_do b)
  else_do_ok b ok sc base at brk known out has f le low covers =
      closed (Ahead brk (At [] out)) (block_code b sc base at brk) at (at + block_size b) (At [] known) known (replicate (block_declares b) celled) (ok sc base at brk known out has f le low covers)

  mutual
    pub stat_ok : (s : Stat) → StatOk s
    stat_ok (tree.empty p) sc base at brk known out has f le low covers = empty_ok at brk known out
    stat_ok (tree.assign p ts es) sc base at brk known out has f le low covers = assign_ok p ts es sc base at brk known out has f le low covers
    stat_ok (tree.run p e) sc base at brk known out has f le low covers = run_ok p e sc base at brk known out has f le low covers
    stat_ok (tree.leave p) sc base at brk known out has f le low covers = leave_ok p sc base at brk known out has f le low covers
    stat_ok (tree.scope p b) sc base at brk known out has f le low covers = scope_ok p b (block_ok b) sc base at brk known out has f le low covers
    stat_ok (tree.while p e b) sc base at brk known out has f le low covers = while_ok p e b (block_ok b) sc base at brk known out has f le low covers
    stat_ok (tree.repeat p b e) sc base at brk known out has f le low covers = repeat_ok p b e (block_ok b) sc base at brk known out has f le low covers
    stat_ok (tree.choose p cs b) sc base at brk known out has f le low covers = choose_ok p cs b (clauses_ok cs) (else_ok b) sc base at brk known out has f le low covers
    stat_ok (tree.count p n a b c d) sc base at brk known out has f le low covers = count_ok p n a b c d (block_ok d) sc base at brk known out has f le low covers
    stat_ok (tree.each p ns es b) sc base at brk known out has f le low covers = each_ok p ns es b (block_ok b) sc base at brk known out has f le low covers
    stat_ok (tree.define p e g) sc base at brk known out has f le low covers = define_ok p e g sc base at brk known out has f le low covers
    stat_ok (tree.define_method p e n g) sc base at brk known out has f le low covers = empty_ok at brk known out
    stat_ok (tree.declare_function p n g) sc base at brk known out has f le low covers = declare_function_ok p g sc base at brk known out has f le
    stat_ok (tree.declare p ns es) sc base at brk known out has f le low covers = declare_ok p (length ns) es sc base at brk known out has f le
    stat_ok (tree.interface p n fs) sc base at brk known out has f le low covers = empty_ok at brk known out
    stat_ok (tree.alias p n t) sc base at brk known out has f le low covers = empty_ok at brk known out

    pub clauses_ok : (cs : Clauses) → ClausesOk cs
    clauses_ok tree.no_clause p sc base at end brk known out has f le low low2 covers =
        none_to code proto (Both (Ahead end (At [] known)) (Ahead brk (At [] out))) at (at + 0) (At [] known) (Prim.omega arith)
    clauses_ok (tree.clause e b cs) p sc base at end brk known out has f le low low2 covers = clause_ok e b cs (block_ok b) (clauses_ok cs) p sc base at end brk known out has f le low low2 covers

    pub else_ok : (b : Else) → ElseOk b
    else_ok tree.no_else sc base at brk known out has f le low covers = none_to code proto (Ahead brk (At [] out)) at (at + 0) (At [] known) (Prim.omega arith)
    else_ok (tree.else_do b) sc base at brk known out has f le low covers = else_do_ok b (block_ok b) sc base at brk known out has f le low covers

    pub block_ok : (b : Block) → BlockOk b
    block_ok tree.finish sc base at brk known out has f le low covers = empty_ok at brk known out
    block_ok (tree.returns p es) sc base at brk known out has f le low covers = returns_ok p es sc base at brk known out has f le low covers
    block_ok (tree.next s b) sc base at brk known out has f le low covers = next_ok s b (stat_ok s) (block_ok b) sc base at brk known out has f le low covers

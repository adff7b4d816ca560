-- What the code owes after a part of a statement, what new locals, stores and turns do, and what the loops owe.
use Rattle.std.proofs.Common.{◌≡◌, refl, ap, subst, ◌∙◌, ℕ, zero, suc, ◌+◌, ◌<◌, ◌≤◌, ℤ, ◌+ℤ◌, List, [], ◌∷◌, ◌++◌, length, map, slice_get, slice_set, Option, Some, None, arith}
use Rattle.tl_base.specs.declared.place.Pos.{Pos}
use Rattle.lua_tree.specs.declared.scoped.Use.{Use}
use Rattle.lua_tree.specs.declared.scoped.Use.TheVariants as means
use Rattle.lua_tree.specs.Tree as tree
use Rattle.lua_tree.specs.Tree.{Exp, Multi, Exps, Function, Stat, Targets, Clauses, Else, Step, Block}
use Rattle.lua_values.specs.declared.value.Value.{Value}
use Rattle.lua_values.specs.declared.value.Value.TheVariants as value
use Rattle.lua_meaning.specs.World.{World, write_cell, with_cell}
use Rattle.lua_meaning.specs.Environment.{Env, Bound, cell_of, use_of, behind, bind}
use Rattle.lua_meaning.specs.Outcomes.{Act, Closure, Outcome, gives, Flow, normal, returned, broken, give, go_on, turned, turn, then_do, leave_block, next_turn}
use Rattle.lua_meaning.specs.Locals.{exp_locals}
use Rattle.lua_meaning.specs.Trees.{Looper, while_again, repeat_again, counting, iterating, Spot, nowhere, store, store_all, spot_of_use, declare_all, adjust, bound}
use Rattle.lua_meaning.specs.Calls.{limit}
use Rattle.lua_code.specs.declared.code.Proto.{Proto}
use Rattle.lua_code.specs.declared.code.Instr.TheVariants as instr
use Rattle.lua_code.specs.declared.frames.Slot.{Slot}
use Rattle.lua_code.specs.declared.frames.Slot.TheVariants as slot
use Rattle.lua_code.specs.declared.frames.Item.{Item}
use Rattle.lua_code.specs.declared.frames.Item.TheVariants as item
use Rattle.lua_code.specs.Configurations.{CodeClosure, running, giving}
use Rattle.lua_code.specs.Instructions as row
use Rattle.lua_code.specs.Instructions.{Row, act}
use Rattle.lua_code.specs.Sizes.{targets_size, stat_size, block_size, stat_slots, block_slots}
use Rattle.lua_code.specs.Generated.{Placed, one, Scope, past, taken, in_slots, declared, from_own, from_captured, captured_from, write_local, write_use, store_instr, stores, target_count, set_slots, new_cells, begin_locals, iterate_code, stat_code, block_code, stat_protos, block_protos}
use Rattle.lua_code.proofs.Faithful.Lists.{HasAt, has_front, has_next, get_set, get_set_before, get_set_behind, length_set}
use Rattle.lua_code.proofs.Faithful.Lengths.{set_slots_length, stores_length}
use Rattle.lua_code.proofs.Faithful.Agreement.{Halts, Alike, Owes, Setting, owes_then, owes_map, owes_fewer, at_work, Comes, does, comes_by, moved}
use Rattle.lua_code.proofs.Faithful.Names.{Kept, kept_same, kept_set, kept_on, Sees, sees_kept, Found, in_slot, in_captured, nowhere as not_found, found}
use Rattle.lua_code.proofs.Faithful.Expressions.{Views, views_past}

module _ (code : List Proto) (s : Setting code) where
  -- where a statement's code goes on, breaks to, or gives
  abbrev pub Flows : ℕ → List (ℕ × ℕ) → ℕ → List ℕ → List Slot → ℕ → ℕ → Flow → World → List CodeClosure → Type 0
  Flows d own free captured sl to brk (normal bound) w ks = (sl2 : List Slot) → Kept d sl sl2 → Sees free own captured bound sl2 s.captured → Halts code (running (at_work code s to sl2 []) s.levels w ks) s.end
  Flows d own free captured sl to brk broken w ks = (sl2 : List Slot) → Kept d sl sl2 → Halts code (running (at_work code s brk sl2 []) s.levels w ks) s.end
  Flows d own free captured sl to brk (returned vs) w ks = Halts code (giving vs s.levels w ks) s.end

  abbrev pub OwesFlow : ℕ → ℕ → List (ℕ × ℕ) → ℕ → List ℕ → List Slot → ℕ → ℕ → Outcome Flow → Type 0
  OwesFlow m d own free captured sl to brk o = Owes code m s.levels s.end (Flows d own free captured sl to brk) o

  pub flows_on : (d d2 : ℕ) (own : List (ℕ × ℕ)) (free : ℕ) (captured : List ℕ) (sl sl2 : List Slot) (to to2 brk brk2 : ℕ) → d ≤ d2 → to ≡ to2 → brk ≡ brk2 → Kept d sl sl2
      → (flow : Flow) (w : World) (ks : List CodeClosure) → Flows d own free captured sl to2 brk2 flow w ks → Flows d2 own free captured sl2 to brk flow w ks
  flows_on d d2 own free captured sl sl2 to to2 brk brk2 le e f kept (normal bound) w ks h = λ sl3 kept3 sees. moved code s to to2 sl3 [] w ks e (h sl3 (kept_on d d2 sl sl2 sl3 le kept kept3) sees)
  flows_on d d2 own free captured sl sl2 to to2 brk brk2 le e f kept broken w ks h = λ sl3 kept3. moved code s brk brk2 sl3 [] w ks f (h sl3 (kept_on d d2 sl sl2 sl3 le kept kept3))
  flows_on d d2 own free captured sl sl2 to to2 brk brk2 le e f kept (returned vs) w ks h = h

  -- debts over slots that have changed above, at places that are equal
  pub owes_flow_on : (m d d2 : ℕ) (own : List (ℕ × ℕ)) (free : ℕ) (captured : List ℕ) (sl sl2 : List Slot) (to to2 brk brk2 : ℕ) → d ≤ d2 → to ≡ to2 → brk ≡ brk2 → Kept d sl sl2
      → (o : Outcome Flow) → OwesFlow m d own free captured sl to2 brk2 o → OwesFlow m d2 own free captured sl2 to brk o
  owes_flow_on m d d2 own free captured sl sl2 to to2 brk brk2 le e f kept o h =
      owes_map code m s.levels s.end o (Flows d2 own free captured sl2 to brk) (Flows d own free captured sl to2 brk2)
      (λ flow w ks k. flows_on d d2 own free captured sl sl2 to to2 brk brk2 le e f kept flow w ks k) h

  -- what follows a statement
  pub then_flows : (m d : ℕ) (own1 own2 : List (ℕ × ℕ)) (free1 free2 : ℕ) (captured : List ℕ) (sl : List Slot) (to1 to2 brk : ℕ) (next : Bound → Act Flow) (flow : Flow) (w : World) (cs : List Closure) (ks : List CodeClosure) → Alike code m w cs ks
      → ((inner : Bound) → OwesFlow m d own2 free2 captured sl to2 brk (next inner w cs) → Flows d own1 free1 captured sl to1 brk (normal inner) w ks)
      → OwesFlow m d own2 free2 captured sl to2 brk (then_do flow next w cs) → Flows d own1 free1 captured sl to1 brk flow w ks
  then_flows m d own1 own2 free1 free2 captured sl to1 to2 brk next (normal inner) w cs ks a f h = f inner h
  then_flows m d own1 own2 free1 free2 captured sl to1 to2 brk next broken w cs ks a f h = h ks a
  then_flows m d own1 own2 free1 free2 captured sl to1 to2 brk next (returned vs) w cs ks a f h = h ks a

  -- behind a block
  pub leave_flows : (m d : ℕ) (own1 own2 : List (ℕ × ℕ)) (free1 free2 : ℕ) (captured : List ℕ) (sl : List Slot) (to brk : ℕ) (around : Bound) → ((sl2 : List Slot) → Kept d sl sl2 → Sees free2 own2 captured around sl2 s.captured)
      → (flow : Flow) (w : World) (cs : List Closure) (ks : List CodeClosure) → Alike code m w cs ks
      → OwesFlow m d own2 free2 captured sl to brk (give (leave_block around flow) w cs) → Flows d own1 free1 captured sl to brk flow w ks
  leave_flows m d own1 own2 free1 free2 captured sl to brk around sees (normal inner) w cs ks a h = λ sl2 kept _. h ks a sl2 kept (sees sl2 kept)
  leave_flows m d own1 own2 free1 free2 captured sl to brk around sees broken w cs ks a h = h ks a
  leave_flows m d own1 own2 free1 free2 captured sl to brk around sees (returned vs) w cs ks a h = h ks a

  -- after the body of a loop, which breaks to the loop's end
  pub loop_flows : (m d1 d2 : ℕ) (own1 own2 : List (ℕ × ℕ)) (free1 free2 : ℕ) (captured : List ℕ) (sl1 sl2 : List Slot) (to1 to2 brk1 brk2 : ℕ) (around : Bound) → d2 ≤ d1 → Kept d2 sl2 sl1
      → ((sl3 : List Slot) → Kept d2 sl2 sl3 → Sees free2 own2 captured around sl3 s.captured) → brk1 ≡ to2
      → (more : Bound → Act Flow) (flow : Flow) (w : World) (cs : List Closure) (ks : List CodeClosure) → Alike code m w cs ks
      → ((inner : Bound) → OwesFlow m d2 own2 free2 captured sl2 to2 brk2 (more inner w cs) → Flows d1 own1 free1 captured sl1 to1 brk1 (normal inner) w ks)
      → OwesFlow m d2 own2 free2 captured sl2 to2 brk2 (next_turn around flow more w cs) → Flows d1 own1 free1 captured sl1 to1 brk1 flow w ks
  loop_flows m d1 d2 own1 own2 free1 free2 captured sl1 sl2 to1 to2 brk1 brk2 around le kept sees e more (normal inner) w cs ks a f h = f inner h
  loop_flows m d1 d2 own1 own2 free1 free2 captured sl1 sl2 to1 to2 brk1 brk2 around le kept sees e more broken w cs ks a f h =
      λ sl3 kept3. moved code s brk1 to2 sl3 [] w ks e (h ks a sl3 (kept_on d2 d1 sl2 sl1 sl3 le kept kept3) (sees sl3 (kept_on d2 d1 sl2 sl1 sl3 le kept kept3)))
  loop_flows m d1 d2 own1 own2 free1 free2 captured sl1 sl2 to1 to2 brk1 brk2 around le kept sees e more (returned vs) w cs ks a f h = h ks a

  -- a turn of a loop, which is taken or cuts the run
  pub turn_at : (m m1 : ℕ) (pc : ℕ) (sl : List Slot) (st : List Item) (p : Pos) (next : Act Flow) (K : Flow → World → List CodeClosure → Type 0) (t : ℕ) (w : World) (cs : List Closure) (ks : List CodeClosure) → slice_get s.placed pc ≡ Some (instr.Turn, p)
      → w.turns ≡ t → Alike code m w cs ks
      → ((l : ℕ) (w1 : World) → suc l ≤ m → Alike code l w1 cs ks → Owes code l s.levels s.end K (next w1 cs) → Halts code (running (at_work code s (pc + 1) sl st) s.levels w1 ks) s.end)
      → Owes code m s.levels s.end K (go_on (turned t w cs) (λ _. next)) → Comes code s (row.turned t p (at_work code s pc sl st) s.levels w ks)
  turn_at m m1 pc sl st p next K zero w cs ks h e a f debt = debt
  turn_at m m1 pc sl st p next K (suc t) w cs ks h e a f debt =
      let few : w.turns ≤ m = a.few in
      let less : suc t ≤ m = Prim.omega (arith, few, e) in
      f t (record w { turns = t }) less (record { few = Prim.omega arith; made = a.made }) (owes_fewer code t m s.levels s.end (next (record w { turns = t }) cs) K (Prim.omega (arith, less)) debt)

  pub turn_ok : (m pc : ℕ) (sl : List Slot) (st : List Item) (p : Pos) (next : Act Flow) (K : Flow → World → List CodeClosure → Type 0) (w : World) (cs : List Closure) (ks : List CodeClosure) → slice_get s.placed pc ≡ Some (instr.Turn, p)
      → Alike code m w cs ks
      → ((l : ℕ) (w1 : World) → suc l ≤ m → Alike code l w1 cs ks → Owes code l s.levels s.end K (next w1 cs) → Halts code (running (at_work code s (pc + 1) sl st) s.levels w1 ks) s.end)
      → Owes code m s.levels s.end K (go_on (turn w cs) (λ _. next)) → Halts code (running (at_work code s pc sl st) s.levels w ks) s.end
  turn_ok m pc sl st p next K w cs ks h a f debt = does code s pc sl st w ks instr.Turn p h (turn_at m m pc sl st p next K w.turns w cs ks h refl a f debt)

  -- ---- locals that begin

  abbrev pub helds : List Value → List Slot
  helds vs = map (λ v. slot.Held v) vs

  pub has_behind : (xs sl : List Slot) (i j : ℕ) (x : Slot) → i < j → HasAt sl j xs → HasAt (slice_set sl i x) j xs
  has_behind [] sl i j x le h = tt
  has_behind (y ∷ xs) sl i j x le h = (get_set_behind sl i j x le ∙ h.0, has_behind xs sl i (j + 1) x (Prim.omega (arith, le)) h.1)

  pub set_slots_ok : (vs : List Value) (at pc : ℕ) (sl : List Slot) (st : List Item) (w : World) (ks : List CodeClosure) (p : Pos) → HasAt s.placed pc (set_slots at (length vs) p) → at + length vs ≤ length sl
      → ((sl2 : List Slot) → Kept at sl sl2 → HasAt sl2 at (helds vs) → Halts code (running (at_work code s (pc + length vs) sl2 st) s.levels w ks) s.end)
      → Halts code (running (at_work code s pc sl (row.spread vs st)) s.levels w ks) s.end
  set_slots_ok [] at pc sl st w ks p has room k = moved code s pc (pc + 0) sl st w ks (Prim.omega arith) (k sl (kept_same at sl) tt)
  set_slots_ok (v ∷ vs) at pc sl st w ks p has room k =
      let first : Placed = set_slots (at + 1) (length vs) p in
      let h : HasAt s.placed (pc + length vs) (one (instr.SetSlot at) p) = has_next s.placed pc (pc + length vs) first (one (instr.SetSlot at) p) (ap (λ z. pc + z) (set_slots_length (length vs) (at + 1) p)) has in
      set_slots_ok vs (at + 1) pc sl (item.One v ∷ st) w ks p (has_front s.placed pc first (one (instr.SetSlot at) p) has) (Prim.omega (arith, room)) (λ sl2 kept held.
      let long : length sl2 ≡ length sl = kept.long in
      let sl3 : List Slot = slice_set sl2 at (slot.Held v) in
      let kept3 : Kept at sl sl3 = record { long = length_set sl2 at (slot.Held v) ∙ kept.long; low = λ i l. get_set_before sl2 at i (slot.Held v) l ∙ kept.low i (Prim.omega (arith, l)) } in
      does code s (pc + length vs) sl2 (item.One v ∷ st) w ks (instr.SetSlot at) p h.0
      (moved code s (pc + length vs + 1) (pc + length (v ∷ vs)) sl3 st w ks (Prim.omega arith)
      (k sl3 kept3 (get_set sl2 at (slot.Held v) (Prim.omega (arith, room, long)), has_behind (helds vs) sl2 at (at + 1) (slot.Held v) (Prim.omega arith) held))))

  -- the locals are in scope, and nothing else of the environment has changed
  abbrev pub Declared : ℕ → List (ℕ × ℕ) → ℕ → List ℕ → List Slot → Env → ℕ → List Item → Env → World → List CodeClosure → Type 0
  Declared d own free captured sl env to st env2 w ks =
      (sl2 : List Slot) → Kept d sl sl2 → Sees free own captured env2.bound sl2 s.captured → (env2.names ≡ env.names) × (env2.next ≡ env.next) × (env2.rest ≡ env.rest)
      → Halts code (running (at_work code s to sl2 st) s.levels w ks) s.end

  pub new_cells_ok : (vs : List Value) (m x at pc : ℕ) (sl : List Slot) (st : List Item) (own : List (ℕ × ℕ)) (captured : List ℕ) (env : Env) (w : World) (cs : List Closure) (ks : List CodeClosure) (p : Pos)
      → HasAt s.placed pc (new_cells at (length vs) p) → HasAt sl at (helds vs) → Sees at own captured env.bound sl s.captured → at + length vs ≤ length sl → Alike code m w cs ks
      → Owes code m s.levels s.end (Declared at (in_slots (length vs) x at own) (at + length vs) captured sl env (pc + length vs) st) (declare_all x vs env w cs)
      → Halts code (running (at_work code s pc sl st) s.levels w ks) s.end
  new_cells_ok [] m x at pc sl st own captured env w cs ks p has held sees room a debt =
      moved code s pc (pc + 0) sl st w ks (Prim.omega arith) (debt ks a sl (kept_same at sl) (sees_kept at (at + 0) own captured env.bound sl sl s.captured (Prim.omega arith) (kept_same at sl) sees) (refl, refl, refl))
  new_cells_ok (v ∷ vs) m x at pc sl st own captured env w cs ks p has held sees room a debt =
      let c : ℕ = length w.cells in
      let sl2 : List Slot = slice_set sl at (slot.Cell c) in
      let kept2 : Kept at sl sl2 = kept_set at at sl (slot.Cell c) (Prim.omega arith) in
      let env2 : Env = bind x c env in
      let long : length sl2 ≡ length sl = kept2.long in
      does code s pc sl st w ks (instr.NewCell at) p has.0
      (comes_by code s _ _ (ap (λ z. row.value_in z (λ v. row.new_cell at v) p (at_work code s pc sl st) s.levels w ks) held.0)
      (new_cells_ok vs m (x + 1) (at + 1) (pc + 1) sl2 st ((x, at) ∷ own) captured env2 (with_cell v w) cs ks p has.1 (has_behind (helds vs) sl at (at + 1) (slot.Cell c) (Prim.omega arith) held.1)
      (refl, Prim.omega arith, get_set sl at (slot.Cell c) (Prim.omega (arith, room)), sees_kept at (at + 1) own captured env.bound sl sl2 s.captured (Prim.omega arith) kept2 sees)
      (Prim.omega (arith, room, long)) (record { few = a.few; made = a.made })
      (owes_map code m s.levels s.end (declare_all (x + 1) vs env2 (with_cell v w) cs)
      (Declared (at + 1) (in_slots (length vs) (x + 1) (at + 1) ((x, at) ∷ own)) (at + 1 + length vs) captured sl2 env2 (pc + 1 + length vs) st)
      (Declared at (in_slots (length (v ∷ vs)) x at own) (at + length (v ∷ vs)) captured sl env (pc + length (v ∷ vs)) st)
      (λ env3 w3 ks3 f sl3 kept3 sees3 same.
      moved code s (pc + 1 + length vs) (pc + length (v ∷ vs)) sl3 st w3 ks3 (Prim.omega arith)
      (f sl3 (kept_on at (at + 1) sl sl2 sl3 (Prim.omega arith) kept2 kept3) (sees_kept (at + 1 + length vs) (at + length (v ∷ vs)) (in_slots (length vs) (x + 1) (at + 1) ((x, at) ∷ own)) captured env3.bound sl3 sl3 s.captured (Prim.omega arith) (kept_same (at + 1 + length vs) sl3) sees3) same)) debt)))

  -- values on the stack become locals
  abbrev pub BeginOk : List Value → ℕ → Type 0
  BeginOk vs k = (m x at pc : ℕ) (sl : List Slot) (st : List Item) (own : List (ℕ × ℕ)) (captured : List ℕ) (env : Env) (w : World) (cs : List Closure) (ks : List CodeClosure) (p : Pos)
      → HasAt s.placed pc (begin_locals at k p) → Sees at own captured env.bound sl s.captured → at + k ≤ length sl → Alike code m w cs ks
      → Owes code m s.levels s.end (Declared at (in_slots k x at own) (at + k) captured sl env (pc + k + k) st) (declare_all x vs env w cs)
      → Halts code (running (at_work code s pc sl (row.spread vs st)) s.levels w ks) s.end

  pub begin_here : (vs : List Value) → BeginOk vs (length vs)
  begin_here vs m x at pc sl st own captured env w cs ks p has sees room a debt =
      let k : ℕ = length vs in
      let h : HasAt s.placed (pc + k) (new_cells at k p) = has_next s.placed pc (pc + k) (set_slots at k p) (new_cells at k p) (ap (λ z. pc + z) (set_slots_length k at p)) has in
      set_slots_ok vs at pc sl st w ks p (has_front s.placed pc (set_slots at k p) (new_cells at k p) has) room (λ sl2 kept held.
      let long : length sl2 ≡ length sl = kept.long in
      new_cells_ok vs m x at (pc + k) sl2 st own captured env w cs ks p h held (sees_kept at at own captured env.bound sl sl2 s.captured (Prim.omega arith) kept sees) (Prim.omega (arith, room, long)) a
      (owes_map code m s.levels s.end (declare_all x vs env w cs)
      (Declared at (in_slots k x at own) (at + k) captured sl2 env (pc + k + k) st) (Declared at (in_slots k x at own) (at + k) captured sl env (pc + k + k) st)
      (λ env3 w3 ks3 f sl3 kept3 sees3 same. f sl3 (kept_on at at sl sl2 sl3 (Prim.omega arith) kept kept3) sees3 same) debt))

  pub adjust_length : (k : ℕ) (vs : List Value) → length (adjust k vs) ≡ k
  adjust_length zero vs = refl
  adjust_length (suc k) [] = ap suc (adjust_length k [])
  adjust_length (suc k) (v ∷ vs) = ap suc (adjust_length k vs)

  pub begin_ok : (k : ℕ) (vs : List Value) → BeginOk (adjust k vs) k
  begin_ok k vs = subst (λ z. BeginOk (adjust k vs) z) (adjust_length k vs) (begin_here (adjust k vs))

  -- ---- stores

  abbrev pub spot_in : Exp → Env → Spot
  spot_in (tree.name p u t) env = spot_of_use (use_of env u) env
  spot_in (tree.mark k e) env = spot_in e env
  spot_in e env = nowhere

  abbrev pub spots_in : Targets → Env → List Spot
  spots_in tree.no_target env = []
  spots_in (tree.target e ts) env = spot_in e env ∷ spots_in ts (behind (exp_locals e) env)

  -- the code goes on there
  abbrev pub Goes : ℕ → List Slot → List Item → Unit {0} → World → List CodeClosure → Type 0
  Goes to sl st x w ks = Halts code (running (at_work code s to sl st) s.levels w ks) s.end

  pub written_alike : (c : ℕ) (v : Value) (m : ℕ) (w : World) (cs : List Closure) (ks : List CodeClosure) → Alike code m w cs ks → Alike code m (write_cell (Some c) v w) cs ks
  written_alike c v m w cs ks a = record { few = a.few; made = a.made }

  pub write_ok : (x : ℕ) (v : Value) (sc : Scope) (env : Env) (m pc : ℕ) (sl : List Slot) (st : List Item) (w : World) (cs : List Closure) (ks : List CodeClosure) (p : Pos)
      → Found x sc.own sc.captured env.bound sl s.captured → slice_get s.placed pc ≡ Some (write_local sc x, p) → Alike code m w cs ks
      → Owes code m s.levels s.end (Goes (pc + 1) sl st) (gives tt (write_cell (cell_of env x) v w) cs) → Halts code (running (at_work code s pc sl (item.One v ∷ st)) s.levels w ks) s.end
  write_ok x v sc env m pc sl st w cs ks p (in_slot t d f g h) has a k =
      does code s pc sl (item.One v ∷ st) w ks (instr.SetCell t) p
      (has ∙ ap (λ o. Some (from_own (λ s. instr.SetCell s) o (from_captured (λ i. instr.SetUp i) instr.Pop (captured_from 0 x sc.captured)), p)) f)
      (comes_by code s _ _ (ap (λ o. row.cell_in o (λ c. row.write c v) p (at_work code s pc sl st) s.levels w ks) h)
      (subst (λ z. Owes code m s.levels s.end (Goes (pc + 1) sl st) (gives tt (write_cell z v w) cs)) g k ks (written_alike d v m w cs ks a)))
  write_ok x v sc env m pc sl st w cs ks p (in_captured i d f g h j) has a k =
      does code s pc sl (item.One v ∷ st) w ks (instr.SetUp i) p
      (has ∙ ap (λ o. Some (from_own (λ s. instr.SetCell s) o (from_captured (λ i. instr.SetUp i) instr.Pop (captured_from 0 x sc.captured)), p)) f ∙ ap (λ o. Some (from_captured (λ i. instr.SetUp i) instr.Pop o, p)) g)
      (comes_by code s _ _ (ap (λ o. row.this_cell o (λ c. row.write c v) p (at_work code s pc sl st) s.levels w ks) j)
      (subst (λ z. Owes code m s.levels s.end (Goes (pc + 1) sl st) (gives tt (write_cell z v w) cs)) h k ks (written_alike d v m w cs ks a)))
  write_ok x v sc env m pc sl st w cs ks p (not_found f g h) has a k =
      does code s pc sl (item.One v ∷ st) w ks instr.Pop p
      (has ∙ ap (λ o. Some (from_own (λ s. instr.SetCell s) o (from_captured (λ i. instr.SetUp i) instr.Pop (captured_from 0 x sc.captured)), p)) f ∙ ap (λ o. Some (from_captured (λ i. instr.SetUp i) instr.Pop o, p)) g)
      (subst (λ z. Owes code m s.levels s.end (Goes (pc + 1) sl st) (gives tt (write_cell z v w) cs)) h k ks a)

  pub use_store_ok : (u : Option Use) (v : Value) (sc : Scope) (env : Env) (m pc : ℕ) (sl : List Slot) (st : List Item) (w : World) (cs : List Closure) (ks : List CodeClosure) (p : Pos)
      → Sees sc.free sc.own sc.captured env.bound sl s.captured → slice_get s.placed pc ≡ Some (write_use sc u, p) → Alike code m w cs ks
      → Owes code m s.levels s.end (Goes (pc + 1) sl st) (store (spot_of_use u env) v w cs) → Halts code (running (at_work code s pc sl (item.One v ∷ st)) s.levels w ks) s.end
  use_store_ok None v sc env m pc sl st w cs ks p sees has a k = does code s pc sl (item.One v ∷ st) w ks instr.Pop p has (k ks a)
  use_store_ok (Some (means.Local x)) v sc env m pc sl st w cs ks p sees has a k = write_ok x v sc env m pc sl st w cs ks p (found x sc.free sc.own sc.captured env.bound sl s.captured sees) has a k
  use_store_ok (Some (means.Lib l)) v sc env m pc sl st w cs ks p sees has a k = does code s pc sl (item.One v ∷ st) w ks instr.Pop p has (k ks a)

  pub store_ok : (e : Exp) (v : Value) (sc : Scope) (env : Env) (m pc : ℕ) (sl : List Slot) (st : List Item) (w : World) (cs : List Closure) (ks : List CodeClosure) (p : Pos)
      → Views sc env sl s.captured s.rest → slice_get s.placed pc ≡ Some (store_instr e sc, p) → Alike code m w cs ks
      → Owes code m s.levels s.end (Goes (pc + 1) sl st) (store (spot_in e env) v w cs) → Halts code (running (at_work code s pc sl (item.One v ∷ st)) s.levels w ks) s.end
  store_ok (tree.name q u t) v sc env m pc sl st w cs ks p vw has a k =
      use_store_ok (use_of env u) v sc env m pc sl st w cs ks p vw.bound (has ∙ ap (λ z. Some (write_use sc (slice_get z.uses u), p)) vw.names) a k
  store_ok (tree.mark j e) v sc env m pc sl st w cs ks p vw has a k = store_ok e v sc env m pc sl st w cs ks p vw has a k
  store_ok e v sc env m pc sl st w cs ks p vw has a k = does code s pc sl (item.One v ∷ st) w ks instr.Pop p has (k ks a)

  pub stores_ok : (ts : Targets) (vs : List Value) → length vs ≡ target_count ts → (sc : Scope) (env : Env) (m pc : ℕ) (sl : List Slot) (st : List Item) (w : World) (cs : List Closure) (ks : List CodeClosure) (p : Pos)
      → HasAt s.placed pc (stores ts p sc) → Views sc env sl s.captured s.rest → Alike code m w cs ks
      → Owes code m s.levels s.end (Goes (pc + targets_size ts) sl st) (store_all (spots_in ts env) vs w cs) → Halts code (running (at_work code s pc sl (row.spread vs st)) s.levels w ks) s.end
  stores_ok tree.no_target [] e sc env m pc sl st w cs ks p has vw a k = moved code s pc (pc + 0) sl st w ks (Prim.omega arith) (k ks a)
  stores_ok tree.no_target (v ∷ vs) e sc env m pc sl st w cs ks p has vw a k = absurd (Prim.omega (arith, e))
  stores_ok (tree.target t ts) [] e sc env m pc sl st w cs ks p has vw a k = absurd (Prim.omega (arith, e))
  stores_ok (tree.target t ts) (v ∷ vs) e sc env m pc sl st w cs ks p has vw a k =
      let sc2 : Scope = past (exp_locals t) sc in
      let h : HasAt s.placed (pc + targets_size ts) (one (store_instr t sc) p) = has_next s.placed pc (pc + targets_size ts) (stores ts p sc2) (one (store_instr t sc) p) (ap (λ z. pc + z) (stores_length ts p sc2)) has in
      stores_ok ts vs (Prim.omega (arith, e)) sc2 (behind (exp_locals t) env) m pc sl (item.One v ∷ st) w cs ks p (has_front s.placed pc (stores ts p sc2) (one (store_instr t sc) p) has) (views_past (exp_locals t) sc env sl s.captured s.rest vw) a
      (owes_then code m s.levels s.end (store_all (spots_in ts (behind (exp_locals t) env)) vs w cs) (λ _. store (spot_in t env) v) (Goes (pc + targets_size ts) sl (item.One v ∷ st)) (Goes (pc + (targets_size ts + 1)) sl st)
      (λ x w1 cs1 ks1 a1 k1. store_ok t v sc env m (pc + targets_size ts) sl st w1 cs1 ks1 p vw h.0 a1
      (owes_map code m s.levels s.end (store (spot_in t env) v w1 cs1) (Goes (pc + targets_size ts + 1) sl st) (Goes (pc + (targets_size ts + 1)) sl st)
      (λ y w2 ks2 f. moved code s (pc + targets_size ts + 1) (pc + (targets_size ts + 1)) sl st w2 ks2 (Prim.omega arith) f) k1)) k)

-- ---- loops, from where their further turns begin

module _ (code : List Proto) (s : Setting code) where
  abbrev pub WhileOk : ℕ → Pos → Exp → Block → (Env → Act Flow) → Type 0
  WhileOk m p e b run = (sc : Scope) (base pc brk : ℕ) (sl : List Slot) (env : Env) (w : World) (cs : List Closure) (ks : List CodeClosure)
      → HasAt s.placed pc (stat_code (tree.while p e b) sc base pc brk) → HasAt code base (stat_protos (tree.while p e b) sc base) → Views sc env sl s.captured s.rest → sc.free + stat_slots (tree.while p e b) ≤ length sl → Alike code m w cs ks
      → OwesFlow code s m sc.free sc.own (sc.free + 0) sc.captured sl (pc + stat_size (tree.while p e b)) brk (run env w cs)
      → Halts code (running (at_work code s (pc + 2 + block_size b) sl []) s.levels w ks) s.end

  abbrev pub RepeatOk : ℕ → Pos → Block → Exp → (Env → Act Flow) → Type 0
  RepeatOk m p b e run = (sc : Scope) (base pc brk : ℕ) (sl : List Slot) (env : Env) (w : World) (cs : List Closure) (ks : List CodeClosure)
      → HasAt s.placed pc (stat_code (tree.repeat p b e) sc base pc brk) → HasAt code base (stat_protos (tree.repeat p b e) sc base) → Views sc env sl s.captured s.rest → sc.free + stat_slots (tree.repeat p b e) ≤ length sl → Alike code m w cs ks
      → OwesFlow code s m sc.free sc.own (sc.free + 0) sc.captured sl (pc + stat_size (tree.repeat p b e)) brk (run env w cs)
      → Halts code (running (at_work code s pc sl []) s.levels w ks) s.end

  -- the body of a loop sees its variables
  abbrev pub loop_scope : ℕ → ℕ → Scope → Scope
  loop_scope count next sc = record (declared count (taken 3 sc)) { next = next }

  abbrev pub count_code : Pos → Scope → Block → ℕ → ℕ → ℕ → Placed
  count_code p sc b next base turn =
      (instr.Turn, p) ∷ (instr.GetSlot sc.free, p) ∷ (instr.SetSlot (sc.free + 3), p) ∷ (instr.NewCell (sc.free + 3), p)
      ∷ (block_code b (loop_scope 1 next sc) base (turn + 4) (turn + 4 + block_size b + 1) ++ one (instr.ForStep sc.free turn) p)

  -- what a loop with three hidden slots sees from outside
  pub record Around (sc : Scope) (x next : ℕ) (env : Env) (sl : List Slot) : Type 0 where
    pub names : sc.names ≡ env.names
    pub number : x ≡ sc.next
    pub after : next ≡ env.next
    pub more : env.rest ≡ s.rest
    pub bound : Sees sc.free sc.own sc.captured env.bound sl s.captured

  pub record Hidden (sc : Scope) (u v t : Value) (sl : List Slot) : Type 0 where
    pub first : slice_get sl sc.free ≡ Some (slot.Held u)
    pub second : slice_get sl (sc.free + 1) ≡ Some (slot.Held v)
    pub third : slice_get sl (sc.free + 2) ≡ Some (slot.Held t)

  abbrev pub CountOk : ℕ → ℕ → ℤ → ℤ → ℤ → Block → (Env → Act Flow) → Type 0
  CountOk m x i limit step b run = (old : ℤ) → i ≡ old +ℤ step → (p : Pos) (sc : Scope) (base turn next brk : ℕ) (sl : List Slot) (env : Env) (w : World) (cs : List Closure) (ks : List CodeClosure)
      → HasAt s.placed turn (count_code p sc b next base turn) → HasAt code base (block_protos b (loop_scope 1 next sc) base) → Around sc x next env sl → Hidden sc (value.Int old) (value.Int limit) (value.Int step) sl
      → sc.free + (4 + block_slots b) ≤ length sl → Alike code m w cs ks
      → OwesFlow code s m sc.free sc.own (sc.free + 0) sc.captured sl (turn + 4 + block_size b + 1) brk (run env w cs)
      → Halts code (running (at_work code s (turn + 4 + block_size b) sl []) s.levels w ks) s.end

  abbrev pub each_code : Pos → Pos → Scope → Block → ℕ → ℕ → ℕ → ℕ → Placed
  each_code p q sc b k next base turn =
      (instr.Turn, p) ∷ (instr.Spread k, p) ∷ (begin_locals (sc.free + 3) k p
      ++ (block_code b (loop_scope k next sc) base (turn + 2 + k + k) (turn + 2 + k + k + block_size b + 13) ++ iterate_code sc.free turn p q))

  abbrev pub EachOk : ℕ → Pos → ℕ → ℕ → Value → Value → Value → Block → (Env → Act Flow) → Type 0
  EachOk m q x k iterator state control b run = (p : Pos) (sc : Scope) (base turn next brk : ℕ) (sl : List Slot) (env : Env) (w : World) (cs : List Closure) (ks : List CodeClosure)
      → HasAt s.placed turn (each_code p q sc b k next base turn) → HasAt code base (block_protos b (loop_scope k next sc) base) → Around sc x next env sl → Hidden sc iterator state control sl
      → sc.free + (3 + k + block_slots b) ≤ length sl → Alike code m w cs ks
      → OwesFlow code s m sc.free sc.own (sc.free + 0) sc.captured sl (turn + 2 + k + k + block_size b + 13) brk (run env w cs)
      → Halts code (running (at_work code s (turn + 2 + k + k + block_size b) sl []) s.levels w ks) s.end

  -- what is left of each loop does what it means
  pub record LoopOk (n : ℕ) (loop : Looper) : Type 0 where
    pub whiles : (m : ℕ) → m < n → (p : Pos) (e : Exp) (b : Block) → WhileOk m p e b (loop (while_again p e b))
    pub repeats : (m : ℕ) → m < n → (p : Pos) (b : Block) (e : Exp) → RepeatOk m p b e (loop (repeat_again p b e))
    pub counts : (m : ℕ) → m < n → (x : ℕ) (i limit step : ℤ) (b : Block) → CountOk m x i limit step b (loop (counting x i limit step b))
    pub eaches : (m : ℕ) → m < n → (q : Pos) (x k : ℕ) (iterator state control : Value) (b : Block) → EachOk m q x k iterator state control b (loop (iterating q x k iterator state control b))

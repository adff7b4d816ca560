-- The code of a statement does what the statement means.
use Rattle.std.proofs.Common.{◌≡◌, refl, ap, subst, sym, ◌∙◌, ℕ, zero, suc, ◌+◌, ◌≤◌, nat_eq, cond, ℤ, pos, negsuc, ◌+ℤ◌, Bool, true, false, not, List, [], ◌∷◌, ◌++◌, length, drop, slice_get, slice_set, Some, arith}
use Rattle.std.specs.Cmp.{unsigned_Decides}
use Rattle.std.specs.Map.{lookup}
use Rattle.tl_base.specs.declared.place.Pos.{Pos}
use Rattle.tl_base.specs.declared.place.ModuleKind.{ModuleKind}
use Rattle.tl_base.specs.declared.place.ModuleKind.TheVariants.{Typed, Untyped}
use Rattle.lua_tree.specs.declared.annotation.Name.{Name}
use Rattle.lua_tree.specs.declared.annotation.Typed as annotation
use Rattle.lua_tree.specs.Tree as tree
use Rattle.lua_tree.specs.Tree.{Exp, Multi, Exps, Function, Stat, Targets, Clauses, Else, Step, Block}
use Rattle.lua_tree.specs.Places.{place_of}
use Rattle.lua_values.specs.Values.{is_nil}
use Rattle.lua_values.specs.declared.value.Value.{Value}
use Rattle.lua_values.specs.declared.value.Value.TheVariants as value
use Rattle.lua_meaning.specs.World.{World, write_cell, with_cell, recorded, kind_at}
use Rattle.lua_meaning.specs.Environment.{Env, cell_of, behind, with_bound, bind}
use Rattle.lua_meaning.specs.Outcomes.{Act, Closure, Outcome, gives, raises, cut, Flow, normal, returned, broken, give, go_on, ◌>>=◌, ◌>>◌, change, either, turn, leave_block, next_turn}
use Rattle.lua_meaning.specs.Locals.{exp_locals, exps_locals, targets_locals, clauses_locals, step_locals, stat_locals, block_locals}
use Rattle.lua_meaning.specs.Operators.{is_true, runs_for}
use Rattle.lua_meaning.specs.Trees as meant
use Rattle.lua_meaning.specs.Trees.{Caller, Looper, Loop, while_again, repeat_again, counting, iterating, Spot, cell, nowhere, store, store_all, spot_of_use, declare, declare_all, adjust, first_of, bound, step_bound, first_place}
use Rattle.lua_meaning.specs.Calls.{limit}
use Rattle.lua_code.specs.declared.code.Proto.{Proto}
use Rattle.lua_code.specs.declared.code.Instr.TheVariants as instr
use Rattle.lua_code.specs.declared.frames.Slot.{Slot}
use Rattle.lua_code.specs.declared.frames.Slot.TheVariants as slot
use Rattle.lua_code.specs.declared.frames.Item.TheVariants as item
use Rattle.lua_code.specs.Configurations.{CodeClosure, caller, running, calls_at_work}
use Rattle.lua_code.specs.Instructions as row
use Rattle.lua_code.specs.Instructions.{Row, act}
use Rattle.lua_code.specs.Sizes.{exp_size, exps_size, targets_size, step_size, stat_size, clauses_size, else_size, block_size, exp_functions, exps_functions, step_functions, stat_functions, clauses_functions, block_functions, step_slots, stat_declares, block_declares, stat_slots, clauses_slots, else_slots, block_slots}
use Rattle.lua_code.specs.Generated.{Placed, one, Scope, past, taken, in_slots, declared, behind_stat, behind_block, store_instr, stores, target_count, begin_locals, exp_code, list_code, step_code, step_place, iterate_code, stat_code, clauses_code, else_code, block_code, exp_protos, exps_protos, step_protos, stat_protos, clauses_protos, else_protos, block_protos}
use Rattle.lua_code.proofs.Faithful.Lists.{HasAt, has_front, has_next, get_set, get_set_before, get_set_behind, length_set}
use Rattle.lua_code.proofs.Faithful.Lengths.{exp_length, list_length, step_length, begin_length, stat_length, clauses_length, block_length, exp_count, exps_count, step_count, stat_count, clauses_count, block_count}
use Rattle.lua_code.proofs.Faithful.Agreement.{Halts, Alike, Owes, Setting, owes_then, owes_caller, at_work, Comes, does, comes_by, moved}
use Rattle.lua_code.proofs.Faithful.Names.{Kept, kept_same, kept_set, kept_on, kept_back, Sees, sees_kept}
use Rattle.lua_code.proofs.Faithful.Expressions.{CallOk, Views, views_past, views_taken, views_kept, Pushed, Joined, exp_sim, list_sim}
use Rattle.lua_code.proofs.Faithful.Debts.{Around, CountOk, Declared, EachOk, Flows, Goes, Hidden, LoopOk, OwesFlow, RepeatOk, WhileOk, adjust_length, begin_ok, count_code, each_code, leave_flows, loop_flows, loop_scope, owes_flow_on, spot_in, spots_in, store_ok, stores_ok, then_flows, turn_at, turn_ok}

-- ---- statements

names_behind : (b : Block) (sc : Scope) → (behind_block b sc).names ≡ sc.names
names_behind tree.finish sc = refl
names_behind (tree.returns p es) sc = refl
names_behind (tree.next x b) sc = names_behind b (behind_stat x sc)

captured_behind : (b : Block) (sc : Scope) → (behind_block b sc).captured ≡ sc.captured
captured_behind tree.finish sc = refl
captured_behind (tree.returns p es) sc = refl
captured_behind (tree.next x b) sc = captured_behind b (behind_stat x sc)

free_behind : (b : Block) (sc : Scope) → (behind_block b sc).free ≡ sc.free + block_declares b
free_behind tree.finish sc = Prim.omega arith
free_behind (tree.returns p es) sc = Prim.omega arith
free_behind (tree.next x b) sc = let h : (behind_block b (behind_stat x sc)).free ≡ sc.free + stat_declares x + block_declares b = free_behind b (behind_stat x sc) in Prim.omega (arith, h)

module _ (code : List Proto) (n c : ℕ) (call : Caller) (loop : Looper) (call_ok : CallOk code n c call) (s : Setting code) (deep : calls_at_work s.levels + 1 + c ≡ limit) (loop_ok : LoopOk code s n loop) where
  target_pure : (e : Exp) (env : Env) (w : World) (cs : List Closure) → meant.eval_target call loop e env w cs ≡ gives (spot_in code s e env) w cs
  target_pure (tree.name p u t) env w cs = refl
  target_pure (tree.mark k e) env w cs = target_pure e env w cs
  target_pure e env w cs = refl

  targets_pure : (ts : Targets) (env : Env) (w : World) (cs : List Closure) → meant.eval_targets call loop ts env w cs ≡ gives (spots_in code s ts env) w cs
  targets_pure tree.no_target env w cs = refl
  targets_pure (tree.target e ts) env w cs =
      ap (λ o. go_on o (λ spot. meant.eval_targets call loop ts (behind (exp_locals e) env) >>= (λ spots. give (spot ∷ spots)))) (target_pure e env w cs)
      ∙ ap (λ o. go_on o (λ spots. give (spot_in code s e env ∷ spots))) (targets_pure ts (behind (exp_locals e) env) w cs)

  spots_count : (ts : Targets) (env : Env) → length (spots_in code s ts env) ≡ target_count ts
  spots_count tree.no_target env = refl
  spots_count (tree.target e ts) env = let h : length (spots_in code s ts (behind (exp_locals e) env)) ≡ target_count ts = spots_count ts (behind (exp_locals e) env) in Prim.omega (arith, h)

  abbrev pub StatOk : Stat → Type 0
  StatOk x = (m : ℕ) → m ≤ n → (sc : Scope) (base pc brk : ℕ) (sl : List Slot) (env : Env) (w : World) (cs : List Closure) (ks : List CodeClosure)
      → HasAt s.placed pc (stat_code x sc base pc brk) → HasAt code base (stat_protos x sc base) → Views sc env sl s.captured s.rest → sc.free + stat_slots x ≤ length sl → Alike code m w cs ks
      → OwesFlow code s m sc.free (in_slots (stat_declares x) sc.next sc.free sc.own) (sc.free + stat_declares x) sc.captured sl (pc + stat_size x) brk (meant.exec call loop x env w cs)
      → Halts code (running (at_work code s pc sl []) s.levels w ks) s.end

  abbrev pub BlockOk : Block → Type 0
  BlockOk x = (m : ℕ) → m ≤ n → (sc : Scope) (base pc brk : ℕ) (sl : List Slot) (env : Env) (w : World) (cs : List Closure) (ks : List CodeClosure)
      → HasAt s.placed pc (block_code x sc base pc brk) → HasAt code base (block_protos x sc base) → Views sc env sl s.captured s.rest → sc.free + block_slots x ≤ length sl → Alike code m w cs ks
      → OwesFlow code s m sc.free (behind_block x sc).own (behind_block x sc).free sc.captured sl (pc + block_size x) brk (meant.exec_all call loop x env w cs)
      → Halts code (running (at_work code s pc sl []) s.levels w ks) s.end

  finish_ok : BlockOk tree.finish
  finish_ok m le sc base pc brk sl env w cs ks has protos v room a debt = moved code s pc (pc + 0) sl [] w ks (Prim.omega arith) (debt ks a sl (kept_same sc.free sl) v.bound)

  returns_ok : (p : Pos) (es : Exps) → BlockOk (tree.returns p es)
  returns_ok p es m le sc base pc brk sl env w cs ks has protos v room a debt =
      let ce : Placed = list_code es p 0 sc base pc in
      let h : HasAt s.placed (pc + exps_size es) (one instr.Return p) = has_next s.placed pc (pc + exps_size es) ce (one instr.Return p) (ap (λ z. pc + z) (list_length es p 0 sc base pc)) has in
      list_sim code n c call loop call_ok s deep es m le p 0 [] refl sc base pc sl [] env w cs ks (has_front s.placed pc ce (one instr.Return p) has) protos v room a
      (owes_then code m s.levels s.end (meant.eval_all call loop es env w cs) (λ vs. give (returned vs)) (Joined code n c call loop call_ok s deep sc.free sl [] [] (pc + exps_size es)) _
      (λ vs w1 cs1 ks1 a1 k1 sl2 kept. does code s (pc + exps_size es) sl2 (item.Many vs ∷ []) w1 ks1 instr.Return p h.0 (k1 ks1 a1)) debt)

  next_ok : (x : Stat) (b : Block) → StatOk x → BlockOk b → BlockOk (tree.next x b)
  next_ok x b sim sims m le sc base pc brk sl env w cs ks has protos v room a debt =
      let sb : Scope = behind_stat x sc in
      let cx : Placed = stat_code x sc base pc brk in
      let cb : Placed = block_code b sb (base + stat_functions x) (pc + stat_size x) brk in
      let h : HasAt s.placed (pc + stat_size x) cb = has_next s.placed pc (pc + stat_size x) cx cb (ap (λ z. pc + z) (stat_length x sc base pc brk)) has in
      let pb : List Proto = block_protos b sb (base + stat_functions x) in
      let q : HasAt code (base + stat_functions x) pb = has_next code base (base + stat_functions x) (stat_protos x sc base) pb (ap (λ z. base + z) (stat_count x sc base)) protos in
      sim m le sc base pc brk sl env w cs ks (has_front s.placed pc cx cb has) (has_front code base (stat_protos x sc base) pb protos) v (Prim.omega (arith, room)) a
      (owes_then code m s.levels s.end (meant.exec call loop x env w cs) _
      (Flows code s sc.free (in_slots (stat_declares x) sc.next sc.free sc.own) (sc.free + stat_declares x) sc.captured sl (pc + stat_size x) brk)
      (Flows code s sc.free (behind_block b sb).own (behind_block b sb).free sc.captured sl (pc + (stat_size x + block_size b)) brk)
      (λ flow w1 cs1 ks1 a1 k1.
      then_flows code s m sc.free (in_slots (stat_declares x) sc.next sc.free sc.own) (behind_block b sb).own (sc.free + stat_declares x) (behind_block b sb).free sc.captured sl (pc + stat_size x) (pc + (stat_size x + block_size b)) brk
      (λ inner. meant.exec_all call loop b (behind (stat_locals x) (with_bound inner env))) flow w1 cs1 ks1 a1
      (λ inner k2 sl2 kept sees.
      let long : length sl2 ≡ length sl = kept.long in
      sims m le sb (base + stat_functions x) (pc + stat_size x) brk sl2 (behind (stat_locals x) (with_bound inner env)) w1 cs1 ks1 h q
      (record { names = v.names; next = ap (λ z. z + stat_locals x) v.next; more = v.more; bound = sees }) (Prim.omega (arith, room, long)) a1
      (owes_flow_on code s m sc.free (sc.free + stat_declares x) (behind_block b sb).own (behind_block b sb).free sc.captured sl sl2 (pc + stat_size x + block_size b) (pc + (stat_size x + block_size b)) brk brk
      (Prim.omega arith) (Prim.omega arith) refl kept (meant.exec_all call loop b (behind (stat_locals x) (with_bound inner env)) w1 cs1) k2)) k1)
      debt)

  -- where nothing is declared, the code goes on with the locals as they are
  stays : (m : ℕ) (sc : Scope) (env : Env) (sl sl2 : List Slot) (to brk : ℕ) (w : World) (cs : List Closure) (ks : List CodeClosure) → Views sc env sl s.captured s.rest → Kept sc.free sl sl2 → Alike code m w cs ks
      → OwesFlow code s m sc.free sc.own (sc.free + 0) sc.captured sl to brk (gives (normal env.bound) w cs) → Halts code (running (at_work code s to sl2 []) s.levels w ks) s.end
  stays m sc env sl sl2 to brk w cs ks v kept a debt = debt ks a sl2 kept (sees_kept sc.free (sc.free + 0) sc.own sc.captured env.bound sl sl2 s.captured (Prim.omega arith) kept v.bound)

  around_seen : (sc : Scope) (env : Env) (sl : List Slot) → Views sc env sl s.captured s.rest → (sl2 : List Slot) → Kept sc.free sl sl2 → Sees (sc.free + 0) sc.own sc.captured env.bound sl2 s.captured
  around_seen sc env sl v sl2 kept = sees_kept sc.free (sc.free + 0) sc.own sc.captured env.bound sl sl2 s.captured (Prim.omega arith) kept v.bound

  nothing_ok : (m : ℕ) (sc : Scope) (pc brk : ℕ) (sl : List Slot) (env : Env) (w : World) (cs : List Closure) (ks : List CodeClosure) → Views sc env sl s.captured s.rest → Alike code m w cs ks
      → OwesFlow code s m sc.free sc.own (sc.free + 0) sc.captured sl (pc + 0) brk (gives (normal env.bound) w cs) → Halts code (running (at_work code s pc sl []) s.levels w ks) s.end
  nothing_ok m sc pc brk sl env w cs ks v a debt = moved code s pc (pc + 0) sl [] w ks (Prim.omega arith) (stays m sc env sl sl (pc + 0) brk w cs ks v (kept_same sc.free sl) a debt)

  assign_ok : (p : Pos) (ts : Targets) (es : Exps) → StatOk (tree.assign p ts es)
  assign_ok p ts es m le sc base pc brk sl env w cs ks has protos v room a debt =
      let spots : List Spot = spots_in code s ts env in
      let sl_end : ℕ = pc + (exps_size es + 1 + targets_size ts) in
      let ce : Placed = list_code es p 0 (past (targets_locals ts) sc) base pc in
      let end : Placed = (instr.Spread (target_count ts), p) ∷ stores ts p sc in
      let h : HasAt s.placed (pc + exps_size es) end = has_next s.placed pc (pc + exps_size es) ce end (ap (λ z. pc + z) (list_length es p 0 (past (targets_locals ts) sc) base pc)) has in
      let here : OwesFlow code s m sc.free sc.own (sc.free + 0) sc.captured sl sl_end brk (go_on (meant.eval_all call loop es (behind (targets_locals ts) env) w cs) (λ vs. store_all spots (adjust (length spots) vs) >> give (normal env.bound))) =
      subst (λ o. OwesFlow code s m sc.free sc.own (sc.free + 0) sc.captured sl sl_end brk (go_on o (λ spots. meant.eval_all call loop es (behind (targets_locals ts) env) >>= (λ vs. store_all spots (adjust (length spots) vs) >> give (normal env.bound))))) (targets_pure ts env w cs) debt in
      list_sim code n c call loop call_ok s deep es m le p 0 [] refl (past (targets_locals ts) sc) base pc sl [] (behind (targets_locals ts) env) w cs ks (has_front s.placed pc ce end has) protos
      (views_past (targets_locals ts) sc env sl s.captured s.rest v) room a
      (owes_then code m s.levels s.end (meant.eval_all call loop es (behind (targets_locals ts) env) w cs) _ (Joined code n c call loop call_ok s deep sc.free sl [] [] (pc + exps_size es))
      (Flows code s sc.free sc.own (sc.free + 0) sc.captured sl sl_end brk)
      (λ vs w1 cs1 ks1 a1 k1 sl2 kept.
      does code s (pc + exps_size es) sl2 (item.Many vs ∷ []) w1 ks1 (instr.Spread (target_count ts)) p h.0
      (subst (λ z. Halts code (running (at_work code s (pc + exps_size es + 1) sl2 (row.spread (adjust z vs) [])) s.levels w1 ks1) s.end) (spots_count ts env)
      (stores_ok code s ts (adjust (length spots) vs) (adjust_length code s (length spots) vs ∙ spots_count ts env) sc env m (pc + exps_size es + 1) sl2 [] w1 cs1 ks1 p h.1 (views_kept sc env sl sl2 s.captured s.rest kept v) a1
      (owes_then code m s.levels s.end (store_all spots (adjust (length spots) vs) w1 cs1) (λ _. give (normal env.bound)) (Goes code s (pc + exps_size es + 1 + targets_size ts) sl2 []) (Flows code s sc.free sc.own (sc.free + 0) sc.captured sl sl_end brk)
      (λ x w2 cs2 ks2 a2 k2.
      moved code s (pc + exps_size es + 1 + targets_size ts) sl_end sl2 [] w2 ks2 (Prim.omega arith) (stays m sc env sl sl2 sl_end brk w2 cs2 ks2 v kept a2 k2)) k1))))
      here)

  run_ok : (p : Pos) (e : Exp) → StatOk (tree.run p e)
  run_ok p e m le sc base pc brk sl env w cs ks has protos v room a debt =
      let ce : Placed = exp_code e sc base pc in
      let h : HasAt s.placed (pc + exp_size e) (one instr.Pop p) = has_next s.placed pc (pc + exp_size e) ce (one instr.Pop p) (ap (λ z. pc + z) (exp_length e sc base pc)) has in
      exp_sim code n c call loop call_ok s deep e m le sc base pc sl [] env w cs ks (has_front s.placed pc ce (one instr.Pop p) has) protos v room a
      (owes_then code m s.levels s.end (meant.eval call loop e env w cs) (λ _. give (normal env.bound)) (Pushed code n c call loop call_ok s deep sc.free sl [] (pc + exp_size e)) (Flows code s sc.free sc.own (sc.free + 0) sc.captured sl (pc + (exp_size e + 1)) brk)
      (λ u w1 cs1 ks1 a1 k1 sl2 kept.
      does code s (pc + exp_size e) sl2 (item.One u ∷ []) w1 ks1 instr.Pop p h.0
      (moved code s (pc + exp_size e + 1) (pc + (exp_size e + 1)) sl2 [] w1 ks1 (Prim.omega arith) (stays m sc env sl sl2 (pc + (exp_size e + 1)) brk w1 cs1 ks1 v kept a1 k1))) debt)

  leave_ok : (p : Pos) → StatOk (tree.leave p)
  leave_ok p m le sc base pc brk sl env w cs ks has protos v room a debt = does code s pc sl [] w ks (instr.Jump brk) p has.0 (debt ks a sl (kept_same sc.free sl))

  scope_ok : (p : Pos) (b : Block) → BlockOk b → StatOk (tree.scope p b)
  scope_ok p b sim m le sc base pc brk sl env w cs ks has protos v room a debt =
      sim m le sc base pc brk sl env w cs ks has protos v room a
      (owes_then code m s.levels s.end (meant.exec_all call loop b env w cs) (λ flow. give (leave_block env.bound flow)) (Flows code s sc.free (behind_block b sc).own (behind_block b sc).free sc.captured sl (pc + block_size b) brk) (Flows code s sc.free sc.own (sc.free + 0) sc.captured sl (pc + block_size b) brk)
      (λ flow w1 cs1 ks1 a1 k1. leave_flows code s m sc.free (behind_block b sc).own sc.own (behind_block b sc).free (sc.free + 0) sc.captured sl (pc + block_size b) brk env.bound (around_seen sc env sl v) flow w1 cs1 ks1 a1 k1) debt)

  define_ok : (p : Pos) (e f : Exp) → StatOk (tree.define p e f)
  define_ok p e f m le sc base pc brk sl env w cs ks has protos v room a debt =
      let sf : Scope = past (exp_locals e) sc in
      let cf : Placed = exp_code f sf base pc in
      let h : HasAt s.placed (pc + exp_size f) (one (store_instr e sc) p) = has_next s.placed pc (pc + exp_size f) cf (one (store_instr e sc) p) (ap (λ z. pc + z) (exp_length f sf base pc)) has in
      let end : ℕ = pc + (exp_size f + 1) in
      let here : OwesFlow code s m sc.free sc.own (sc.free + 0) sc.captured sl end brk (go_on (meant.eval call loop f (behind (exp_locals e) env) w cs) (λ x. store (spot_in code s e env) x >> give (normal env.bound))) =
      subst (λ o. OwesFlow code s m sc.free sc.own (sc.free + 0) sc.captured sl end brk (go_on o (λ spot. meant.eval call loop f (behind (exp_locals e) env) >>= (λ x. store spot x >> give (normal env.bound))))) (target_pure e env w cs) debt in
      exp_sim code n c call loop call_ok s deep f m le sf base pc sl [] (behind (exp_locals e) env) w cs ks (has_front s.placed pc cf (one (store_instr e sc) p) has) protos (views_past (exp_locals e) sc env sl s.captured s.rest v) room a
      (owes_then code m s.levels s.end (meant.eval call loop f (behind (exp_locals e) env) w cs) _ (Pushed code n c call loop call_ok s deep sc.free sl [] (pc + exp_size f)) (Flows code s sc.free sc.own (sc.free + 0) sc.captured sl end brk)
      (λ u w1 cs1 ks1 a1 k1 sl2 kept.
      store_ok code s e u sc env m (pc + exp_size f) sl2 [] w1 cs1 ks1 p (views_kept sc env sl sl2 s.captured s.rest kept v) h.0 a1
      (owes_then code m s.levels s.end (store (spot_in code s e env) u w1 cs1) (λ _. give (normal env.bound)) (Goes code s (pc + exp_size f + 1) sl2 []) (Flows code s sc.free sc.own (sc.free + 0) sc.captured sl end brk)
      (λ x w2 cs2 ks2 a2 k2. moved code s (pc + exp_size f + 1) end sl2 [] w2 ks2 (Prim.omega arith) (stays m sc env sl sl2 end brk w2 cs2 ks2 v kept a2 k2)) k1)) here)

  declare_ok : (p : Pos) (ns : List annotation.Typed) (es : Exps) → StatOk (tree.declare p ns es)
  declare_ok p ns es m le sc base pc brk sl env w cs ks has protos v room a debt =
      let k : ℕ = length ns in
      let ce : Placed = list_code es p 0 (past k sc) base pc in
      let end : Placed = (instr.Spread k, p) ∷ begin_locals sc.free k p in
      let to : ℕ = pc + (exps_size es + 1 + k + k) in
      let h : HasAt s.placed (pc + exps_size es) end = has_next s.placed pc (pc + exps_size es) ce end (ap (λ z. pc + z) (list_length es p 0 (past k sc) base pc)) has in
      list_sim code n c call loop call_ok s deep es m le p 0 [] refl (past k sc) base pc sl [] (behind k env) w cs ks (has_front s.placed pc ce end has) protos (views_past k sc env sl s.captured s.rest v) (Prim.omega (arith, room)) a
      (owes_then code m s.levels s.end (meant.eval_all call loop es (behind k env) w cs) (λ vs. declare_all env.next (adjust k vs) env >>= (λ env1. give (normal env1.bound))) (Joined code n c call loop call_ok s deep sc.free sl [] [] (pc + exps_size es)) (Flows code s sc.free (in_slots k sc.next sc.free sc.own) (sc.free + k) sc.captured sl to brk)
      (λ vs w1 cs1 ks1 a1 k1 sl2 kept.
      let long : length sl2 ≡ length sl = kept.long in
      does code s (pc + exps_size es) sl2 (item.Many vs ∷ []) w1 ks1 (instr.Spread k) p h.0
      (begin_ok code s k vs m sc.next sc.free (pc + exps_size es + 1) sl2 [] sc.own sc.captured env w1 cs1 ks1 p h.1 (sees_kept sc.free sc.free sc.own sc.captured env.bound sl sl2 s.captured (Prim.omega arith) kept v.bound) (Prim.omega (arith, room, long)) a1
      (owes_then code m s.levels s.end (declare_all sc.next (adjust k vs) env w1 cs1) (λ env1. give (normal env1.bound)) (Declared code s sc.free (in_slots k sc.next sc.free sc.own) (sc.free + k) sc.captured sl2 env (pc + exps_size es + 1 + k + k) []) (Flows code s sc.free (in_slots k sc.next sc.free sc.own) (sc.free + k) sc.captured sl to brk)
      (λ env1 w2 cs2 ks2 a2 k2 sl3 kept3 sees same.
      moved code s (pc + exps_size es + 1 + k + k) to sl3 [] w2 ks2 (Prim.omega arith) (k2 ks2 a2 sl3 (kept_on sc.free sc.free sl sl2 sl3 (Prim.omega arith) kept kept3) sees))
      (subst (λ z. OwesFlow code s m sc.free (in_slots k sc.next sc.free sc.own) (sc.free + k) sc.captured sl to brk (go_on (declare_all z (adjust k vs) env w1 cs1) (λ env1. give (normal env1.bound)))) (sym v.next) k1)))) debt)

  same_number : (x : ℕ) → nat_eq x x ≡ true
  same_number x = (unsigned_Decides x x).1 refl

  declare_function_ok : (p : Pos) (x : Name) (f : Exp) → StatOk (tree.declare_function p x f)
  declare_function_ok p x f m le sc base pc brk sl env w cs ks has protos v room a debt =
      let sd : Scope = declared 1 sc in
      let cell : ℕ = length w.cells in
      let env1 : Env = bind env.next cell env in
      let sl2 : List Slot = slice_set sl sc.free (slot.Held value.Nil) in
      let sl3 : List Slot = slice_set sl2 sc.free (slot.Cell cell) in
      let long2 : length sl2 ≡ length sl = length_set sl sc.free (slot.Held value.Nil) in
      let long3 : length sl3 ≡ length sl2 = length_set sl2 sc.free (slot.Cell cell) in
      let kept3 : Kept sc.free sl sl3 = kept_on sc.free sc.free sl sl2 sl3 (Prim.omega arith) (kept_set sc.free sc.free sl (slot.Held value.Nil) (Prim.omega arith)) (kept_set sc.free sc.free sl2 (slot.Cell cell) (Prim.omega arith)) in
      let in_cell : slice_get sl3 sc.free ≡ Some (slot.Cell cell) = get_set sl2 sc.free (slot.Cell cell) (Prim.omega (arith, room, long2)) in
      let cf : Placed = exp_code f (past 1 sd) base (pc + 3) in
      let at3 : pc + 1 + 1 + 1 ≡ pc + 3 = Prim.omega arith in
      let h1 : HasAt s.placed (pc + 3) (cf ++ one (instr.SetCell sc.free) p) = subst (λ z. HasAt s.placed z (cf ++ one (instr.SetCell sc.free) p)) at3 has.1.1.1 in
      let h2 : HasAt s.placed (pc + 3 + exp_size f) (one (instr.SetCell sc.free) p) = has_next s.placed (pc + 3) (pc + 3 + exp_size f) cf (one (instr.SetCell sc.free) p) (ap (λ z. pc + 3 + z) (exp_length f (past 1 sd) base (pc + 3))) h1 in
      let to : ℕ = pc + (3 + exp_size f + 1) in
      let views : Views (past 1 sd) (behind 1 env1) sl3 s.captured s.rest = record {
        names = v.names;
        next = ap (λ z. z + 1) v.next;
        more = v.more;
        bound = (sym v.next, Prim.omega arith, in_cell, sees_kept sc.free (sc.free + 1) sc.own sc.captured env.bound sl sl3 s.captured (Prim.omega arith) kept3 v.bound);
      } in
      does code s pc sl [] w ks instr.Nil p has.0
      (does code s (pc + 1) sl (item.One value.Nil ∷ []) w ks (instr.SetSlot sc.free) p has.1.0
      (does code s (pc + 1 + 1) sl2 [] w ks (instr.NewCell sc.free) p has.1.1.0
      (comes_by code s _ _ (ap (λ z. row.value_in z (λ v. row.new_cell sc.free v) p (at_work code s (pc + 1 + 1) sl2 []) s.levels w ks) (get_set sl sc.free (slot.Held value.Nil) (Prim.omega (arith, room))))
      (moved code s (pc + 1 + 1 + 1) (pc + 3) sl3 [] (with_cell value.Nil w) ks at3
      (exp_sim code n c call loop call_ok s deep f m le (past 1 sd) base (pc + 3) sl3 [] (behind 1 env1) (with_cell value.Nil w) cs ks (has_front s.placed (pc + 3) cf (one (instr.SetCell sc.free) p) h1) protos views (Prim.omega (arith, room, long2, long3)) (record { few = a.few; made = a.made })
      (owes_then code m s.levels s.end (meant.eval call loop f (behind 1 env1) (with_cell value.Nil w) cs) (λ u. change (write_cell (cell_of env1 env.next) u) >> give (normal env1.bound)) (Pushed code n c call loop call_ok s deep (sc.free + 1) sl3 [] (pc + 3 + exp_size f))
      (Flows code s sc.free (in_slots 1 sc.next sc.free sc.own) (sc.free + 1) sc.captured sl to brk)
      (λ u w1 cs1 ks1 a1 k1 sl4 kept4.
      let there : slice_get sl4 sc.free ≡ Some (slot.Cell cell) = kept4.low sc.free (Prim.omega arith) ∙ in_cell in
      let cell_found : cell_of env1 env.next ≡ Some cell = ap (λ z. cond z (Some cell) (lookup (nat_eq env.next) env.bound)) (same_number env.next) in
      let k2 : OwesFlow code s m sc.free (in_slots 1 sc.next sc.free sc.own) (sc.free + 1) sc.captured sl to brk (gives (normal env1.bound) (write_cell (Some cell) u w1) cs1) =
      subst (λ z. OwesFlow code s m sc.free (in_slots 1 sc.next sc.free sc.own) (sc.free + 1) sc.captured sl to brk (gives (normal env1.bound) (write_cell z u w1) cs1)) cell_found k1 in
      does code s (pc + 3 + exp_size f) sl4 (item.One u ∷ []) w1 ks1 (instr.SetCell sc.free) p h2.0
      (comes_by code s _ _ (ap (λ z. row.cell_in z (λ c. row.write c u) p (at_work code s (pc + 3 + exp_size f) sl4 []) s.levels w1 ks1) there)
      (moved code s (pc + 3 + exp_size f + 1) to sl4 [] (write_cell (Some cell) u w1) ks1 (Prim.omega arith)
      (k2 ks1 (record { few = a1.few; made = a1.made }) sl4 (kept_on sc.free (sc.free + 1) sl sl3 sl4 (Prim.omega arith) kept3 kept4)
      (sees_kept (sc.free + 1) (sc.free + 1) (in_slots 1 sc.next sc.free sc.own) sc.captured env1.bound sl3 sl4 s.captured (Prim.omega arith) kept4 views.bound))))) debt))))))

  -- ---- choices

  abbrev ClausesOk : Clauses → Type 0
  ClausesOk cl = (m : ℕ) → m ≤ n → (p : Pos) (sc : Scope) (base pc end brk : ℕ) (sl : List Slot) (env : Env) (w : World) (cs : List Closure) (ks : List CodeClosure) (otherwise : Act Flow)
      → HasAt s.placed pc (clauses_code cl p sc base pc end brk) → HasAt code base (clauses_protos cl sc base) → Views sc env sl s.captured s.rest → sc.free + clauses_slots cl ≤ length sl → Alike code m w cs ks
      → OwesFlow code s m sc.free sc.own (sc.free + 0) sc.captured sl end brk (meant.exec_clauses call loop cl otherwise env w cs)
      → ((sl2 : List Slot) (w1 : World) (cs1 : List Closure) (ks1 : List CodeClosure) → Kept sc.free sl sl2 → Alike code m w1 cs1 ks1 → OwesFlow code s m sc.free sc.own (sc.free + 0) sc.captured sl end brk (otherwise w1 cs1)
      → Halts code (running (at_work code s (pc + clauses_size cl) sl2 []) s.levels w1 ks1) s.end)
      → Halts code (running (at_work code s pc sl []) s.levels w ks) s.end

  no_clause_ok : ClausesOk tree.no_clause
  no_clause_ok m le p sc base pc end brk sl env w cs ks otherwise has protos v room a debt k = moved code s pc (pc + 0) sl [] w ks (Prim.omega arith) (k sl w cs ks (kept_same sc.free sl) a debt)

  clause_ok : (e : Exp) (b : Block) (cl : Clauses) → BlockOk b → ClausesOk cl → ClausesOk (tree.clause e b cl)
  clause_ok e b cl sim sims m le p sc base pc end brk sl env w cs ks otherwise has protos v room a debt k =
      let sb : Scope = past (exp_locals e) sc in
      let sr : Scope = past (exp_locals e + block_locals b) sc in
      let next : ℕ = pc + exp_size e + 1 + block_size b + 1 in
      let ce : Placed = exp_code e sc base pc in
      let cb : Placed = block_code b sb (base + exp_functions e) (pc + exp_size e + 1) brk in
      let cr : Placed = clauses_code cl p sr (base + exp_functions e + block_functions b) next end brk in
      let tail : Placed = (instr.JumpIfNot next, p) ∷ (cb ++ (instr.Jump end, p) ∷ cr) in
      let h1 : HasAt s.placed (pc + exp_size e) tail = has_next s.placed pc (pc + exp_size e) ce tail (ap (λ z. pc + z) (exp_length e sc base pc)) has in
      let h2 : HasAt s.placed (pc + exp_size e + 1 + block_size b) ((instr.Jump end, p) ∷ cr) =
      has_next s.placed (pc + exp_size e + 1) (pc + exp_size e + 1 + block_size b) cb ((instr.Jump end, p) ∷ cr) (ap (λ z. pc + exp_size e + 1 + z) (block_length b sb (base + exp_functions e) (pc + exp_size e + 1) brk)) h1.1 in
      let pb : List Proto = block_protos b sb (base + exp_functions e) in
      let pr : List Proto = clauses_protos cl sr (base + exp_functions e + block_functions b) in
      let q1 : HasAt code (base + exp_functions e) (pb ++ pr) = has_next code base (base + exp_functions e) (exp_protos e sc base) (pb ++ pr) (ap (λ z. base + z) (exp_count e sc base)) protos in
      let q2 : HasAt code (base + exp_functions e + block_functions b) pr =
      has_next code (base + exp_functions e) (base + exp_functions e + block_functions b) pb pr (ap (λ z. base + exp_functions e + z) (block_count b sb (base + exp_functions e))) q1 in
      exp_sim code n c call loop call_ok s deep e m le sc base pc sl [] env w cs ks (has_front s.placed pc ce tail has) (has_front code base (exp_protos e sc base) (pb ++ pr) protos) v (Prim.omega (arith, room)) a
      (owes_then code m s.levels s.end (meant.eval call loop e env w cs) _ (Pushed code n c call loop call_ok s deep sc.free sl [] (pc + exp_size e)) (Flows code s sc.free sc.own (sc.free + 0) sc.captured sl end brk)
      (λ u w1 cs1 ks1 a1 k1 sl2 kept.
      does code s (pc + exp_size e) sl2 (item.One u ∷ []) w1 ks1 (instr.JumpIfNot next) p h1.0
      (branch (has_front s.placed (pc + exp_size e + 1) cb ((instr.Jump end, p) ∷ cr) h1.1) h2 (has_front code (base + exp_functions e) pb pr q1) q2 w1 cs1 ks1 a1 sl2 kept (is_true u) k1)) debt)
    where
      next : ℕ
      next = pc + exp_size e + 1 + block_size b + 1

      branch : HasAt s.placed (pc + exp_size e + 1) (block_code b (past (exp_locals e) sc) (base + exp_functions e) (pc + exp_size e + 1) brk)
          → HasAt s.placed (pc + exp_size e + 1 + block_size b) ((instr.Jump end, p) ∷ clauses_code cl p (past (exp_locals e + block_locals b) sc) (base + exp_functions e + block_functions b) next end brk)
          → HasAt code (base + exp_functions e) (block_protos b (past (exp_locals e) sc) (base + exp_functions e))
          → HasAt code (base + exp_functions e + block_functions b) (clauses_protos cl (past (exp_locals e + block_locals b) sc) (base + exp_functions e + block_functions b))
          → (w1 : World) (cs1 : List Closure) (ks1 : List CodeClosure) → Alike code m w1 cs1 ks1 → (sl2 : List Slot) → Kept sc.free sl sl2 → (t : Bool)
          → OwesFlow code s m sc.free sc.own (sc.free + 0) sc.captured sl end brk
          (either t (meant.exec_all call loop b (behind (exp_locals e) env) >>= (λ flow. give (leave_block env.bound flow))) (meant.exec_clauses call loop cl otherwise (behind (exp_locals e + block_locals b) env)) w1 cs1)
          → Comes code s (row.jump_where (not t) next p (at_work code s (pc + exp_size e) sl2 []) s.levels w1 ks1)
      branch hb hr qb qr w1 cs1 ks1 a1 sl2 kept true k1 =
          let sb : Scope = past (exp_locals e) sc in
          let long : length sl2 ≡ length sl = kept.long in
          sim m le sb (base + exp_functions e) (pc + exp_size e + 1) brk sl2 (behind (exp_locals e) env) w1 cs1 ks1 hb qb (views_past (exp_locals e) sc env sl2 s.captured s.rest (views_kept sc env sl sl2 s.captured s.rest kept v)) (Prim.omega (arith, room, long)) a1
          (owes_then code m s.levels s.end (meant.exec_all call loop b (behind (exp_locals e) env) w1 cs1) (λ flow. give (leave_block env.bound flow))
          (Flows code s sc.free (behind_block b sb).own (behind_block b sb).free sc.captured sl2 (pc + exp_size e + 1 + block_size b) brk) (Flows code s sc.free sc.own (sc.free + 0) sc.captured sl end brk)
          (λ flow w2 cs2 ks2 a2 k2. ended flow w2 cs2 ks2 a2 k2) k1)
        where
          ended : (flow : Flow) (w2 : World) (cs2 : List Closure) (ks2 : List CodeClosure) → Alike code m w2 cs2 ks2 → OwesFlow code s m sc.free sc.own (sc.free + 0) sc.captured sl end brk (give (leave_block env.bound flow) w2 cs2)
              → Flows code s sc.free (behind_block b (past (exp_locals e) sc)).own (behind_block b (past (exp_locals e) sc)).free sc.captured sl2 (pc + exp_size e + 1 + block_size b) brk flow w2 ks2
          ended (normal inner) w2 cs2 ks2 a2 k2 = λ sl3 kept3 _.
              does code s (pc + exp_size e + 1 + block_size b) sl3 [] w2 ks2 (instr.Jump end) p hr.0
              (stays m sc env sl sl3 end brk w2 cs2 ks2 v (kept_on sc.free sc.free sl sl2 sl3 (Prim.omega arith) kept kept3) a2 k2)
          ended broken w2 cs2 ks2 a2 k2 = λ sl3 kept3. k2 ks2 a2 sl3 (kept_on sc.free sc.free sl sl2 sl3 (Prim.omega arith) kept kept3)
          ended (returned vs) w2 cs2 ks2 a2 k2 = k2 ks2 a2
      branch hb hr qb qr w1 cs1 ks1 a1 sl2 kept false k1 =
          let sr : Scope = past (exp_locals e + block_locals b) sc in
          let long : length sl2 ≡ length sl = kept.long in
          sims m le p sr (base + exp_functions e + block_functions b) next end brk sl2 (behind (exp_locals e + block_locals b) env) w1 cs1 ks1 otherwise hr.1 qr
          (views_past (exp_locals e + block_locals b) sc env sl2 s.captured s.rest (views_kept sc env sl sl2 s.captured s.rest kept v)) (Prim.omega (arith, room, long)) a1
          (owes_flow_on code s m sc.free sc.free sc.own (sc.free + 0) sc.captured sl sl2 end end brk brk (Prim.omega arith) refl refl kept (meant.exec_clauses call loop cl otherwise (behind (exp_locals e + block_locals b) env) w1 cs1) k1)
          (λ sl3 w2 cs2 ks2 kept3 a2 debt2.
          moved code s (next + clauses_size cl) (pc + (exp_size e + 1 + block_size b + 1 + clauses_size cl)) sl3 [] w2 ks2 (Prim.omega arith)
          (k sl3 w2 cs2 ks2 (kept_on sc.free sc.free sl sl2 sl3 (Prim.omega arith) kept kept3) a2
          (owes_flow_on code s m sc.free sc.free sc.own (sc.free + 0) sc.captured sl2 sl end end brk brk (Prim.omega arith) refl refl (kept_back sc.free sl sl2 kept) (otherwise w2 cs2) debt2)))

  -- ---- loops

  while_ok : (p : Pos) (e : Exp) (b : Block) → BlockOk b → (m : ℕ) → m ≤ n → WhileOk code s m p e b (meant.exec call loop (tree.while p e b))
  while_ok p e b sim m le sc base pc brk sl env w cs ks has protos v room a debt =
      let sb : Scope = past (exp_locals e) sc in
      let end : ℕ = pc + 2 + block_size b + exp_size e + 1 in
      let to : ℕ = pc + (2 + block_size b + exp_size e + 1) in
      let cb : Placed = block_code b sb base (pc + 2) end in
      let ce : Placed = exp_code e sc (base + block_functions b) (pc + 2 + block_size b) in
      let last : Placed = one (instr.JumpIf (pc + 1)) p in
      let two : pc + 1 + 1 ≡ pc + 2 = Prim.omega arith in
      let h1 : HasAt s.placed (pc + 2) (cb ++ (ce ++ last)) = subst (λ z. HasAt s.placed z (cb ++ (ce ++ last))) two has.1.1 in
      let h2 : HasAt s.placed (pc + 2 + block_size b) (ce ++ last) = has_next s.placed (pc + 2) (pc + 2 + block_size b) cb (ce ++ last) (ap (λ z. pc + 2 + z) (block_length b sb base (pc + 2) end)) h1 in
      let h3 : HasAt s.placed (pc + 2 + block_size b + exp_size e) last = has_next s.placed (pc + 2 + block_size b) (pc + 2 + block_size b + exp_size e) ce last (ap (λ z. pc + 2 + block_size b + z) (exp_length e sc (base + block_functions b) (pc + 2 + block_size b))) h2 in
      let pe : List Proto = exp_protos e sc (base + block_functions b) in
      let q : HasAt code (base + block_functions b) pe = has_next code base (base + block_functions b) (block_protos b sb base) pe (ap (λ z. base + z) (block_count b sb base)) protos in
      exp_sim code n c call loop call_ok s deep e m le sc (base + block_functions b) (pc + 2 + block_size b) sl [] env w cs ks (has_front s.placed (pc + 2 + block_size b) ce last h2) q v (Prim.omega (arith, room)) a
      (owes_then code m s.levels s.end (meant.eval call loop e env w cs) _ (Pushed code n c call loop call_ok s deep sc.free sl [] (pc + 2 + block_size b + exp_size e)) (Flows code s sc.free sc.own (sc.free + 0) sc.captured sl to brk)
      (λ u w1 cs1 ks1 a1 k1 sl2 kept.
      does code s (pc + 2 + block_size b + exp_size e) sl2 (item.One u ∷ []) w1 ks1 (instr.JumpIf (pc + 1)) p h3.0
      (branch (has_front s.placed (pc + 2) cb (ce ++ last) h1) (has_front code base (block_protos b sb base) pe protos) w1 cs1 ks1 a1 sl2 kept (is_true u) k1)) debt)
    where
      branch : HasAt s.placed (pc + 2) (block_code b (past (exp_locals e) sc) base (pc + 2) (pc + 2 + block_size b + exp_size e + 1)) → HasAt code base (block_protos b (past (exp_locals e) sc) base)
          → (w1 : World) (cs1 : List Closure) (ks1 : List CodeClosure) → Alike code m w1 cs1 ks1 → (sl2 : List Slot) → Kept sc.free sl sl2 → (t : Bool)
          → OwesFlow code s m sc.free sc.own (sc.free + 0) sc.captured sl (pc + (2 + block_size b + exp_size e + 1)) brk
          (either t (turn >> (meant.exec_all call loop b (behind (exp_locals e) env) >>= (λ flow. next_turn env.bound flow (λ _. loop (while_again p e b) env)))) (give (normal env.bound)) w1 cs1)
          → Comes code s (row.jump_where t (pc + 1) p (at_work code s (pc + 2 + block_size b + exp_size e) sl2 []) s.levels w1 ks1)
      branch hb qb w1 cs1 ks1 a1 sl2 kept false k1 =
          moved code s (pc + 2 + block_size b + exp_size e + 1) (pc + (2 + block_size b + exp_size e + 1)) sl2 [] w1 ks1 (Prim.omega arith)
          (stays m sc env sl sl2 (pc + (2 + block_size b + exp_size e + 1)) brk w1 cs1 ks1 v kept a1 k1)
      branch hb qb w1 cs1 ks1 a1 sl2 kept true k1 =
          let sb : Scope = past (exp_locals e) sc in
          let end : ℕ = pc + 2 + block_size b + exp_size e + 1 in
          let to : ℕ = pc + (2 + block_size b + exp_size e + 1) in
          let long : length sl2 ≡ length sl = kept.long in
          turn_ok code s m (pc + 1) sl2 [] p (meant.exec_all call loop b (behind (exp_locals e) env) >>= (λ flow. next_turn env.bound flow (λ _. loop (while_again p e b) env)))
          (Flows code s sc.free sc.own (sc.free + 0) sc.captured sl to brk) w1 cs1 ks1 has.1.0 a1
          (λ l w2 less a2 k2.
          moved code s (pc + 1 + 1) (pc + 2) sl2 [] w2 ks1 (Prim.omega arith)
          (sim l (Prim.omega (arith, less, le)) sb base (pc + 2) end sl2 (behind (exp_locals e) env) w2 cs1 ks1 hb qb (views_past (exp_locals e) sc env sl2 s.captured s.rest (views_kept sc env sl sl2 s.captured s.rest kept v)) (Prim.omega (arith, room, long)) a2
          (owes_then code l s.levels s.end (meant.exec_all call loop b (behind (exp_locals e) env) w2 cs1) _ (Flows code s sc.free (behind_block b sb).own (behind_block b sb).free sc.captured sl2 (pc + 2 + block_size b) end) (Flows code s sc.free sc.own (sc.free + 0) sc.captured sl to brk)
          (λ flow w3 cs3 ks3 a3 k3.
          loop_flows code s l sc.free sc.free (behind_block b sb).own sc.own (behind_block b sb).free (sc.free + 0) sc.captured sl2 sl (pc + 2 + block_size b) to end brk env.bound (Prim.omega arith) kept (around_seen sc env sl v) (Prim.omega arith)
          (λ _. loop (while_again p e b) env) flow w3 cs3 ks3 a3
          (λ inner k4 sl3 kept3 _.
          let kept4 : Kept sc.free sl sl3 = kept_on sc.free sc.free sl sl2 sl3 (Prim.omega arith) kept kept3 in
          let long4 : length sl3 ≡ length sl = kept4.long in
          loop_ok.whiles l (Prim.omega (arith, less, le)) p e b sc base pc brk sl3 env w3 cs3 ks3 has protos (views_kept sc env sl sl3 s.captured s.rest kept4 v) (Prim.omega (arith, room, long4)) a3
          (owes_flow_on code s l sc.free sc.free sc.own (sc.free + 0) sc.captured sl sl3 to to brk brk (Prim.omega arith) refl refl kept4 (loop (while_again p e b) env w3 cs3) k4)) k3) k2))) k1

  repeat_ok : (p : Pos) (b : Block) (e : Exp) → BlockOk b → (m : ℕ) → m ≤ n → RepeatOk code s m p b e (meant.exec call loop (tree.repeat p b e))
  repeat_ok p b e sim m le sc base pc brk sl env w cs ks has protos v room a debt =
      let se : Scope = record (behind_block b sc) { next = sc.next + block_locals b } in
      let end : ℕ = pc + 1 + block_size b + exp_size e + 1 in
      let to : ℕ = pc + (1 + block_size b + exp_size e + 1) in
      let cb : Placed = block_code b sc base (pc + 1) end in
      let ce : Placed = exp_code e se (base + block_functions b) (pc + 1 + block_size b) in
      let last : Placed = one (instr.JumpIfNot pc) p in
      let h2 : HasAt s.placed (pc + 1 + block_size b) (ce ++ last) = has_next s.placed (pc + 1) (pc + 1 + block_size b) cb (ce ++ last) (ap (λ z. pc + 1 + z) (block_length b sc base (pc + 1) end)) has.1 in
      let h3 : HasAt s.placed (pc + 1 + block_size b + exp_size e) last = has_next s.placed (pc + 1 + block_size b) (pc + 1 + block_size b + exp_size e) ce last (ap (λ z. pc + 1 + block_size b + z) (exp_length e se (base + block_functions b) (pc + 1 + block_size b))) h2 in
      let pe : List Proto = exp_protos e se (base + block_functions b) in
      let q : HasAt code (base + block_functions b) pe = has_next code base (base + block_functions b) (block_protos b sc base) pe (ap (λ z. base + z) (block_count b sc base)) protos in
      let same_free : (behind_block b sc).free ≡ sc.free + block_declares b = free_behind b sc in
      turn_ok code s m pc sl [] p _ (Flows code s sc.free sc.own (sc.free + 0) sc.captured sl to brk) w cs ks has.0 a
      (λ l w2 less a2 k2.
      sim l (Prim.omega (arith, less, le)) sc base (pc + 1) end sl env w2 cs ks (has_front s.placed (pc + 1) cb (ce ++ last) has.1) (has_front code base (block_protos b sc base) pe protos) v (Prim.omega (arith, room)) a2
      (owes_then code l s.levels s.end (meant.exec_all call loop b env w2 cs) _ (Flows code s sc.free (behind_block b sc).own (behind_block b sc).free sc.captured sl (pc + 1 + block_size b) end) (Flows code s sc.free sc.own (sc.free + 0) sc.captured sl to brk)
      (λ flow w3 cs3 ks3 a3 k3.
      loop_flows code s l sc.free sc.free (behind_block b sc).own sc.own (behind_block b sc).free (sc.free + 0) sc.captured sl sl (pc + 1 + block_size b) to end brk env.bound (Prim.omega arith) (kept_same sc.free sl) (around_seen sc env sl v) (Prim.omega arith)
      _ flow w3 cs3 ks3 a3
      (λ inner k4 sl3 kept3 sees.
      let long3 : length sl3 ≡ length sl = kept3.long in
      let env2 : Env = behind (block_locals b) (with_bound inner env) in
      exp_sim code n c call loop call_ok s deep e l (Prim.omega (arith, less, le)) se (base + block_functions b) (pc + 1 + block_size b) sl3 [] env2 w3 cs3 ks3 (has_front s.placed (pc + 1 + block_size b) ce last h2) q
      (record { names = names_behind b sc ∙ v.names; next = ap (λ z. z + block_locals b) v.next; more = v.more; bound = subst (λ z. Sees (behind_block b sc).free (behind_block b sc).own z inner sl3 s.captured) (sym (captured_behind b sc)) sees })
      (Prim.omega (arith, room, long3, same_free)) a3
      (owes_then code l s.levels s.end (meant.eval call loop e env2 w3 cs3) _ (Pushed code n c call loop call_ok s deep (behind_block b sc).free sl3 [] (pc + 1 + block_size b + exp_size e)) (Flows code s sc.free sc.own (sc.free + 0) sc.captured sl to brk)
      (λ u w4 cs4 ks4 a4 k5 sl4 kept4.
      let kept5 : Kept sc.free sl sl4 = kept_on sc.free (behind_block b sc).free sl sl3 sl4 (Prim.omega (arith, same_free)) kept3 kept4 in
      does code s (pc + 1 + block_size b + exp_size e) sl4 (item.One u ∷ []) w4 ks4 (instr.JumpIfNot pc) p h3.0
      (branch l less w4 cs4 ks4 a4 sl4 kept5 (is_true u) k5)) k4)) k3) k2)) debt
    where
      branch : (l : ℕ) → suc l ≤ m → (w1 : World) (cs1 : List Closure) (ks1 : List CodeClosure) → Alike code l w1 cs1 ks1 → (sl2 : List Slot) → Kept sc.free sl sl2 → (t : Bool)
          → OwesFlow code s l sc.free sc.own (sc.free + 0) sc.captured sl (pc + (1 + block_size b + exp_size e + 1)) brk (either t (give (normal env.bound)) (loop (repeat_again p b e) env) w1 cs1)
          → Comes code s (row.jump_where (not t) pc p (at_work code s (pc + 1 + block_size b + exp_size e) sl2 []) s.levels w1 ks1)
      branch l less w1 cs1 ks1 a1 sl2 kept true k1 =
          moved code s (pc + 1 + block_size b + exp_size e + 1) (pc + (1 + block_size b + exp_size e + 1)) sl2 [] w1 ks1 (Prim.omega arith)
          (stays l sc env sl sl2 (pc + (1 + block_size b + exp_size e + 1)) brk w1 cs1 ks1 v kept a1 k1)
      branch l less w1 cs1 ks1 a1 sl2 kept false k1 =
          let long : length sl2 ≡ length sl = kept.long in
          loop_ok.repeats l (Prim.omega (arith, less, le)) p b e sc base pc brk sl2 env w1 cs1 ks1 has protos (views_kept sc env sl sl2 s.captured s.rest kept v) (Prim.omega (arith, room, long)) a1
          (owes_flow_on code s l sc.free sc.free sc.own (sc.free + 0) sc.captured sl sl2 (pc + (1 + block_size b + exp_size e + 1)) (pc + (1 + block_size b + exp_size e + 1)) brk brk (Prim.omega arith) refl refl kept (loop (repeat_again p b e) env w1 cs1) k1)

  -- ---- the numeric `for`

  hidden_row : (next : ℤ → ℤ → ℤ → Row) (u v t : Value) (sc : Scope) (p : Pos) (pc : ℕ) (sl : List Slot) (w : World) (ks : List CodeClosure) → Hidden code s sc u v t sl
      → row.loop_slots sc.free next p (at_work code s pc sl []) s.levels w ks ≡ row.bounds u v t next p (at_work code s pc sl []) s.levels w ks
  hidden_row next u v t sc p pc sl w ks h =
      ap (λ z. row.value_in z (λ u. row.from_slot (sc.free + 1) (λ v. row.from_slot (sc.free + 2) (λ x. row.bounds u v x next))) p (at_work code s pc sl []) s.levels w ks) h.first
      ∙ ap (λ z. row.value_in z (λ v. row.from_slot (sc.free + 2) (λ x. row.bounds u v x next)) p (at_work code s pc sl []) s.levels w ks) h.second
      ∙ ap (λ z. row.value_in z (λ x. row.bounds u v x next) p (at_work code s pc sl []) s.levels w ks) h.third

  around_on : (sc : Scope) (x next : ℕ) (env : Env) (sl sl2 : List Slot) → Kept sc.free sl sl2 → Around code s sc x next env sl → Around code s sc x next env sl2
  around_on sc x next env sl sl2 kept r =
      record { names = r.names; number = r.number; after = r.after; more = r.more; bound = sees_kept sc.free sc.free sc.own sc.captured env.bound sl sl2 s.captured (Prim.omega arith) kept r.bound }

  count_turn : (x : ℕ) (i limit step : ℤ) (b : Block) → BlockOk b → (m : ℕ) → m ≤ n → (p : Pos) (sc : Scope) (base turn_at next brk : ℕ) (sl : List Slot) (env : Env) (w : World) (cs : List Closure) (ks : List CodeClosure)
      → HasAt s.placed turn_at (count_code code s p sc b next base turn_at) → HasAt code base (block_protos b (loop_scope code s 1 next sc) base) → Around code s sc x next env sl → Hidden code s sc (value.Int i) (value.Int limit) (value.Int step) sl
      → sc.free + (4 + block_slots b) ≤ length sl → Alike code m w cs ks
      → OwesFlow code s m sc.free sc.own (sc.free + 0) sc.captured sl (turn_at + 4 + block_size b + 1) brk
      ((turn >> (declare x (value.Int i) env >>= (λ env1. meant.exec_all call loop b env1 >>= (λ flow. next_turn env.bound flow (λ _. loop (counting x (i +ℤ step) limit step b) env))))) w cs)
      → Halts code (running (at_work code s turn_at sl []) s.levels w ks) s.end
  count_turn x i limit step b sim m le p sc base turn_at next brk sl env w cs ks has protos around hidden room a debt =
      let f3 : ℕ = sc.free + 3 in
      let sb : Scope = loop_scope code s 1 next sc in
      let to : ℕ = turn_at + 4 + block_size b + 1 in
      let cb : Placed = block_code b sb base (turn_at + 4) to in
      let last : Placed = one (instr.ForStep sc.free turn_at) p in
      let four : turn_at + 1 + 1 + 1 + 1 ≡ turn_at + 4 = Prim.omega arith in
      let h1 : HasAt s.placed (turn_at + 4) (cb ++ last) = subst (λ z. HasAt s.placed z (cb ++ last)) four has.1.1.1.1 in
      let sl1 : List Slot = slice_set sl f3 (slot.Held (value.Int i)) in
      let long1 : length sl1 ≡ length sl = length_set sl f3 (slot.Held (value.Int i)) in
      turn_ok code s m turn_at sl [] p (declare x (value.Int i) env >>= (λ env1. meant.exec_all call loop b env1 >>= (λ flow. next_turn env.bound flow (λ _. loop (counting x (i +ℤ step) limit step b) env))))
      (Flows code s sc.free sc.own (sc.free + 0) sc.captured sl to brk) w cs ks has.0 a
      (λ l w2 less a2 k2.
      let cell : ℕ = length w2.cells in
      let sl2 : List Slot = slice_set sl1 f3 (slot.Cell cell) in
      let env1 : Env = bind x cell env in
      let w3 : World = with_cell (value.Int i) w2 in
      let long2 : length sl2 ≡ length sl1 = length_set sl1 f3 (slot.Cell cell) in
      let kept : Kept f3 sl sl2 = kept_on f3 f3 sl sl1 sl2 (Prim.omega arith) (kept_set f3 f3 sl (slot.Held (value.Int i)) (Prim.omega arith)) (kept_set f3 f3 sl1 (slot.Cell cell) (Prim.omega arith)) in
      let kept0 : Kept sc.free sl sl2 = record { long = kept.long; low = λ j h. kept.low j (Prim.omega (arith, h)) } in
      does code s (turn_at + 1) sl [] w2 ks (instr.GetSlot sc.free) p has.1.0
      (comes_by code s _ _ (ap (λ z. row.value_in z (λ v. row.push_value v) p (at_work code s (turn_at + 1) sl []) s.levels w2 ks) hidden.first)
      (does code s (turn_at + 1 + 1) sl (item.One (value.Int i) ∷ []) w2 ks (instr.SetSlot f3) p has.1.1.0
      (does code s (turn_at + 1 + 1 + 1) sl1 [] w2 ks (instr.NewCell f3) p has.1.1.1.0
      (comes_by code s _ _ (ap (λ z. row.value_in z (λ v. row.new_cell f3 v) p (at_work code s (turn_at + 1 + 1 + 1) sl1 []) s.levels w2 ks) (get_set sl f3 (slot.Held (value.Int i)) (Prim.omega (arith, room))))
      (moved code s (turn_at + 1 + 1 + 1 + 1) (turn_at + 4) sl2 [] w3 ks four
      (sim l (Prim.omega (arith, less, le)) sb base (turn_at + 4) to sl2 env1 w3 cs ks (has_front s.placed (turn_at + 4) cb last h1) protos
      (record {
        names = around.names;
        next = around.after;
        more = around.more;
        bound = (around.number, Prim.omega arith, get_set sl1 f3 (slot.Cell cell) (Prim.omega (arith, room, long1)), sees_kept sc.free (sc.free + 3 + 1) sc.own sc.captured env.bound sl sl2 s.captured (Prim.omega arith) kept0 around.bound);
      })
      (Prim.omega (arith, room, long1, long2)) (record { few = a2.few; made = a2.made })
      (owes_then code l s.levels s.end (meant.exec_all call loop b env1 w3 cs) (λ flow. next_turn env.bound flow (λ _. loop (counting x (i +ℤ step) limit step b) env))
      (Flows code s (sc.free + 3 + 1) (behind_block b sb).own (behind_block b sb).free sc.captured sl2 (turn_at + 4 + block_size b) to) (Flows code s sc.free sc.own (sc.free + 0) sc.captured sl to brk)
      (λ flow w4 cs4 ks4 a4 k4.
      loop_flows code s l (sc.free + 3 + 1) sc.free (behind_block b sb).own sc.own (behind_block b sb).free (sc.free + 0) sc.captured sl2 sl (turn_at + 4 + block_size b) to to brk env.bound (Prim.omega arith) kept0
      (λ sl3 kept3. sees_kept sc.free (sc.free + 0) sc.own sc.captured env.bound sl sl3 s.captured (Prim.omega arith) kept3 around.bound) refl
      (λ _. loop (counting x (i +ℤ step) limit step b) env) flow w4 cs4 ks4 a4
      (λ inner k5 sl3 kept3 _.
      let kept4 : Kept sc.free sl sl3 = kept_on sc.free (sc.free + 3 + 1) sl sl2 sl3 (Prim.omega arith) kept0 kept3 in
      let long4 : length sl3 ≡ length sl = kept4.long in
      loop_ok.counts l (Prim.omega (arith, less, le)) x (i +ℤ step) limit step b i refl p sc base turn_at next brk sl3 env w4 cs4 ks4 has protos (around_on sc x next env sl sl3 kept4 around)
      (record {
        first = kept3.low sc.free (Prim.omega arith) ∙ kept.low sc.free (Prim.omega arith) ∙ hidden.first;
        second = kept3.low (sc.free + 1) (Prim.omega arith) ∙ kept.low (sc.free + 1) (Prim.omega arith) ∙ hidden.second;
        third = kept3.low (sc.free + 2) (Prim.omega arith) ∙ kept.low (sc.free + 2) (Prim.omega arith) ∙ hidden.third;
      })
      (Prim.omega (arith, room, long4)) a4
      (owes_flow_on code s l sc.free sc.free sc.own (sc.free + 0) sc.captured sl sl3 to to brk brk (Prim.omega arith) refl refl kept4 (loop (counting x (i +ℤ step) limit step b) env w4 cs4) k5)) k4) k2)))))))) debt

  count_ok : (x : ℕ) (i limit step : ℤ) (b : Block) → BlockOk b → (m : ℕ) → m ≤ n → CountOk code s m x i limit step b (λ env. meant.count_from call loop (λ env1. meant.exec_all call loop b env1) x i limit step b env)
  count_ok x i limit step b sim m le old sum p sc base turn_at next brk sl env w cs ks has protos around hidden room a debt =
      let sb : Scope = loop_scope code s 1 next sc in
      let to : ℕ = turn_at + 4 + block_size b + 1 in
      let cb : Placed = block_code b sb base (turn_at + 4) to in
      let last : Placed = one (instr.ForStep sc.free turn_at) p in
      let four : turn_at + 1 + 1 + 1 + 1 ≡ turn_at + 4 = Prim.omega arith in
      let h1 : HasAt s.placed (turn_at + 4) (cb ++ last) = subst (λ z. HasAt s.placed z (cb ++ last)) four has.1.1.1.1 in
      let h2 : HasAt s.placed (turn_at + 4 + block_size b) last = has_next s.placed (turn_at + 4) (turn_at + 4 + block_size b) cb last (ap (λ z. turn_at + 4 + z) (block_length b sb base (turn_at + 4) to)) h1 in
      does code s (turn_at + 4 + block_size b) sl [] w ks (instr.ForStep sc.free turn_at) p h2.0
      (comes_by code s _ _ (hidden_row (λ k limit step. row.step_loop sc.free turn_at k limit step) (value.Int old) (value.Int limit) (value.Int step) sc p (turn_at + 4 + block_size b) sl w ks hidden)
      (subst (λ z. Comes code s (row.step_where (runs_for step limit z) sc.free turn_at z p (at_work code s (turn_at + 4 + block_size b) sl []) s.levels w ks)) sum
      (branch (runs_for step limit i) debt)))
    where
      branch : (t : Bool) → OwesFlow code s m sc.free sc.own (sc.free + 0) sc.captured sl (turn_at + 4 + block_size b + 1) brk
          (either t (turn >> (declare x (value.Int i) env >>= (λ env1. meant.exec_all call loop b env1 >>= (λ flow. next_turn env.bound flow (λ _. loop (counting x (i +ℤ step) limit step b) env))))) (give (normal env.bound)) w cs)
          → Comes code s (row.step_where t sc.free turn_at i p (at_work code s (turn_at + 4 + block_size b) sl []) s.levels w ks)
      branch false k = k ks a sl (kept_same sc.free sl) (sees_kept sc.free (sc.free + 0) sc.own sc.captured env.bound sl sl s.captured (Prim.omega arith) (kept_same sc.free sl) around.bound)
      branch true k =
          let sl2 : List Slot = slice_set sl sc.free (slot.Held (value.Int i)) in
          let kept : Kept sc.free sl sl2 = kept_set sc.free sc.free sl (slot.Held (value.Int i)) (Prim.omega arith) in
          let long : length sl2 ≡ length sl = kept.long in
          count_turn x i limit step b sim m le p sc base turn_at next brk sl2 env w cs ks has protos (around_on sc x next env sl sl2 kept around)
          (record {
            first = get_set sl sc.free (slot.Held (value.Int i)) (Prim.omega (arith, room));
            second = get_set_behind sl sc.free (sc.free + 1) (slot.Held (value.Int i)) (Prim.omega arith) ∙ hidden.second;
            third = get_set_behind sl sc.free (sc.free + 2) (slot.Held (value.Int i)) (Prim.omega arith) ∙ hidden.third;
          })
          (Prim.omega (arith, room, long)) a
          (owes_flow_on code s m sc.free sc.free sc.own (sc.free + 0) sc.captured sl sl2 (turn_at + 4 + block_size b + 1) (turn_at + 4 + block_size b + 1) brk brk (Prim.omega arith) refl refl kept _ k)

  recorded_alike : (k : ModuleKind) (p : Pos) (m : ℕ) (w : World) (cs : List Closure) (ks : List CodeClosure) → Alike code m w cs ks → Alike code m (recorded k p w) cs ks
  recorded_alike Typed p m w cs ks a = record { few = a.few; made = a.made }
  recorded_alike Untyped p m w cs ks a = a

  bound_ok : (u : Value) (m pc : ℕ) (sl : List Slot) (p : Pos) (next : ℤ → Act Flow) (K : Flow → World → List CodeClosure → Type 0) (w : World) (cs : List Closure) (ks : List CodeClosure) → Alike code m w cs ks
      → ((i : ℤ) → Owes code m s.levels s.end K (next i w cs) → Halts code (running (at_work code s (pc + 1) sl (item.One (value.Int i) ∷ [])) s.levels w ks) s.end)
      → Owes code m s.levels s.end K (go_on (bound p u w cs) next) → Comes code s (row.bound u p (at_work code s pc sl []) s.levels w ks)
  bound_ok (value.Int i) m pc sl p next K w cs ks a f debt = f i debt
  bound_ok value.Nil m pc sl p next K w cs ks a f debt = debt ks (recorded_alike (kind_at w p) p m w cs ks a)
  bound_ok (value.Bool b) m pc sl p next K w cs ks a f debt = debt ks (recorded_alike (kind_at w p) p m w cs ks a)
  bound_ok (value.Str t) m pc sl p next K w cs ks a f debt = debt ks (recorded_alike (kind_at w p) p m w cs ks a)
  bound_ok (value.Table t) m pc sl p next K w cs ks a f debt = debt ks (recorded_alike (kind_at w p) p m w cs ks a)
  bound_ok (value.Closure t) m pc sl p next K w cs ks a f debt = debt ks (recorded_alike (kind_at w p) p m w cs ks a)
  bound_ok (value.Builtin t) m pc sl p next K w cs ks a f debt = debt ks (recorded_alike (kind_at w p) p m w cs ks a)

  -- the code of a step, whose test for 0 waits for the loop's beginning
  step_ok : (e : Step) (m : ℕ) → m ≤ n → (p : Pos) (sc : Scope) (base pc : ℕ) (sl : List Slot) (env : Env) (next : ℤ → Act Flow) (K : Flow → World → List CodeClosure → Type 0) (w : World) (cs : List Closure) (ks : List CodeClosure)
      → HasAt s.placed pc (step_code e p sc base pc) → HasAt code base (step_protos e sc base) → Views sc env sl s.captured s.rest → sc.free + step_slots e ≤ length sl → Alike code m w cs ks
      → ((i : ℤ) (sl2 : List Slot) (w1 : World) (cs1 : List Closure) (ks1 : List CodeClosure) → Kept sc.free sl sl2 → Alike code m w1 cs1 ks1 → Owes code m s.levels s.end K (go_on (step_bound (step_place e p) i w1 cs1) next)
      → Halts code (running (at_work code s (pc + step_size e) sl2 (item.One (value.Int i) ∷ [])) s.levels w1 ks1) s.end)
      → Owes code m s.levels s.end K (go_on (meant.eval_step call loop e env w cs) next) → Halts code (running (at_work code s pc sl []) s.levels w ks) s.end
  step_ok tree.no_step m le p sc base pc sl env next K w cs ks has protos v room a f debt =
      does code s pc sl [] w ks (instr.Int (pos 1)) p has.0 (f (pos 1) sl w cs ks (kept_same sc.free sl) a debt)
  step_ok (tree.step e) m le p sc base pc sl env next K w cs ks has protos v room a f debt =
      let ce : Placed = exp_code e sc base pc in
      let h : HasAt s.placed (pc + exp_size e) (one instr.Bound (place_of e)) = has_next s.placed pc (pc + exp_size e) ce (one instr.Bound (place_of e)) (ap (λ z. pc + z) (exp_length e sc base pc)) has in
      exp_sim code n c call loop call_ok s deep e m le sc base pc sl [] env w cs ks (has_front s.placed pc ce (one instr.Bound (place_of e)) has) protos v room a
      (owes_then code m s.levels s.end (meant.eval call loop e env w cs) (λ u. bound (place_of e) u >>= (λ k. step_bound (place_of e) k >>= next)) (Pushed code n c call loop call_ok s deep sc.free sl [] (pc + exp_size e)) K
      (λ u w1 cs1 ks1 a1 k1 sl2 kept.
      does code s (pc + exp_size e) sl2 (item.One u ∷ []) w1 ks1 instr.Bound (place_of e) h.0
      (bound_ok u m (pc + exp_size e) sl2 (place_of e) (λ k. step_bound (place_of e) k >>= next) K w1 cs1 ks1 a1
      (λ i k2. moved code s (pc + exp_size e + 1) (pc + (exp_size e + 1)) sl2 (item.One (value.Int i) ∷ []) w1 ks1 (Prim.omega arith) (f i sl2 w1 cs1 ks1 kept a1 k2)) k1))
      (regroup (meant.eval call loop e env w cs) debt))
    where
      -- what is done after another part, and then a third
      regroup : (o : Outcome Value) → Owes code m s.levels s.end K (go_on (go_on o (λ u. bound (place_of e) u >>= (λ k. step_bound (place_of e) k))) next)
          → Owes code m s.levels s.end K (go_on o (λ u. bound (place_of e) u >>= (λ k. step_bound (place_of e) k >>= next)))
      regroup (gives u w1 cs1) d = inner (bound (place_of e) u w1 cs1) d
        where
          inner : (o : Outcome ℤ) → Owes code m s.levels s.end K (go_on (go_on o (λ k. step_bound (place_of e) k)) next) → Owes code m s.levels s.end K (go_on o (λ k. step_bound (place_of e) k >>= next))
          inner (gives k w2 cs2) d2 = d2
          inner (raises x w2 cs2) d2 = d2
          inner (cut w2) d2 = d2
      regroup (raises x w1 cs1) d = d
      regroup (cut w1) d = d

  prep_ok : (x : ℕ) (i limit step : ℤ) (b : Block) → BlockOk b → (m : ℕ) → m ≤ n → (p q : Pos) (sc : Scope) (base pc turn_at next brk : ℕ) (sl : List Slot) (env : Env) (w : World) (cs : List Closure) (ks : List CodeClosure)
      → pc + 1 ≡ turn_at → HasAt s.placed turn_at (count_code code s p sc b next base turn_at) → HasAt code base (block_protos b (loop_scope code s 1 next sc) base) → Around code s sc x next env sl → Hidden code s sc (value.Int i) (value.Int limit) (value.Int step) sl
      → sc.free + (4 + block_slots b) ≤ length sl → Alike code m w cs ks
      → OwesFlow code s m sc.free sc.own (sc.free + 0) sc.captured sl (turn_at + 4 + block_size b + 1) brk (go_on (step_bound q step w cs) (λ step. meant.count_from call loop (λ env1. meant.exec_all call loop b env1) x i limit step b env))
      → Comes code s (row.begin_loop (turn_at + 4 + block_size b + 1) i limit step q (at_work code s pc sl []) s.levels w ks)
  prep_ok x i limit step b sim m le p q sc base pc turn_at next brk sl env w cs ks here has protos around hidden room a debt = by_step step hidden debt
    where
      branch : (step : ℤ) → Hidden code s sc (value.Int i) (value.Int limit) (value.Int step) sl → (t : Bool) → OwesFlow code s m sc.free sc.own (sc.free + 0) sc.captured sl (turn_at + 4 + block_size b + 1) brk
          (either t (turn >> (declare x (value.Int i) env >>= (λ env1. meant.exec_all call loop b env1 >>= (λ flow. next_turn env.bound flow (λ _. loop (counting x (i +ℤ step) limit step b) env))))) (give (normal env.bound)) w cs)
          → Comes code s (row.jump_where (not t) (turn_at + 4 + block_size b + 1) q (at_work code s pc sl []) s.levels w ks)
      branch step hidden true k = moved code s (pc + 1) turn_at sl [] w ks here (count_turn x i limit step b sim m le p sc base turn_at next brk sl env w cs ks has protos around hidden room a k)
      branch step hidden false k = k ks a sl (kept_same sc.free sl) (sees_kept sc.free (sc.free + 0) sc.own sc.captured env.bound sl sl s.captured (Prim.omega arith) (kept_same sc.free sl) around.bound)

      by_step : (step : ℤ) → Hidden code s sc (value.Int i) (value.Int limit) (value.Int step) sl
          → OwesFlow code s m sc.free sc.own (sc.free + 0) sc.captured sl (turn_at + 4 + block_size b + 1) brk (go_on (step_bound q step w cs) (λ step. meant.count_from call loop (λ env1. meant.exec_all call loop b env1) x i limit step b env))
          → Comes code s (row.begin_loop (turn_at + 4 + block_size b + 1) i limit step q (at_work code s pc sl []) s.levels w ks)
      by_step (pos zero) hidden k = k ks a
      by_step (pos (suc z)) hidden k = branch (pos (suc z)) hidden (runs_for (pos (suc z)) limit i) k
      by_step (negsuc z) hidden k = branch (negsuc z) hidden (runs_for (negsuc z) limit i) k

  count_stat_ok : (p : Pos) (y : Name) (x z : Exp) (e : Step) (b : Block) → BlockOk b → StatOk (tree.count p y x z e b)
  count_stat_ok p y x z e b sim m le sc base pc brk sl env w cs ks has protos v room a debt =
      let free : ℕ = sc.free in
      let first : ℕ = pc + exp_size x + 2 in
      let second : ℕ = first + exp_size z + 2 in
      let turn_at : ℕ = second + step_size e + 2 in
      let behind_it : ℕ = turn_at + 4 + block_size b + 1 in
      let to : ℕ = pc + (exp_size x + 2 + exp_size z + 2 + step_size e + 6 + block_size b + 1) in
      let next : ℕ = sc.next + (1 + exp_locals x + exp_locals z + step_locals e) in
      let sz : Scope = taken 1 (past (1 + exp_locals x) sc) in
      let se : Scope = taken 2 (past (1 + exp_locals x + exp_locals z) sc) in
      let base_z : ℕ = base + exp_functions x in
      let base_e : ℕ = base + exp_functions x + exp_functions z in
      let base_b : ℕ = base + exp_functions x + exp_functions z + step_functions e in
      let cx : Placed = exp_code x (past 1 sc) base pc in
      let cz : Placed = exp_code z sz base_z first in
      let ce : Placed = step_code e p se base_e second in
      let r3 : Placed = (instr.SetSlot (free + 2), p) ∷ (instr.ForPrep free behind_it, step_place e p) ∷ count_code code s p sc b next base_b turn_at in
      let r2 : Placed = (instr.Bound, place_of z) ∷ (instr.SetSlot (free + 1), p) ∷ (ce ++ r3) in
      let r1 : Placed = (instr.Bound, place_of x) ∷ (instr.SetSlot free, p) ∷ (cz ++ r2) in
      let h1 : HasAt s.placed (pc + exp_size x) r1 = has_next s.placed pc (pc + exp_size x) cx r1 (ap (λ k. pc + k) (exp_length x (past 1 sc) base pc)) has in
      let at1 : pc + exp_size x + 1 + 1 ≡ first = Prim.omega arith in
      let g2 : HasAt s.placed first (cz ++ r2) = subst (λ k. HasAt s.placed k (cz ++ r2)) at1 h1.1.1 in
      let h2 : HasAt s.placed (first + exp_size z) r2 = has_next s.placed first (first + exp_size z) cz r2 (ap (λ k. first + k) (exp_length z sz base_z first)) g2 in
      let at2 : first + exp_size z + 1 + 1 ≡ second = Prim.omega arith in
      let g3 : HasAt s.placed second (ce ++ r3) = subst (λ k. HasAt s.placed k (ce ++ r3)) at2 h2.1.1 in
      let h3 : HasAt s.placed (second + step_size e) r3 = has_next s.placed second (second + step_size e) ce r3 (ap (λ k. second + k) (step_length e p se base_e second)) g3 in
      let at3 : second + step_size e + 1 + 1 ≡ turn_at = Prim.omega arith in
      let g4 : HasAt s.placed turn_at (count_code code s p sc b next base_b turn_at) = subst (λ k. HasAt s.placed k (count_code code s p sc b next base_b turn_at)) at3 h3.1.1 in
      let px : List Proto = exp_protos x (past 1 sc) base in
      let pz : List Proto = exp_protos z sz base_z in
      let pe : List Proto = step_protos e se base_e in
      let pb : List Proto = block_protos b (loop_scope code s 1 next sc) base_b in
      let q1 : HasAt code base_z (pz ++ (pe ++ pb)) = has_next code base base_z px (pz ++ (pe ++ pb)) (ap (λ k. base + k) (exp_count x (past 1 sc) base)) protos in
      let q2 : HasAt code base_e (pe ++ pb) = has_next code base_z base_e pz (pe ++ pb) (ap (λ k. base_z + k) (exp_count z sz base_z)) q1 in
      let q3 : HasAt code base_b pb = has_next code base_e base_b pe pb (ap (λ k. base_e + k) (step_count e se base_e)) q2 in
      let env_z : Env = behind (1 + exp_locals x) env in
      let env_e : Env = behind (1 + exp_locals x + exp_locals z) env in
      let env_b : Env = behind (1 + exp_locals x + exp_locals z + step_locals e) env in
      let K : Flow → World → List CodeClosure → Type 0 = Flows code s free sc.own (free + 0) sc.captured sl to brk in
      let last_act : ℤ → ℤ → ℤ → Act Flow = λ i limit step. meant.count_from call loop (λ env1. meant.exec_all call loop b env1) env.next i limit step b env_b in
      exp_sim code n c call loop call_ok s deep x m le (past 1 sc) base pc sl [] (behind 1 env) w cs ks (has_front s.placed pc cx r1 has) (has_front code base px (pz ++ (pe ++ pb)) protos) (views_past 1 sc env sl s.captured s.rest v) (Prim.omega (arith, room)) a
      (owes_then code m s.levels s.end (meant.eval call loop x (behind 1 env) w cs) _ (Pushed code n c call loop call_ok s deep free sl [] (pc + exp_size x)) K
      (λ u w1 cs1 ks1 a1 k1 sl1 kept1.
      does code s (pc + exp_size x) sl1 (item.One u ∷ []) w1 ks1 instr.Bound (place_of x) h1.0
      (bound_ok u m (pc + exp_size x) sl1 (place_of x) (λ i. meant.eval call loop z env_z >>= (λ t. bound (place_of z) t >>= (λ limit. meant.eval_step call loop e env_e >>= (λ step. last_act i limit step)))) K w1 cs1 ks1 a1
      (λ i k2.
      let sl2 : List Slot = slice_set sl1 free (slot.Held (value.Int i)) in
      let kept2 : Kept free sl sl2 = kept_on free free sl sl1 sl2 (Prim.omega arith) kept1 (kept_set free free sl1 (slot.Held (value.Int i)) (Prim.omega arith)) in
      let long1 : length sl1 ≡ length sl = kept1.long in
      let long2 : length sl2 ≡ length sl = kept2.long in
      does code s (pc + exp_size x + 1) sl1 (item.One (value.Int i) ∷ []) w1 ks1 (instr.SetSlot free) p h1.1.0
      (moved code s (pc + exp_size x + 1 + 1) first sl2 [] w1 ks1 at1
      (exp_sim code n c call loop call_ok s deep z m le sz base_z first sl2 [] env_z w1 cs1 ks1 (has_front s.placed first cz r2 g2) (has_front code base_z pz (pe ++ pb) q1)
      (views_taken 1 (past (1 + exp_locals x) sc) env_z sl2 s.captured s.rest (views_past (1 + exp_locals x) sc env sl2 s.captured s.rest (views_kept sc env sl sl2 s.captured s.rest kept2 v))) (Prim.omega (arith, room, long2)) a1
      (owes_then code m s.levels s.end (meant.eval call loop z env_z w1 cs1) (λ t. bound (place_of z) t >>= (λ limit. meant.eval_step call loop e env_e >>= (λ step. last_act i limit step))) (Pushed code n c call loop call_ok s deep (free + 1) sl2 [] (first + exp_size z)) K
      (λ t w2 cs2 ks2 a2 k3 sl3 kept3.
      does code s (first + exp_size z) sl3 (item.One t ∷ []) w2 ks2 instr.Bound (place_of z) h2.0
      (bound_ok t m (first + exp_size z) sl3 (place_of z) (λ limit. meant.eval_step call loop e env_e >>= (λ step. last_act i limit step)) K w2 cs2 ks2 a2
      (λ limit k4.
      let sl4 : List Slot = slice_set sl3 (free + 1) (slot.Held (value.Int limit)) in
      let kept4 : Kept (free + 1) sl2 sl4 = kept_on (free + 1) (free + 1) sl2 sl3 sl4 (Prim.omega arith) kept3 (kept_set (free + 1) (free + 1) sl3 (slot.Held (value.Int limit)) (Prim.omega arith)) in
      let kept40 : Kept free sl sl4 = kept_on free (free + 1) sl sl2 sl4 (Prim.omega arith) kept2 kept4 in
      let long3 : length sl3 ≡ length sl2 = kept3.long in
      let long4 : length sl4 ≡ length sl = kept40.long in
      does code s (first + exp_size z + 1) sl3 (item.One (value.Int limit) ∷ []) w2 ks2 (instr.SetSlot (free + 1)) p h2.1.0
      (moved code s (first + exp_size z + 1 + 1) second sl4 [] w2 ks2 at2
      (step_ok e m le p se base_e second sl4 env_e (λ step. last_act i limit step) K w2 cs2 ks2 (has_front s.placed second ce r3 g3) (has_front code base_e pe pb q2)
      (views_taken 2 (past (1 + exp_locals x + exp_locals z) sc) env_e sl4 s.captured s.rest (views_past (1 + exp_locals x + exp_locals z) sc env sl4 s.captured s.rest (views_kept sc env sl sl4 s.captured s.rest kept40 v))) (Prim.omega (arith, room, long4)) a2
      (λ step sl5 w3 cs3 ks3 kept5 a3 k5.
      let sl6 : List Slot = slice_set sl5 (free + 2) (slot.Held (value.Int step)) in
      let kept6 : Kept (free + 2) sl4 sl6 = kept_on (free + 2) (free + 2) sl4 sl5 sl6 (Prim.omega arith) kept5 (kept_set (free + 2) (free + 2) sl5 (slot.Held (value.Int step)) (Prim.omega arith)) in
      let kept60 : Kept free sl sl6 = kept_on free (free + 2) sl sl4 sl6 (Prim.omega arith) kept40 kept6 in
      let long5 : length sl5 ≡ length sl4 = kept5.long in
      let long6 : length sl6 ≡ length sl = kept60.long in
      let hidden : Hidden code s sc (value.Int i) (value.Int limit) (value.Int step) sl6 = record {
        first = kept6.low free (Prim.omega arith) ∙ kept4.low free (Prim.omega arith) ∙ get_set sl1 free (slot.Held (value.Int i)) (Prim.omega (arith, room, long1));
        second = kept6.low (free + 1) (Prim.omega arith) ∙ get_set sl3 (free + 1) (slot.Held (value.Int limit)) (Prim.omega (arith, room, long3, long2));
        third = get_set sl5 (free + 2) (slot.Held (value.Int step)) (Prim.omega (arith, room, long5, long4));
      } in
      let around : Around code s sc env.next next env_b sl6 = record {
        names = v.names;
        number = sym v.next;
        after = ap (λ k. k + (1 + exp_locals x + exp_locals z + step_locals e)) v.next;
        more = v.more;
        bound = sees_kept free free sc.own sc.captured env.bound sl sl6 s.captured (Prim.omega arith) kept60 v.bound;
      } in
      does code s (second + step_size e) sl5 (item.One (value.Int step) ∷ []) w3 ks3 (instr.SetSlot (free + 2)) p h3.0
      (does code s (second + step_size e + 1) sl6 [] w3 ks3 (instr.ForPrep free behind_it) (step_place e p) h3.1.0
      (comes_by code s _ _ (hidden_row (λ k limit step. row.begin_loop behind_it k limit step) (value.Int i) (value.Int limit) (value.Int step) sc (step_place e p) (second + step_size e + 1) sl6 w3 ks3 hidden)
      (prep_ok env.next i limit step b sim m le p (step_place e p) sc base_b (second + step_size e + 1) turn_at next brk sl6 env_b w3 cs3 ks3 at3 g4 q3 around hidden (Prim.omega (arith, room, long6)) a3
      (owes_flow_on code s m free free sc.own (free + 0) sc.captured sl sl6 behind_it to brk brk (Prim.omega arith) (Prim.omega arith) refl kept60 _ k5)))))
      k4)))
      k3)) k2))))
      k1)) debt)

  -- ---- the generic `for`

  each_turn : (q : Pos) (x k : ℕ) (iterator state : Value) (vs : List Value) (b : Block) → BlockOk b → (m : ℕ) → m ≤ n → (p : Pos) (sc : Scope) (base turn_at next brk : ℕ) (sl : List Slot) (env : Env) (w : World) (cs : List Closure) (ks : List CodeClosure)
      → HasAt s.placed turn_at (each_code code s p q sc b k next base turn_at) → HasAt code base (block_protos b (loop_scope code s k next sc) base) → Around code s sc x next env sl → Hidden code s sc iterator state (first_of vs) sl
      → sc.free + (3 + k + block_slots b) ≤ length sl → Alike code m w cs ks
      → OwesFlow code s m sc.free sc.own (sc.free + 0) sc.captured sl (turn_at + 2 + k + k + block_size b + 13) brk
      ((turn >> (declare_all x (adjust k vs) env >>= (λ env1. meant.exec_all call loop b env1 >>= (λ flow. next_turn env.bound flow (λ _. loop (iterating q x k iterator state (first_of vs) b) env))))) w cs)
      → Halts code (running (at_work code s turn_at sl (item.Many vs ∷ [])) s.levels w ks) s.end
  each_turn q x k iterator state vs b sim m le p sc base turn_at next brk sl env w cs ks has protos around hidden room a debt =
      let f3 : ℕ = sc.free + 3 in
      let sb : Scope = loop_scope code s k next sc in
      let body_at : ℕ = turn_at + 2 + k + k in
      let to : ℕ = turn_at + 2 + k + k + block_size b + 13 in
      let cb : Placed = block_code b sb base body_at to in
      let ci : Placed = iterate_code sc.free turn_at p q in
      let two : turn_at + 1 + 1 ≡ turn_at + 2 = Prim.omega arith in
      let h1 : HasAt s.placed (turn_at + 2) (begin_locals f3 k p ++ (cb ++ ci)) = subst (λ z. HasAt s.placed z (begin_locals f3 k p ++ (cb ++ ci))) two has.1.1 in
      let after : turn_at + 2 + length (begin_locals f3 k p) ≡ body_at = let e : length (begin_locals f3 k p) ≡ k + k = begin_length k f3 p in Prim.omega (arith, e) in
      let h2 : HasAt s.placed body_at (cb ++ ci) = has_next s.placed (turn_at + 2) body_at (begin_locals f3 k p) (cb ++ ci) after h1 in
      turn_ok code s m turn_at sl (item.Many vs ∷ []) p (declare_all x (adjust k vs) env >>= (λ env1. meant.exec_all call loop b env1 >>= (λ flow. next_turn env.bound flow (λ _. loop (iterating q x k iterator state (first_of vs) b) env))))
      (Flows code s sc.free sc.own (sc.free + 0) sc.captured sl to brk) w cs ks has.0 a
      (λ l w2 less a2 k2.
      does code s (turn_at + 1) sl (item.Many vs ∷ []) w2 ks (instr.Spread k) p has.1.0
      (moved code s (turn_at + 1 + 1) (turn_at + 2) sl (row.spread (adjust k vs) []) w2 ks two
      (begin_ok code s k vs l sc.next f3 (turn_at + 2) sl [] sc.own sc.captured env w2 cs ks p (has_front s.placed (turn_at + 2) (begin_locals f3 k p) (cb ++ ci) h1)
      (sees_kept sc.free f3 sc.own sc.captured env.bound sl sl s.captured (Prim.omega arith) (kept_same sc.free sl) around.bound) (Prim.omega (arith, room)) a2
      (owes_then code l s.levels s.end (declare_all sc.next (adjust k vs) env w2 cs) (λ env1. meant.exec_all call loop b env1 >>= (λ flow. next_turn env.bound flow (λ _. loop (iterating q x k iterator state (first_of vs) b) env)))
      (Declared code s f3 (in_slots k sc.next f3 sc.own) (f3 + k) sc.captured sl env body_at []) (Flows code s sc.free sc.own (sc.free + 0) sc.captured sl to brk)
      (λ env1 w3 cs3 ks3 a3 k3 sl2 kept2 sees same.
      let long2 : length sl2 ≡ length sl = kept2.long in
      let kept20 : Kept sc.free sl sl2 = record { long = kept2.long; low = λ j h. kept2.low j (Prim.omega (arith, h)) } in
      sim l (Prim.omega (arith, less, le)) sb base body_at to sl2 env1 w3 cs3 ks3 (has_front s.placed body_at cb ci h2) protos
      (record { names = around.names ∙ sym same.0; next = around.after ∙ sym same.1; more = same.2 ∙ around.more; bound = sees })
      (Prim.omega (arith, room, long2)) a3
      (owes_then code l s.levels s.end (meant.exec_all call loop b env1 w3 cs3) (λ flow. next_turn env.bound flow (λ _. loop (iterating q x k iterator state (first_of vs) b) env))
      (Flows code s (f3 + k) (behind_block b sb).own (behind_block b sb).free sc.captured sl2 (body_at + block_size b) to) (Flows code s sc.free sc.own (sc.free + 0) sc.captured sl to brk)
      (λ flow w4 cs4 ks4 a4 k4.
      loop_flows code s l (f3 + k) sc.free (behind_block b sb).own sc.own (behind_block b sb).free (sc.free + 0) sc.captured sl2 sl (body_at + block_size b) to to brk env.bound (Prim.omega arith) kept20
      (λ sl3 kept3. sees_kept sc.free (sc.free + 0) sc.own sc.captured env.bound sl sl3 s.captured (Prim.omega arith) kept3 around.bound) refl
      (λ _. loop (iterating q x k iterator state (first_of vs) b) env) flow w4 cs4 ks4 a4
      (λ inner k5 sl3 kept3 _.
      let kept4 : Kept sc.free sl sl3 = kept_on sc.free (f3 + k) sl sl2 sl3 (Prim.omega arith) kept20 kept3 in
      let long4 : length sl3 ≡ length sl = kept4.long in
      loop_ok.eaches l (Prim.omega (arith, less, le)) q x k iterator state (first_of vs) b p sc base turn_at next brk sl3 env w4 cs4 ks4 has protos (around_on sc x next env sl sl3 kept4 around)
      (record {
        first = kept3.low sc.free (Prim.omega arith) ∙ kept2.low sc.free (Prim.omega arith) ∙ hidden.first;
        second = kept3.low (sc.free + 1) (Prim.omega arith) ∙ kept2.low (sc.free + 1) (Prim.omega arith) ∙ hidden.second;
        third = kept3.low (sc.free + 2) (Prim.omega arith) ∙ kept2.low (sc.free + 2) (Prim.omega arith) ∙ hidden.third;
      })
      (Prim.omega (arith, room, long4)) a4
      (owes_flow_on code s l sc.free sc.free sc.own (sc.free + 0) sc.captured sl sl3 to to brk brk (Prim.omega arith) refl refl kept4 (loop (iterating q x k iterator state (first_of vs) b) env w4 cs4) k5)) k4) k3))
      (subst (λ z. OwesFlow code s l sc.free sc.own (sc.free + 0) sc.captured sl to brk (go_on (declare_all z (adjust k vs) env w2 cs) (λ env1. meant.exec_all call loop b env1 >>= (λ flow. next_turn env.bound flow (λ _. loop (iterating q x k iterator state (first_of vs) b) env))))) around.number k2))))) debt

  each_ok : (q : Pos) (x k : ℕ) (iterator state control : Value) (b : Block) → BlockOk b → (m : ℕ) → m ≤ n
      → EachOk code s m q x k iterator state control b (λ env. meant.iterate call loop (λ env1. meant.exec_all call loop b env1) q x k iterator state control b env)
  each_ok q x k iterator state control b sim m le p sc base turn_at next brk sl env w cs ks has protos around hidden room a debt =
      let free : ℕ = sc.free in
      let sb : Scope = loop_scope code s k next sc in
      let body_at : ℕ = turn_at + 2 + k + k in
      let to : ℕ = turn_at + 2 + k + k + block_size b + 13 in
      let test : ℕ = turn_at + 2 + k + k + block_size b in
      let cb : Placed = block_code b sb base body_at to in
      let ci : Placed = iterate_code free turn_at p q in
      let two : turn_at + 1 + 1 ≡ turn_at + 2 = Prim.omega arith in
      let h1 : HasAt s.placed (turn_at + 2) (begin_locals (free + 3) k p ++ (cb ++ ci)) = subst (λ z. HasAt s.placed z (begin_locals (free + 3) k p ++ (cb ++ ci))) two has.1.1 in
      let after : turn_at + 2 + length (begin_locals (free + 3) k p) ≡ body_at = let e : length (begin_locals (free + 3) k p) ≡ k + k = begin_length k (free + 3) p in Prim.omega (arith, e) in
      let h2 : HasAt s.placed body_at (cb ++ ci) = has_next s.placed (turn_at + 2) body_at (begin_locals (free + 3) k p) (cb ++ ci) after h1 in
      let h3 : HasAt s.placed test ci = has_next s.placed body_at test cb ci (ap (λ z. body_at + z) (block_length b sb base body_at to)) h2 in
      does code s test sl [] w ks (instr.GetSlot free) p h3.0
      (comes_by code s _ _ (ap (λ z. row.value_in z (λ v. row.push_value v) p (at_work code s test sl []) s.levels w ks) hidden.first)
      (does code s (test + 1) sl (item.One iterator ∷ []) w ks (instr.GetSlot (free + 1)) p h3.1.0
      (comes_by code s _ _ (ap (λ z. row.value_in z (λ v. row.push_value v) p (at_work code s (test + 1) sl (item.One iterator ∷ [])) s.levels w ks) hidden.second)
      (does code s (test + 1 + 1) sl (item.One state ∷ item.One iterator ∷ []) w ks (instr.GetSlot (free + 2)) p h3.1.1.0
      (comes_by code s _ _ (ap (λ z. row.value_in z (λ v. row.push_value v) p (at_work code s (test + 1 + 1) sl (item.One state ∷ item.One iterator ∷ [])) s.levels w ks) hidden.third)
      (does code s (test + 1 + 1 + 1) sl (item.One control ∷ item.One state ∷ item.One iterator ∷ []) w ks (instr.Pack 2) p h3.1.1.1.0
      (does code s (test + 1 + 1 + 1 + 1) sl (item.Many (state ∷ control ∷ []) ∷ item.One iterator ∷ []) w ks instr.Call q h3.1.1.1.1.0
      (call_ok m le q iterator (state ∷ control ∷ []) w cs ks (caller (at_work code s (test + 1 + 1 + 1 + 1 + 1) sl []) ∷ s.levels) s.end deep a
      (owes_caller code m (at_work code s (test + 1 + 1 + 1 + 1 + 1) sl []) s.levels s.end (call q iterator (state ∷ control ∷ []) w cs)
      (λ vs w1 ks1. Halts code (running (at_work code s (test + 1 + 1 + 1 + 1 + 1) sl (item.Many vs ∷ [])) s.levels w1 ks1) s.end) (λ vs w1 ks1 h. h)
      (owes_then code m s.levels s.end (call q iterator (state ∷ control ∷ []) w cs) _ (λ vs w1 ks1. Halts code (running (at_work code s (test + 1 + 1 + 1 + 1 + 1) sl (item.Many vs ∷ [])) s.levels w1 ks1) s.end) (Flows code s free sc.own (free + 0) sc.captured sl to brk)
      (λ vs w1 cs1 ks1 a1 k1.
      let got : Value = first_of vs in
      let sl2 : List Slot = slice_set sl (free + 2) (slot.Held got) in
      does code s (test + 1 + 1 + 1 + 1 + 1) sl (item.Many vs ∷ []) w1 ks1 instr.Dup p h3.1.1.1.1.1.0
      (does code s (test + 1 + 1 + 1 + 1 + 1 + 1) sl (item.Many vs ∷ item.Many vs ∷ []) w1 ks1 instr.First p h3.1.1.1.1.1.1.0
      (does code s (test + 1 + 1 + 1 + 1 + 1 + 1 + 1) sl (item.One got ∷ item.Many vs ∷ []) w1 ks1 instr.Dup p h3.1.1.1.1.1.1.1.0
      (does code s (test + 1 + 1 + 1 + 1 + 1 + 1 + 1 + 1) sl (item.One got ∷ item.One got ∷ item.Many vs ∷ []) w1 ks1 (instr.SetSlot (free + 2)) p h3.1.1.1.1.1.1.1.1.0
      (does code s (test + 1 + 1 + 1 + 1 + 1 + 1 + 1 + 1 + 1) sl2 (item.One got ∷ item.Many vs ∷ []) w1 ks1 instr.Nil p h3.1.1.1.1.1.1.1.1.1.0
      (does code s (test + 1 + 1 + 1 + 1 + 1 + 1 + 1 + 1 + 1 + 1) sl2 (item.One value.Nil ∷ item.One got ∷ item.Many vs ∷ []) w1 ks1 instr.Eq p h3.1.1.1.1.1.1.1.1.1.1.0
      (does code s (test + 1 + 1 + 1 + 1 + 1 + 1 + 1 + 1 + 1 + 1 + 1) sl2 (item.One (value.Bool (is_nil got)) ∷ item.Many vs ∷ []) w1 ks1 (instr.JumpIfNot turn_at) p h3.1.1.1.1.1.1.1.1.1.1.1.0
      (branch vs w1 cs1 ks1 a1 h3.1.1.1.1.1.1.1.1.1.1.1.1.0 (is_nil got) k1)))))))) debt))))))))))
    where
      branch : (vs : List Value) (w1 : World) (cs1 : List Closure) (ks1 : List CodeClosure) → Alike code m w1 cs1 ks1
          → slice_get s.placed (turn_at + 2 + k + k + block_size b + 1 + 1 + 1 + 1 + 1 + 1 + 1 + 1 + 1 + 1 + 1 + 1) ≡ Some (instr.Pop, p) → (t : Bool)
          → OwesFlow code s m sc.free sc.own (sc.free + 0) sc.captured sl (turn_at + 2 + k + k + block_size b + 13) brk
          (either t (give (normal env.bound)) (turn >> (declare_all x (adjust k vs) env >>= (λ env1. meant.exec_all call loop b env1 >>= (λ flow. next_turn env.bound flow (λ _. loop (iterating q x k iterator state (first_of vs) b) env))))) w1 cs1)
          → Comes code s (row.jump_where (not t) turn_at p (at_work code s (turn_at + 2 + k + k + block_size b + 1 + 1 + 1 + 1 + 1 + 1 + 1 + 1 + 1 + 1 + 1) (slice_set sl (sc.free + 2) (slot.Held (first_of vs))) (item.Many vs ∷ [])) s.levels w1 ks1)
      branch vs w1 cs1 ks1 a1 pop true k1 =
          let sl2 : List Slot = slice_set sl (sc.free + 2) (slot.Held (first_of vs)) in
          let kept : Kept sc.free sl sl2 = kept_set sc.free (sc.free + 2) sl (slot.Held (first_of vs)) (Prim.omega arith) in
          let test : ℕ = turn_at + 2 + k + k + block_size b in
          does code s (test + 1 + 1 + 1 + 1 + 1 + 1 + 1 + 1 + 1 + 1 + 1 + 1) sl2 (item.Many vs ∷ []) w1 ks1 instr.Pop p pop
          (moved code s (test + 1 + 1 + 1 + 1 + 1 + 1 + 1 + 1 + 1 + 1 + 1 + 1 + 1) (test + 13) sl2 [] w1 ks1 (Prim.omega arith)
          (k1 ks1 a1 sl2 kept (sees_kept sc.free (sc.free + 0) sc.own sc.captured env.bound sl sl2 s.captured (Prim.omega arith) kept around.bound)))
      branch vs w1 cs1 ks1 a1 pop false k1 =
          let sl2 : List Slot = slice_set sl (sc.free + 2) (slot.Held (first_of vs)) in
          let kept : Kept sc.free sl sl2 = kept_set sc.free (sc.free + 2) sl (slot.Held (first_of vs)) (Prim.omega arith) in
          let long : length sl2 ≡ length sl = kept.long in
          each_turn q x k iterator state vs b sim m le p sc base turn_at next brk sl2 env w1 cs1 ks1 has protos (around_on sc x next env sl sl2 kept around)
          (record {
            first = get_set_before sl (sc.free + 2) sc.free (slot.Held (first_of vs)) (Prim.omega arith) ∙ hidden.first;
            second = get_set_before sl (sc.free + 2) (sc.free + 1) (slot.Held (first_of vs)) (Prim.omega arith) ∙ hidden.second;
            third = get_set sl (sc.free + 2) (slot.Held (first_of vs)) (Prim.omega (arith, room));
          })
          (Prim.omega (arith, room, long)) a1
          (owes_flow_on code s m sc.free sc.free sc.own (sc.free + 0) sc.captured sl sl2 (turn_at + 2 + k + k + block_size b + 13) (turn_at + 2 + k + k + block_size b + 13) brk brk (Prim.omega arith) refl refl kept _ k1)

  three : (vs : List Value) → adjust 3 vs ≡ first_of vs ∷ first_of (drop 1 vs) ∷ first_of (drop 2 vs) ∷ []
  three [] = refl
  three (u ∷ []) = refl
  three (u ∷ v ∷ []) = refl
  three (u ∷ v ∷ t ∷ vs) = refl

  each_stat_ok : (p : Pos) (ns : List Name) (es : Exps) (b : Block) → BlockOk b → StatOk (tree.each p ns es b)
  each_stat_ok p ns es b sim m le sc base pc brk sl env w cs ks has protos v room a debt =
      let k : ℕ = length ns in
      let free : ℕ = sc.free in
      let q : Pos = first_place p es in
      let turn_at : ℕ = pc + exps_size es + 5 in
      let test : ℕ = turn_at + 2 + k + k + block_size b in
      let to : ℕ = pc + (exps_size es + 7 + k + k + block_size b + 13) in
      let next : ℕ = sc.next + (k + exps_locals es) in
      let base_b : ℕ = base + exps_functions es in
      let ce : Placed = list_code es p 0 (past k sc) base pc in
      let r1 : Placed = (instr.Spread 3, p) ∷ (instr.SetSlot (free + 2), p) ∷ (instr.SetSlot (free + 1), p) ∷ (instr.SetSlot free, p) ∷ (instr.Jump test, p) ∷ each_code code s p q sc b k next base_b turn_at in
      let h1 : HasAt s.placed (pc + exps_size es) r1 = has_next s.placed pc (pc + exps_size es) ce r1 (ap (λ z. pc + z) (list_length es p 0 (past k sc) base pc)) has in
      let five : pc + exps_size es + 1 + 1 + 1 + 1 + 1 ≡ turn_at = Prim.omega arith in
      let g2 : HasAt s.placed turn_at (each_code code s p q sc b k next base_b turn_at) = subst (λ z. HasAt s.placed z (each_code code s p q sc b k next base_b turn_at)) five h1.1.1.1.1.1 in
      let pb : List Proto = block_protos b (loop_scope code s k next sc) base_b in
      let q1 : HasAt code base_b pb = has_next code base base_b (exps_protos es (past k sc) base) pb (ap (λ z. base + z) (exps_count es (past k sc) base)) protos in
      let env_b : Env = behind (k + exps_locals es) env in
      list_sim code n c call loop call_ok s deep es m le p 0 [] refl (past k sc) base pc sl [] (behind k env) w cs ks (has_front s.placed pc ce r1 has) (has_front code base (exps_protos es (past k sc) base) pb protos) (views_past k sc env sl s.captured s.rest v) (Prim.omega (arith, room)) a
      (owes_then code m s.levels s.end (meant.eval_all call loop es (behind k env) w cs) _ (Joined code n c call loop call_ok s deep free sl [] [] (pc + exps_size es)) (Flows code s free sc.own (free + 0) sc.captured sl to brk)
      (λ vs w1 cs1 ks1 a1 k1 sl1 kept1.
      let u0 : Value = first_of vs in
      let u1 : Value = first_of (drop 1 vs) in
      let u2 : Value = first_of (drop 2 vs) in
      let sl2 : List Slot = slice_set sl1 (free + 2) (slot.Held u2) in
      let sl3 : List Slot = slice_set sl2 (free + 1) (slot.Held u1) in
      let sl4 : List Slot = slice_set sl3 free (slot.Held u0) in
      let long1 : length sl1 ≡ length sl = kept1.long in
      let long2 : length sl2 ≡ length sl1 = length_set sl1 (free + 2) (slot.Held u2) in
      let long3 : length sl3 ≡ length sl2 = length_set sl2 (free + 1) (slot.Held u1) in
      let long4 : length sl4 ≡ length sl3 = length_set sl3 free (slot.Held u0) in
      let kept : Kept free sl sl4 =
      kept_on free free sl sl1 sl4 (Prim.omega arith) kept1 (kept_on free free sl1 sl2 sl4 (Prim.omega arith) (kept_set free (free + 2) sl1 (slot.Held u2) (Prim.omega arith))
      (kept_on free free sl2 sl3 sl4 (Prim.omega arith) (kept_set free (free + 1) sl2 (slot.Held u1) (Prim.omega arith)) (kept_set free free sl3 (slot.Held u0) (Prim.omega arith)))) in
      does code s (pc + exps_size es) sl1 (item.Many vs ∷ []) w1 ks1 (instr.Spread 3) p h1.0
      (subst (λ z. Halts code (running (at_work code s (pc + exps_size es + 1) sl1 (row.spread z [])) s.levels w1 ks1) s.end) (sym (three vs))
      (does code s (pc + exps_size es + 1) sl1 (item.One u2 ∷ item.One u1 ∷ item.One u0 ∷ []) w1 ks1 (instr.SetSlot (free + 2)) p h1.1.0
      (does code s (pc + exps_size es + 1 + 1) sl2 (item.One u1 ∷ item.One u0 ∷ []) w1 ks1 (instr.SetSlot (free + 1)) p h1.1.1.0
      (does code s (pc + exps_size es + 1 + 1 + 1) sl3 (item.One u0 ∷ []) w1 ks1 (instr.SetSlot free) p h1.1.1.1.0
      (does code s (pc + exps_size es + 1 + 1 + 1 + 1) sl4 [] w1 ks1 (instr.Jump test) p h1.1.1.1.1.0
      (each_ok q env.next k u0 u1 u2 b sim m le p sc base_b turn_at next brk sl4 env_b w1 cs1 ks1 g2 q1
      (record { names = v.names; number = sym v.next; after = ap (λ z. z + (k + exps_locals es)) v.next; more = v.more; bound = sees_kept free free sc.own sc.captured env.bound sl sl4 s.captured (Prim.omega arith) kept v.bound })
      (record {
        first = get_set sl3 free (slot.Held u0) (Prim.omega (arith, room, long1, long2, long3));
        second = get_set_behind sl3 free (free + 1) (slot.Held u0) (Prim.omega arith) ∙ get_set sl2 (free + 1) (slot.Held u1) (Prim.omega (arith, room, long1, long2));
        third = get_set_behind sl3 free (free + 2) (slot.Held u0) (Prim.omega arith) ∙ get_set_behind sl2 (free + 1) (free + 2) (slot.Held u1) (Prim.omega arith) ∙ get_set sl1 (free + 2) (slot.Held u2) (Prim.omega (arith, room, long1));
      })
      (Prim.omega (arith, room, long1, long2, long3, long4)) a1
      (owes_flow_on code s m free free sc.own (free + 0) sc.captured sl sl4 (turn_at + 2 + k + k + block_size b + 13) to brk brk (Prim.omega arith) (Prim.omega arith) refl kept _ k1)))))))) debt)

  while_stat_ok : (p : Pos) (e : Exp) (b : Block) → BlockOk b → StatOk (tree.while p e b)
  while_stat_ok p e b sim m le sc base pc brk sl env w cs ks has protos v room a debt =
      does code s pc sl [] w ks (instr.Jump (pc + 2 + block_size b)) p has.0 (while_ok p e b sim m le sc base pc brk sl env w cs ks has protos v room a debt)

  abbrev ElseOk : Else → Type 0
  ElseOk x = (m : ℕ) → m ≤ n → (sc : Scope) (base pc brk : ℕ) (sl : List Slot) (env : Env) (w : World) (cs : List Closure) (ks : List CodeClosure)
      → HasAt s.placed pc (else_code x sc base pc brk) → HasAt code base (else_protos x sc base) → Views sc env sl s.captured s.rest → sc.free + else_slots x ≤ length sl → Alike code m w cs ks
      → OwesFlow code s m sc.free sc.own (sc.free + 0) sc.captured sl (pc + else_size x) brk (meant.exec_else call loop x env w cs)
      → Halts code (running (at_work code s pc sl []) s.levels w ks) s.end

  choose_ok : (p : Pos) (cl : Clauses) (x : Else) → ClausesOk cl → ElseOk x → StatOk (tree.choose p cl x)
  choose_ok p cl x sims sim m le sc base pc brk sl env w cs ks has protos v room a debt =
      let end : ℕ = pc + clauses_size cl + else_size x in
      let to : ℕ = pc + (clauses_size cl + else_size x) in
      let sx : Scope = past (clauses_locals cl) sc in
      let cc1 : Placed = clauses_code cl p sc base pc end brk in
      let cx : Placed = else_code x sx (base + clauses_functions cl) (pc + clauses_size cl) brk in
      let h : HasAt s.placed (pc + clauses_size cl) cx = has_next s.placed pc (pc + clauses_size cl) cc1 cx (ap (λ z. pc + z) (clauses_length cl p sc base pc end brk)) has in
      let px : List Proto = else_protos x sx (base + clauses_functions cl) in
      let q : HasAt code (base + clauses_functions cl) px = has_next code base (base + clauses_functions cl) (clauses_protos cl sc base) px (ap (λ z. base + z) (clauses_count cl sc base)) protos in
      sims m le p sc base pc end brk sl env w cs ks (meant.exec_else call loop x (behind (clauses_locals cl) env)) (has_front s.placed pc cc1 cx has) (has_front code base (clauses_protos cl sc base) px protos) v (Prim.omega (arith, room)) a
      (owes_flow_on code s m sc.free sc.free sc.own (sc.free + 0) sc.captured sl sl end to brk brk (Prim.omega arith) (Prim.omega arith) refl (kept_same sc.free sl) _ debt)
      (λ sl2 w1 cs1 ks1 kept a1 debt1.
      let long : length sl2 ≡ length sl = kept.long in
      sim m le sx (base + clauses_functions cl) (pc + clauses_size cl) brk sl2 (behind (clauses_locals cl) env) w1 cs1 ks1 h q (views_past (clauses_locals cl) sc env sl2 s.captured s.rest (views_kept sc env sl sl2 s.captured s.rest kept v)) (Prim.omega (arith, room, long)) a1
      (owes_flow_on code s m sc.free sc.free sc.own (sc.free + 0) sc.captured sl sl2 (pc + clauses_size cl + else_size x) end brk brk (Prim.omega arith) refl refl kept _ debt1))

  no_else_ok : ElseOk tree.no_else
  no_else_ok m le sc base pc brk sl env w cs ks has protos v room a debt = nothing_ok m sc pc brk sl env w cs ks v a debt

  else_do_ok : (b : Block) → BlockOk b → ElseOk (tree.else_do b)
  else_do_ok b sim = scope_ok (record { «module» = 0; line = 1; column = 1 }) b sim

  mutual
    pub stat_sim : (x : Stat) → StatOk x
    stat_sim (tree.empty p) = λ m le sc base pc brk sl env w cs ks has protos v room a debt. nothing_ok m sc pc brk sl env w cs ks v a debt
    stat_sim (tree.assign p ts es) = assign_ok p ts es
    stat_sim (tree.run p e) = run_ok p e
    stat_sim (tree.leave p) = leave_ok p
    stat_sim (tree.scope p b) = scope_ok p b (block_sim b)
    stat_sim (tree.while p e b) = while_stat_ok p e b (block_sim b)
    stat_sim (tree.repeat p b e) = repeat_ok p b e (block_sim b)
    stat_sim (tree.choose p cl x) = choose_ok p cl x (clauses_sim cl) (else_sim x)
    stat_sim (tree.count p y x z e b) = count_stat_ok p y x z e b (block_sim b)
    stat_sim (tree.each p ns es b) = each_stat_ok p ns es b (block_sim b)
    stat_sim (tree.define p e f) = define_ok p e f
    stat_sim (tree.define_method p e y f) = λ m le sc base pc brk sl env w cs ks has protos v room a debt. nothing_ok m sc pc brk sl env w cs ks v a debt
    stat_sim (tree.declare_function p y f) = declare_function_ok p y f
    stat_sim (tree.declare p ns es) = declare_ok p ns es
    stat_sim (tree.interface p y fs) = λ m le sc base pc brk sl env w cs ks has protos v room a debt. nothing_ok m sc pc brk sl env w cs ks v a debt
    stat_sim (tree.alias p y t) = λ m le sc base pc brk sl env w cs ks has protos v room a debt. nothing_ok m sc pc brk sl env w cs ks v a debt

    clauses_sim : (cl : Clauses) → ClausesOk cl
    clauses_sim tree.no_clause = no_clause_ok
    clauses_sim (tree.clause e b cl) = clause_ok e b cl (block_sim b) (clauses_sim cl)

    else_sim : (x : Else) → ElseOk x
    else_sim tree.no_else = no_else_ok
    else_sim (tree.else_do b) = else_do_ok b (block_sim b)

    pub block_sim : (b : Block) → BlockOk b
    block_sim tree.finish = finish_ok
    block_sim (tree.returns p es) = returns_ok p es
    block_sim (tree.next x b) = next_ok x b (stat_sim x) (block_sim b)

  -- what is left of a loop, at a level where the loops' further turns do what they mean
  pub whiles_ok : (m : ℕ) → m ≤ n → (p : Pos) (e : Exp) (b : Block) → WhileOk code s m p e b (meant.go_round call loop (while_again p e b))
  whiles_ok m le p e b = while_ok p e b (block_sim b) m le

  pub repeats_ok : (m : ℕ) → m ≤ n → (p : Pos) (b : Block) (e : Exp) → RepeatOk code s m p b e (meant.go_round call loop (repeat_again p b e))
  repeats_ok m le p b e = repeat_ok p b e (block_sim b) m le

  pub counts_ok : (m : ℕ) → m ≤ n → (x : ℕ) (i limit step : ℤ) (b : Block) → CountOk code s m x i limit step b (meant.go_round call loop (counting x i limit step b))
  counts_ok m le x i limit step b = count_ok x i limit step b (block_sim b) m le

  pub eaches_ok : (m : ℕ) → m ≤ n → (q : Pos) (x k : ℕ) (iterator state control : Value) (b : Block) → EachOk code s m q x k iterator state control b (meant.go_round call loop (iterating q x k iterator state control b))
  eaches_ok m le q x k iterator state control b = each_ok q x k iterator state control b (block_sim b) m le

-- The code of a program has its meaning: by induction on the turns.
use Rattle.std.proofs.Common.{◌≡◌, refl, ap, subst, sym, ◌∙◌, ℕ, zero, suc, ◌+◌, ◌-◌, ◌<◌, ◌≤◌, false, List, [], ◌∷◌, ◌++◌, length, map, replicate, slice_get, Option, Some, None, arith}
use Rattle.std.specs.Option.{is_some}
use Rattle.std.proofs.lemmas.List.{length-map, length-append, length-replicate, map-append}
use Rattle.tl_base.specs.declared.place.Pos.{Pos}
use Rattle.tl_base.specs.declared.place.ModuleKind.{ModuleKind}
use Rattle.tl_base.specs.declared.place.ModuleKind.TheVariants.{Typed, Untyped}
use Rattle.lua_tree.specs.declared.names.LibName.{LibName}
use Rattle.lua_tree.specs.declared.names.LibName.TheVariants as lib
use Rattle.lua_tree.specs.declared.syntax.Rest.{Rest}
use Rattle.lua_tree.specs.Tree as tree
use Rattle.lua_tree.specs.Tree.{Function, Block}
use Rattle.lua_values.specs.declared.value.Value.{Value}
use Rattle.lua_values.specs.declared.value.Value.TheVariants as value
use Rattle.lua_meaning.specs.World.{World, write, recorded, kind_at}
use Rattle.lua_meaning.specs.Environment.{Env, behind}
use Rattle.lua_meaning.specs.Outcomes.{Closure, Outcome, gives, raises, cut, Flow, normal, returned, broken, give, go_on, ◌>>=◌, turned, closure_at, results_of}
use Rattle.lua_meaning.specs.Trees as meant
use Rattle.lua_meaning.specs.Trees.{Caller, Looper, Loop, adjust, declare_all}
use Rattle.lua_meaning.specs.Calls as meant_call
use Rattle.lua_meaning.specs.Calls.{Below, limit, apply, below_of, body_of, counted, entered, library_call, printed}
use Rattle.lua_meaning.specs.Programs as meant_program
use Rattle.lua_meaning.specs.Programs.{Module, Result, Ending, finished, failed, spent, ended, start, outermost, run_with, run_main, meaning}
use Rattle.lua_code.specs.declared.code.Proto.{Proto}
use Rattle.lua_code.specs.declared.code.Instr.TheVariants as instr
use Rattle.lua_code.specs.declared.frames.Slot.{Slot}
use Rattle.lua_code.specs.declared.frames.Slot.TheVariants as slot
use Rattle.lua_code.specs.declared.frames.Item.TheVariants as item
use Rattle.lua_code.specs.Configurations.{CodeClosure, Level, Config, running, calling, giving, raising, calls_at_work}
use Rattle.lua_code.specs.Steps as steps
use Rattle.lua_code.specs.Steps.{End, end_of, halts, step, called, enter, enter_turn, begin, frame_of, begin_turn, run}
use Rattle.lua_code.specs.Sizes.{block_size, block_functions, block_slots}
use Rattle.lua_code.specs.Generated.{Placed, one, Scope, in_slots, inside, inner_captured, captures_in, module_scope, module_place, block_code, body_code, new_cells, proto_of, block_protos, main_protos, inner_protos, program, behind_block}
use Rattle.lua_code.specs.Faithful.{IsFaithful}
use Rattle.lua_code.proofs.Faithful.Lists.{HasAt, has_front, has_next, has_all}
use Rattle.lua_code.proofs.Faithful.Lengths.{new_cells_length, block_length}
use Rattle.lua_code.proofs.Faithful.Agreement.{Halts, step_on, step_end, Made, MadeOf, AllMade, Alike, Owes, owes_then, owes_fewer, Given, Setting, at_work, does, moved, end_with}
use Rattle.lua_code.proofs.Faithful.Names.{Sees}
use Rattle.lua_code.proofs.Faithful.Expressions.{CallOk, Views}
use Rattle.lua_code.proofs.Faithful.Debts.{Flows, LoopOk, Declared, helds, new_cells_ok, adjust_length}
use Rattle.lua_code.proofs.Faithful.Statements.{block_sim, whiles_ok, repeats_ok, counts_ok, eaches_ok}

module _ (code : List Proto) where
  -- what is done with fewer turns does what it means
  record BelowOk (n : ℕ) (below : Below) : Type 0 where
    enters : (c m : ℕ) → m < n → (k : Closure) (q : CodeClosure) (vs : List Value) (w : World) (cs : List Closure) (ks : List CodeClosure) (lv : List Level) (r : End) → calls_at_work lv + 1 + c ≡ limit
        → Made code k q → Alike code m w cs ks → Owes code m lv r (Given code lv r) (below.enter c k vs w cs)
        → (proto : Proto) → slice_get code q.function ≡ Some proto → Halts code (running (frame_of q.function proto q.cells vs) lv w ks) r
    loops : (c : ℕ) (s : Setting code) → calls_at_work s.levels + 1 + c ≡ limit → LoopOk code s n (below.loop c)

  -- ---- calls

  abbrev MadeAt : Option Closure → Option CodeClosure → Type 0
  MadeAt None None = Unit {0}
  MadeAt (Some k) (Some q) = Made code k q
  MadeAt k q = ⊥

  made_at : (cs : List Closure) (ks : List CodeClosure) (i : ℕ) → AllMade code cs ks → MadeAt (slice_get cs i) (slice_get ks i)
  made_at [] [] i h = tt
  made_at [] (q ∷ qs) i h = absurd h
  made_at (k ∷ cs) [] i h = absurd h
  made_at (k ∷ cs) (q ∷ qs) zero h = h.0
  made_at (k ∷ cs) (q ∷ qs) (suc i) h = made_at cs qs i h.1

  made_proto : (f : Function) (env : Env) (q : CodeClosure) → MadeOf code f env q → (proto : Proto) × (slice_get code q.function ≡ Some proto)
  made_proto (tree.function_of ps rest rs b) env q h = (_, h.proto)

  recorded_alike : (k : ModuleKind) (p : Pos) (m : ℕ) (w : World) (cs : List Closure) (ks : List CodeClosure) → Alike code m w cs ks → Alike code m (recorded k p w) cs ks
  recorded_alike Typed p m w cs ks a = record { few = a.few; made = a.made }
  recorded_alike Untyped p m w cs ks a = a

  module _ (n : ℕ) (below : Below) (ok : BelowOk n below) where
    -- a closure's turn has been taken
    entered_ok : (c m : ℕ) → m < n → (ko : Option Closure) (qo : Option CodeClosure) → MadeAt ko qo → (vs : List Value) (w : World) (cs : List Closure) (ks : List CodeClosure) (lv : List Level) (r : End) → calls_at_work lv + 1 + c ≡ limit
        → Alike code m w cs ks → Owes code m lv r (Given code lv r) (entered ko (λ k. below.enter c k vs) w cs)
        → (before : Config) → step code before ≡ enter code qo vs lv w ks → Halts code before r
    entered_ok c m lt None None made vs w cs ks lv r deep a debt before e = step_on code before (giving [] lv w ks) r e (debt ks a)
    entered_ok c m lt (Some k) (Some q) made vs w cs ks lv r deep a debt before e =
        let found : (proto : Proto) × (slice_get code q.function ≡ Some proto) = made_proto k.function k.env q made in
        step_on code before (running (frame_of q.function found.0 q.cells vs) lv w ks) r (e ∙ ap (λ o. begin q.function o q.cells vs lv w ks) found.1)
        (ok.enters c m lt k q vs w cs ks lv r deep made a debt found.0 found.1)
    entered_ok c m lt None (Some q) made vs w cs ks lv r deep a debt before e = absurd made
    entered_ok c m lt (Some k) None made vs w cs ks lv r deep a debt before e = absurd made

    turned_ok : (c m : ℕ) → m ≤ n → (t : ℕ) (number : ℕ) (vs : List Value) (w : World) (cs : List Closure) (ks : List CodeClosure) (lv : List Level) (r : End) → calls_at_work lv + 1 + c ≡ limit
        → w.turns ≡ t → Alike code m w cs ks → Owes code m lv r (Given code lv r) (go_on (turned t w cs) (λ _. closure_at number >>= (λ k. entered k (λ k. below.enter c k vs))))
        → (before : Config) → step code before ≡ enter_turn code t number vs lv w ks → Halts code before r
    turned_ok c m le zero number vs w cs ks lv r deep et a debt before e = step_end code before r spent w e debt
    turned_ok c m le (suc t) number vs w cs ks lv r deep et a debt before e =
        let few : w.turns ≤ m = a.few in
        let less : suc t ≤ m = Prim.omega (arith, few, et) in
        let w1 : World = record w { turns = t } in
        entered_ok c t (Prim.omega (arith, less, le)) (slice_get cs (number - 1)) (slice_get ks (number - 1)) (made_at cs ks (number - 1) a.made) vs w1 cs ks lv r deep (record { few = Prim.omega arith; made = a.made })
        (owes_fewer code t m lv r (entered (slice_get cs (number - 1)) (λ k. below.enter c k vs) w1 cs) (Given code lv r) (Prim.omega (arith, less)) debt) before e

    library_ok : (x : LibName) (m : ℕ) (vs : List Value) (w : World) (cs : List Closure) (ks : List CodeClosure) (lv : List Level) (r : End) → Alike code m w cs ks → Owes code m lv r (Given code lv r) (library_call x vs w cs)
        → (before : Config) → step code before ≡ steps.library x vs lv w ks → Halts code before r
    library_ok lib.Print m vs w cs ks lv r a debt before e = step_on code before (giving [] lv (write (printed vs) w) ks) r e (debt ks (record { few = a.few; made = a.made }))
    library_ok x m vs w cs ks lv r a debt before e = step_on code before (giving [] lv w ks) r e (debt ks a)

    apply_ok : (c : ℕ) → CallOk code n c (apply below c)
    apply_ok zero m le p (value.Closure number) vs w cs ks lv r count a debt =
        let e : limit - calls_at_work lv ≡ 0 = Prim.omega (arith, count) in
        step_on code _ _ r (ap (λ z. called code z p (value.Closure number) vs lv w ks) e) (debt ks a)
    apply_ok (suc c) m le p (value.Closure number) vs w cs ks lv r count a debt =
        let e : limit - calls_at_work lv ≡ suc c = Prim.omega (arith, count) in
        turned_ok c m le w.turns number vs w cs ks lv r (Prim.omega (arith, count)) refl a debt (calling p (value.Closure number) vs lv w ks) (ap (λ z. called code z p (value.Closure number) vs lv w ks) e)
    apply_ok zero m le p (value.Builtin x) vs w cs ks lv r count a debt =
        let e : limit - calls_at_work lv ≡ 0 = Prim.omega (arith, count) in
        step_on code _ _ r (ap (λ z. called code z p (value.Builtin x) vs lv w ks) e) (debt ks a)
    apply_ok (suc c) m le p (value.Builtin x) vs w cs ks lv r count a debt =
        let e : limit - calls_at_work lv ≡ suc c = Prim.omega (arith, count) in
        library_ok x m vs w cs ks lv r a debt (calling p (value.Builtin x) vs lv w ks) (ap (λ z. called code z p (value.Builtin x) vs lv w ks) e)
    apply_ok zero m le p value.Nil vs w cs ks lv r count a debt =
        let e : limit - calls_at_work lv ≡ 0 = Prim.omega (arith, count) in
        step_on code _ _ r (ap (λ z. called code z p value.Nil vs lv w ks) e) (debt ks (recorded_alike (kind_at w p) p m w cs ks a))
    apply_ok (suc c) m le p value.Nil vs w cs ks lv r count a debt =
        let e : limit - calls_at_work lv ≡ suc c = Prim.omega (arith, count) in
        step_on code _ _ r (ap (λ z. called code z p value.Nil vs lv w ks) e) (debt ks (recorded_alike (kind_at w p) p m w cs ks a))
    apply_ok zero m le p (value.Bool b) vs w cs ks lv r count a debt =
        let e : limit - calls_at_work lv ≡ 0 = Prim.omega (arith, count) in
        step_on code _ _ r (ap (λ z. called code z p (value.Bool b) vs lv w ks) e) (debt ks (recorded_alike (kind_at w p) p m w cs ks a))
    apply_ok (suc c) m le p (value.Bool b) vs w cs ks lv r count a debt =
        let e : limit - calls_at_work lv ≡ suc c = Prim.omega (arith, count) in
        step_on code _ _ r (ap (λ z. called code z p (value.Bool b) vs lv w ks) e) (debt ks (recorded_alike (kind_at w p) p m w cs ks a))
    apply_ok zero m le p (value.Int i) vs w cs ks lv r count a debt =
        let e : limit - calls_at_work lv ≡ 0 = Prim.omega (arith, count) in
        step_on code _ _ r (ap (λ z. called code z p (value.Int i) vs lv w ks) e) (debt ks (recorded_alike (kind_at w p) p m w cs ks a))
    apply_ok (suc c) m le p (value.Int i) vs w cs ks lv r count a debt =
        let e : limit - calls_at_work lv ≡ suc c = Prim.omega (arith, count) in
        step_on code _ _ r (ap (λ z. called code z p (value.Int i) vs lv w ks) e) (debt ks (recorded_alike (kind_at w p) p m w cs ks a))
    apply_ok zero m le p (value.Str t) vs w cs ks lv r count a debt =
        let e : limit - calls_at_work lv ≡ 0 = Prim.omega (arith, count) in
        step_on code _ _ r (ap (λ z. called code z p (value.Str t) vs lv w ks) e) (debt ks (recorded_alike (kind_at w p) p m w cs ks a))
    apply_ok (suc c) m le p (value.Str t) vs w cs ks lv r count a debt =
        let e : limit - calls_at_work lv ≡ suc c = Prim.omega (arith, count) in
        step_on code _ _ r (ap (λ z. called code z p (value.Str t) vs lv w ks) e) (debt ks (recorded_alike (kind_at w p) p m w cs ks a))
    apply_ok zero m le p (value.Table t) vs w cs ks lv r count a debt =
        let e : limit - calls_at_work lv ≡ 0 = Prim.omega (arith, count) in
        step_on code _ _ r (ap (λ z. called code z p (value.Table t) vs lv w ks) e) (debt ks (recorded_alike (kind_at w p) p m w cs ks a))
    apply_ok (suc c) m le p (value.Table t) vs w cs ks lv r count a debt =
        let e : limit - calls_at_work lv ≡ suc c = Prim.omega (arith, count) in
        step_on code _ _ r (ap (λ z. called code z p (value.Table t) vs lv w ks) e) (debt ks (recorded_alike (kind_at w p) p m w cs ks a))

    -- ---- bodies

    -- from behind the parameters on
    tail_ok : (s : Setting code) (c m : ℕ) → m ≤ n → calls_at_work s.levels + 1 + c ≡ limit → (k : ℕ) (b : Block) (p : Pos) (sc : Scope) (base : ℕ) (sl : List Slot) (env : Env) (w : World) (cs : List Closure) (ks : List CodeClosure)
        → HasAt s.placed k (block_code b sc base k (k + block_size b) ++ (instr.Pack 0, p) ∷ one instr.Return p) → HasAt code base (block_protos b sc base) → Views sc env sl s.captured s.rest → sc.free + block_slots b ≤ length sl → Alike code m w cs ks
        → Owes code m s.levels s.end (Given code s.levels s.end) (go_on (meant.exec_all (apply below c) (below.loop c) b env w cs) (λ flow. give (results_of flow)))
        → Halts code (running (at_work code s k sl []) s.levels w ks) s.end
    tail_ok s c m le deep k b p sc base sl env w cs ks has protos v room a debt =
        let cb : Placed = block_code b sc base k (k + block_size b) in
        let end : Placed = (instr.Pack 0, p) ∷ one instr.Return p in
        let h : HasAt s.placed (k + block_size b) end = has_next s.placed k (k + block_size b) cb end (ap (λ z. k + z) (block_length b sc base k (k + block_size b))) has in
        block_sim code n c (apply below c) (below.loop c) (apply_ok c) s deep (ok.loops c s deep) b m le sc base k (k + block_size b) sl env w cs ks (has_front s.placed k cb end has) protos v room a
        (owes_then code m s.levels s.end (meant.exec_all (apply below c) (below.loop c) b env w cs) (λ flow. give (results_of flow)) (Flows code s sc.free (behind_block b sc).own (behind_block b sc).free sc.captured sl (k + block_size b) (k + block_size b)) (Given code s.levels s.end)
        (λ flow w1 cs1 ks1 a1 k1. ending h flow w1 cs1 ks1 a1 k1) debt)
      where
        ending : HasAt s.placed (k + block_size b) ((instr.Pack 0, p) ∷ one instr.Return p) → (flow : Flow) (w1 : World) (cs1 : List Closure) (ks1 : List CodeClosure) → Alike code m w1 cs1 ks1
            → Owes code m s.levels s.end (Given code s.levels s.end) (give (results_of flow) w1 cs1) → Flows code s sc.free (behind_block b sc).own (behind_block b sc).free sc.captured sl (k + block_size b) (k + block_size b) flow w1 ks1
        ending h (normal inner) w1 cs1 ks1 a1 k1 = λ sl2 kept _.
            does code s (k + block_size b) sl2 [] w1 ks1 (instr.Pack 0) p h.0 (does code s (k + block_size b + 1) sl2 (item.Many [] ∷ []) w1 ks1 instr.Return p h.1.0 (k1 ks1 a1))
        ending h broken w1 cs1 ks1 a1 k1 = λ sl2 kept.
            does code s (k + block_size b) sl2 [] w1 ks1 (instr.Pack 0) p h.0 (does code s (k + block_size b + 1) sl2 (item.Many [] ∷ []) w1 ks1 instr.Return p h.1.0 (k1 ks1 a1))
        ending h (returned vs) w1 cs1 ks1 a1 k1 = k1 ks1 a1

    further_same : (rest : Option Rest) (k : ℕ) (vs : List Value) → meant_call.further rest k vs ≡ steps.further (is_some rest) k vs
    further_same None k vs = refl
    further_same (Some x) k vs = refl

    -- arguments in the first slots become cells
    abbrev NewOk : Setting code → List Value → ℕ → Type 0
    NewOk s us k = (m x pc : ℕ) (sl : List Slot) (captured : List ℕ) (env : Env) (w : World) (cs : List Closure) (ks : List CodeClosure) (p : Pos)
        → HasAt s.placed pc (new_cells 0 k p) → HasAt sl 0 (helds code s us) → Sees 0 [] captured env.bound sl s.captured → k ≤ length sl → Alike code m w cs ks
        → Owes code m s.levels s.end (Declared code s 0 (in_slots k x 0 []) (0 + k) captured sl env (pc + k) []) (declare_all x us env w cs)
        → Halts code (running (at_work code s pc sl []) s.levels w ks) s.end

    new_here : (s : Setting code) (us : List Value) → NewOk s us (length us)
    new_here s us m x pc sl captured env w cs ks p has held sees room a debt = new_cells_ok code s us m x 0 pc sl [] [] captured env w cs ks p has held sees (Prim.omega (arith, room)) a debt

    new_ok : (s : Setting code) (k : ℕ) (vs : List Value) → NewOk s (adjust k vs) k
    new_ok s k vs = subst (λ z. NewOk s (adjust k vs) z) (adjust_length code s k vs) (new_here s (adjust k vs))

    body_ok : (c m : ℕ) → m ≤ n → (f : Function) (env : Env) (q : CodeClosure) (vs : List Value) (w : World) (cs : List Closure) (ks : List CodeClosure) (lv : List Level) (r : End) → calls_at_work lv + 1 + c ≡ limit
        → MadeOf code f env q → Alike code m w cs ks → Owes code m lv r (Given code lv r) (body_of below c f env vs w cs)
        → (proto : Proto) → slice_get code q.function ≡ Some proto → Halts code (running (frame_of q.function proto q.cells vs) lv w ks) r
    body_ok c m le (tree.function_of ps rest rs b) env q vs w cs ks lv r deep made a debt proto there =
        subst (λ z. Halts code (running (frame_of q.function z q.cells vs) lv w ks) r) (same_proto made.proto there)
        (new_ok s k vs m env.next 0 slots (inner_captured made.scope) env w cs ks made.place (has_front placed 0 (new_cells 0 k made.place) rest_code (has_all placed []))
        (subst (λ z. HasAt z 0 (helds code s (adjust k vs))) (sym (map-append (λ v. slot.Held v) (adjust k vs) others)) (has_front (helds code s (adjust k vs) ++ helds code s others) 0 (helds code s (adjust k vs)) (helds code s others) (has_all (helds code s (adjust k vs) ++ helds code s others) [])))
        (made.keys, sym made.cells) (Prim.omega (arith, long)) a
        (owes_then code m lv r (declare_all env.next (adjust k vs) env w cs) _ (Declared code s 0 (in_slots k env.next 0 []) (0 + k) (inner_captured made.scope) slots env (0 + k) []) (Given code lv r)
        (λ env1 w1 cs1 ks1 a1 k1 sl2 kept sees same.
        let long2 : length sl2 ≡ length slots = kept.long in
        let zero_plus : 0 + k ≡ k = Prim.omega arith in
        let h : HasAt placed k rest_code = has_next placed 0 k (new_cells 0 k made.place) rest_code (Prim.omega (arith, new_cells_length k 0 made.place)) (has_all placed []) in
        moved code s (0 + k) k sl2 [] w1 ks1 zero_plus
        (tail_ok s c m le deep k b made.place (inside k made.scope) made.base sl2 (behind k (record env1 { rest = meant_call.further rest k vs })) w1 cs1 ks1 h made.inner
        (record {
          names = made.names ∙ sym same.0;
          next = ap (λ z. z + k) (made.next ∙ sym same.1);
          more = further_same rest k vs;
          bound = subst (λ z. Sees (0 + k) (in_slots k z 0 []) (inner_captured made.scope) env1.bound sl2 q.cells) (sym made.next) sees;
        })
        (Prim.omega (arith, long, long2)) a1 k1)) debt))
      where
        k : ℕ
        k = length ps

        placed : Placed
        placed = body_code k b made.place (inside k made.scope) made.base

        rest_code : Placed
        rest_code = block_code b (inside k made.scope) made.base k (k + block_size b) ++ (instr.Pack 0, made.place) ∷ one instr.Return made.place

        its_proto : Proto
        its_proto = proto_of k (is_some rest) (captures_in made.scope) (k + block_slots b) placed

        others : List Value
        others = replicate (k + block_slots b - k) value.Nil

        slots : List Slot
        slots = map (λ v. slot.Held v) (adjust k vs ++ others)

        s : Setting code
        s = record { end = r; function = q.function; proto = its_proto; placed = placed; here = made.proto; instrs = refl; places = refl; captured = q.cells; rest = steps.further (is_some rest) k vs; levels = lv }

        long : length slots ≡ k + block_slots b
        long =
            let e1 : length slots ≡ length (adjust k vs ++ others) = length-map (adjust k vs ++ others) (λ v. slot.Held v) in
            let e2 : length (adjust k vs ++ others) ≡ length (adjust k vs) + length others = length-append (adjust k vs) others in
            let e3 : length (adjust k vs) ≡ k = adjust_length code s k vs in
            let e4 : length others ≡ k + block_slots b - k = length-replicate (k + block_slots b - k) value.Nil in
            Prim.omega (arith, e1, e2, e3, e4)

        same_proto : slice_get code q.function ≡ Some its_proto → slice_get code q.function ≡ Some proto → its_proto ≡ proto
        same_proto g h = let e : Some its_proto ≡ Some proto = sym g ∙ h in Prim.cc

  -- ---- every level

  all_ok : (n : ℕ) → BelowOk n (below_of n)
  all_ok zero = record {
    enters = λ c m lt k q vs w cs ks lv r deep made a debt proto there. absurd (Prim.omega (arith, lt));
    loops = λ c s deep. record {
      whiles = λ m lt p e b. absurd (Prim.omega (arith, lt));
      repeats = λ m lt p b e. absurd (Prim.omega (arith, lt));
      counts = λ m lt x i limit step b. absurd (Prim.omega (arith, lt));
      eaches = λ m lt q x k iterator state control b. absurd (Prim.omega (arith, lt));
    };
  }
  all_ok (suc n) = record {
    enters = λ c m lt k q vs w cs ks lv r deep made a debt proto there. body_ok n (below_of n) (all_ok n) c m (Prim.omega (arith, lt)) k.function k.env q vs w cs ks lv r deep made a debt proto there;
    loops = λ c s deep. record {
      whiles = λ m lt p e b. whiles_ok code n c (apply (below_of n) c) ((below_of n).loop c) (apply_ok n (below_of n) (all_ok n) c) s deep ((all_ok n).loops c s deep) m (Prim.omega (arith, lt)) p e b;
      repeats = λ m lt p b e. repeats_ok code n c (apply (below_of n) c) ((below_of n).loop c) (apply_ok n (below_of n) (all_ok n) c) s deep ((all_ok n).loops c s deep) m (Prim.omega (arith, lt)) p b e;
      counts = λ m lt x i limit step b. counts_ok code n c (apply (below_of n) c) ((below_of n).loop c) (apply_ok n (below_of n) (all_ok n) c) s deep ((all_ok n).loops c s deep) m (Prim.omega (arith, lt)) x i limit step b;
      eaches = λ m lt q x k iterator state control b. eaches_ok code n c (apply (below_of n) c) ((below_of n).loop c) (apply_ok n (below_of n) (all_ok n) c) s deep ((all_ok n).loops c s deep) m (Prim.omega (arith, lt)) q x k iterator state control b;
    };
  }

  -- ---- a whole run

  abbrev end_of_run : {A : Type 0} → Outcome A → End
  end_of_run (gives a w cs) = end_with finished w
  end_of_run (raises v w cs) = end_with (failed v) w
  end_of_run (cut w) = end_with spent w

  pays : (m : ℕ) (o : Outcome (List Value)) → Owes code m [] (end_of_run o) (Given code [] (end_of_run o)) o
  pays m (gives vs w cs) = λ ks a. step_end code (giving vs [] w ks) (end_with finished w) finished w refl refl
  pays m (raises v w cs) = λ ks a. step_end code (raising v [] w ks) (end_with (failed v) w) (failed v) w refl refl
  pays m (cut w) = refl

  results : (turns : ℕ) (o : Outcome (List Value)) → steps.result_of turns (Some (end_of_run o)) ≡ Some (meant_program.result_of turns o)
  results turns (gives vs w cs) = refl
  results turns (raises v w cs) = refl
  results turns (cut w) = refl

main_count : (ms : List Module) (m base : ℕ) → length (main_protos ms m base) ≡ length ms
main_count [] m base = refl
main_count (x ∷ xs) m base = ap suc (main_count xs (m + 1) (base + block_functions x.body))

module _ (x : Module) (xs : List Module) where
  -- the functions inside the main module's block
  inner_there : HasAt (program (x ∷ xs)).functions (length (x ∷ xs)) (block_protos x.body (module_scope x.names) (length (x ∷ xs)))
  inner_there =
      let mains : List Proto = main_protos (x ∷ xs) 0 (length (x ∷ xs)) in
      let inner : List Proto = block_protos x.body (module_scope x.names) (length (x ∷ xs)) in
      let others : List Proto = inner_protos xs (length (x ∷ xs) + block_functions x.body) in
      has_front (mains ++ (inner ++ others)) (length (x ∷ xs)) inner others (subst (λ z. HasAt (mains ++ (inner ++ others)) z (inner ++ others)) (main_count (x ∷ xs) 0 (length (x ∷ xs))) (has_all (inner ++ others) mains))

  main_long : length (map (λ v. slot.Held v) (replicate (block_slots x.body - 0) value.Nil)) ≡ block_slots x.body
  main_long =
      let e1 : length (map (λ v. slot.Held v) (replicate (block_slots x.body - 0) value.Nil)) ≡ length (replicate (block_slots x.body - 0) value.Nil) = length-map (replicate (block_slots x.body - 0) value.Nil) (λ v. slot.Held v) in
      let e2 : length (replicate (block_slots x.body - 0) value.Nil) ≡ block_slots x.body - 0 = length-replicate (block_slots x.body - 0) value.Nil in
      Prim.omega (arith, e1, e2)

  halts_main : (t : ℕ) (w : World) → w.turns ≤ t
      → Halts (program (x ∷ xs)).functions (running (frame_of 0 (proto_of 0 false [] (block_slots x.body) (body_code 0 x.body (module_place 0) (module_scope x.names) (length (x ∷ xs)))) [] []) [] w [])
      (end_of_run (program (x ∷ xs)).functions
      (go_on (meant.exec_all (apply (below_of (suc t)) (limit - 1)) ((below_of (suc t)).loop (limit - 1)) x.body (outermost x.names) w []) (λ flow. give (results_of flow))))
  halts_main t w few =
      let functions : List Proto = (program (x ∷ xs)).functions in
      let base : ℕ = length (x ∷ xs) in
      let sc : Scope = module_scope x.names in
      let placed : Placed = body_code 0 x.body (module_place 0) sc base in
      let o : Outcome (List Value) = go_on (meant.exec_all (apply (below_of (suc t)) (limit - 1)) ((below_of (suc t)).loop (limit - 1)) x.body (outermost x.names) w []) (λ flow. give (results_of flow)) in
      let s : Setting functions = record {
        end = end_of_run functions o;
        function = 0;
        proto = proto_of 0 false [] (block_slots x.body) placed;
        placed = placed;
        here = refl;
        instrs = refl;
        places = refl;
        captured = [];
        rest = [];
        levels = [];
      } in
      tail_ok functions (suc t) (below_of (suc t)) (all_ok functions (suc t)) s (limit - 1) t (Prim.omega arith) (Prim.omega arith) 0 x.body (module_place 0) sc base (map (λ v. slot.Held v) (replicate (block_slots x.body - 0) value.Nil)) (outermost x.names) w [] []
      (has_all placed []) inner_there (record { names = refl; next = refl; more = refl; bound = (refl, refl) }) (let e : length (map (λ v. slot.Held v) (replicate (block_slots x.body - 0) value.Nil)) ≡ block_slots x.body = main_long in Prim.omega (arith, e)) (record { few = few; made = tt }) (pays functions t o)

pub faithful : (x : Module) (xs : List Module) → IsFaithful (x ∷ xs) (program (x ∷ xs))
faithful x xs words input zero = (0, refl)
faithful x xs words input (suc t) =
    let functions : List Proto = (program (x ∷ xs)).functions in
    let w : World = record (start (map (λ m. m.kind) (x ∷ xs)) words input (suc t)) { turns = t } in
    let o : Outcome (List Value) = go_on (meant.exec_all (apply (below_of (suc t)) (limit - 1)) ((below_of (suc t)).loop (limit - 1)) x.body (outermost x.names) w []) (λ flow. give (results_of flow)) in
    let h : Halts functions _ (end_of_run functions o) = halts_main x xs t w (Prim.omega arith) in
    (h.steps, ap (steps.result_of (suc t)) h.is ∙ results functions (suc t) o)

-- The code of an expression does what the expression means.
use Rattle.std.proofs.Common.{◌≡◌, refl, ap, subst, sym, ◌∙◌, ℕ, suc, ◌+◌, ◌≤◌, max, Bool, true, false, not, List, [], ◌∷◌, ◌++◌, length, map, slice_get, slice_set, Option, Some, None, arith}
use Rattle.std.specs.Option.{is_some}
use Rattle.tl_base.specs.declared.place.Pos.{Pos}
use Rattle.tl_base.specs.declared.crossing.CrossKind.{CrossKind}
use Rattle.tl_base.specs.declared.crossing.Crossing.{Crossing}
use Rattle.tl_base.specs.declared.place.ModuleKind.{ModuleKind}
use Rattle.tl_base.specs.declared.place.ModuleKind.TheVariants.{Typed, Untyped}
use Rattle.lua_tree.specs.declared.annotation.Name.{Name}
use Rattle.lua_tree.specs.declared.scoped.Use.{Use}
use Rattle.lua_tree.specs.declared.scoped.Use.TheVariants as means
use Rattle.lua_tree.specs.declared.syntax.UnaryOperator.{UnaryOperator}
use Rattle.lua_tree.specs.declared.syntax.UnaryOperator.TheVariants as unary
use Rattle.lua_tree.specs.declared.syntax.BinaryOperator.{BinaryOperator}
use Rattle.lua_tree.specs.declared.syntax.BinaryOperator.TheVariants as binary
use Rattle.lua_tree.specs.Tree as tree
use Rattle.lua_tree.specs.Tree.{Exp, Multi, Exps, Function, Block}
use Rattle.lua_tree.specs.Places.{place_of, multi_place}
use Rattle.lua_values.specs.Values.{same_value}
use Rattle.lua_values.specs.declared.value.Value.{Value}
use Rattle.lua_values.specs.declared.value.Value.TheVariants as value
use Rattle.lua_meaning.specs.World.{World, read_cell, pass, recorded, kind_at}
use Rattle.lua_meaning.specs.Environment.{Env, cell_of, use_of, behind}
use Rattle.lua_meaning.specs.Outcomes.{Closure, Outcome, gives, give, go_on, ◌>>=◌, either}
use Rattle.lua_meaning.specs.Locals.{exp_locals}
use Rattle.lua_meaning.specs.Operators.{Answer, value_is, wrong_kind, fails, is_true, operate, operate_on}
use Rattle.lua_meaning.specs.Trees as meant
use Rattle.lua_meaning.specs.Trees.{Caller, Looper, first_of, value_of_use, library_use, library_field, library_value}
use Rattle.lua_meaning.specs.Calls.{limit}
use Rattle.lua_code.specs.declared.code.Proto.{Proto}
use Rattle.lua_code.specs.declared.code.Instr.{Instr}
use Rattle.lua_code.specs.declared.code.Instr.TheVariants as instr
use Rattle.lua_code.specs.declared.frames.Slot.{Slot}
use Rattle.lua_code.specs.declared.frames.Slot.TheVariants as slot
use Rattle.lua_code.specs.declared.frames.Item.{Item}
use Rattle.lua_code.specs.declared.frames.Item.TheVariants as item
use Rattle.lua_code.specs.Configurations.{CodeClosure, Frame, Level, caller, running, calling, go, calls_at_work}
use Rattle.lua_code.specs.Instructions as row
use Rattle.lua_code.specs.Instructions.{Row, act}
use Rattle.lua_code.specs.Steps.{End}
use Rattle.lua_code.specs.Sizes.{exp_size, multi_size, exps_size, exp_functions, exp_slots, multi_slots, exps_slots, block_functions, block_slots}
use Rattle.lua_code.specs.Generated as generated
use Rattle.lua_code.specs.Generated.{Placed, one, Scope, past, taken, from_own, from_captured, captured_from, read_local, read_use, use_in, field_instr, unary_instr, truth_instr, mark_at, binary_code, exp_code, multi_code, list_code, exp_protos, multi_protos, exps_protos, function_protos, captures_in, inner_captured, inside, proto_of, body_code, block_protos}
use Rattle.lua_code.proofs.Faithful.Lists.{HasAt, has_front, has_next, get_set}
use Rattle.lua_code.proofs.Faithful.Lengths.{exp_length, multi_length, list_length, exp_count, block_count}
use Rattle.lua_code.proofs.Faithful.Agreement.{Halts, Alike, AllMade, Made, MadeWith, Owes, Given, Setting, owes_then, owes_map, owes_caller, at_work, Comes, does, comes_by, moved}
use Rattle.lua_code.proofs.Faithful.Names.{Kept, kept_same, kept_set, kept_on, Sees, sees_kept, Found, in_slot, in_captured, nowhere, found, keys_seen, captures_seen}

-- a call does what the call of the meaning does
abbrev pub CallOk : List Proto → ℕ → ℕ → Caller → Type 0
CallOk code n c call = (m : ℕ) → m ≤ n → (p : Pos) (f : Value) (vs : List Value) (w : World) (cs : List Closure) (ks : List CodeClosure) (lv : List Level) (r : End)
    → calls_at_work lv + c ≡ limit → Alike code m w cs ks → Owes code m lv r (Given code lv r) (call p f vs w cs) → Halts code (calling p f vs lv w ks) r

-- the function at work sees what the environment has
pub record Views (sc : Scope) (env : Env) (sl : List Slot) (up : List ℕ) (rest : List Value) : Type 0 where
  pub names : sc.names ≡ env.names
  pub next : sc.next ≡ env.next
  pub more : env.rest ≡ rest
  pub bound : Sees sc.free sc.own sc.captured env.bound sl up

pub views_past : (k : ℕ) (sc : Scope) (env : Env) (sl : List Slot) (up : List ℕ) (rest : List Value) → Views sc env sl up rest → Views (past k sc) (behind k env) sl up rest
views_past k sc env sl up rest v = record { names = v.names; next = ap (λ z. z + k) v.next; more = v.more; bound = v.bound }

pub views_taken : (k : ℕ) (sc : Scope) (env : Env) (sl : List Slot) (up : List ℕ) (rest : List Value) → Views sc env sl up rest → Views (taken k sc) env sl up rest
views_taken k sc env sl up rest v =
    record { names = v.names; next = v.next; more = v.more; bound = sees_kept sc.free (sc.free + k) sc.own sc.captured env.bound sl sl up (Prim.omega arith) (kept_same sc.free sl) v.bound }

pub views_kept : (sc : Scope) (env : Env) (sl sl2 : List Slot) (up : List ℕ) (rest : List Value) → Kept sc.free sl sl2 → Views sc env sl up rest → Views sc env sl2 up rest
views_kept sc env sl sl2 up rest k v =
    record { names = v.names; next = v.next; more = v.more; bound = sees_kept sc.free sc.free sc.own sc.captured env.bound sl sl2 up (Prim.omega arith) k v.bound }

-- values in a row on the stack, the last on the top; and they before others
abbrev pub piled : List Value → List Item → List Item
piled [] st = st
piled (v ∷ vs) st = item.One v ∷ piled vs st

abbrev pub unrev : List Value → List Value → List Value
unrev [] vs = vs
unrev (v ∷ rev) vs = unrev rev (v ∷ vs)

module _ (code : List Proto) (n c : ℕ) (call : Caller) (loop : Looper) (call_ok : CallOk code n c call) (s : Setting code) (deep : calls_at_work s.levels + 1 + c ≡ limit) where
  -- a value is on the stack
  abbrev pub Pushed : ℕ → List Slot → List Item → ℕ → Value → World → List CodeClosure → Type 0
  Pushed d sl st to v w ks = (sl2 : List Slot) → Kept d sl sl2 → Halts code (running (at_work code s to sl2 (item.One v ∷ st)) s.levels w ks) s.end

  -- a list is on the stack
  abbrev pub Listed : ℕ → List Slot → List Item → ℕ → List Value → World → List CodeClosure → Type 0
  Listed d sl st to vs w ks = (sl2 : List Slot) → Kept d sl sl2 → Halts code (running (at_work code s to sl2 (item.Many vs ∷ st)) s.levels w ks) s.end

  -- a list with the values below it is on the stack
  abbrev pub Joined : ℕ → List Slot → List Value → List Item → ℕ → List Value → World → List CodeClosure → Type 0
  Joined d sl rev st to vs w ks = (sl2 : List Slot) → Kept d sl sl2 → Halts code (running (at_work code s to sl2 (item.Many (unrev rev vs) ∷ st)) s.levels w ks) s.end

  abbrev pub ExpOk : Exp → Type 0
  ExpOk e = (m : ℕ) → m ≤ n → (sc : Scope) (base pc : ℕ) (sl : List Slot) (st : List Item) (env : Env) (w : World) (cs : List Closure) (ks : List CodeClosure)
      → HasAt s.placed pc (exp_code e sc base pc) → HasAt code base (exp_protos e sc base) → Views sc env sl s.captured s.rest → sc.free + exp_slots e ≤ length sl → Alike code m w cs ks
      → Owes code m s.levels s.end (Pushed sc.free sl st (pc + exp_size e)) (meant.eval call loop e env w cs)
      → Halts code (running (at_work code s pc sl st) s.levels w ks) s.end

  abbrev pub MultiOk : Multi → Type 0
  MultiOk e = (m : ℕ) → m ≤ n → (sc : Scope) (base pc : ℕ) (sl : List Slot) (st : List Item) (env : Env) (w : World) (cs : List Closure) (ks : List CodeClosure)
      → HasAt s.placed pc (multi_code e sc base pc) → HasAt code base (multi_protos e sc base) → Views sc env sl s.captured s.rest → sc.free + multi_slots e ≤ length sl → Alike code m w cs ks
      → Owes code m s.levels s.end (Listed sc.free sl st (pc + multi_size e)) (meant.eval_multi call loop e env w cs)
      → Halts code (running (at_work code s pc sl st) s.levels w ks) s.end

  abbrev pub ListOk : Exps → Type 0
  ListOk es = (m : ℕ) → m ≤ n → (p : Pos) (count : ℕ) (rev : List Value) → count ≡ length rev → (sc : Scope) (base pc : ℕ) (sl : List Slot) (st : List Item) (env : Env) (w : World) (cs : List Closure) (ks : List CodeClosure)
      → HasAt s.placed pc (list_code es p count sc base pc) → HasAt code base (exps_protos es sc base) → Views sc env sl s.captured s.rest → sc.free + exps_slots es ≤ length sl → Alike code m w cs ks
      → Owes code m s.levels s.end (Joined sc.free sl rev st (pc + exps_size es)) (meant.eval_all call loop es env w cs)
      → Halts code (running (at_work code s pc sl (piled rev st)) s.levels w ks) s.end

  -- ---- single instructions

  -- an instruction that pushes a value which is there
  push_ok : (m d pc : ℕ) (sl : List Slot) (st : List Item) (v : Value) (w : World) (cs : List Closure) (ks : List CodeClosure) (i : Instr) (p : Pos) → slice_get s.placed pc ≡ Some (i, p)
      → act code i p (at_work code s pc sl st) s.levels w ks ≡ go (running (at_work code s (pc + 1) sl (item.One v ∷ st)) s.levels w ks)
      → Alike code m w cs ks → Owes code m s.levels s.end (Pushed d sl st (pc + 1)) (gives v w cs) → Halts code (running (at_work code s pc sl st) s.levels w ks) s.end
  push_ok m d pc sl st v w cs ks i p h e a k = does code s pc sl st w ks i p h (comes_by code s _ _ e (k ks a sl (kept_same d sl)))

  local_ok : (x : ℕ) (sc : Scope) (env : Env) (m pc : ℕ) (sl : List Slot) (st : List Item) (w : World) (cs : List Closure) (ks : List CodeClosure) (p : Pos)
      → Found x sc.own sc.captured env.bound sl s.captured → slice_get s.placed pc ≡ Some (read_local sc x, p) → Alike code m w cs ks
      → Owes code m s.levels s.end (Pushed sc.free sl st (pc + 1)) (gives (read_cell (cell_of env x) w) w cs) → Halts code (running (at_work code s pc sl st) s.levels w ks) s.end
  local_ok x sc env m pc sl st w cs ks p (in_slot t d f g h) has a k =
      push_ok m sc.free pc sl st (read_cell (Some d) w) w cs ks (instr.GetCell t) p
      (has ∙ ap (λ o. Some (from_own (λ s. instr.GetCell s) o (from_captured (λ i. instr.GetUp i) instr.Nil (captured_from 0 x sc.captured)), p)) f)
      (ap (λ o. row.cell_in o (λ c. row.read c) p (at_work code s pc sl st) s.levels w ks) h) a
      (subst (λ z. Owes code m s.levels s.end (Pushed sc.free sl st (pc + 1)) (gives (read_cell z w) w cs)) g k)
  local_ok x sc env m pc sl st w cs ks p (in_captured i d f g h j) has a k =
      push_ok m sc.free pc sl st (read_cell (Some d) w) w cs ks (instr.GetUp i) p
      (has ∙ ap (λ o. Some (from_own (λ s. instr.GetCell s) o (from_captured (λ i. instr.GetUp i) instr.Nil (captured_from 0 x sc.captured)), p)) f ∙ ap (λ o. Some (from_captured (λ i. instr.GetUp i) instr.Nil o, p)) g)
      (ap (λ o. row.this_cell o (λ c. row.read c) p (at_work code s pc sl st) s.levels w ks) j) a
      (subst (λ z. Owes code m s.levels s.end (Pushed sc.free sl st (pc + 1)) (gives (read_cell z w) w cs)) h k)
  local_ok x sc env m pc sl st w cs ks p (nowhere f g h) has a k =
      push_ok m sc.free pc sl st value.Nil w cs ks instr.Nil p
      (has ∙ ap (λ o. Some (from_own (λ s. instr.GetCell s) o (from_captured (λ i. instr.GetUp i) instr.Nil (captured_from 0 x sc.captured)), p)) f ∙ ap (λ o. Some (from_captured (λ i. instr.GetUp i) instr.Nil o, p)) g)
      refl a (subst (λ z. Owes code m s.levels s.end (Pushed sc.free sl st (pc + 1)) (gives (read_cell z w) w cs)) h k)

  use_ok : (u : Option Use) (sc : Scope) (env : Env) (m pc : ℕ) (sl : List Slot) (st : List Item) (w : World) (cs : List Closure) (ks : List CodeClosure) (p : Pos)
      → Sees sc.free sc.own sc.captured env.bound sl s.captured → slice_get s.placed pc ≡ Some (read_use sc u, p) → Alike code m w cs ks
      → Owes code m s.levels s.end (Pushed sc.free sl st (pc + 1)) (value_of_use u env w cs) → Halts code (running (at_work code s pc sl st) s.levels w ks) s.end
  use_ok None sc env m pc sl st w cs ks p v has a k = push_ok m sc.free pc sl st value.Nil w cs ks instr.Nil p has refl a k
  use_ok (Some (means.Local x)) sc env m pc sl st w cs ks p v has a k = local_ok x sc env m pc sl st w cs ks p (found x sc.free sc.own sc.captured env.bound sl s.captured v) has a k
  use_ok (Some (means.Lib l)) sc env m pc sl st w cs ks p v has a k = push_ok m sc.free pc sl st (library_value l) w cs ks (instr.Lib l) p has refl a k

  -- ---- debts at another place, over slots that have changed above

  abbrev pub Reaches : {A : Type 0} → (A → List Item) → ℕ → List Slot → ℕ → A → World → List CodeClosure → Type 0
  Reaches stack d sl to v w ks = (sl2 : List Slot) → Kept d sl sl2 → Halts code (running (at_work code s to sl2 (stack v)) s.levels w ks) s.end

  pub owes_on : {A : Type 0} (stack : A → List Item) (m d d2 to to2 : ℕ) (sl sl2 : List Slot) (o : Outcome A) → d ≤ d2 → to ≡ to2 → Kept d sl sl2
      → Owes code m s.levels s.end (Reaches stack d sl to2) o → Owes code m s.levels s.end (Reaches stack d2 sl2 to) o
  owes_on stack m d d2 to to2 sl sl2 o le e kept h =
      owes_map code m s.levels s.end o (Reaches stack d2 sl2 to) (Reaches stack d sl to2)
      (λ v w ks f sl3 kept3. moved code s to to2 sl3 (stack v) w ks e (f sl3 (kept_on d d2 sl sl2 sl3 le kept kept3))) h

  -- ---- operators

  recorded_alike : (k : ModuleKind) (p : Pos) (m : ℕ) (w : World) (cs : List Closure) (ks : List CodeClosure) → Alike code m w cs ks → Alike code m (recorded k p w) cs ks
  recorded_alike Typed p m w cs ks a = record { few = a.few; made = a.made }
  recorded_alike Untyped p m w cs ks a = a

  pub answered_ok : (x : Answer) (m d pc : ℕ) (sl : List Slot) (st : List Item) (w : World) (cs : List Closure) (ks : List CodeClosure) (p : Pos) → Alike code m w cs ks
      → Owes code m s.levels s.end (Pushed d sl st (pc + 1)) (meant.answered p x w cs) → Comes code s (row.answered x p (at_work code s pc sl st) s.levels w ks)
  answered_ok (value_is v) m d pc sl st w cs ks p a k = k ks a sl (kept_same d sl)
  answered_ok (wrong_kind what) m d pc sl st w cs ks p a k = k ks (recorded_alike (kind_at w p) p m w cs ks a)
  answered_ok (fails what) m d pc sl st w cs ks p a k = k ks a

  unary_row : (o : UnaryOperator) (p : Pos) (f : Frame) (lv : List Level) (w : World) (ks : List CodeClosure) → act code (unary_instr o) p f lv w ks ≡ row.one o p f lv w ks
  unary_row unary.Not p f lv w ks = refl
  unary_row unary.Length p f lv w ks = refl
  unary_row unary.Negate p f lv w ks = refl
  unary_row unary.BitNot p f lv w ks = refl

  unary_ok : (p : Pos) (o : UnaryOperator) (e : Exp) → ExpOk e → ExpOk (tree.unary p o e)
  unary_ok p o e sim m le sc base pc sl st env w cs ks has protos v room a k =
      let ce : Placed = exp_code e sc base pc in
      let h : HasAt s.placed (pc + exp_size e) (one (unary_instr o) p) = has_next s.placed pc (pc + exp_size e) ce (one (unary_instr o) p) (ap (λ z. pc + z) (exp_length e sc base pc)) has in
      sim m le sc base pc sl st env w cs ks (has_front s.placed pc ce (one (unary_instr o) p) has) protos v room a
      (owes_then code m s.levels s.end (meant.eval call loop e env w cs) (λ u. meant.answered p (operate_on o u)) (Pushed sc.free sl st (pc + exp_size e)) (Pushed sc.free sl st (pc + (exp_size e + 1)))
      (λ u w1 cs1 ks1 a1 k1 sl2 kept.
      does code s (pc + exp_size e) sl2 (item.One u ∷ st) w1 ks1 (unary_instr o) p h.0
      (comes_by code s _ _ (unary_row o p (at_work code s (pc + exp_size e) sl2 (item.One u ∷ st)) s.levels w1 ks1)
      (answered_ok (operate_on o u) m sc.free (pc + exp_size e) sl2 st w1 cs1 ks1 p a1
      (owes_on (λ x. item.One x ∷ st) m sc.free sc.free (pc + exp_size e + 1) (pc + (exp_size e + 1)) sl sl2 (meant.answered p (operate_on o u) w1 cs1) (Prim.omega arith) (Prim.omega arith) kept k1)))) k)

  -- both operands and an instruction behind them
  strict_ok : (o : BinaryOperator) (i : Instr) → ((p : Pos) (f : Frame) (w : World) (ks : List CodeClosure) → act code i p f s.levels w ks ≡ row.two o p f s.levels w ks)
      → (p : Pos) (x y : Exp) → ExpOk x → ExpOk y
      → (m : ℕ) → m ≤ n → (sc : Scope) (base pc : ℕ) (sl : List Slot) (st : List Item) (env : Env) (w : World) (cs : List Closure) (ks : List CodeClosure)
      → HasAt s.placed pc (exp_code x sc base pc ++ (exp_code y (taken 0 (past (exp_locals x) sc)) (base + exp_functions x) (pc + exp_size x + 0) ++ one i p))
      → HasAt code base (exp_protos x sc base ++ exp_protos y (taken 0 (past (exp_locals x) sc)) (base + exp_functions x))
      → Views sc env sl s.captured s.rest → sc.free + max (exp_slots x) (0 + exp_slots y) ≤ length sl → Alike code m w cs ks
      → Owes code m s.levels s.end (Pushed sc.free sl st (pc + (exp_size x + exp_size y + 1)))
      (go_on (meant.eval call loop x env w cs) (λ u w1 cs1. go_on (meant.eval call loop y (behind (exp_locals x) env) w1 cs1) (λ v. meant.answered p (operate o u v))))
      → Halts code (running (at_work code s pc sl st) s.levels w ks) s.end
  strict_ok o i same p x y sim_x sim_y m le sc base pc sl st env w cs ks has protos v room a k =
      let sy : Scope = taken 0 (past (exp_locals x) sc) in
      let cx : Placed = exp_code x sc base pc in
      let cy : Placed = exp_code y sy (base + exp_functions x) (pc + exp_size x + 0) in
      let at_y : pc + length cx ≡ pc + exp_size x + 0 = let e : length cx ≡ exp_size x = exp_length x sc base pc in Prim.omega (arith, e) in
      let h1 : HasAt s.placed (pc + exp_size x + 0) (cy ++ one i p) = has_next s.placed pc (pc + exp_size x + 0) cx (cy ++ one i p) at_y has in
      let h2 : HasAt s.placed (pc + exp_size x + 0 + exp_size y) (one i p) =
      has_next s.placed (pc + exp_size x + 0) (pc + exp_size x + 0 + exp_size y) cy (one i p) (ap (λ z. pc + exp_size x + 0 + z) (exp_length y sy (base + exp_functions x) (pc + exp_size x + 0))) h1 in
      let q1 : HasAt code (base + exp_functions x) (exp_protos y sy (base + exp_functions x)) =
      has_next code base (base + exp_functions x) (exp_protos x sc base) (exp_protos y sy (base + exp_functions x)) (ap (λ z. base + z) (exp_count x sc base)) protos in
      sim_x m le sc base pc sl st env w cs ks (has_front s.placed pc cx (cy ++ one i p) has) (has_front code base (exp_protos x sc base) (exp_protos y sy (base + exp_functions x)) protos) v (Prim.omega (arith, room)) a
      (owes_then code m s.levels s.end (meant.eval call loop x env w cs) _ (Pushed sc.free sl st (pc + exp_size x)) (Pushed sc.free sl st (pc + (exp_size x + exp_size y + 1)))
      (λ u w1 cs1 ks1 a1 k1 sl2 kept.
      let long : length sl2 ≡ length sl = kept.long in
      moved code s (pc + exp_size x) (pc + exp_size x + 0) sl2 (item.One u ∷ st) w1 ks1 (Prim.omega arith)
      (sim_y m le sy (base + exp_functions x) (pc + exp_size x + 0) sl2 (item.One u ∷ st) (behind (exp_locals x) env) w1 cs1 ks1 (has_front s.placed (pc + exp_size x + 0) cy (one i p) h1) q1
      (views_taken 0 (past (exp_locals x) sc) (behind (exp_locals x) env) sl2 s.captured s.rest (views_past (exp_locals x) sc env sl2 s.captured s.rest (views_kept sc env sl sl2 s.captured s.rest kept v)))
      (Prim.omega (arith, room, long)) a1
      (owes_then code m s.levels s.end (meant.eval call loop y (behind (exp_locals x) env) w1 cs1) (λ v. meant.answered p (operate o u v)) (Pushed (sc.free + 0) sl2 (item.One u ∷ st) (pc + exp_size x + 0 + exp_size y)) (Pushed sc.free sl st (pc + (exp_size x + exp_size y + 1)))
      (λ t w2 cs2 ks2 a2 k2 sl3 kept3.
      does code s (pc + exp_size x + 0 + exp_size y) sl3 (item.One t ∷ item.One u ∷ st) w2 ks2 i p h2.0
      (comes_by code s _ _ (same p (at_work code s (pc + exp_size x + 0 + exp_size y) sl3 (item.One t ∷ item.One u ∷ st)) w2 ks2)
      (answered_ok (operate o u t) m sc.free (pc + exp_size x + 0 + exp_size y) sl3 st w2 cs2 ks2 p a2
      (owes_on (λ z. item.One z ∷ st) m sc.free sc.free (pc + exp_size x + 0 + exp_size y + 1) (pc + (exp_size x + exp_size y + 1)) sl sl3 (meant.answered p (operate o u t) w2 cs2) (Prim.omega arith) (Prim.omega arith)
      (kept_on sc.free (sc.free + 0) sl sl2 sl3 (Prim.omega arith) kept kept3) k2)))) k1))) k)

  -- the right operand only where the left one isn't kept
  kept_ok : (test : Value → Bool) (i : Instr) (end : ℕ) → ((p : Pos) (f : Frame) (w : World) (ks : List CodeClosure) → act code i p f s.levels w ks ≡ row.pop_value (λ v. row.keep_where (test v) end v) p f s.levels w ks)
      → (p : Pos) (x y : Exp) → ExpOk x → ExpOk y
      → (m : ℕ) → m ≤ n → (sc : Scope) (base pc : ℕ) (sl : List Slot) (st : List Item) (env : Env) (w : World) (cs : List Closure) (ks : List CodeClosure)
      → pc + (exp_size x + exp_size y + 1) ≡ end
      → HasAt s.placed pc (exp_code x sc base pc ++ (i, p) ∷ exp_code y (taken 0 (past (exp_locals x) sc)) (base + exp_functions x) (pc + exp_size x + 1))
      → HasAt code base (exp_protos x sc base ++ exp_protos y (taken 0 (past (exp_locals x) sc)) (base + exp_functions x))
      → Views sc env sl s.captured s.rest → sc.free + max (exp_slots x) (0 + exp_slots y) ≤ length sl → Alike code m w cs ks
      → Owes code m s.levels s.end (Pushed sc.free sl st (pc + (exp_size x + exp_size y + 1)))
      (go_on (meant.eval call loop x env w cs) (λ u. either (test u) (give u) (meant.eval call loop y (behind (exp_locals x) env) >>= (λ v. give v))))
      → Halts code (running (at_work code s pc sl st) s.levels w ks) s.end
  kept_ok test i end same p x y sim_x sim_y m le sc base pc sl st env w cs ks at_end has protos v room a k =
      let sy : Scope = taken 0 (past (exp_locals x) sc) in
      let cx : Placed = exp_code x sc base pc in
      let cy : Placed = exp_code y sy (base + exp_functions x) (pc + exp_size x + 1) in
      let h1 : HasAt s.placed (pc + exp_size x) ((i, p) ∷ cy) = has_next s.placed pc (pc + exp_size x) cx ((i, p) ∷ cy) (ap (λ z. pc + z) (exp_length x sc base pc)) has in
      let q1 : HasAt code (base + exp_functions x) (exp_protos y sy (base + exp_functions x)) =
      has_next code base (base + exp_functions x) (exp_protos x sc base) (exp_protos y sy (base + exp_functions x)) (ap (λ z. base + z) (exp_count x sc base)) protos in
      sim_x m le sc base pc sl st env w cs ks (has_front s.placed pc cx ((i, p) ∷ cy) has) (has_front code base (exp_protos x sc base) (exp_protos y sy (base + exp_functions x)) protos) v (Prim.omega (arith, room)) a
      (owes_then code m s.levels s.end (meant.eval call loop x env w cs) _ (Pushed sc.free sl st (pc + exp_size x)) (Pushed sc.free sl st (pc + (exp_size x + exp_size y + 1)))
      (λ u w1 cs1 ks1 a1 k1 sl2 kept.
      does code s (pc + exp_size x) sl2 (item.One u ∷ st) w1 ks1 i p h1.0
      (comes_by code s _ _ (same p (at_work code s (pc + exp_size x) sl2 (item.One u ∷ st)) w1 ks1) (branch cy h1.1 q1 u w1 cs1 ks1 a1 sl2 kept (test u) k1))) k)
    where
      branch : (cy : Placed) → HasAt s.placed (pc + exp_size x + 1) (exp_code y (taken 0 (past (exp_locals x) sc)) (base + exp_functions x) (pc + exp_size x + 1))
          → HasAt code (base + exp_functions x) (exp_protos y (taken 0 (past (exp_locals x) sc)) (base + exp_functions x))
          → (u : Value) (w1 : World) (cs1 : List Closure) (ks1 : List CodeClosure) → Alike code m w1 cs1 ks1 → (sl2 : List Slot) → Kept sc.free sl sl2 → (t : Bool)
          → Owes code m s.levels s.end (Pushed sc.free sl st (pc + (exp_size x + exp_size y + 1))) (either t (give u) (meant.eval call loop y (behind (exp_locals x) env) >>= (λ v. give v)) w1 cs1)
          → Comes code s (row.keep_where t end u p (at_work code s (pc + exp_size x) sl2 st) s.levels w1 ks1)
      branch cy h q u w1 cs1 ks1 a1 sl2 kept true k1 = moved code s end (pc + (exp_size x + exp_size y + 1)) sl2 (item.One u ∷ st) w1 ks1 (sym at_end) (k1 ks1 a1 sl2 kept)
      branch cy h q u w1 cs1 ks1 a1 sl2 kept false k1 =
          let long : length sl2 ≡ length sl = kept.long in
          sim_y m le (taken 0 (past (exp_locals x) sc)) (base + exp_functions x) (pc + exp_size x + 1) sl2 st (behind (exp_locals x) env) w1 cs1 ks1 h q
          (views_taken 0 (past (exp_locals x) sc) (behind (exp_locals x) env) sl2 s.captured s.rest (views_past (exp_locals x) sc env sl2 s.captured s.rest (views_kept sc env sl sl2 s.captured s.rest kept v)))
          (Prim.omega (arith, room, long)) a1
          (owes_then code m s.levels s.end (meant.eval call loop y (behind (exp_locals x) env) w1 cs1) (λ v. give v) (Pushed (sc.free + 0) sl2 st (pc + exp_size x + 1 + exp_size y)) (Pushed sc.free sl st (pc + (exp_size x + exp_size y + 1)))
          (λ t w2 cs2 ks2 a2 k2 sl3 kept3.
          moved code s (pc + exp_size x + 1 + exp_size y) (pc + (exp_size x + exp_size y + 1)) sl3 (item.One t ∷ st) w2 ks2 (Prim.omega arith)
          (k2 ks2 a2 sl3 (kept_on sc.free (sc.free + 0) sl sl2 sl3 (Prim.omega arith) kept kept3))) k1)

  -- the left operand waits in a slot
  swapped_ok : (o back : BinaryOperator) (i : Instr) → ((p : Pos) (f : Frame) (w : World) (ks : List CodeClosure) → act code i p f s.levels w ks ≡ row.two back p f s.levels w ks)
      → ((u v : Value) → operate o u v ≡ operate back v u)
      → (p : Pos) (x y : Exp) → ExpOk x → ExpOk y
      → (m : ℕ) → m ≤ n → (sc : Scope) (base pc : ℕ) (sl : List Slot) (st : List Item) (env : Env) (w : World) (cs : List Closure) (ks : List CodeClosure)
      → HasAt s.placed pc (exp_code x sc base pc ++ (instr.SetSlot sc.free, p) ∷ (exp_code y (taken 1 (past (exp_locals x) sc)) (base + exp_functions x) (pc + exp_size x + 1) ++ (instr.GetSlot sc.free, p) ∷ one i p))
      → HasAt code base (exp_protos x sc base ++ exp_protos y (taken 1 (past (exp_locals x) sc)) (base + exp_functions x))
      → Views sc env sl s.captured s.rest → sc.free + max (exp_slots x) (1 + exp_slots y) ≤ length sl → Alike code m w cs ks
      → Owes code m s.levels s.end (Pushed sc.free sl st (pc + (exp_size x + exp_size y + 3)))
      (go_on (meant.eval call loop x env w cs) (λ u w1 cs1. go_on (meant.eval call loop y (behind (exp_locals x) env) w1 cs1) (λ v. meant.answered p (operate o u v))))
      → Halts code (running (at_work code s pc sl st) s.levels w ks) s.end
  swapped_ok o back i same flip p x y sim_x sim_y m le sc base pc sl st env w cs ks has protos v room a k =
      let sy : Scope = taken 1 (past (exp_locals x) sc) in
      let cx : Placed = exp_code x sc base pc in
      let cy : Placed = exp_code y sy (base + exp_functions x) (pc + exp_size x + 1) in
      let end : Placed = (instr.GetSlot sc.free, p) ∷ one i p in
      let h1 : HasAt s.placed (pc + exp_size x) ((instr.SetSlot sc.free, p) ∷ (cy ++ end)) = has_next s.placed pc (pc + exp_size x) cx ((instr.SetSlot sc.free, p) ∷ (cy ++ end)) (ap (λ z. pc + z) (exp_length x sc base pc)) has in
      let h2 : HasAt s.placed (pc + exp_size x + 1 + exp_size y) end =
      has_next s.placed (pc + exp_size x + 1) (pc + exp_size x + 1 + exp_size y) cy end (ap (λ z. pc + exp_size x + 1 + z) (exp_length y sy (base + exp_functions x) (pc + exp_size x + 1))) h1.1 in
      let q1 : HasAt code (base + exp_functions x) (exp_protos y sy (base + exp_functions x)) =
      has_next code base (base + exp_functions x) (exp_protos x sc base) (exp_protos y sy (base + exp_functions x)) (ap (λ z. base + z) (exp_count x sc base)) protos in
      sim_x m le sc base pc sl st env w cs ks (has_front s.placed pc cx ((instr.SetSlot sc.free, p) ∷ (cy ++ end)) has) (has_front code base (exp_protos x sc base) (exp_protos y sy (base + exp_functions x)) protos) v (Prim.omega (arith, room)) a
      (owes_then code m s.levels s.end (meant.eval call loop x env w cs) _ (Pushed sc.free sl st (pc + exp_size x)) (Pushed sc.free sl st (pc + (exp_size x + exp_size y + 3)))
      (λ u w1 cs1 ks1 a1 k1 sl2 kept.
      let long : length sl2 ≡ length sl = kept.long in
      let sl3 : List Slot = slice_set sl2 sc.free (slot.Held u) in
      let kept3 : Kept sc.free sl sl3 = kept_on sc.free sc.free sl sl2 sl3 (Prim.omega arith) kept (kept_set sc.free sc.free sl2 (slot.Held u) (Prim.omega arith)) in
      let long3 : length sl3 ≡ length sl = kept3.long in
      does code s (pc + exp_size x) sl2 (item.One u ∷ st) w1 ks1 (instr.SetSlot sc.free) p h1.0
      (sim_y m le sy (base + exp_functions x) (pc + exp_size x + 1) sl3 st (behind (exp_locals x) env) w1 cs1 ks1 (has_front s.placed (pc + exp_size x + 1) cy end h1.1) q1
      (views_taken 1 (past (exp_locals x) sc) (behind (exp_locals x) env) sl3 s.captured s.rest (views_past (exp_locals x) sc env sl3 s.captured s.rest (views_kept sc env sl sl3 s.captured s.rest kept3 v)))
      (Prim.omega (arith, room, long3)) a1
      (owes_then code m s.levels s.end (meant.eval call loop y (behind (exp_locals x) env) w1 cs1) (λ v. meant.answered p (operate o u v)) (Pushed (sc.free + 1) sl3 st (pc + exp_size x + 1 + exp_size y)) (Pushed sc.free sl st (pc + (exp_size x + exp_size y + 3)))
      (λ t w2 cs2 ks2 a2 k2 sl4 kept4.
      let waits : slice_get sl4 sc.free ≡ Some (slot.Held u) = kept4.low sc.free (Prim.omega arith) ∙ get_set sl2 sc.free (slot.Held u) (Prim.omega (arith, room, long)) in
      does code s (pc + exp_size x + 1 + exp_size y) sl4 (item.One t ∷ st) w2 ks2 (instr.GetSlot sc.free) p h2.0
      (comes_by code s _ _ (ap (λ z. row.value_in z (λ v. row.push_value v) p (at_work code s (pc + exp_size x + 1 + exp_size y) sl4 (item.One t ∷ st)) s.levels w2 ks2) waits)
      (does code s (pc + exp_size x + 1 + exp_size y + 1) sl4 (item.One u ∷ item.One t ∷ st) w2 ks2 i p h2.1.0
      (comes_by code s _ _ (same p (at_work code s (pc + exp_size x + 1 + exp_size y + 1) sl4 (item.One u ∷ item.One t ∷ st)) w2 ks2)
      (answered_ok (operate back t u) m sc.free (pc + exp_size x + 1 + exp_size y + 1) sl4 st w2 cs2 ks2 p a2
      (owes_on (λ z. item.One z ∷ st) m sc.free sc.free (pc + exp_size x + 1 + exp_size y + 1 + 1) (pc + (exp_size x + exp_size y + 3)) sl sl4 (meant.answered p (operate back t u) w2 cs2) (Prim.omega arith) (Prim.omega arith)
      (kept_on sc.free (sc.free + 1) sl sl3 sl4 (Prim.omega arith) kept3 kept4) (subst (λ z. Owes code m s.levels s.end (Pushed sc.free sl st (pc + (exp_size x + exp_size y + 3))) (meant.answered p z w2 cs2)) (flip u t) k2)))))))
      k1))) k)

  -- `~=` is `==` and `not`
  differs_ok : (p : Pos) (x y : Exp) → ExpOk x → ExpOk y → ExpOk (tree.binary p binary.NotEqual x y)
  differs_ok p x y sim_x sim_y m le sc base pc sl st env w cs ks has protos v room a k =
      let sy : Scope = taken 0 (past (exp_locals x) sc) in
      let cx : Placed = exp_code x sc base pc in
      let cy : Placed = exp_code y sy (base + exp_functions x) (pc + exp_size x + 0) in
      let end : Placed = (instr.Eq, p) ∷ one instr.Not p in
      let at_y : pc + length cx ≡ pc + exp_size x + 0 = let e : length cx ≡ exp_size x = exp_length x sc base pc in Prim.omega (arith, e) in
      let h1 : HasAt s.placed (pc + exp_size x + 0) (cy ++ end) = has_next s.placed pc (pc + exp_size x + 0) cx (cy ++ end) at_y has in
      let h2 : HasAt s.placed (pc + exp_size x + 0 + exp_size y) end =
      has_next s.placed (pc + exp_size x + 0) (pc + exp_size x + 0 + exp_size y) cy end (ap (λ z. pc + exp_size x + 0 + z) (exp_length y sy (base + exp_functions x) (pc + exp_size x + 0))) h1 in
      let q1 : HasAt code (base + exp_functions x) (exp_protos y sy (base + exp_functions x)) =
      has_next code base (base + exp_functions x) (exp_protos x sc base) (exp_protos y sy (base + exp_functions x)) (ap (λ z. base + z) (exp_count x sc base)) protos in
      sim_x m le sc base pc sl st env w cs ks (has_front s.placed pc cx (cy ++ end) has) (has_front code base (exp_protos x sc base) (exp_protos y sy (base + exp_functions x)) protos) v (Prim.omega (arith, room)) a
      (owes_then code m s.levels s.end (meant.eval call loop x env w cs) _ (Pushed sc.free sl st (pc + exp_size x)) (Pushed sc.free sl st (pc + (exp_size x + exp_size y + 2)))
      (λ u w1 cs1 ks1 a1 k1 sl2 kept.
      let long : length sl2 ≡ length sl = kept.long in
      moved code s (pc + exp_size x) (pc + exp_size x + 0) sl2 (item.One u ∷ st) w1 ks1 (Prim.omega arith)
      (sim_y m le sy (base + exp_functions x) (pc + exp_size x + 0) sl2 (item.One u ∷ st) (behind (exp_locals x) env) w1 cs1 ks1 (has_front s.placed (pc + exp_size x + 0) cy end h1) q1
      (views_taken 0 (past (exp_locals x) sc) (behind (exp_locals x) env) sl2 s.captured s.rest (views_past (exp_locals x) sc env sl2 s.captured s.rest (views_kept sc env sl sl2 s.captured s.rest kept v)))
      (Prim.omega (arith, room, long)) a1
      (owes_then code m s.levels s.end (meant.eval call loop y (behind (exp_locals x) env) w1 cs1) (λ v. meant.answered p (operate binary.NotEqual u v)) (Pushed (sc.free + 0) sl2 (item.One u ∷ st) (pc + exp_size x + 0 + exp_size y)) (Pushed sc.free sl st (pc + (exp_size x + exp_size y + 2)))
      (λ t w2 cs2 ks2 a2 k2 sl3 kept3.
      does code s (pc + exp_size x + 0 + exp_size y) sl3 (item.One t ∷ item.One u ∷ st) w2 ks2 instr.Eq p h2.0
      (does code s (pc + exp_size x + 0 + exp_size y + 1) sl3 (item.One (value.Bool (same_value u t)) ∷ st) w2 ks2 instr.Not p h2.1.0
      (moved code s (pc + exp_size x + 0 + exp_size y + 1 + 1) (pc + (exp_size x + exp_size y + 2)) sl3 (item.One (value.Bool (not (same_value u t))) ∷ st) w2 ks2 (Prim.omega arith)
      (k2 ks2 a2 sl3 (kept_on sc.free (sc.free + 0) sl sl2 sl3 (Prim.omega arith) kept kept3))))) k1))) k)

  -- ---- marks, first values, functions, names

  passed_alike : (x : Crossing) (m : ℕ) (w : World) (cs : List Closure) (ks : List CodeClosure) → Alike code m w cs ks → Alike code m (pass x w) cs ks
  passed_alike x m w cs ks a = record { few = a.few; made = a.made }

  mark_ok : (k : CrossKind) (e : Exp) → ExpOk e → ExpOk (tree.mark k e)
  mark_ok k e sim m le sc base pc sl st env w cs ks has protos v room a debt =
      let ce : Placed = exp_code e sc base pc in
      let h : HasAt s.placed (pc + exp_size e) (mark_at k (place_of e)) = has_next s.placed pc (pc + exp_size e) ce (mark_at k (place_of e)) (ap (λ z. pc + z) (exp_length e sc base pc)) has in
      sim m le sc base pc sl st env w cs ks (has_front s.placed pc ce (mark_at k (place_of e)) has) protos v room a
      (owes_then code m s.levels s.end (meant.eval call loop e env w cs) _ (Pushed sc.free sl st (pc + exp_size e)) (Pushed sc.free sl st (pc + (exp_size e + 1)))
      (λ u w1 cs1 ks1 a1 k1 sl2 kept.
      does code s (pc + exp_size e) sl2 (item.One u ∷ st) w1 ks1 (instr.Mark k (place_of e).line (place_of e).column) (place_of e) h.0
      (moved code s (pc + exp_size e + 1) (pc + (exp_size e + 1)) sl2 (item.One u ∷ st) _ ks1 (Prim.omega arith)
      (k1 ks1 (passed_alike _ m w1 cs1 ks1 a1) sl2 kept))) debt)

  mark_all_ok : (k : CrossKind) (e : Multi) → MultiOk e → MultiOk (tree.mark_all k e)
  mark_all_ok k e sim m le sc base pc sl st env w cs ks has protos v room a debt =
      let ce : Placed = multi_code e sc base pc in
      let h : HasAt s.placed (pc + multi_size e) (mark_at k (multi_place e)) = has_next s.placed pc (pc + multi_size e) ce (mark_at k (multi_place e)) (ap (λ z. pc + z) (multi_length e sc base pc)) has in
      sim m le sc base pc sl st env w cs ks (has_front s.placed pc ce (mark_at k (multi_place e)) has) protos v room a
      (owes_then code m s.levels s.end (meant.eval_multi call loop e env w cs) _ (Listed sc.free sl st (pc + multi_size e)) (Listed sc.free sl st (pc + (multi_size e + 1)))
      (λ vs w1 cs1 ks1 a1 k1 sl2 kept.
      does code s (pc + multi_size e) sl2 (item.Many vs ∷ st) w1 ks1 (instr.Mark k (multi_place e).line (multi_place e).column) (multi_place e) h.0
      (moved code s (pc + multi_size e + 1) (pc + (multi_size e + 1)) sl2 (item.Many vs ∷ st) _ ks1 (Prim.omega arith)
      (k1 ks1 (passed_alike _ m w1 cs1 ks1 a1) sl2 kept))) debt)

  first_ok : (e : Multi) → MultiOk e → ExpOk (tree.one_of e)
  first_ok e sim m le sc base pc sl st env w cs ks has protos v room a debt =
      let ce : Placed = multi_code e sc base pc in
      let h : HasAt s.placed (pc + multi_size e) (one instr.First (multi_place e)) = has_next s.placed pc (pc + multi_size e) ce (one instr.First (multi_place e)) (ap (λ z. pc + z) (multi_length e sc base pc)) has in
      sim m le sc base pc sl st env w cs ks (has_front s.placed pc ce (one instr.First (multi_place e)) has) protos v room a
      (owes_then code m s.levels s.end (meant.eval_multi call loop e env w cs) (λ vs. give (first_of vs)) (Listed sc.free sl st (pc + multi_size e)) (Pushed sc.free sl st (pc + (multi_size e + 1)))
      (λ vs w1 cs1 ks1 a1 k1 sl2 kept.
      does code s (pc + multi_size e) sl2 (item.Many vs ∷ st) w1 ks1 instr.First (multi_place e) h.0
      (moved code s (pc + multi_size e + 1) (pc + (multi_size e + 1)) sl2 (item.One (first_of vs) ∷ st) w1 ks1 (Prim.omega arith)
      (k1 ks1 a1 sl2 kept))) debt)

  made_long : (cs : List Closure) (ks : List CodeClosure) → AllMade code cs ks → length cs ≡ length ks
  made_long [] [] h = refl
  made_long [] (q ∷ qs) h = absurd h
  made_long (k ∷ cs) [] h = absurd h
  made_long (k ∷ cs) (q ∷ qs) h = ap suc (made_long cs qs h.1)

  made_more : (cs : List Closure) (ks : List CodeClosure) (k : Closure) (q : CodeClosure) → AllMade code cs ks → Made code k q → AllMade code (cs ++ k ∷ []) (ks ++ q ∷ [])
  made_more [] [] k q h g = (g, tt)
  made_more [] (r ∷ qs) k q h g = absurd h
  made_more (j ∷ cs) [] k q h g = absurd h
  made_more (j ∷ cs) (r ∷ qs) k q h g = (h.0, made_more cs qs k q h.1 g)

  function_ok : (p : Pos) (f : Function) → ExpOk (tree.function p f)
  function_ok p (tree.function_of ps rest rs b) m le sc base pc sl st env w cs ks has protos v room a debt =
      let inner : List Proto = block_protos b (inside (length ps) sc) base in
      let proto : Proto = proto_of (length ps) (is_some rest) (captures_in sc) (length ps + block_slots b) (body_code (length ps) b p (inside (length ps) sc) base) in
      let there : HasAt code (base + block_functions b) (proto ∷ []) = has_next code base (base + block_functions b) inner (proto ∷ []) (ap (λ z. base + z) (block_count b (inside (length ps) sc) base)) protos in
      let q : CodeClosure = record { function = base + block_functions b; cells = map (λ b. b.1) env.bound } in
      let made : MadeWith code ps rest b env q = record {
        scope = sc;
        base = base;
        place = p;
        names = v.names;
        next = v.next;
        keys = keys_seen sc.free sc.own sc.captured env.bound sl s.captured v.bound;
        cells = refl;
        proto = there.0;
        inner = has_front code base inner (proto ∷ []) protos;
      } in
      let many : length cs ≡ length ks = made_long cs ks a.made in
      does code s pc sl st w ks (instr.Closure (base + block_functions b)) p has.0
      (comes_by code s _ _ (ap (λ z. row.close (base + block_functions b) z p (at_work code s pc sl st) s.levels w ks) there.0
      ∙ captures_seen sc.free sc.own sc.captured env.bound (λ cells. row.new_closure (base + block_functions b) cells) p (at_work code s pc sl st) s.levels w ks v.bound)
      (subst (λ z. Halts code (running (at_work code s (pc + 1) sl (item.One (value.Closure (z + 1)) ∷ st)) s.levels w (ks ++ q ∷ [])) s.end) many
      (debt (ks ++ q ∷ []) (record { few = a.few; made = made_more cs ks (record { function = tree.function_of ps rest rs b; env = env }) q a.made made }) sl (kept_same sc.free sl))))

  name_ok : (p : Pos) (u : ℕ) (t : List ℕ) → ExpOk (tree.name p u t)
  name_ok p u t m le sc base pc sl st env w cs ks has protos v room a debt =
      use_ok (use_of env u) sc env m pc sl st w cs ks p v.bound (has.0 ∙ ap (λ z. Some (read_use sc (slice_get z.uses u), p)) v.names) a debt

  library_use_ok : (u : Option Use) (m d pc : ℕ) (sl : List Slot) (st : List Item) (w : World) (cs : List Closure) (ks : List CodeClosure) (p : Pos) → slice_get s.placed pc ≡ Some (generated.library_use u, p) → Alike code m w cs ks
      → Owes code m s.levels s.end (Pushed d sl st (pc + 1)) (library_use u w cs) → Halts code (running (at_work code s pc sl st) s.levels w ks) s.end
  library_use_ok None m d pc sl st w cs ks p has a k = push_ok m d pc sl st value.Nil w cs ks instr.Nil p has refl a k
  library_use_ok (Some (means.Local x)) m d pc sl st w cs ks p has a k = push_ok m d pc sl st value.Nil w cs ks instr.Nil p has refl a k
  library_use_ok (Some (means.Lib l)) m d pc sl st w cs ks p has a k = push_ok m d pc sl st (library_value l) w cs ks (instr.Lib l) p has refl a k

  field_ok : (e : Exp) (m : ℕ) (sc : Scope) (pc : ℕ) (sl : List Slot) (st : List Item) (env : Env) (w : World) (cs : List Closure) (ks : List CodeClosure) (p : Pos) → slice_get s.placed pc ≡ Some (field_instr e sc, p) → sc.names ≡ env.names
      → Alike code m w cs ks → Owes code m s.levels s.end (Pushed sc.free sl st (pc + 1)) (library_field e env w cs) → Halts code (running (at_work code s pc sl st) s.levels w ks) s.end
  field_ok (tree.name q u t) m sc pc sl st env w cs ks p has same a k =
      library_use_ok (use_of env u) m sc.free pc sl st w cs ks p (has ∙ ap (λ z. Some (generated.library_use (slice_get z.uses u), p)) same) a k
  field_ok (tree.mark j e) m sc pc sl st env w cs ks p has same a k = field_ok e m sc pc sl st env w cs ks p has same a k
  field_ok e m sc pc sl st env w cs ks p has same a k = push_ok m sc.free pc sl st value.Nil w cs ks instr.Nil p has refl a k

  -- ---- lists

  packed : (rev vs : List Value) (next : List Value → Row) (p : Pos) (pc : ℕ) (sl : List Slot) (st : List Item) (w : World) (ks : List CodeClosure)
      → row.pop_values (length rev) vs next p (at_work code s pc sl (piled rev st)) s.levels w ks ≡ next (unrev rev vs) p (at_work code s pc sl st) s.levels w ks
  packed [] vs next p pc sl st w ks = refl
  packed (v ∷ rev) vs next p pc sl st w ks = packed rev (v ∷ vs) next p pc sl st w ks

  none_ok : ListOk tree.none
  none_ok m le p count rev e sc base pc sl st env w cs ks has protos v room a debt =
      does code s pc sl (piled rev st) w ks (instr.Pack count) p has.0
      (comes_by code s _ _ (ap (λ z. row.pop_values z [] (λ vs. row.push (item.Many vs)) p (at_work code s pc sl (piled rev st)) s.levels w ks) e ∙ packed rev [] (λ vs. row.push (item.Many vs)) p pc sl st w ks)
      (debt ks a sl (kept_same sc.free sl)))

  ends_ok : (e : Multi) → MultiOk e → ListOk (tree.ends e)
  ends_ok e sim m le p count rev eq sc base pc sl st env w cs ks has protos v room a debt =
      let ce : Placed = multi_code e sc base pc in
      let h : HasAt s.placed (pc + multi_size e) (one (instr.Cons count) p) = has_next s.placed pc (pc + multi_size e) ce (one (instr.Cons count) p) (ap (λ z. pc + z) (multi_length e sc base pc)) has in
      sim m le sc base pc sl (piled rev st) env w cs ks (has_front s.placed pc ce (one (instr.Cons count) p) has) protos v room a
      (owes_map code m s.levels s.end (meant.eval_multi call loop e env w cs) (Listed sc.free sl (piled rev st) (pc + multi_size e)) (Joined sc.free sl rev st (pc + (multi_size e + 1)))
      (λ vs w1 ks1 k1 sl2 kept.
      does code s (pc + multi_size e) sl2 (item.Many vs ∷ piled rev st) w1 ks1 (instr.Cons count) p h.0
      (comes_by code s _ _ (ap (λ z. row.pop_values z vs (λ vs. row.push (item.Many vs)) p (at_work code s (pc + multi_size e) sl2 (piled rev st)) s.levels w1 ks1) eq ∙ packed rev vs (λ vs. row.push (item.Many vs)) p (pc + multi_size e) sl2 st w1 ks1)
      (moved code s (pc + multi_size e + 1) (pc + (multi_size e + 1)) sl2 (item.Many (unrev rev vs) ∷ st) w1 ks1 (Prim.omega arith) (k1 sl2 kept)))) debt)

  more_ok : (e : Exp) (es : Exps) → ExpOk e → ListOk es → ListOk (tree.more e es)
  more_ok e es sim sims m le p count rev eq sc base pc sl st env w cs ks has protos v room a debt =
      let se : Scope = past (exp_locals e) sc in
      let ce : Placed = exp_code e sc base pc in
      let cr : Placed = list_code es p (count + 1) se (base + exp_functions e) (pc + exp_size e) in
      let h : HasAt s.placed (pc + exp_size e) cr = has_next s.placed pc (pc + exp_size e) ce cr (ap (λ z. pc + z) (exp_length e sc base pc)) has in
      let pr : List Proto = exps_protos es se (base + exp_functions e) in
      let q : HasAt code (base + exp_functions e) pr = has_next code base (base + exp_functions e) (exp_protos e sc base) pr (ap (λ z. base + z) (exp_count e sc base)) protos in
      sim m le sc base pc sl (piled rev st) env w cs ks (has_front s.placed pc ce cr has) (has_front code base (exp_protos e sc base) pr protos) v (Prim.omega (arith, room)) a
      (owes_then code m s.levels s.end (meant.eval call loop e env w cs) _ (Pushed sc.free sl (piled rev st) (pc + exp_size e)) (Joined sc.free sl rev st (pc + (exp_size e + exps_size es)))
      (λ u w1 cs1 ks1 a1 k1 sl2 kept.
      let long : length sl2 ≡ length sl = kept.long in
      sims m le p (count + 1) (u ∷ rev) (Prim.omega (arith, eq)) se (base + exp_functions e) (pc + exp_size e) sl2 st (behind (exp_locals e) env) w1 cs1 ks1 h q
      (views_past (exp_locals e) sc env sl2 s.captured s.rest (views_kept sc env sl sl2 s.captured s.rest kept v)) (Prim.omega (arith, room, long)) a1
      (owes_then code m s.levels s.end (meant.eval_all call loop es (behind (exp_locals e) env) w1 cs1) (λ vs. give (u ∷ vs)) (Joined sc.free sl2 (u ∷ rev) st (pc + exp_size e + exps_size es)) (Joined sc.free sl rev st (pc + (exp_size e + exps_size es)))
      (λ vs w2 cs2 ks2 a2 k2 sl3 kept3.
      moved code s (pc + exp_size e + exps_size es) (pc + (exp_size e + exps_size es)) sl3 (item.Many (unrev rev (u ∷ vs)) ∷ st) w2 ks2 (Prim.omega arith)
      (k2 ks2 a2 sl3 (kept_on sc.free sc.free sl sl2 sl3 (Prim.omega arith) kept kept3))) k1)) debt)

  -- ---- calls

  rest_ok : (p : Pos) → MultiOk (tree.vararg p)
  rest_ok p m le sc base pc sl st env w cs ks has protos v room a debt =
      does code s pc sl st w ks instr.Rest p has.0
      (subst (λ z. Halts code (running (at_work code s (pc + 1) sl (item.Many z ∷ st)) s.levels w ks) s.end) v.more (debt ks a sl (kept_same sc.free sl)))

  call_sim : (p : Pos) (f : Exp) (es : Exps) → ExpOk f → ListOk es → MultiOk (tree.call p f es)
  call_sim p f es sim sims m le sc base pc sl st env w cs ks has protos v room a debt =
      let se : Scope = past (exp_locals f) sc in
      let cf : Placed = exp_code f sc base pc in
      let ce : Placed = list_code es p 0 se (base + exp_functions f) (pc + exp_size f) in
      let h1 : HasAt s.placed (pc + exp_size f) (ce ++ one instr.Call p) = has_next s.placed pc (pc + exp_size f) cf (ce ++ one instr.Call p) (ap (λ z. pc + z) (exp_length f sc base pc)) has in
      let h2 : HasAt s.placed (pc + exp_size f + exps_size es) (one instr.Call p) =
      has_next s.placed (pc + exp_size f) (pc + exp_size f + exps_size es) ce (one instr.Call p) (ap (λ z. pc + exp_size f + z) (list_length es p 0 se (base + exp_functions f) (pc + exp_size f))) h1 in
      let pr : List Proto = exps_protos es se (base + exp_functions f) in
      let q : HasAt code (base + exp_functions f) pr = has_next code base (base + exp_functions f) (exp_protos f sc base) pr (ap (λ z. base + z) (exp_count f sc base)) protos in
      sim m le sc base pc sl st env w cs ks (has_front s.placed pc cf (ce ++ one instr.Call p) has) (has_front code base (exp_protos f sc base) pr protos) v (Prim.omega (arith, room)) a
      (owes_then code m s.levels s.end (meant.eval call loop f env w cs) _ (Pushed sc.free sl st (pc + exp_size f)) (Listed sc.free sl st (pc + (exp_size f + exps_size es + 1)))
      (λ u w1 cs1 ks1 a1 k1 sl2 kept.
      let long : length sl2 ≡ length sl = kept.long in
      sims m le p 0 [] refl se (base + exp_functions f) (pc + exp_size f) sl2 (item.One u ∷ st) (behind (exp_locals f) env) w1 cs1 ks1 (has_front s.placed (pc + exp_size f) ce (one instr.Call p) h1) q
      (views_past (exp_locals f) sc env sl2 s.captured s.rest (views_kept sc env sl sl2 s.captured s.rest kept v)) (Prim.omega (arith, room, long)) a1
      (owes_then code m s.levels s.end (meant.eval_all call loop es (behind (exp_locals f) env) w1 cs1) (λ vs. call p u vs) (Joined sc.free sl2 [] (item.One u ∷ st) (pc + exp_size f + exps_size es)) (Listed sc.free sl st (pc + (exp_size f + exps_size es + 1)))
      (λ vs w2 cs2 ks2 a2 k2 sl3 kept3.
      does code s (pc + exp_size f + exps_size es) sl3 (item.Many vs ∷ item.One u ∷ st) w2 ks2 instr.Call p h2.0
      (call_ok m le p u vs w2 cs2 ks2 (caller (at_work code s (pc + exp_size f + exps_size es + 1) sl3 st) ∷ s.levels) s.end deep a2
      (owes_caller code m (at_work code s (pc + exp_size f + exps_size es + 1) sl3 st) s.levels s.end (call p u vs w2 cs2) (Listed sc.free sl st (pc + (exp_size f + exps_size es + 1)))
      (λ us w3 ks3 f3. moved code s (pc + exp_size f + exps_size es + 1) (pc + (exp_size f + exps_size es + 1)) sl3 (item.Many us ∷ st) w3 ks3 (Prim.omega arith) (f3 sl3 (kept_on sc.free sc.free sl sl2 sl3 (Prim.omega arith) kept kept3)))
      k2))) k1)) debt)

  method_ok : (p : Pos) (e : Exp) (x : Name) (es : Exps) → MultiOk (tree.method p e x es)
  method_ok p e x es m le sc base pc sl st env w cs ks has protos v room a debt = does code s pc sl st w ks (instr.Pack 0) p has.0 (debt ks a sl (kept_same sc.free sl))

  simple_ok : (v : Value) (i : Instr) (p : Pos) → ((f : Frame) (w : World) (ks : List CodeClosure) → act code i p f s.levels w ks ≡ row.push_value v p f s.levels w ks)
      → (m d pc : ℕ) (sl : List Slot) (st : List Item) (w : World) (cs : List Closure) (ks : List CodeClosure) → slice_get s.placed pc ≡ Some (i, p) → Alike code m w cs ks
      → Owes code m s.levels s.end (Pushed d sl st (pc + 1)) (gives v w cs) → Halts code (running (at_work code s pc sl st) s.levels w ks) s.end
  simple_ok v i p same m d pc sl st w cs ks has a debt = push_ok m d pc sl st v w cs ks i p has (same (at_work code s pc sl st) w ks) a debt

  truth_row : (b : Bool) (p : Pos) (f : Frame) (w : World) (ks : List CodeClosure) → act code (truth_instr b) p f s.levels w ks ≡ row.push_value (value.Bool b) p f s.levels w ks
  truth_row true p f w ks = refl
  truth_row false p f w ks = refl

  binary_ok : (o : BinaryOperator) (p : Pos) (x y : Exp) → ExpOk x → ExpOk y → ExpOk (tree.binary p o x y)
  binary_ok binary.Or p x y sx sy m le sc base pc sl st env w cs ks has =
      kept_ok is_true (instr.KeepIf (pc + (exp_size x + exp_size y + 1))) (pc + (exp_size x + exp_size y + 1)) (λ p f w ks. refl) p x y sx sy m le sc base pc sl st env w cs ks refl has
  binary_ok binary.And p x y sx sy m le sc base pc sl st env w cs ks has =
      kept_ok (λ v. not (is_true v)) (instr.KeepIfNot (pc + (exp_size x + exp_size y + 1))) (pc + (exp_size x + exp_size y + 1)) (λ p f w ks. refl) p x y sx sy m le sc base pc sl st env w cs ks refl has
  binary_ok binary.Less p x y sx sy m le sc base pc sl st env w cs ks has = strict_ok binary.Less instr.Lt (λ p f w ks. refl) p x y sx sy m le sc base pc sl st env w cs ks has
  binary_ok binary.Greater p x y sx sy m le sc base pc sl st env w cs ks has = swapped_ok binary.Greater binary.Less instr.Lt (λ p f w ks. refl) (λ u v. refl) p x y sx sy m le sc base pc sl st env w cs ks has
  binary_ok binary.LessEqual p x y sx sy m le sc base pc sl st env w cs ks has = strict_ok binary.LessEqual instr.Le (λ p f w ks. refl) p x y sx sy m le sc base pc sl st env w cs ks has
  binary_ok binary.GreaterEqual p x y sx sy m le sc base pc sl st env w cs ks has = swapped_ok binary.GreaterEqual binary.LessEqual instr.Le (λ p f w ks. refl) (λ u v. refl) p x y sx sy m le sc base pc sl st env w cs ks has
  binary_ok binary.NotEqual p x y sx sy m le sc base pc sl st env w cs ks has = differs_ok p x y sx sy m le sc base pc sl st env w cs ks has
  binary_ok binary.Equal p x y sx sy m le sc base pc sl st env w cs ks has = strict_ok binary.Equal instr.Eq (λ p f w ks. refl) p x y sx sy m le sc base pc sl st env w cs ks has
  binary_ok binary.BitOr p x y sx sy m le sc base pc sl st env w cs ks has = strict_ok binary.BitOr instr.BOr (λ p f w ks. refl) p x y sx sy m le sc base pc sl st env w cs ks has
  binary_ok binary.BitXor p x y sx sy m le sc base pc sl st env w cs ks has = strict_ok binary.BitXor instr.BXor (λ p f w ks. refl) p x y sx sy m le sc base pc sl st env w cs ks has
  binary_ok binary.BitAnd p x y sx sy m le sc base pc sl st env w cs ks has = strict_ok binary.BitAnd instr.BAnd (λ p f w ks. refl) p x y sx sy m le sc base pc sl st env w cs ks has
  binary_ok binary.ShiftLeft p x y sx sy m le sc base pc sl st env w cs ks has = strict_ok binary.ShiftLeft instr.Shl (λ p f w ks. refl) p x y sx sy m le sc base pc sl st env w cs ks has
  binary_ok binary.ShiftRight p x y sx sy m le sc base pc sl st env w cs ks has = strict_ok binary.ShiftRight instr.Shr (λ p f w ks. refl) p x y sx sy m le sc base pc sl st env w cs ks has
  binary_ok binary.Concat p x y sx sy m le sc base pc sl st env w cs ks has = strict_ok binary.Concat instr.Concat (λ p f w ks. refl) p x y sx sy m le sc base pc sl st env w cs ks has
  binary_ok binary.Add p x y sx sy m le sc base pc sl st env w cs ks has = strict_ok binary.Add instr.Add (λ p f w ks. refl) p x y sx sy m le sc base pc sl st env w cs ks has
  binary_ok binary.Subtract p x y sx sy m le sc base pc sl st env w cs ks has = strict_ok binary.Subtract instr.Sub (λ p f w ks. refl) p x y sx sy m le sc base pc sl st env w cs ks has
  binary_ok binary.Multiply p x y sx sy m le sc base pc sl st env w cs ks has = strict_ok binary.Multiply instr.Mul (λ p f w ks. refl) p x y sx sy m le sc base pc sl st env w cs ks has
  binary_ok binary.Divide p x y sx sy m le sc base pc sl st env w cs ks has = strict_ok binary.Divide instr.IDiv (λ p f w ks. refl) p x y sx sy m le sc base pc sl st env w cs ks has
  binary_ok binary.Modulo p x y sx sy m le sc base pc sl st env w cs ks has = strict_ok binary.Modulo instr.Mod (λ p f w ks. refl) p x y sx sy m le sc base pc sl st env w cs ks has

  leaf_ok : (e : Exp) (v : Value) (i : Instr) (p : Pos) → ((f : Frame) (w : World) (ks : List CodeClosure) → act code i p f s.levels w ks ≡ row.push_value v p f s.levels w ks)
      → (m : ℕ) → m ≤ n → (sc : Scope) (base pc : ℕ) (sl : List Slot) (st : List Item) (env : Env) (w : World) (cs : List Closure) (ks : List CodeClosure)
      → HasAt s.placed pc (one i p) → Unit {0} → Views sc env sl s.captured s.rest → sc.free + 0 ≤ length sl → Alike code m w cs ks
      → Owes code m s.levels s.end (Pushed sc.free sl st (pc + 1)) (gives v w cs) → Halts code (running (at_work code s pc sl st) s.levels w ks) s.end
  leaf_ok e v i p same m le sc base pc sl st env w cs ks has protos vw room a debt = simple_ok v i p same m sc.free pc sl st w cs ks has.0 a debt

  mutual
    pub exp_sim : (e : Exp) → ExpOk e
    exp_sim (tree.nothing p) = leaf_ok (tree.nothing p) value.Nil instr.Nil p (λ f w ks. refl)
    exp_sim (tree.truth p b) = leaf_ok (tree.truth p b) (value.Bool b) (truth_instr b) p (truth_row b p)
    exp_sim (tree.integer p k) = leaf_ok (tree.integer p k) (value.Int k) (instr.Int k) p (λ f w ks. refl)
    exp_sim (tree.text p t) = leaf_ok (tree.text p t) (value.Str t) (instr.Str t) p (λ f w ks. refl)
    exp_sim (tree.function p f) = function_ok p f
    exp_sim (tree.name p u t) = name_ok p u t
    exp_sim (tree.paren p e) = exp_sim e
    exp_sim (tree.field p e x) = λ m le sc base pc sl st env w cs ks has protos v room a debt. field_ok e m sc pc sl st env w cs ks p has.0 v.names a debt
    exp_sim (tree.index p e k) = leaf_ok (tree.index p e k) value.Nil instr.Nil p (λ f w ks. refl)
    exp_sim (tree.table p es) = leaf_ok (tree.table p es) value.Nil instr.Nil p (λ f w ks. refl)
    exp_sim (tree.unary p o e) = unary_ok p o e (exp_sim e)
    exp_sim (tree.binary p o x y) = binary_ok o p x y (exp_sim x) (exp_sim y)
    exp_sim (tree.mark k e) = mark_ok k e (exp_sim e)
    exp_sim (tree.one_of e) = first_ok e (multi_sim e)

    pub multi_sim : (e : Multi) → MultiOk e
    multi_sim (tree.vararg p) = rest_ok p
    multi_sim (tree.call p f es) = call_sim p f es (exp_sim f) (list_sim es)
    multi_sim (tree.method p e x es) = method_ok p e x es
    multi_sim (tree.mark_all k e) = mark_all_ok k e (multi_sim e)

    pub list_sim : (es : Exps) → ListOk es
    list_sim tree.none = none_ok
    list_sim (tree.ends e) = ends_ok e (multi_sim e)
    list_sim (tree.more e es) = more_ok e es (exp_sim e) (list_sim es)

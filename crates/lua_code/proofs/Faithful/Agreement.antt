-- When a run of code is where the meaning is, and what the code owes after a part of the run.
use Rattle.std.proofs.Common.{◌≡◌, refl, ap, subst, sym, ◌∙◌, ℕ, suc, ◌+◌, ◌≤◌, List, [], ◌∷◌, length, map, slice_get, Option, Some, arith}
use Rattle.std.specs.Map.{keys_of}
use Rattle.std.specs.Option.{is_some}
use Rattle.tl_base.specs.declared.place.Pos.{Pos}
use Rattle.lua_tree.specs.declared.annotation.Typed.{Typed}
use Rattle.lua_tree.specs.declared.syntax.Rest.{Rest}
use Rattle.lua_tree.specs.Tree as tree
use Rattle.lua_tree.specs.Tree.{Function, Block}
use Rattle.lua_values.specs.declared.value.Value.{Value}
use Rattle.lua_meaning.specs.World.{World}
use Rattle.lua_meaning.specs.Environment.{Env}
use Rattle.lua_meaning.specs.Outcomes.{Act, Closure, Outcome, gives, raises, cut, go_on}
use Rattle.lua_meaning.specs.Programs.{Ending, spent}
use Rattle.lua_code.specs.declared.code.Proto.{Proto}
use Rattle.lua_code.specs.declared.code.Instr.{Instr}
use Rattle.lua_code.specs.declared.frames.Slot.{Slot}
use Rattle.lua_code.specs.declared.frames.Item.{Item}
use Rattle.lua_code.specs.declared.frames.Item.TheVariants as item
use Rattle.lua_code.specs.Configurations.{CodeClosure, Frame, Level, caller, Config, running, giving, raising, Next, go, stop, stuck}
use Rattle.lua_code.specs.Instructions.{act}
use Rattle.lua_code.specs.Steps.{End, end_of, halts, step, instruction, instruction_in, both, obey}
use Rattle.lua_code.specs.Sizes.{block_slots}
use Rattle.lua_code.specs.Generated.{Placed, Scope, captures_in, inner_captured, inside, body_code, proto_of, block_protos}
use Rattle.lua_code.proofs.Faithful.Lists.{HasAt, get_map}

abbrev pub end_with : Ending → World → End
end_with e w = record { ending = e; world = w }

module _ (code : List Proto) where
  pub record Halts (c : Config) (r : End) : Type 0 where
    pub steps : ℕ
    pub is : halts code steps c ≡ Some r

  pub step_on : (c d : Config) (r : End) → step code c ≡ go d → Halts d r → Halts c r
  step_on c d r e h = record { steps = suc h.steps; is = ap (end_of (halts code h.steps)) e ∙ h.is }

  pub step_end : (c : Config) (r : End) (e : Ending) (w : World) → step code c ≡ stop e w → r ≡ end_with e w → Halts c r
  step_end c r e w h k = record { steps = 1; is = ap (end_of (halts code 0)) h ∙ ap Some (sym k) }

  -- ---- closures

  pub record MadeWith (ps : List Typed) (rest : Option Rest) (b : Block) (env : Env) (q : CodeClosure) : Type 0 where
    pub scope : Scope
    pub base : ℕ
    pub place : Pos
    pub names : scope.names ≡ env.names
    pub next : scope.next ≡ env.next
    pub keys : keys_of env.bound ≡ inner_captured scope
    pub cells : q.cells ≡ map (λ b. b.1) env.bound
    pub proto : slice_get code q.function ≡ Some (proto_of (length ps) (is_some rest) (captures_in scope) (length ps + block_slots b) (body_code (length ps) b place (inside (length ps) scope) base))
    pub inner : HasAt code base (block_protos b (inside (length ps) scope) base)

  abbrev pub MadeOf : Function → Env → CodeClosure → Type 0
  MadeOf (tree.function_of ps rest rs b) env q = MadeWith ps rest b env q

  abbrev pub Made : Closure → CodeClosure → Type 0
  Made k q = MadeOf k.function k.env q

  abbrev pub AllMade : List Closure → List CodeClosure → Type 0
  AllMade [] [] = Unit {0}
  AllMade (k ∷ ks) (q ∷ qs) = Made k q × AllMade ks qs
  AllMade ks qs = ⊥

  -- the closures agree, and no more than m turns are left
  pub record Alike (m : ℕ) (w : World) (cs : List Closure) (ks : List CodeClosure) : Type 0 where
    pub few : w.turns ≤ m
    pub made : AllMade cs ks

  -- ---- what the code owes after a part of the run: K after a result

  abbrev pub Owes : {A : Type 0} → ℕ → List Level → End → (A → World → List CodeClosure → Type 0) → Outcome A → Type 0
  Owes m lv r K (gives a w cs) = (ks : List CodeClosure) → Alike m w cs ks → K a w ks
  Owes m lv r K (raises v w cs) = (ks : List CodeClosure) → Alike m w cs ks → Halts (raising v lv w ks) r
  Owes m lv r K (cut w) = r ≡ end_with spent w

  pub owes_then : {A B : Type 0} (m : ℕ) (lv : List Level) (r : End) (o : Outcome A) (next : A → Act B) (K : A → World → List CodeClosure → Type 0) (L : B → World → List CodeClosure → Type 0)
      → ((a : A) (w : World) (cs : List Closure) (ks : List CodeClosure) → Alike m w cs ks → Owes m lv r L (next a w cs) → K a w ks)
      → Owes m lv r L (go_on o next) → Owes m lv r K o
  owes_then m lv r (gives a w cs) next K L f h = λ ks a1. f a w cs ks a1 h
  owes_then m lv r (raises v w cs) next K L f h = h
  owes_then m lv r (cut w) next K L f h = h

  -- the same with other debts after a result
  pub owes_map : {A : Type 0} (m : ℕ) (lv : List Level) (r : End) (o : Outcome A) (K L : A → World → List CodeClosure → Type 0)
      → ((a : A) (w : World) (ks : List CodeClosure) → L a w ks → K a w ks) → Owes m lv r L o → Owes m lv r K o
  owes_map m lv r (gives a w cs) K L f h = λ ks a1. f a w ks (h ks a1)
  owes_map m lv r (raises v w cs) K L f h = h
  owes_map m lv r (cut w) K L f h = h

  fewer_alike : (l m : ℕ) (w : World) (cs : List Closure) (ks : List CodeClosure) → l ≤ m → Alike l w cs ks → Alike m w cs ks
  fewer_alike l m w cs ks le a = let few : w.turns ≤ l = a.few in record { few = Prim.omega (arith, few, le); made = a.made }

  pub owes_fewer : {A : Type 0} (l m : ℕ) (lv : List Level) (r : End) (o : Outcome A) (K : A → World → List CodeClosure → Type 0) → l ≤ m → Owes m lv r K o → Owes l lv r K o
  owes_fewer l m lv r (gives a w cs) K le h = λ ks a1. h ks (fewer_alike l m w cs ks le a1)
  owes_fewer l m lv r (raises v w cs) K le h = λ ks a1. h ks (fewer_alike l m w cs ks le a1)
  owes_fewer l m lv r (cut w) K le h = h

  -- results on their way
  abbrev pub Given : List Level → End → List Value → World → List CodeClosure → Type 0
  Given lv r vs w ks = Halts (giving vs lv w ks) r

  -- what is owed after a call is owed to the function that called
  pub owes_caller : (m : ℕ) (f : Frame) (lv : List Level) (r : End) (o : Outcome (List Value)) (K : List Value → World → List CodeClosure → Type 0)
      → ((vs : List Value) (w : World) (ks : List CodeClosure) → K vs w ks → Halts (running (record f { stack = item.Many vs ∷ f.stack }) lv w ks) r)
      → Owes m lv r K o → Owes m (caller f ∷ lv) r (Given (caller f ∷ lv) r) o
  owes_caller m f lv r (gives vs w cs) K go_back h = λ ks a. step_on _ _ r refl (go_back vs w ks (h ks a))
  owes_caller m f lv r (raises v w cs) K go_back h = λ ks a. step_on _ _ r refl (h ks a)
  owes_caller m f lv r (cut w) K go_back h = h

  -- ---- the function at work

  pub record Setting : Type 0 where
    pub end : End
    pub function : ℕ
    pub proto : Proto
    pub placed : Placed
    pub here : slice_get code function ≡ Some proto
    pub instrs : proto.code ≡ map (λ c. c.0) placed
    pub places : proto.places ≡ map (λ c. c.1) placed
    pub captured : List ℕ
    pub rest : List Value
    pub levels : List Level

  module _ (s : Setting) where
    abbrev pub at_work : ℕ → List Slot → List Item → Frame
    at_work pc sl st = record { function = s.function; at = pc; slots = sl; captured = s.captured; rest = s.rest; stack = st }

    fetched : (pc : ℕ) (sl : List Slot) (st : List Item) (i : Instr) (p : Pos) → slice_get s.placed pc ≡ Some (i, p) → instruction code (at_work pc sl st) ≡ Some (i, p)
    fetched pc sl st i p h =
        ap (λ o. instruction_in o pc) s.here
        ∙ ap (λ l. both (slice_get l pc) (slice_get s.proto.places pc)) s.instrs
        ∙ ap (λ l. both (slice_get (map (λ c. c.0) s.placed) pc) (slice_get l pc)) s.places
        ∙ ap (λ o. both o (slice_get (map (λ c. c.1) s.placed) pc)) (get_map (λ c. c.0) s.placed pc (i, p) h)
        ∙ ap (λ o. both (Some i) o) (get_map (λ c. c.1) s.placed pc (i, p) h)

    -- one instruction
    pub one_step : (pc : ℕ) (sl : List Slot) (st : List Item) (w : World) (ks : List CodeClosure) (d : Config) (i : Instr) (p : Pos)
        → slice_get s.placed pc ≡ Some (i, p) → act code i p (at_work pc sl st) s.levels w ks ≡ go d → Halts d s.end → Halts (running (at_work pc sl st) s.levels w ks) s.end
    one_step pc sl st w ks d i p h e k =
        step_on _ d s.end (ap (λ o. obey code o (at_work pc sl st) s.levels w ks) (fetched pc sl st i p h) ∙ e) k

    -- one instruction at which the run is cut
    pub last_step : (pc : ℕ) (sl : List Slot) (st : List Item) (w : World) (ks : List CodeClosure) (e : Ending) (u : World) (i : Instr) (p : Pos)
        → slice_get s.placed pc ≡ Some (i, p) → act code i p (at_work pc sl st) s.levels w ks ≡ stop e u → s.end ≡ end_with e u → Halts (running (at_work pc sl st) s.levels w ks) s.end
    last_step pc sl st w ks e u i p h k f =
        step_end _ s.end e u (ap (λ o. obey code o (at_work pc sl st) s.levels w ks) (fetched pc sl st i p h) ∙ k) f

    pub moved : (a b : ℕ) (sl : List Slot) (st : List Item) (w : World) (ks : List CodeClosure) → a ≡ b
        → Halts (running (at_work b sl st) s.levels w ks) s.end → Halts (running (at_work a sl st) s.levels w ks) s.end
    moved a b sl st w ks e h = subst (λ z. Halts (running (at_work z sl st) s.levels w ks) s.end) (sym e) h

    -- ---- what a step comes to

    abbrev pub Comes : Next → Type 0
    Comes (go d) = Halts d s.end
    Comes (stop e w) = s.end ≡ end_with e w
    Comes stuck = ⊥

    comes_so : (c : Config) (x : Next) → step code c ≡ x → Comes x → Halts c s.end
    comes_so c (go d) e h = step_on c d s.end e h
    comes_so c (stop en w) e h = step_end c s.end en w e h
    comes_so c stuck e h = absurd h

    pub does : (pc : ℕ) (sl : List Slot) (st : List Item) (w : World) (ks : List CodeClosure) (i : Instr) (p : Pos)
        → slice_get s.placed pc ≡ Some (i, p) → Comes (act code i p (at_work pc sl st) s.levels w ks) → Halts (running (at_work pc sl st) s.levels w ks) s.end
    does pc sl st w ks i p h k =
        comes_so (running (at_work pc sl st) s.levels w ks) (act code i p (at_work pc sl st) s.levels w ks) (ap (λ o. obey code o (at_work pc sl st) s.levels w ks) (fetched pc sl st i p h)) k

    pub comes_by : (x y : Next) → x ≡ y → Comes y → Comes x
    comes_by x y e h = subst (λ z. Comes z) (sym e) h

-- The code of expressions agrees with its shapes.
use Rattle.std.proofs.Common.{◌≡◌, refl, ap, sym, subst, ℕ, suc, ◌+◌, ◌<◌, ◌≤◌, max, nat_eq, Bool, true, false, List, [], ◌∷◌, ◌++◌, length, replicate, slice_get, Option, Some, None, arith}
use Rattle.std.specs.Map.{lookup}
use Rattle.std.specs.Option.{is_some}
use Rattle.tl_base.specs.declared.place.Pos.{Pos}
use Rattle.tl_base.specs.declared.crossing.CrossKind.{CrossKind}
use Rattle.std.proofs.lemmas.List.{length-append}
use Rattle.lua_tree.specs.declared.scoped.Use.{Use}
use Rattle.lua_tree.specs.declared.scoped.Use.TheVariants as means
use Rattle.lua_tree.specs.declared.syntax.UnaryOperator.{UnaryOperator}
use Rattle.lua_tree.specs.declared.syntax.UnaryOperator.TheVariants as unary
use Rattle.lua_tree.specs.declared.syntax.BinaryOperator.{BinaryOperator}
use Rattle.lua_tree.specs.declared.syntax.BinaryOperator.TheVariants as binary
use Rattle.lua_tree.specs.Tree as tree
use Rattle.lua_tree.specs.Tree.{Exp, Multi, Exps, Function, Block}
use Rattle.lua_tree.specs.Places.{place_of, multi_place}
use Rattle.lua_meaning.specs.Locals.{exp_locals}
use Rattle.lua_code.specs.declared.code.Proto.{Proto}
use Rattle.lua_code.specs.declared.code.Instr.{Instr}
use Rattle.lua_code.specs.declared.code.Instr.TheVariants as instr
use Rattle.lua_code.specs.Sizes.{exp_size, multi_size, exps_size, exp_functions, exp_slots, multi_slots, exps_slots, block_functions, block_slots}
use Rattle.lua_code.specs.Generated.{Placed, one, Scope, past, taken, from_own, from_captured, captured_from, read_use, use_in, library_use, field_instr, unary_instr, truth_instr, mark_at, exp_code, multi_code, list_code, exp_protos, multi_protos, exps_protos, captures_in, inside, proto_of, body_code, block_protos}
use Rattle.lua_code.specs.Shapes.{ItemKind, value, values, SlotKind, held, celled, either, Shape, effect_of, two, captures_of, captured_slots, IsInRange, IsEnoughIn, Hold, AreOuter}
use Rattle.lua_code.proofs.Faithful.Lists.{HasAt, has_front, has_next}
use Rattle.lua_code.proofs.Faithful.Lengths.{exp_count, block_count}
use Rattle.lua_code.proofs.Formed.Slots.{filled, filled_get, filled_has, filled_next, filled_fewer, get_there, get_below}
use Rattle.lua_code.proofs.Formed.Pieces.{shape, Asked, nothing, Ahead, Piece, jumps_ahead, given, to_end, less, join, plain, branching}
use Rattle.lua_code.proofs.Formed.Scopes.{celled_at, captured_low, Fit, fit_past, fit_taken, fit_same, captures_low, captures_held}

pub count_next : (n : ℕ) (st : List ItemKind) → replicate (n + 1) value ++ st ≡ value ∷ (replicate n value ++ st)
count_next n st = let next : n + 1 ≡ suc n = Prim.omega arith in ap (λ z. replicate z value ++ st) next

module _ (code : List Proto) (proto : Proto) (total : ℕ) where
  -- a piece that jumps nowhere outside, with these slots known before and behind it
  abbrev pub Goes : Placed → ℕ → ℕ → List ItemKind → List ItemKind → List SlotKind → Type 0
  Goes is at to st su known = Piece code proto nothing is at to (shape st (filled total known)) (shape su (filled total known))

  abbrev pub ExpOk : Exp → Type 0
  ExpOk e = (sc : Scope) (base at : ℕ) (st : List ItemKind) (known : List SlotKind) → HasAt code base (exp_protos e sc base) → Fit proto sc known → length known + exp_slots e ≤ total
      → Goes (exp_code e sc base at) at (at + exp_size e) st (value ∷ st) known

  abbrev pub MultiOk : Multi → Type 0
  MultiOk e = (sc : Scope) (base at : ℕ) (st : List ItemKind) (known : List SlotKind) → HasAt code base (multi_protos e sc base) → Fit proto sc known → length known + multi_slots e ≤ total
      → Goes (multi_code e sc base at) at (at + multi_size e) st (values ∷ st) known

  abbrev pub ListOk : Exps → Type 0
  ListOk es = (p : Pos) (n : ℕ) (sc : Scope) (base at : ℕ) (st : List ItemKind) (known : List SlotKind) → HasAt code base (exps_protos es sc base) → Fit proto sc known → length known + exps_slots es ≤ total
      → Goes (list_code es p n sc base at) at (at + exps_size es) (replicate n value ++ st) (values ∷ st) known

  -- ---- single instructions

  push_ok : (i : Instr) (p : Pos) (at : ℕ) (st : List ItemKind) (known : List SlotKind) → IsInRange code proto i
      → effect_of code at st i ≡ Some (record { takes = []; wants = []; sets = []; ways = (at + 1, value ∷ []) ∷ [] }) → Goes (one i p) at (at + 1) st (value ∷ st) known
  push_ok i p at st known range e = plain code proto nothing i p at [] (value ∷ []) [] [] st (filled total known) range e tt

  unary_instr_ok : (o : UnaryOperator) (p : Pos) (at : ℕ) (st : List ItemKind) (known : List SlotKind) → Goes (one (unary_instr o) p) at (at + 1) (value ∷ st) (value ∷ st) known
  unary_instr_ok unary.Not p at st known = plain code proto nothing instr.Not p at (value ∷ []) (value ∷ []) [] [] st (filled total known) tt refl tt
  unary_instr_ok unary.Length p at st known = plain code proto nothing instr.Len p at (value ∷ []) (value ∷ []) [] [] st (filled total known) tt refl tt
  unary_instr_ok unary.Negate p at st known = plain code proto nothing instr.Neg p at (value ∷ []) (value ∷ []) [] [] st (filled total known) tt refl tt
  unary_instr_ok unary.BitNot p at st known = plain code proto nothing instr.BNot p at (value ∷ []) (value ∷ []) [] [] st (filled total known) tt refl tt

  pub mark_ok : (k : CrossKind) (q : Pos) (at : ℕ) (st : List ItemKind) (known : List SlotKind) → Goes (mark_at k q) at (at + 1) st st known
  mark_ok k q at st known = plain code proto nothing (instr.Mark k q.line q.column) q at [] [] [] [] st (filled total known) tt refl tt

  read_ok : (o q : Option ℕ) (p : Pos) (at : ℕ) (st : List ItemKind) (known : List SlotKind) → ((s : ℕ) → o ≡ Some s → slice_get (filled total known) s ≡ Some celled) → ((i : ℕ) → q ≡ Some i → i < length proto.captures)
      → Goes (one (from_own (λ s. instr.GetCell s) o (from_captured (λ i. instr.GetUp i) instr.Nil q)) p) at (at + 1) st (value ∷ st) known
  read_ok (Some s) q p at st known f g =
      plain code proto nothing (instr.GetCell s) p at [] (value ∷ []) ((s, celled) ∷ []) [] st (filled total known) tt refl (subst (λ z. IsEnoughIn z celled) (sym (f s refl)) tt, tt)
  read_ok None (Some i) p at st known f g = push_ok (instr.GetUp i) p at st known (g i refl) refl
  read_ok None None p at st known f g = push_ok instr.Nil p at st known tt refl

  use_ok : (u : Option Use) (sc : Scope) (p : Pos) (at : ℕ) (st : List ItemKind) (known : List SlotKind) → Fit proto sc known → length known ≤ total → Goes (one (read_use sc u) p) at (at + 1) st (value ∷ st) known
  use_ok None sc p at st known f le = push_ok instr.Nil p at st known tt refl
  use_ok (Some (means.Lib l)) sc p at st known f le = push_ok (instr.Lib l) p at st known tt refl
  use_ok (Some (means.Local x)) sc p at st known f le =
      let captures : length proto.captures ≡ length sc.captured = f.captures in
      read_ok (lookup (nat_eq x) sc.own) (captured_from 0 x sc.captured) p at st known (λ s e. filled_get total known s celled (celled_at known sc.own x s f.cells e) le)
      (λ i e. let low : i < 0 + length sc.captured = captured_low 0 x sc.captured i e in Prim.omega (arith, low, captures))

  library_ok : (u : Option Use) (p : Pos) (at : ℕ) (st : List ItemKind) (known : List SlotKind) → Goes (one (library_use u) p) at (at + 1) st (value ∷ st) known
  library_ok None p at st known = push_ok instr.Nil p at st known tt refl
  library_ok (Some (means.Lib l)) p at st known = push_ok (instr.Lib l) p at st known tt refl
  library_ok (Some (means.Local x)) p at st known = push_ok instr.Nil p at st known tt refl

  field_ok : (e : Exp) (sc : Scope) (p : Pos) (at : ℕ) (st : List ItemKind) (known : List SlotKind) → Goes (one (field_instr e sc) p) at (at + 1) st (value ∷ st) known
  field_ok (tree.name q u t) sc p at st known = library_ok (use_in sc u) p at st known
  field_ok (tree.mark k e) sc p at st known = field_ok e sc p at st known
  field_ok e sc p at st known = push_ok instr.Nil p at st known tt refl

  truth_ok : (b : Bool) (p : Pos) (at : ℕ) (st : List ItemKind) (known : List SlotKind) → Goes (one (truth_instr b) p) at (at + 1) st (value ∷ st) known
  truth_ok true p at st known = push_ok instr.True p at st known tt refl
  truth_ok false p at st known = push_ok instr.False p at st known tt refl

  unary_ok : (p : Pos) (o : UnaryOperator) (e : Exp) → ExpOk e → ExpOk (tree.unary p o e)
  unary_ok p o e ok sc base at st known has f le = join code proto (ok sc base at st known has f le) (unary_instr_ok o p (at + exp_size e) st known) refl (Prim.omega arith)

  marked_ok : (k : CrossKind) (e : Exp) → ExpOk e → ExpOk (tree.mark k e)
  marked_ok k e ok sc base at st known has f le = join code proto (ok sc base at st known has f le) (mark_ok k (place_of e) (at + exp_size e) (value ∷ st) known) refl (Prim.omega arith)

  -- the value on the stack goes into the first slot that isn't known
  pub set_ok : (G : Asked) (i : ℕ) (p : Pos) (at : ℕ) (st : List ItemKind) (known : List SlotKind) → length known ≡ i → i < total
      → Piece code proto G (one (instr.SetSlot i) p) at (at + 1) (shape (value ∷ st) (filled total known)) (shape st (filled total (known ++ held ∷ [])))
  set_ok G i p at st known e lt =
      subst (λ z. Piece code proto G (one (instr.SetSlot z) p) at (at + 1) (shape (value ∷ st) (filled total known)) (shape st (filled total (known ++ held ∷ [])))) e
      (subst (λ l. Piece code proto G (one (instr.SetSlot (length known)) p) at (at + 1) (shape (value ∷ st) (filled total known)) (shape st l)) (filled_next total known held)
      (plain code proto G (instr.SetSlot (length known)) p at (value ∷ []) [] ((length known, either) ∷ []) ((length known, held) ∷ []) st (filled total known) tt refl (filled_has total known (length known) (Prim.omega (arith, e, lt)), tt)))

  pub get_ok : (G : Asked) (i : ℕ) (p : Pos) (at : ℕ) (st : List ItemKind) (known : List SlotKind) → slice_get known i ≡ Some held → length known ≤ total
      → Piece code proto G (one (instr.GetSlot i) p) at (at + 1) (shape st (filled total known)) (shape (value ∷ st) (filled total known))
  get_ok G i p at st known e le =
      plain code proto G (instr.GetSlot i) p at [] (value ∷ []) ((i, held) ∷ []) [] st (filled total known) tt refl (subst (λ z. IsEnoughIn z held) (sym (filled_get total known i held e le)) tt, tt)

  -- ---- operations with two operands

  two_ok : (i : Instr) → IsInRange code proto i → ((at : ℕ) (st : List ItemKind) → effect_of code at st i ≡ Some (two at)) → (p : Pos) (at : ℕ) (st : List ItemKind) (known : List SlotKind)
      → Goes (one i p) at (at + 1) (value ∷ value ∷ st) (value ∷ st) known
  two_ok i range e p at st known = plain code proto nothing i p at (value ∷ value ∷ []) (value ∷ []) [] [] st (filled total known) range (e at (value ∷ value ∷ st)) tt

  -- both operands and an instruction behind them
  strict_ok : (i : Instr) → IsInRange code proto i → ((at : ℕ) (st : List ItemKind) → effect_of code at st i ≡ Some (two at)) → (p : Pos) (x y : Exp) → ExpOk x → ExpOk y
      → (sc : Scope) (base at : ℕ) (st : List ItemKind) (known : List SlotKind)
      → HasAt code base (exp_protos x sc base ++ exp_protos y (taken 0 (past (exp_locals x) sc)) (base + exp_functions x)) → Fit proto sc known → length known + max (exp_slots x) (0 + exp_slots y) ≤ total
      → Goes (exp_code x sc base at ++ (exp_code y (taken 0 (past (exp_locals x) sc)) (base + exp_functions x) (at + exp_size x + 0) ++ one i p)) at (at + (exp_size x + exp_size y + 1)) st (value ∷ st) known
  strict_ok i range e p x y ok_x ok_y sc base at st known has f le =
      let sy : Scope = taken 0 (past (exp_locals x) sc) in
      let px : List Proto = exp_protos x sc base in
      let py : List Proto = exp_protos y sy (base + exp_functions x) in
      let q : HasAt code (base + exp_functions x) py = has_next code base (base + exp_functions x) px py (ap (λ z. base + z) (exp_count x sc base)) has in
      join code proto (ok_x sc base at st known (has_front code base px py has) f (Prim.omega (arith, le)))
      (join code proto (ok_y sy (base + exp_functions x) (at + exp_size x + 0) (value ∷ st) known q (fit_same proto (past (exp_locals x) sc) known (fit_past proto sc known (exp_locals x) f)) (Prim.omega (arith, le)))
      (two_ok i range e p (at + exp_size x + 0 + exp_size y) st known) refl refl) (Prim.omega arith) (Prim.omega arith)

  -- `~=` is `==` and `not`
  differs_ok : (p : Pos) (x y : Exp) → ExpOk x → ExpOk y → ExpOk (tree.binary p binary.NotEqual x y)
  differs_ok p x y ok_x ok_y sc base at st known has f le =
      let sy : Scope = taken 0 (past (exp_locals x) sc) in
      let px : List Proto = exp_protos x sc base in
      let py : List Proto = exp_protos y sy (base + exp_functions x) in
      let q : HasAt code (base + exp_functions x) py = has_next code base (base + exp_functions x) px py (ap (λ z. base + z) (exp_count x sc base)) has in
      join code proto (ok_x sc base at st known (has_front code base px py has) f (Prim.omega (arith, le)))
      (join code proto (ok_y sy (base + exp_functions x) (at + exp_size x + 0) (value ∷ st) known q (fit_same proto (past (exp_locals x) sc) known (fit_past proto sc known (exp_locals x) f)) (Prim.omega (arith, le)))
      (join code proto (two_ok instr.Eq tt (λ a s. refl) p (at + exp_size x + 0 + exp_size y) st known) (unary_instr_ok unary.Not p (at + exp_size x + 0 + exp_size y + 1) st known) refl refl) refl refl)
      (Prim.omega arith) (Prim.omega arith)

  -- the right operand only where the left one isn't kept
  kept_ok : (i : Instr) (end : ℕ) → IsInRange code proto i
      → ((at : ℕ) (st : List ItemKind) → effect_of code at st i ≡ Some (record { takes = value ∷ []; wants = []; sets = []; ways = (at + 1, []) ∷ (end, value ∷ []) ∷ [] }))
      → (p : Pos) (x y : Exp) → ExpOk x → ExpOk y → (sc : Scope) (base at : ℕ) (st : List ItemKind) (known : List SlotKind) → at + (exp_size x + exp_size y + 1) ≡ end
      → HasAt code base (exp_protos x sc base ++ exp_protos y (taken 0 (past (exp_locals x) sc)) (base + exp_functions x)) → Fit proto sc known → length known + max (exp_slots x) (0 + exp_slots y) ≤ total
      → Goes (exp_code x sc base at ++ (i, p) ∷ exp_code y (taken 0 (past (exp_locals x) sc)) (base + exp_functions x) (at + exp_size x + 1)) at (at + (exp_size x + exp_size y + 1)) st (value ∷ st) known
  kept_ok i end range e p x y ok_x ok_y sc base at st known at_end has f le =
      let sy : Scope = taken 0 (past (exp_locals x) sc) in
      let px : List Proto = exp_protos x sc base in
      let py : List Proto = exp_protos y sy (base + exp_functions x) in
      let cx : Placed = exp_code x sc base at in
      let cy : Placed = exp_code y sy (base + exp_functions x) (at + exp_size x + 1) in
      let q : HasAt code (base + exp_functions x) py = has_next code base (base + exp_functions x) px py (ap (λ z. base + z) (exp_count x sc base)) has in
      let before : Shape = shape st (filled total known) in
      let after : Shape = shape (value ∷ st) (filled total known) in
      let there : Asked = Ahead end after in
      let to : ℕ = at + (exp_size x + exp_size y + 1) in
      let left : Piece code proto there cx at (at + exp_size x) before after =
      given code proto nothing there (λ w all g. tt) cx at (at + exp_size x) before after (ok_x sc base at st known (has_front code base px py has) f (Prim.omega (arith, le))) in
      let right : Piece code proto there cy (at + exp_size x + 1) (at + exp_size x + 1 + exp_size y) before after =
      given code proto nothing there (λ w all g. tt) cy (at + exp_size x + 1) (at + exp_size x + 1 + exp_size y) before after
      (ok_y sy (base + exp_functions x) (at + exp_size x + 1) st known q (fit_same proto (past (exp_locals x) sc) known (fit_past proto sc known (exp_locals x) f)) (Prim.omega (arith, le))) in
      let fork : Piece code proto there (one i p) (at + exp_size x) (at + exp_size x + 1) after before =
      branching code proto there i p (at + exp_size x) end (value ∷ []) [] (value ∷ []) [] st (filled total known) range (e (at + exp_size x) (value ∷ st)) tt
      (λ w all g. (g, jumps_ahead w (at + exp_size x) end (Prim.omega (arith, at_end)))) in
      let rest : Piece code proto there (one i p ++ cy) (at + exp_size x) to after after = join code proto fork right refl (Prim.omega arith) in
      to_end code proto there nothing (cx ++ (one i p ++ cy)) at to before after (λ w all l g. subst (λ z. Ahead z after w all) at_end l) (join code proto left rest refl refl)

  -- the left operand waits in a slot
  swapped_ok : (i : Instr) → IsInRange code proto i → ((at : ℕ) (st : List ItemKind) → effect_of code at st i ≡ Some (two at)) → (p : Pos) (x y : Exp) → ExpOk x → ExpOk y
      → (sc : Scope) (base at : ℕ) (st : List ItemKind) (known : List SlotKind)
      → HasAt code base (exp_protos x sc base ++ exp_protos y (taken 1 (past (exp_locals x) sc)) (base + exp_functions x)) → Fit proto sc known → length known + max (exp_slots x) (1 + exp_slots y) ≤ total
      → Goes (exp_code x sc base at ++ (instr.SetSlot sc.free, p) ∷ (exp_code y (taken 1 (past (exp_locals x) sc)) (base + exp_functions x) (at + exp_size x + 1) ++ (instr.GetSlot sc.free, p) ∷ one i p)) at (at + (exp_size x + exp_size y + 3)) st (value ∷ st) known
  swapped_ok i range e p x y ok_x ok_y sc base at st known has f le =
      let sy : Scope = taken 1 (past (exp_locals x) sc) in
      let px : List Proto = exp_protos x sc base in
      let py : List Proto = exp_protos y sy (base + exp_functions x) in
      let q : HasAt code (base + exp_functions x) py = has_next code base (base + exp_functions x) px py (ap (λ z. base + z) (exp_count x sc base)) has in
      let free : length known ≡ sc.free = f.free in
      let waits : List SlotKind = known ++ held ∷ [] in
      let long : length waits ≡ length known + 1 = length-append known (held ∷ []) in
      let there : slice_get waits sc.free ≡ Some held = subst (λ z. slice_get waits z ≡ Some held) free (get_there known held []) in
      let all : Placed = exp_code x sc base at ++ (instr.SetSlot sc.free, p) ∷ (exp_code y sy (base + exp_functions x) (at + exp_size x + 1) ++ (instr.GetSlot sc.free, p) ∷ one i p) in
      less code proto nothing all at (at + (exp_size x + exp_size y + 3)) (shape st (filled total known)) (value ∷ st) (filled total waits) (filled total known) (filled_fewer total known (held ∷ []))
      (join code proto (ok_x sc base at st known (has_front code base px py has) f (Prim.omega (arith, le)))
      (join code proto (set_ok nothing sc.free p (at + exp_size x) st known free (Prim.omega (arith, free, le)))
      (join code proto (ok_y sy (base + exp_functions x) (at + exp_size x + 1) st waits q (fit_taken proto (past (exp_locals x) sc) known 1 (fit_past proto sc known (exp_locals x) f)) (Prim.omega (arith, le, long)))
      (join code proto (get_ok nothing sc.free p (at + exp_size x + 1 + exp_size y) (value ∷ st) waits there (Prim.omega (arith, le, long))) (two_ok i range e p (at + exp_size x + 1 + exp_size y + 1) st waits) refl refl) refl refl) refl refl)
      refl (Prim.omega arith))

  binary_ok : (o : BinaryOperator) (p : Pos) (x y : Exp) → ExpOk x → ExpOk y → ExpOk (tree.binary p o x y)
  binary_ok binary.Or p x y ok_x ok_y sc base at st known has f le =
      kept_ok (instr.KeepIf (at + (exp_size x + exp_size y + 1))) (at + (exp_size x + exp_size y + 1)) tt (λ a s. refl) p x y ok_x ok_y sc base at st known refl has f le
  binary_ok binary.And p x y ok_x ok_y sc base at st known has f le =
      kept_ok (instr.KeepIfNot (at + (exp_size x + exp_size y + 1))) (at + (exp_size x + exp_size y + 1)) tt (λ a s. refl) p x y ok_x ok_y sc base at st known refl has f le
  binary_ok binary.Less p x y ok_x ok_y sc base at st known has f le = strict_ok instr.Lt tt (λ a s. refl) p x y ok_x ok_y sc base at st known has f le
  binary_ok binary.Greater p x y ok_x ok_y sc base at st known has f le = swapped_ok instr.Lt tt (λ a s. refl) p x y ok_x ok_y sc base at st known has f le
  binary_ok binary.LessEqual p x y ok_x ok_y sc base at st known has f le = strict_ok instr.Le tt (λ a s. refl) p x y ok_x ok_y sc base at st known has f le
  binary_ok binary.GreaterEqual p x y ok_x ok_y sc base at st known has f le = swapped_ok instr.Le tt (λ a s. refl) p x y ok_x ok_y sc base at st known has f le
  binary_ok binary.NotEqual p x y ok_x ok_y sc base at st known has f le = differs_ok p x y ok_x ok_y sc base at st known has f le
  binary_ok binary.Equal p x y ok_x ok_y sc base at st known has f le = strict_ok instr.Eq tt (λ a s. refl) p x y ok_x ok_y sc base at st known has f le
  binary_ok binary.BitOr p x y ok_x ok_y sc base at st known has f le = strict_ok instr.BOr tt (λ a s. refl) p x y ok_x ok_y sc base at st known has f le
  binary_ok binary.BitXor p x y ok_x ok_y sc base at st known has f le = strict_ok instr.BXor tt (λ a s. refl) p x y ok_x ok_y sc base at st known has f le
  binary_ok binary.BitAnd p x y ok_x ok_y sc base at st known has f le = strict_ok instr.BAnd tt (λ a s. refl) p x y ok_x ok_y sc base at st known has f le
  binary_ok binary.ShiftLeft p x y ok_x ok_y sc base at st known has f le = strict_ok instr.Shl tt (λ a s. refl) p x y ok_x ok_y sc base at st known has f le
  binary_ok binary.ShiftRight p x y ok_x ok_y sc base at st known has f le = strict_ok instr.Shr tt (λ a s. refl) p x y ok_x ok_y sc base at st known has f le
  binary_ok binary.Concat p x y ok_x ok_y sc base at st known has f le = strict_ok instr.Concat tt (λ a s. refl) p x y ok_x ok_y sc base at st known has f le
  binary_ok binary.Add p x y ok_x ok_y sc base at st known has f le = strict_ok instr.Add tt (λ a s. refl) p x y ok_x ok_y sc base at st known has f le
  binary_ok binary.Subtract p x y ok_x ok_y sc base at st known has f le = strict_ok instr.Sub tt (λ a s. refl) p x y ok_x ok_y sc base at st known has f le
  binary_ok binary.Multiply p x y ok_x ok_y sc base at st known has f le = strict_ok instr.Mul tt (λ a s. refl) p x y ok_x ok_y sc base at st known has f le
  binary_ok binary.Divide p x y ok_x ok_y sc base at st known has f le = strict_ok instr.IDiv tt (λ a s. refl) p x y ok_x ok_y sc base at st known has f le
  binary_ok binary.Modulo p x y ok_x ok_y sc base at st known has f le = strict_ok instr.Mod tt (λ a s. refl) p x y ok_x ok_y sc base at st known has f le

  -- ---- functions, calls and lists

  function_ok : (p : Pos) (g : Function) → ExpOk (tree.function p g)
  function_ok p (tree.function_of ps rest rs b) sc base at st known has f le =
      let inner : List Proto = block_protos b (inside (length ps) sc) base in
      let made : Proto = proto_of (length ps) (is_some rest) (captures_in sc) (length ps + block_slots b) (body_code (length ps) b p (inside (length ps) sc) base) in
      let there : HasAt code (base + block_functions b) (made ∷ []) = has_next code base (base + block_functions b) inner (made ∷ []) (ap (λ z. base + z) (block_count b (inside (length ps) sc) base)) has in
      let captures : length proto.captures ≡ length sc.captured = f.captures in
      plain code proto nothing (instr.Closure (base + block_functions b)) p at [] (value ∷ []) (captured_slots (captures_of (slice_get code (base + block_functions b)))) [] st (filled total known)
      (get_below code (base + block_functions b) made there.0, subst (λ z. AreOuter (length proto.captures) (captures_of z)) (sym there.0) (captures_low (length proto.captures) sc.own sc.captured (Prim.omega (arith, captures))))
      refl
      (subst (λ z. Hold (filled total known) (captured_slots (captures_of z))) (sym there.0) (captures_held total known sc.own sc.captured (Prim.omega (arith, le)) f.cells))

  first_ok : (e : Multi) → MultiOk e → ExpOk (tree.one_of e)
  first_ok e ok sc base at st known has f le =
      join code proto (ok sc base at st known has f le) (plain code proto nothing instr.First (multi_place e) (at + multi_size e) (values ∷ []) (value ∷ []) [] [] st (filled total known) tt refl tt) refl (Prim.omega arith)

  call_ok : (p : Pos) (g : Exp) (es : Exps) → ExpOk g → ListOk es → MultiOk (tree.call p g es)
  call_ok p g es ok oks sc base at st known has f le =
      let sy : Scope = past (exp_locals g) sc in
      let pg : List Proto = exp_protos g sc base in
      let pes : List Proto = exps_protos es sy (base + exp_functions g) in
      let q : HasAt code (base + exp_functions g) pes = has_next code base (base + exp_functions g) pg pes (ap (λ z. base + z) (exp_count g sc base)) has in
      join code proto (ok sc base at st known (has_front code base pg pes has) f (Prim.omega (arith, le)))
      (join code proto (oks p 0 sy (base + exp_functions g) (at + exp_size g) (value ∷ st) known q (fit_past proto sc known (exp_locals g) f) (Prim.omega (arith, le)))
      (plain code proto nothing instr.Call p (at + exp_size g + exps_size es) (values ∷ value ∷ []) (values ∷ []) [] [] st (filled total known) tt refl tt) refl refl) refl (Prim.omega arith)

  marked_all_ok : (k : CrossKind) (e : Multi) → MultiOk e → MultiOk (tree.mark_all k e)
  marked_all_ok k e ok sc base at st known has f le = join code proto (ok sc base at st known has f le) (mark_ok k (multi_place e) (at + multi_size e) (values ∷ st) known) refl (Prim.omega arith)

  ends_ok : (e : Multi) → MultiOk e → ListOk (tree.ends e)
  ends_ok e ok p n sc base at st known has f le =
      join code proto (ok sc base at (replicate n value ++ st) known has f le) (plain code proto nothing (instr.Cons n) p (at + multi_size e) (values ∷ replicate n value) (values ∷ []) [] [] st (filled total known) tt refl tt) refl (Prim.omega arith)

  more_ok : (e : Exp) (es : Exps) → ExpOk e → ListOk es → ListOk (tree.more e es)
  more_ok e es ok oks p n sc base at st known has f le =
      let sy : Scope = past (exp_locals e) sc in
      let pe : List Proto = exp_protos e sc base in
      let pes : List Proto = exps_protos es sy (base + exp_functions e) in
      let q : HasAt code (base + exp_functions e) pes = has_next code base (base + exp_functions e) pe pes (ap (λ z. base + z) (exp_count e sc base)) has in
      let rest : Goes (list_code es p (n + 1) sy (base + exp_functions e) (at + exp_size e)) (at + exp_size e) (at + exp_size e + exps_size es) (value ∷ (replicate n value ++ st)) (values ∷ st) known =
      subst (λ l. Goes (list_code es p (n + 1) sy (base + exp_functions e) (at + exp_size e)) (at + exp_size e) (at + exp_size e + exps_size es) l (values ∷ st) known) (count_next n st)
      (oks p (n + 1) sy (base + exp_functions e) (at + exp_size e) st known q (fit_past proto sc known (exp_locals e) f) (Prim.omega (arith, le))) in
      join code proto (ok sc base at (replicate n value ++ st) known (has_front code base pe pes has) f (Prim.omega (arith, le))) rest refl (Prim.omega arith)

  mutual
    pub exp_ok : (e : Exp) → ExpOk e
    exp_ok (tree.nothing p) sc base at st known has f le = push_ok instr.Nil p at st known tt refl
    exp_ok (tree.truth p b) sc base at st known has f le = truth_ok b p at st known
    exp_ok (tree.integer p n) sc base at st known has f le = push_ok (instr.Int n) p at st known tt refl
    exp_ok (tree.text p s) sc base at st known has f le = push_ok (instr.Str s) p at st known tt refl
    exp_ok (tree.function p g) sc base at st known has f le = function_ok p g sc base at st known has f le
    exp_ok (tree.name p u s) sc base at st known has f le = use_ok (use_in sc u) sc p at st known f (Prim.omega (arith, le))
    exp_ok (tree.paren p e) sc base at st known has f le = exp_ok e sc base at st known has f le
    exp_ok (tree.field p e n) sc base at st known has f le = field_ok e sc p at st known
    exp_ok (tree.index p e k) sc base at st known has f le = push_ok instr.Nil p at st known tt refl
    exp_ok (tree.table p es) sc base at st known has f le = push_ok instr.Nil p at st known tt refl
    exp_ok (tree.unary p o e) sc base at st known has f le = unary_ok p o e (exp_ok e) sc base at st known has f le
    exp_ok (tree.binary p o a b) sc base at st known has f le = binary_ok o p a b (exp_ok a) (exp_ok b) sc base at st known has f le
    exp_ok (tree.mark k e) sc base at st known has f le = marked_ok k e (exp_ok e) sc base at st known has f le
    exp_ok (tree.one_of m) sc base at st known has f le = first_ok m (multi_ok m) sc base at st known has f le

    pub multi_ok : (m : Multi) → MultiOk m
    multi_ok (tree.vararg p) sc base at st known has f le = plain code proto nothing instr.Rest p at [] (values ∷ []) [] [] st (filled total known) tt refl tt
    multi_ok (tree.call p g es) sc base at st known has f le = call_ok p g es (exp_ok g) (list_ok es) sc base at st known has f le
    multi_ok (tree.method p e n es) sc base at st known has f le = plain code proto nothing (instr.Pack 0) p at [] (values ∷ []) [] [] st (filled total known) tt refl tt
    multi_ok (tree.mark_all k m) sc base at st known has f le = marked_all_ok k m (multi_ok m) sc base at st known has f le

    pub list_ok : (es : Exps) → ListOk es
    list_ok tree.none p n sc base at st known has f le = plain code proto nothing (instr.Pack n) p at (replicate n value) (values ∷ []) [] [] st (filled total known) tt refl tt
    list_ok (tree.ends m) p n sc base at st known has f le = ends_ok m (multi_ok m) p n sc base at st known has f le
    list_ok (tree.more e es) p n sc base at st known has f le = more_ok e es (exp_ok e) (list_ok es) p n sc base at st known has f le

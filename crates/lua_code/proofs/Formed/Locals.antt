-- The code that declares locals and stores into them agrees with its shapes.
use Rattle.std.proofs.Common.{◌≡◌, refl, sym, subst, ◌∙◌, ℕ, zero, suc, ◌+◌, ◌<◌, ◌≤◌, nat_eq, List, [], ◌∷◌, ◌++◌, length, replicate, slice_get, Option, Some, None, arith}
use Rattle.std.proofs.lemmas.List.{length-append, length-replicate, append_assoc, append-nil}
use Rattle.std.specs.Map.{lookup}
use Rattle.tl_base.specs.declared.place.Pos.{Pos}
use Rattle.lua_tree.specs.declared.scoped.Use.{Use}
use Rattle.lua_tree.specs.declared.scoped.Use.TheVariants as means
use Rattle.lua_tree.specs.Tree as tree
use Rattle.lua_tree.specs.Tree.{Exp, Targets}
use Rattle.lua_meaning.specs.Locals.{exp_locals}
use Rattle.lua_code.specs.declared.code.Proto.{Proto}
use Rattle.lua_code.specs.declared.code.Instr.TheVariants as instr
use Rattle.lua_code.specs.Sizes.{targets_size}
use Rattle.lua_code.specs.Generated.{one, Scope, past, from_own, from_captured, captured_from, write_use, use_in, store_instr, stores, target_count, set_slots, new_cells, begin_locals}
use Rattle.lua_code.specs.Shapes.{ItemKind, value, SlotKind, held, celled, either, Shape, IsEnoughIn}
use Rattle.lua_code.proofs.Formed.Slots.{filled, filled_get, filled_has, filled_set, filled_either, get_there, replicate_next}
use Rattle.lua_code.proofs.Formed.Pieces.{shape, Asked, nothing, Piece, none_to, join, plain}
use Rattle.lua_code.proofs.Formed.Scopes.{celled_at, captured_low, Fit, fit_past}
use Rattle.lua_code.proofs.Formed.Expressions.{Goes, count_next}

module _ (code : List Proto) (proto : Proto) (total : ℕ) where
  abbrev At : List ItemKind → List SlotKind → Shape
  At st known = shape st (filled total known)

  -- a slot that is known, or isn't, gets the value on the stack
  pub change_ok : (G : Asked) (i : ℕ) (p : Pos) (at : ℕ) (st : List ItemKind) (known more : List SlotKind) (k : SlotKind) → length known ≡ i → i < total
      → Piece code proto G (one (instr.SetSlot i) p) at (at + 1) (At (value ∷ st) (known ++ k ∷ more)) (At st (known ++ held ∷ more))
  change_ok G i p at st known more k e lt =
      subst (λ z. Piece code proto G (one (instr.SetSlot z) p) at (at + 1) (At (value ∷ st) (known ++ k ∷ more)) (At st (known ++ held ∷ more))) e
      (subst (λ l. Piece code proto G (one (instr.SetSlot (length known)) p) at (at + 1) (At (value ∷ st) (known ++ k ∷ more)) (shape st l)) (filled_set total known k held more)
      (plain code proto G (instr.SetSlot (length known)) p at (value ∷ []) [] ((length known, either) ∷ []) ((length known, held) ∷ []) st (filled total (known ++ k ∷ more)) tt refl
      (filled_has total (known ++ k ∷ more) (length known) (Prim.omega (arith, e, lt)), tt)))

  pub cell_ok : (G : Asked) (i : ℕ) (p : Pos) (at : ℕ) (st : List ItemKind) (known more : List SlotKind) → length known ≡ i → i + 1 + length more ≤ total
      → Piece code proto G (one (instr.NewCell i) p) at (at + 1) (At st (known ++ held ∷ more)) (At st (known ++ celled ∷ more))
  cell_ok G i p at st known more e le =
      let long : length (known ++ held ∷ more) ≡ length known + suc (length more) = length-append known (held ∷ more) in
      let there : slice_get (filled total (known ++ held ∷ more)) (length known) ≡ Some held = filled_get total (known ++ held ∷ more) (length known) held (get_there known held more) (Prim.omega (arith, long, e, le)) in
      subst (λ z. Piece code proto G (one (instr.NewCell z) p) at (at + 1) (At st (known ++ held ∷ more)) (At st (known ++ celled ∷ more))) e
      (subst (λ l. Piece code proto G (one (instr.NewCell (length known)) p) at (at + 1) (At st (known ++ held ∷ more)) (shape st l)) (filled_set total known held celled more)
      (plain code proto G (instr.NewCell (length known)) p at [] [] ((length known, held) ∷ []) ((length known, celled) ∷ []) st (filled total (known ++ held ∷ more)) tt refl (subst (λ z. IsEnoughIn z held) (sym there) tt, tt)))

  pub set_slots_ok : (G : Asked) (n i : ℕ) (p : Pos) (at : ℕ) (st : List ItemKind) (known : List SlotKind) → length known ≡ i → i + n ≤ total
      → Piece code proto G (set_slots i n p) at (at + n) (At (replicate n value ++ st) known) (At st (known ++ replicate n held))
  set_slots_ok G zero i p at st known e le = subst (λ l. Piece code proto G [] at (at + 0) (At st known) (At st l)) (sym (append-nil known)) (none_to code proto G at (at + 0) (At st known) (Prim.omega arith))
  set_slots_ok G (suc n) i p at st known e le =
      let next : List SlotKind = known ++ either ∷ [] in
      let long : length next ≡ length known + 1 = length-append known (either ∷ []) in
      let front : Piece code proto G (set_slots (i + 1) n p) at (at + n) (At (replicate n value ++ value ∷ st) next) (At (value ∷ st) (next ++ replicate n held)) =
      set_slots_ok G n (i + 1) p at (value ∷ st) next (Prim.omega (arith, long, e)) (Prim.omega (arith, le)) in
      let front2 : Piece code proto G (set_slots (i + 1) n p) at (at + n) (At (replicate (suc n) value ++ st) known) (At (value ∷ st) (known ++ either ∷ replicate n held)) =
      subst (λ l. Piece code proto G (set_slots (i + 1) n p) at (at + n) (At (replicate (suc n) value ++ st) known) (At (value ∷ st) l)) (append_assoc known (either ∷ []) (replicate n held))
      (subst (λ l. Piece code proto G (set_slots (i + 1) n p) at (at + n) (shape (replicate (suc n) value ++ st) l) (At (value ∷ st) (next ++ replicate n held))) (filled_either total known)
      (subst (λ l. Piece code proto G (set_slots (i + 1) n p) at (at + n) (shape l (filled total next)) (At (value ∷ st) (next ++ replicate n held))) (replicate_next n value st) front)) in
      join code proto front2 (change_ok G i p (at + n) st known (replicate n held) either e (Prim.omega (arith, le))) refl (Prim.omega arith)

  pub new_cells_ok : (G : Asked) (n i : ℕ) (p : Pos) (at : ℕ) (st : List ItemKind) (known : List SlotKind) → length known ≡ i → i + n ≤ total
      → Piece code proto G (new_cells i n p) at (at + n) (At st (known ++ replicate n held)) (At st (known ++ replicate n celled))
  new_cells_ok G zero i p at st known e le = none_to code proto G at (at + 0) (At st (known ++ [])) (Prim.omega arith)
  new_cells_ok G (suc n) i p at st known e le =
      let next : List SlotKind = known ++ celled ∷ [] in
      let long : length next ≡ length known + 1 = length-append known (celled ∷ []) in
      let rest : Piece code proto G (new_cells (i + 1) n p) (at + 1) (at + 1 + n) (At st (next ++ replicate n held)) (At st (next ++ replicate n celled)) =
      new_cells_ok G n (i + 1) p (at + 1) st next (Prim.omega (arith, long, e)) (Prim.omega (arith, le)) in
      let rest2 : Piece code proto G (new_cells (i + 1) n p) (at + 1) (at + 1 + n) (At st (known ++ celled ∷ replicate n held)) (At st (known ++ celled ∷ replicate n celled)) =
      subst (λ l. Piece code proto G (new_cells (i + 1) n p) (at + 1) (at + 1 + n) (At st l) (At st (known ++ celled ∷ replicate n celled))) (append_assoc known (celled ∷ []) (replicate n held))
      (subst (λ l. Piece code proto G (new_cells (i + 1) n p) (at + 1) (at + 1 + n) (At st (next ++ replicate n held)) (At st l)) (append_assoc known (celled ∷ []) (replicate n celled)) rest) in
      let count : length (replicate n held) ≡ n = length-replicate n held in
      join code proto (cell_ok G i p at st known (replicate n held) e (Prim.omega (arith, le, count))) rest2 refl (Prim.omega arith)

  pub begin_ok : (G : Asked) (n i : ℕ) (p : Pos) (at : ℕ) (st : List ItemKind) (known : List SlotKind) → length known ≡ i → i + n ≤ total
      → Piece code proto G (begin_locals i n p) at (at + (n + n)) (At (replicate n value ++ st) known) (At st (known ++ replicate n celled))
  begin_ok G n i p at st known e le = join code proto (set_slots_ok G n i p at st known e le) (new_cells_ok G n i p (at + n) st known e le) refl (Prim.omega arith)

  -- ---- stores

  pop_ok : (p : Pos) (at : ℕ) (k : ItemKind) (st : List ItemKind) (known : List SlotKind) → Goes code proto total (one instr.Pop p) at (at + 1) (k ∷ st) st known
  pop_ok p at k st known = plain code proto nothing instr.Pop p at (k ∷ []) [] [] [] st (filled total known) tt refl tt

  write_ok : (o q : Option ℕ) (p : Pos) (at : ℕ) (st : List ItemKind) (known : List SlotKind) → ((s : ℕ) → o ≡ Some s → slice_get (filled total known) s ≡ Some celled) → ((i : ℕ) → q ≡ Some i → i < length proto.captures)
      → Goes code proto total (one (from_own (λ s. instr.SetCell s) o (from_captured (λ i. instr.SetUp i) instr.Pop q)) p) at (at + 1) (value ∷ st) st known
  write_ok (Some s) q p at st known f g =
      plain code proto nothing (instr.SetCell s) p at (value ∷ []) [] ((s, celled) ∷ []) [] st (filled total known) tt refl (subst (λ z. IsEnoughIn z celled) (sym (f s refl)) tt, tt)
  write_ok None (Some i) p at st known f g = plain code proto nothing (instr.SetUp i) p at (value ∷ []) [] [] [] st (filled total known) (g i refl) refl tt
  write_ok None None p at st known f g = pop_ok p at value st known

  write_use_ok : (u : Option Use) (sc : Scope) (p : Pos) (at : ℕ) (st : List ItemKind) (known : List SlotKind) → Fit proto sc known → length known ≤ total → Goes code proto total (one (write_use sc u) p) at (at + 1) (value ∷ st) st known
  write_use_ok None sc p at st known f le = pop_ok p at value st known
  write_use_ok (Some (means.Lib l)) sc p at st known f le = pop_ok p at value st known
  write_use_ok (Some (means.Local x)) sc p at st known f le =
      let captures : length proto.captures ≡ length sc.captured = f.captures in
      write_ok (lookup (nat_eq x) sc.own) (captured_from 0 x sc.captured) p at st known (λ s e. filled_get total known s celled (celled_at known sc.own x s f.cells e) le)
      (λ i e. let low : i < 0 + length sc.captured = captured_low 0 x sc.captured i e in Prim.omega (arith, low, captures))

  pub store_ok : (e : Exp) (sc : Scope) (p : Pos) (at : ℕ) (st : List ItemKind) (known : List SlotKind) → Fit proto sc known → length known ≤ total → Goes code proto total (one (store_instr e sc) p) at (at + 1) (value ∷ st) st known
  store_ok (tree.name q u t) sc p at st known f le = write_use_ok (use_in sc u) sc p at st known f le
  store_ok (tree.mark k e) sc p at st known f le = store_ok e sc p at st known f le
  store_ok e sc p at st known f le = pop_ok p at value st known

  pub stores_ok : (ts : Targets) (sc : Scope) (p : Pos) (at : ℕ) (st : List ItemKind) (known : List SlotKind) → Fit proto sc known → length known ≤ total
      → Goes code proto total (stores ts p sc) at (at + targets_size ts) (replicate (target_count ts) value ++ st) st known
  stores_ok tree.no_target sc p at st known f le = none_to code proto nothing at (at + 0) (At st known) (Prim.omega arith)
  stores_ok (tree.target e ts) sc p at st known f le =
      let n : ℕ = target_count ts in
      let same : replicate (n + 1) value ++ st ≡ replicate n value ++ value ∷ st = count_next n st ∙ sym (replicate_next n value st) in
      subst (λ l. Goes code proto total (stores ts p (past (exp_locals e) sc) ++ one (store_instr e sc) p) at (at + (targets_size ts + 1)) l st known) (sym same)
      (join code proto (stores_ok ts (past (exp_locals e) sc) p at (value ∷ st) known (fit_past proto sc known (exp_locals e) f) le) (store_ok e sc p (at + targets_size ts) st known f le) refl (Prim.omega arith))

-- Steps of the loops that put slots and cells, and stores.
use Rattle.std.proofs.Common.{◌≡◌, refl, sym, ap, ◌∙◌, ℕ, zero, suc, ◌+◌, ◌-◌, ◌<◌, List, [], ◌∷◌, ◌++◌, length, take, get_or, arith}
use Rattle.tl_base.specs.declared.place.Pos.{Pos}
use Rattle.lua_tree.specs.declared.syntax.Expr.{Expr}
use Rattle.lua_tree.specs.View.{exp_of, targets_of}
use Rattle.lua_meaning.specs.Locals.{exp_locals}
use Rattle.lua_code.specs.declared.code.Instr.TheVariants as instr
use Rattle.lua_code.specs.Generated.{one, Scope, new_cells, set_slots, stores, store_instr}
use Rattle.code_gen.specs.Work.{Work, put_all, put}
use Rattle.code_gen.proofs.Put.{put_more}
use Rattle.code_gen.proofs.Forms.Statements.{stores_past}

-- i of n cells are made
pub cells_step : (s n i : ℕ) (p : Pos) (w : Work) → i < n
    → put_all (new_cells (s + (i + 1)) (n - (i + 1)) p) (put (instr.NewCell (s + i)) p w) ≡ put_all (new_cells (s + i) (n - i) p) w
cells_step s n i p w h =
    let fewer : n - i ≡ suc (n - (i + 1)) = omega (arith, h) in
    let next : s + (i + 1) ≡ s + i + 1 = omega arith in
    rw (fewer, next) (put_more (one (instr.NewCell (s + i)) p) (new_cells (s + i + 1) (n - (i + 1)) p) w)

slots_more : (s n : ℕ) (p : Pos) → set_slots s (suc n) p ≡ (instr.SetSlot (s + n), p) ∷ set_slots s n p
slots_more s zero p = let e : s + 0 ≡ s = omega arith in rw e refl
slots_more s (suc n) p =
    let e : s + suc n ≡ s + 1 + n = omega arith in
    ap (λ l. l ++ one (instr.SetSlot s) p) (slots_more (s + 1) n p) ∙ rw e refl

-- i of n slots are set
pub slots_step : (s n i : ℕ) (p : Pos) (w : Work) → i < n
    → put_all (set_slots s (n - (i + 1)) p) (put (instr.SetSlot (s + (n - 1 - i))) p w) ≡ put_all (set_slots s (n - i) p) w
slots_step s n i p w h =
    let fewer : n - i ≡ suc (n - (i + 1)) = omega (arith, h) in
    let place : n - 1 - i ≡ n - (i + 1) = omega (arith, h) in
    rw (fewer, place, slots_more s (n - (i + 1)) p) (put_more (one (instr.SetSlot (s + (n - (i + 1)))) p) (set_slots s (n - (i + 1)) p) w)

stores_more : (ts : List Expr) (n : ℕ) (x : Expr) (p : Pos) (sc : Scope) → n < length ts → x ≡ get_or ts n x
    → stores (targets_of (take (suc n) ts)) p sc ≡ (store_instr (exp_of x) sc, p) ∷ stores (targets_of (take n ts)) p sc
stores_more [] n x p sc h e = absurd (omega (arith, h))
stores_more (t ∷ ts) zero x p sc h e = ap (λ z. one (store_instr (exp_of z) sc) p) (sym e)
stores_more (t ∷ ts) (suc n) x p sc h e =
    ap (λ l. l ++ one (store_instr (exp_of t) sc) p) (stores_past (targets_of (take (suc n) ts)) p (exp_locals (exp_of t)) sc ∙ stores_more ts n x p sc (omega (arith, h)) e)
    ∙ ap (λ l. (store_instr (exp_of x) sc, p) ∷ (l ++ one (store_instr (exp_of t) sc) p)) (sym (stores_past (targets_of (take n ts)) p (exp_locals (exp_of t)) sc))

-- i of the targets are stored
pub stores_step : (ts : List Expr) (i : ℕ) (x : Expr) (p : Pos) (sc : Scope) (w : Work) → i < length ts → x ≡ get_or ts (length ts - 1 - i) x
    → put_all (stores (targets_of (take (length ts - (i + 1)) ts)) p sc) (put (store_instr (exp_of x) sc) p w) ≡ put_all (stores (targets_of (take (length ts - i) ts)) p sc) w
stores_step ts i x p sc w h e =
    let fewer : length ts - i ≡ suc (length ts - 1 - i) = omega (arith, h) in
    let same : length ts - (i + 1) ≡ length ts - 1 - i = omega (arith, h) in
    let here : length ts - 1 - i < length ts = omega (arith, h) in
    rw (fewer, same, stores_more ts (length ts - 1 - i) x p sc here e) (put_more (one (store_instr (exp_of x) sc) p) (stores (targets_of (take (length ts - 1 - i) ts)) p sc) w)

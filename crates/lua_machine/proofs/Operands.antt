-- Lists of values on the stack and in closures, as the rows of the code take them.
use Rattle.std.proofs.Common.{◌≡◌, refl, sym, ap, ◌∙◌, ℕ, zero, suc, ◌+◌, ◌-◌, List, [], ◌∷◌, ◌++◌, length, map, drop, replicate, slice_get, slice_index_or, append_assoc, reverse, ◌<◌, Bool, true, false, Option, Some, None, arith}
use Rattle.std.specs.Option.{option_map}
use Rattle.tl_base.specs.declared.place.Pos.{Pos}
use Rattle.lua_meaning.specs.World.{World}
use Rattle.lua_meaning.specs.Trees.{adjust, first_of}
use Rattle.lua_values.specs.declared.value.Value.{Value}
use Rattle.lua_values.specs.declared.value.Value.TheVariants as value
use Rattle.lua_code.specs.declared.code.Capture.{Capture}
use Rattle.lua_code.specs.declared.code.Capture.TheVariants as capture
use Rattle.lua_code.specs.declared.code.Proto.{Proto}
use Rattle.lua_code.specs.declared.frames.Slot.{Slot}
use Rattle.lua_code.specs.declared.frames.Slot.TheVariants as slot
use Rattle.lua_code.specs.declared.frames.Item.{Item}
use Rattle.lua_code.specs.declared.frames.Item.TheVariants as item
use Rattle.lua_code.specs.Configurations.{Frame, Level, CodeClosure, Next, stuck}
use Rattle.lua_code.specs.Instructions.{Row, pop_values, capture_all, spread, cell_in, this_cell, close, new_closure}
use Rattle.std.proofs.lemmas.List.{reverse-append}
use Rattle.lua_machine.specs.Frames.{Activity, with_item, with_stack, PopsMany}
use Rattle.lua_machine.specs.Lists.{taken, held_cell, cell_here, with_front, cells_here}

-- ---- values taken from the stack

abbrev pub after_taken : Option (List Value × List Item) → (List Value → Row) → Row
after_taken None next p f levels w ks = stuck
after_taken (Some t) next p f levels w ks = next t.0 p (record f { stack = t.1 }) levels w ks

popped_on : (n : ℕ) (us vs : List Value) (stack : List Item) (next : List Value → Row) (p : Pos) (f : Frame) (levels : List Level) (w : World) (ks : List CodeClosure)
    → pop_values n (us ++ vs) next p (record f { stack = stack }) levels w ks ≡ after_taken (taken n us stack) (λ xs. next (xs ++ vs)) p f levels w ks
popped_on zero us vs stack next p f levels w ks = refl
popped_on (suc n) us vs [] next p f levels w ks = refl
popped_on (suc n) us vs (item.One v ∷ stack) next p f levels w ks = popped_on n (v ∷ us) vs stack next p f levels w ks
popped_on (suc n) us vs (item.Many xs ∷ stack) next p f levels w ks = refl

pub popped : (n : ℕ) (vs : List Value) (next : List Value → Row) (p : Pos) (f : Frame) (levels : List Level) (w : World) (ks : List CodeClosure)
    → pop_values n vs next p f levels w ks ≡ after_taken (taken n [] f.stack) (λ xs. next (xs ++ vs)) p f levels w ks
popped n vs next p f levels w ks = popped_on n [] vs f.stack next p f levels w ks

-- one value more is taken
pub taken_one : (n m : ℕ) (v : Value) (vs : List Value) (stack : List Item) → n ≡ suc m → taken n vs (item.One v ∷ stack) ≡ taken m (v ∷ vs) stack
taken_one n m v vs stack e = ap (λ k. taken k vs (item.One v ∷ stack)) e

-- ---- cells that are captured

abbrev pub after_cells : Option (List ℕ) → (List ℕ → Row) → Row
after_cells None next p f levels w ks = stuck
after_cells (Some cells) next p f levels w ks = next cells p f levels w ks

module _ (p : Pos) (f : Frame) (levels : List Level) (w : World) (ks : List CodeClosure) where
  one_more : (c : ℕ) (o : Option (List ℕ)) (next : List ℕ → Row)
      → after_cells o (λ cells. next (c ∷ cells)) p f levels w ks ≡ after_cells (option_map (λ cs. c ∷ cs) o) next p f levels w ks
  one_more c None next = refl
  one_more c (Some cells) next = refl

  from_outer : (o : Option ℕ) (cs : Option (List ℕ)) (next : List ℕ → Row) (k : ℕ → Row)
      → ((c : ℕ) → k c p f levels w ks ≡ after_cells cs (λ cells. next (c ∷ cells)) p f levels w ks)
      → this_cell o k p f levels w ks ≡ after_cells (with_front o cs) next p f levels w ks
  from_outer None cs next k same = refl
  from_outer (Some c) cs next k same = same c ∙ one_more c cs next

  from_held : (s : Option Slot) (cs : Option (List ℕ)) (next : List ℕ → Row) (k : ℕ → Row)
      → ((c : ℕ) → k c p f levels w ks ≡ after_cells cs (λ cells. next (c ∷ cells)) p f levels w ks)
      → cell_in s k p f levels w ks ≡ after_cells (with_front (held_cell s) cs) next p f levels w ks
  from_held None cs next k same = refl
  from_held (Some (slot.Cell c)) cs next k same = same c ∙ one_more c cs next
  from_held (Some (slot.Held v)) cs next k same = refl

  pub captured_all : (cs : List Capture) (next : List ℕ → Row) → capture_all cs next p f levels w ks ≡ after_cells (cells_here f cs) next p f levels w ks
  captured_all [] next = refl
  captured_all (capture.Cell i ∷ cs) next =
      from_held (slice_get f.slots i) (cells_here f cs) next (λ c. capture_all cs (λ cells. next (c ∷ cells))) (λ c. captured_all cs (λ cells. next (c ∷ cells)))
  captured_all (capture.Outer i ∷ cs) next =
      from_outer (slice_get f.captured i) (cells_here f cs) next (λ c. capture_all cs (λ cells. next (c ∷ cells))) (λ c. captured_all cs (λ cells. next (c ∷ cells)))

-- ---- lists that are cut or filled

pub adjust_next : (m i : ℕ) (vs : List Value) → adjust (suc m) (drop i vs) ≡ slice_index_or vs i value.Nil ∷ adjust m (drop (suc i) vs)
adjust_next m zero [] = refl
adjust_next m zero (v ∷ vs) = refl
adjust_next m (suc i) [] = refl
adjust_next m (suc i) (v ∷ vs) = adjust_next m i vs

pub all_nil : (k : ℕ) → adjust k [] ≡ replicate k value.Nil
all_nil zero = refl
all_nil (suc k) = ap (λ vs. value.Nil ∷ vs) (all_nil k)

pub map_append : {A B : Type 0} (f : A → B) (xs ys : List A) → map f (xs ++ ys) ≡ map f xs ++ map f ys
map_append f [] ys = refl
map_append f (x ∷ xs) ys = ap (λ zs. f x ∷ zs) (map_append f xs ys)

pub taken_step : (count counter : ℕ) (v : Value) (xs ys : List Value) (stack below : List Item) (g : Option (List Value × List Item))
    → counter < count → stack ≡ item.One v ∷ below → ys ≡ xs ++ v ∷ [] → taken (count - counter) (reverse xs) stack ≡ g
    → taken (count - (counter + 1)) (reverse ys) below ≡ g
taken_step count counter v xs ys stack below g less is_stack is_more h =
    let e : count - counter ≡ suc (count - (counter + 1)) = omega arith in
    ap (λ r. taken (count - (counter + 1)) r below) (ap (λ zs. reverse zs) is_more ∙ reverse-append xs (v ∷ []))
    ∙ (sym (taken_one (count - counter) (count - (counter + 1)) v (reverse xs) below e)
    ∙ (ap (λ s. taken (count - counter) (reverse xs) s) (sym is_stack) ∙ h))

-- what pops values changes the stack alone
pub rest_step : (a b c : Activity) (i : Item) → b ≡ record a { frame = record a.frame { stack = b.frame.stack } } → b ≡ with_item i c
    → c ≡ record a { frame = record a.frame { stack = c.frame.stack } }
rest_step a b c i e1 e2 = ap (λ (x : Activity). record x { frame = record x.frame { stack = c.frame.stack } }) (sym e2 ∙ e1)

module _ (n : ℕ) (vs : List Value) (next : List Value → Row) (p : Pos) (f : Frame) (levels : List Level) (w : World) (ks : List CodeClosure) where
  pub pops_stuck : taken n [] f.stack ≡ None → pop_values n vs next p f levels w ks ≡ stuck
  pops_stuck e = popped n vs next p f levels w ks ∙ ap (λ o. after_taken o (λ xs. next (xs ++ vs)) p f levels w ks) e

  pub pops_on : (xs : List Value) (stack : List Item) → taken n [] f.stack ≡ Some (xs, stack)
      → pop_values n vs next p f levels w ks ≡ next (xs ++ vs) p (record f { stack = stack }) levels w ks
  pops_on xs stack e = popped n vs next p f levels w ks ∙ ap (λ o. after_taken o (λ xs. next (xs ++ vs)) p f levels w ks) e

module _ (n : ℕ) (vs : List Value) (next : List Value → Row) (p : Pos) (a b : Activity) (w : World) (ks : List CodeClosure) (start xs : List Value) where
  pub pops_none : (all : Bool) → start ≡ [] → all ≡ false → PopsMany all (taken n (reverse start) a.frame.stack) xs a b → pop_values n vs next p a.frame a.levels w ks ≡ stuck
  pops_none true s e h = absurd (let f : true ≡ false = e in cc)
  pops_none false s e h = pops_stuck n vs next p a.frame a.levels w ks (ap (λ (us : List Value). taken n (reverse us) a.frame.stack) (sym s) ∙ h)

  pub pops_all : (all : Bool) → start ≡ [] → all ≡ true → PopsMany all (taken n (reverse start) a.frame.stack) xs a b
      → pop_values n vs next p a.frame a.levels w ks ≡ next (xs ++ vs) p b.frame b.levels w ks
  pops_all false s e h = absurd (let f : false ≡ true = e in cc)
  pops_all true s e h =
      pops_on n vs next p a.frame a.levels w ks xs b.frame.stack (ap (λ (us : List Value). taken n (reverse us) a.frame.stack) (sym s) ∙ h.0) ∙ ap (λ (x : Activity). next (xs ++ vs) p x.frame x.levels w ks) (sym h.1)

pub first_is : (vs : List Value) → slice_index_or vs 0 value.Nil ≡ first_of vs
first_is [] = refl
first_is (v ∷ vs) = refl

-- the next value of a list that is cut or filled
pub adjust_more : (count at : ℕ) (vs : List Value) (v : Value) → at < count → v ≡ slice_index_or vs at value.Nil
    → adjust (count - at) (drop at vs) ≡ v ∷ adjust (count - (at + 1)) (drop (at + 1) vs)
adjust_more count at vs v less is_value =
    let e : count - at ≡ suc (count - (at + 1)) = omega arith in
    let up : at + 1 ≡ suc at = omega arith in
    ap (λ k. adjust k (drop at vs)) e ∙ (adjust_next (count - (at + 1)) at vs
    ∙ (ap (λ u. u ∷ adjust (count - (at + 1)) (drop (suc at) vs)) (sym is_value) ∙ ap (λ k. v ∷ adjust (count - (at + 1)) (drop k vs)) (sym up)))

-- one value more of a list is on the stack
pub spread_step : (count counter : ℕ) (vs : List Value) (v : Value) (a b g : Activity)
    → counter < count → v ≡ slice_index_or vs counter value.Nil → b ≡ with_item (item.One v) a
    → with_stack (spread (adjust (count - counter) (drop counter vs)) a.frame.stack) a ≡ g
    → with_stack (spread (adjust (count - (counter + 1)) (drop (counter + 1) vs)) b.frame.stack) b ≡ g
spread_step count counter vs v a b g less is_value is_more h =
    ap (λ (x : Activity). with_stack (spread (adjust (count - (counter + 1)) (drop (counter + 1) vs)) x.frame.stack) x) is_more
    ∙ (ap (λ us. with_stack (spread us a.frame.stack) a) (sym (adjust_more count counter vs v less is_value)) ∙ h)

module _ (number : ℕ) (o : Option Proto) (proto : Proto) (p : Pos) (f : Frame) (levels : List Level) (w : World) (ks : List CodeClosure) where
  pub closes_not : Some proto ≡ o → None ≡ cells_here f proto.captures → close number o p f levels w ks ≡ stuck
  closes_not is none =
      ap (λ q. close number q p f levels w ks) (sym is) ∙ (captured_all p f levels w ks proto.captures (λ cells. new_closure number cells)
      ∙ ap (λ q. after_cells q (λ cells. new_closure number cells) p f levels w ks) (sym none))

  pub closes_on : (cells : List ℕ) → Some proto ≡ o → Some cells ≡ cells_here f proto.captures → close number o p f levels w ks ≡ new_closure number cells p f levels w ks
  closes_on cells is some =
      ap (λ q. close number q p f levels w ks) (sym is) ∙ (captured_all p f levels w ks proto.captures (λ cells. new_closure number cells)
      ∙ ap (λ q. after_cells q (λ cells. new_closure number cells) p f levels w ks) (sym some))

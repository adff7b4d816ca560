-- What no part of a run breaks: a fact of worlds that holds whatever is stored, written and recorded, and whatever marks of one kind are passed,
-- while the trees of all closures have such marks alone.
use Rattle.std.proofs.Common.{◌≡◌, refl, subst, ℕ, zero, suc, ◌-◌, Bool, true, false, List, [], ◌∷◌, ◌++◌, slice_get, Option, Some, None}
use Rattle.std.specs.Prelude.{Contains, slice_set}
use Rattle.std.proofs.lemmas.List.Elements.{Contains-append_left, Contains-append_right}
use Rattle.tl_base.specs.declared.place.Pos.{Pos}
use Rattle.tl_base.specs.declared.crossing.Crossing.{Crossing}
use Rattle.lua_values.specs.declared.value.Value.{Value}
use Rattle.lua_meaning.specs.World.{World, write_cell, pass, recorded, kind_at}
use Rattle.lua_meaning.specs.Environment.{Bound}
use Rattle.lua_meaning.specs.Outcomes.{Act, Closure, Outcome, gives, raises, cut, Flow, normal, returned, broken, give, go_on, ◌>>=◌, ◌>>◌, look, change, turned, turn, fail_at, kind_error_at, new_cell, new_closure, closure_at, either, then_do, next_turn}
use Rattle.lua_meaning.specs.Calls.{entered}
use Rattle.tl_rules.specs.Crossings.{function_marks}

-- M holds of each of these marks
abbrev pub Each : (Crossing → Type 0) → List Crossing → Type 0
Each M cs = (c : Crossing) → Contains cs c → M c

pub each_left : (M : Crossing → Type 0) (xs ys : List Crossing) → Each M (xs ++ ys) → Each M xs
each_left M xs ys h c i = h c (Contains-append_left xs ys c i)

pub each_right : (M : Crossing → Type 0) (xs ys : List Crossing) → Each M (xs ++ ys) → Each M ys
each_right M xs ys h c i = h c (Contains-append_right xs ys c i)

pub record Stable (I : World → Type 0) (M : Crossing → Type 0) : Type 0 where
  pub marks : (c : Crossing) (w : World) → M c → I w → I (pass c w)
  pub errors : (p : Pos) (w : World) → I w → I (recorded (kind_at w p) p w)
  pub cells : (vs : List Value) (w : World) → I w → I (record w { cells = vs })
  pub turns : (n : ℕ) (w : World) → I w → I (record w { turns = n })
  pub output : (bytes : List ℕ) (w : World) → I w → I (record w { output = bytes })

some_is : {A : Type 0} (a b : A) → Some a ≡ Some b → a ≡ b
some_is a b e = cc

module _ (I : World → Type 0) (M : Crossing → Type 0) where
  -- the trees of these closures have such marks alone
  abbrev pub Held : List Closure → Type 0
  Held [] = Unit {0}
  Held (k ∷ ks) = Each M (function_marks k.function) × Held ks

  abbrev pub Ends : {A : Type 0} → Outcome A → Type 0
  Ends (gives a w cs) = I w × Held cs
  Ends (raises v w cs) = I w × Held cs
  Ends (cut w) = I w

  pub record Keep {A : Type 0} (f : Act A) : Type 0 where
    pub at : (w : World) (cs : List Closure) → I w → Held cs → Ends (f w cs)

  held_push : (cs : List Closure) (k : Closure) → Held cs → Each M (function_marks k.function) → Held (cs ++ k ∷ [])
  held_push [] k h m = (m, tt)
  held_push (c ∷ cs) k h m = (h.0, held_push cs k h.1 m)

  -- ---- one part after another

  pub ends_on : {A B : Type 0} (r : Outcome A) (go : A → Act B) → Ends r → ((a : A) → Keep (go a)) → Ends (go_on r go)
  ends_on (gives a w cs) go h k = (k a).at w cs h.0 h.1
  ends_on (raises v w cs) go h k = h
  ends_on (cut w) go h k = h

  pub then_keep : {A B : Type 0} (f : Act A) (go : A → Act B) → Keep f → ((a : A) → Keep (go a)) → Keep (f >>= go)
  then_keep f go h k = record { at = λ w cs i c. ends_on (f w cs) go (h.at w cs i c) k }

  pub next_keep : {A B : Type 0} (f : Act A) (go : Act B) → Keep f → Keep go → Keep (f >> go)
  next_keep f go h k = record { at = λ w cs i c. ends_on (f w cs) (λ _. go) (h.at w cs i c) (λ _. k) }

  -- ---- choices and the parts that change nothing

  pub give_keep : {A : Type 0} (a : A) → Keep (give a)
  give_keep a = record { at = λ w cs i c. (i, c) }

  pub look_keep : {A : Type 0} (see : World → A) → Keep (look see)
  look_keep see = record { at = λ w cs i c. (i, c) }

  pub fail_keep : {A : Type 0} (p : Pos) (what : List ℕ) → Keep {A = A} (fail_at p what)
  fail_keep p what = record { at = λ w cs i c. (i, c) }

  pub either_keep : {A : Type 0} (b : Bool) (f g : Act A) → Keep f → Keep g → Keep (either b f g)
  either_keep true f g h k = h
  either_keep false f g h k = k

  pub then_do_keep : (flow : Flow) (go : Bound → Act Flow) → ((bound : Bound) → Keep (go bound)) → Keep (then_do flow go)
  then_do_keep (normal bound) go k = k bound
  then_do_keep (returned vs) go k = give_keep (returned vs)
  then_do_keep broken go k = give_keep broken

  pub next_turn_keep : (around : Bound) (flow : Flow) (go : Bound → Act Flow) → ((bound : Bound) → Keep (go bound)) → Keep (next_turn around flow go)
  next_turn_keep around (normal bound) go k = k bound
  next_turn_keep around (returned vs) go k = give_keep (returned vs)
  next_turn_keep around broken go k = give_keep (normal around)

  entered_keep : (o : Option Closure) (go : Closure → Act (List Value)) (w : World) (cs : List Closure) → I w → Held cs
      → ((k : Closure) → o ≡ Some k → Keep (go k)) → Ends (entered o go w cs)
  entered_keep None go w cs i h k = (i, h)
  entered_keep (Some c) go w cs i h k = (k c refl).at w cs i h

  held_get : (cs : List Closure) (n : ℕ) (k : Closure) → Held cs → slice_get cs n ≡ Some k → Each M (function_marks k.function)
  held_get [] n k h e = let f : ⊥ = cc in absurd f
  held_get (c ∷ cs) zero k h e = subst (λ z. Each M (function_marks z.function)) (some_is c k e) h.0
  held_get (c ∷ cs) (suc n) k h e = held_get cs n k h.1 e

  pub enter_keep : (number : ℕ) (go : Closure → Act (List Value)) → ((k : Closure) → Each M (function_marks k.function) → Keep (go k))
      → Keep (closure_at number >>= (λ k. entered k go))
  enter_keep number go g = record { at = λ w cs i h. entered_keep (slice_get cs (number - 1)) go w cs i h (λ k e. g k (held_get cs (number - 1) k h e)) }

  pub new_closure_keep : (k : Closure) → Each M (function_marks k.function) → Keep (new_closure k)
  new_closure_keep k m = record { at = λ w cs i h. (i, held_push cs k h m) }

  -- ---- the parts that change the world

  module _ (s : Stable I M) where
    pub write_cell_keep : (c : Option ℕ) (v : Value) → Keep (change (write_cell c v))
    write_cell_keep None v = record { at = λ w cs i h. (i, h) }
    write_cell_keep (Some c) v = record { at = λ w cs i h. (s.cells (slice_set w.cells c v) w i, h) }

    pub new_cell_keep : (v : Value) → Keep (new_cell v)
    new_cell_keep v = record { at = λ w cs i h. (s.cells (w.cells ++ v ∷ []) w i, h) }

    turned_keep : (n : ℕ) → Keep (turned n)
    turned_keep zero = record { at = λ w cs i h. i }
    turned_keep (suc n) = record { at = λ w cs i h. (s.turns n w i, h) }

    pub turn_keep : Keep turn
    turn_keep = record { at = λ w cs i h. (turned_keep w.turns).at w cs i h }

    pub kind_error_keep : {A : Type 0} (p : Pos) (what : List ℕ) → Keep {A = A} (kind_error_at p what)
    kind_error_keep p what = record { at = λ w cs i h. (s.errors p w i, h) }

    pub mark_keep : {A : Type 0} (c : Crossing) (f : Act A) → M c → Keep f → Keep (f >>= (λ v. change (pass c) >> give v))
    mark_keep c f m h = then_keep f _ h (λ v. record { at = λ w cs i k. (s.marks c w m i, k) })

-- Parts of a run that do the same to worlds that differ in their records alone, over closures of which the second have plain trees.
use Rattle.std.proofs.Common.{◌≡◌, refl, ap, subst, sym, ◌∙◌, ℕ, zero, suc, ◌+◌, ◌-◌, Bool, true, false, List, [], ◌∷◌, ◌++◌, map, length, slice_get, option_map, Option, Some, None}
use Rattle.std.proofs.lemmas.List.{length-map, map-append}
use Rattle.std.proofs.lemmas.Option.{slice_get-map}
use Rattle.tl_base.specs.declared.place.Pos.{Pos}
use Rattle.tl_base.specs.declared.place.ModuleKind.{ModuleKind}
use Rattle.tl_base.specs.declared.place.ModuleKind.TheVariants.{Typed, Untyped}
use Rattle.tl_base.specs.declared.crossing.Crossing.{Crossing}
use Rattle.lua_tree.specs.Plain.{plain_function}
use Rattle.lua_values.specs.declared.value.Value.{Value}
use Rattle.lua_values.specs.declared.value.Value.TheVariants as value
use Rattle.lua_meaning.specs.World.{World, read_cell, write_cell, with_cell, write, pass, recorded, kind_at, error_text}
use Rattle.lua_meaning.specs.Environment.{Bound}
use Rattle.lua_meaning.specs.Outcomes.{Act, Closure, Outcome, gives, raises, cut, Flow, normal, returned, broken, give, go_on, ◌>>=◌, ◌>>◌, look, change, turned, turn, fail_at, kind_error_at, new_cell, new_closure, closure_at, either, then_do, next_turn}
use Rattle.lua_meaning.specs.Calls.{entered}

-- a world without its records
abbrev pub bare : World → World
bare w = record w { mark = None; error = None }

abbrev pub plain_closure : Closure → Closure
plain_closure k = record k { function = plain_function k.function }

pub record Like (w u : World) (cs ds : List Closure) : Type 0 where
  pub worlds : bare w ≡ bare u
  pub closures : ds ≡ map plain_closure cs

abbrev pub Alike : {A : Type 0} → Outcome A → Outcome A → Type 0
Alike (gives a w cs) (gives b u ds) = (a ≡ b) × Like w u cs ds
Alike (raises v w cs) (raises x u ds) = (v ≡ x) × Like w u cs ds
Alike (cut w) (cut u) = bare w ≡ bare u
Alike r q = ⊥

pub record Same {A : Type 0} (f g : Act A) : Type 0 where
  pub at : (w u : World) (cs ds : List Closure) → Like w u cs ds → Alike (f w cs) (g u ds)

-- ---- one part after another

on_alike : {A B : Type 0} (r q : Outcome A) (h k : A → Act B) → Alike r q → ((a : A) → Same (h a) (k a)) → Alike (go_on r h) (go_on q k)
on_alike (gives a w cs) (gives b u ds) h k e s = subst (λ c. Alike (h a w cs) (k c u ds)) e.0 ((s a).at w u cs ds e.1)
on_alike (raises v w cs) (raises x u ds) h k e s = e
on_alike (cut w) (cut u) h k e s = e
on_alike (gives a w cs) (raises x u ds) h k e s = absurd e
on_alike (gives a w cs) (cut u) h k e s = absurd e
on_alike (raises v w cs) (gives b u ds) h k e s = absurd e
on_alike (raises v w cs) (cut u) h k e s = absurd e
on_alike (cut w) (gives b u ds) h k e s = absurd e
on_alike (cut w) (raises x u ds) h k e s = absurd e

pub then_same : {A B : Type 0} (f g : Act A) (h k : A → Act B) → Same f g → ((a : A) → Same (h a) (k a)) → Same (f >>= h) (g >>= k)
then_same f g h k s t = record { at = λ w u cs ds l. on_alike (f w cs) (g u ds) h k (s.at w u cs ds l) t }

pub next_same : {A B : Type 0} (f g : Act A) (h k : Act B) → Same f g → Same h k → Same (f >> h) (g >> k)
next_same f g h k s t = record { at = λ w u cs ds l. on_alike (f w cs) (g u ds) (λ _. h) (λ _. k) (s.at w u cs ds l) (λ _. t) }

-- the second stands at a place that is computed otherwise
pub moved : {A : Type 0} (f : Act A) (g : ℕ → Act A) (n m : ℕ) → m ≡ n → Same f (g n) → Same f (g m)
moved f g n m e s = subst (λ z. Same f (g z)) (sym e) s

-- ---- the parts

pub give_same : {A : Type 0} (a : A) → Same (give a) (give a)
give_same a = record { at = λ w u cs ds l. (refl, l) }

pub look_same : {A : Type 0} (see : World → A) → ((w : World) → see w ≡ see (bare w)) → Same (look see) (look see)
look_same see h = record { at = λ w u cs ds l. (h w ∙ ap see l.worlds ∙ sym (h u), l) }

pub change_same : (how : World → World) → ((w : World) → bare (how w) ≡ how (bare w)) → Same (change how) (change how)
change_same how h = record { at = λ w u cs ds l. (refl, record { worlds = h w ∙ ap how l.worlds ∙ sym (h u); closures = l.closures }) }

pub read_same : (c : Option ℕ) → Same (look (read_cell c)) (look (read_cell c))
read_same None = look_same (read_cell None) (λ w. refl)
read_same (Some c) = look_same (read_cell (Some c)) (λ w. refl)

pub write_cell_same : (c : Option ℕ) (v : Value) → Same (change (write_cell c v)) (change (write_cell c v))
write_cell_same None v = change_same (write_cell None v) (λ w. refl)
write_cell_same (Some c) v = change_same (write_cell (Some c) v) (λ w. refl)

pub write_same : (bytes : List ℕ) → Same (change (write bytes)) (change (write bytes))
write_same bytes = change_same (write bytes) (λ w. refl)

pub new_cell_same : (v : Value) → Same (new_cell v) (new_cell v)
new_cell_same v = record { at = λ w u cs ds l. (ap (λ z. length z.cells) l.worlds, record { worlds = ap (with_cell v) l.worlds; closures = l.closures }) }

turned_alike : (n : ℕ) (w u : World) (cs ds : List Closure) → Like w u cs ds → Alike (turned n w cs) (turned n u ds)
turned_alike zero w u cs ds l = l.worlds
turned_alike (suc n) w u cs ds l = (refl, record { worlds = ap (λ (z : World). record z { turns = n }) l.worlds; closures = l.closures })

pub turn_same : Same turn turn
turn_same = record { at = λ w u cs ds l. subst (λ n. Alike (turned w.turns w cs) (turned n u ds)) (ap (λ z. z.turns) l.worlds) (turned_alike w.turns w u cs ds l) }

-- an error's text reads nothing but the file words
pub fail_same : {A : Type 0} (p : Pos) (what : List ℕ) → Same {A = A} (fail_at p what) (fail_at p what)
fail_same p what = record { at = λ w u cs ds l. (ap (λ z. value.Str (error_text p what z)) l.worlds, l) }

recorded_bare : (k : ModuleKind) (p : Pos) (w : World) → bare (recorded k p w) ≡ bare w
recorded_bare Typed p w = refl
recorded_bare Untyped p w = refl

pub kind_error_same : {A : Type 0} (p : Pos) (what : List ℕ) → Same {A = A} (kind_error_at p what) (kind_error_at p what)
kind_error_same p what = record {
  at = λ w u cs ds l. (
    ap (λ z. value.Str (error_text p what z)) l.worlds,
    record { worlds = recorded_bare (kind_at w p) p w ∙ l.worlds ∙ sym (recorded_bare (kind_at u p) p u); closures = l.closures },
  );
}

pub new_closure_same : (k : Closure) → Same (new_closure k) (new_closure (plain_closure k))
new_closure_same k = record {
  at = λ w u cs ds l. (
    ap (λ n. value.Closure (n + 1)) (sym (length-map cs plain_closure) ∙ ap length (sym l.closures)),
    record { worlds = l.worlds; closures = ap (λ es. es ++ plain_closure k ∷ []) l.closures ∙ sym (map-append plain_closure cs (k ∷ [])) },
  );
}

entered_same : (k : Option Closure) (f g : Closure → Act (List Value)) → ((k : Closure) → Same (f k) (g (plain_closure k))) → Same (entered k f) (entered (option_map plain_closure k) g)
entered_same None f g s = give_same []
entered_same (Some k) f g s = s k

pub enter_same : (number : ℕ) (f g : Closure → Act (List Value)) → ((k : Closure) → Same (f k) (g (plain_closure k)))
    → Same (closure_at number >>= (λ k. entered k f)) (closure_at number >>= (λ k. entered k g))
enter_same number f g s = record {
  at = λ w u cs ds l.
      subst (λ k. Alike (entered (slice_get cs (number - 1)) f w cs) (entered k g u ds))
      (sym (slice_get-map plain_closure cs (number - 1)) ∙ ap (λ es. slice_get es (number - 1)) (sym l.closures))
      ((entered_same (slice_get cs (number - 1)) f g s).at w u cs ds l);
}

-- a mark on the one side
pass_alike : {A : Type 0} (c : Crossing) (r q : Outcome A) → Alike r q → Alike (go_on r (λ v. change (pass c) >> give v)) q
pass_alike c (gives a w cs) (gives b u ds) e = (e.0, record { worlds = e.1.worlds; closures = e.1.closures })
pass_alike c (raises v w cs) (raises x u ds) e = e
pass_alike c (cut w) (cut u) e = e
pass_alike c (gives a w cs) (raises x u ds) e = absurd e
pass_alike c (gives a w cs) (cut u) e = absurd e
pass_alike c (raises v w cs) (gives b u ds) e = absurd e
pass_alike c (raises v w cs) (cut u) e = absurd e
pass_alike c (cut w) (gives b u ds) e = absurd e
pass_alike c (cut w) (raises x u ds) e = absurd e

pub mark_same : {A : Type 0} (c : Crossing) (f g : Act A) → Same f g → Same (f >>= (λ v. change (pass c) >> give v)) g
mark_same c f g s = record { at = λ w u cs ds l. pass_alike c (f w cs) (g u ds) (s.at w u cs ds l) }

-- ---- choices

pub either_same : {A : Type 0} (b : Bool) (f g h k : Act A) → Same f g → Same h k → Same (either b f h) (either b g k)
either_same true f g h k s t = s
either_same false f g h k s t = t

pub then_do_same : (flow : Flow) (h k : Bound → Act Flow) → ((bound : Bound) → Same (h bound) (k bound)) → Same (then_do flow h) (then_do flow k)
then_do_same (normal bound) h k s = s bound
then_do_same (returned vs) h k s = give_same (returned vs)
then_do_same broken h k s = give_same broken

pub next_turn_same : (around : Bound) (flow : Flow) (h k : Bound → Act Flow) → ((bound : Bound) → Same (h bound) (k bound)) → Same (next_turn around flow h) (next_turn around flow k)
next_turn_same around (normal bound) h k s = s bound
next_turn_same around (returned vs) h k s = give_same (returned vs)
next_turn_same around broken h k s = give_same (normal around)

-- The places around a place, as the code keeps them: for each how many locals were in scope, since those that came later go out of scope before it is the place again.
use Rattle.std.specs.Prelude.{ℕ, ◌-◌, ◌≤◌, List, [], ◌∷◌, ◌++◌, drop, length}
use Rattle.lua_scope.specs.declared.scopes.Standing.{Standing}
use Rattle.lua_scope.specs.declared.scopes.Outer.{Outer}
use Rattle.lua_tree.specs.Scopes.Places.{Binding, Place}

pub record Scopes : Type 0 where
  pub place : Place
  pub around : List Place

abbrev pub place_at : List Binding → Standing → Place
place_at visible h = record { visible = visible; alive = h.alive; function = h.function; in_loop = h.in_loop; has_rest = h.has_rest }

abbrev pub standing_of : Place → Standing
standing_of p = record { alive = p.alive; function = p.function; in_loop = p.in_loop; has_rest = p.has_rest }

-- the first so many locals that came into scope
abbrev pub first : ℕ → List Binding → List Binding
first n visible = drop (length visible - n) visible

abbrev pub unwound : List Binding → List Outer → List Place
unwound visible [] = []
unwound visible (o ∷ os) = place_at (first o.visible visible) o.standing ∷ unwound (first o.visible visible) os

-- a place has no more locals in scope than those inside it
abbrev pub Fits : ℕ → List Outer → Type 0
Fits n [] = Unit {0}
Fits n (o ∷ os) = (o.visible ≤ n) × Fits o.visible os

-- ---- what the calls do

abbrev pub begun : Standing → Scopes → Scopes
begun h s = record { place = place_at s.place.visible h; around = s.place ∷ s.around }

abbrev pub to : List Place → Scopes → Scopes
to [] s = s
to (p ∷ ps) s = record { place = p; around = ps }

abbrev pub finished : Scopes → Scopes
finished s = to s.around s

abbrev pub with_binding : Binding → Scopes → Scopes
with_binding b s = record s { place = record s.place { visible = b ∷ s.place.visible } }

abbrev pub with_bindings : List Binding → Scopes → Scopes
with_bindings bs s = record s { place = record s.place { visible = bs ++ s.place.visible } }

abbrev pub with_standing : Standing → Scopes → Scopes
with_standing h s = record s { place = place_at s.place.visible h }

-- What lasts beyond a piece of text: the scopes of locals follow the blocks of the text.
use Rattle.std.specs.Prelude.{◌≡◌, Ok, Err}
use Rattle.lua_tree.specs.Scopes.Places.{State}
use Rattle.lua_tree.specs.Scopes.Binding.{Outcome, run}
use Rattle.lua_tree.specs.Scopes.Trees.{Events}

-- behind it the text stands in the same scopes as before
abbrev pub Stays : State → Outcome → Type 0
Stays s (Ok t) = (t.place ≡ s.place) × (t.around ≡ s.around) × (t.declared ≡ s.declared)
Stays s (Err r) = Unit {0}

-- behind it the text stands in the same blocks as before, where more locals may be in scope
abbrev pub Nests : State → Outcome → Type 0
Nests s (Ok t) = (t.around ≡ s.around) × (t.declared ≡ s.declared)
Nests s (Err r) = Unit {0}

abbrev pub Keeps : Events → Type 0
Keeps es = (s : State) → Stays s (run es s)

abbrev pub Opens : Events → Type 0
Opens es = (s : State) → Nests s (run es s)

-- The store of a machine as the world of the code's run, without its output and its input.
use Rattle.std.specs.Prelude.{◌≡◌, ℕ, ◌<◌, ◌-◌, Bool, true, false, List, [], map, Option, None, Some}
use Rattle.tl_base.specs.declared.place.Pos.{Pos}
use Rattle.tl_base.specs.declared.place.ModuleKind.{ModuleKind}
use Rattle.tl_base.specs.declared.crossing.Crossing.{Crossing}
use Rattle.lua_values.specs.declared.value.Value.{Value}
use Rattle.lua_meaning.specs.World.{World, KindError}

abbrev pub kind_error_of : Option (Pos × Option Crossing) → Option KindError
kind_error_of None = None
kind_error_of (Some e) = Some (record { place = e.0; after = e.1 })

abbrev pub bare_world : List Value → List (List ℕ) → List ModuleKind → ℕ → Option Crossing → Option (Pos × Option Crossing) → World
bare_world cells words kinds turns mark error =
    record { cells = cells; tables = []; words = words; kinds = kinds; kept = map (λ _. None) kinds; output = []; input = []; turns = turns; mark = mark; error = kind_error_of error }

-- a turn is taken, or none is left
abbrev pub takes_turn : Bool → World → World → Type 0
takes_turn true old new = (0 < old.turns) × (new ≡ record old { turns = old.turns - 1 })
takes_turn false old new = (old.turns ≡ 0) × (new ≡ old)

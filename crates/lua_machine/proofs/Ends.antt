-- How runs begin and end, whatever the outside is.
use Rattle.std.proofs.Common.{◌≡◌, refl, sym, ap, ◌∙◌, ℕ, zero, suc, List, [], slice_get, Option, Some, None}
use Rattle.tl_base.specs.declared.place.ModuleKind.{ModuleKind}
use Rattle.lua_meaning.specs.World.{World}
use Rattle.lua_meaning.specs.Programs.{Ending, start}
use Rattle.lua_code.specs.declared.code.Proto.{Proto}
use Rattle.lua_code.specs.Configurations.{Next, go, stop, stuck}
use Rattle.lua_code.specs.Steps.{begin, begin_turn, end_of, halts, step, End}
use Rattle.lua_machine.specs.Outside.{with_outside, outside}
use Rattle.lua_machine.specs.Runs.{after}

begin_with : (o : Option Proto) (input : List ℕ) (w : World) → begin 0 o [] [] [] (outside [] input w) [] ≡ with_outside [] input (begin 0 o [] [] [] w [])
begin_with None input w = refl
begin_with (Some proto) input w = refl

pub begins_alike : (code : List Proto) (kinds : List ModuleKind) (words : List (List ℕ)) (input : List ℕ) (turns : ℕ)
    → begin_turn code turns (start kinds words input turns) ≡ with_outside [] input (begin_turn code turns (start kinds words [] turns))
begins_alike code kinds words input zero = refl
begins_alike code kinds words input (suc n) = begin_with (slice_get code 0) input (record (start kinds words [] (suc n)) { turns = n })

ends_so : (code : List Proto) (n : Next) (e : Ending) (w : World) → n ≡ stop e w → end_of (halts code zero) n ≡ Some (record { ending = e; world = w })
ends_so code n e w is = ap (end_of (halts code zero)) is

pub stops_end : (code : List Proto) (k : ℕ) (n : Next) (e : Ending) (w : World) → after code k n ≡ stop e w → end_of (halts code k) n ≡ Some (record { ending = e; world = w })
stops_end code zero n e w is = ends_so code n e w is
stops_end code (suc k) (go c) e w is = stops_end code k (step code c) e w is
stops_end code (suc k) (stop en v) e w is = ap (end_of (halts code (suc k))) is
stops_end code (suc k) stuck e w is = ap (end_of (halts code (suc k))) is

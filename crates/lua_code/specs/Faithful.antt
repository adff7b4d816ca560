-- When code is faithful to modules: its run gives, with the modules' kinds and for every list of file words, every input and every number of turns,
-- the meaning of the program they make, in some number of steps. Each module is a chunk (Lua 5.3 manual, 3.3.2).
use Rattle.std.specs.Prelude.{◌≡◌, ℕ, List, map, Some}
use Rattle.lua_meaning.specs.Programs.{Module, meaning}
use Rattle.lua_code.specs.declared.code.Code.{Code}
use Rattle.lua_code.specs.Steps.{run}

abbrev pub IsFaithful : List Module → Code → Type 0
IsFaithful ms code = (words : List (List ℕ)) (input : List ℕ) (turns : ℕ) → (steps : ℕ) × (run code (map (λ m. m.kind) ms) words input turns steps ≡ Some (meaning ms words input turns))

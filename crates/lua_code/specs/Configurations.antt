-- What a run of stack code is at before each of its steps: functions at work, and what waits for the results of their calls
-- (Lua 5.3 manual, 3.4.10 and 3.4.11).
-- The world is that of the meaning of trees; a closure is a function's number with the cells that it captured.
use Rattle.std.specs.Prelude.{ℕ, ◌+◌, List, [], ◌∷◌}
use Rattle.tl_base.specs.declared.place.Pos.{Pos}
use Rattle.lua_values.specs.declared.value.Value.{Value}
use Rattle.lua_meaning.specs.World.{World}
use Rattle.lua_meaning.specs.Programs.{Ending}
use Rattle.lua_code.specs.declared.frames.Slot.{Slot}
use Rattle.lua_code.specs.declared.frames.Item.{Item}

pub record CodeClosure : Type 0 where
  pub function : ℕ
  pub cells : List ℕ

-- a function at work: its number, the next instruction, the cells that it captured, its further arguments, and its stack, the top first
pub record Frame : Type 0 where
  pub function : ℕ
  pub at : ℕ
  pub slots : List Slot
  pub captured : List ℕ
  pub rest : List Value
  pub stack : List Item

-- what waits for the results of a call
pub data Level : Type 0 where
  caller : Frame → Level

pub data Config : Type 0 where
  running : Frame → List Level → World → List CodeClosure → Config
  -- a call begins, at a place
  calling : Pos → Value → List Value → List Level → World → List CodeClosure → Config
  -- results are on their way to what waits for them
  giving : List Value → List Level → World → List CodeClosure → Config
  -- so is an error's value
  raising : Value → List Level → World → List CodeClosure → Config

-- what a step comes to: it goes on, the run ends, or the code isn't well formed
pub data Next : Type 0 where
  go : Config → Next
  stop : Ending → World → Next
  stuck : Next

-- how many calls are at work: each level is one, and the function above them
abbrev pub calls_at_work : List Level → ℕ
calls_at_work [] = 0
calls_at_work (caller f ∷ levels) = calls_at_work levels + 1

-- The world of a run: what its store, its files, its output and input, its turns and its two records hold (Lua 5.3 manual, 2.1 and 3.2).
-- Closures stand beside the world, in a list of their own: the meaning of trees keeps trees in them, stack code numbers of functions.
use Rattle.std.specs.Prelude.{ℕ, List, [], ◌∷◌, ◌++◌, Option, Some, None, slice_index_or, slice_set, codes}
use Rattle.std.specs.Fmt.{decimal}
use Rattle.tl_base.specs.declared.place.Pos.{Pos}
use Rattle.tl_base.specs.declared.place.ModuleKind.{ModuleKind}
use Rattle.tl_base.specs.declared.place.ModuleKind.TheVariants.{Typed, Untyped}
use Rattle.tl_base.specs.declared.crossing.Crossing.{Crossing}
use Rattle.lua_values.specs.Tables.{Contents}
use Rattle.lua_values.specs.declared.value.Value.{Value}
use Rattle.lua_values.specs.declared.value.Value.TheVariants.{Nil}

-- an operand-kind error at a typed module's place, and the first mark as it stood when the error was raised
pub record KindError : Type 0 where
  pub place : Pos
  pub after : Option Crossing

pub record World : Type 0 where
  -- the variables, each in a cell of its own, and the tables
  pub cells : List Value
  pub tables : List Contents
  -- by the modules' numbers: their file words, their kinds, and the values that `require` keeps
  pub words : List (List ℕ)
  pub kinds : List ModuleKind
  pub kept : List (Option Value)
  -- the output so far, and what is left of the input and of the turns
  pub output : List ℕ
  pub input : List ℕ
  pub turns : ℕ
  -- the first mark passed, and the first operand-kind error at a typed module's place, also where it was caught
  pub mark : Option Crossing
  pub error : Option KindError

-- ---- cells

-- a cell that isn't there shows nil, and a store into it does nothing
abbrev pub read_cell : Option ℕ → World → Value
read_cell None w = Nil
read_cell (Some c) w = slice_index_or w.cells c Nil

abbrev pub write_cell : Option ℕ → Value → World → World
write_cell None v w = w
write_cell (Some c) v w = record w { cells = slice_set w.cells c v }

-- a new variable goes into the cell behind all others
abbrev pub with_cell : Value → World → World
with_cell v w = record w { cells = w.cells ++ v ∷ [] }

-- ---- output

abbrev pub write : List ℕ → World → World
write bytes w = record w { output = w.output ++ bytes }

-- ---- the two records

-- what was there first stays
abbrev pub first : {A : Type 0} → Option A → A → Option A
first None a = Some a
first (Some b) a = Some b

abbrev pub pass : Crossing → World → World
pass c w = record w { mark = first w.mark c }

abbrev pub kind_at : World → Pos → ModuleKind
kind_at w p = slice_index_or w.kinds p.module Untyped

abbrev pub recorded : ModuleKind → Pos → World → World
recorded Typed p w = record w { error = first w.error (record { place = p; after = w.mark }) }
recorded Untyped p w = w

-- ---- texts of places

-- `FILE:LINE:COLUMN`, with the file's word as it was given
abbrev pub place_text : World → Pos → List ℕ
place_text w p = slice_index_or w.words p.module [] ++ codes ":" ++ decimal p.line ++ codes ":" ++ decimal p.column

-- an error's value: its place and what is wrong
abbrev pub error_text : Pos → List ℕ → World → List ℕ
error_text p what w = place_text w p ++ codes ": " ++ what

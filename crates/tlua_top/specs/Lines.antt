-- The lines of the report. Each ends with a line feed. A place is FILE:LINE:COLUMN, with the file's word as it was given.
use Rattle.std.specs.Prelude.{ℕ, ◌/◌, ◌%◌, ◌+◌, ◌==◌, ◌||◌, List, [], ◌∷◌, ◌++◌, flat_map, Option, Some, None, codes, decimal, nat_lt, if◌then◌else◌}
use Rattle.tl_base.specs.declared.place.Pos.{Pos}
use Rattle.tl_base.specs.declared.crossing.Crossing.{Crossing}
use Rattle.tl_base.specs.declared.refusal.Refusal.{Refusal}
use Rattle.tl_base.specs.Names.{cross_name, code_name}
use Rattle.lua_values.specs.Shown.{shown_text}
use Rattle.lua_meaning.specs.World.{KindError}
use Rattle.lua_meaning.specs.Programs.{Ending, finished, failed, spent}
use Rattle.tlua_top.specs.Words.{Text}

abbrev pub usage_line : Text
usage_line = codes "usage: tlua run|check|erase|code|gen\n"

abbrev pub place_text : Text → Pos → Text
place_text file p = file ++ codes ":" ++ decimal p.line ++ codes ":" ++ decimal p.column

abbrev pub refusal_line : Text → Refusal → Text
refusal_line file r = codes "refused " ++ place_text file r.pos ++ codes " " ++ code_name r.code ++ codes "\n"

-- a crossing: its place and its kind
abbrev pub crossing_text : Text → Crossing → Text
crossing_text file c = place_text file c.pos ++ codes " " ++ cross_name c.kind

abbrev pub crossing_line : Text → Crossing → Text
crossing_line file c = codes "crossing " ++ crossing_text file c ++ codes "\n"

abbrev pub crossing_lines : Text → List Crossing → Text
crossing_lines file list = flat_map (crossing_line file) list

abbrev pub first_crossing : Text → Option Crossing → Text
first_crossing file None = codes "none"
first_crossing file (Some c) = crossing_text file c

-- the first operand-kind error at a typed module's place, and the first crossing that was passed before it
abbrev pub kind_line : Text → KindError → Text
kind_line file e = codes "kind " ++ place_text file e.place ++ codes " after " ++ first_crossing file e.after ++ codes "\n"

abbrev pub kind_lines : Text → Option KindError → Text
kind_lines file None = []
kind_lines file (Some e) = kind_line file e

abbrev pub hex_digit : ℕ → ℕ
hex_digit n = if nat_lt n 10 then n + 48 else n + 87

-- a byte of an error's text: `\xHH` for a byte below 32 or above 126 and for a backslash
abbrev pub escaped : ℕ → Text
escaped b = if nat_lt b 32 || nat_lt 126 b || b == 92 then codes "\\x" ++ hex_digit (b / 16) ∷ hex_digit (b % 16) ∷ [] else b ∷ []

-- how the run ended, and the turns that it used
abbrev pub last_line : Ending → ℕ → Text
last_line finished turns = codes "done " ++ decimal turns ++ codes "\n"
last_line (failed v) turns = codes "error " ++ decimal turns ++ codes " " ++ flat_map escaped (shown_text v) ++ codes "\n"
last_line spent turns = codes "cut " ++ decimal turns ++ codes "\n"

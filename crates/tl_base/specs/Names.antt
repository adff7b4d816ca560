-- The names that reports print.
use Rattle.std.specs.Prelude.{ℕ, List, codes}
use Rattle.tl_base.specs.declared.crossing.CrossKind.{CrossKind}
use Rattle.tl_base.specs.declared.crossing.CrossKind.TheVariants as cross
use Rattle.tl_base.specs.declared.refusal.RefusalCode.{RefusalCode}
use Rattle.tl_base.specs.declared.refusal.RefusalCode.TheVariants as code

-- how a report names a kind of crossing
abbrev pub cross_name : CrossKind → List ℕ
cross_name cross.Place = codes "place"
cross_name cross.Operand = codes "operand"
cross_name cross.Equal = codes "equal"
cross_name cross.Expose = codes "expose"

-- how a report names a code of refusal
abbrev pub code_name : RefusalCode → List ℕ
code_name code.X1 = codes "X1"
code_name code.G1 = codes "G1"
code_name code.G2 = codes "G2"
code_name code.G3 = codes "G3"
code_name code.G4 = codes "G4"
code_name code.G5 = codes "G5"
code_name code.G6 = codes "G6"
code_name code.L1 = codes "L1"
code_name code.L2 = codes "L2"
code_name code.L3 = codes "L3"
code_name code.L4 = codes "L4"
code_name code.L5 = codes "L5"
code_name code.P1 = codes "P1"
code_name code.P2 = codes "P2"
code_name code.P3 = codes "P3"
code_name code.P4 = codes "P4"
code_name code.P5 = codes "P5"
code_name code.S1 = codes "S1"
code_name code.S2 = codes "S2"
code_name code.S3 = codes "S3"
code_name code.S4 = codes "S4"
code_name code.S5 = codes "S5"
code_name code.S6 = codes "S6"
code_name code.S7 = codes "S7"
code_name code.S8 = codes "S8"
code_name code.Y1 = codes "Y1"
code_name code.Y2 = codes "Y2"
code_name code.Y3 = codes "Y3"
code_name code.Y4 = codes "Y4"
code_name code.Y5 = codes "Y5"
code_name code.F1 = codes "F1"
code_name code.F2 = codes "F2"
code_name code.F3 = codes "F3"
code_name code.F4 = codes "F4"
code_name code.F5 = codes "F5"
code_name code.F6 = codes "F6"
code_name code.F7 = codes "F7"
code_name code.F8 = codes "F8"
code_name code.F9 = codes "F9"
code_name code.F10 = codes "F10"
code_name code.F11 = codes "F11"
code_name code.F12 = codes "F12"
code_name code.F13 = codes "F13"
code_name code.F14 = codes "F14"
code_name code.F15 = codes "F15"
code_name code.F16 = codes "F16"
code_name code.F17 = codes "F17"

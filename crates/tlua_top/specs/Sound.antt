-- What the report of a run owes: its `kind` line names a crossing of the list that was printed before the run.
use Rattle.std.specs.Prelude.{◌≡◌, ◌&&◌, Bool, true, false, List, [], ◌∷◌, ◌++◌, nat_eq, codes, Some, Contains}
use Rattle.tl_base.specs.declared.place.Pos.{Pos}
use Rattle.tl_base.specs.declared.crossing.Crossing.{Crossing}
use Rattle.tlua_top.specs.Words.{Text}
use Rattle.tlua_top.specs.Outcome.{Ending}
use Rattle.tlua_top.specs.Lines.{crossing_lines, kind_line}

abbrev pub begins_with : Text → Text → Bool
begins_with [] text = true
begins_with (b ∷ bs) [] = false
begins_with (b ∷ bs) (c ∷ cs) = nat_eq b c && begins_with bs cs

-- the lines after the run begin with a `kind` line that names a crossing of the list whose lines stand before the run
pub record NamesCrossing (ending : Ending) : Type 0 where
  pub file : Text
  pub place : Pos
  pub crossing : Crossing
  pub rest : Text
  pub list : List Crossing
  pub named : ending.after ≡ kind_line file (record { place = place; after = Some crossing }) ++ rest
  pub printed : ending.ahead ≡ crossing_lines file list
  pub listed : Contains list crossing

abbrev pub IsSound : Ending → Type 0
IsSound ending = begins_with (codes "kind ") ending.after ≡ true → NamesCrossing ending

-- What typing gives: a result, or the first premise that fails, with its code and its place.
use Rattle.std.specs.Prelude.{Bool, true, false}
use Rattle.tl_base.specs.declared.place.Pos.{Pos}
use Rattle.tl_base.specs.declared.refusal.RefusalCode.{RefusalCode}
use Rattle.tl_base.specs.declared.refusal.RefusalCode.TheVariants as code

pub data Checked (A : Type 0) : Type 0 where
  fine : A → Checked A
  fault : RefusalCode → Pos → Checked A

-- the second part is typed only where the first one is fine
abbrev pub then_check : {A B : Type 0} → Checked A → (A → Checked B) → Checked B
then_check (fine a) go = go a
then_check (fault c p) go = fault c p

-- a form at a place, where there is a rule for it
abbrev pub where_ruled : {A : Type 0} → Bool → Pos → Checked A → Checked A
where_ruled true p typed = typed
where_ruled false p typed = fault code.X1 p

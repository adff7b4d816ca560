-- What a typed part of a run promises: the record of errors is in order, and unless a mark was passed the result is as its type says.
use Rattle.std.proofs.Common.{◌≡◌, refl, subst, Bool, true, false, List, Option, Some, None}
use Rattle.std.specs.Prelude.{IsSome}
use Rattle.tl_base.specs.declared.place.Pos.{Pos}
use Rattle.tl_base.specs.declared.crossing.Crossing.{Crossing}
use Rattle.lua_meaning.specs.World.{World}
use Rattle.lua_meaning.specs.Outcomes.{Act, Closure, Outcome, gives, raises, cut, go_on}
use Rattle.tl_rules.specs.Checked.{Checked, fine, fault, then_check, where_ruled}
use Rattle.tl_sound.proofs.Keeps.{Ends, Keep}
use Rattle.tl_sound.proofs.Late.{Stands, Marked, AnyMark, held_any}

-- of what the rules take
abbrev pub Given : {A : Type 0} → (A → Type 0) → Checked A → Type 0
Given P (fine a) = P a
Given P (fault c p) = Unit {0}

pub given_then : {A B : Type 0} (P : A → Type 0) (Q : B → Type 0) (r : Checked A) (go : A → Checked B) → Given P r → ((a : A) → P a → Given Q (go a)) → Given Q (then_check r go)
given_then P Q (fine a) go g h = h a g
given_then P Q (fault c p) go g h = tt

pub given_ruled : {A : Type 0} (P : A → Type 0) (b : Bool) (p : Pos) (r : Checked A) → (b ≡ true → Given P r) → Given P (where_ruled b p r)
given_ruled P true p r h = h refl
given_ruled P false p r h = tt

pub given_is : {A : Type 0} (P : A → Type 0) (r : Checked A) (a : A) → r ≡ fine a → Given P r → P a
given_is P r a e g = subst (Given P) e g

abbrev pub Unless : {A : Type 0} → Option A → Type 0 → Type 0
Unless None P = P
Unless (Some a) P = Unit {0}

pub record Good (w : World) (P : Type 0) : Type 0 where
  pub stands : Stands w
  pub holds : Unless w.mark P

pub good : (w : World) (P : Type 0) → Stands w → P → Good w P
good w P h p = record { stands = h; holds = unless w.mark p }
  where
    unless : {A : Type 0} {P : Type 0} (o : Option A) → P → Unless o P
    unless None p = p
    unless (Some a) p = tt

-- before a mark it holds
pub good_holds : (w : World) (P : Type 0) → Good w P → w.mark ≡ None → P
good_holds w P g e = take w.mark e g.holds
  where
    take : {A : Type 0} {P : Type 0} (o : Option A) → o ≡ None → Unless o P → P
    take None e p = p
    take (Some a) e p = let f : ⊥ = cc in absurd f

-- of a part of a run that began with no mark passed
abbrev pub After : {A : Type 0} → (A → World → Type 0) → Outcome A → Type 0
After P (gives a w cs) = Good w (P a w)
After P (raises v w cs) = Stands w
After P (cut w) = Stands w

marked_unless : {A : Type 0} (o : Option A) (P : Type 0) → IsSome o → Unless o P
marked_unless None P h = let e : ⊥ = cc in absurd e
marked_unless (Some a) P h = tt

pub late_after : {A : Type 0} (P : A → World → Type 0) (r : Outcome A) → Ends Marked AnyMark r → After P r
late_after P (gives a w cs) h = record { stands = h.0.stands; holds = marked_unless w.mark (P a w) h.0.passed }
late_after P (raises v w cs) h = h.0.stands
late_after P (cut w) h = h.stands

-- what follows: after a mark anything keeps the record in order, before one what was promised holds
pub after_then : {A B : Type 0} (P : A → World → Type 0) (Q : B → World → Type 0) (r : Outcome A) (go : A → Act B) → After P r → ((a : A) → Keep Marked AnyMark (go a))
    → ((a : A) (w : World) (cs : List Closure) → Stands w → w.mark ≡ None → P a w → After Q (go a w cs)) → After Q (go_on r go)
after_then P Q (raises v w cs) go g late on = g
after_then P Q (cut w) go g late on = g
after_then {A} {B} P Q (gives a w cs) go g late on = split w.mark refl g.holds
  where
    split : (m : Option Crossing) → w.mark ≡ m → Unless m (P a w) → After Q (go a w cs)
    split None e h = on a w cs g.stands e h
    split (Some c) e h = late_after Q (go a w cs) ((late a).at w cs (record { stands = g.stands; passed = rw e refl }) (held_any cs))

-- the same part promises what follows from its promise
pub after_more : {A : Type 0} (P Q : A → World → Type 0) (r : Outcome A) → ((a : A) (w : World) → Stands w → w.mark ≡ None → P a w → Q a w) → After P r → After Q r
after_more P Q (raises v w cs) h g = g
after_more P Q (cut w) h g = g
after_more {A} P Q (gives a w cs) h g = split w.mark refl g.holds
  where
    split : (m : Option Crossing) → w.mark ≡ m → Unless m (P a w) → Good w (Q a w)
    split None e p = good w (Q a w) g.stands (h a w g.stands e p)
    split (Some c) e p = record { stands = g.stands; holds = marked_unless w.mark (Q a w) (rw e refl) }

-- Once a mark is passed, any tree keeps the record of errors in order.
use Rattle.std.proofs.Common.{refl, List, [], ◌∷◌, Option, Some, None}
use Rattle.std.specs.Prelude.{IfSome, IsSome}
use Rattle.tl_base.specs.declared.place.Pos.{Pos}
use Rattle.tl_base.specs.declared.place.ModuleKind.{ModuleKind}
use Rattle.tl_base.specs.declared.place.ModuleKind.TheVariants.{Typed, Untyped}
use Rattle.tl_base.specs.declared.crossing.Crossing.{Crossing}
use Rattle.lua_meaning.specs.World.{KindError, World, first, kind_at, recorded}
use Rattle.lua_meaning.specs.Outcomes.{Closure}
use Rattle.tl_sound.specs.Laws.{HasMark}
use Rattle.tl_sound.proofs.Keeps.{Held, Stable}

-- the record of errors is in order
abbrev pub Stands : World → Type 0
Stands w = IfSome w.error HasMark

pub record Marked (w : World) : Type 0 where
  pub stands : Stands w
  pub passed : IsSome w.mark

-- no mark is asked for
abbrev pub AnyMark : Crossing → Type 0
AnyMark c = Unit {0}

first_some : {A : Type 0} (o : Option A) (a : A) → IsSome (first o a)
first_some None a = refl
first_some (Some b) a = refl

first_stands : (o : Option KindError) (e : KindError) → IfSome o HasMark → HasMark e → IfSome (first o e) HasMark
first_stands None e h k = k
first_stands (Some d) e h k = h

-- a mark is passed
pub passed_marked : (c : Crossing) (w : World) → Stands w → Marked (record w { mark = first w.mark c })
passed_marked c w h = record { stands = h; passed = first_some w.mark c }

recorded_marked : (k : ModuleKind) (p : Pos) (w : World) → Marked w → Marked (recorded k p w)
recorded_marked Typed p w h = record { stands = first_stands w.error _ h.stands h.passed; passed = h.passed }
recorded_marked Untyped p w h = h

pub marked_stable : Stable Marked AnyMark
marked_stable = record {
  marks = λ c w m h. passed_marked c w h.stands;
  errors = λ p w h. recorded_marked (kind_at w p) p w h;
  cells = λ vs w h. record { stands = h.stands; passed = h.passed };
  turns = λ n w h. record { stands = h.stands; passed = h.passed };
  output = λ bytes w h. record { stands = h.stands; passed = h.passed };
}

pub held_any : (cs : List Closure) → Held Marked AnyMark cs
held_any [] = tt
held_any (c ∷ cs) = ((λ m i. tt), held_any cs)

-- The marks that a run passes are marks of its tree.
use Rattle.std.proofs.Common.{ℕ, ◌-◌, List, [], ◌∷◌, Option, Some, None}
use Rattle.std.specs.Prelude.{IfSome, Contains}
use Rattle.tl_base.specs.declared.place.Pos.{Pos}
use Rattle.tl_base.specs.declared.place.ModuleKind.{ModuleKind}
use Rattle.tl_base.specs.declared.place.ModuleKind.TheVariants.{Typed, Untyped}
use Rattle.tl_base.specs.declared.crossing.Crossing.{Crossing}
use Rattle.lua_meaning.specs.World.{KindError, World, first, kind_at, recorded}
use Rattle.lua_meaning.specs.Outcomes.{Outcome, gives, raises, cut, results_of}
use Rattle.lua_meaning.specs.Calls.{limit}
use Rattle.lua_meaning.specs.Programs.{Module, meaning, run_main, result_of, outermost}
use Rattle.tl_rules.specs.Crossings.{IsCrossingList}
use Rattle.tl_sound.specs.Laws.{main_marks}
use Rattle.tl_sound.proofs.Keeps.{Stable, Keep, Ends, then_keep, next_keep, give_keep, turn_keep}
use Rattle.tl_sound.proofs.KeepsLevels.{main_keeps}

-- both records name marks of the list alone
pub record Names (list : List Crossing) (mark : Option Crossing) (error : Option KindError) : Type 0 where
  pub first : IfSome mark (Contains list)
  pub after : IfSome error (λ e. IfSome e.after (Contains list))

module _ (list : List Crossing) where
  abbrev Listed : World → Type 0
  Listed w = Names list w.mark w.error

  first_holds : {A : Type 0} (P : A → Type 0) (o : Option A) (a : A) → IfSome o P → P a → IfSome (first o a) P
  first_holds P None a h k = k
  first_holds P (Some b) a h k = h

  recorded_listed : (k : ModuleKind) (p : Pos) (w : World) → Listed w → Listed (recorded k p w)
  recorded_listed Typed p w h = record { first = h.first; after = first_holds (λ e. IfSome e.after (Contains list)) w.error _ h.after h.first }
  recorded_listed Untyped p w h = h

  listed_stable : Stable Listed (Contains list)
  listed_stable = record {
    marks = λ c w i h. record { first = first_holds (Contains list) w.mark c h.first i; after = h.after };
    errors = λ p w h. recorded_listed (kind_at w p) p w h;
    cells = λ vs w h. h;
    turns = λ n w h. h;
    output = λ bytes w h. h;
  }

  result_listed : {A : Type 0} (n : ℕ) (r : Outcome A) → Ends Listed (Contains list) r → Names list (result_of n r).mark (result_of n r).error
  result_listed n (gives a w cs) h = h.0
  result_listed n (raises v w cs) h = h.0
  result_listed n (cut w) h = h

  main_keep : (n : ℕ) (ms : List Module) → IsCrossingList (main_marks ms) list → Keep Listed (Contains list) (run_main n ms)
  main_keep n [] l = give_keep Listed (Contains list) []
  main_keep n (m ∷ ms) l =
      next_keep Listed (Contains list) _ _ (turn_keep Listed (Contains list) listed_stable)
      (then_keep Listed (Contains list) _ _ (main_keeps Listed (Contains list) listed_stable n (limit - 1) m.body (outermost m.names) l.listed) (λ flow.
      give_keep Listed (Contains list) (results_of flow)))

  pub all_listed : (ms : List Module) (words : List (List ℕ)) (input : List ℕ) (n : ℕ) → IsCrossingList (main_marks ms) list → Names list (meaning ms words input n).mark (meaning ms words input n).error
  all_listed ms words input n l = result_listed n _ ((main_keep n ms l).at _ [] (record { first = tt; after = tt }) tt)

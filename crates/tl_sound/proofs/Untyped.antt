-- A run of an untyped module alone records no error: no place is one of a typed module.
use Rattle.std.proofs.Common.{◌≡◌, refl, sym, subst, ℕ, zero, suc, [], ◌∷◌, None}
use Rattle.std.specs.Prelude.{slice_index_or}
use Rattle.tl_base.specs.declared.place.Pos.{Pos}
use Rattle.tl_base.specs.declared.place.ModuleKind.TheVariants.{Untyped}
use Rattle.lua_meaning.specs.World.{World, kind_at, recorded}
use Rattle.tl_sound.proofs.Keeps.{Stable}
use Rattle.tl_sound.proofs.Late.{AnyMark}

pub record Quiet (w : World) : Type 0 where
  pub kinds : w.kinds ≡ Untyped ∷ []
  pub none : w.error ≡ None

all_untyped : (n : ℕ) → slice_index_or (Untyped ∷ []) n Untyped ≡ Untyped
all_untyped zero = refl
all_untyped (suc n) = refl

untyped_at : (p : Pos) (w : World) → Quiet w → kind_at w p ≡ Untyped
untyped_at p w h = subst (λ ks. slice_index_or ks p.module Untyped ≡ Untyped) (sym h.kinds) (all_untyped p.module)

pub quiet_stable : Stable Quiet AnyMark
quiet_stable = record {
  marks = λ c w m h. record { kinds = h.kinds; none = h.none };
  errors = λ p w h. subst (λ k. Quiet (recorded k p w)) (sym (untyped_at p w h)) h;
  cells = λ vs w h. record { kinds = h.kinds; none = h.none };
  turns = λ n w h. record { kinds = h.kinds; none = h.none };
  output = λ bytes w h. record { kinds = h.kinds; none = h.none };
}

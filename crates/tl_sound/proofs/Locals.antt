-- The locals of a run agree with what typing knows of them: each has a cell of its own, which holds a value of its current type.
use Rattle.std.proofs.Common.{◌≡◌, refl, ap, subst, sym, ◌∙◌, ℕ, zero, suc, ◌+◌, ◌<◌, Bool, true, false, cond, List, [], ◌∷◌, ◌++◌, length, length-append, slice_get, Option, Some, ◌⊎◌, inl, inr, nat_eq, arith}
use Rattle.std.specs.Prelude.{slice_index_or, slice_set}
use Rattle.std.specs.Map.{lookup}
use Rattle.std.proofs.lemmas.Bool.{eq-eqb, eqb-true}
use Rattle.std.proofs.lemmas.Option.{slice_get_within}
use Rattle.std.proofs.lemmas.List.{get_or-set_same, get_or-set_other, get_or_append_left, length-set}
use Rattle.std.proofs.Math.Seq.{get_or-append_seam}
use Rattle.lua_values.specs.declared.value.Value.{Value}
use Rattle.lua_values.specs.declared.value.Value.TheVariants as value
use Rattle.lua_meaning.specs.Environment.{Bound}
use Rattle.tl_rules.specs.declared.local.Local.{Local}
use Rattle.tl_rules.specs.Locals.{Env}
use Rattle.tl_sound.proofs.Values.{Has}

pub record Agree (env : Env) (bound : Bound) (cells : List Value) : Type 0 where
  pub holds : (x : ℕ) (l : Local) → slice_get env x ≡ Some l → (c : ℕ) × (lookup (nat_eq x) bound ≡ Some c) × Has l.current (slice_index_or cells c value.Nil)
  pub inside : (x c : ℕ) → lookup (nat_eq x) bound ≡ Some c → c < length cells
  pub apart : (x y c : ℕ) → lookup (nat_eq x) bound ≡ Some c → lookup (nat_eq y) bound ≡ Some c → x ≡ y

pub agree_none : Agree [] [] []
agree_none = record {
  holds = λ x l e. let f : ⊥ = cc in absurd f;
  inside = λ x c e. let f : ⊥ = cc in absurd f;
  apart = λ x y c e g. let f : ⊥ = cc in absurd f;
}

some_is : {A : Type 0} (a b : A) → Some a ≡ Some b → a ≡ b
some_is a b e = cc

get_pushed : {A : Type 0} (xs : List A) (a b : A) (x : ℕ) → slice_get (xs ++ a ∷ []) x ≡ Some b → ((x ≡ length xs) × (a ≡ b)) ⊎ (slice_get xs x ≡ Some b)
get_pushed [] a b zero e = inl (refl, some_is a b e)
get_pushed [] a b (suc x) e = let f : ⊥ = cc in absurd f
get_pushed (y ∷ ys) a b zero e = inr e
get_pushed (y ∷ ys) a b (suc x) e = elim (get_pushed ys a b x e) [ inl h ↦ inl (ap suc h.0, h.1) | inr h ↦ inr h ]

get_set : {A : Type 0} (xs : List A) (x y : ℕ) (a b : A) → slice_get (slice_set xs x a) y ≡ Some b → ((y ≡ x) × (a ≡ b)) ⊎ ((y ≡ x → ⊥) × (slice_get xs y ≡ Some b))
get_set [] x y a b e = let f : ⊥ = cc in absurd f
get_set (z ∷ zs) zero zero a b e = inl (refl, some_is a b e)
get_set (z ∷ zs) zero (suc y) a b e = inr ((λ q. omega (arith, q)), e)
get_set (z ∷ zs) (suc x) zero a b e = inr ((λ q. omega (arith, q)), e)
get_set (z ∷ zs) (suc x) (suc y) a b e = elim (get_set zs x y a b e) [ inl h ↦ inl (ap suc h.0, h.1) | inr h ↦ inr ((λ q. h.0 (omega (arith, q))), h.1) ]

-- an entry in front of others
in_front : (b : Bool) (o : Option ℕ) (m c : ℕ) → cond b (Some m) o ≡ Some c → ((b ≡ true) × (m ≡ c)) ⊎ (o ≡ Some c)
in_front true o m c e = inl (refl, some_is m c e)
in_front false o m c e = inr e

front : (b : Bool) (o : Option ℕ) (m : ℕ) → b ≡ true → cond b (Some m) o ≡ Some m
front true o m e = refl
front false o m e = let f : ⊥ = cc in absurd f

behind_front : (b : Bool) (o : Option ℕ) (m : ℕ) → (b ≡ true → ⊥) → cond b (Some m) o ≡ o
behind_front true o m h = absurd (h refl)
behind_front false o m h = refl

within_more : (xs : List Value) (u : Value) (c : ℕ) → c < length xs + 1 → c < length (xs ++ u ∷ [])
within_more xs u c e = subst (λ n. c < n) (sym (length-append xs (u ∷ []))) e

-- the next local begins, in a new cell
pub agree_push : (env : Env) (bound : Bound) (cells : List Value) (l : Local) (v : Value) → Agree env bound cells → Has l.current v
    → Agree (env ++ l ∷ []) ((length env, length cells) ∷ bound) (cells ++ v ∷ [])
agree_push env bound cells l v a h = record {
  holds = λ x k e. held x k (get_pushed env l k x e);
  inside = λ x c e. within x c (in_front (nat_eq x (length env)) (lookup (nat_eq x) bound) (length cells) c e);
  apart = λ x y c e g. parted x y c (in_front (nat_eq x (length env)) (lookup (nat_eq x) bound) (length cells) c e) (in_front (nat_eq y (length env)) (lookup (nat_eq y) bound) (length cells) c g);
}
  where
    held : (x : ℕ) (k : Local) → ((x ≡ length env) × (l ≡ k)) ⊎ (slice_get env x ≡ Some k)
        → (c : ℕ) × (lookup (nat_eq x) ((length env, length cells) ∷ bound) ≡ Some c) × Has k.current (slice_index_or (cells ++ v ∷ []) c value.Nil)
    held x k (inl e) = (
      length cells,
      front (nat_eq x (length env)) (lookup (nat_eq x) bound) (length cells) (eq-eqb x (length env) e.0),
      subst (λ (j : Local). Has j.current (slice_index_or (cells ++ v ∷ []) (length cells) value.Nil)) e.1
          (subst (λ u. Has l.current u) (sym (get_or-append_seam cells v [] value.Nil)) h),
    )
    held x k (inr e) =
        let old = a.holds x k e in
        let less : x < length env = slice_get_within env x k e in (
          old.0,
          behind_front (nat_eq x (length env)) (lookup (nat_eq x) bound) (length cells) (λ q. let same : x ≡ length env = eqb-true x (length env) q in omega (arith, same, less)) ∙ old.1,
          subst (λ u. Has k.current u) (sym (get_or_append_left cells (v ∷ []) value.Nil old.0 (a.inside x old.0 old.1))) old.2,
        )

    within : (x c : ℕ) → ((nat_eq x (length env) ≡ true) × (length cells ≡ c)) ⊎ (lookup (nat_eq x) bound ≡ Some c) → c < length (cells ++ v ∷ [])
    within x c (inl e) = within_more cells v c (omega (arith, e.1))
    within x c (inr e) = let less = a.inside x c e in within_more cells v c (omega (arith, less))

    parted : (x y c : ℕ) → ((nat_eq x (length env) ≡ true) × (length cells ≡ c)) ⊎ (lookup (nat_eq x) bound ≡ Some c) → ((nat_eq y (length env) ≡ true) × (length cells ≡ c)) ⊎ (lookup (nat_eq y) bound ≡ Some c) → x ≡ y
    parted x y c (inl e) (inl g) = eqb-true x (length env) e.0 ∙ sym (eqb-true y (length env) g.0)
    parted x y c (inl e) (inr g) = let less = a.inside y c g in absurd (omega (arith, less, e.1))
    parted x y c (inr e) (inl g) = let less = a.inside x c e in absurd (omega (arith, less, g.1))
    parted x y c (inr e) (inr g) = a.apart x y c e g

-- a local takes a value
pub agree_set : (env : Env) (bound : Bound) (cells : List Value) (x c : ℕ) (l : Local) (v : Value) → Agree env bound cells → lookup (nat_eq x) bound ≡ Some c → Has l.current v
    → Agree (slice_set env x l) bound (slice_set cells c v)
agree_set env bound cells x c l v a at h = record {
  holds = λ y k e. held y k (get_set env x y l k e);
  inside = λ y d e. let less = a.inside y d e in subst (λ n. d < n) (sym (length-set cells c v)) less;
  apart = a.apart;
}
  where
    held : (y : ℕ) (k : Local) → ((y ≡ x) × (l ≡ k)) ⊎ ((y ≡ x → ⊥) × (slice_get env y ≡ Some k))
        → (d : ℕ) × (lookup (nat_eq y) bound ≡ Some d) × Has k.current (slice_index_or (slice_set cells c v) d value.Nil)
    held y k (inl e) = (
      c,
      subst (λ z. lookup (nat_eq z) bound ≡ Some c) (sym e.0) at,
      subst (λ (j : Local). Has j.current (slice_index_or (slice_set cells c v) c value.Nil)) e.1
          (subst (λ u. Has l.current u) (sym (get_or-set_same cells c v value.Nil (a.inside x c at))) h),
    )
    held y k (inr e) =
        let old = a.holds y k e.1 in (
          old.0,
          old.1,
          subst (λ u. Has k.current u) (sym (get_or-set_other cells c old.0 v value.Nil (λ q. e.0 (a.apart y x c (old.1 ∙ ap Some q) at)))) old.2,
        )

-- The values of a type.
use Rattle.std.proofs.Common.{◌≡◌, refl, ℕ, ℤ, Bool, true, false, cond, ◌&&◌, ◌||◌, List, [], ◌∷◌, ◌⊎◌, inl, inr}
use Rattle.std.specs.List.{list_all}
use Rattle.lua_values.specs.declared.value.Value.{Value}
use Rattle.lua_values.specs.declared.value.Value.TheVariants as value
use Rattle.tl_types.specs.declared.types.Ty.{Ty, out-Ty}
use Rattle.tl_types.specs.declared.types.Ty.TheOpen.{Ty-F, Nil, True, False, Int, IntLit, Str, StrLit, Value as ValueType, Any}
use Rattle.tl_types.specs.declared.types.Ty.TheVariants as ty
use Rattle.tl_types.specs.Types.{members}
use Rattle.tl_types.specs.Unions.{is_any}
use Rattle.tl_rules.specs.Expressions.{truth_type}
use Rattle.tl_rules.specs.Operands.{is_integer_form, is_integer, operation_type}

-- by the form of a type that is no union; the forms with components have no values yet
abbrev pub HasForm : Ty-F Ty → Value → Type 0
HasForm Nil value.Nil = Unit {0}
HasForm True (value.Bool b) = b ≡ true
HasForm False (value.Bool b) = b ≡ false
HasForm Int (value.Int n) = Unit {0}
HasForm (IntLit m) (value.Int n) = n ≡ m
HasForm Str (value.Str s) = Unit {0}
HasForm (StrLit t) (value.Str s) = s ≡ t
HasForm ValueType v = Unit {0}
HasForm Any v = Unit {0}
HasForm x v = ⊥

abbrev pub HasOne : List Ty → Value → Type 0
HasOne [] v = ⊥
HasOne (t ∷ ts) v = HasForm (out-Ty t) v ⊎ HasOne ts v

-- a value of a type is one of a member
abbrev pub Has : Ty → Value → Type 0
Has t v = HasOne (members t) v

pub has_nil : Has ty.Nil value.Nil
unfolding out-Ty denote.Hole.Carrier.out
has_nil = inl tt

pub has_truth : (b : Bool) → Has (truth_type b) (value.Bool b)
unfolding out-Ty denote.Hole.Carrier.out
has_truth true = inl refl
has_truth false = inl refl

pub has_integer : (n : ℤ) → Has (ty.IntLit n) (value.Int n)
unfolding out-Ty denote.Hole.Carrier.out
has_integer n = inl refl

pub has_text : (s : List ℕ) → Has (ty.StrLit s) (value.Str s)
unfolding out-Ty denote.Hole.Carrier.out
has_text s = inl refl

pub has_any : (v : Value) → Has ty.Any v
unfolding out-Ty denote.Hole.Carrier.out
has_any v = inl tt

has_int : (n : ℤ) → Has ty.Int (value.Int n)
unfolding out-Ty denote.Hole.Carrier.out
has_int n = inl tt

-- `any` in the place of a type
pub has_known : (b : Bool) (t : Ty) (v : Value) → Has t v → Has (cond b ty.Any t) v
has_known true t v h = has_any v
has_known false t v h = h

pub has_operation : (t u : Ty) (n : ℤ) → Has (operation_type t u) (value.Int n)
has_operation t u n = has_known (is_any t || is_any u) ty.Int (value.Int n) (has_int n)

abbrev pub IsInt : Value → Type 0
IsInt v = (n : ℤ) × (v ≡ value.Int n)

form_int : (x : Ty-F Ty) (v : Value) → is_integer_form x ≡ true → HasForm x v → IsInt v
form_int Int (value.Int n) e h = (n, refl)
form_int (IntLit m) (value.Int n) e h = (n, refl)
form_int Int v e h = absurd h
form_int (IntLit m) v e h = absurd h
form_int x v e h = let f : ⊥ = cc in absurd f

and_left : (a b : Bool) → (a && b) ≡ true → a ≡ true
and_left true b e = refl
and_left false b e = e

and_right : (a b : Bool) → (a && b) ≡ true → b ≡ true
and_right true b e = e
and_right false b e = let f : ⊥ = cc in absurd f

-- where all members are integers
pub all_int : (ts : List Ty) (v : Value) → list_all is_integer ts ≡ true → HasOne ts v → IsInt v
all_int [] v e h = absurd h
all_int (t ∷ ts) v e (inl h) = form_int (out-Ty t) v (and_left (is_integer t) (list_all is_integer ts) e) h
all_int (t ∷ ts) v e (inr h) = all_int ts v (and_right (is_integer t) (list_all is_integer ts) e) h

-- One step of the two orders in words: the cases in which a type is below another, where P says what components are below one another.
use Rattle.std.specs.Prelude.{◌≡◌, ℕ, ℤ, Bool, true, false, List, Contains, Some}
use Rattle.tl_types.specs.declared.types.Ty.{Ty, out-Ty}
use Rattle.tl_types.specs.declared.types.Ty.TheVariants as ty
use Rattle.tl_types.specs.declared.types.Ty.TheOpen.{Ty-F, Nil, True, False, Int, IntLit, Str, StrLit, Rec}
use Rattle.tl_types.specs.declared.types.TupleOf.{TupleOf}
use Rattle.tl_types.specs.declared.types.FuncOf.{FuncOf}
use Rattle.tl_types.specs.Types.{Field, Bodies, unfolded}
use Rattle.tl_types.specs.Unions.{tuple_place}
use Rattle.tl_types.specs.Below.{named}

abbrev pub Relation : Type 1
Relation = Ty → Ty → Type 0

abbrev pub IsNoUnion : Ty → Type 0
IsNoUnion t = (ms : List Ty) → t ≡ ty.Union ms → ⊥

-- a base type or a literal
abbrev pub is_base_form : Ty-F Ty → Bool
is_base_form Nil = true
is_base_form True = true
is_base_form False = true
is_base_form Int = true
is_base_form (IntLit n) = true
is_base_form Str = true
is_base_form (StrLit s) = true
is_base_form x = false

abbrev pub IsBase : Ty → Type 0
IsBase t = is_base_form (out-Ty t) ≡ true

-- each place of the one tuple is below that place of the other
abbrev pub EachPlace : Relation → TupleOf Ty → TupleOf Ty → Type 0
EachPlace P p q = (i : ℕ) → P (tuple_place p i) (tuple_place q i)

-- each left tuple is below a right one
abbrev pub EachTuple : Relation → List (TupleOf Ty) → List (TupleOf Ty) → Type 0
EachTuple P ps qs = (p : TupleOf Ty) → Contains ps p → (q : TupleOf Ty) × Contains qs q × EachPlace P p q

-- a const field asks for the type below, a mutable one for a mutable one with each type below the other
pub record FieldBelow (P : Relation) (f g : Field) : Type 0 where
  pub types : P f.ty g.ty
  pub mutable : g.is_const ≡ false → (f.is_const ≡ false) × P g.ty f.ty

-- for each field on the right, the left has it
abbrev pub EachField : Relation → List Field → List Field → Type 0
EachField P fs gs = (name : List ℕ) (g : Field) → named name gs ≡ Some g → (f : Field) × (named name fs ≡ Some f) × FieldBelow P f g

pub data Case (loose : Bool) (bodies : Bodies) (P : Relation) : Ty → Ty → Type 0 where
  -- everything is below `value` and `any`
  to_value : (s t : Ty) → t ≡ ty.Value → Case loose bodies P s t
  to_any : (s t : Ty) → t ≡ ty.Any → Case loose bodies P s t
  -- a union is below a type where each member is; a type that is no union is below a union where it is below a member
  from_union : (s t : Ty) (ms : List Ty) → s ≡ ty.Union ms → ((m : Ty) → Contains ms m → Case loose bodies P m t) → Case loose bodies P s t
  to_union : (s t : Ty) (ms : List Ty) (m : Ty) → t ≡ ty.Union ms → IsNoUnion s → Contains ms m → Case loose bodies P s m → Case loose bodies P s t
  -- the same base type or literal, or a literal and its base type
  same_base : (s t : Ty) → IsBase s → s ≡ t → Case loose bodies P s t
  integer_literal : (s t : Ty) (n : ℤ) → s ≡ ty.IntLit n → t ≡ ty.Int → Case loose bodies P s t
  string_literal : (s t : Ty) (b : List ℕ) → s ≡ ty.StrLit b → t ≡ ty.Str → Case loose bodies P s t
  -- functions: the parameters the other way round, and each tuple of results is below one of the other's
  functions : (s t : Ty) (f g : FuncOf Ty) → s ≡ ty.Func f → t ≡ ty.Func g → EachPlace P g.params f.params → EachTuple P f.results.tuples g.results.tuples → Case loose bodies P s t
  -- records, which interfaces stand for
  records : (s t : Ty) (fs gs : List Field) → unfolded bodies s ≡ Rec fs → unfolded bodies t ≡ Rec gs → EachField P fs gs → Case loose bodies P s t
  -- maps: keys and values are below each other, both ways
  maps : (s t k v l w : Ty) → s ≡ ty.Map k v → t ≡ ty.Map l w → (P k l × P l k) → (P v w × P w v) → Case loose bodies P s t
  -- in the consistent order `any` is below every type
  from_any : (s t : Ty) → loose ≡ true → s ≡ ty.Any → Case loose bodies P s t

-- The two orders between types, step by step, and how a type flows to another.
-- A step compares two types, where a test compares their components; the order to depth n takes n steps, and the order itself is that to every depth.
use Rattle.std.specs.Prelude.{◌≡◌, ℕ, zero, suc, max, Bool, true, false, not, ◌&&◌, ◌||◌, List, length, find, bytes_eq, Option, Some, None}
use Rattle.std.specs.List.{list_any, list_all}
use Rattle.std.specs.Ordering.{int_eq}
use Rattle.tl_types.specs.declared.types.Ty.{Ty}
use Rattle.tl_types.specs.declared.types.Ty.TheOpen.{Ty-F, Nil, True, False, Int, IntLit, Str, StrLit, Value, Any, Func, Rec, Map}
use Rattle.tl_types.specs.declared.types.TupleOf.{TupleOf}
use Rattle.tl_types.specs.declared.types.FuncOf.{FuncOf}
use Rattle.tl_types.specs.declared.flow.Flow.{Flow}
use Rattle.tl_types.specs.declared.flow.Flow.TheVariants as flow
use Rattle.tl_types.specs.Types.{Field, Bodies, members, unfolded}
use Rattle.tl_types.specs.Unions.{is_any, or_nil, tuple_place}

abbrev pub Test : Type 0
Test = Ty → Ty → Bool

-- a `const` field needs the type below, a mutable one a mutable one with each type below the other
abbrev pub field_below : Test → Field → Field → Bool
field_below R f g = R f.ty g.ty && (g.is_const || (not f.is_const && R g.ty f.ty))

-- where the right has a field, the left has it too
abbrev pub has_below : Test → Option Field → Option Field → Bool
has_below R f None = true
has_below R None (Some g) = false
has_below R (Some f) (Some g) = field_below R f g

-- the field of a name, which is the first one of that name
abbrev pub named : List ℕ → List Field → Option Field
named name fs = find (λ f. bytes_eq f.name name) fs

-- for each field on the right, the left has it
abbrev pub record_below : Test → List Field → List Field → Bool
record_below R fs gs = list_all (λ g. has_below R (named g.name fs) (named g.name gs)) gs

-- the first n places of the one tuple are below those of the other
abbrev pub places_below : Test → TupleOf Ty → TupleOf Ty → ℕ → Bool
places_below R p q zero = true
places_below R p q (suc i) = places_below R p q i && R (tuple_place p i) (tuple_place q i)

-- each place up to the longer list, and the union of the tail and `nil`
abbrev pub tuple_below : Test → TupleOf Ty → TupleOf Ty → Bool
tuple_below R p q = places_below R p q (max (length p.items) (length q.items)) && R (or_nil p.tail) (or_nil q.tail)

-- each left tuple is below a right one
abbrev pub results_below : Test → List (TupleOf Ty) → List (TupleOf Ty) → Bool
results_below R ps qs = list_all (λ p. list_any (tuple_below R p) qs) ps

-- the parameters the other way round, the results this way
abbrev pub function_below : Test → FuncOf Ty → FuncOf Ty → Bool
function_below R f g = tuple_below R g.params f.params && results_below R f.results.tuples g.results.tuples

-- keys and values each below the other's, both ways
abbrev pub map_below : Test → Ty → Ty → Ty → Ty → Bool
map_below R k v l w = (R k l && R l k) && (R v w && R w v)

-- forms that are no unions, with interfaces replaced by their records
abbrev pub form_below : Test → Ty-F Ty → Ty-F Ty → Bool
form_below R x Value = true
form_below R x Any = true
form_below R Nil Nil = true
form_below R True True = true
form_below R False False = true
form_below R Int Int = true
form_below R (IntLit a) Int = true
form_below R (IntLit a) (IntLit b) = int_eq a b
form_below R Str Str = true
form_below R (StrLit a) Str = true
form_below R (StrLit a) (StrLit b) = bytes_eq a b
form_below R (Func f) (Func g) = function_below R f g
form_below R (Rec fs) (Rec gs) = record_below R fs gs
form_below R (Map k v) (Map l w) = map_below R k v l w
form_below R x y = false

abbrev pub member_below : Bodies → Test → Test
member_below bodies R s t = form_below R (unfolded bodies s) (unfolded bodies t)

-- one step: each member on the left is below a member on the right; in the loose order `any` is below every type
abbrev pub step : Bool → Bodies → Test → Test
step loose bodies R s t = list_all (λ a. (loose && is_any a) || list_any (member_below bodies R a) (members t)) (members s)

-- below to depth n; loose is the consistent order
abbrev pub below : Bool → Bodies → ℕ → Test
below loose bodies zero s t = true
below loose bodies (suc n) s t = step loose bodies (below loose bodies n) s t

-- below to every depth: in plain subtyping, and in consistent subtyping
pub record IsBelow (loose : Bool) (bodies : Bodies) (s t : Ty) : Type 0 where
  pub to : (n : ℕ) → below loose bodies n s t ≡ true

abbrev pub IsSubtype : Bodies → Ty → Ty → Type 0
IsSubtype = IsBelow false

abbrev pub IsConsistent : Bodies → Ty → Ty → Type 0
IsConsistent = IsBelow true

-- plain where plain subtyping holds, a crossing where only consistent subtyping does, else none
abbrev pub IsFlow : Bodies → Ty → Ty → Flow → Type 0
IsFlow bodies s t flow.Plain = IsSubtype bodies s t
IsFlow bodies s t flow.Crossing = IsConsistent bodies s t × (IsSubtype bodies s t → ⊥)
IsFlow bodies s t flow.No = IsConsistent bodies s t → ⊥

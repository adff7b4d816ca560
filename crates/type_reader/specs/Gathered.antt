-- What is gathered of a type's parts while they are read. It stops where they alone have too many nodes.
use Rattle.std.specs.Prelude.{◌≡◌, ℕ, ◌+◌, ◌≤◌, Bool, true, cond, not, nat_lt, List, ◌++◌, filter, flat_map, sum_by, Option, Some, None, IfSome}
use Rattle.tl_types.specs.declared.types.Ty.{Ty, out-Ty}
use Rattle.tl_types.specs.declared.types.TupleOf.{TupleOf}
use Rattle.tl_types.specs.declared.types.ResultsOf.{ResultsOf}
use Rattle.tl_types.specs.Types.{Field, members}
use Rattle.tl_types.specs.Sizes.{type_size}
use Rattle.tl_types.specs.Parts.{size_tuple}
use Rattle.tl_types.specs.Unions.{union_form, distinct, is_covered_form}
use Rattle.type_reader.specs.Types.{limited}

-- all of it; or nothing, where it isn't there, or has so many nodes that what it is part of has more than 65536
abbrev pub Gathers : {A : Type 0} → (A → ℕ) → Option A → Option A → Type 0
Gathers nodes written (Some a) = written ≡ Some a
Gathers nodes written None = IfSome written (λ a. 65536 ≤ nodes a)

abbrev pub nodes_of_types : List Ty → ℕ
nodes_of_types ts = sum_by type_size ts

abbrev pub nodes_of_fields : List Field → ℕ
nodes_of_fields fs = sum_by (λ f. type_size f.ty) fs

-- those of tuples beside so many others
abbrev pub nodes_of_tuples : ℕ → List (TupleOf Ty) → ℕ
nodes_of_tuples n ts = n + sum_by size_tuple ts

abbrev pub nodes_of_results : ℕ → ResultsOf Ty → ℕ
nodes_of_results n r = nodes_of_tuples n r.tuples

-- a number of nodes, where the components of a type may have as many
abbrev pub room_for : ℕ → Option ℕ
room_for n = cond (nat_lt n 65536) (Some n) None

-- ---- the members of a union

-- the one's members give the union that the other's give, whatever members follow
abbrev pub StandFor : List Ty → List Ty → Type 0
StandFor kept all = (more : List Ty) → limited (union_form (kept ++ more)) ≡ limited (union_form (all ++ more))

-- members that stand for all, where all are there
abbrev pub GathersMembers : Option (List Ty) → Option (List Ty) → Type 0
GathersMembers written None = written ≡ None
GathersMembers written (Some kept) = (all : List Ty) × (written ≡ Some all) × StandFor kept all

-- those that are left where these base types cover their literals
abbrev pub uncovered : Bool → Bool → List Ty → List Ty
uncovered with_int with_str ts = filter (λ t. not (is_covered_form with_int with_str (out-Ty t))) ts

-- a type that no other one covers in a union, as a base type covers its literals
abbrev pub lasts : Ty → Bool
lasts t = not (is_covered_form true true (out-Ty t))

abbrev pub nodes_that_last : List Ty → ℕ
nodes_that_last ts = sum_by type_size (distinct (filter lasts ts))

-- the members kept are no unions, each stands there once, and the nodes that were counted are among those that last
pub record IsCounted (kept : List Ty) (nodes : ℕ) : Type 0 where
  pub flat : flat_map members kept ≡ kept
  pub once : distinct kept ≡ kept
  pub counted : nodes ≤ nodes_that_last kept

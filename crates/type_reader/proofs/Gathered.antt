-- Where the parts of a type have too many nodes, there is no type.
use Rattle.std.proofs.Common.{◌≡◌, ℕ, ◌+◌, ◌<◌, ◌≤◌, Bool, true, false, cond, List, [], ◌∷◌, ◌++◌, map, length, get_or, take, drop, refl, ap, ◌∙◌, sym, subst, arith}
use Rattle.std.specs.Prelude.{Option, Some, None, IfSome, nat_lt, sum_by}
use Rattle.std.specs.Option.{option_map, option_and_then}
use Rattle.std.proofs.lemmas.Bool.{lt-ltb, ltb-true, ltb-false}
use Rattle.std.proofs.lemmas.List.{take-append-drop, map-append}
use Rattle.std.proofs.lemmas.List.Sums.{sum_by-append}
use Rattle.tl_types.specs.declared.types.Ty.{Ty}
use Rattle.tl_types.specs.declared.types.Ty.TheVariants as ty
use Rattle.tl_types.specs.declared.types.TupleOf.{TupleOf}
use Rattle.tl_types.specs.declared.types.ResultsOf.{ResultsOf}
use Rattle.tl_types.specs.Types.{Field}
use Rattle.tl_types.specs.Sizes.{type_size}
use Rattle.tl_types.specs.Parts.{size_tuple}
use Rattle.tl_types.specs.Unions.{union_form}
use Rattle.tl_types.proofs.Measures.{size_rec, size_of_func, size_map}
use Rattle.type_reader.specs.Types.{both, every, limited, func_type, tuple_type}
use Rattle.type_reader.specs.Gathered.{Gathers, GathersMembers, StandFor, room_for, nodes_of_types, nodes_of_fields, nodes_of_tuples, nodes_of_results}
use Rattle.type_reader.proofs.Limits.{too_large}
use Rattle.type_reader.proofs.Every.{every-append, every_more, every_stop, map_twice}
use Rattle.type_reader.proofs.Standing.{stand_next}
use Rattle.tl_types.proofs.Gathered.{append_nil}

-- ---- parts one after the other

module _ {A B : Type 0} (f : A → Option B) (nodes : List B → ℕ) (grows : (ys zs : List B) → nodes ys ≤ nodes (ys ++ zs)) where
  large_all : (ys : List B) (o : Option (List B)) → 65536 ≤ nodes ys → IfSome (both (λ a b. a ++ b) (Some ys) o) (λ a. 65536 ≤ nodes a)
  large_all ys None large = tt
  large_all ys (Some zs) large = let more = grows ys zs in omega (arith, large, more)

  -- one part isn't there, or has too many nodes beside those before it
  pub stops : (xs : List A) (i : ℕ) (d : A) (ys : List B) (o : Option B) → i < length xs → every (map f (take i xs)) ≡ Some ys → f (get_or xs i d) ≡ o → IfSome o (λ y. 65536 ≤ nodes (ys ++ y ∷ [])) → Gathers nodes (every (map f xs)) None
  stops xs i d ys None within before here large = subst (λ w. IfSome w (λ a. 65536 ≤ nodes a)) (sym (every_stop f xs i d within here)) tt
  stops xs i d ys (Some y) within before here large =
      let rest = every (map f (drop (i + 1) xs)) in
      let split : every (map f xs) ≡ both (λ a b. a ++ b) (Some (ys ++ y ∷ [])) rest =
      ap (λ zs. every (map f zs)) (sym (take-append-drop (i + 1) xs))
      ∙ ap every (map-append f (take (i + 1) xs) (drop (i + 1) xs))
      ∙ every-append (map f (take (i + 1) xs)) (map f (drop (i + 1) xs))
      ∙ ap (λ o. both (λ a b. a ++ b) o rest) (every_more f xs i d ys y within before here) in
      subst (λ w. IfSome w (λ a. 65536 ≤ nodes a)) (sym split) (large_all (ys ++ y ∷ []) rest large)

-- the same of two functions, one after the other
module _ {A B C : Type 0} (h : C → Option B) (g : A → C) (nodes : List B → ℕ) (grows : (ys zs : List B) → nodes ys ≤ nodes (ys ++ zs)) where
  pub stops_of : (xs : List A) (i : ℕ) (d : A) (ys : List B) (o : Option B) → i < length xs → every (map h (map g (take i xs))) ≡ Some ys → h (g (get_or xs i d)) ≡ o → IfSome o (λ y. 65536 ≤ nodes (ys ++ y ∷ [])) → Gathers nodes (every (map h (map g xs))) None
  stops_of xs i d ys o within before here large =
      subst (λ w. IfSome w (λ a. 65536 ≤ nodes a)) (sym (ap every (map_twice h g xs)))
      (stops (λ x. h (g x)) nodes grows xs i d ys o within (sym (ap every (map_twice h g (take i xs))) ∙ before) here large)

sum_grows : {B : Type 0} (size : B → ℕ) (ys zs : List B) → sum_by size ys ≤ sum_by size (ys ++ zs)
sum_grows size ys zs = let e = sum_by-append size ys zs in omega (arith, e)

pub types_grow : (ys zs : List Ty) → nodes_of_types ys ≤ nodes_of_types (ys ++ zs)
types_grow ys zs = sum_grows type_size ys zs

pub fields_grow : (ys zs : List Field) → nodes_of_fields ys ≤ nodes_of_fields (ys ++ zs)
fields_grow ys zs = sum_grows (λ f. type_size f.ty) ys zs

pub tuples_grow : (n : ℕ) (ys zs : List (TupleOf Ty)) → nodes_of_tuples n ys ≤ nodes_of_tuples n (ys ++ zs)
tuples_grow n ys zs = let e = sum_grows size_tuple ys zs in omega (arith, e)

-- ---- what stands on the parts

pub tuple_whole : (w r : Option (List Ty)) (t : Option Ty) → Gathers nodes_of_types w r → Gathers size_tuple (both tuple_type w t) (both tuple_type r t)
tuple_whole w (Some ts) (Some t) e = ap (λ o. both tuple_type o (Some t)) e
tuple_whole w (Some ts) None e = subst (λ o. Gathers size_tuple (both tuple_type o None) None) (sym e) tt
tuple_whole None None t e = tt
tuple_whole (Some ts) None None e = tt
tuple_whole (Some ts) None (Some t) e = omega (arith, e)

pub record_whole : (w r : Option (List Field)) → Gathers nodes_of_fields w r → option_and_then (λ gs. limited (ty.Rec gs)) r ≡ option_and_then (λ gs. limited (ty.Rec gs)) w
record_whole w (Some gs) e = sym (ap (option_and_then (λ gs. limited (ty.Rec gs))) e)
record_whole None None e = refl
record_whole (Some gs) None e = sym (too_large (ty.Rec gs) (omega (arith, e, size_rec (ty.Rec gs) gs refl)))

abbrev wrapped : List (TupleOf Ty) → ResultsOf Ty
wrapped ts = record { tuples = ts }

pub results_whole : (n : ℕ) (w r : Option (List (TupleOf Ty))) → Gathers (nodes_of_tuples n) w r → Gathers (nodes_of_results n) (option_map (λ ts. record { tuples = ts }) w) (option_map (λ ts. record { tuples = ts }) r)
results_whole n w (Some ts) e = ap (option_map wrapped) e
results_whole n None None e = tt
results_whole n (Some ts) None e = e

abbrev function_within : TupleOf Ty → ResultsOf Ty → Option Ty
function_within params x = limited (ty.Func (func_type params x))

function_large : (params : TupleOf Ty) (r : ResultsOf Ty) → 65536 ≤ nodes_of_results (size_tuple params) r → function_within params r ≡ None
function_large params r large = too_large (ty.Func (func_type params r)) (omega (arith, large, size_of_func (ty.Func (func_type params r)) (func_type params r) refl))

pub function_whole : (params : TupleOf Ty) (n : ℕ) (w r : Option (ResultsOf Ty)) → n ≡ size_tuple params → Gathers (nodes_of_results n) w r
    → option_and_then (λ x. limited (ty.Func (func_type params x))) r ≡ option_and_then (λ x. limited (ty.Func (func_type params x))) w
function_whole params n w (Some x) is e = sym (ap (option_and_then (function_within params)) e)
function_whole params n None None is e = refl
function_whole params n (Some x) None is e = sym (function_large params x (omega (arith, e, is)))

-- parameters that are too large by themselves
pub function_over : (params : TupleOf Ty) (w : Option (ResultsOf Ty)) → 65536 ≤ size_tuple params → None ≡ option_and_then (λ x. limited (ty.Func (func_type params x))) w
function_over params None large = refl
function_over params (Some x) large = sym (function_large params x (omega (arith, large)))

pub function_same : (params : TupleOf Ty) (p : Option (TupleOf Ty)) (w : Option (ResultsOf Ty)) → p ≡ Some params
    → option_and_then (λ x. limited (ty.Func (func_type params x))) w ≡ option_and_then (λ f. limited (ty.Func f)) (both func_type p w)
function_same params p None is = sym (ap (λ o. option_and_then (λ f. limited (ty.Func f)) (both func_type o None)) is)
function_same params p (Some x) is = sym (ap (λ o. option_and_then (λ f. limited (ty.Func f)) (both func_type o (Some x))) is)

-- parameters that aren't there, or are too large by themselves
pub function_without : (w : Option (TupleOf Ty)) (r : Option (ResultsOf Ty)) → Gathers size_tuple w None → None ≡ option_and_then (λ f. limited (ty.Func f)) (both func_type w r)
function_without None r e = refl
function_without (Some params) None e = refl
function_without (Some params) (Some x) e = sym (function_large params x (omega (arith, e)))

pub map_large : (k v : Ty) → 65536 ≤ type_size k + type_size v → None ≡ limited (ty.Map k v)
map_large k v large = sym (too_large (ty.Map k v) (omega (arith, large, size_map (ty.Map k v) k v refl)))

-- ---- numbers of nodes

room_some_by : (n m : ℕ) (b : Bool) → nat_lt n 65536 ≡ b → Some m ≡ cond b (Some n) None → (m ≡ n) × (m < 65536)
room_some_by n m true lt e =
    let same : m ≡ n = cc in
    let within = ltb-true n 65536 lt in
    (same, omega (arith, same, within))
room_some_by n m false lt e = cc

pub room_some : (n m : ℕ) (o : Option ℕ) → o ≡ room_for n → o ≡ Some m → (m ≡ n) × (m < 65536)
room_some n m o e is = room_some_by n m (nat_lt n 65536) refl (sym is ∙ e)

room_none_by : (n : ℕ) (b : Bool) → nat_lt n 65536 ≡ b → None ≡ cond b (Some n) None → 65536 ≤ n
room_none_by n true lt e = cc
room_none_by n false lt e = ltb-false n 65536 lt

pub room_none : (n : ℕ) (o : Option ℕ) → o ≡ room_for n → o ≡ None → 65536 ≤ n
room_none n o e is = room_none_by n (nat_lt n 65536) refl (sym is ∙ e)

pub room_is : (n m : ℕ) → m ≡ n → m < 65536 → Some m ≡ room_for n
room_is n m same within = ap Some same ∙ sym (ap (λ b. cond b (Some n) None) (lt-ltb n 65536 (omega (arith, same, within))))

-- ---- the members of a union

pub members_next : {A : Type 0} (f : A → Option Ty) (xs : List A) (i : ℕ) (d : A) (kept new : List Ty) (t : Ty) → i < length xs → GathersMembers (every (map f (take i xs))) (Some kept) → f (get_or xs i d) ≡ Some t
    → StandFor new (kept ++ t ∷ []) → GathersMembers (every (map f (take (i + 1) xs))) (Some new)
members_next f xs i d kept new t within before here stand = (before.0 ++ t ∷ [], every_more f xs i d before.0 t within before.1 here, stand_next kept before.0 new t before.2 stand)

pub union_whole : (w : Option (List Ty)) (kept : List Ty) → GathersMembers w (Some kept) → limited (union_form kept) ≡ option_and_then (λ us. limited (union_form us)) w
union_whole w kept g =
    ap (λ r. limited (union_form r)) (sym (append_nil kept)) ∙ g.2 [] ∙ ap (λ r. limited (union_form r)) (append_nil g.0) ∙ sym (ap (option_and_then (λ us. limited (union_form us))) g.1)

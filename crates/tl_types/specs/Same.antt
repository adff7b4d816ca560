-- Whether two types are the same tree, with interfaces compared by their numbers.
use Rattle.std.specs.Prelude.{Bool, true, false, ◌&&◌, not, List, [], ◌∷◌, nat_eq, bytes_eq}
use Rattle.std.specs.Ordering.{int_eq}
use Rattle.tl_types.specs.declared.types.Ty.{Ty, out-Ty, fold-Ty}
use Rattle.tl_types.specs.declared.types.Ty.TheOpen.{Ty-F, Nil, True, False, Int, IntLit, Str, StrLit, Value, Any, Union, Func, Rec, Map, Iface}
use Rattle.tl_types.specs.declared.types.FieldOf.{FieldOf}
use Rattle.tl_types.specs.declared.types.TupleOf.{TupleOf}
use Rattle.tl_types.specs.declared.types.FuncOf.{FuncOf}

abbrev pub bool_eq : Bool → Bool → Bool
bool_eq true b = b
bool_eq false b = not b

-- each test passes the type at its place, and there are as many
abbrev pub each_passes : List (Ty → Bool) → List Ty → Bool
each_passes [] [] = true
each_passes (p ∷ ps) (t ∷ ts) = p t && each_passes ps ts
each_passes ps ts = false

abbrev pub fields_pass : List (FieldOf (Ty → Bool)) → List (FieldOf Ty) → Bool
fields_pass [] [] = true
fields_pass (f ∷ fs) (g ∷ gs) = (bytes_eq f.name g.name && (bool_eq f.is_const g.is_const && f.ty g.ty)) && fields_pass fs gs
fields_pass fs gs = false

abbrev pub tuple_passes : TupleOf (Ty → Bool) → TupleOf Ty → Bool
tuple_passes p q = each_passes p.items q.items && p.tail q.tail

abbrev pub tuples_pass : List (TupleOf (Ty → Bool)) → List (TupleOf Ty) → Bool
tuples_pass [] [] = true
tuples_pass (p ∷ ps) (q ∷ qs) = tuple_passes p q && tuples_pass ps qs
tuples_pass ps qs = false

abbrev pub func_passes : FuncOf (Ty → Bool) → FuncOf Ty → Bool
func_passes f g = tuple_passes f.params g.params && tuples_pass f.results.tuples g.results.tuples

-- one level: the same form, and each part the same
abbrev pub form_passes : Ty-F (Ty → Bool) → Ty-F Ty → Bool
form_passes Nil Nil = true
form_passes True True = true
form_passes False False = true
form_passes Int Int = true
form_passes (IntLit a) (IntLit b) = int_eq a b
form_passes Str Str = true
form_passes (StrLit a) (StrLit b) = bytes_eq a b
form_passes Value Value = true
form_passes Any Any = true
form_passes (Union ps) (Union ts) = each_passes ps ts
form_passes (Func f) (Func g) = func_passes f g
form_passes (Rec fs) (Rec gs) = fields_pass fs gs
form_passes (Map k v) (Map l w) = k l && v w
form_passes (Iface m) (Iface n) = nat_eq m n
form_passes _ _ = false

abbrev pub same_type : Ty → Ty → Bool
same_type = fold-Ty (Ty → Bool) (λ x t. form_passes x (out-Ty t))

-- What the code reads of a table and of the declarations, which are lent.
use Rattle.std.proofs.Common.{◌≡◌, ℕ, zero, suc, ◌<◌, Bool, false, List, [], ◌∷◌, map, length, get_or, refl, ap, ◌∙◌, sym, arith}
use Rattle.std.specs.Prelude.{Option, Some, None, slice_get, slice_index_or, is_some}
use Rattle.std.specs.Option.{option_and_then}
use Rattle.std.proofs.lemmas.List.{length-map}
use Rattle.tl_types.specs.declared.types.Ty.{Ty}
use Rattle.type_reader.specs.declared.names.TypeName.{TypeName}
use Rattle.type_reader.specs.declared.declarations.Declaration as code_declaration
use Rattle.type_reader.specs.Names.{names_of}
use Rattle.type_reader.specs.Declarations.{Declaration, own_names, first_type, form_type}
use Rattle.type_reader.specs.Lent.{declared_in, declaration_of, form_of}
use Rattle.type_reader.specs.Growing.{Table, entry_type}

pub lent_at : (xs : List code_declaration.Declaration) (i : ℕ) (d : code_declaration.Declaration) → slice_get xs i ≡ Some d → slice_get (declared_in xs) i ≡ Some (declaration_of d)
lent_at [] i d e = cc
lent_at (x ∷ xs) zero d e = let same : x ≡ d = cc in ap (λ y. Some (declaration_of y)) same
lent_at (x ∷ xs) (suc i) d e = lent_at xs i d e

pub found_at : (known : List TypeName) (xs : List code_declaration.Declaration) (own : List (List ℕ)) (ts : Table) (i : ℕ) (d : code_declaration.Declaration) (r : Option Ty)
    → slice_get xs i ≡ Some d → own ≡ own_names (declared_in xs) → r ≡ form_type (names_of known own ts) (form_of d.form) → entry_type known (declared_in xs) ts i ≡ r
found_at known xs own ts i d r get is found =
    ap (option_and_then (λ (x : Declaration). form_type (names_of known (own_names (declared_in xs)) ts) x.form)) (lent_at xs i d get)
    ∙ ap (λ o. form_type (names_of known o ts) (form_of d.form)) (sym is)
    ∙ sym found

pub absent_at : (ts : Table) (i : ℕ) (d : Option Ty) → i < length ts → is_some (get_or ts i d) ≡ false → slice_index_or ts i None ≡ None
absent_at [] i d within e = refl
absent_at (None ∷ ts) zero d within e = refl
absent_at (Some t ∷ ts) zero d within e = cc
absent_at (t ∷ ts) (suc i) d within e = let lt : i < length ts = omega arith in absent_at ts i d lt e

pub get_at : (xs : List code_declaration.Declaration) (i : ℕ) (d : code_declaration.Declaration) → i < length xs → d ≡ get_or xs i d → slice_get xs i ≡ Some d
get_at [] i d within e = absurd (omega arith)
get_at (x ∷ xs) zero d within e = ap Some (sym e)
get_at (x ∷ xs) (suc i) d within e = let lt : i < length xs = omega arith in get_at xs i d lt e

pub declared_length : (xs : List code_declaration.Declaration) → length (declared_in xs) ≡ length xs
declared_length xs = length-map xs declaration_of

pub first_length : (xs : List code_declaration.Declaration) (ts : Table) → ts ≡ map (λ d. first_type d.form) (declared_in xs) → length ts ≡ length xs
first_length xs ts e = ap length e ∙ length-map (declared_in xs) (λ d. first_type d.form) ∙ declared_length xs

pub none_length : (xs : List code_declaration.Declaration) (fs : List Bool) → fs ≡ map (λ d. false) (declared_in xs) → length fs ≡ length xs
none_length xs fs e = ap length e ∙ length-map (declared_in xs) (λ d. false) ∙ declared_length xs

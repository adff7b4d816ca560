-- What has been read so far of annotations and of declarations.
use Rattle.std.proofs.Common.{◌≡◌, ℕ, zero, suc, ◌+◌, ◌<◌, List, [], ◌∷◌, ◌++◌, map, length, get_or, take, drop, refl, ap, ◌∙◌, sym, arith, add-one, subst}
use Rattle.std.specs.Prelude.{Option, Some, None, Result, Err}
use Rattle.tl_base.specs.declared.refusal.Failure.{Failure}
use Rattle.tl_base.specs.declared.refusal.Failure.TheVariants as failure
use Rattle.lua_tree.specs.declared.scoped.Scoped.{Scoped}
use Rattle.type_reader.specs.declared.names.TypeNames.{TypeNames}
use Rattle.type_reader.specs.declared.reading.Read.{Read}
use Rattle.type_reader.specs.Annotations.{Annotations}
use Rattle.type_reader.specs.Answers.{Answers}
use Rattle.type_reader.specs.Outcomes.{IsRead, IsReadModule}
use Rattle.std.specs.Option.{option_or}
use Rattle.std.specs.List.{flat_map}
use Rattle.std.proofs.lemmas.List.{take_more, map-append}
use Rattle.std.proofs.lemmas.Grind.{flat_map-append}
use Rattle.tl_types.specs.Types.{Field}
use Rattle.type_reader.specs.declared.declarations.Declaration as code_declaration
use Rattle.type_reader.specs.Names.{Names}
use Rattle.type_reader.specs.Types.{both, every}
use Rattle.type_reader.specs.Faults.{Fault, first_of}
use Rattle.type_reader.specs.Declarations.{Declaration, repeated_name, names_in}
use Rattle.type_reader.specs.Lent.{declared_in, declaration_of, form_of}
use Rattle.type_reader.specs.Reading.{bodies_of, bodies_of_form, declarations_in, annotations_in, faults_after_names}
use Rattle.type_reader.proofs.Every.{every-append}

first_suc : {A B : Type 0} (f : B → Fault) (g : A → B) (xs : List A) (i : ℕ) (d : A) → i < length xs → f (g (get_or xs i d)) ≡ None → first_of (map f (map g (drop (suc i) xs))) ≡ first_of (map f (map g (drop i xs)))
first_suc f g [] i d within here = absurd (omega arith)
first_suc f g (x ∷ xs) zero d within here = sym (ap (λ o. option_or o (first_of (map f (map g xs)))) here)
first_suc f g (x ∷ xs) (suc i) d within here = let lt : i < length xs = omega arith in first_suc f g xs i d lt here

pub first_next : {A B : Type 0} (f : B → Fault) (g : A → B) (xs : List A) (i : ℕ) (d : A) → i < length xs → f (g (get_or xs i d)) ≡ None → first_of (map f (map g (drop (i + 1) xs))) ≡ first_of (map f (map g (drop i xs)))
first_next f g xs i d within here = ap (λ k. first_of (map f (map g (drop k xs)))) (add-one i) ∙ first_suc f g xs i d within here

append_nil : {A : Type 0} (xs : List A) → xs ++ [] ≡ xs
append_nil [] = refl
append_nil (x ∷ xs) = ap (λ r. x ∷ r) (append_nil xs)

pub bodies_next : (names : Names) (xs : List code_declaration.Declaration) (i : ℕ) (d : code_declaration.Declaration) (ys bs : List (List Field)) → i < length xs → d ≡ get_or xs i d
    → every (bodies_of names (declared_in (take i xs))) ≡ Some ys → every (bodies_of_form names (form_of d.form)) ≡ Some bs → every (bodies_of names (declared_in (take (i + 1) xs))) ≡ Some (ys ++ bs)
bodies_next names xs i d ys bs within is before here =
    let f : Declaration → List (Option (List Field)) = λ x. bodies_of_form names x.form in
    ap (λ zs. every (bodies_of names (declared_in zs))) (take_more xs i d within ∙ ap (λ x. take i xs ++ x ∷ []) (sym is))
    ∙ ap (λ zs. every (bodies_of names zs)) (map-append declaration_of (take i xs) (d ∷ []))
    ∙ ap every (flat_map-append f (declared_in (take i xs)) (declared_in (d ∷ [])))
    ∙ ap (λ r. every (flat_map f (declared_in (take i xs)) ++ r)) (append_nil (f (declaration_of d)))
    ∙ every-append (flat_map f (declared_in (take i xs))) (f (declaration_of d))
    ∙ ap (λ o. both (λ a b. a ++ b) o (every (f (declaration_of d)))) before
    ∙ ap (λ o. both (λ a b. a ++ b) (Some ys) o) here

-- the names' own faults come first
module _ (of : List ℕ) (known : TypeNames) (s : Scoped) (ds : List Declaration) (xs : Annotations) (r : Result Read Failure) where
  pub whole : repeated_name ds ≡ None → ds ≡ declarations_in known s → xs ≡ annotations_in s → IsRead of known.names ds xs r → IsReadModule of known s r
  whole none same_ds same_xs told =
      let P : List Declaration → Type 0 = λ d. (repeated_name d ≡ None) × IsRead of known.names d xs r in
      let Q : Annotations → Type 0 = λ x. IsRead of known.names (declarations_in known s) x r in
      let all : (repeated_name (declarations_in known s) ≡ None) × IsRead of known.names (declarations_in known s) xs r = subst P same_ds (none, told) in
      let read : IsRead of known.names (declarations_in known s) (annotations_in s) r = subst Q same_xs all.1 in
      let R : Fault → Type 0 = λ f. Answers (option_or f (faults_after_names (declarations_in known s) (names_in known.names (declarations_in known s)) (annotations_in s))) r in
      record { answers = subst R (sym all.0) read.answers; types = read.types; names_added = read.names_added; bodies_added = read.bodies_added }

-- what is refused is whole
pub refused_whole : (A : Type 0) (of : List ℕ) (known : TypeNames) (s : Scoped) (ds : List Declaration) (e : Failure) → ds ≡ declarations_in known s → Answers {A = A} (repeated_name ds) (Err e) → IsReadModule of known s (Err e)
refused_whole A of known s ds (failure.Refused r) same told =
    let one : repeated_name (declarations_in known s) ≡ Some r = ap repeated_name (sym same) ∙ told in
    record {
      answers = ap (λ f. option_or f (faults_after_names (declarations_in known s) (names_in known.names (declarations_in known s)) (annotations_in s))) one;
      types = tt;
      names_added = tt;
      bodies_added = tt;
    }
refused_whole A of known s ds failure.NoMemory same told = record { answers = tt; types = tt; names_added = tt; bodies_added = tt }

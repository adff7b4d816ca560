use Rattle.std.proofs.Common.{◌≡◌, ◌≢◌, ℕ, ◌<◌, ◌+◌, length, slice_index_or, refl, sym, ap, ◌∙◌, List, Option, Some, None}
use Rattle.std.specs.Prelude.{slice_get, option_map, codes, [], ◌∷◌, Bool, false, ◌&&◌, nat_eq}
use Rattle.std.specs.List.{find}
use Rattle.std.specs.Cmp.Lexicographic.{pointwise}
use Rattle.std.specs.Option.{option_map_or}
use Rattle.std.proofs.lemmas.Option.{slice_get_read, slice_get_within, get_or_from_slice_get}
use Rattle.std.proofs.lemmas.List.{get_or-map, get_or_default}
use borrow.Author.Count.{below_more}
use Rattle.lua_tree.specs.Names.{spelling, number, text_of, dotted, place_of, IsListed, AreRight}
use Rattle.lua_tree.specs.declared.names.LibName.{LibName}
use Rattle.lua_tree.specs.declared.names.LibName.TheVariants as lib
use Rattle.lua_tree.specs.declared.names.Entry.{Entry}

-- the entry at a name's number gives the name's text
pub listed_text : (es : List Entry) (n : LibName) (m : ℕ) (e : Entry) → IsListed es n → m ≡ number n → m < length es → e ≡ slice_index_or es m e → dotted (place_of e) ≡ text_of n
listed_text es n m e listed is h read =
    let found : slice_get es (number n) ≡ Some e = ap (slice_get es) (sym is) ∙ slice_get_read es (length es) m e refl h read in
    ap (λ s. option_map_or dotted s (codes "ipairs step")) (sym (ap (option_map place_of) found) ∙ listed)

-- none of the first i entries stands at the place
abbrev pub NoneBefore : List Entry → List ℕ × List ℕ → ℕ → Type 0
NoneBefore es place i = (k : ℕ) → k < i → (d : Entry) → place_of (slice_index_or es k d) ≢ place

pub none_more : (es : List Entry) (place : List ℕ × List ℕ) (i : ℕ) (d : Entry) → NoneBefore es place i → i < length es → place_of (slice_index_or es i d) ≢ place → NoneBefore es place (i + 1)
none_more es place i d none h here =
    let P : ℕ → Type 0 = λ k. (d : Entry) → place_of (slice_index_or es k d) ≢ place in
    below_more P i none (λ other is. here (ap place_of (get_or_default es i d other h) ∙ is))

one_listed : (es : List Entry) (place : List ℕ × List ℕ) (k : ℕ) (o : Option Entry) → slice_get es k ≡ o → option_map place_of o ≡ Some place → NoneBefore es place (length es) → ⊥
one_listed es place k None at is none = cc
one_listed es place k (Some e) at is none =
    let same : Some (place_of e) ≡ Some place = is in
    none k (slice_get_within es k e at) e (ap place_of (get_or_from_slice_get es k e e at) ∙ (cc))

-- a name that a program can spell is that of some entry
pub listed_found : (es : List Entry) (n : LibName) (place : List ℕ × List ℕ) → IsListed es n → spelling n ≡ Some place → NoneBefore es place (length es) → ⊥
listed_found es n place listed is none = one_listed es place (number n) (slice_get es (number n)) refl (listed ∙ is) none

-- an entry that is right says where its name is found
pub right_place : (es : List Entry) (k : ℕ) (e : Entry) (place : List ℕ × List ℕ) → AreRight es → k < length es → place_of (slice_index_or es k e) ≡ place → spelling (slice_index_or es k e).0 ≡ Some place
right_place es k e place right h is =
    let d : Option (List ℕ × List ℕ) = None in
    sym (get_or-map (λ (x : Entry). spelling x.0) es k e d h) ∙ ap (λ xs. slice_index_or xs k d) right ∙ get_or-map (λ (x : Entry). Some (place_of x)) es k e d h ∙ ap Some is

-- every name, in order
abbrev pub names : List LibName
names = lib.Print ∷ lib.TypeOf ∷ lib.ToString ∷ lib.ToNumber ∷ lib.Pairs ∷ lib.Ipairs ∷ lib.Next ∷ lib.Select ∷ lib.RawGet ∷ lib.RawSet ∷ lib.RawEqual ∷ lib.RawLen ∷ lib.SetMetatable ∷ lib.GetMetatable ∷ lib.Pcall ∷ lib.Error ∷ lib.Assert ∷ lib.Require ∷ lib.StringLen ∷ lib.StringSub ∷ lib.StringUpper ∷ lib.StringLower ∷ lib.StringReverse ∷ lib.StringRep ∷ lib.StringByte ∷ lib.StringChar ∷ lib.StringFormat ∷ lib.TableInsert ∷ lib.TableRemove ∷ lib.TableConcat ∷ lib.TableUnpack ∷ lib.TableSort ∷ lib.MathAbs ∷ lib.MathFloor ∷ lib.MathMax ∷ lib.MathMin ∷ lib.MathUlt ∷ lib.MathType ∷ lib.MathMaxInteger ∷ lib.MathMinInteger ∷ lib.IoWrite ∷ lib.IoRead ∷ lib.IpairsStep ∷ []

-- whether a program finds the name at the place
abbrev pub stands_at : List ℕ × List ℕ → Option (List ℕ × List ℕ) → Bool
stands_at place None = false
stands_at place (Some own) = pointwise nat_eq own.0 place.0 && pointwise nat_eq own.1 place.1

-- the first name that a program finds at the place
abbrev pub named_at : Option (List ℕ × List ℕ) → Option LibName
named_at None = None
named_at (Some place) = find (λ n. stands_at place (spelling n)) names

-- a name is the one with its number, and the first with its spelling
each_name : (n : LibName) → (slice_get names (number n) ≡ Some n) × (named_at (spelling n) ≡ option_map (λ _. n) (spelling n))
each_name lib.Print = (refl, refl)
each_name _ = (refl, refl)

some_one : (a b : LibName) → Some a ≡ Some b → a ≡ b
some_one a b e = cc

-- names with one number are the same
pub one_number : (a b : LibName) → number a ≡ number b → a ≡ b
one_number a b e = some_one a b (sym (each_name a).0 ∙ ap (slice_get names) e ∙ (each_name b).0)

name_at : (n : LibName) (place : List ℕ × List ℕ) → spelling n ≡ Some place → named_at (Some place) ≡ Some n
name_at n place is = ap named_at (sym is) ∙ (each_name n).1 ∙ ap (option_map (λ _. n)) is

-- and so are names that a program finds at one place
pub one_spelling : (a b : LibName) (place : List ℕ × List ℕ) → spelling a ≡ Some place → spelling b ≡ Some place → a ≡ b
one_spelling a b place at_a at_b = some_one a b (sym (name_at a place at_a) ∙ name_at b place at_b)

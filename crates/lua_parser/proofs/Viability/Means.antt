-- What each part of a module stands for in the grammar, and what a plan ensures of the words that it takes.
use Rattle.std.proofs.Common.{◌≡◌, ℕ, ◌≤◌, Bool, true, false, List, [], ◌∷◌, ◌++◌, Option, None}
use Rattle.tl_base.specs.declared.place.Pos.{Pos}
use Rattle.tl_base.specs.declared.place.ModuleKind.{ModuleKind}
use Rattle.lua_tree.specs.declared.annotation.Name.{Name}
use Rattle.lua_tree.specs.declared.annotation.Typed.{Typed}
use Rattle.lua_tree.specs.declared.annotation.TypeExpr.{TypeExpr}
use Rattle.lua_tree.specs.declared.annotation.TypeField.{TypeField}
use Rattle.lua_tree.specs.declared.annotation.TypeTuple.{TypeTuple}
use Rattle.lua_tree.specs.declared.annotation.TypeResults.{TypeResults}
use Rattle.lua_tree.specs.declared.syntax.Rest.{Rest}
use Rattle.lua_tree.specs.declared.syntax.Expr.{Expr}
use Rattle.lua_tree.specs.declared.syntax.Entry.{Entry}
use Rattle.lua_lexer.specs.declared.token.Keyword.TheVariants as w
use Rattle.lua_lexer.specs.declared.token.Symbol.TheVariants as s
use Rattle.lua_parser.specs.Words.{Words, marked, keyword, symbol, named, name_at}
use Rattle.lua_parser.specs.Grammar.Levels.{unary_level}
use Rattle.lua_parser.specs.Grammar.Types.{Ending, InItself, InTuple, tuple, begins_open, SpellsDotted, SpellsType, SpellsMembers, SpellsMember, SpellsSimple, SpellsFields, SpellsField, SpellsTuple, SpellsItems, SpellsTuples, SpellsResults, SpellsSeparator, SpellsInterface}
use Rattle.lua_parser.specs.Grammar.Syntax.{SpellsAnnotation, SpellsTyped, SpellsTypeds, SpellsParams, SpellsOutcome, SpellsNames, SpellsPath, SpellsSemicolon, Spells, SpellsPrefix, SpellsArguments, SpellsList, SpellsEntries, SpellsEntry, SpellsBody, SpellsBlock, SpellsValues, SpellsStat, SpellsTargets, SpellsElse, SpellsStep, SpellsInit}
use Rattle.lua_parser.specs.Machine.Plan.{After, ended, joined, Item, Gives, Plan, done, want, want_name, read}

abbrev pub AsMember : After → TypeExpr → Words → Type 0
AsMember (ended r) x ts = SpellsMember r x ts
AsMember joined x ts = (us : Words) × (q : Pos) × (ts ≡ us ++ symbol s.Pipe q ∷ []) × SpellsMember InTuple x us

abbrev pub AsResults : After → TypeResults → Words → Type 0
AsResults (ended r) x ts = SpellsResults r x ts
AsResults joined x ts = (us : Words) × (q : Pos) × (ts ≡ us ++ symbol s.Pipe q ∷ []) × SpellsResults InTuple x us

abbrev pub AsTuples : After → Pos → List TypeTuple → Words → Type 0
AsTuples (ended r) p xs ts = (r ≡ InTuple) × SpellsTuples p xs ts
AsTuples joined p xs ts = (us : Words) × (q : Pos) × (ts ≡ us ++ symbol s.Pipe q ∷ []) × SpellsTuples p xs us

pub data EndedInterface : List TypeField → Words → Type 0 where
  ended_interface : {fs : List TypeField} {ts : Words} (z : Pos) → SpellsInterface fs ts → EndedInterface fs (ts ++ keyword w.End z ∷ [])

-- parameters with the `)` behind them
pub data ClosedParams (kind : ModuleKind) : Bool → List Typed → Option Rest → Words → Type 0 where
  closed_nothing : (q : Pos) → ClosedParams kind true [] None (symbol s.CloseParen q ∷ [])
  closed_params : {may_end : Bool} {xs : List Typed} {r : Option Rest} {ts : Words} (q : Pos) → SpellsParams kind xs r ts → ClosedParams kind may_end xs r (ts ++ symbol s.CloseParen q ∷ [])

pub data Assigns (kind : ModuleKind) : ℕ → ℕ → Bool → Expr → List Expr → List Expr → Words → Type 0 where
  assigns : {n m k : ℕ} {c : Bool} {x : Expr} {xs es : List Expr} {ts us : Words} (q : Pos) → SpellsTargets kind n m x xs ts → SpellsList kind m k c es us → Assigns kind n k c x xs es (ts ++ symbol s.Assign q ∷ us)

abbrev pub Means : ModuleKind → (j : Item) → Gives j → Words → Type 0
Means kind Item.a_type x ts = SpellsType x ts
Means kind Item.a_member m ts = AsMember m.1 m.0 ts
Means kind Item.a_plain_member x ts = SpellsMember InItself x ts
Means kind (Item.negated p) x ts = SpellsSimple x (symbol s.Minus p ∷ ts)
Means kind (Item.more_of_union a) xs ts = (x : TypeExpr) (us : Words) → AsMember a x us → SpellsMembers (x ∷ xs) (us ++ ts)
Means kind (Item.more_of_name x) d ts = (p : Pos) → SpellsDotted p d.0 d.1 (named (name_at p x) ∷ ts)
Means kind (Item.maybe_mark x) y ts = (us : Words) → SpellsSimple x us → SpellsMember InItself y (us ++ ts)
Means kind Item.a_tuple a ts = SpellsTuple a.0 a.1 ts
Means kind (Item.more_of_tuple x) r ts = (us : Words) → SpellsType x us → SpellsItems r.0 r.1 (us ++ ts)
Means kind (Item.behind_tuple p xs rest) m ts = (us : Words) (q : Pos) → SpellsTuple xs rest us → AsMember m.1 m.0 (symbol s.OpenParen p ∷ us ++ symbol s.CloseParen q ∷ ts)
Means kind Item.some_results r ts = AsResults r.1 r.0 ts
Means kind Item.more_results r ts = (p q : Pos) (xs : List TypeExpr) (rest : Option TypeExpr) (us : Words) → SpellsTuple xs rest us → AsTuples r.1 p (tuple xs rest ∷ r.0) (symbol s.OpenParen p ∷ us ++ symbol s.CloseParen q ∷ ts)
Means kind Item.behind_bar r ts = (p q o : Pos) (xs : List TypeExpr) (rest : Option TypeExpr) (us : Words) → SpellsTuple xs rest us → AsTuples r.1 p (tuple xs rest ∷ r.0) (symbol s.OpenParen p ∷ us ++ symbol s.CloseParen q ∷ symbol s.Pipe o ∷ ts)
Means kind Item.body_results r ts = (reach : Ending) × SpellsResults reach r ts
Means kind Item.more_body_results more ts = (p q : Pos) (xs : List TypeExpr) (rest : Option TypeExpr) (us : Words) → SpellsTuple xs rest us → SpellsTuples p (tuple xs rest ∷ more) (symbol s.OpenParen p ∷ us ++ symbol s.CloseParen q ∷ ts)
Means kind (Item.in_braces p) x ts = SpellsSimple x (symbol s.OpenBrace p ∷ ts)
Means kind (Item.named_in_braces p x) y ts = SpellsSimple y (symbol s.OpenBrace p ∷ named x ∷ ts)
Means kind Item.more_of_fields fs ts = (f : TypeField) (us : Words) → SpellsField f us → SpellsFields (f ∷ fs) (us ++ ts)
Means kind Item.next_field fs ts = (f : TypeField) (us : Words) (q : Pos) → SpellsField f us → SpellsFields (f ∷ fs) (us ++ symbol s.Comma q ∷ ts)
Means kind (Item.rest_of_field x) f ts = SpellsField f (named x ∷ ts)
Means kind Item.fields_of_interface fs ts = EndedInterface fs ts
Means kind Item.maybe_separator u ts = SpellsSeparator ts
Means kind Item.annotation a ts = SpellsAnnotation kind a ts
Means kind Item.outcome o ts = SpellsOutcome kind o ts
Means kind (Item.an_expr l n) v ts = l ≤ unary_level → Spells kind l n v.1 v.2 v.0 ts
Means kind (Item.operations l h a n c) v ts = l ≤ h → (m : ℕ) (us : Words) → Spells kind h m n c a us → Spells kind l m v.1 v.2 v.0 (us ++ ts)
Means kind (Item.suffixes f a n) v ts = (m : ℕ) (us : Words) → SpellsPrefix kind f m n a us → SpellsPrefix kind v.0 m v.2 v.1 (us ++ ts)
Means kind (Item.some_arguments n) v ts = SpellsArguments kind n v.1 v.0 ts
Means kind (Item.rest_of_arguments n) v ts = (p : Pos) → SpellsArguments kind n v.1 v.0 (symbol s.OpenParen p ∷ ts)
Means kind (Item.exprs n) v ts = SpellsList kind n v.1 v.2 v.0 ts
Means kind (Item.more_exprs n c) v ts = (a : Expr) (m : ℕ) (us : Words) → Spells kind 1 m n c a us → SpellsList kind m v.1 v.2 (a ∷ v.0) (us ++ ts)
Means kind (Item.entries n) v ts = SpellsEntries kind n v.1 v.0 ts
Means kind (Item.behind_entry n) v ts = (x : Entry) (m : ℕ) (us : Words) → SpellsEntry kind m n x us → SpellsEntries kind m v.1 (x ∷ v.0) (us ++ ts)
Means kind (Item.named_or_item x n) v ts = SpellsEntry kind n v.1 v.0 (named x ∷ ts)
Means kind (Item.a_body n) v ts = SpellsBody kind n v.1 v.0 ts
Means kind (Item.params may_end) v ts = ClosedParams kind may_end v.0 v.1 ts
Means kind Item.more_params v ts = (x : Typed) (us : Words) (may_end : Bool) → SpellsTyped kind x us → ClosedParams kind may_end (x ∷ v.0) v.1 (us ++ ts)
Means kind (Item.a_block outer n c) v ts = SpellsBlock kind outer n v.2 v.0 v.1 ts × (c ≡ true → begins_open ts ≡ false)
Means kind (Item.return_values n) v ts = SpellsValues kind n v.1 v.0 ts
Means kind Item.maybe_semicolon u ts = SpellsSemicolon ts
Means kind (Item.more_clauses n) v ts = SpellsElse kind n v.2 v.0 v.1 ts
Means kind (Item.rest_of_for p x n) v ts = (outer : Bool) → SpellsStat kind outer n v.1 false v.0 (keyword w.For p ∷ named x ∷ ts)
Means kind (Item.maybe_step n) v ts = SpellsStep kind n v.1 v.0 ts
Means kind Item.more_names xs ts = (x : Name) → SpellsNames (x ∷ xs) (named x ∷ ts)
Means kind (Item.rest_of_function p a n) v ts = (outer : Bool) (m : ℕ) (us : Words) → SpellsPath m n a us → SpellsStat kind outer m v.1 false v.0 (keyword w.Function p ∷ us ++ ts)
Means kind (Item.rest_of_local p n) v ts = (outer : Bool) → SpellsStat kind outer n v.1 v.2 v.0 (keyword w.Local p ∷ ts)
Means kind Item.more_typed xs ts = (x : Typed) (us : Words) → SpellsTyped kind x us → SpellsTypeds kind (x ∷ xs) (us ++ ts)
Means kind (Item.maybe_init n) v ts = SpellsInit kind n v.1 v.2 v.0 ts
Means kind (Item.behind_name outer x n) v ts = SpellsStat kind outer n v.1 v.2 v.0 (named x ∷ ts)
Means kind (Item.rest_of_stat f a n) v ts = (outer : Bool) (m : ℕ) (us : Words) → SpellsPrefix kind f m n a us → SpellsStat kind outer m v.1 v.2 v.0 (us ++ ts)
Means kind (Item.targets f a n) v ts = (m : ℕ) (us : Words) → SpellsPrefix kind f m n a us → Assigns kind m v.3 v.4 v.0 v.1 v.2 (us ++ ts)
Means kind (Item.next_target n) v ts = Assigns kind n v.3 v.4 v.0 v.1 v.2 ts

-- what holds of each value that a plan may give, with the words that it takes for it
abbrev pub Ensures : {A : Type 0} → ModuleKind → Plan A → (A → Words → Type 0) → Type 0
Ensures kind (done a) G = G a []
Ensures kind (want m k) G = (q : Pos) → Ensures kind (k q) (λ v ts. G v (marked m q ∷ ts))
Ensures kind (want_name k) G = (x : Name) → Ensures kind (k x) (λ v ts. G v (named x ∷ ts))
Ensures kind (read j k) G = (x : Gives j) (ts : Words) → Means kind j x ts → Ensures kind (k x) (λ v us. G v (ts ++ us))

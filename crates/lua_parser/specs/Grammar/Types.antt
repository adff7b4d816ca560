-- How types are spelled.
use Rattle.std.specs.Prelude.{◌≡◌, ℕ, ℤ, Bool, true, false, List, [], ◌∷◌, ◌++◌, Option, Some, None, neg_ℤ, codes}
use Rattle.std.specs.Int.{w64, int_wrap}
use Rattle.tl_base.specs.declared.place.Pos.{Pos}
use Rattle.lua_tree.specs.declared.annotation.Name.{Name}
use Rattle.lua_tree.specs.declared.annotation.TypeExpr.{TypeExpr, Nil, Bool as BoolType, Int, Str, Named, Paren', Array', Map', Record', Optional', Function', Union'}
use Rattle.lua_tree.specs.declared.annotation.TypeExpr.TheVariants as t
use Rattle.lua_tree.specs.declared.annotation.TypeField.{TypeField}
use Rattle.lua_tree.specs.declared.annotation.TypeTuple.{TypeTuple}
use Rattle.lua_tree.specs.declared.annotation.TypeResults.{TypeResults}
use Rattle.lua_tree.specs.declared.annotation.TypeExpr.TheViews.{roll-TypeField, roll-TypeTuple, roll-TypeResults}
use Rattle.lua_lexer.specs.declared.token.Keyword.TheVariants as w
use Rattle.lua_lexer.specs.declared.token.Symbol.TheVariants as s
use Rattle.lua_parser.specs.Words.{Words, WordKind, mark, sign, keyword, symbol, named, numeral, quoted, name_at}

-- the place of a type's first token
abbrev pub place : TypeExpr → Pos
place (Nil p) = p
place (BoolType p b) = p
place (Int p n) = p
place (Str p n) = p
place (Named p m n) = p
place (Paren' p c e) = p
place (Array' p c e) = p
place (Map' p c k d e) = p
place (Record' p c e) = p
place (Optional' p c e) = p
place (Function' p c a d r) = p
place (Union' p c e) = p

abbrev pub field : Pos → Bool → Name → TypeExpr → TypeField
field p c x ty = roll-TypeField (record { pos = p; is_const = c; name = x; ty = ty })

abbrev pub tuple : List TypeExpr → Option TypeExpr → TypeTuple
tuple items tail = roll-TypeTuple (record { items = items; tail = tail })

abbrev pub results : Pos → List TypeTuple → TypeResults
results p tuples = roll-TypeResults (record { pos = p; tuples = tuples })

-- whether a word is `(`, and whether the first word is
abbrev pub opens : WordKind → Bool
opens (mark (sign s.OpenParen)) = true
opens kind = false

abbrev pub begins_open : Words → Bool
begins_open [] = false
begins_open (x ∷ ts) = opens x.kind

-- How a member of a union ends: in itself, or as a function type in a tuple of its results, or in results that are a type without parentheses.
pub data Ending : Type 0 where
  InItself : Ending
  InTuple : Ending
  InType : Ending

-- what may follow a member and `|`: results reach as far as they can, so a `(` behind a tuple of results and `|` begins a further tuple
-- of them, and a type as the result takes all members that follow
abbrev pub MayPrecede : Ending → Words → Type 0
MayPrecede InItself ts = Unit {0}
MayPrecede InTuple ts = begins_open ts ≡ false
MayPrecede InType ts = ⊥

-- the parts of a module's name, and the type's name, with the place of the first
pub data SpellsDotted : Pos → List (List ℕ) → List ℕ → Words → Type 0 where
  last : (x : Name) → SpellsDotted x.pos [] x.text (named x ∷ [])
  part : {p : Pos} {parts : List (List ℕ)} {text : List ℕ} {ts : Words} (x : Name) (q : Pos) → SpellsDotted p parts text ts → SpellsDotted x.pos (x.text ∷ parts) text (named x ∷ symbol s.Dot q ∷ ts)

mutual
  pub data SpellsType : TypeExpr → Words → Type 0 where
    one_member : {e : Ending} {x : TypeExpr} {ts : Words} → SpellsMember e x ts → SpellsType x ts
    union_type : {x y : TypeExpr} {xs : List TypeExpr} {ts : Words} → SpellsMembers (x ∷ y ∷ xs) ts → SpellsType (t.Union (place x) (x ∷ y ∷ xs)) ts

  pub data SpellsMembers : List TypeExpr → Words → Type 0 where
    last_member : {e : Ending} {x : TypeExpr} {ts : Words} → SpellsMember e x ts → SpellsMembers (x ∷ []) ts
    more_members : {e : Ending} {x : TypeExpr} {xs : List TypeExpr} {ts us : Words} (q : Pos) → SpellsMember e x ts → SpellsMembers xs us → MayPrecede e us → SpellsMembers (x ∷ xs) (ts ++ symbol s.Pipe q ∷ us)

  pub data SpellsMember : Ending → TypeExpr → Words → Type 0 where
    simple_type : {x : TypeExpr} {ts : Words} → SpellsSimple x ts → SpellsMember InItself x ts
    optional_type : {x : TypeExpr} {ts : Words} (q : Pos) → SpellsSimple x ts → SpellsMember InItself (t.Optional (place x) x) (ts ++ symbol s.Question q ∷ [])
    function_type : {e : Ending} {xs : List TypeExpr} {rest : Option TypeExpr} {r : TypeResults} {ts us : Words} (p q o : Pos) → SpellsTuple xs rest ts → SpellsResults e r us
        → SpellsMember e (t.Function p (tuple xs rest) r) (symbol s.OpenParen p ∷ ts ++ symbol s.CloseParen q ∷ symbol s.Arrow o ∷ us)

  pub data SpellsSimple : TypeExpr → Words → Type 0 where
    nil_type : (p : Pos) → SpellsSimple (t.Nil p) (keyword w.Nil p ∷ [])
    true_type : (p : Pos) → SpellsSimple (t.Bool p true) (keyword w.True p ∷ [])
    false_type : (p : Pos) → SpellsSimple (t.Bool p false) (keyword w.False p ∷ [])
    integer_type : (p : Pos) (n : ℤ) → SpellsSimple (t.Int p n) (numeral n p ∷ [])
    negative_type : (p q : Pos) (n : ℤ) → SpellsSimple (t.Int p (int_wrap w64 (neg_ℤ n))) (symbol s.Minus p ∷ numeral n q ∷ [])
    text_type : (p : Pos) (n : List ℕ) → SpellsSimple (t.Str p n) (quoted n p ∷ [])
    dotted_type : {p : Pos} {parts : List (List ℕ)} {n : List ℕ} {ts : Words} → SpellsDotted p parts n ts → SpellsSimple (t.Named p parts n) ts
    paren_type : {x : TypeExpr} {ts : Words} (p q : Pos) → SpellsType x ts → SpellsSimple (t.Paren p x) (symbol s.OpenParen p ∷ ts ++ symbol s.CloseParen q ∷ [])
    array_type : {x : TypeExpr} {ts : Words} (p q : Pos) → SpellsType x ts → SpellsSimple (t.Array p x) (symbol s.OpenBrace p ∷ ts ++ symbol s.CloseBrace q ∷ [])
    map_type : {x y : TypeExpr} {ts us : Words} (p q o k j : Pos) → SpellsType x ts → SpellsType y us
        → SpellsSimple (t.Map p x y) (symbol s.OpenBrace p ∷ symbol s.OpenBracket q ∷ ts ++ (symbol s.CloseBracket o ∷ symbol s.Colon k ∷ us ++ (symbol s.CloseBrace j ∷ [])))
    empty_record : (p q : Pos) → SpellsSimple (t.Record p []) (symbol s.OpenBrace p ∷ symbol s.CloseBrace q ∷ [])
    record_type : {fs : List TypeField} {ts : Words} (p : Pos) → SpellsFields fs ts → SpellsSimple (t.Record p fs) (symbol s.OpenBrace p ∷ ts)

  -- the fields of a record, with the brace behind them
  pub data SpellsFields : List TypeField → Words → Type 0 where
    last_field : {f : TypeField} {ts : Words} (q : Pos) → SpellsField f ts → SpellsFields (f ∷ []) (ts ++ symbol s.CloseBrace q ∷ [])
    last_field_comma : {f : TypeField} {ts : Words} (q o : Pos) → SpellsField f ts → SpellsFields (f ∷ []) (ts ++ symbol s.Comma q ∷ symbol s.CloseBrace o ∷ [])
    more_fields : {f : TypeField} {fs : List TypeField} {ts us : Words} (q : Pos) → SpellsField f ts → SpellsFields fs us → SpellsFields (f ∷ fs) (ts ++ symbol s.Comma q ∷ us)

  -- `const` marks a field where a name follows
  pub data SpellsField : TypeField → Words → Type 0 where
    plain_field : {x : TypeExpr} {ts : Words} (n : Name) (q : Pos) → SpellsType x ts → SpellsField (field n.pos false n x) (named n ∷ symbol s.Colon q ∷ ts)
    const_field : {x : TypeExpr} {ts : Words} (p : Pos) (n : Name) (q : Pos) → SpellsType x ts → SpellsField (field p true n x) (named (name_at p (codes "const")) ∷ named n ∷ symbol s.Colon q ∷ ts)

  pub data SpellsTuple : List TypeExpr → Option TypeExpr → Words → Type 0 where
    no_items : SpellsTuple [] None []
    items : {xs : List TypeExpr} {rest : Option TypeExpr} {ts : Words} → SpellsItems xs rest ts → SpellsTuple xs rest ts

  pub data SpellsItems : List TypeExpr → Option TypeExpr → Words → Type 0 where
    last_item : {x : TypeExpr} {ts : Words} → SpellsType x ts → SpellsItems (x ∷ []) None ts
    tail_item : {x : TypeExpr} {ts : Words} (q : Pos) → SpellsType x ts → SpellsItems [] (Some x) (ts ++ symbol s.Star q ∷ [])
    more_items : {x : TypeExpr} {xs : List TypeExpr} {rest : Option TypeExpr} {ts us : Words} (q : Pos) → SpellsType x ts → SpellsItems xs rest us → SpellsItems (x ∷ xs) rest (ts ++ symbol s.Comma q ∷ us)

  -- one tuple or more in parentheses, with the place of the first
  pub data SpellsTuples : Pos → List TypeTuple → Words → Type 0 where
    last_tuple : {xs : List TypeExpr} {tail : Option TypeExpr} {ts : Words} (p q : Pos) → SpellsTuple xs tail ts → SpellsTuples p (tuple xs tail ∷ []) (symbol s.OpenParen p ∷ ts ++ symbol s.CloseParen q ∷ [])
    more_tuples : {xs : List TypeExpr} {tail : Option TypeExpr} {rest : List TypeTuple} {ts us : Words} {r : Pos} (p q o : Pos) → SpellsTuple xs tail ts → SpellsTuples r rest us
        → SpellsTuples p (tuple xs tail ∷ rest) (symbol s.OpenParen p ∷ ts ++ symbol s.CloseParen q ∷ symbol s.Pipe o ∷ us)

  -- results that begin with `(` are tuples
  pub data SpellsResults : Ending → TypeResults → Words → Type 0 where
    tuple_results : {p : Pos} {rest : List TypeTuple} {ts : Words} → SpellsTuples p rest ts → SpellsResults InTuple (results p rest) ts
    type_results : {x : TypeExpr} {ts : Words} → SpellsType x ts → begins_open ts ≡ false → SpellsResults InType (results (place x) (tuple (x ∷ []) None ∷ [])) ts

-- the fields of an interface, with or without a separator behind each
pub data SpellsSeparator : Words → Type 0 where
  no_separator : SpellsSeparator []
  comma : (p : Pos) → SpellsSeparator (symbol s.Comma p ∷ [])
  semicolon : (p : Pos) → SpellsSeparator (symbol s.Semicolon p ∷ [])

pub data SpellsInterface : List TypeField → Words → Type 0 where
  no_fields : SpellsInterface [] []
  next_field : {f : TypeField} {fs : List TypeField} {ts us vs : Words} → SpellsField f ts → SpellsSeparator us → SpellsInterface fs vs → SpellsInterface (f ∷ fs) (ts ++ (us ++ vs))

-- What the calls that read types say: each reads a part as the machine does, wherever the part stands.
use Rattle.std.specs.Prelude.{◌≡◌, ℕ, ◌+◌, ◌≤◌, Bool, true, false, Option, Some, None, List, [], ◌∷◌, ◌⊎◌, length, Result, Ok, Err, codes, ◌&&◌}
use Rattle.tl_base.specs.declared.place.Pos.{Pos}
use Rattle.tl_base.specs.declared.place.ModuleKind.{ModuleKind}
use Rattle.lua_tree.specs.declared.annotation.Name.{Name}
use Rattle.lua_tree.specs.declared.annotation.TypeExpr.{TypeExpr}
use Rattle.lua_tree.specs.declared.annotation.TypeExpr.TheVariants as t
use Rattle.lua_tree.specs.declared.annotation.TypeField.{TypeField}
use Rattle.lua_tree.specs.declared.annotation.TypeResults.{TypeResults}
use Rattle.lua_tree.specs.declared.syntax.Block.{Block}
use Rattle.lua_lexer.specs.declared.token.Keyword.TheVariants as w
use Rattle.lua_lexer.specs.declared.token.Symbol.{Symbol}
use Rattle.lua_lexer.specs.declared.token.Symbol.TheVariants as s
use Rattle.lua_parser.specs.declared.cursor.Stop.{Stop}
use Rattle.lua_parser.specs.declared.cursor.Stop.TheVariants as stop
use Rattle.lua_parser.specs.declared.type_parts.After as declared_after
use Rattle.lua_parser.specs.declared.type_parts.After.TheVariants as after
use Rattle.lua_parser.specs.declared.type_parts.Member.{Member}
use Rattle.lua_parser.specs.declared.type_parts.Items.{Items}
use Rattle.lua_parser.specs.declared.type_parts.Returned.{Returned}
use Rattle.lua_parser.specs.declared.type_parts.FieldName.{FieldName}
use Rattle.lua_parser.specs.declared.type_parts.Named.{Named}
use Rattle.lua_parser.specs.declared.type_parts.Named.TheVariants as named_part
use Rattle.lua_parser.specs.declared.type_parts.Join.{Join}
use Rattle.lua_parser.specs.declared.type_parts.Join.TheVariants as join
use Rattle.lua_parser.specs.Words.{WordKind, Mark, Words, marked, named, key, sign}
use Rattle.lua_parser.specs.Grammar.Types.{InItself, InTuple, InType, field}
use Rattle.lua_parser.specs.Machine.Plan.{After, ended, joined, Item, Gives, Plan, want, read, stuck}
use Rattle.lua_parser.specs.Machine.Steps.{is_typed, union_of, paren_step, tuple_then, is_text}
use Rattle.lua_parser.specs.Machine.Run.{run}
use Rattle.lua_parser.specs.Outcomes.{head_is, head_name, head_atom}

-- At least so many words are taken, and the reading goes on from one plan to another, whatever follows them in modules of either kind.
pub record Leads {G : Type 0} (n : ℕ) (from : (G → Plan Block) → Plan Block) (old : Words) (to : (G → Plan Block) → Plan Block) (new : Words) : Type 0 where
  pub taken : length new + n ≤ length old
  pub goes : (kind : ModuleKind) (k : G → Plan Block) → run kind (from k) old ≡ run kind (to k) new

-- If no spelling goes on, these words are left from the first on with which none does.
pub record Fails {G : Type 0} (from : (G → Plan Block) → Plan Block) (old : Words) (e : Stop) (new : Words) : Type 0 where
  pub stops : e ≡ stop.Unexpected → (kind : ModuleKind) (k : G → Plan Block) → run kind (from k) old ≡ Err new

-- A plan is read up to another one, or to where it halts.
abbrev pub Turns : {G A : Type 0} → (A → ℕ) → ((G → Plan Block) → Plan Block) → (A → (G → Plan Block) → Plan Block) → Words → Result A Stop → Words → Type 0
Turns n from to old (Ok v) new = Leads (n v) from old (to v) new
Turns n from to old (Err e) new = Fails from old e new

-- What is left of a plan is read, and gives this.
abbrev pub Gets : {G : Type 0} → ℕ → ((G → Plan Block) → Plan Block) → Words → Result G Stop → Words → Type 0
Gets n from = Turns (λ v. n) from (λ v k. k v)

-- The part is read, of at least so many words, and gives this.
abbrev pub ReadsPart : {A : Type 0} → ℕ → (j : Item) → (A → Gives j) → Words → Result A Stop → Words → Type 0
ReadsPart n j give = Turns (λ v. n) (read j) (λ v k. k (give v))

-- The part is read in a module of this kind, and gives this.
abbrev pub ReadsIn : ModuleKind → (j : Item) → Words → Result (Gives j) Stop → Words → Type 0
ReadsIn kind j old (Ok v) new = (length new ≤ length old) × ((k : Gives j → Plan Block) → run kind (read j k) old ≡ run kind (k v) new)
ReadsIn kind j old (Err e) new = e ≡ stop.Unexpected → (k : Gives j → Plan Block) → run kind (read j k) old ≡ Err new

-- There is a first word, and it was the colon of a type and is taken, or isn't and nothing is taken.
abbrev pub MeetsColon : ModuleKind → Words → Result Bool Stop → Words → Type 0
MeetsColon kind old (Ok true) new = (p : Pos) × (is_typed kind ≡ true) × (old ≡ marked (sign s.Colon) p ∷ new)
MeetsColon kind old (Ok false) new = (new ≡ old) × ((is_typed kind && head_is (sign s.Colon) old) ≡ false) × (old ≡ [] → ⊥)
MeetsColon kind old (Err e) new = (e ≡ stop.Unexpected) × (new ≡ old) × (old ≡ [])

-- No type begins with the first word.
pub record NoType (ts : Words) : Type 0 where
  pub no_atom : head_atom ts ≡ false
  pub no_nil : head_is (key w.Nil) ts ≡ false
  pub no_true : head_is (key w.True) ts ≡ false
  pub no_false : head_is (key w.False) ts ≡ false
  pub no_minus : head_is (sign s.Minus) ts ≡ false
  pub no_brace : head_is (sign s.OpenBrace) ts ≡ false
  pub no_paren : head_is (sign s.OpenParen) ts ≡ false

-- Why no further construct is begun: too many are open, unless neither a type nor one of these symbols follows.
abbrev pub Refuses : Symbol → Symbol → Words → Stop → Type 0
Refuses a b ts e = e ≡ stop.Unexpected → NoType ts × (head_is (sign a) ts ≡ false) × (head_is (sign b) ts ≡ false)

-- A step that takes no word: it fails for another reason than the words.
abbrev pub Stays : Words → Result (Unit {0}) Stop → Words → Type 0
Stays old (Ok u) new = new ≡ old
Stays old (Err e) new = e ≡ stop.Deep

-- There is a first word, and the mark was it and is taken, or isn't and nothing is taken.
abbrev pub Meets : Mark → Words → Result Bool Stop → Words → Type 0
Meets m old (Ok true) new = (p : Pos) × (old ≡ marked m p ∷ new)
Meets m old (Ok false) new = (new ≡ old) × (head_is m old ≡ false) × (old ≡ [] → ⊥)
Meets m old (Err e) new = (e ≡ stop.Unexpected) × (new ≡ old) × (old ≡ [])

-- The union ends before the first word, if that is no bar.
abbrev pub NoBar : Words → Result Join Stop → Type 0
NoBar old (Ok j) = (j ≡ join.Over) × (head_is (sign s.Pipe) old ≡ false) × (old ≡ [] → ⊥)
NoBar old (Err e) = (e ≡ stop.Unexpected) × ((old ≡ []) ⊎ (head_is (sign s.Pipe) old ≡ true))

-- The first word was this name and is taken; or it is no name and nothing is taken; or memory ran out.
abbrev pub EatsName : Words → Result (Option Name) Stop → Words → Type 0
EatsName old (Ok (Some x)) new = old ≡ named x ∷ new
EatsName old (Ok None) new = (new ≡ old) × (head_name old ≡ None)
EatsName old (Err e) new = e ≡ stop.NoMemory

abbrev pub after_of : declared_after.After → After
after_of after.InItself = ended InItself
after_of after.InTuple = ended InTuple
after_of after.InType = ended InType
after_of after.Joined = joined

abbrev pub member_of : Member → TypeExpr × After
member_of m = (m.ty, after_of m.after)

abbrev pub items_of : Items → List TypeExpr × Option TypeExpr
items_of a = (a.items, a.tail)

abbrev pub returned_of : Returned → TypeResults × After
returned_of r = (r.results, after_of r.after)

-- what stands before one more member of a union, or that none follows
abbrev pub joined_by : Join → (List TypeExpr → Plan Block) → Plan Block
joined_by join.Over k = k []
joined_by join.Plain k = read Item.a_plain_member λ x. read (Item.more_of_union (ended InItself)) λ xs. k (x ∷ xs)
joined_by join.Member k = read Item.a_member λ m. read (Item.more_of_union m.1) λ xs. k (m.0 ∷ xs)

-- one more member of a union, or none
abbrev pub taken_by : Option Member → ℕ
taken_by (Some m) = 1
taken_by None = 0

abbrev pub one_more : Option Member → (List TypeExpr → Plan Block) → Plan Block
one_more (Some m) k = read (Item.more_of_union (after_of m.after)) λ xs. k (m.ty ∷ xs)
one_more None k = k []

-- the other members of a union, behind the first
abbrev pub rest_of_union : Member → (TypeExpr → Plan Block) → Plan Block
rest_of_union m k = read (Item.more_of_union (after_of m.after)) λ xs. k (union_of m.ty xs)

-- the rest of a member that begins with `(`, which stood at this place
abbrev pub behind_paren : Pos → (TypeExpr × After → Plan Block) → Plan Block
behind_paren p k = tuple_then λ a. read (Item.behind_tuple p a.0 a.1) k

-- the rest of a tuple behind one of its types, with the `)` behind it
abbrev pub item_behind : TypeExpr → (List TypeExpr × Option TypeExpr → Plan Block) → Plan Block
item_behind x k = read (Item.more_of_tuple x) λ r. want (sign s.CloseParen) λ _. k r

-- the rest of a dotted name, which began at this place
abbrev pub rest_of_name : Name → (TypeExpr → Plan Block) → Plan Block
rest_of_name x k = read (Item.more_of_name x.text) λ d. k (t.Named x.pos d.0 d.1)

-- the end of `{type}`
abbrev pub end_of_array : Pos → TypeExpr → (TypeExpr → Plan Block) → Plan Block
end_of_array p x k = want (sign s.CloseBrace) λ _. k (t.Array p x)

-- the rest of `{[type]: type}`, behind its bracket
abbrev pub rest_of_map : Pos → (TypeExpr → Plan Block) → Plan Block
rest_of_map p k = read Item.a_type λ x. want (sign s.CloseBracket) λ _. want (sign s.Colon) λ _. read Item.a_type λ y. want (sign s.CloseBrace) λ _. k (t.Map p x y)

-- the fields of a record, behind the name of the first
abbrev pub fields_behind : FieldName → (List TypeField → Plan Block) → Plan Block
fields_behind f k = read Item.a_type λ a. read Item.more_of_fields λ fs. k (field f.pos f.is_const f.name a ∷ fs)

-- one more field of a record, read up to its type, or none
abbrev pub next_of_fields : Option FieldName → (List TypeField → Plan Block) → Plan Block
next_of_fields (Some f) k = fields_behind f k
next_of_fields None k = k []

-- a field that is read up to its type
abbrev pub type_of_field : FieldName → (TypeField → Plan Block) → Plan Block
type_of_field f k = read Item.a_type λ a. k (field f.pos f.is_const f.name a)

-- the type in parentheses, where one type stands in them and nothing else
abbrev pub Encloses : Pos → Items → Result TypeExpr Stop → Type 0
Encloses p a (Ok v) = (x : TypeExpr) × (a.items ≡ x ∷ []) × (a.tail ≡ None) × (v ≡ t.Paren p x)
Encloses p a (Err stop.Unexpected) = (k : WordKind) → paren_step p a.items a.tail k ≡ stuck
Encloses p a (Err e) = Unit {0}

-- What is built is this, or it fails for another reason than the words.
abbrev pub Builds : {A : Type 0} → A → Result A Stop → Type 0
Builds x (Ok v) = v ≡ x
Builds x (Err stop.Unexpected) = ⊥
Builds x (Err e) = Unit {0}

-- A name is read on as a field's, or not.
abbrev pub ReadsNamed : Name → Words → Result Named Stop → Words → Type 0
ReadsNamed x old (Ok (named_part.Field f)) new = (length new + 1 ≤ length old) × (f.pos ≡ x.pos) × (((p : Pos) × (f.is_const ≡ false) × (f.name ≡ x) × (old ≡ marked (sign s.Colon) p ∷ new)) ⊎ ((p : Pos) × (f.is_const ≡ true) × (is_text x.text (codes "const") ≡ true) × (old ≡ named f.name ∷ marked (sign s.Colon) p ∷ new)))
ReadsNamed x old (Ok (named_part.Other y)) new = (y ≡ x) × (new ≡ old) × (head_is (sign s.Colon) old ≡ false) × (is_text x.text (codes "const") ≡ true → head_name old ≡ None)
ReadsNamed x old (Err stop.Unexpected) new = (y : Name) × (is_text x.text (codes "const") ≡ true) × (old ≡ named y ∷ new) × (head_is (sign s.Colon) new ≡ false)
ReadsNamed x old (Err e) new = Unit {0}

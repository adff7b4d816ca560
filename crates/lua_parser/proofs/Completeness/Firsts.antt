-- The first words of types.
use Rattle.std.proofs.Common.{◌≡◌, ℕ, ℤ, Bool, true, false, List, [], ◌∷◌, ◌++◌, Option, refl, ap}
use Rattle.tl_base.specs.declared.place.Pos.{Pos}
use Rattle.lua_tree.specs.declared.annotation.TypeExpr.{TypeExpr}
use Rattle.lua_lexer.specs.declared.token.Keyword.TheVariants as w
use Rattle.lua_lexer.specs.declared.token.Symbol.TheVariants as s
use Rattle.lua_parser.specs.Words.{Word, Words, WordKind, mark, key, sign}
use Rattle.lua_parser.specs.Grammar.Types.{Ending, SpellsDotted, SpellsType, SpellsMembers, SpellsMember, SpellsSimple, SpellsItems}
use Rattle.lua_parser.specs.Machine.Steps.{is_sign}

-- the kinds of words that begin a type
pub data TypeStarter : WordKind → Type 0 where
  nil_starts : TypeStarter (mark (key w.Nil))
  true_starts : TypeStarter (mark (key w.True))
  false_starts : TypeStarter (mark (key w.False))
  minus_starts : TypeStarter (mark (sign s.Minus))
  brace_starts : TypeStarter (mark (sign s.OpenBrace))
  paren_starts : TypeStarter (mark (sign s.OpenParen))
  number_starts : (n : ℤ) → TypeStarter (WordKind.number n)
  text_starts : (x : List ℕ) → TypeStarter (WordKind.text x)
  name_starts : (x : List ℕ) → TypeStarter (WordKind.name x)

pub starter_not_close : {k : WordKind} → TypeStarter k → is_sign s.CloseParen k ≡ false
starter_not_close nil_starts = refl
starter_not_close true_starts = refl
starter_not_close false_starts = refl
starter_not_close minus_starts = refl
starter_not_close brace_starts = refl
starter_not_close paren_starts = refl
starter_not_close (number_starts n) = refl
starter_not_close (text_starts n) = refl
starter_not_close (name_starts n) = refl

-- whether words don't begin with a name or a colon
abbrev pub after_name : WordKind → Bool
after_name (WordKind.name x) = false
after_name (mark (sign s.Colon)) = false
after_name k = true

abbrev pub second_ok : Words → Bool
second_ok [] = true
second_ok (x ∷ ts) = after_name x.kind

-- There is a first word, which may begin a type, and where it is a name no name or colon follows it.
abbrev pub First : Words → Type 0
First ts = (x : Word) × (us : Words) × (ts ≡ x ∷ us) × TypeStarter x.kind × ((n : List ℕ) → x.kind ≡ WordKind.name n → second_ok us ≡ true)

pub second_append : (ts us : Words) → second_ok ts ≡ true → second_ok us ≡ true → second_ok (ts ++ us) ≡ true
second_append [] us a b = b
second_append (x ∷ ts) us a b = a

first_append : (ts us : Words) → First ts → second_ok us ≡ true → First (ts ++ us)
first_append ts us f h = (f.0, f.1 ++ us, ap (λ z. z ++ us) f.2, f.3, λ n e. second_append f.1 us (f.4 n e) h)

dotted_first : {p : Pos} {xs : List (List ℕ)} {x : List ℕ} {ts : Words} → SpellsDotted p xs x ts → First ts
dotted_first (SpellsDotted.last x) = (_, _, refl, name_starts x.text, λ n e. refl)
dotted_first (SpellsDotted.part x q d) = (_, _, refl, name_starts x.text, λ n e. refl)

simple_first : {x : TypeExpr} {ts : Words} → SpellsSimple x ts → First ts
simple_first (SpellsSimple.nil_type p) = (_, _, refl, nil_starts, λ n e. cc)
simple_first (SpellsSimple.true_type p) = (_, _, refl, true_starts, λ n e. cc)
simple_first (SpellsSimple.false_type p) = (_, _, refl, false_starts, λ n e. cc)
simple_first (SpellsSimple.integer_type p i) = (_, _, refl, number_starts i, λ n e. cc)
simple_first (SpellsSimple.negative_type p q i) = (_, _, refl, minus_starts, λ n e. cc)
simple_first (SpellsSimple.text_type p x) = (_, _, refl, text_starts x, λ n e. cc)
simple_first (SpellsSimple.dotted_type d) = dotted_first d
simple_first (SpellsSimple.paren_type p q d) = (_, _, refl, paren_starts, λ n e. cc)
simple_first (SpellsSimple.array_type p q d) = (_, _, refl, brace_starts, λ n e. cc)
simple_first (SpellsSimple.map_type p q o k j d f) = (_, _, refl, brace_starts, λ n e. cc)
simple_first (SpellsSimple.empty_record p q) = (_, _, refl, brace_starts, λ n e. cc)
simple_first (SpellsSimple.record_type p d) = (_, _, refl, brace_starts, λ n e. cc)

member_first : {e : Ending} {x : TypeExpr} {ts : Words} → SpellsMember e x ts → First ts
member_first (SpellsMember.simple_type d) = simple_first d
member_first (SpellsMember.optional_type q d) = first_append _ _ (simple_first d) refl
member_first (SpellsMember.function_type p q o d f) = (_, _, refl, paren_starts, λ n e. cc)

pub members_first : {xs : List TypeExpr} {ts : Words} → SpellsMembers xs ts → First ts
members_first (SpellsMembers.last_member d) = member_first d
members_first (SpellsMembers.more_members q d f j) = first_append _ _ (member_first d) refl

pub type_first : {x : TypeExpr} {ts : Words} → SpellsType x ts → First ts
type_first (SpellsType.one_member d) = member_first d
type_first (SpellsType.union_type d) = members_first d

pub items_first : {xs : List TypeExpr} {rest : Option TypeExpr} {ts : Words} → SpellsItems xs rest ts → First ts
items_first (SpellsItems.last_item d) = type_first d
items_first (SpellsItems.tail_item q d) = first_append _ _ (type_first d) refl
items_first (SpellsItems.more_items q d f) = first_append _ _ (type_first d) refl

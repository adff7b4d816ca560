-- What is counted behind each spelling of a type.
use Rattle.std.proofs.Common.{◌≡◌, ℕ, ◌+◌, max, Bool, true, false, List, [], ◌∷◌, ◌++◌, map, Option, Some, None, refl, sym, ap, append_assoc, ◌∙◌, arith}
use Rattle.std.specs.Option.{option_map}
use Rattle.tl_base.specs.declared.place.Pos.{Pos}
use Rattle.lua_tree.specs.declared.annotation.TypeExpr.{TypeExpr}
use Rattle.lua_tree.specs.declared.annotation.TypeExpr.TheVariants as t
use Rattle.lua_tree.specs.declared.annotation.TypeField.{TypeField}
use Rattle.lua_tree.specs.declared.annotation.TypeTuple.{TypeTuple}
use Rattle.lua_tree.specs.declared.annotation.TypeResults.{TypeResults}
use Rattle.lua_lexer.specs.declared.token.Keyword.TheVariants as w
use Rattle.lua_lexer.specs.declared.token.Symbol.TheVariants as s
use Rattle.lua_parser.specs.Words.{Word, Words, WordKind, mark, sign, keyword, symbol, numeral, quoted}
use Rattle.lua_parser.specs.Grammar.Types.{Ending, InItself, InTuple, InType, MayPrecede, begins_open, opens, tuple, results, SpellsDotted, SpellsSeparator, SpellsType, SpellsMembers, SpellsMember, SpellsSimple, SpellsFields, SpellsField, SpellsTuple, SpellsItems, SpellsTuples, SpellsResults, SpellsInterface}
use Rattle.lua_parser.specs.Grammar.Heights.{highest, height_or, type_height}
use Rattle.lua_parser.specs.Grammar.Depth.{Reached, word, words, reaches, through_type, through_members, through_member, through_simple, through_fields, through_field, through_tuple, through_items, through_tuples, through_results, through_interface}
use Rattle.lua_parser.specs.Machine.Steps.{is_sign, if_name}
use Rattle.lua_parser.specs.declared.signs.Sign.TheVariants as sign_of
use Rattle.lua_parser.specs.declared.signs.Tuple.{Tuple}
use Rattle.lua_parser.specs.declared.signs.Tuple.TheVariants.{OfMember as of_member, OfResults as of_results, OfBody as of_body}
use Rattle.lua_parser.specs.declared.signs.Sign.{Sign}
use Rattle.lua_parser.specs.declared.signs.Sign.TheVariants.{Pass as pass, Up as up, AType as a_type, AMember as a_member, Bar as bar, MoreBars as more_bars, MaybeMark as maybe_mark, Dots as dots, InBraces as in_braces, MapValue as map_value, NamedInBraces as named_in_braces, BehindField as behind_field, NextField as next_field, InterfaceFields as interface_fields, Items as items, BehindItem as behind_item, BehindItems as behind_items, EndOfFunction as end_of_function, BehindBar as behind_bar, BodyResults as body_results}
use Rattle.lua_parser.specs.Counting.Count.{Count, at, member, barred, take, count}
use Rattle.lua_parser.proofs.Viability.Plans.{word_is}
use Rattle.lua_parser.proofs.Completeness.Plans.{if_false}
use Rattle.lua_parser.proofs.Completeness.Types.{TypeEnd}
use Rattle.lua_parser.proofs.Completeness.Firsts.{First, TypeStarter, starter_not_close, nil_starts, true_starts, false_starts, minus_starts, brace_starts, paren_starts, number_starts, text_starts, name_starts, after_name, second_ok, type_first, members_first, items_first}
use Rattle.lua_parser.proofs.Heights.{tuple_height, results_height, field_height, type_height-Nil, type_height-Bool, type_height-Int, type_height-Str, type_height-Named, type_height-Paren, type_height-Array, type_height-Optional, type_height-Map, type_height-Record, type_height-Function, type_height-Union, field_height-roll, tuple_height-roll, results_height-roll}

-- the same is counted from the same
pub from : (ts : Words) {c d : Count} → c ≡ d → count ts c ≡ count ts d
from ts e = ap (λ z. count ts z) e

pub met : (y : Word) (us : Words) {c d : Count} → c ≡ d → count us (take y c) ≡ count us (take y d)
met y us e = ap (λ z. count us (take y z)) e

pub over : (ss : List Sign) (h : ℕ) (r : Reached) {ts us : Words} → ts ≡ us → count ts (at ss h r) ≡ count us (at ss h r)
over ss h r e = ap (λ z. count z (at ss h r)) e

pub high : (ts : Words) (ss : List Sign) (r : Reached) {a b : ℕ} → a ≡ b → count ts (at ss a r) ≡ count ts (at ss b r)
high ts ss r e = ap (λ z. count ts (at ss z r)) e

high_twice : (ts : Words) (ss : List Sign) (r : Reached) {a b : ℕ} → a ≡ b → count ts (at ss a (reaches a r)) ≡ count ts (at ss b (reaches b r))
high_twice ts ss r e = ap (λ z. count ts (at ss z (reaches z r))) e

-- ---- heights

abbrev tuple_highest : List TypeExpr → Option TypeExpr → ℕ
tuple_highest xs rest = max (highest (map type_height xs)) (height_or (option_map type_height rest))

one_more : (m h : ℕ) → max m h ≡ max m (max h 0)
one_more m h = grind arith

joins : (m h k : ℕ) → max (max m h) k ≡ max m (max h k)
joins m h k = grind arith

last_in : (m h : ℕ) → max m h ≡ max m (max (max h 0) 0)
last_in m h = grind arith

tail_in : (m h : ℕ) → max m h ≡ max m (max 0 h)
tail_in m h = grind arith

more_in : (m h k l : ℕ) → max (max m h) (max k l) ≡ max m (max (max h k) l)
more_in m h k l = grind arith

alone : (p h : ℕ) → max p h + 1 ≡ max p (max (max (max h 0) 0) 0) + 1
alone p h = grind arith

from_nothing : (h : ℕ) → max 0 h ≡ h
from_nothing h = grind arith

-- ---- what ends before a word

close_ends : TypeEnd (mark (sign s.CloseParen))
close_ends = record { no_bar = refl; no_mark = refl; no_dot = refl; no_arrow = refl }

brace_ends : TypeEnd (mark (sign s.CloseBrace))
brace_ends = record { no_bar = refl; no_mark = refl; no_dot = refl; no_arrow = refl }

bracket_ends : TypeEnd (mark (sign s.CloseBracket))
bracket_ends = record { no_bar = refl; no_mark = refl; no_dot = refl; no_arrow = refl }

comma_ends : TypeEnd (mark (sign s.Comma))
comma_ends = record { no_bar = refl; no_mark = refl; no_dot = refl; no_arrow = refl }

star_ends : TypeEnd (mark (sign s.Star))
star_ends = record { no_bar = refl; no_mark = refl; no_dot = refl; no_arrow = refl }

record SimpleEnd (k : WordKind) : Type 0 where
  pub no_mark : is_sign s.Question k ≡ false
  pub no_dot : is_sign s.Dot k ≡ false
  pub no_arrow : is_sign s.Arrow k ≡ false

abbrev Closes : Ending → WordKind → Type 0
Closes InItself k = SimpleEnd k
Closes InTuple k = TypeEnd k
Closes InType k = TypeEnd k

closes : (e : Ending) {k : WordKind} → TypeEnd k → Closes e k
closes InItself f = record { no_mark = f.no_mark; no_dot = f.no_dot; no_arrow = f.no_arrow }
closes InTuple f = f
closes InType f = f

bar_end : (y : Word) (us : Words) (ss : List Sign) (h : ℕ) (r : Reached) → is_sign s.Pipe y.kind ≡ false → count (y ∷ us) (at (bar ∷ ss) h r) ≡ count (y ∷ us) (at ss h r)
bar_end y us ss h r g = met y us (if_false (is_sign s.Pipe y.kind) _ _ g)

bars_end : (y : Word) (us : Words) (ss : List Sign) (m h : ℕ) (r : Reached) → is_sign s.Pipe y.kind ≡ false → count (y ∷ us) (at (more_bars m ∷ ss) h r) ≡ count (y ∷ us) (at ss (max m h + 1) (reaches (max m h + 1) r))
bars_end y us ss m h r g = met y us (if_false (is_sign s.Pipe y.kind) _ _ g)

mark_end : (y : Word) (us : Words) (ss : List Sign) (h : ℕ) (r : Reached) → is_sign s.Question y.kind ≡ false → count (y ∷ us) (at (maybe_mark ∷ ss) h r) ≡ count (y ∷ us) (at ss h (reaches h r))
mark_end y us ss h r g = met y us (if_false (is_sign s.Question y.kind) _ _ g)

dots_end : (y : Word) (us : Words) (ss : List Sign) (h : ℕ) (r : Reached) → is_sign s.Dot y.kind ≡ false → count (y ∷ us) (at (dots ∷ ss) h r) ≡ count (y ∷ us) (at ss h r)
dots_end y us ss h r g = met y us (if_false (is_sign s.Dot y.kind) _ _ g)

paren_end : (y : Word) (us : Words) (ss : List Sign) (m : ℕ) (r : Reached) → is_sign s.Arrow y.kind ≡ false → count (y ∷ us) (at (behind_items of_member m ∷ ss) 0 r) ≡ count (y ∷ us) (at (maybe_mark ∷ ss) (m + 1) r)
paren_end y us ss m r g = met y us (if_false (is_sign s.Arrow y.kind) _ _ g)

results_end : (y : Word) (us : Words) (ss : List Sign) (p m : ℕ) (r : Reached) → is_sign s.Pipe y.kind ≡ false
    → count (y ∷ us) (at (behind_items (of_results p) m ∷ ss) 0 r) ≡ count (y ∷ us) (at ss (max p m + 1) (reaches (max p m + 1) r))
results_end y us ss p m r g = met y us (if_false (is_sign s.Pipe y.kind) _ _ g)

-- ---- what begins a type elsewhere than where one is expected

pub type_as : (ts : Words) (y : Word) (us : Words) (ss : List Sign) (h : ℕ) (r : Reached) → count (ts ++ y ∷ us) (at (a_type ∷ ss) h r) ≡ count (ts ++ y ∷ us) (at (a_member ∷ bar ∷ ss) h r)
type_as [] y us ss h r = refl
type_as (x ∷ ts) y us ss h r = refl

value_as : (ts : Words) (y : Word) (us : Words) (ss : List Sign) (h : ℕ) (r : Reached) → count (ts ++ y ∷ us) (at (map_value ∷ ss) h r) ≡ count (ts ++ y ∷ us) (at (a_type ∷ pass ∷ sign_of.Grow h ∷ ss) h r)
value_as [] y us ss h r = refl
value_as (x ∷ ts) y us ss h r = refl

items_as : (ts us : Words) (v : Tuple) (m : ℕ) (ss : List Sign) (h : ℕ) (r : Reached) → First ts → count (ts ++ us) (at (items v m ∷ ss) h r) ≡ count (ts ++ us) (at (a_type ∷ behind_item v m ∷ ss) h r)
items_as ts us v m ss h r f =
    let d = ap (λ z. z ++ us) f.2 in
    over (items v m ∷ ss) h r d ∙ met f.0 (f.1 ++ us) (if_false (is_sign s.CloseParen f.0.kind) _ (member f.0.kind (bar ∷ behind_item v m ∷ ss) h r) (starter_not_close f.3)) ∙ sym (over (a_type ∷ behind_item v m ∷ ss) h r d)

no_open : (k : WordKind) (p : Pos) → opens k ≡ false → is_sign s.OpenParen k ≡ false
no_open k p h = go (is_sign s.OpenParen k) refl
  where
    go : (c : Bool) → is_sign s.OpenParen k ≡ c → is_sign s.OpenParen k ≡ false
    go false e = e
    go true e = let d : true ≡ false = sym (ap (λ z. opens z.kind) (word_is (sign s.OpenParen) k p e)) ∙ h in cc

results_as : (ts : Words) (y : Word) (us : Words) (p : ℕ) (ss : List Sign) (h : ℕ) (r : Reached) → First ts → begins_open ts ≡ false
    → count (ts ++ y ∷ us) (at (sign_of.Results p ∷ ss) h r) ≡ count (ts ++ y ∷ us) (at (a_type ∷ end_of_function p ∷ ss) h r)
results_as [] y us p ss h r f g = cc
results_as (x ∷ ts) y us p ss h r f g = met x (ts ++ y ∷ us) (if_false (is_sign s.OpenParen x.kind) _ (member x.kind (bar ∷ end_of_function p ∷ ss) h r) (no_open x.kind x.pos g))

body_results_as : (ts : Words) (y : Word) (us : Words) (ss : List Sign) (h : ℕ) (r : Reached) → First ts → begins_open ts ≡ false → count (ts ++ y ∷ us) (at (body_results ∷ ss) h r) ≡ count (ts ++ y ∷ us) (at (a_type ∷ ss) h r)
body_results_as [] y us ss h r f g = cc
body_results_as (x ∷ ts) y us ss h r f g = met x (ts ++ y ∷ us) (if_false (is_sign s.OpenParen x.kind) _ (member x.kind (bar ∷ ss) h r) (no_open x.kind x.pos g))

no_name_at : {B : Type 0} (k : WordKind) (f : List ℕ → B) (a : B) → after_name k ≡ true → if_name k f a ≡ a
no_name_at (WordKind.name x) f a h = cc
no_name_at (mark m) f a h = refl
no_name_at (WordKind.number n) f a h = refl
no_name_at (WordKind.text n) f a h = refl

no_colon_at : (k : WordKind) (p : Pos) → after_name k ≡ true → is_sign s.Colon k ≡ false
no_colon_at k p h = go (is_sign s.Colon k) refl
  where
    go : (c : Bool) → is_sign s.Colon k ≡ c → is_sign s.Colon k ≡ false
    go false e = e
    go true e = let d : false ≡ true = sym (ap (λ z. after_name z.kind) (word_is (sign s.Colon) k p e)) ∙ h in cc

-- a name in braces that is no field's
named_as : (z : Word) (us : Words) (ss : List Sign) (r : Reached) → after_name z.kind ≡ true → count (z ∷ us) (at (named_in_braces ∷ ss) 1 r) ≡ count (z ∷ us) (at (dots ∷ maybe_mark ∷ bar ∷ pass ∷ up ∷ ss) 1 r)
named_as z us ss r h = met z us (if_false (is_sign s.Colon z.kind) _ _ (no_colon_at z.kind z.pos h) ∙ no_name_at z.kind _ _ h)

named_before : (vs : Words) (y : Word) (us : Words) (ss : List Sign) (r : Reached) → second_ok vs ≡ true → after_name y.kind ≡ true
    → count (vs ++ y ∷ us) (at (named_in_braces ∷ ss) 1 r) ≡ count (vs ++ y ∷ us) (at (dots ∷ maybe_mark ∷ bar ∷ pass ∷ up ∷ ss) 1 r)
named_before [] y us ss r g h = named_as y us ss r h
named_before (z ∷ vs) y us ss r g h = named_as z (vs ++ y ∷ us) ss r g

braces_at : {k : WordKind} (p : Pos) (vs : Words) (y : Word) (us : Words) (ss : List Sign) (h : ℕ) (r : Reached) → TypeStarter k → ((n : List ℕ) → k ≡ WordKind.name n → second_ok vs ≡ true) → after_name y.kind ≡ true
    → count (record { kind = k; pos = p } ∷ vs ++ y ∷ us) (at (in_braces ∷ ss) h r) ≡ count (record { kind = k; pos = p } ∷ vs ++ y ∷ us) (at (a_type ∷ pass ∷ up ∷ ss) h r)
braces_at p vs y us ss h r nil_starts g i = refl
braces_at p vs y us ss h r true_starts g i = refl
braces_at p vs y us ss h r false_starts g i = refl
braces_at p vs y us ss h r minus_starts g i = refl
braces_at p vs y us ss h r brace_starts g i = refl
braces_at p vs y us ss h r paren_starts g i = refl
braces_at p vs y us ss h r (number_starts n) g i = refl
braces_at p vs y us ss h r (text_starts n) g i = refl
braces_at p vs y us ss h r (name_starts n) g i = named_before vs y us ss _ (g n refl) i

braces_as : (ts : Words) (y : Word) (us : Words) (ss : List Sign) (h : ℕ) (r : Reached) → First ts → after_name y.kind ≡ true → count (ts ++ y ∷ us) (at (in_braces ∷ ss) h r) ≡ count (ts ++ y ∷ us) (at (a_type ∷ pass ∷ up ∷ ss) h r)
braces_as ts y us ss h r f i =
    let d = ap (λ z. z ++ y ∷ us) f.2 in
    over (in_braces ∷ ss) h r d ∙ braces_at f.0.pos f.1 y us ss h r f.3 f.4 i ∙ sym (over (a_type ∷ pass ∷ up ∷ ss) h r d)

-- ---- what stands below a member of a union: the first member, or a later one behind members of this height

abbrev below : Option ℕ → Sign
below None = bar
below (Some m) = more_bars m

abbrev so_far : Option ℕ → ℕ → ℕ
so_far None h = h
so_far (Some m) h = max m h

below_barred : (o : Option ℕ) (ss : List Sign) (h : ℕ) (k : WordKind) (r : Reached) → barred (below o ∷ ss) h k r ≡ member k (more_bars (so_far o h) ∷ ss) h r
below_barred None ss h k r = refl
below_barred (Some m) ss h k r = refl

below_bar : (o : Option ℕ) (q : Pos) (us : Words) (ss : List Sign) (h : ℕ) (r : Reached) → count (symbol s.Pipe q ∷ us) (at (below o ∷ ss) h r) ≡ count us (at (a_member ∷ more_bars (so_far o h) ∷ ss) h (word (symbol s.Pipe q) r))
below_bar None q us ss h r = refl
below_bar (Some m) q us ss h r = refl

-- `|` behind the results of a function type, and another member
bar_behind : (b : Option ℕ) (p m : ℕ) (ss : List Sign) (r : Reached) (q : Pos) (vs : Words) (y : Word) (us : Words) → begins_open vs ≡ false → First vs
    → count (symbol s.Pipe q ∷ vs ++ y ∷ us) (at (behind_items (of_results p) m ∷ below b ∷ ss) 0 r)
    ≡ count (vs ++ y ∷ us) (at (a_member ∷ more_bars (so_far b (max p m + 1)) ∷ ss) (max p m + 1) (word (symbol s.Pipe q) (reaches (max p m + 1) r)))
bar_behind b p m ss r q [] y us g f = cc
bar_behind b p m ss r q (x ∷ vs) y us g f =
    met x (vs ++ y ∷ us) (if_false (is_sign s.OpenParen x.kind) _ _ (no_open x.kind x.pos g) ∙ below_barred b ss (max p m + 1) x.kind (word (symbol s.Pipe q) (reaches (max p m + 1) r)))

joined_high : (b : Option ℕ) (ss : List Sign) (r : Reached) (vs : Words) (y : Word) (us : Words) (q : Pos) {h k : ℕ} → h ≡ k
    → count (vs ++ y ∷ us) (at (a_member ∷ more_bars (so_far b h) ∷ ss) h (word (symbol s.Pipe q) (reaches h r))) ≡ count (vs ++ y ∷ us) (at (a_member ∷ more_bars (so_far b k) ∷ ss) k (word (symbol s.Pipe q) (reaches k r)))
joined_high b ss r vs y us q e = ap (λ z. count (vs ++ y ∷ us) (at (a_member ∷ more_bars (so_far b z) ∷ ss) z (word (symbol s.Pipe q) (reaches z r)))) e

-- the fields of a record: the first, or a later one behind fields of this height
abbrev before_field : Option ℕ → Sign
before_field None = in_braces
before_field (Some m) = next_field m

abbrev fields_so_far : Option ℕ → ℕ
fields_so_far None = 0
fields_so_far (Some m) = m

dotted_behind : {p : Pos} {parts : List (List ℕ)} {n : List ℕ} {ts : Words} → SpellsDotted p parts n ts → (ss : List Sign) (r : Reached) (y : Word) (us : Words) → is_sign s.Dot y.kind ≡ false
    → count (ts ++ y ∷ us) (at (pass ∷ dots ∷ ss) 1 r) ≡ count (y ∷ us) (at ss 1 (words ts r))
dotted_behind (SpellsDotted.last x) ss r y us g = dots_end y us ss 1 _ g
dotted_behind (SpellsDotted.part x q d) ss r y us g = dotted_behind d ss _ y us g

dotted_counts : {p : Pos} {parts : List (List ℕ)} {n : List ℕ} {ts : Words} → SpellsDotted p parts n ts → (ss : List Sign) (h : ℕ) (r : Reached) (y : Word) (us : Words) → is_sign s.Dot y.kind ≡ false
    → count (ts ++ y ∷ us) (at (a_member ∷ ss) h r) ≡ count (y ∷ us) (at (maybe_mark ∷ ss) 1 (words ts r))
dotted_counts (SpellsDotted.last x) ss h r y us g = dots_end y us (maybe_mark ∷ ss) 1 _ g
dotted_counts (SpellsDotted.part x q d) ss h r y us g = dotted_behind d (maybe_mark ∷ ss) _ y us g

function_ends : {e : Ending} {a : TypeResults} {ts : Words} {k : WordKind} → SpellsResults e a ts → Closes e k → TypeEnd k
function_ends (SpellsResults.tuple_results d) f = f
function_ends (SpellsResults.type_results d g) f = f

function_height : (p : Pos) (xs : List TypeExpr) (rest : Option TypeExpr) (a : TypeResults) → max (max 0 (tuple_highest xs rest)) (results_height a) + 1 ≡ type_height (t.Function p (tuple xs rest) a)
function_height p xs rest a =
    ap (λ z. max z (results_height a) + 1) (from_nothing (tuple_highest xs rest) ∙ sym (tuple_height-roll xs rest)) ∙ sym (type_height-Function p (tuple xs rest) a)

tuples_high : (k : Pos) (xs : List TypeTuple) → max 0 (highest (map tuple_height xs)) ≡ results_height (results k xs)
tuples_high k xs = from_nothing (highest (map tuple_height xs)) ∙ sym (results_height-roll k xs)

mutual
  pub type_counts : {x : TypeExpr} {ts : Words} (d : SpellsType x ts) (ss : List Sign) (h : ℕ) (r : Reached) (y : Word) (us : Words) → TypeEnd y.kind → count (ts ++ y ∷ us) (at (a_type ∷ ss) h r) ≡ count (y ∷ us) (at ss (type_height x) (through_type d r))
  type_counts (SpellsType.one_member {e = e} {x = x} {ts = ts} d) ss h r y us f = type_as ts y us ss h r ∙ member_counts d (bar ∷ ss) h r y us (closes e f) ∙ bar_end y us ss _ _ f.no_bar
  type_counts (SpellsType.union_type {x = x} {y = z} {xs = xs} {ts = ts} d) ss h r y us f =
      type_as ts y us ss h r ∙ union_counts d ss h r y us f ∙ high_twice (y ∷ us) ss (through_members d r) (sym (type_height-Union _ (x ∷ z ∷ xs)))

  union_counts : {x z : TypeExpr} {xs : List TypeExpr} {ts : Words} (d : SpellsMembers (x ∷ z ∷ xs) ts) (ss : List Sign) (h : ℕ) (r : Reached) (y : Word) (us : Words) → TypeEnd y.kind
      → count (ts ++ y ∷ us) (at (a_member ∷ bar ∷ ss) h r) ≡ count (y ∷ us) (at ss (highest (map type_height (x ∷ z ∷ xs)) + 1) (reaches (highest (map type_height (x ∷ z ∷ xs)) + 1) (through_members d r)))
  union_counts {x = x} {z = z} {xs = xs} (SpellsMembers.more_members {e = e} {ts = ts} {us = vs} q d f j) ss h r y us g =
      over _ _ _ (append_assoc ts (symbol s.Pipe q ∷ vs) (y ∷ us)) ∙ member_joins d None ss h r q vs y us j (members_first f) ∙ members_count f ss _ _ _ y us g

  members_count : {xs : List TypeExpr} {ts : Words} (d : SpellsMembers xs ts) (ss : List Sign) (m h : ℕ) (r : Reached) (y : Word) (us : Words) → TypeEnd y.kind
      → count (ts ++ y ∷ us) (at (a_member ∷ more_bars m ∷ ss) h r) ≡ count (y ∷ us) (at ss (max m (highest (map type_height xs)) + 1) (reaches (max m (highest (map type_height xs)) + 1) (through_members d r)))
  members_count (SpellsMembers.last_member {e = e} {x = x} {ts = ts} d) ss m h r y us g =
      member_counts d (more_bars m ∷ ss) h r y us (closes e g) ∙ bars_end y us ss m _ _ g.no_bar ∙ high_twice (y ∷ us) ss _ (ap (λ z. z + 1) (one_more m (type_height x)))
  members_count (SpellsMembers.more_members {e = e} {x = x} {xs = xs} {ts = ts} {us = vs} q d f j) ss m h r y us g =
      over _ _ _ (append_assoc ts (symbol s.Pipe q ∷ vs) (y ∷ us)) ∙ member_joins d (Some m) ss h r q vs y us j (members_first f) ∙ members_count f ss _ _ _ y us g
      ∙ high_twice (y ∷ us) ss _ (ap (λ z. z + 1) (joins m (type_height x) (highest (map type_height xs))))

  -- a member before a word that doesn't go on with it
  member_counts : {e : Ending} {x : TypeExpr} {ts : Words} (d : SpellsMember e x ts) (ss : List Sign) (h : ℕ) (r : Reached) (y : Word) (us : Words) → Closes e y.kind
      → count (ts ++ y ∷ us) (at (a_member ∷ ss) h r) ≡ count (y ∷ us) (at ss (type_height x) (through_member d r))
  member_counts (SpellsMember.simple_type {x = x} {ts = ts} d) ss h r y us f = simple_counts d ss h r y us f.no_dot f.no_arrow ∙ mark_end y us ss _ _ f.no_mark
  member_counts (SpellsMember.optional_type {x = x} {ts = ts} q d) ss h r y us f =
      over _ _ _ (append_assoc ts (symbol s.Question q ∷ []) (y ∷ us)) ∙ simple_counts d ss h r (symbol s.Question q) (y ∷ us) refl refl
      ∙ high_twice (y ∷ us) ss (word (symbol s.Question q) (reaches (type_height x) (through_simple d r))) (sym (type_height-Optional _ x))
  member_counts (SpellsMember.function_type {e = e} {xs = xs} {rest = rest} {r = a} {ts = ts} {us = vs} p q o d f) ss h r y us g =
      over _ _ _ (append_assoc ts (symbol s.CloseParen q ∷ symbol s.Arrow o ∷ vs) (y ∷ us)) ∙ tuple_counts d of_member 0 ss h _ q (symbol s.Arrow o ∷ vs ++ y ∷ us)
      ∙ results_count f (max 0 (tuple_highest xs rest)) ss _ _ y us (function_ends f g) ∙ high_twice (y ∷ us) ss (through_results f (word (symbol s.Arrow o) (word (symbol s.CloseParen q) (through_tuple d (word (symbol s.OpenParen p) r))))) (function_height p xs rest a)

  -- a member before `|` and another member
  member_joins : {e : Ending} {x : TypeExpr} {ts : Words} (d : SpellsMember e x ts) (b : Option ℕ) (ss : List Sign) (h : ℕ) (r : Reached) (q : Pos) (vs : Words) (y : Word) (us : Words) → MayPrecede e vs → First vs
      → count (ts ++ symbol s.Pipe q ∷ (vs ++ y ∷ us)) (at (a_member ∷ below b ∷ ss) h r) ≡ count (vs ++ y ∷ us) (at (a_member ∷ more_bars (so_far b (type_height x)) ∷ ss) (type_height x) (word (symbol s.Pipe q) (through_member d r)))
  member_joins (SpellsMember.simple_type {x = x} {ts = ts} d) b ss h r q vs y us j i =
      simple_counts d (below b ∷ ss) h r (symbol s.Pipe q) (vs ++ y ∷ us) refl refl ∙ below_bar b q (vs ++ y ∷ us) ss (type_height x) (reaches (type_height x) (through_simple d r))
  member_joins (SpellsMember.optional_type {x = x} {ts = ts} o d) b ss h r q vs y us j i =
      over _ _ _ (append_assoc ts (symbol s.Question o ∷ []) (symbol s.Pipe q ∷ vs ++ y ∷ us)) ∙ simple_counts d (below b ∷ ss) h r (symbol s.Question o) (symbol s.Pipe q ∷ vs ++ y ∷ us) refl refl
      ∙ high_twice (symbol s.Pipe q ∷ vs ++ y ∷ us) (below b ∷ ss) (word (symbol s.Question o) (reaches (type_height x) (through_simple d r))) (sym (type_height-Optional _ x)) ∙ below_bar b q (vs ++ y ∷ us) ss (type_height (t.Optional _ x)) (reaches (type_height (t.Optional _ x)) (word (symbol s.Question o) (reaches (type_height x) (through_simple d r))))
  member_joins (SpellsMember.function_type {xs = xs} {rest = rest} {ts = ts} p o l d (SpellsResults.tuple_results {p = k} {rest = rs} {ts = ws} f)) b ss h r q vs y us j i =
      over _ _ _ (append_assoc ts (symbol s.CloseParen o ∷ symbol s.Arrow l ∷ ws) (symbol s.Pipe q ∷ vs ++ y ∷ us)) ∙ tuple_counts d of_member 0 (below b ∷ ss) h _ o (symbol s.Arrow l ∷ (ws ++ symbol s.Pipe q ∷ (vs ++ y ∷ us)))
      ∙ results_open f (max 0 (tuple_highest xs rest)) (below b ∷ ss) _ _ (symbol s.Pipe q ∷ vs ++ y ∷ us) ∙ tuples_count f (max 0 (tuple_highest xs rest)) 0 (below b ∷ ss) 0 _ (symbol s.Pipe q ∷ vs ++ y ∷ us)
      ∙ bar_behind b (max 0 (tuple_highest xs rest)) (max 0 (highest (map tuple_height rs))) ss (through_tuples f (word (symbol s.Arrow l) (word (symbol s.CloseParen o) (through_tuple d (word (symbol s.OpenParen p) r))))) q vs y us j i
      ∙ joined_high b ss (through_tuples f (word (symbol s.Arrow l) (word (symbol s.CloseParen o) (through_tuple d (word (symbol s.OpenParen p) r))))) vs y us q (ap (λ z. max (max 0 (tuple_highest xs rest)) z + 1) (tuples_high k rs) ∙ function_height p xs rest (results k rs))
  member_joins (SpellsMember.function_type p o l d (SpellsResults.type_results f g)) b ss h r q vs y us j i = absurd j

  simple_counts : {x : TypeExpr} {ts : Words} (d : SpellsSimple x ts) (ss : List Sign) (h : ℕ) (r : Reached) (y : Word) (us : Words) → is_sign s.Dot y.kind ≡ false → is_sign s.Arrow y.kind ≡ false
      → count (ts ++ y ∷ us) (at (a_member ∷ ss) h r) ≡ count (y ∷ us) (at (maybe_mark ∷ ss) (type_height x) (through_simple d r))
  simple_counts (SpellsSimple.nil_type p) ss h r y us f g = high (y ∷ us) (maybe_mark ∷ ss) (word (keyword w.Nil p) r) (sym (type_height-Nil p))
  simple_counts (SpellsSimple.true_type p) ss h r y us f g = high (y ∷ us) (maybe_mark ∷ ss) (word (keyword w.True p) r) (sym (type_height-Bool p true))
  simple_counts (SpellsSimple.false_type p) ss h r y us f g = high (y ∷ us) (maybe_mark ∷ ss) (word (keyword w.False p) r) (sym (type_height-Bool p false))
  simple_counts (SpellsSimple.integer_type p n) ss h r y us f g = high (y ∷ us) (maybe_mark ∷ ss) (word (numeral n p) r) (sym (type_height-Int p n))
  simple_counts (SpellsSimple.negative_type p q n) ss h r y us f g = high (y ∷ us) (maybe_mark ∷ ss) (word (numeral n q) (word (symbol s.Minus p) r)) (sym (type_height-Int p _))
  simple_counts (SpellsSimple.text_type p n) ss h r y us f g = high (y ∷ us) (maybe_mark ∷ ss) (word (quoted n p) r) (sym (type_height-Str p n))
  simple_counts (SpellsSimple.dotted_type {p = p} {parts = parts} {n = n} {ts = ts} d) ss h r y us f g = dotted_counts d ss h r y us f ∙ high (y ∷ us) (maybe_mark ∷ ss) _ (sym (type_height-Named p parts n))
  simple_counts (SpellsSimple.paren_type {x = x} {ts = ts} p q d) ss h r y us f g =
      over _ _ _ (append_assoc ts (symbol s.CloseParen q ∷ []) (y ∷ us)) ∙ items_as ts (symbol s.CloseParen q ∷ y ∷ us) of_member 0 ss h _ (type_first d)
      ∙ type_counts d (behind_item of_member 0 ∷ ss) h _ (symbol s.CloseParen q) (y ∷ us) close_ends ∙ paren_end y us ss (max 0 (type_height x)) (word (symbol s.CloseParen q) (through_type d (word (symbol s.OpenParen p) r))) g
      ∙ high (y ∷ us) (maybe_mark ∷ ss) (word (symbol s.CloseParen q) (through_type d (word (symbol s.OpenParen p) r))) (ap (λ z. z + 1) (from_nothing (type_height x)) ∙ sym (type_height-Paren p x))
  simple_counts (SpellsSimple.array_type {x = x} {ts = ts} p q d) ss h r y us f g =
      over _ _ _ (append_assoc ts (symbol s.CloseBrace q ∷ []) (y ∷ us)) ∙ braces_as ts (symbol s.CloseBrace q) (y ∷ us) (maybe_mark ∷ ss) h _ (type_first d) refl
      ∙ type_counts d (pass ∷ up ∷ maybe_mark ∷ ss) h _ (symbol s.CloseBrace q) (y ∷ us) brace_ends ∙ high (y ∷ us) (maybe_mark ∷ ss) (word (symbol s.CloseBrace q) (through_type d (word (symbol s.OpenBrace p) r))) (sym (type_height-Array p x))
  simple_counts (SpellsSimple.map_type {x = x} {y = z} {ts = ts} {us = vs} p q o k j d e) ss h r y us f g =
      over _ _ _ (append_assoc ts (symbol s.CloseBracket o ∷ symbol s.Colon k ∷ vs ++ (symbol s.CloseBrace j ∷ [])) (y ∷ us))
      ∙ type_counts d (pass ∷ pass ∷ map_value ∷ maybe_mark ∷ ss) h _ (symbol s.CloseBracket o) (symbol s.Colon k ∷ (vs ++ (symbol s.CloseBrace j ∷ [])) ++ y ∷ us) bracket_ends
      ∙ over _ _ _ (append_assoc vs (symbol s.CloseBrace j ∷ []) (y ∷ us)) ∙ value_as vs (symbol s.CloseBrace j) (y ∷ us) (maybe_mark ∷ ss) (type_height x) _
      ∙ type_counts e (pass ∷ sign_of.Grow (type_height x) ∷ maybe_mark ∷ ss) _ _ (symbol s.CloseBrace j) (y ∷ us) brace_ends
      ∙ high (y ∷ us) (maybe_mark ∷ ss) (word (symbol s.CloseBrace j) (through_type e (word (symbol s.Colon k) (word (symbol s.CloseBracket o) (through_type d (word (symbol s.OpenBracket q) (word (symbol s.OpenBrace p) r))))))) (sym (type_height-Map p x z))
  simple_counts (SpellsSimple.empty_record p q) ss h r y us f g = high (y ∷ us) (maybe_mark ∷ ss) (word (symbol s.CloseBrace q) (word (symbol s.OpenBrace p) r)) (sym (type_height-Record p []))
  simple_counts (SpellsSimple.record_type {fs = fs} {ts = ts} p d) ss h r y us f g =
      fields_count d None (maybe_mark ∷ ss) h _ (y ∷ us) ∙ high (y ∷ us) (maybe_mark ∷ ss) _ (ap (λ z. z + 1) (from_nothing (highest (map field_height fs))) ∙ sym (type_height-Record p fs))

  -- fields, with the brace behind them
  fields_count : {fs : List TypeField} {ts : Words} (d : SpellsFields fs ts) (b : Option ℕ) (ss : List Sign) (h : ℕ) (r : Reached) (us : Words)
      → count (ts ++ us) (at (before_field b ∷ ss) h r) ≡ count us (at ss (max (fields_so_far b) (highest (map field_height fs)) + 1) (through_fields d r))
  fields_count (SpellsFields.last_field {f = f} {ts = ts} q d) b ss h r us =
      over _ _ _ (append_assoc ts (symbol s.CloseBrace q ∷ []) us) ∙ field_counts d b ss h r (symbol s.CloseBrace q) us brace_ends ∙ high us ss (word (symbol s.CloseBrace q) (through_field d r)) (ap (λ z. z + 1) (one_more (fields_so_far b) (field_height f)))
  fields_count (SpellsFields.last_field_comma {f = f} {ts = ts} q o d) b ss h r us =
      over _ _ _ (append_assoc ts (symbol s.Comma q ∷ symbol s.CloseBrace o ∷ []) us) ∙ field_counts d b ss h r (symbol s.Comma q) (symbol s.CloseBrace o ∷ us) comma_ends
      ∙ high us ss (word (symbol s.CloseBrace o) (word (symbol s.Comma q) (through_field d r))) (ap (λ z. z + 1) (one_more (fields_so_far b) (field_height f)))
  fields_count (SpellsFields.more_fields {f = f} {fs = fs} {ts = ts} {us = vs} q d e) b ss h r us =
      over _ _ _ (append_assoc ts (symbol s.Comma q ∷ vs) us) ∙ field_counts d b ss h r (symbol s.Comma q) (vs ++ us) comma_ends
      ∙ fields_count e (Some (max (fields_so_far b) (field_height f))) ss _ _ us ∙ high us ss _ (ap (λ z. z + 1) (joins (fields_so_far b) (field_height f) (highest (map field_height fs))))

  field_counts : {f : TypeField} {ts : Words} (d : SpellsField f ts) (b : Option ℕ) (ss : List Sign) (h : ℕ) (r : Reached) (y : Word) (us : Words) → TypeEnd y.kind
      → count (ts ++ y ∷ us) (at (before_field b ∷ ss) h r) ≡ count (y ∷ us) (at (behind_field (fields_so_far b) ∷ ss) (field_height f) (through_field d r))
  field_counts (SpellsField.plain_field {x = x} {ts = ts} n q d) None ss h r y us f = type_counts d (behind_field 0 ∷ ss) _ _ y us f ∙ high (y ∷ us) (behind_field 0 ∷ ss) _ (sym (field_height-roll n.pos false n x))
  field_counts (SpellsField.plain_field {x = x} {ts = ts} n q d) (Some m) ss h r y us f = type_counts d (behind_field m ∷ ss) _ _ y us f ∙ high (y ∷ us) (behind_field m ∷ ss) _ (sym (field_height-roll n.pos false n x))
  field_counts (SpellsField.const_field {x = x} {ts = ts} p n q d) None ss h r y us f = type_counts d (behind_field 0 ∷ ss) _ _ y us f ∙ high (y ∷ us) (behind_field 0 ∷ ss) _ (sym (field_height-roll p true n x))
  field_counts (SpellsField.const_field {x = x} {ts = ts} p n q d) (Some m) ss h r y us f = type_counts d (behind_field m ∷ ss) _ _ y us f ∙ high (y ∷ us) (behind_field m ∷ ss) _ (sym (field_height-roll p true n x))

  -- types in parentheses, with the parenthesis behind them
  tuple_counts : {xs : List TypeExpr} {rest : Option TypeExpr} {ts : Words} (d : SpellsTuple xs rest ts) (v : Tuple) (m : ℕ) (ss : List Sign) (h : ℕ) (r : Reached) (q : Pos) (us : Words)
      → count (ts ++ symbol s.CloseParen q ∷ us) (at (items v m ∷ ss) h r) ≡ count us (at (behind_items v (max m (tuple_highest xs rest)) ∷ ss) 0 (word (symbol s.CloseParen q) (through_tuple d r)))
  tuple_counts SpellsTuple.no_items v m ss h r q us = ap (λ z. count us (at (behind_items v z ∷ ss) 0 (word (symbol s.CloseParen q) r))) (no_more m)
    where
      no_more : (m : ℕ) → m ≡ max m (max 0 0)
      no_more m = grind arith
  tuple_counts (SpellsTuple.items {xs = xs} {rest = rest} {ts = ts} d) v m ss h r q us = items_as ts (symbol s.CloseParen q ∷ us) v m ss h r (items_first d) ∙ items_count d v m ss h r q us

  items_count : {xs : List TypeExpr} {rest : Option TypeExpr} {ts : Words} (d : SpellsItems xs rest ts) (v : Tuple) (m : ℕ) (ss : List Sign) (h : ℕ) (r : Reached) (q : Pos) (us : Words)
      → count (ts ++ symbol s.CloseParen q ∷ us) (at (a_type ∷ behind_item v m ∷ ss) h r) ≡ count us (at (behind_items v (max m (tuple_highest xs rest)) ∷ ss) 0 (word (symbol s.CloseParen q) (through_items d r)))
  items_count (SpellsItems.last_item {x = x} {ts = ts} d) v m ss h r q us =
      type_counts d (behind_item v m ∷ ss) h r (symbol s.CloseParen q) us close_ends ∙ ap (λ z. count us (at (behind_items v z ∷ ss) 0 (word (symbol s.CloseParen q) (through_type d r)))) (last_in m (type_height x))
  items_count (SpellsItems.tail_item {x = x} {ts = ts} o d) v m ss h r q us =
      over _ _ _ (append_assoc ts (symbol s.Star o ∷ []) (symbol s.CloseParen q ∷ us)) ∙ type_counts d (behind_item v m ∷ ss) h r (symbol s.Star o) (symbol s.CloseParen q ∷ us) star_ends
      ∙ ap (λ z. count us (at (behind_items v z ∷ ss) 0 (word (symbol s.CloseParen q) (word (symbol s.Star o) (through_type d r))))) (tail_in m (type_height x))
  items_count (SpellsItems.more_items {x = x} {xs = xs} {rest = rest} {ts = ts} {us = vs} o d f) v m ss h r q us =
      over _ _ _ (append_assoc ts (symbol s.Comma o ∷ vs) (symbol s.CloseParen q ∷ us)) ∙ type_counts d (behind_item v m ∷ ss) h r (symbol s.Comma o) (vs ++ symbol s.CloseParen q ∷ us) comma_ends
      ∙ items_count f v (max m (type_height x)) ss _ _ q us
      ∙ ap (λ z. count us (at (behind_items v z ∷ ss) 0 (word (symbol s.CloseParen q) (through_items f (word (symbol s.Comma o) (through_type d r)))))) (more_in m (type_height x) (highest (map type_height xs)) (height_or (option_map type_height rest)))

  -- the results of a function type, from the first parenthesis on, behind results of this height
  tuples_count : {k : Pos} {xs : List TypeTuple} {ts : Words} (d : SpellsTuples k xs ts) (p m : ℕ) (ss : List Sign) (h : ℕ) (r : Reached) (us : Words)
      → count (ts ++ us) (at (behind_bar p m ∷ ss) h r) ≡ count us (at (behind_items (of_results p) (max m (highest (map tuple_height xs))) ∷ ss) 0 (through_tuples d r))
  tuples_count (SpellsTuples.last_tuple {xs = xs} {tail = tail} {ts = ts} k q d) p m ss h r us =
      over _ _ _ (append_assoc ts (symbol s.CloseParen q ∷ []) us) ∙ tuple_counts d (of_results p) m ss 0 _ q us
      ∙ ap (λ z. count us (at (behind_items (of_results p) z ∷ ss) 0 (word (symbol s.CloseParen q) (through_tuple d (word (symbol s.OpenParen k) r))))) (ap (λ z. max m z) (sym (tuple_height-roll xs tail)) ∙ one_more m (tuple_height (tuple xs tail)))
  tuples_count (SpellsTuples.more_tuples {xs = xs} {tail = tail} {rest = rest} {ts = ts} {us = vs} {r = j} k q o d f) p m ss h r us =
      over _ _ _ (append_assoc ts (symbol s.CloseParen q ∷ symbol s.Pipe o ∷ vs) us) ∙ tuple_counts d (of_results p) m ss 0 _ q (symbol s.Pipe o ∷ vs ++ us)
      ∙ tuples_count f p (max m (tuple_highest xs tail)) ss 0 _ us
      ∙ ap (λ z. count us (at (behind_items (of_results p) z ∷ ss) 0 (through_tuples f (word (symbol s.Pipe o) (word (symbol s.CloseParen q) (through_tuple d (word (symbol s.OpenParen k) r)))))))
      (ap (λ z. max (max m z) (highest (map tuple_height rest))) (sym (tuple_height-roll xs tail)) ∙ joins m (tuple_height (tuple xs tail)) (highest (map tuple_height rest)))

  results_count : {e : Ending} {a : TypeResults} {ts : Words} (d : SpellsResults e a ts) (p : ℕ) (ss : List Sign) (h : ℕ) (r : Reached) (y : Word) (us : Words) → TypeEnd y.kind
      → count (ts ++ y ∷ us) (at (sign_of.Results p ∷ ss) h r) ≡ count (y ∷ us) (at ss (max p (results_height a) + 1) (reaches (max p (results_height a) + 1) (through_results d r)))
  results_count (SpellsResults.tuple_results {p = k} {rest = rest} {ts = ts} d) p ss h r y us f =
      results_open d p ss h r (y ∷ us) ∙ tuples_count d p 0 ss 0 r (y ∷ us) ∙ results_end y us ss p _ _ f.no_bar ∙ high_twice (y ∷ us) ss _ (ap (λ z. max p z + 1) (tuples_high k rest))
  results_count (SpellsResults.type_results {x = x} {ts = ts} d g) p ss h r y us f =
      results_as ts y us p ss h r (type_first d) g ∙ type_counts d (end_of_function p ∷ ss) h r y us f
      ∙ high_twice (y ∷ us) ss _ (alone p (type_height x) ∙ ap (λ z. max p (max z 0) + 1) (sym (tuple_height-roll (x ∷ []) None)) ∙ ap (λ z. max p z + 1) (sym (results_height-roll _ (tuple (x ∷ []) None ∷ []))))

  -- the first parenthesis of results
  results_open : {k : Pos} {xs : List TypeTuple} {ts : Words} (d : SpellsTuples k xs ts) (p : ℕ) (ss : List Sign) (h : ℕ) (r : Reached) (us : Words) → count (ts ++ us) (at (sign_of.Results p ∷ ss) h r) ≡ count (ts ++ us) (at (behind_bar p 0 ∷ ss) 0 r)
  results_open (SpellsTuples.last_tuple {ts = ts} k q d) p ss h r us = refl
  results_open (SpellsTuples.more_tuples {ts = ts} {us = vs} k q o d f) p ss h r us = refl

-- ---- a body's results, and interfaces

body_tuples : {k : Pos} {xs : List TypeTuple} {ts : Words} (d : SpellsTuples k xs ts) (m : ℕ) (ss : List Sign) (r : Reached) (us : Words)
    → (n : ℕ) × (count (ts ++ us) (at (pass ∷ items of_body m ∷ ss) 0 r) ≡ count us (at (behind_items of_body n ∷ ss) 0 (through_tuples d r)))
body_tuples (SpellsTuples.last_tuple {xs = xs} {tail = tail} {ts = ts} k q d) m ss r us =
    (max m (tuple_highest xs tail), over _ _ _ (append_assoc ts (symbol s.CloseParen q ∷ []) us) ∙ tuple_counts d of_body m ss 0 _ q us)
body_tuples (SpellsTuples.more_tuples {xs = xs} {tail = tail} {rest = rest} {ts = ts} {us = vs} {r = j} k q o d f) m ss r us =
    let g = body_tuples f (max m (tuple_highest xs tail)) ss _ us in
    (g.0, over _ _ _ (append_assoc ts (symbol s.CloseParen q ∷ symbol s.Pipe o ∷ vs) us) ∙ tuple_counts d of_body m ss 0 _ q (symbol s.Pipe o ∷ vs ++ us) ∙ g.1)

body_open : {k : Pos} {xs : List TypeTuple} {ts : Words} (d : SpellsTuples k xs ts) (ss : List Sign) (h : ℕ) (r : Reached) (us : Words) → count (ts ++ us) (at (body_results ∷ ss) h r) ≡ count (ts ++ us) (at (pass ∷ items of_body 0 ∷ ss) 0 r)
body_open (SpellsTuples.last_tuple k q d) ss h r us = refl
body_open (SpellsTuples.more_tuples k q o d f) ss h r us = refl

body_end : (y : Word) (us : Words) (ss : List Sign) (m : ℕ) (r : Reached) → is_sign s.Pipe y.kind ≡ false → count (y ∷ us) (at (behind_items of_body m ∷ ss) 0 r) ≡ count (y ∷ us) (at ss 0 r)
body_end y us ss m r g = met y us (if_false (is_sign s.Pipe y.kind) _ _ g)

pub body_results_count : {e : Ending} {a : TypeResults} {ts : Words} (d : SpellsResults e a ts) (ss : List Sign) (h : ℕ) (r : Reached) (y : Word) (us : Words) → TypeEnd y.kind
    → (n : ℕ) × (count (ts ++ y ∷ us) (at (body_results ∷ ss) h r) ≡ count (y ∷ us) (at ss n (through_results d r)))
body_results_count (SpellsResults.tuple_results {p = k} {rest = rest} {ts = ts} d) ss h r y us f = let g = body_tuples d 0 ss r (y ∷ us) in (0, body_open d ss h r (y ∷ us) ∙ g.1 ∙ body_end y us ss g.0 _ f.no_bar)
body_results_count (SpellsResults.type_results {x = x} {ts = ts} d g) ss h r y us f = (type_height x, body_results_as ts y us ss h r (type_first d) g ∙ type_counts d ss h r y us f)

-- what follows a field of an interface
behind_one : {fs : List TypeField} {us vs : Words} → SpellsSeparator us → SpellsInterface fs vs → (z : Pos) (ws : Words) → (y : Word) × (more : Words) × (us ++ (vs ++ keyword w.End z ∷ ws) ≡ y ∷ more) × TypeEnd y.kind
behind_one (SpellsSeparator.comma p) d z ws = (_, _, refl, comma_ends)
behind_one (SpellsSeparator.semicolon p) d z ws = (_, _, refl, record { no_bar = refl; no_mark = refl; no_dot = refl; no_arrow = refl })
behind_one SpellsSeparator.no_separator SpellsInterface.no_fields z ws = (_, _, refl, record { no_bar = refl; no_mark = refl; no_dot = refl; no_arrow = refl })
behind_one SpellsSeparator.no_separator (SpellsInterface.next_field (SpellsField.plain_field n q d) j e) z ws = (_, _, refl, record { no_bar = refl; no_mark = refl; no_dot = refl; no_arrow = refl })
behind_one SpellsSeparator.no_separator (SpellsInterface.next_field (SpellsField.const_field o n q d) j e) z ws = (_, _, refl, record { no_bar = refl; no_mark = refl; no_dot = refl; no_arrow = refl })

interface_field : {f : TypeField} {ts : Words} (d : SpellsField f ts) (ss : List Sign) (h : ℕ) (r : Reached) (y : Word) (us : Words) → TypeEnd y.kind
    → count (ts ++ y ∷ us) (at (interface_fields ∷ ss) h r) ≡ count (y ∷ us) (at (interface_fields ∷ ss) (field_height f) (through_field d r))
interface_field (SpellsField.plain_field {x = x} {ts = ts} n q d) ss h r y us f = type_counts d (interface_fields ∷ ss) _ _ y us f ∙ high (y ∷ us) (interface_fields ∷ ss) _ (sym (field_height-roll n.pos false n x))
interface_field (SpellsField.const_field {x = x} {ts = ts} p n q d) ss h r y us f = type_counts d (interface_fields ∷ ss) _ _ y us f ∙ high (y ∷ us) (interface_fields ∷ ss) _ (sym (field_height-roll p true n x))

separated : {us : Words} → SpellsSeparator us → (ss : List Sign) (h : ℕ) (r : Reached) (vs : Words) → count (us ++ vs) (at (interface_fields ∷ ss) h r) ≡ count vs (at (interface_fields ∷ ss) h (words us r))
separated SpellsSeparator.no_separator ss h r vs = refl
separated (SpellsSeparator.comma p) ss h r vs = refl
separated (SpellsSeparator.semicolon p) ss h r vs = refl

pub interface_count : {fs : List TypeField} {ts : Words} (d : SpellsInterface fs ts) (ss : List Sign) (h : ℕ) (r : Reached) (z : Pos) (us : Words)
    → count (ts ++ keyword w.End z ∷ us) (at (interface_fields ∷ ss) h r) ≡ count us (at ss 0 (word (keyword w.End z) (through_interface d r)))
interface_count SpellsInterface.no_fields ss h r z us = refl
interface_count (SpellsInterface.next_field {f = f} {fs = fs} {ts = ts} {us = vs} {vs = ws} d j e) ss h r z us =
    let b = behind_one j e z us in
    over _ _ _ (append_assoc ts (vs ++ ws) (keyword w.End z ∷ us) ∙ ap (λ x. ts ++ x) (append_assoc vs ws (keyword w.End z ∷ us) ∙ b.2)) ∙ interface_field d ss h r b.0 b.1 b.3
    ∙ over _ _ _ (sym b.2) ∙ separated j ss _ _ (ws ++ keyword w.End z ∷ us) ∙ interface_count e ss _ _ z us

-- Each step in a type keeps what the part stands for.
use Rattle.std.proofs.Common.{◌≡◌, ℕ, Bool, true, false, List, [], ◌∷◌, ◌++◌, Option, Some, None, refl, sym, subst, ap, append_assoc, append-nil, ◌∙◌}
use Rattle.std.specs.Prelude.{codes, ◌&&◌}
use Rattle.std.proofs.lemmas.Slice.Eq.{bytes_eq-Decides}
use Rattle.tl_base.specs.declared.place.Pos.{Pos}
use Rattle.tl_base.specs.declared.place.ModuleKind.{ModuleKind}
use Rattle.tl_base.specs.declared.place.ModuleKind.TheVariants as module_kind
use Rattle.lua_tree.specs.declared.annotation.Name.{Name}
use Rattle.lua_tree.specs.declared.annotation.TypeExpr.{TypeExpr}
use Rattle.lua_tree.specs.declared.annotation.TypeExpr.TheVariants as t
use Rattle.lua_tree.specs.declared.annotation.TypeField.{TypeField}
use Rattle.lua_tree.specs.declared.annotation.TypeResults.{TypeResults}
use Rattle.lua_tree.specs.declared.annotation.TypeTuple.{TypeTuple}
use Rattle.lua_lexer.specs.declared.token.Keyword.TheVariants as w
use Rattle.lua_lexer.specs.declared.token.Symbol.TheVariants as s
use Rattle.lua_parser.specs.Words.{Word, Words, WordKind, key, sign, keyword, symbol, named, name_at}
use Rattle.lua_parser.specs.Grammar.Types.{InItself, InTuple, InType, opens, begins_open, tuple, field, results, SpellsDotted, SpellsType, SpellsMembers, SpellsMember, SpellsSimple, SpellsFields, SpellsField, SpellsTuple, SpellsItems, SpellsTuples, SpellsResults, SpellsSeparator, SpellsInterface}
use Rattle.lua_parser.specs.Grammar.Syntax.{SpellsAnnotation, SpellsOutcome}
use Rattle.lua_parser.specs.Machine.Plan.{After, ended, joined, Item, done, read}
use Rattle.lua_parser.specs.Machine.Steps.{start_plain, start_member, start_type, union_of, member_step, name_step, mark_step, paren_step, field_step, types_step, is_text, is_mark, is_sign, is_typed}
use Rattle.lua_parser.proofs.Viability.Means.{Means, AsMember, AsResults, AsTuples, EndedInterface, ended_interface}
use Rattle.lua_parser.proofs.Viability.Plans.{Begins, word_is, begins_as, Meets, begins_none, begins_some, meets_stuck, meets_ends, meets_takes, begins_if, begins_name, begins_number, begins_text, begins_going, begins_with, opens_is, meets_if, meets_if_not, meets_name, meets_number, meets_begun, meets_both, meets_either}

-- the word of a kind at a place
abbrev pub at : Pos → WordKind → Word
at p k = record { kind = k; pos = p }

-- there is a first word, and it is no `(`
abbrev Headed : Words → Type 0
Headed ts = (x : Word) × (us : Words) × (ts ≡ x ∷ us) × (opens x.kind ≡ false)

pub text_is : (x : Name) (y : List ℕ) → is_text x.text y ≡ true → named x ≡ named (name_at x.pos y)
text_is x y h = ap (λ z. named (name_at x.pos z)) ((bytes_eq-Decides x.text y).0 h)

abbrev Plain : TypeExpr → Words → Type 0
Plain x ts = SpellsMember InItself x ts × Headed ts

abbrev Member : TypeExpr × After → Words → Type 0
Member m ts = AsMember m.1 m.0 ts

headed_more : (ts us : Words) → Headed ts → begins_open (ts ++ us) ≡ false
headed_more ts us h = rw h.2 h.3

members_not_empty : {xs : List TypeExpr} {ts : Words} → SpellsMembers xs ts → xs ≡ [] → ⊥
members_not_empty (SpellsMembers.last_member m) e = cc
members_not_empty (SpellsMembers.more_members q m n j) e = cc

one_of_members : {x : TypeExpr} {xs : List TypeExpr} {ts : Words} → SpellsMembers xs ts → xs ≡ x ∷ [] → SpellsType x ts
one_of_members {x = x} {ts = ts} (SpellsMembers.last_member {x = y} m) e = let d : y ≡ x = cc in subst (λ z. SpellsType z ts) d (SpellsType.one_member m)
one_of_members (SpellsMembers.more_members {xs = ys} q m n j) e = let d : ys ≡ [] = cc in absurd (members_not_empty n d)

pub union_spelled : (x : TypeExpr) (xs : List TypeExpr) {ts : Words} → SpellsMembers (x ∷ xs) ts → SpellsType (union_of x xs) ts
union_spelled x [] m = one_of_members m refl
union_spelled x (y ∷ ys) m = SpellsType.union_type m

items_not_empty : {xs : List TypeExpr} {rest : Option TypeExpr} {ts : Words} → SpellsItems xs rest ts → xs ≡ [] → rest ≡ None → ⊥
items_not_empty (SpellsItems.last_item m) e d = cc
items_not_empty (SpellsItems.tail_item q m) e d = cc
items_not_empty (SpellsItems.more_items q m n) e d = cc

one_of_items : {x : TypeExpr} {xs : List TypeExpr} {rest : Option TypeExpr} {ts : Words} → SpellsItems xs rest ts → xs ≡ x ∷ [] → rest ≡ None → SpellsType x ts
one_of_items {x = x} {ts = ts} (SpellsItems.last_item {x = y} m) e d = let f : y ≡ x = cc in subst (λ z. SpellsType z ts) f m
one_of_items (SpellsItems.tail_item q m) e d = cc
one_of_items (SpellsItems.more_items {xs = ys} q m n) e d = let f : ys ≡ [] = cc in absurd (items_not_empty n f d)

one_of_tuple : {x : TypeExpr} {xs : List TypeExpr} {rest : Option TypeExpr} {ts : Words} → SpellsTuple xs rest ts → xs ≡ x ∷ [] → rest ≡ None → SpellsType x ts
one_of_tuple SpellsTuple.no_items e d = cc
one_of_tuple (SpellsTuple.items n) e d = one_of_items n e d

module _ (kind : ModuleKind) where
  pub plain_begins : (p : Pos) (k : WordKind) → Begins kind Plain (at p k) (start_plain p k)
  plain_begins p k =
      begins_if kind Plain (key w.Nil) p k _ _ (λ y ts m. rw append-nil (m (keyword w.Nil p ∷ []) (SpellsSimple.nil_type p), (_, _, refl, refl)))
      (begins_if kind Plain (key w.True) p k _ _ (λ y ts m. rw append-nil (m (keyword w.True p ∷ []) (SpellsSimple.true_type p), (_, _, refl, refl)))
      (begins_if kind Plain (key w.False) p k _ _ (λ y ts m. rw append-nil (m (keyword w.False p ∷ []) (SpellsSimple.false_type p), (_, _, refl, refl)))
      (begins_if kind Plain (sign s.Minus) p k _ _ (λ x us n y ts m. rw append-nil (m (symbol s.Minus p ∷ us) n, (_, _, refl, refl)))
      (begins_if kind Plain (sign s.OpenBrace) p k _ _ (λ x us n y ts m. rw append-nil (m (symbol s.OpenBrace p ∷ us) n, (_, _, refl, refl)))
      (begins_number kind Plain p k _ _ (λ n. begins_some kind Plain _ _ (λ y ts m. rw append-nil (m _ (SpellsSimple.integer_type p n), (_, _, refl, refl))))
      (begins_text kind Plain p k _ _ (λ n. begins_some kind Plain _ _ (λ y ts m. rw append-nil (m _ (SpellsSimple.text_type p n), (_, _, refl, refl))))
      (begins_name kind Plain p k _ _ (λ n. begins_some kind Plain _ _ (λ d us l y ts m. rw append-nil (m (named (name_at p n) ∷ us) (SpellsSimple.dotted_type (l p)), (_, _, refl, refl)))) (begins_none kind Plain _))))))))

  pub member_begins : (p : Pos) (k : WordKind) → Begins kind Member (at p k) (start_member p k)
  member_begins p k =
      begins_if kind Member (sign s.OpenParen) p k _ _ (λ a us n q m ts l. rw append-nil (l us q n))
      (begins_going kind Member Plain (at p k) _ _ (plain_begins p k) (λ v ts n. rw append-nil n.0))

  pub type_begins : (p : Pos) (k : WordKind) → Begins kind SpellsType (at p k) (start_type p k)
  type_begins p k =
      begins_going kind SpellsType Member (at p k) _ _ (member_begins p k) (λ v ts n xs us l. rw append-nil (union_spelled v.0 xs (l v.0 ts n)))

  pub meets_union : (a : After) (p : Pos) (k : WordKind) → Meets kind (Means kind (Item.more_of_union a)) (at p k) (member_step a p k)
  meets_union joined p k =
      meets_begun kind (Means kind (Item.more_of_union joined)) _ _ (begins_going kind (Means kind (Item.more_of_union joined)) Plain (at p k) _ _ (plain_begins p k) (λ v ts n xs us l x vs o.
      rw (o.2, append-nil) (subst (SpellsMembers (x ∷ v ∷ xs)) (sym (append_assoc o.0 (symbol s.Pipe o.1 ∷ []) (ts ++ us))) (SpellsMembers.more_members o.1 o.3 (l v ts n.0) (headed_more ts us n.1)))))
  meets_union (ended InItself) p k =
      meets_if kind (Means kind (Item.more_of_union (ended InItself))) (sign s.Pipe) p k _ _ (λ m us n xs ts l x vs o. rw append-nil (SpellsMembers.more_members p o (l m.0 us n) tt))
      (meets_ends kind (Means kind (Item.more_of_union (ended InItself))) _ _ (λ x us o. rw append-nil (SpellsMembers.last_member o)))
  meets_union (ended InTuple) p k = meets_either kind (Means kind (Item.more_of_union (ended InTuple))) _ _ _ _ (λ h. meets_stuck kind _ _) (λ h. meets_ends kind (Means kind (Item.more_of_union (ended InTuple))) _ _ (λ x us o. rw append-nil (SpellsMembers.last_member o)))
  meets_union (ended InType) p k = meets_either kind (Means kind (Item.more_of_union (ended InType))) _ _ _ _ (λ h. meets_stuck kind _ _) (λ h. meets_ends kind (Means kind (Item.more_of_union (ended InType))) _ _ (λ x us o. rw append-nil (SpellsMembers.last_member o)))

  pub meets_dotted : (x : List ℕ) (p : Pos) (k : WordKind) → Meets kind (Means kind (Item.more_of_name x)) (at p k) (name_step x k)
  meets_dotted x p k =
      meets_if kind (Means kind (Item.more_of_name x)) (sign s.Dot) p k _ _ (λ y d ts l o. rw append-nil (SpellsDotted.part (name_at o x) p (l y.pos)))
      (meets_ends kind (Means kind (Item.more_of_name x)) _ _ (λ o. SpellsDotted.last (name_at o x)))

  pub meets_mark : (x : TypeExpr) (p : Pos) (k : WordKind) → Meets kind (Means kind (Item.maybe_mark x)) (at p k) (mark_step x k)
  meets_mark x p k =
      meets_if kind (Means kind (Item.maybe_mark x)) (sign s.Question) p k _ _ (λ us m. SpellsMember.optional_type p m)
      (meets_ends kind (Means kind (Item.maybe_mark x)) _ _ (λ us m. rw append-nil (SpellsMember.simple_type m)))

  paren_mark : (p q : Pos) (x : TypeExpr) (us ts : Words) (y : TypeExpr) → SpellsTuple (x ∷ []) None us → Means kind (Item.maybe_mark (t.Paren p x)) y ts → SpellsMember InItself y (symbol s.OpenParen p ∷ us ++ symbol s.CloseParen q ∷ ts)
  paren_mark p q x us ts y n m = subst (SpellsMember InItself y) (append_assoc (symbol s.OpenParen p ∷ us) (symbol s.CloseParen q ∷ []) ts) (m (symbol s.OpenParen p ∷ us ++ symbol s.CloseParen q ∷ []) (SpellsSimple.paren_type p q (one_of_tuple n refl refl)))

  meets_paren : (o : Pos) (xs : List TypeExpr) (rest : Option TypeExpr) (p : Pos) (k : WordKind) → Meets kind (Means kind (Item.behind_tuple o xs rest)) (at p k) (paren_step o xs rest k)
  meets_paren o (x ∷ []) None p k =
      meets_both kind (Means kind (Item.behind_tuple o (x ∷ []) None)) (Means kind (Item.maybe_mark (t.Paren o x))) (at p k) _ _ _ (meets_mark (t.Paren o x) p k)
      (λ y l. meets_ends kind (Means kind (Item.behind_tuple o (x ∷ []) None)) _ _ (λ us q n. paren_mark o q x us [] y n l))
      (λ y ts l us q n. rw append-nil (paren_mark o q x us ts y n l))
  meets_paren o [] rest p k = meets_stuck kind _ _
  meets_paren o (x ∷ []) (Some y) p k = meets_stuck kind _ _
  meets_paren o (x ∷ y ∷ xs) rest p k = meets_stuck kind _ _

  pub meets_behind_tuple : (o : Pos) (xs : List TypeExpr) (rest : Option TypeExpr) (p : Pos) (k : WordKind) → Meets kind (Means kind (Item.behind_tuple o xs rest)) (at p k) (types_step kind (Item.behind_tuple o xs rest) p k)
  meets_behind_tuple o xs rest p k =
      meets_if kind (Means kind (Item.behind_tuple o xs rest)) (sign s.Arrow) p k _ _ (λ r ts l us q n. rw append-nil (function_spelled r.1 o q p xs rest r.0 us ts n l))
      (meets_paren o xs rest p k)
    where
      function_spelled : (a : After) (o q p : Pos) (xs : List TypeExpr) (rest : Option TypeExpr) (r : TypeResults) (us ts : Words) → SpellsTuple xs rest us → AsResults a r ts
          → AsMember a (t.Function o (tuple xs rest) r) (symbol s.OpenParen o ∷ us ++ symbol s.CloseParen q ∷ symbol s.Arrow p ∷ ts)
      function_spelled (ended e) o q p xs rest r us ts n l = SpellsMember.function_type o q p n l
      function_spelled joined o q p xs rest r us ts n l =
          (symbol s.OpenParen o ∷ us ++ symbol s.CloseParen q ∷ symbol s.Arrow p ∷ l.0, l.1, rw l.2 (sym (append_assoc (symbol s.OpenParen o ∷ us) (symbol s.CloseParen q ∷ symbol s.Arrow p ∷ l.0) (symbol s.Pipe l.1 ∷ []))), SpellsMember.function_type o q p n l.3)

  pub meets_tuple : (p : Pos) (k : WordKind) → Meets kind (Means kind Item.a_tuple) (at p k) (types_step kind Item.a_tuple p k)
  meets_tuple p k =
      meets_either kind (Means kind Item.a_tuple) _ _ _ _ (λ h. meets_ends kind (Means kind Item.a_tuple) _ _ SpellsTuple.no_items)
      (λ h. meets_begun kind (Means kind Item.a_tuple) _ _ (begins_going kind (Means kind Item.a_tuple) SpellsType (at p k) _ (λ x. read (Item.more_of_tuple x) done) (type_begins p k) (λ x ts n r us l. rw append-nil (SpellsTuple.items (l ts n)))))

  pub meets_items : (x : TypeExpr) (p : Pos) (k : WordKind) → Meets kind (Means kind (Item.more_of_tuple x)) (at p k) (types_step kind (Item.more_of_tuple x) p k)
  meets_items x p k =
      meets_if kind (Means kind (Item.more_of_tuple x)) (sign s.Star) p k _ _ (λ us n. SpellsItems.tail_item p n)
      (meets_if kind (Means kind (Item.more_of_tuple x)) (sign s.Comma) p k _ _ (λ y us n r ts l vs m. rw append-nil (SpellsItems.more_items p m (l us n)))
      (meets_ends kind (Means kind (Item.more_of_tuple x)) _ _ (λ us n. rw append-nil (SpellsItems.last_item n))))

  closed_type : (p : Pos) (k : WordKind) → is_mark (sign s.OpenParen) k ≡ false → Begins kind (λ x ts. SpellsType x ts × (begins_open ts ≡ false)) (at p k) (start_type p k)
  closed_type p k h = begins_as kind _ _ (at p k) (start_type p k) (λ v ts g. (g.0, rw g.1.1 (opens_is k ∙ h))) (begins_with kind SpellsType (at p k) (start_type p k) (type_begins p k))

  results_joined : (a : After) (p : Pos) (xs : List TypeTuple) (ts : Words) → AsTuples a p xs ts → AsResults a (results p xs) ts
  results_joined (ended e) p xs ts n = subst (λ r. SpellsResults r (results p xs) ts) (sym n.0) (SpellsResults.tuple_results n.1)
  results_joined joined p xs ts n = (n.0, n.1, n.2, SpellsResults.tuple_results n.3)

  pub meets_results : (p : Pos) (k : WordKind) → Meets kind (Means kind Item.some_results) (at p k) (types_step kind Item.some_results p k)
  meets_results p k =
      meets_if_not kind (Means kind Item.some_results) (sign s.OpenParen) p k _ _ (λ a us n q r ts l. rw append-nil (results_joined r.1 p _ _ (l p q a.0 a.1 us n)))
      (λ h. meets_begun kind (Means kind Item.some_results) _ _ (begins_going kind (Means kind Item.some_results) _ (at p k) _ _ (closed_type p k h) (λ x ts n. rw append-nil (SpellsResults.type_results n.0 n.1))))

  pub meets_more_results : (p : Pos) (k : WordKind) → Meets kind (Means kind Item.more_results) (at p k) (types_step kind Item.more_results p k)
  meets_more_results p k =
      meets_if kind (Means kind Item.more_results) (sign s.Pipe) p k _ _ (λ r ts l o q xs rest us n. rw append-nil (l o q p xs rest us n))
      (meets_ends kind (Means kind Item.more_results) _ _ (λ o q xs rest us n. (refl, SpellsTuples.last_tuple o q n)))

  tuples_joined : (a : After) (p q o i : Pos) (xs : List TypeExpr) (rest : Option TypeExpr) (more : List TypeTuple) (us ts : Words) → SpellsTuple xs rest us → AsTuples a i more ts
      → AsTuples a p (tuple xs rest ∷ more) (symbol s.OpenParen p ∷ us ++ symbol s.CloseParen q ∷ symbol s.Pipe o ∷ ts)
  tuples_joined (ended e) p q o i xs rest more us ts n l = (l.0, SpellsTuples.more_tuples p q o n l.1)
  tuples_joined joined p q o i xs rest more us ts n l =
      (symbol s.OpenParen p ∷ us ++ symbol s.CloseParen q ∷ symbol s.Pipe o ∷ l.0, l.1, rw l.2 (sym (append_assoc (symbol s.OpenParen p ∷ us) (symbol s.CloseParen q ∷ symbol s.Pipe o ∷ l.0) (symbol s.Pipe l.1 ∷ []))), SpellsTuples.more_tuples p q o n l.3)

  pub meets_behind_bar : (p : Pos) (k : WordKind) → Meets kind (Means kind Item.behind_bar) (at p k) (types_step kind Item.behind_bar p k)
  meets_behind_bar p k =
      meets_if kind (Means kind Item.behind_bar) (sign s.OpenParen) p k _ _ (λ a us n q r ts l o i j xs rest vs m. rw append-nil (tuples_joined r.1 o i j p xs rest _ vs _ m (l p q a.0 a.1 us n)))
      (meets_ends kind (Means kind Item.behind_bar) _ _ (λ o i j xs rest vs m. (symbol s.OpenParen o ∷ vs ++ symbol s.CloseParen i ∷ [], j, sym (append_assoc (symbol s.OpenParen o ∷ vs) (symbol s.CloseParen i ∷ []) (symbol s.Pipe j ∷ [])), SpellsTuples.last_tuple o i m)))

  pub meets_body_results : (p : Pos) (k : WordKind) → Meets kind (Means kind Item.body_results) (at p k) (types_step kind Item.body_results p k)
  meets_body_results p k =
      meets_if_not kind (Means kind Item.body_results) (sign s.OpenParen) p k _ _ (λ a us n q r ts l. rw append-nil (InTuple, SpellsResults.tuple_results (l p q a.0 a.1 us n)))
      (λ h. meets_begun kind (Means kind Item.body_results) _ _ (begins_going kind (Means kind Item.body_results) _ (at p k) _ _ (closed_type p k h) (λ x ts n. rw append-nil (InType, SpellsResults.type_results n.0 n.1))))

  pub meets_more_body_results : (p : Pos) (k : WordKind) → Meets kind (Means kind Item.more_body_results) (at p k) (types_step kind Item.more_body_results p k)
  meets_more_body_results p k =
      meets_if kind (Means kind Item.more_body_results) (sign s.Pipe) p k _ _ (λ q a us n o r ts l i j xs rest vs m. rw append-nil (SpellsTuples.more_tuples i j p m (l q o a.0 a.1 us n)))
      (meets_ends kind (Means kind Item.more_body_results) _ _ (λ i j xs rest vs m. SpellsTuples.last_tuple i j m))

  pub meets_separator : (p : Pos) (k : WordKind) → Meets kind (Means kind Item.maybe_separator) (at p k) (types_step kind Item.maybe_separator p k)
  meets_separator p k =
      meets_if kind (Means kind Item.maybe_separator) (sign s.Comma) p k _ _ (SpellsSeparator.comma p)
      (meets_if kind (Means kind Item.maybe_separator) (sign s.Semicolon) p k _ _ (SpellsSeparator.semicolon p) (meets_ends kind (Means kind Item.maybe_separator) _ _ SpellsSeparator.no_separator))

  pub meets_field : (x : Name) (p : Pos) (k : WordKind) → Meets kind (Means kind (Item.rest_of_field x)) (at p k) (field_step x p k)
  meets_field x p k =
      meets_if kind (Means kind (Item.rest_of_field x)) (sign s.Colon) p k _ _ (λ a ts n. rw append-nil (SpellsField.plain_field x p n))
      (meets_name kind (Means kind (Item.rest_of_field x)) p k _ _ (λ y. meets_either kind (Means kind (Item.rest_of_field x)) _ _ _ _
      (λ h. meets_takes kind (Means kind (Item.rest_of_field x)) _ _ (λ q a ts n. rw (append-nil, text_is x (codes "const") h) (SpellsField.const_field x.pos (name_at p y) q n)))
      (λ h. meets_stuck kind _ _))
      (meets_stuck kind _ _))

  pub meets_fields : (p : Pos) (k : WordKind) → Meets kind (Means kind Item.more_of_fields) (at p k) (types_step kind Item.more_of_fields p k)
  meets_fields p k =
      meets_if kind (Means kind Item.more_of_fields) (sign s.Comma) p k _ _ (λ fs ts l f us n. rw append-nil (l f us p n))
      (meets_if kind (Means kind Item.more_of_fields) (sign s.CloseBrace) p k _ _ (λ f us n. SpellsFields.last_field p n) (meets_stuck kind _ _))

  pub meets_next_field : (p : Pos) (k : WordKind) → Meets kind (Means kind Item.next_field) (at p k) (types_step kind Item.next_field p k)
  meets_next_field p k =
      meets_if kind (Means kind Item.next_field) (sign s.CloseBrace) p k _ _ (λ f us q n. SpellsFields.last_field_comma q p n)
      (meets_name kind (Means kind Item.next_field) p k _ _ (λ y. meets_takes kind (Means kind Item.next_field) _ _ (λ g us n fs ts l f vs q m. rw append-nil (SpellsFields.more_fields q m (l g _ n)))) (meets_stuck kind _ _))

  interface_joined : (f : TypeField) (fs : List TypeField) (us vs ts : Words) → SpellsField f us → SpellsSeparator vs → EndedInterface fs ts → EndedInterface (f ∷ fs) (us ++ (vs ++ ts))
  interface_joined f fs us vs ts n m (ended_interface {ts = ws} z l) =
      subst (EndedInterface (f ∷ fs)) (append_assoc us (vs ++ ws) (keyword w.End z ∷ []) ∙ ap (λ x. us ++ x) (append_assoc vs ws (keyword w.End z ∷ []))) (ended_interface z (SpellsInterface.next_field n m l))

  pub meets_interface : (p : Pos) (k : WordKind) → Meets kind (Means kind Item.fields_of_interface) (at p k) (types_step kind Item.fields_of_interface p k)
  meets_interface p k =
      meets_if kind (Means kind Item.fields_of_interface) (key w.End) p k _ _ (ended_interface p SpellsInterface.no_fields)
      (meets_name kind (Means kind Item.fields_of_interface) p k _ _ (λ y. meets_takes kind (Means kind Item.fields_of_interface) _ _ (λ f us n u vs m fs ts l. rw append-nil (interface_joined f fs _ vs ts n m l))) (meets_stuck kind _ _))

  pub meets_braces : (o : Pos) (p : Pos) (k : WordKind) → Meets kind (Means kind (Item.in_braces o)) (at p k) (types_step kind (Item.in_braces o) p k)
  meets_braces o p k =
      meets_if kind (Means kind (Item.in_braces o)) (sign s.CloseBrace) p k _ _ (SpellsSimple.empty_record o p)
      (meets_if kind (Means kind (Item.in_braces o)) (sign s.OpenBracket) p k _ _ (λ x us n q i y vs m j. SpellsSimple.map_type o p q i j n m)
      (meets_name kind (Means kind (Item.in_braces o)) p k _ _ (λ x. meets_takes kind (Means kind (Item.in_braces o)) _ _ (λ y ts l. rw append-nil l))
      (meets_begun kind (Means kind (Item.in_braces o)) _ _ (begins_going kind (Means kind (Item.in_braces o)) SpellsType (at p k) _ _ (type_begins p k) (λ x ts n q. SpellsSimple.array_type o q n)))))

  -- a type that begins with a name, in braces
  array_named : (o : Pos) (x : Name) (d : List (List ℕ) × List ℕ) (a : TypeExpr) (xs : List TypeExpr) (us vs ws ts : Words) (q : Pos) → Means kind (Item.more_of_name x.text) d us
      → Means kind (Item.maybe_mark (t.Named x.pos d.0 d.1)) a vs → Means kind (Item.more_of_union (ended InItself)) xs ws → SpellsSimple (t.Array o (union_of a xs)) (symbol s.OpenBrace o ∷ named x ∷ us ++ (vs ++ (ws ++ symbol s.CloseBrace q ∷ [])))
  array_named o x d a xs us vs ws ts q n m l =
      subst (λ z. SpellsSimple (t.Array o (union_of a xs)) (symbol s.OpenBrace o ∷ named x ∷ z))
      (append_assoc (us ++ vs) ws (symbol s.CloseBrace q ∷ []) ∙ append_assoc us vs (ws ++ symbol s.CloseBrace q ∷ []))
      (SpellsSimple.array_type o q (union_spelled a xs (l a (named x ∷ us ++ vs) (m (named x ∷ us) (SpellsSimple.dotted_type (n x.pos))))))

  pub meets_named_in_braces : (o : Pos) (x : Name) (p : Pos) (k : WordKind) → Meets kind (Means kind (Item.named_in_braces o x)) (at p k) (types_step kind (Item.named_in_braces o x) p k)
  meets_named_in_braces o x p k =
      meets_if kind (Means kind (Item.named_in_braces o x)) (sign s.Colon) p k _ _ (λ a us n fs ts l. rw append-nil (SpellsSimple.record_type o (l (field x.pos false x a) _ (SpellsField.plain_field x p n))))
      (meets_name kind (Means kind (Item.named_in_braces o x)) p k _ _ (λ y. meets_either kind (Means kind (Item.named_in_braces o x)) _ _ _ _
      (λ h. meets_takes kind (Means kind (Item.named_in_braces o x)) _ _ (λ q a us n fs ts l. rw (append-nil, text_is x (codes "const") h) (SpellsSimple.record_type o (l (field x.pos true (name_at p y) a) _ (SpellsField.const_field x.pos (name_at p y) q n)))))
      (λ h. meets_stuck kind _ _))
      (meets_both kind (Means kind (Item.named_in_braces o x)) (Means kind (Item.more_of_name x.text)) (at p k) _ _ _ (meets_dotted x.text p k)
      (λ d n. meets_both kind (Means kind (Item.named_in_braces o x)) (Means kind (Item.maybe_mark (t.Named x.pos d.0 d.1))) (at p k) _ _ _ (meets_mark (t.Named x.pos d.0 d.1) p k)
      (λ a m. meets_both kind (Means kind (Item.named_in_braces o x)) (Means kind (Item.more_of_union (ended InItself))) (at p k) _ _ _ (meets_union (ended InItself) p k)
      (λ xs l. meets_if kind (Means kind (Item.named_in_braces o x)) (sign s.CloseBrace) p k _ _ (array_named o x d a xs [] [] [] [] p n m l) (meets_stuck kind _ _))
      (λ xs ts l q. array_named o x d a xs [] [] ts [] q n m l))
      (λ a ts m xs us l q. array_named o x d a xs [] ts us [] q n m l))
      (λ d us n a vs m xs ws l q. array_named o x d a xs us vs ws [] q n m l)))

  pub typed_kind : (k : ModuleKind) → is_typed k ≡ true → k ≡ module_kind.Typed
  typed_kind module_kind.Typed h = refl
  typed_kind module_kind.Untyped h = cc

  pub both_true : (a b : Bool) → (a && b) ≡ true → (a ≡ true) × (b ≡ true)
  both_true true b h = (refl, h)
  both_true false b h = cc

  pub meets_annotation : (p : Pos) (k : WordKind) → Meets kind (Means kind Item.annotation) (at p k) (types_step kind Item.annotation p k)
  meets_annotation p k =
      meets_either kind (Means kind Item.annotation) _ _ _ _
      (λ h. let b = both_true (is_typed kind) (is_sign s.Colon k) h in meets_takes kind (Means kind Item.annotation) _ _ (λ x ts n. rw (append-nil, word_is (sign s.Colon) k p b.1) (SpellsAnnotation.annotation p (typed_kind kind b.0) n)))
      (λ h. meets_ends kind (Means kind Item.annotation) _ _ SpellsAnnotation.no_annotation)

  pub meets_outcome : (p : Pos) (k : WordKind) → Meets kind (Means kind Item.outcome) (at p k) (types_step kind Item.outcome p k)
  meets_outcome p k =
      meets_either kind (Means kind Item.outcome) _ _ _ _
      (λ h. let b = both_true (is_typed kind) (is_sign s.Colon k) h in meets_takes kind (Means kind Item.outcome) _ _ (λ x ts n. rw (append-nil, word_is (sign s.Colon) k p b.1) (SpellsOutcome.outcome p (typed_kind kind b.0) n.1)))
      (λ h. meets_ends kind (Means kind Item.outcome) _ _ SpellsOutcome.no_outcome)

  pub meets_negated : (o : Pos) (p : Pos) (k : WordKind) → Meets kind (Means kind (Item.negated o)) (at p k) (types_step kind (Item.negated o) p k)
  meets_negated o p k = meets_number kind (Means kind (Item.negated o)) p k _ _ (λ n. meets_takes kind (Means kind (Item.negated o)) _ _ (SpellsSimple.negative_type o p n)) (meets_stuck kind _ _)

  pub meets_type : (j : Item) (p : Pos) (k : WordKind) → Meets kind (Means kind j) (at p k) (types_step kind j p k)
  meets_type Item.a_type p k = meets_begun kind (Means kind Item.a_type) _ _ (type_begins p k)
  meets_type Item.a_member p k = meets_begun kind (Means kind Item.a_member) _ _ (member_begins p k)
  meets_type Item.a_plain_member p k = meets_begun kind (Means kind Item.a_plain_member) _ _ (begins_as kind Plain (Means kind Item.a_plain_member) (at p k) (start_plain p k) (λ v ts g. g.0) (plain_begins p k))
  meets_type (Item.negated o) p k = meets_negated o p k
  meets_type (Item.more_of_union a) p k = meets_union a p k
  meets_type (Item.more_of_name x) p k = meets_dotted x p k
  meets_type (Item.maybe_mark x) p k = meets_mark x p k
  meets_type Item.a_tuple p k = meets_tuple p k
  meets_type (Item.more_of_tuple x) p k = meets_items x p k
  meets_type (Item.behind_tuple o xs rest) p k = meets_behind_tuple o xs rest p k
  meets_type Item.some_results p k = meets_results p k
  meets_type Item.more_results p k = meets_more_results p k
  meets_type Item.behind_bar p k = meets_behind_bar p k
  meets_type Item.body_results p k = meets_body_results p k
  meets_type Item.more_body_results p k = meets_more_body_results p k
  meets_type (Item.in_braces o) p k = meets_braces o p k
  meets_type (Item.named_in_braces o x) p k = meets_named_in_braces o x p k
  meets_type Item.more_of_fields p k = meets_fields p k
  meets_type Item.next_field p k = meets_next_field p k
  meets_type (Item.rest_of_field x) p k = meets_field x p k
  meets_type Item.fields_of_interface p k = meets_interface p k
  meets_type Item.maybe_separator p k = meets_separator p k
  meets_type Item.annotation p k = meets_annotation p k
  meets_type Item.outcome p k = meets_outcome p k
  meets_type j p k = meets_stuck kind _ _

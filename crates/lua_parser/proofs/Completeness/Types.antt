-- The machine reads each spelling of a type.
use Rattle.std.proofs.Common.{◌≡◌, ℕ, Bool, true, false, List, [], ◌∷◌, ◌++◌, Option, None, refl, sym, subst, ap, append_assoc, ◌∙◌}
use Rattle.std.specs.Prelude.{codes}
use Rattle.tl_base.specs.declared.place.Pos.{Pos}
use Rattle.tl_base.specs.declared.place.ModuleKind.{ModuleKind}
use Rattle.lua_tree.specs.declared.annotation.Name.{Name}
use Rattle.lua_tree.specs.declared.annotation.TypeExpr.{TypeExpr}
use Rattle.lua_tree.specs.declared.annotation.TypeExpr.TheVariants as t
use Rattle.lua_tree.specs.declared.annotation.TypeField.{TypeField}
use Rattle.lua_tree.specs.declared.annotation.TypeTuple.{TypeTuple}
use Rattle.lua_tree.specs.declared.annotation.TypeResults.{TypeResults}
use Rattle.lua_lexer.specs.declared.token.Keyword.TheVariants as w
use Rattle.lua_lexer.specs.declared.token.Symbol.TheVariants as s
use Rattle.lua_parser.specs.Words.{Word, Words, WordKind, mark, sign, keyword, symbol, named, name_at}
use Rattle.lua_parser.specs.Grammar.Types.{Ending, InItself, InTuple, InType, MayPrecede, begins_open, tuple, field, results, SpellsDotted, SpellsType, SpellsMembers, SpellsMember, SpellsSimple, SpellsFields, SpellsField, SpellsTuple, SpellsItems, SpellsTuples, SpellsResults, SpellsSeparator, SpellsInterface}
use Rattle.lua_parser.specs.Machine.Plan.{After, ended, joined, Item, Plan, done, want, want_name, read, ends}
use Rattle.lua_parser.specs.Machine.Steps.{is_sign, start_plain, start_member, start_type, union_of, member_step, name_step, mark_step, tuple_then, single_result, begun, going, both, if_name, types_step}
use Rattle.lua_parser.specs.Machine.Run.{run}
use Rattle.lua_parser.proofs.Viability.Plans.{opens_is, word_is}
use Rattle.lua_parser.proofs.Completeness.Plans.{if_false, begins_as, want_on, on, read_on, on_going, on_both}
use Rattle.lua_parser.proofs.Completeness.Firsts.{TypeStarter, nil_starts, true_starts, false_starts, minus_starts, brace_starts, paren_starts, number_starts, text_starts, name_starts, second_append, starter_not_close, after_name, second_ok, First, type_first, items_first, members_first}

-- no type goes on with a word of this kind
pub record TypeEnd (k : WordKind) : Type 0 where
  pub no_bar : is_sign s.Pipe k ≡ false
  pub no_mark : is_sign s.Question k ≡ false
  pub no_dot : is_sign s.Dot k ≡ false
  pub no_arrow : is_sign s.Arrow k ≡ false

after_no_colon : (k : WordKind) (p : Pos) → after_name k ≡ true → is_sign s.Colon k ≡ false
after_no_colon k p h = go (is_sign s.Colon k) refl
  where
    go : (c : Bool) → is_sign s.Colon k ≡ c → is_sign s.Colon k ≡ false
    go true e = let d : true ≡ false = sym h ∙ ap (λ (x : Word). after_name x.kind) (word_is (sign s.Colon) k p e) in cc
    go false e = e

after_no_name : {B : Type 0} (k : WordKind) (f : List ℕ → B) (a : B) → after_name k ≡ true → if_name k f a ≡ a
after_no_name (WordKind.name n) f a h = cc
after_no_name (mark n) f a h = refl
after_no_name (WordKind.number n) f a h = refl
after_no_name (WordKind.text n) f a h = refl

module _ (kind : ModuleKind) where
  module _ {A : Type 0} where
    pub type_unfold : (k : TypeExpr → Plan A) (us : Words) → run kind (read Item.a_type k) us ≡ run kind (read Item.a_member λ m. read (Item.more_of_union m.1) λ xs. k (union_of m.0 xs)) us
    type_unfold k [] = refl
    type_unfold k (x ∷ us) = begins_as kind Item.a_type Item.a_member x us (start_member x.pos x.kind) (λ m. read (Item.more_of_union m.1) λ xs. done (union_of m.0 xs)) k refl refl

    pub tuple_unfold : (k : List TypeExpr × Option TypeExpr → Plan A) (x : Word) (us : Words) → is_sign s.CloseParen x.kind ≡ false → run kind (read Item.a_tuple k) (x ∷ us) ≡ run kind (read Item.a_type λ y. read (Item.more_of_tuple y) k) (x ∷ us)
    tuple_unfold k x us h = begins_as kind Item.a_tuple Item.a_type x us (start_type x.pos x.kind) (λ y. read (Item.more_of_tuple y) done) k refl (if_false _ _ _ h)

    pub results_unfold : (k : TypeResults × After → Plan A) (x : Word) (us : Words) → is_sign s.OpenParen x.kind ≡ false → run kind (read Item.some_results k) (x ∷ us) ≡ run kind (read Item.a_type λ y. k (single_result y, ended InType)) (x ∷ us)
    results_unfold k x us h = begins_as kind Item.some_results Item.a_type x us (start_type x.pos x.kind) (λ y. done (single_result y, ended InType)) k refl (if_false _ _ _ h)

    pub body_results_unfold : (k : TypeResults → Plan A) (x : Word) (us : Words) → is_sign s.OpenParen x.kind ≡ false → run kind (read Item.body_results k) (x ∷ us) ≡ run kind (read Item.a_type λ y. k (single_result y)) (x ∷ us)
    body_results_unfold k x us h = begins_as kind Item.body_results Item.a_type x us (start_type x.pos x.kind) (λ y. done (single_result y)) k refl (if_false _ _ _ h)

    pub joined_unfold : (k : List TypeExpr → Plan A) (x : Word) (us : Words) → is_sign s.OpenParen x.kind ≡ false
        → run kind (read (Item.more_of_union joined) k) (x ∷ us) ≡ run kind (read Item.a_member λ m. read (Item.more_of_union m.1) λ xs. k (m.0 ∷ xs)) (x ∷ us)
    joined_unfold k x us h =
        read_on kind (Item.more_of_union joined) k x us ∙ on_going kind x us (start_plain x.pos x.kind) (λ y. read (Item.more_of_union (ended InItself)) λ xs. done (y ∷ xs)) k
        ∙ sym (read_on kind Item.a_member (λ m. read (Item.more_of_union m.1) λ xs. k (m.0 ∷ xs)) x us ∙ ap (λ o. on kind x us (begun o) (λ m. read (Item.more_of_union m.1) λ xs. k (m.0 ∷ xs))) (if_false _ _ (going (start_plain x.pos x.kind) (λ y. done (y, ended InItself))) h)
        ∙ on_going kind x us (start_plain x.pos x.kind) (λ y. done (y, ended InItself)) (λ m. read (Item.more_of_union m.1) λ xs. k (m.0 ∷ xs)))

    pub mark_ends : (x : TypeExpr) (k : TypeExpr → Plan A) (y : Word) (us : Words) → is_sign s.Question y.kind ≡ false → run kind (read (Item.maybe_mark x) k) (y ∷ us) ≡ run kind (k x) (y ∷ us)
    mark_ends x k y us h = read_on kind (Item.maybe_mark x) k y us ∙ rw h refl

    pub name_ends : (x : List ℕ) (k : List (List ℕ) × List ℕ → Plan A) (y : Word) (us : Words) → is_sign s.Dot y.kind ≡ false → run kind (read (Item.more_of_name x) k) (y ∷ us) ≡ run kind (k ([], x)) (y ∷ us)
    name_ends x k y us h = read_on kind (Item.more_of_name x) k y us ∙ rw h refl

    pub union_ends : (r : Ending) (k : List TypeExpr → Plan A) (y : Word) (us : Words) → is_sign s.Pipe y.kind ≡ false → run kind (read (Item.more_of_union (ended r)) k) (y ∷ us) ≡ run kind (k []) (y ∷ us)
    union_ends InItself k y us h = read_on kind (Item.more_of_union (ended InItself)) k y us ∙ rw h refl
    union_ends InTuple k y us h = read_on kind (Item.more_of_union (ended InTuple)) k y us ∙ rw h refl
    union_ends InType k y us h = read_on kind (Item.more_of_union (ended InType)) k y us ∙ rw h refl

    pub results_end : (k : List TypeTuple × After → Plan A) (y : Word) (us : Words) → is_sign s.Pipe y.kind ≡ false → run kind (read Item.more_results k) (y ∷ us) ≡ run kind (k ([], ended InTuple)) (y ∷ us)
    results_end k y us h = read_on kind Item.more_results k y us ∙ rw h refl

    pub bar_ends : (k : List TypeTuple × After → Plan A) (y : Word) (us : Words) → is_sign s.OpenParen y.kind ≡ false → run kind (read Item.behind_bar k) (y ∷ us) ≡ run kind (k ([], joined)) (y ∷ us)
    bar_ends k y us h = read_on kind Item.behind_bar k y us ∙ rw h refl

    pub body_results_end : (k : List TypeTuple → Plan A) (y : Word) (us : Words) → is_sign s.Pipe y.kind ≡ false → run kind (read Item.more_body_results k) (y ∷ us) ≡ run kind (k []) (y ∷ us)
    body_results_end k y us h = read_on kind Item.more_body_results k y us ∙ rw h refl

    -- a parenthesis round one type
    pub paren_ends : (p : Pos) (x : TypeExpr) (k : TypeExpr × After → Plan A) (y : Word) (us : Words) → is_sign s.Arrow y.kind ≡ false
        → run kind (read (Item.behind_tuple p (x ∷ []) None) k) (y ∷ us) ≡ run kind (read (Item.maybe_mark (t.Paren p x)) λ z. k (z, ended InItself)) (y ∷ us)
    paren_ends p x k y us h =
        read_on kind (Item.behind_tuple p (x ∷ []) None) k y us
        ∙ ap (λ r. on kind y us r k) (if_false _ _ (both (mark_step (t.Paren p x) y.kind) (λ z. ends (z, ended InItself)) (λ z. done (z, ended InItself))) h)
        ∙ on_both kind y us (mark_step (t.Paren p x) y.kind) (λ z. ends (z, ended InItself)) (λ z. done (z, ended InItself)) k (λ z. k (z, ended InItself)) (λ z. refl) (λ z. refl)
        ∙ sym (read_on kind (Item.maybe_mark (t.Paren p x)) _ y us)

    -- the parts of a name, where a plan begins with its first
    dotted_reads : {p : Pos} {xs : List (List ℕ)} {n : List ℕ} {ts : Words} → SpellsDotted p xs n ts → (P : Plan A) (k : Pos → List (List ℕ) × List ℕ → Plan A)
        → ((x : Name) (us : Words) → run kind P (named x ∷ us) ≡ run kind (read (Item.more_of_name x.text) (k x.pos)) us) → (y : Word) (us : Words) → is_sign s.Dot y.kind ≡ false
        → run kind P (ts ++ y ∷ us) ≡ run kind (k p (xs, n)) (y ∷ us)
    dotted_reads (SpellsDotted.last x) P k f y us h = f x (y ∷ us) ∙ name_ends x.text (k x.pos) y us h
    dotted_reads (SpellsDotted.part {ts = ts} x q d) P k f y us h =
        f x (symbol s.Dot q ∷ ts ++ y ∷ us)
        ∙ dotted_reads d (want_name λ z. read (Item.more_of_name z.text) λ d. k x.pos (x.text ∷ d.0, d.1)) (λ o d. k x.pos (x.text ∷ d.0, d.1)) (λ z vs. refl) y us h

  -- a type in braces that begins as a type
  pub named_unfold : {A : Type 0} (p : Pos) (x : Name) (k : TypeExpr → Plan A) (y : Word) (us : Words) → after_name y.kind ≡ true
      → run kind (read (Item.named_in_braces p x) k) (y ∷ us) ≡ run kind (read (Item.more_of_name x.text) λ d. read (Item.maybe_mark (t.Named x.pos d.0 d.1)) λ a. read (Item.more_of_union (ended InItself)) λ xs. want (sign s.CloseBrace) λ _. k (t.Array p (union_of a xs))) (y ∷ us)
  named_unfold {A = A} p x k y us h =
      read_on kind (Item.named_in_braces p x) k y us ∙ ap (λ r. on kind y us r k) (if_false _ _ _ (after_no_colon y.kind y.pos h) ∙ after_no_name y.kind _ _ h)
      ∙ on_both kind y us (name_step x.text y.kind) _ _ k in_name (λ d.
      on_both kind y us (mark_step (t.Named x.pos d.0 d.1) y.kind) _ _ k (in_mark d) (λ a.
      on_both kind y us (member_step (ended InItself) y.pos y.kind) _ _ k (in_union a) (λ xs. want_on kind (sign s.CloseBrace) (t.Array p (union_of a xs)) k y us) (λ xs. refl)
      ∙ sym (read_on kind (Item.more_of_union (ended InItself)) (in_union a) y us)) (λ a. refl)
      ∙ sym (read_on kind (Item.maybe_mark (t.Named x.pos d.0 d.1)) (in_mark d) y us)) (λ d. refl)
      ∙ sym (read_on kind (Item.more_of_name x.text) in_name y us)
    where
      in_union : TypeExpr → List TypeExpr → Plan A
      in_union a xs = want (sign s.CloseBrace) λ _. k (t.Array p (union_of a xs))

      in_mark : List (List ℕ) × List ℕ → TypeExpr → Plan A
      in_mark d a = read (Item.more_of_union (ended InItself)) (in_union a)

      in_name : List (List ℕ) × List ℕ → Plan A
      in_name d = read (Item.maybe_mark (t.Named x.pos d.0 d.1)) (in_mark d)

  -- a first word in braces that is no name
  braces_start : (p o : Pos) {k : WordKind} → TypeStarter k → ((n : List ℕ) → k ≡ WordKind.name n → ⊥) → types_step kind (Item.in_braces p) o k ≡ begun (going (start_type o k) (λ x. want (sign s.CloseBrace) λ _. done (t.Array p x)))
  braces_start p o nil_starts h = refl
  braces_start p o true_starts h = refl
  braces_start p o false_starts h = refl
  braces_start p o minus_starts h = refl
  braces_start p o brace_starts h = refl
  braces_start p o paren_starts h = refl
  braces_start p o (number_starts n) h = refl
  braces_start p o (text_starts x) h = refl
  braces_start p o (name_starts x) h = absurd (h x refl)

  in_braces_name : {A : Type 0} (p : Pos) (x : Name) (k : TypeExpr → Plan A) (us : Words) → second_ok us ≡ true
      → run kind (read (Item.named_in_braces p x) k) us ≡ run kind (read (Item.more_of_name x.text) λ d. read (Item.maybe_mark (t.Named x.pos d.0 d.1)) λ a. read (Item.more_of_union (ended InItself)) λ xs. want (sign s.CloseBrace) λ _. k (t.Array p (union_of a xs))) us
  in_braces_name p x k [] h = refl
  in_braces_name p x k (y ∷ us) h = named_unfold p x k y us h

  braces_at : {A : Type 0} (p : Pos) (k : TypeExpr → Plan A) (o : Pos) {c : WordKind} (us : Words) → TypeStarter c → ((n : List ℕ) → c ≡ WordKind.name n → ⊥)
      → run kind (read (Item.in_braces p) k) (record { kind = c; pos = o } ∷ us) ≡ run kind (read Item.a_type λ x. want (sign s.CloseBrace) λ _. k (t.Array p x)) (record { kind = c; pos = o } ∷ us)
  braces_at p k o {c = c} us f h = begins_as kind (Item.in_braces p) Item.a_type (record { kind = c; pos = o }) us (start_type o c) (λ x. want (sign s.CloseBrace) λ _. done (t.Array p x)) k refl (braces_start p o f h)

  in_braces_at : {A : Type 0} (p : Pos) (k : TypeExpr → Plan A) (o : Pos) {c : WordKind} (us : Words) → TypeStarter c → ((n : List ℕ) → c ≡ WordKind.name n → second_ok us ≡ true)
      → run kind (read (Item.in_braces p) k) (record { kind = c; pos = o } ∷ us) ≡ run kind (read Item.a_type λ x. want (sign s.CloseBrace) λ _. k (t.Array p x)) (record { kind = c; pos = o } ∷ us)
  in_braces_at p k o us (name_starts x) h = in_braces_name p (name_at o x) k us (h x refl)
  in_braces_at p k o us nil_starts h = braces_at p k o us nil_starts (λ n e. cc)
  in_braces_at p k o us true_starts h = braces_at p k o us true_starts (λ n e. cc)
  in_braces_at p k o us false_starts h = braces_at p k o us false_starts (λ n e. cc)
  in_braces_at p k o us minus_starts h = braces_at p k o us minus_starts (λ n e. cc)
  in_braces_at p k o us brace_starts h = braces_at p k o us brace_starts (λ n e. cc)
  in_braces_at p k o us paren_starts h = braces_at p k o us paren_starts (λ n e. cc)
  in_braces_at p k o us (number_starts i) h = braces_at p k o us (number_starts i) (λ n e. cc)
  in_braces_at p k o us (text_starts i) h = braces_at p k o us (text_starts i) (λ n e. cc)

  in_braces_unfold : {A : Type 0} (p : Pos) (k : TypeExpr → Plan A) (ts : Words) (z : Word) (us : Words) → First ts → after_name z.kind ≡ true
      → run kind (read (Item.in_braces p) k) (ts ++ z ∷ us) ≡ run kind (read Item.a_type λ x. want (sign s.CloseBrace) λ _. k (t.Array p x)) (ts ++ z ∷ us)
  in_braces_unfold p k ts z us f h =
      let e = ap (λ w. w ++ z ∷ us) f.2 in
      ap (run kind (read (Item.in_braces p) k)) e ∙ in_braces_at p k f.0.pos (f.1 ++ z ∷ us) f.3 (λ n d. second_append f.1 (z ∷ us) (f.4 n d) h)
      ∙ sym (ap (run kind (read Item.a_type λ x. want (sign s.CloseBrace) λ _. k (t.Array p x))) e)

  -- the list of members as a type
  abbrev listed : List TypeExpr → TypeExpr
  listed [] = t.Nil (record { «module» = 0; line = 0; column = 0 })
  listed (x ∷ xs) = union_of x xs

  -- There is a word, and behind an ending it may begin a further member.
  abbrev MayJoin : Ending → Words → Type 0
  MayJoin r us = (x : Word) × (vs : Words) × (us ≡ x ∷ vs) × MayPrecede r (x ∷ vs)

  may_more : (r : Ending) (vs : Words) (y : Word) (us : Words) → MayPrecede r vs → First vs → MayJoin r (vs ++ y ∷ us)
  may_more InItself vs y us j f = (f.0, f.1 ++ y ∷ us, ap (λ z. z ++ y ∷ us) f.2, tt)
  may_more InTuple vs y us j f = (f.0, f.1 ++ y ∷ us, ap (λ z. z ++ y ∷ us) f.2, subst (λ z. begins_open z ≡ false) f.2 j)
  may_more InType vs y us j f = absurd j

  bar_joins : {A : Type 0} (k : List TypeTuple × After → Plan A) (us : Words) → MayJoin InTuple us → run kind (read Item.behind_bar k) us ≡ run kind (k ([], joined)) us
  bar_joins k us j = ap (run kind (read Item.behind_bar k)) j.2 ∙ bar_ends k j.0 j.1 (sym (opens_is j.0.kind) ∙ j.3) ∙ sym (ap (run kind (k ([], joined))) j.2)

  -- results that `|` may follow end in a tuple
  in_tuple : {r : Ending} {x : TypeResults} {ts us : Words} → SpellsResults r x ts → MayJoin r us → MayJoin InTuple us
  in_tuple (SpellsResults.tuple_results d) j = j
  in_tuple (SpellsResults.type_results d i) j = absurd j.3

  -- behind a function type in a union, where the `|` is read
  join_on : {A : Type 0} (k : List TypeExpr → Plan A) (us : Words) → MayJoin InTuple us → run kind (read (Item.more_of_union joined) k) us ≡ run kind (read Item.a_member λ m. read (Item.more_of_union m.1) λ xs. k (m.0 ∷ xs)) us
  join_on k us j = ap (run kind (read (Item.more_of_union joined) k)) j.2 ∙ joined_unfold k j.0 j.1 (sym (opens_is j.0.kind) ∙ j.3) ∙ sym (ap (run kind (read Item.a_member λ m. read (Item.more_of_union m.1) λ xs. k (m.0 ∷ xs))) j.2)

  tuple_first : {A : Type 0} (k : List TypeExpr × Option TypeExpr → Plan A) (ts us : Words) → First ts → run kind (read Item.a_tuple k) (ts ++ us) ≡ run kind (read Item.a_type λ y. read (Item.more_of_tuple y) k) (ts ++ us)
  tuple_first k ts us f =
      let e = ap (λ z. z ++ us) f.2 in ap (run kind (read Item.a_tuple k)) e ∙ tuple_unfold k f.0 (f.1 ++ us) (starter_not_close f.3) ∙ sym (ap (run kind (read Item.a_type λ y. read (Item.more_of_tuple y) k)) e)

  results_first : {A : Type 0} (k : TypeResults × After → Plan A) (ts us : Words) → First ts → begins_open ts ≡ false → run kind (read Item.some_results k) (ts ++ us) ≡ run kind (read Item.a_type λ y. k (single_result y, ended InType)) (ts ++ us)
  results_first k ts us f j =
      let e = ap (λ z. z ++ us) f.2 in ap (run kind (read Item.some_results k)) e ∙ results_unfold k f.0 (f.1 ++ us) (sym (opens_is f.0.kind) ∙ subst (λ z. begins_open z ≡ false) f.2 j) ∙ sym (ap (run kind (read Item.a_type λ y. k (single_result y, ended InType))) e)

  mutual
    pub type_reads : {x : TypeExpr} {ts : Words} → SpellsType x ts → {A : Type 0} (k : TypeExpr → Plan A) (y : Word) (us : Words) → TypeEnd y.kind → run kind (read Item.a_type k) (ts ++ y ∷ us) ≡ run kind (k x) (y ∷ us)
    type_reads (SpellsType.one_member {e = r} {x = x} {ts = ts} d) k y us h =
        type_unfold k (ts ++ y ∷ us) ∙ member_ends d (λ m. read (Item.more_of_union m.1) λ xs. k (union_of m.0 xs)) y us h ∙ union_ends r (λ xs. k (union_of x xs)) y us h.no_bar
    type_reads (SpellsType.union_type {ts = ts} d) k y us h =
        type_unfold k (ts ++ y ∷ us) ∙ members_reads d (λ xs. k (listed xs)) y us h

    members_reads : {xs : List TypeExpr} {ts : Words} → SpellsMembers xs ts → {A : Type 0} (k : List TypeExpr → Plan A) (y : Word) (us : Words) → TypeEnd y.kind
        → run kind (read Item.a_member λ m. read (Item.more_of_union m.1) λ xs. k (m.0 ∷ xs)) (ts ++ y ∷ us) ≡ run kind (k xs) (y ∷ us)
    members_reads (SpellsMembers.last_member {e = r} {x = x} d) k y us h =
        member_ends d (λ m. read (Item.more_of_union m.1) λ xs. k (m.0 ∷ xs)) y us h ∙ union_ends r (λ xs. k (x ∷ xs)) y us h.no_bar
    members_reads (SpellsMembers.more_members {e = r} {x = x} {xs = xs} {ts = ts} {us = vs} q d f j) k y us h =
        ap (run kind (read Item.a_member λ m. read (Item.more_of_union m.1) λ xs. k (m.0 ∷ xs))) (append_assoc ts (symbol s.Pipe q ∷ vs) (y ∷ us))
        ∙ member_joins d k q (vs ++ y ∷ us) (may_more r vs y us j (members_first f)) ∙ members_reads f (λ zs. k (x ∷ zs)) y us h

    -- a member before a word that goes on no type
    member_ends : {r : Ending} {x : TypeExpr} {ts : Words} → SpellsMember r x ts → {A : Type 0} (k : TypeExpr × After → Plan A) (y : Word) (us : Words) → TypeEnd y.kind → run kind (read Item.a_member k) (ts ++ y ∷ us) ≡ run kind (k (x, ended r)) (y ∷ us)
    member_ends (SpellsMember.simple_type {x = x} d) k y us h = simple_reads d k y us h.no_dot h.no_arrow ∙ mark_ends x (λ z. k (z, ended InItself)) y us h.no_mark
    member_ends (SpellsMember.optional_type {ts = ts} q d) k y us h =
        ap (run kind (read Item.a_member k)) (append_assoc ts (symbol s.Question q ∷ []) (y ∷ us)) ∙ simple_reads d k (symbol s.Question q) (y ∷ us) refl refl
    member_ends (SpellsMember.function_type {xs = xs} {rest = rest} {r = a} {ts = ts} {us = vs} p q o d f) k y us h =
        ap (run kind (read Item.a_tuple λ b. want (sign s.CloseParen) λ _. read (Item.behind_tuple p b.0 b.1) k)) (append_assoc ts (symbol s.CloseParen q ∷ symbol s.Arrow o ∷ vs) (y ∷ us))
        ∙ tuple_reads d (λ b. want (sign s.CloseParen) λ _. read (Item.behind_tuple p b.0 b.1) k) q (symbol s.Arrow o ∷ vs ++ y ∷ us)
        ∙ results_reads f (λ b. k (t.Function p (tuple xs rest) b.0, b.1)) y us h

    -- a member before `|`
    member_joins : {r : Ending} {x : TypeExpr} {ts : Words} → SpellsMember r x ts → {A : Type 0} (k : List TypeExpr → Plan A) (q : Pos) (us : Words) → MayJoin r us
        → run kind (read Item.a_member λ m. read (Item.more_of_union m.1) λ xs. k (m.0 ∷ xs)) (ts ++ symbol s.Pipe q ∷ us) ≡ run kind (read Item.a_member λ m. read (Item.more_of_union m.1) λ xs. k (x ∷ m.0 ∷ xs)) us
    member_joins (SpellsMember.simple_type {x = x} d) k q us j =
        simple_reads d (λ m. read (Item.more_of_union m.1) λ xs. k (m.0 ∷ xs)) (symbol s.Pipe q) us refl refl ∙ mark_ends x (λ z. read (Item.more_of_union (ended InItself)) λ xs. k (z ∷ xs)) (symbol s.Pipe q) us refl
    member_joins (SpellsMember.optional_type {ts = ts} o d) k q us j =
        ap (run kind (read Item.a_member λ m. read (Item.more_of_union m.1) λ xs. k (m.0 ∷ xs))) (append_assoc ts (symbol s.Question o ∷ []) (symbol s.Pipe q ∷ us))
        ∙ simple_reads d (λ m. read (Item.more_of_union m.1) λ xs. k (m.0 ∷ xs)) (symbol s.Question o) (symbol s.Pipe q ∷ us) refl refl
    member_joins (SpellsMember.function_type {e = r} {xs = xs} {rest = rest} {r = a} {ts = ts} {us = vs} p o i d f) k q us j =
        ap (run kind (read Item.a_tuple λ b. want (sign s.CloseParen) λ _. read (Item.behind_tuple p b.0 b.1) λ m. read (Item.more_of_union m.1) λ xs. k (m.0 ∷ xs))) (append_assoc ts (symbol s.CloseParen o ∷ symbol s.Arrow i ∷ vs) (symbol s.Pipe q ∷ us))
        ∙ tuple_reads d (λ b. want (sign s.CloseParen) λ _. read (Item.behind_tuple p b.0 b.1) λ m. read (Item.more_of_union m.1) λ xs. k (m.0 ∷ xs)) o (symbol s.Arrow i ∷ vs ++ symbol s.Pipe q ∷ us)
        ∙ results_join f (λ b. read (Item.more_of_union b.1) λ ys. k (t.Function p (tuple xs rest) b.0 ∷ ys)) q us j
        ∙ join_on (λ ys. k (t.Function p (tuple xs rest) a ∷ ys)) us (in_tuple f j)

    simple_reads : {x : TypeExpr} {ts : Words} → SpellsSimple x ts → {A : Type 0} (k : TypeExpr × After → Plan A) (y : Word) (us : Words) → is_sign s.Dot y.kind ≡ false → is_sign s.Arrow y.kind ≡ false
        → run kind (read Item.a_member k) (ts ++ y ∷ us) ≡ run kind (read (Item.maybe_mark x) λ z. k (z, ended InItself)) (y ∷ us)
    simple_reads (SpellsSimple.nil_type p) k y us h j = refl
    simple_reads (SpellsSimple.true_type p) k y us h j = refl
    simple_reads (SpellsSimple.false_type p) k y us h j = refl
    simple_reads (SpellsSimple.integer_type p n) k y us h j = refl
    simple_reads (SpellsSimple.negative_type p q n) k y us h j = refl
    simple_reads (SpellsSimple.text_type p n) k y us h j = refl
    simple_reads (SpellsSimple.dotted_type d) k y us h j = dotted_reads d (read Item.a_member k) (λ p d. read (Item.maybe_mark (t.Named p d.0 d.1)) λ z. k (z, ended InItself)) (λ x vs. refl) y us h
    simple_reads (SpellsSimple.paren_type {x = x} {ts = ts} p q d) k y us h j =
        ap (run kind (read Item.a_tuple λ b. want (sign s.CloseParen) λ _. read (Item.behind_tuple p b.0 b.1) k)) (append_assoc ts (symbol s.CloseParen q ∷ []) (y ∷ us))
        ∙ tuple_first (λ b. want (sign s.CloseParen) λ _. read (Item.behind_tuple p b.0 b.1) k) ts (symbol s.CloseParen q ∷ y ∷ us) (type_first d)
        ∙ type_reads d (λ z. read (Item.more_of_tuple z) λ b. want (sign s.CloseParen) λ _. read (Item.behind_tuple p b.0 b.1) k) (symbol s.CloseParen q) (y ∷ us) (record { no_bar = refl; no_mark = refl; no_dot = refl; no_arrow = refl })
        ∙ paren_ends p x k y us j
    simple_reads (SpellsSimple.array_type {ts = ts} p q d) k y us h j =
        ap (run kind (read (Item.in_braces p) λ x. read (Item.maybe_mark x) λ z. k (z, ended InItself))) (append_assoc ts (symbol s.CloseBrace q ∷ []) (y ∷ us))
        ∙ in_braces_unfold p (λ x. read (Item.maybe_mark x) λ z. k (z, ended InItself)) ts (symbol s.CloseBrace q) (y ∷ us) (type_first d) refl
        ∙ type_reads d (λ x. want (sign s.CloseBrace) λ _. read (Item.maybe_mark (t.Array p x)) λ z. k (z, ended InItself)) (symbol s.CloseBrace q) (y ∷ us) (record { no_bar = refl; no_mark = refl; no_dot = refl; no_arrow = refl })
    simple_reads (SpellsSimple.map_type {x = x} {ts = ts} {us = vs} p q o i l d f) k y us h j =
        ap (run kind (read Item.a_type λ a. want (sign s.CloseBracket) λ _. want (sign s.Colon) λ _. read Item.a_type λ b. want (sign s.CloseBrace) λ _. read (Item.maybe_mark (t.Map p a b)) λ z. k (z, ended InItself)))
        (append_assoc ts (symbol s.CloseBracket o ∷ symbol s.Colon i ∷ vs ++ (symbol s.CloseBrace l ∷ [])) (y ∷ us))
        ∙ type_reads d (λ a. want (sign s.CloseBracket) λ _. want (sign s.Colon) λ _. read Item.a_type λ b. want (sign s.CloseBrace) λ _. read (Item.maybe_mark (t.Map p a b)) λ z. k (z, ended InItself)) (symbol s.CloseBracket o) (symbol s.Colon i ∷ (vs ++ (symbol s.CloseBrace l ∷ [])) ++ y ∷ us) (record { no_bar = refl; no_mark = refl; no_dot = refl; no_arrow = refl })
        ∙ ap (run kind (read Item.a_type λ b. want (sign s.CloseBrace) λ _. read (Item.maybe_mark (t.Map p x b)) λ z. k (z, ended InItself))) (append_assoc vs (symbol s.CloseBrace l ∷ []) (y ∷ us))
        ∙ type_reads f (λ b. want (sign s.CloseBrace) λ _. read (Item.maybe_mark (t.Map p x b)) λ z. k (z, ended InItself)) (symbol s.CloseBrace l) (y ∷ us) (record { no_bar = refl; no_mark = refl; no_dot = refl; no_arrow = refl })
    simple_reads (SpellsSimple.empty_record p q) k y us h j = refl
    simple_reads (SpellsSimple.record_type p d) k y us h j = fields_begin d p (λ x. read (Item.maybe_mark x) λ z. k (z, ended InItself)) (y ∷ us)

    -- the fields of a record, from behind the `{`, and from behind a comma
    fields_begin : {fs : List TypeField} {ts : Words} → SpellsFields fs ts → {A : Type 0} (p : Pos) (k : TypeExpr → Plan A) (us : Words) → run kind (read (Item.in_braces p) k) (ts ++ us) ≡ run kind (k (t.Record p fs)) us
    fields_begin (SpellsFields.last_field {f = f} {ts = ts} q d) p k us =
        ap (run kind (read (Item.in_braces p) k)) (append_assoc ts (symbol s.CloseBrace q ∷ []) us) ∙ field_begins d p k (symbol s.CloseBrace q) us (record { no_bar = refl; no_mark = refl; no_dot = refl; no_arrow = refl })
    fields_begin (SpellsFields.last_field_comma {f = f} {ts = ts} q o d) p k us =
        ap (run kind (read (Item.in_braces p) k)) (append_assoc ts (symbol s.Comma q ∷ symbol s.CloseBrace o ∷ []) us) ∙ field_begins d p k (symbol s.Comma q) (symbol s.CloseBrace o ∷ us) (record { no_bar = refl; no_mark = refl; no_dot = refl; no_arrow = refl })
    fields_begin (SpellsFields.more_fields {f = f} {ts = ts} {us = vs} q d e) p k us =
        ap (run kind (read (Item.in_braces p) k)) (append_assoc ts (symbol s.Comma q ∷ vs) us) ∙ field_begins d p k (symbol s.Comma q) (vs ++ us) (record { no_bar = refl; no_mark = refl; no_dot = refl; no_arrow = refl }) ∙ fields_reads e (λ fs. k (t.Record p (f ∷ fs))) us

    fields_reads : {fs : List TypeField} {ts : Words} → SpellsFields fs ts → {A : Type 0} (k : List TypeField → Plan A) (us : Words) → run kind (read Item.next_field k) (ts ++ us) ≡ run kind (k fs) us
    fields_reads (SpellsFields.last_field {f = f} {ts = ts} q d) k us =
        ap (run kind (read Item.next_field k)) (append_assoc ts (symbol s.CloseBrace q ∷ []) us) ∙ next_field_reads d k (symbol s.CloseBrace q) us (record { no_bar = refl; no_mark = refl; no_dot = refl; no_arrow = refl })
    fields_reads (SpellsFields.last_field_comma {f = f} {ts = ts} q o d) k us =
        ap (run kind (read Item.next_field k)) (append_assoc ts (symbol s.Comma q ∷ symbol s.CloseBrace o ∷ []) us) ∙ next_field_reads d k (symbol s.Comma q) (symbol s.CloseBrace o ∷ us) (record { no_bar = refl; no_mark = refl; no_dot = refl; no_arrow = refl })
    fields_reads (SpellsFields.more_fields {f = f} {ts = ts} {us = vs} q d e) k us =
        ap (run kind (read Item.next_field k)) (append_assoc ts (symbol s.Comma q ∷ vs) us) ∙ next_field_reads d k (symbol s.Comma q) (vs ++ us) (record { no_bar = refl; no_mark = refl; no_dot = refl; no_arrow = refl }) ∙ fields_reads e (λ fs. k (f ∷ fs)) us

    field_begins : {f : TypeField} {ts : Words} → SpellsField f ts → {A : Type 0} (p : Pos) (k : TypeExpr → Plan A) (y : Word) (us : Words) → TypeEnd y.kind
        → run kind (read (Item.in_braces p) k) (ts ++ y ∷ us) ≡ run kind (read Item.more_of_fields λ fs. k (t.Record p (f ∷ fs))) (y ∷ us)
    field_begins (SpellsField.plain_field n q d) p k y us h = type_reads d (λ a. read Item.more_of_fields λ fs. k (t.Record p (field n.pos false n a ∷ fs))) y us h
    field_begins (SpellsField.const_field o n q d) p k y us h = type_reads d (λ a. read Item.more_of_fields λ fs. k (t.Record p (field o true n a ∷ fs))) y us h

    next_field_reads : {f : TypeField} {ts : Words} → SpellsField f ts → {A : Type 0} (k : List TypeField → Plan A) (y : Word) (us : Words) → TypeEnd y.kind
        → run kind (read Item.next_field k) (ts ++ y ∷ us) ≡ run kind (read Item.more_of_fields λ fs. k (f ∷ fs)) (y ∷ us)
    next_field_reads (SpellsField.plain_field n q d) k y us h = type_reads d (λ a. read Item.more_of_fields λ fs. k (field n.pos false n a ∷ fs)) y us h
    next_field_reads (SpellsField.const_field o n q d) k y us h = type_reads d (λ a. read Item.more_of_fields λ fs. k (field o true n a ∷ fs)) y us h

    tuple_reads : {xs : List TypeExpr} {rest : Option TypeExpr} {ts : Words} → SpellsTuple xs rest ts → {A : Type 0} (k : List TypeExpr × Option TypeExpr → Plan A) (q : Pos) (us : Words)
        → run kind (read Item.a_tuple k) (ts ++ symbol s.CloseParen q ∷ us) ≡ run kind (k (xs, rest)) (symbol s.CloseParen q ∷ us)
    tuple_reads SpellsTuple.no_items k q us = refl
    tuple_reads (SpellsTuple.items {ts = ts} d) k q us = tuple_first k ts (symbol s.CloseParen q ∷ us) (items_first d) ∙ items_reads d k q us

    items_reads : {xs : List TypeExpr} {rest : Option TypeExpr} {ts : Words} → SpellsItems xs rest ts → {A : Type 0} (k : List TypeExpr × Option TypeExpr → Plan A) (q : Pos) (us : Words)
        → run kind (read Item.a_type λ y. read (Item.more_of_tuple y) k) (ts ++ symbol s.CloseParen q ∷ us) ≡ run kind (k (xs, rest)) (symbol s.CloseParen q ∷ us)
    items_reads (SpellsItems.last_item d) k q us = type_reads d (λ y. read (Item.more_of_tuple y) k) (symbol s.CloseParen q) us (record { no_bar = refl; no_mark = refl; no_dot = refl; no_arrow = refl })
    items_reads (SpellsItems.tail_item {ts = ts} o d) k q us =
        ap (run kind (read Item.a_type λ y. read (Item.more_of_tuple y) k)) (append_assoc ts (symbol s.Star o ∷ []) (symbol s.CloseParen q ∷ us)) ∙ type_reads d (λ y. read (Item.more_of_tuple y) k) (symbol s.Star o) (symbol s.CloseParen q ∷ us) (record { no_bar = refl; no_mark = refl; no_dot = refl; no_arrow = refl })
    items_reads (SpellsItems.more_items {x = x} {ts = ts} {us = vs} o d f) k q us =
        ap (run kind (read Item.a_type λ y. read (Item.more_of_tuple y) k)) (append_assoc ts (symbol s.Comma o ∷ vs) (symbol s.CloseParen q ∷ us)) ∙ type_reads d (λ y. read (Item.more_of_tuple y) k) (symbol s.Comma o) (vs ++ symbol s.CloseParen q ∷ us) (record { no_bar = refl; no_mark = refl; no_dot = refl; no_arrow = refl })
        ∙ items_reads f (λ r. k (x ∷ r.0, r.1)) q us

    results_reads : {r : Ending} {x : TypeResults} {ts : Words} → SpellsResults r x ts → {A : Type 0} (k : TypeResults × After → Plan A) (y : Word) (us : Words) → TypeEnd y.kind → run kind (read Item.some_results k) (ts ++ y ∷ us) ≡ run kind (k (x, ended r)) (y ∷ us)
    results_reads (SpellsResults.tuple_results {p = p} d) k y us h = tuples_read d (read Item.some_results k) (λ p xs r. k (results p xs, r)) (λ o vs. refl) y us h.no_bar
    results_reads (SpellsResults.type_results {ts = ts} d j) k y us h = results_first k ts (y ∷ us) (type_first d) j ∙ type_reads d (λ x. k (single_result x, ended InType)) y us h

    results_join : {r : Ending} {x : TypeResults} {ts : Words} → SpellsResults r x ts → {A : Type 0} (k : TypeResults × After → Plan A) (q : Pos) (us : Words) → MayJoin r us → run kind (read Item.some_results k) (ts ++ symbol s.Pipe q ∷ us) ≡ run kind (k (x, joined)) us
    results_join (SpellsResults.tuple_results {p = p} d) k q us j = tuples_join d (read Item.some_results k) (λ p xs r. k (results p xs, r)) (λ o vs. refl) q us j
    results_join (SpellsResults.type_results d i) k q us j = absurd j.3

    -- tuples, where a plan begins with the first of them
    tuples_read : {p : Pos} {xs : List TypeTuple} {ts : Words} → SpellsTuples p xs ts → {A : Type 0} (P : Plan A) (k : Pos → List TypeTuple → After → Plan A)
        → ((o : Pos) (us : Words) → run kind P (symbol s.OpenParen o ∷ us) ≡ run kind (tuple_then λ a. read Item.more_results λ r. k o (tuple a.0 a.1 ∷ r.0) r.1) us) → (y : Word) (us : Words) → is_sign s.Pipe y.kind ≡ false
        → run kind P (ts ++ y ∷ us) ≡ run kind (k p xs (ended InTuple)) (y ∷ us)
    tuples_read (SpellsTuples.last_tuple {ts = ts} p q d) P k f y us h = f p ((ts ++ symbol s.CloseParen q ∷ []) ++ y ∷ us)
        ∙ ap (run kind (tuple_then λ a. read Item.more_results λ r. k p (tuple a.0 a.1 ∷ r.0) r.1)) (append_assoc ts (symbol s.CloseParen q ∷ []) (y ∷ us))
        ∙ tuple_reads d (λ a. want (sign s.CloseParen) λ _. read Item.more_results λ r. k p (tuple a.0 a.1 ∷ r.0) r.1) q (y ∷ us) ∙ results_end _ y us h
    tuples_read (SpellsTuples.more_tuples {xs = xs} {tail = rest} {ts = ts} {us = vs} p q o d e) P k f y us h = f p ((ts ++ symbol s.CloseParen q ∷ symbol s.Pipe o ∷ vs) ++ y ∷ us)
        ∙ ap (run kind (tuple_then λ a. read Item.more_results λ r. k p (tuple a.0 a.1 ∷ r.0) r.1)) (append_assoc ts (symbol s.CloseParen q ∷ symbol s.Pipe o ∷ vs) (y ∷ us))
        ∙ tuple_reads d (λ a. want (sign s.CloseParen) λ _. read Item.more_results λ r. k p (tuple a.0 a.1 ∷ r.0) r.1) q (symbol s.Pipe o ∷ vs ++ y ∷ us)
        ∙ tuples_read e (read Item.behind_bar λ r. k p (tuple xs rest ∷ r.0) r.1) (λ i ys r. k p (tuple xs rest ∷ ys) r) (λ i ws. refl) y us h

    tuples_join : {p : Pos} {xs : List TypeTuple} {ts : Words} → SpellsTuples p xs ts → {A : Type 0} (P : Plan A) (k : Pos → List TypeTuple → After → Plan A)
        → ((o : Pos) (us : Words) → run kind P (symbol s.OpenParen o ∷ us) ≡ run kind (tuple_then λ a. read Item.more_results λ r. k o (tuple a.0 a.1 ∷ r.0) r.1) us) → (i : Pos) (us : Words) → MayJoin InTuple us
        → run kind P (ts ++ symbol s.Pipe i ∷ us) ≡ run kind (k p xs joined) us
    tuples_join (SpellsTuples.last_tuple {xs = xs} {tail = rest} {ts = ts} p q d) P k f i us j = f p ((ts ++ symbol s.CloseParen q ∷ []) ++ symbol s.Pipe i ∷ us)
        ∙ ap (run kind (tuple_then λ a. read Item.more_results λ r. k p (tuple a.0 a.1 ∷ r.0) r.1)) (append_assoc ts (symbol s.CloseParen q ∷ []) (symbol s.Pipe i ∷ us))
        ∙ tuple_reads d (λ a. want (sign s.CloseParen) λ _. read Item.more_results λ r. k p (tuple a.0 a.1 ∷ r.0) r.1) q (symbol s.Pipe i ∷ us) ∙ bar_joins (λ r. k p (tuple xs rest ∷ r.0) r.1) us j
    tuples_join (SpellsTuples.more_tuples {xs = xs} {tail = rest} {ts = ts} {us = vs} p q o d e) P k f i us j = f p ((ts ++ symbol s.CloseParen q ∷ symbol s.Pipe o ∷ vs) ++ symbol s.Pipe i ∷ us)
        ∙ ap (run kind (tuple_then λ a. read Item.more_results λ r. k p (tuple a.0 a.1 ∷ r.0) r.1)) (append_assoc ts (symbol s.CloseParen q ∷ symbol s.Pipe o ∷ vs) (symbol s.Pipe i ∷ us))
        ∙ tuple_reads d (λ a. want (sign s.CloseParen) λ _. read Item.more_results λ r. k p (tuple a.0 a.1 ∷ r.0) r.1) q (symbol s.Pipe o ∷ vs ++ symbol s.Pipe i ∷ us)
        ∙ tuples_join e (read Item.behind_bar λ r. k p (tuple xs rest ∷ r.0) r.1) (λ l ys r. k p (tuple xs rest ∷ ys) r) (λ l ws. refl) i us j

  -- the tuples of a body's results, where a plan begins with the first of them
  body_tuples : {p : Pos} {xs : List TypeTuple} {ts : Words} → SpellsTuples p xs ts → {A : Type 0} (P : Plan A) (k : Pos → List TypeTuple → Plan A)
      → ((o : Pos) (us : Words) → run kind P (symbol s.OpenParen o ∷ us) ≡ run kind (tuple_then λ a. read Item.more_body_results λ r. k o (tuple a.0 a.1 ∷ r)) us) → (y : Word) (us : Words) → is_sign s.Pipe y.kind ≡ false
      → run kind P (ts ++ y ∷ us) ≡ run kind (k p xs) (y ∷ us)
  body_tuples (SpellsTuples.last_tuple {xs = xs} {tail = rest} {ts = ts} p q d) P k f y us h = f p ((ts ++ symbol s.CloseParen q ∷ []) ++ y ∷ us)
      ∙ ap (run kind (tuple_then λ a. read Item.more_body_results λ r. k p (tuple a.0 a.1 ∷ r))) (append_assoc ts (symbol s.CloseParen q ∷ []) (y ∷ us))
      ∙ tuple_reads d (λ a. want (sign s.CloseParen) λ _. read Item.more_body_results λ r. k p (tuple a.0 a.1 ∷ r)) q (y ∷ us) ∙ body_results_end (λ r. k p (tuple xs rest ∷ r)) y us h
  body_tuples (SpellsTuples.more_tuples {xs = xs} {tail = rest} {ts = ts} {us = vs} p q o d e) P k f y us h = f p ((ts ++ symbol s.CloseParen q ∷ symbol s.Pipe o ∷ vs) ++ y ∷ us)
      ∙ ap (run kind (tuple_then λ a. read Item.more_body_results λ r. k p (tuple a.0 a.1 ∷ r))) (append_assoc ts (symbol s.CloseParen q ∷ symbol s.Pipe o ∷ vs) (y ∷ us))
      ∙ tuple_reads d (λ a. want (sign s.CloseParen) λ _. read Item.more_body_results λ r. k p (tuple a.0 a.1 ∷ r)) q (symbol s.Pipe o ∷ vs ++ y ∷ us)
      ∙ body_tuples e (want (sign s.OpenParen) λ _. tuple_then λ a. read Item.more_body_results λ r. k p (tuple xs rest ∷ tuple a.0 a.1 ∷ r)) (λ i ys. k p (tuple xs rest ∷ ys)) (λ i ws. refl) y us h

  body_results_first : {A : Type 0} (k : TypeResults → Plan A) (ts us : Words) → First ts → begins_open ts ≡ false → run kind (read Item.body_results k) (ts ++ us) ≡ run kind (read Item.a_type λ y. k (single_result y)) (ts ++ us)
  body_results_first k ts us f j =
      let e = ap (λ z. z ++ us) f.2 in ap (run kind (read Item.body_results k)) e ∙ body_results_unfold k f.0 (f.1 ++ us) (sym (opens_is f.0.kind) ∙ subst (λ z. begins_open z ≡ false) f.2 j) ∙ sym (ap (run kind (read Item.a_type λ y. k (single_result y))) e)

  pub body_results_reads : {r : Ending} {x : TypeResults} {ts : Words} → SpellsResults r x ts → {A : Type 0} (k : TypeResults → Plan A) (y : Word) (us : Words) → TypeEnd y.kind → run kind (read Item.body_results k) (ts ++ y ∷ us) ≡ run kind (k x) (y ∷ us)
  body_results_reads (SpellsResults.tuple_results d) k y us h = body_tuples d (read Item.body_results k) (λ p xs. k (results p xs)) (λ o vs. refl) y us h.no_bar
  body_results_reads (SpellsResults.type_results {ts = ts} d j) k y us h = body_results_first k ts (y ∷ us) (type_first d) j ∙ type_reads d (λ x. k (single_result x)) y us h

  -- what follows a field of an interface
  behind_field : {A : Type 0} (Q : Plan A) {fs : List TypeField} {us vs : Words} → SpellsSeparator us → SpellsInterface fs vs → (z : Pos) (ws : Words)
      → (y : Word) × (xs : Words) × (us ++ (vs ++ keyword w.End z ∷ ws) ≡ y ∷ xs) × TypeEnd y.kind × (run kind (read Item.maybe_separator λ _. Q) (y ∷ xs) ≡ run kind Q (vs ++ keyword w.End z ∷ ws))
  behind_field Q (SpellsSeparator.comma p) d z ws = (symbol s.Comma p, _, refl, record { no_bar = refl; no_mark = refl; no_dot = refl; no_arrow = refl }, refl)
  behind_field Q (SpellsSeparator.semicolon p) d z ws = (symbol s.Semicolon p, _, refl, record { no_bar = refl; no_mark = refl; no_dot = refl; no_arrow = refl }, refl)
  behind_field Q SpellsSeparator.no_separator SpellsInterface.no_fields z ws = (keyword w.End z, _, refl, record { no_bar = refl; no_mark = refl; no_dot = refl; no_arrow = refl }, refl)
  behind_field Q SpellsSeparator.no_separator (SpellsInterface.next_field (SpellsField.plain_field n q d) j e) z ws = (named n, _, refl, record { no_bar = refl; no_mark = refl; no_dot = refl; no_arrow = refl }, refl)
  behind_field Q SpellsSeparator.no_separator (SpellsInterface.next_field (SpellsField.const_field o n q d) j e) z ws = (named (name_at o (codes "const")), _, refl, record { no_bar = refl; no_mark = refl; no_dot = refl; no_arrow = refl }, refl)

  interface_field : {f : TypeField} {ts : Words} → SpellsField f ts → {A : Type 0} (k : List TypeField → Plan A) (y : Word) (us : Words) → TypeEnd y.kind
      → run kind (read Item.fields_of_interface k) (ts ++ y ∷ us) ≡ run kind (read Item.maybe_separator λ _. read Item.fields_of_interface λ fs. k (f ∷ fs)) (y ∷ us)
  interface_field (SpellsField.plain_field n q d) k y us h = type_reads d (λ a. read Item.maybe_separator λ _. read Item.fields_of_interface λ fs. k (field n.pos false n a ∷ fs)) y us h
  interface_field (SpellsField.const_field o n q d) k y us h = type_reads d (λ a. read Item.maybe_separator λ _. read Item.fields_of_interface λ fs. k (field o true n a ∷ fs)) y us h

  pub interface_reads : {fs : List TypeField} {ts : Words} → SpellsInterface fs ts → {A : Type 0} (k : List TypeField → Plan A) (z : Pos) (us : Words) → run kind (read Item.fields_of_interface k) (ts ++ keyword w.End z ∷ us) ≡ run kind (k fs) us
  interface_reads SpellsInterface.no_fields k z us = refl
  interface_reads (SpellsInterface.next_field {f = f} {ts = ts} {us = vs} {vs = ws} d j e) k z us =
      let b = behind_field (read Item.fields_of_interface λ fs. k (f ∷ fs)) j e z us in
      ap (run kind (read Item.fields_of_interface k)) (append_assoc ts (vs ++ ws) (keyword w.End z ∷ us) ∙ ap (λ x. ts ++ x) (append_assoc vs ws (keyword w.End z ∷ us) ∙ b.2))
      ∙ interface_field d k b.0 b.1 b.3 ∙ b.4 ∙ interface_reads e (λ fs. k (f ∷ fs)) z us

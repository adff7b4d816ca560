-- How the reader's steps in types follow the machine's.
use Rattle.std.proofs.Common.{◌≡◌, ℕ, ℤ, ◌+◌, ◌≤◌, Bool, true, false, Option, Some, None, List, [], ◌∷◌, ◌++◌, length, Result, Ok, Err, ◌<◌, ◌⊎◌, inl, inr, ◌==◌, refl, sym, ap, subst, ◌∙◌, arith, length-append, append_assoc, append-nil}
use Rattle.std.specs.Prelude.{if◌then◌else◌, codes, drop, neg_ℤ, ◌&&◌}
use Rattle.std.specs.Option.{is_some}
use Rattle.std.specs.Int.{w64, int_wrap}
use Rattle.std.proofs.lemmas.Bool.Decides.{nat_tests}
use Rattle.tl_base.specs.declared.place.Pos.{Pos}
use Rattle.tl_base.specs.declared.place.ModuleKind.{ModuleKind}
use Rattle.tl_base.specs.declared.place.ModuleKind.TheVariants as module_kind
use Rattle.lua_tree.specs.declared.annotation.Name.{Name}
use Rattle.lua_tree.specs.declared.annotation.TypeExpr.{TypeExpr}
use Rattle.lua_tree.specs.declared.annotation.TypeExpr.TheVariants as t
use Rattle.lua_tree.specs.declared.annotation.TypeField.{TypeField}
use Rattle.lua_tree.specs.declared.annotation.TypeTuple.{TypeTuple}
use Rattle.lua_tree.specs.declared.annotation.TypeResults.{TypeResults}
use Rattle.lua_tree.specs.declared.syntax.Block.{Block}
use Rattle.lua_lexer.specs.declared.token.Keyword.TheVariants as w
use Rattle.lua_lexer.specs.declared.token.Symbol.{Symbol}
use Rattle.lua_lexer.specs.declared.token.Symbol.TheVariants as s
use Rattle.lua_parser.specs.declared.cursor.Stop.{Stop}
use Rattle.lua_parser.specs.declared.type_parts.Items.{Items}
use Rattle.lua_parser.specs.declared.type_parts.FieldName.{FieldName}
use Rattle.lua_parser.specs.declared.type_parts.Named.TheVariants as named_part
use Rattle.lua_parser.specs.declared.type_parts.Join.{Join}
use Rattle.lua_parser.specs.declared.cursor.Stop.TheVariants as stop
use Rattle.lua_parser.specs.Words.{Word, Words, WordKind, Mark, mark, sign, key, marked, named, name_at, quoted}
use Rattle.lua_parser.specs.Grammar.Types.{Ending, place, InItself, InTuple, InType, field, tuple, results}
use Rattle.lua_parser.specs.Machine.Plan.{After, ended, joined, Item, Gives, Plan, done, want, want_name, read, Reply, stuck, takes}
use Rattle.lua_parser.specs.Machine.Steps.{is_typed, if_name, if_number, if_text, is_text, paren_step, mark_number, is_mark, union_of, tuple_then, single_result, start_plain, start_type, going, begun}
use Rattle.lua_parser.specs.Machine.Run.{run}
use Rattle.lua_parser.specs.Outcomes.{is_atom, head_atom, head_is, head_pos, head_name, head_number, head_text, Takes, TakesName}
use Rattle.lua_parser.specs.TypeReadings.{NoType, Refuses, ReadsIn, end_of_array, Encloses, ReadsNamed, rest_of_name, type_of_field, Leads, Fails, Turns, NoBar, joined_by, item_behind, rest_of_map, fields_behind}
use Rattle.lua_parser.proofs.Completeness.Plans.{want_on, after, run_takes, if_true, on, read_on, if_false, on_going, begins_as}
use Rattle.lua_parser.proofs.Completeness.Firsts.{after_name}
use Rattle.lua_parser.proofs.Completeness.Types.{named_unfold, type_unfold, tuple_unfold, results_unfold, body_results_unfold, mark_ends, name_ends, union_ends, results_end, bar_ends, body_results_end, paren_ends}

abbrev P : Type 0
P = Plan Block

-- ---- chains

pub leads_same : {G : Type 0} (from : (G → P) → P) (ts : Words) → Leads 0 from ts from ts
leads_same from ts = record { taken = omega arith; goes = λ kind k. refl }

pub leads_on : {G : Type 0} {m n : ℕ} {from to end : (G → P) → P} {old mid new : Words} → Leads m from old to mid → Leads n to mid end new → Leads (m + n) from old end new
leads_on f g = let a = f.taken in (let b = g.taken in record { taken = omega arith; goes = λ kind k. f.goes kind k ∙ g.goes kind k })

pub leads_less : {G : Type 0} {m : ℕ} (n : ℕ) {from to : (G → P) → P} {old new : Words} → Leads m from old to new → n ≤ m → Leads n from old to new
leads_less n f h = let a = f.taken in record { taken = omega arith; goes = f.goes }

-- a part of a plan is read
pub leads_part : {G H : Type 0} {m n : ℕ} {from : (G → P) → P} {part to : (H → P) → P} {old mid new : Words} (K : (G → P) → H → P) → Leads m from old (λ k. part (K k)) mid → Leads n part mid to new → Leads (m + n) from old (λ k. to (K k)) new
leads_part K f g = let a = f.taken in (let b = g.taken in record { taken = omega arith; goes = λ kind k. f.goes kind k ∙ g.goes kind (K k) })

takes_it : (kind : ModuleKind) (m : Mark) (p : Pos) (q : P) (new : Words) → run kind (want m (λ _. q)) (marked m p ∷ new) ≡ run kind q new
takes_it kind m p q new = let e : (mark_number m == mark_number m) ≡ true = grind (arith, nat_tests) in run_takes kind (want m (λ _. q)) q (marked m p) new (if_true _ _ _ e)

pub leads_want : {G : Type 0} {n : ℕ} {from : (G → P) → P} {old mid new : Words} (m : Mark) (to : (G → P) → P) → Leads n from old (λ k. want m (λ _. to k)) mid → Takes m mid (Ok tt) new → Leads (n + 1) from old to new
leads_want {n = n} {new = new} m to f g =
    let a = f.taken in (let b = ap length g.1 in record { taken = omega (arith, a, b); goes = λ kind k. f.goes kind k ∙ ap (run kind (want m (λ _. to k))) g.1 ∙ takes_it kind m g.0 (to k) new })

-- ---- failures

pub fails_at : {G : Type 0} {n : ℕ} {from to : (G → P) → P} {old mid new : Words} {e : Stop} → Leads n from old to mid → Fails to mid e new → Fails from old e new
fails_at f g = record { stops = λ h kind k. f.goes kind k ∙ g.stops h kind k }

-- What fails in a part fails in the whole.
pub fails_in : {G H : Type 0} {n : ℕ} {from : (G → P) → P} {part : (H → P) → P} {old mid new : Words} {e : Stop} (K : (G → P) → H → P) → Leads n from old (λ k. part (K k)) mid → Fails part mid e new → Fails from old e new
fails_in K f g = record { stops = λ h kind k. f.goes kind k ∙ g.stops h kind (K k) }

pub fails_otherwise : {G : Type 0} {from : (G → P) → P} {old new : Words} {e : Stop} → (e ≡ stop.Unexpected → ⊥) → Fails from old e new
fails_otherwise f = record { stops = λ h. absurd (f h) }

pub fails_deep : {G : Type 0} {from : (G → P) → P} {old new : Words} {e : Stop} → e ≡ stop.Deep → Fails from old e new
fails_deep {e = e} d = fails_otherwise (λ h. not_deep e d h)
  where
    not_deep : (e : Stop) → e ≡ stop.Deep → e ≡ stop.Unexpected → ⊥
    not_deep e d h = cc

pub fails_memory : {G : Type 0} {from : (G → P) → P} {old new : Words} {e : Stop} → e ≡ stop.NoMemory → Fails from old e new
fails_memory {e = e} d = fails_otherwise (λ h. not_memory e d h)
  where
    not_memory : (e : Stop) → e ≡ stop.NoMemory → e ≡ stop.Unexpected → ⊥
    not_memory e d h = cc

pub fails_here : {G : Type 0} {from : (G → P) → P} {old new : Words} {e : Stop} → new ≡ old → ((kind : ModuleKind) (k : G → P) → run kind (from k) old ≡ Err old) → Fails from old e new
fails_here {from = from} {old = old} {e = e} h f = subst (Fails from old e) (sym h) (record { stops = λ d kind k. f kind k })

pub meets_fails : (j : Item) (old new : Words) (e : Stop) → (e ≡ stop.Unexpected) × (new ≡ old) × (old ≡ []) → Fails (read j) old e new
meets_fails j old new e h = fails_here h.1 (λ kind k. over kind k old h.2)
  where
    over : (kind : ModuleKind) (k : Gives j → P) (ts : Words) → ts ≡ [] → run kind (read j k) ts ≡ Err ts
    over kind k [] h = refl
    over kind k (x ∷ ts) h = cc

-- What is read up to a plan, and on from it, is read.
pub turns_on : {G A : Type 0} {m : ℕ} (n q : A → ℕ) (from part : (G → P) → P) (to : A → (G → P) → P) (old mid new : Words) (r : Result A Stop) → Leads m from old part mid → ((v : A) → q v ≤ m + n v) → Turns n part to mid r new → Turns q from to old r new
turns_on n q from part to old mid new (Ok v) f h g = leads_less (q v) (leads_on f g) (h v)
turns_on n q from part to old mid new (Err e) f h g = fails_at f g

-- ---- what is known of the words

pub took : {G : Type 0} {n : ℕ} {from to : (G → P) → P} {old ts new : Words} → old ≡ ts → Leads n from ts to new → Leads n from old to new
took {n = n} {from = from} {to = to} {new = new} h f = subst (λ z. Leads n from z to new) (sym h) f

pub stayed : {G : Type 0} {n : ℕ} {from to : (G → P) → P} {old mid new : Words} → new ≡ mid → Leads n from old to mid → Leads n from old to new
stayed {n = n} {from = from} {to = to} {old = old} h f = subst (Leads n from old to) (sym h) f

-- the same value under another name
pub gives : {G : Type 0} {n : ℕ} {from : (G → P) → P} {old new : Words} {v w : G} → Leads n from old (λ k. k v) new → v ≡ w → Leads n from old (λ k. k w) new
gives {G = G} {n = n} {from = from} {old = old} {new = new} f h = subst (λ (z : G). Leads n from old (λ k. k z) new) h f

-- ---- a word that is wanted

pub want_fails : {G : Type 0} {n : ℕ} {from : (G → P) → P} {old mid new : Words} {e : Stop} (m : Mark) (K : (G → P) → Pos → P) → Leads n from old (λ k. want m (K k)) mid → (e ≡ stop.Unexpected) × (new ≡ mid) × (head_is m mid ≡ false) → Fails from old e new
want_fails {from = from} {old = old} {mid = mid} {e = e} m K f g = subst (Fails from old e) (sym g.1) (record { stops = λ d kind k. f.goes kind k ∙ stops_it kind m mid (K k) g.2 })
  where
    stops_it : (kind : ModuleKind) (m : Mark) (ts : Words) (c : Pos → P) → head_is m ts ≡ false → run kind (want m c) ts ≡ Err ts
    stops_it kind m [] c h = refl
    stops_it kind m (x ∷ ts) c h = ap (after kind x ts) (if_false (is_mark m x.kind) (takes (c x.pos)) stuck h)

-- ---- the beginnings of types

pub type_leads : (ts : Words) → Leads 0 (read Item.a_type) ts (λ k. read Item.a_member λ m. read (Item.more_of_union m.1) λ xs. k (union_of m.0 xs)) ts
type_leads ts = record { taken = omega arith; goes = λ kind k. type_unfold kind k ts }

pub member_leads : (ts : Words) → head_is (sign s.OpenParen) ts ≡ false → Leads 0 (read Item.a_member) ts (λ k. read Item.a_plain_member λ x. k (x, ended InItself)) ts
member_leads [] h = record { taken = omega arith; goes = λ kind k. refl }
member_leads (x ∷ ts) h = record {
  taken = omega arith;
  goes = λ kind k.
      read_on kind Item.a_member k x ts ∙ ap (λ o. on kind x ts (begun o) k) (if_false _ _ (going (start_plain x.pos x.kind) (λ y. done (y, ended InItself))) h)
      ∙ on_going kind x ts (start_plain x.pos x.kind) (λ y. done (y, ended InItself)) k ∙ sym (read_on kind Item.a_plain_member (λ y. k (y, ended InItself)) x ts);
}

pub paren_leads : (p : Pos) (ts : Words) → Leads 1 (read Item.a_member) (marked (sign s.OpenParen) p ∷ ts) (λ k. tuple_then λ a. read (Item.behind_tuple p a.0 a.1) k) ts
paren_leads p ts = record { taken = omega arith; goes = λ kind k. refl }

pub brace_leads : (p : Pos) (ts : Words) → Leads 1 (read Item.a_plain_member) (marked (sign s.OpenBrace) p ∷ ts) (λ k. read (Item.in_braces p) λ x. read (Item.maybe_mark x) k) ts
brace_leads p ts = record { taken = omega arith; goes = λ kind k. refl }

-- ---- the mark that is the first word, or not

-- what a reply at a first word does that isn't the mark
pub other_mark : {A B : Type 0} (kind : ModuleKind) (x : Word) (ts : Words) (b : Bool) (r q : Reply B) (k : B → Plan A) → b ≡ false → on kind x ts (if b then r else q) k ≡ on kind x ts q k
other_mark kind x ts b r q k h = ap (λ z. on kind x ts z k) (if_false b r q h)

pub mark_leads : (v : TypeExpr) (p : Pos) (ts : Words) → Leads 1 (read (Item.maybe_mark v)) (marked (sign s.Question) p ∷ ts) (λ k. k (t.Optional (place v) v)) ts
mark_leads v p ts = record { taken = omega arith; goes = λ kind k. refl }

-- where there is a first word
pub at_word : {G : Type 0} (from to : (G → P) → P) (ts : Words) → (ts ≡ [] → ⊥) → ((kind : ModuleKind) (k : G → P) (x : Word) (us : Words) → ts ≡ x ∷ us → run kind (from k) (x ∷ us) ≡ run kind (to k) (x ∷ us)) → Leads 0 from ts to ts
at_word from to [] h f = absurd (h refl)
at_word from to (x ∷ ts) h f = record { taken = omega arith; goes = λ kind k. f kind k x ts refl }

pub no_mark_leads : (v : TypeExpr) (x : Word) (ts : Words) → head_is (sign s.Question) (x ∷ ts) ≡ false → Leads 0 (read (Item.maybe_mark v)) (x ∷ ts) (λ k. k v) (x ∷ ts)
no_mark_leads v x ts h = record { taken = omega arith; goes = λ kind k. mark_ends kind v k x ts h }

pub no_mark : (v : TypeExpr) (ts : Words) → head_is (sign s.Question) ts ≡ false → (ts ≡ [] → ⊥) → Leads 0 (read (Item.maybe_mark v)) ts (λ k. k v) ts
no_mark v [] h f = absurd (f refl)
no_mark v (x ∷ ts) h f = no_mark_leads v x ts h

pub no_dot : (v : List ℕ) (ts : Words) → head_is (sign s.Dot) ts ≡ false → (ts ≡ [] → ⊥) → Leads 0 (read (Item.more_of_name v)) ts (λ k. k ([], v)) ts
no_dot v [] h f = absurd (f refl)
no_dot v (x ∷ ts) h f = record { taken = omega arith; goes = λ kind k. name_ends kind v k x ts h }

pub dot_leads : (v : List ℕ) (p : Pos) (x : Name) (ts : Words) → Leads 2 (read (Item.more_of_name v)) (marked (sign s.Dot) p ∷ named x ∷ ts) (λ k. read (Item.more_of_name x.text) λ d. k (v ∷ d.0, d.1)) ts
dot_leads v p x ts = record { taken = omega arith; goes = λ kind k. refl }

no_name_stops : (kind : ModuleKind) (x : WordKind) (q : Pos) (ts : Words) (c : Name → P) → if_name x (λ n. Some n) None ≡ None → run kind (want_name c) (record { kind = x; pos = q } ∷ ts) ≡ Err (record { kind = x; pos = q } ∷ ts)
no_name_stops kind (WordKind.name n) q ts c h = cc
no_name_stops kind (mark m) q ts c h = refl
no_name_stops kind (WordKind.number n) q ts c h = refl
no_name_stops kind (WordKind.text n) q ts c h = refl

pub name_fails : (ts : Words) → head_name ts ≡ None → (kind : ModuleKind) (c : Name → P) → run kind (want_name c) ts ≡ Err ts
name_fails [] h kind c = refl
name_fails (x ∷ ts) h kind c = no_name_stops kind x.kind x.pos ts c h

-- ---- members of a union

pub no_bar : (e : Ending) (ts : Words) → head_is (sign s.Pipe) ts ≡ false → (ts ≡ [] → ⊥) → Leads 0 (read (Item.more_of_union (ended e))) ts (λ k. k []) ts
no_bar e [] h f = absurd (f refl)
no_bar e (x ∷ ts) h f = record { taken = omega arith; goes = λ kind k. union_ends kind e k x ts h }

pub bar_leads : (p : Pos) (ts : Words) → Leads 1 (read (Item.more_of_union (ended InItself))) (marked (sign s.Pipe) p ∷ ts) (λ k. read Item.a_member λ m. read (Item.more_of_union m.1) λ xs. k (m.0 ∷ xs)) ts
bar_leads p ts = record { taken = omega arith; goes = λ kind k. refl }

pub joined_leads : (ts : Words) → Leads 0 (read (Item.more_of_union joined)) ts (λ k. read Item.a_plain_member λ x. read (Item.more_of_union (ended InItself)) λ xs. k (x ∷ xs)) ts
joined_leads [] = record { taken = omega arith; goes = λ kind k. refl }
joined_leads (x ∷ ts) = record { taken = omega arith; goes = λ kind k. begins_as kind (Item.more_of_union joined) Item.a_plain_member x ts (start_plain x.pos x.kind) (λ y. read (Item.more_of_union (ended InItself)) λ xs. done (y ∷ xs)) k refl refl }

bar_stops : (e : Ending) (ts : Words) → (e ≡ InItself → ⊥) → (ts ≡ []) ⊎ (head_is (sign s.Pipe) ts ≡ true) → (kind : ModuleKind) (k : List TypeExpr → P) → run kind (read (Item.more_of_union (ended e)) k) ts ≡ Err ts
bar_stops e [] f h kind k = refl
bar_stops InItself (x ∷ ts) f h kind k = absurd (f refl)
bar_stops InTuple (x ∷ ts) f (inl h) kind k = cc
bar_stops InTuple (x ∷ ts) f (inr h) kind k = read_on kind (Item.more_of_union (ended InTuple)) k x ts ∙ ap (λ r. on kind x ts r k) (if_true _ _ _ h)
bar_stops InType (x ∷ ts) f (inl h) kind k = cc
bar_stops InType (x ∷ ts) f (inr h) kind k = read_on kind (Item.more_of_union (ended InType)) k x ts ∙ ap (λ r. on kind x ts r k) (if_true _ _ _ h)

pub closed_turns : (e : Ending) (old : Words) (r : Result Join Stop) → (e ≡ InItself → ⊥) → NoBar old r → Turns (λ v. 0) (read (Item.more_of_union (ended e))) joined_by old r old
closed_turns e old (Ok j) f h = subst (λ z. Leads 0 (read (Item.more_of_union (ended e))) old (joined_by z) old) (sym h.0) (no_bar e old h.1 h.2)
closed_turns e old (Err d) f h = fails_here refl (bar_stops e old f h.1)

-- ---- tuples

pub no_types : (p : Pos) (ts : Words) → Leads 1 tuple_then (marked (sign s.CloseParen) p ∷ ts) (λ k. k ([], None)) ts
no_types p ts = record { taken = omega arith; goes = λ kind k. refl }

pub types_lead : (ts : Words) → head_is (sign s.CloseParen) ts ≡ false → Leads 0 tuple_then ts (λ k. read Item.a_type λ y. item_behind y k) ts
types_lead [] h = record { taken = omega arith; goes = λ kind k. refl }
types_lead (x ∷ ts) h = record { taken = omega arith; goes = λ kind k. tuple_unfold kind (λ r. want (sign s.CloseParen) λ _. k r) x ts h }

pub star_leads : (y : TypeExpr) (p : Pos) (ts : Words) → Leads 1 (item_behind y) (marked (sign s.Star) p ∷ ts) (λ k. want (sign s.CloseParen) λ _. k ([], Some y)) ts
star_leads y p ts = record { taken = omega arith; goes = λ kind k. refl }

pub comma_leads : (y : TypeExpr) (p : Pos) (ts : Words) → Leads 1 (item_behind y) (marked (sign s.Comma) p ∷ ts) (λ k. read Item.a_type λ z. item_behind z (λ r. k (y ∷ r.0, r.1))) ts
comma_leads y p ts = record { taken = omega arith; goes = λ kind k. refl }

pub last_leads : (y : TypeExpr) (ts : Words) → head_is (sign s.Star) ts ≡ false → head_is (sign s.Comma) ts ≡ false → Leads 0 (item_behind y) ts (λ k. want (sign s.CloseParen) λ _. k (y ∷ [], None)) ts
last_leads y [] h g = record { taken = omega arith; goes = λ kind k. refl }
last_leads y (x ∷ ts) h g = record {
  taken = omega arith;
  goes = λ kind k.
      read_on kind (Item.more_of_tuple y) (λ r. want (sign s.CloseParen) λ _. k r) x ts ∙ ap (λ z. on kind x ts z (λ r. want (sign s.CloseParen) λ _. k r)) (if_false _ _ _ h ∙ if_false _ _ _ g);
}

-- ---- results

pub results_lead : (p : Pos) (ts : Words) → Leads 1 (read Item.some_results) (marked (sign s.OpenParen) p ∷ ts) (λ k. tuple_then λ a. read Item.more_results λ r. k (results p (tuple a.0 a.1 ∷ r.0), r.1)) ts
results_lead p ts = record { taken = omega arith; goes = λ kind k. refl }

pub result_leads : (ts : Words) → head_is (sign s.OpenParen) ts ≡ false → Leads 0 (read Item.some_results) ts (λ k. read Item.a_type λ y. k (single_result y, ended InType)) ts
result_leads [] h = record { taken = omega arith; goes = λ kind k. refl }
result_leads (x ∷ ts) h = record { taken = omega arith; goes = λ kind k. results_unfold kind k x ts h }

pub results_end_leads : (ts : Words) → head_is (sign s.Pipe) ts ≡ false → (ts ≡ [] → ⊥) → Leads 0 (read Item.more_results) ts (λ k. k ([], ended InTuple)) ts
results_end_leads [] h f = absurd (f refl)
results_end_leads (x ∷ ts) h f = record { taken = omega arith; goes = λ kind k. results_end kind k x ts h }

pub more_results_lead : (p : Pos) (ts : Words) → Leads 1 (read Item.more_results) (marked (sign s.Pipe) p ∷ ts) (read Item.behind_bar) ts
more_results_lead p ts = record { taken = omega arith; goes = λ kind k. refl }

pub next_results_lead : (p : Pos) (ts : Words) → Leads 1 (read Item.behind_bar) (marked (sign s.OpenParen) p ∷ ts) (λ k. tuple_then λ a. read Item.more_results λ r. k (tuple a.0 a.1 ∷ r.0, r.1)) ts
next_results_lead p ts = record { taken = omega arith; goes = λ kind k. refl }

pub joined_results_lead : (ts : Words) → head_is (sign s.OpenParen) ts ≡ false → (ts ≡ [] → ⊥) → Leads 0 (read Item.behind_bar) ts (λ k. k ([], joined)) ts
joined_results_lead [] h f = absurd (f refl)
joined_results_lead (x ∷ ts) h f = record { taken = omega arith; goes = λ kind k. bar_ends kind k x ts h }

pub arrow_leads : (o : Pos) (xs : List TypeExpr) (rest : Option TypeExpr) (p : Pos) (ts : Words) → Leads 1 (read (Item.behind_tuple o xs rest)) (marked (sign s.Arrow) p ∷ ts) (λ k. read Item.some_results λ r. k (t.Function o (tuple xs rest) r.0, r.1)) ts
arrow_leads o xs rest p ts = record { taken = omega arith; goes = λ kind k. refl }

-- ---- braces

pub no_fields_lead : (o p : Pos) (ts : Words) → Leads 1 (read (Item.in_braces o)) (marked (sign s.CloseBrace) p ∷ ts) (λ k. k (t.Record o [])) ts
no_fields_lead o p ts = record { taken = omega arith; goes = λ kind k. refl }

pub map_leads : (o p : Pos) (ts : Words) → Leads 1 (read (Item.in_braces o)) (marked (sign s.OpenBracket) p ∷ ts) (rest_of_map o) ts
map_leads o p ts = record { taken = omega arith; goes = λ kind k. refl }

pub name_leads : (o : Pos) (x : Name) (ts : Words) → Leads 1 (read (Item.in_braces o)) (named x ∷ ts) (read (Item.named_in_braces o x)) ts
name_leads o x ts = record { taken = omega arith; goes = λ kind k. refl }

-- ---- literals

pub number_there : (ts : Words) (n : ℤ) → head_number ts ≡ Some n → 0 < length ts
number_there [] n h = cc
number_there (x ∷ ts) n h = omega arith

number_goes : (kind : ModuleKind) (p : Pos) (x : WordKind) (q : Pos) (ts : Words) (n : ℤ) (k : TypeExpr → P) → if_number x (λ i. Some i) None ≡ Some n → run kind (read (Item.negated p) k) (record { kind = x; pos = q } ∷ ts) ≡ run kind (k (t.Int p (int_wrap w64 (neg_ℤ n)))) ts
number_goes kind p (WordKind.number i) q ts n k h = let d : i ≡ n = cc in ap (λ z. run kind (k (t.Int p (int_wrap w64 (neg_ℤ z)))) ts) d
number_goes kind p (WordKind.name x) q ts n k h = cc
number_goes kind p (WordKind.text x) q ts n k h = cc
number_goes kind p (mark m) q ts n k h = cc

pub number_leads : (p : Pos) (ts new : Words) (n : ℤ) → head_number ts ≡ Some n → new ≡ drop 1 ts → Leads 1 (read (Item.negated p)) ts (λ k. k (t.Int p (int_wrap w64 (neg_ℤ n)))) new
number_leads p [] new n h g = cc
number_leads p (x ∷ ts) new n h g = stayed g (record { taken = omega arith; goes = λ kind k. number_goes kind p x.kind x.pos ts n k h })

no_number_stops : (kind : ModuleKind) (p : Pos) (x : WordKind) (q : Pos) (ts : Words) (k : TypeExpr → P) → if_number x (λ i. Some i) None ≡ None → run kind (read (Item.negated p) k) (record { kind = x; pos = q } ∷ ts) ≡ Err (record { kind = x; pos = q } ∷ ts)
no_number_stops kind p (WordKind.number i) q ts k h = cc
no_number_stops kind p (WordKind.name x) q ts k h = refl
no_number_stops kind p (WordKind.text x) q ts k h = refl
no_number_stops kind p (mark m) q ts k h = refl

pub no_number : (p : Pos) (ts : Words) → head_number ts ≡ None → (kind : ModuleKind) (k : TypeExpr → P) → run kind (read (Item.negated p) k) ts ≡ Err ts
no_number p [] h kind k = refl
no_number p (x ∷ ts) h kind k = no_number_stops kind p x.kind x.pos ts k h

-- ---- a type in parentheses

pub tail_stuck : (p : Pos) (xs : List TypeExpr) (rest : Option TypeExpr) (k : WordKind) → true ≡ is_some rest → paren_step p xs rest k ≡ stuck
tail_stuck p xs None k h = cc
tail_stuck p [] (Some y) k h = refl
tail_stuck p (x ∷ []) (Some y) k h = refl
tail_stuck p (x ∷ y ∷ xs) (Some z) k h = refl

pub many_stuck : (p : Pos) (xs : List TypeExpr) (rest : Option TypeExpr) (k : WordKind) → (length xs ≡ 1 → ⊥) → paren_step p xs rest k ≡ stuck
many_stuck p [] rest k h = refl
many_stuck p (x ∷ []) rest k h = absurd (h refl)
many_stuck p (x ∷ y ∷ xs) rest k h = refl

-- ---- literals, at the first word

pub nil_leads : (p : Pos) (ts : Words) → Leads 1 (read Item.a_plain_member) (marked (key w.Nil) p ∷ ts) (λ k. read (Item.maybe_mark (t.Nil p)) k) ts
nil_leads p ts = record { taken = omega arith; goes = λ kind k. refl }

pub true_leads : (p : Pos) (ts : Words) → Leads 1 (read Item.a_plain_member) (marked (key w.True) p ∷ ts) (λ k. read (Item.maybe_mark (t.Bool p true)) k) ts
true_leads p ts = record { taken = omega arith; goes = λ kind k. refl }

pub false_leads : (p : Pos) (ts : Words) → Leads 1 (read Item.a_plain_member) (marked (key w.False) p ∷ ts) (λ k. read (Item.maybe_mark (t.Bool p false)) k) ts
false_leads p ts = record { taken = omega arith; goes = λ kind k. refl }

pub minus_leads : (p : Pos) (ts : Words) → Leads 1 (read Item.a_plain_member) (marked (sign s.Minus) p ∷ ts) (λ k. read (Item.negated p) λ x. read (Item.maybe_mark x) k) ts
minus_leads p ts = record { taken = omega arith; goes = λ kind k. refl }

pub text_leads : (p : Pos) (x : List ℕ) (ts : Words) → Leads 1 (read Item.a_plain_member) (quoted x p ∷ ts) (λ k. read (Item.maybe_mark (t.Str p x)) k) ts
text_leads p x ts = record { taken = omega arith; goes = λ kind k. refl }

pub dotted_leads : (x : Name) (ts : Words) → Leads 1 (read Item.a_plain_member) (named x ∷ ts) (λ k. read (Item.more_of_name x.text) λ d. read (Item.maybe_mark (t.Named x.pos d.0 d.1)) k) ts
dotted_leads x ts = record { taken = omega arith; goes = λ kind k. refl }

int_goes : (kind : ModuleKind) (x : WordKind) (q : Pos) (ts : Words) (n : ℤ) (k : TypeExpr → P) → if_number x (λ i. Some i) None ≡ Some n → run kind (read Item.a_plain_member k) (record { kind = x; pos = q } ∷ ts) ≡ run kind (read (Item.maybe_mark (t.Int q n)) k) ts
int_goes kind (WordKind.number i) q ts n k h = let d : i ≡ n = cc in ap (λ z. run kind (read (Item.maybe_mark (t.Int q z)) k) ts) d
int_goes kind (WordKind.name x) q ts n k h = cc
int_goes kind (WordKind.text x) q ts n k h = cc
int_goes kind (mark m) q ts n k h = cc

pub int_leads : (ts new : Words) (n : ℤ) → head_number ts ≡ Some n → new ≡ drop 1 ts → Leads 1 (read Item.a_plain_member) ts (λ k. read (Item.maybe_mark (t.Int (head_pos ts) n)) k) new
int_leads [] new n h g = cc
int_leads (x ∷ ts) new n h g = stayed g (record { taken = omega arith; goes = λ kind k. int_goes kind x.kind x.pos ts n k h })

pub text_at : (ts us new : Words) (q p : Pos) (x : List ℕ) → us ≡ ts → q ≡ head_pos ts → us ≡ quoted x p ∷ new → Leads 1 (read Item.a_plain_member) ts (λ k. read (Item.maybe_mark (t.Str q x)) k) new
text_at ts us new q p x h g i = let d : p ≡ q = sym (ap head_pos i) ∙ ap head_pos h ∙ sym g in took (sym h ∙ i) (subst (λ (z : Pos). Leads 1 (read Item.a_plain_member) (quoted x p ∷ new) (λ k. read (Item.maybe_mark (t.Str z x)) k) new) d (text_leads p x new))

-- no type without a type in it begins there
pub record NoLiteral (ts : Words) : Type 0 where
  pub no_brace : head_is (sign s.OpenBrace) ts ≡ false
  pub no_nil : head_is (key w.Nil) ts ≡ false
  pub no_true : head_is (key w.True) ts ≡ false
  pub no_false : head_is (key w.False) ts ≡ false
  pub no_minus : head_is (sign s.Minus) ts ≡ false
  pub no_int : head_number ts ≡ None
  pub no_text : head_text ts ≡ None
  pub no_name : head_name ts ≡ None

if_no_number : {B : Type 0} (x : WordKind) (f : ℤ → B) (a : B) → if_number x (λ i. Some i) None ≡ None → if_number x f a ≡ a
if_no_number (WordKind.number i) f a h = cc
if_no_number (WordKind.name x) f a h = refl
if_no_number (WordKind.text x) f a h = refl
if_no_number (mark m) f a h = refl

if_no_text : {B : Type 0} (x : WordKind) (f : List ℕ → B) (a : B) → if_text x (λ i. Some i) None ≡ None → if_text x f a ≡ a
if_no_text (WordKind.number i) f a h = refl
if_no_text (WordKind.name x) f a h = refl
if_no_text (WordKind.text x) f a h = cc
if_no_text (mark m) f a h = refl

if_no_name : {B : Type 0} (x : WordKind) (f : List ℕ → B) (a : B) → if_name x (λ i. Some i) None ≡ None → if_name x f a ≡ a
if_no_name (WordKind.number i) f a h = refl
if_no_name (WordKind.name x) f a h = cc
if_no_name (WordKind.text x) f a h = refl
if_no_name (mark m) f a h = refl

pub no_plain : (x : Word) (ts : Words) → NoLiteral (x ∷ ts) → start_plain x.pos x.kind ≡ None
no_plain x ts h =
    if_false _ _ _ h.no_nil ∙ if_false _ _ _ h.no_true ∙ if_false _ _ _ h.no_false ∙ if_false _ _ _ h.no_minus ∙ if_false _ _ _ h.no_brace
    ∙ if_no_number x.kind _ _ h.no_int ∙ if_no_text x.kind _ _ h.no_text ∙ if_no_name x.kind _ _ h.no_name

pub literal_fails : (ts : Words) → NoLiteral ts → (kind : ModuleKind) (k : TypeExpr → P) → run kind (read Item.a_plain_member k) ts ≡ Err ts
literal_fails [] h kind k = refl
literal_fails (x ∷ ts) h kind k = read_on kind Item.a_plain_member k x ts ∙ ap (λ o. on kind x ts (begun o) k) (no_plain x ts h)

-- a mark that is the first word, and its place
pub at_head : {G : Type 0} {n : ℕ} (m : Mark) (from : (G → P) → P) (T : Pos → (G → P) → P) → ((p : Pos) (us : Words) → Leads n from (marked m p ∷ us) (T p) us) → (ts new : Words) (q p : Pos) → q ≡ head_pos ts → ts ≡ marked m p ∷ new → Leads n from ts (T q) new
at_head {n = n} m from T f ts new q p h g = let d : q ≡ p = h ∙ ap head_pos g in subst (λ (z : Pos). Leads n from ts (T z) new) (sym d) (took g (f p new))

pub int_at : (ts us new : Words) (q : Pos) (n m : ℤ) → us ≡ ts → q ≡ head_pos ts → head_number us ≡ Some n → new ≡ drop 1 us → m ≡ n → Leads 1 (read Item.a_plain_member) ts (λ k. read (Item.maybe_mark (t.Int q m)) k) new
int_at ts us new q n m h g i j l = let d : head_pos us ≡ q = ap head_pos h ∙ sym g in took (sym h) (rw l (subst (λ (z : Pos). Leads 1 (read Item.a_plain_member) us (λ k. read (Item.maybe_mark (t.Int z n)) k) new) d (int_leads us new n i j)))

-- What is read as a part of a plan is read as the plan.
pub turns_part : {G H A : Type 0} {m : ℕ} (n q : A → ℕ) (from : (G → P) → P) (part : (H → P) → P) (to : A → (H → P) → P) (K : (G → P) → H → P) (old mid new : Words) (r : Result A Stop) → Leads m from old (λ k. part (K k)) mid → ((v : A) → q v ≤ m + n v) → Turns n part to mid r new → Turns q from (λ v k. to v (K k)) old r new
turns_part n q from part to K old mid new (Ok v) f h g = leads_less (q v) (leads_part K f g) (h v)
turns_part n q from part to K old mid new (Err e) f h g = fails_in K f g

pub takes_name_fails : {G : Type 0} {n : ℕ} {from : (G → P) → P} {old mid new : Words} (e : Stop) (c : (G → P) → Name → P) → Leads n from old (λ k. want_name (c k)) mid → TakesName mid (Err e) new → Fails from old e new
takes_name_fails stop.Unexpected c f h = fails_at f (fails_here h.0 (λ kind k. name_fails _ h.1 kind (c k)))
takes_name_fails stop.NoMemory c f h = fails_memory refl
takes_name_fails stop.Deep c f h = cc
takes_name_fails stop.NotBuilt c f h = cc

pub literal_halts : (ts us new : Words) (e : Stop) → us ≡ ts → (head_name us ≡ None → NoLiteral ts) → TakesName us (Err e) new → Fails (read Item.a_plain_member) ts e new
literal_halts ts us new stop.Unexpected h f g = fails_here (g.0 ∙ h) (literal_fails ts (f g.1))
literal_halts ts us new stop.NoMemory h f g = fails_memory refl
literal_halts ts us new stop.Deep h f g = cc
literal_halts ts us new stop.NotBuilt h f g = cc

-- ---- dotted names

abbrev pub naming : Pos → List (List ℕ) → (TypeExpr → P) → List (List ℕ) × List ℕ → P
naming p parts k d = k (t.Named p (parts ++ d.0) d.1)

pub name_begins : (x : Name) (ts : Words) (parts : List (List ℕ)) → parts ≡ [] → Leads 0 (rest_of_name x) ts (λ k. read (Item.more_of_name x.text) (naming x.pos parts k)) ts
name_begins x ts parts h = subst (λ (z : List (List ℕ)). Leads 0 (rest_of_name x) ts (λ k. read (Item.more_of_name x.text) (naming x.pos z k)) ts) (sym h) (leads_same (rest_of_name x) ts)

dot_wants : (v : List ℕ) (p : Pos) (ts : Words) → Leads 1 (read (Item.more_of_name v)) (marked (sign s.Dot) p ∷ ts) (λ k. want_name λ y. read (Item.more_of_name y.text) λ d. k (v ∷ d.0, d.1)) ts
dot_wants v p ts = record { taken = omega arith; goes = λ kind k. refl }

pub name_wants : {from : (TypeExpr → P) → P} {old ts us : Words} (o : Pos) (parts : List (List ℕ)) (v : List ℕ) (p : Pos) → Leads 0 from old (λ k. read (Item.more_of_name v) (naming o parts k)) ts → ts ≡ marked (sign s.Dot) p ∷ us → Leads 1 from old (λ k. want_name λ y. read (Item.more_of_name y.text) λ d. naming o parts k (v ∷ d.0, d.1)) us
name_wants o parts v p f h = leads_part (naming o parts) f (took h (dot_wants v p _))

name_goes : {from : (TypeExpr → P) → P} {old us : Words} (o : Pos) (parts all : List (List ℕ)) (v x : List ℕ) → Leads 1 from old (λ k. read (Item.more_of_name x) λ d. naming o parts k (v ∷ d.0, d.1)) us → all ≡ parts ++ v ∷ [] → Leads 0 from old (λ k. read (Item.more_of_name x) (naming o all k)) us
name_goes {us = us} o parts all v x f h = let a = f.taken in record { taken = omega arith; goes = λ kind k. f.goes kind k ∙ ap (λ c. run kind (read (Item.more_of_name x) c) us) (λ i d. k (t.Named o (e d.0 i) d.1)) }
  where
    e : (ys : List (List ℕ)) → parts ++ (v ∷ ys) ≡ all ++ ys
    e ys = sym (ap (λ z. z ++ ys) h ∙ append_assoc parts (v ∷ []) ys)

pub name_more : {from : (TypeExpr → P) → P} {old ts us vs : Words} (o : Pos) (parts all : List (List ℕ)) (v : List ℕ) (p : Pos) (x : Name) → Leads 0 from old (λ k. read (Item.more_of_name v) (naming o parts k)) ts → ts ≡ marked (sign s.Dot) p ∷ us → us ≡ named x ∷ vs → all ≡ parts ++ v ∷ []
    → Leads 0 from old (λ k. read (Item.more_of_name x.text) (naming o all k)) vs
name_more o parts all v p x f h g i = name_goes o parts all v x.text (leads_less 1 (leads_part (naming o parts) f (took (h ∙ ap (λ z. marked (sign s.Dot) p ∷ z) g) (dot_leads v p x _))) (omega arith)) i

pub name_over : {from : (TypeExpr → P) → P} {old ts new : Words} (o : Pos) (parts : List (List ℕ)) (v : List ℕ) → Leads 0 from old (λ k. read (Item.more_of_name v) (naming o parts k)) ts → (new ≡ ts) × (head_is (sign s.Dot) ts ≡ false) × (ts ≡ [] → ⊥) → Leads 0 from old (λ k. k (t.Named o parts v)) new
name_over o parts v f h = gives (leads_part (naming o parts) f (stayed h.0 (no_dot v _ h.1 h.2))) (ap (λ z. t.Named o z v) (append-nil parts))

-- ---- parentheses

pub paren_at : (o : Pos) (x : TypeExpr) (ts : Words) → head_is (sign s.Arrow) ts ≡ false → (ts ≡ [] → ⊥) → Leads 0 (read (Item.behind_tuple o (x ∷ []) None)) ts (λ k. read (Item.maybe_mark (t.Paren o x)) λ z. k (z, ended InItself)) ts
paren_at o x [] h f = absurd (f refl)
paren_at o x (y ∷ ts) h f = record { taken = omega arith; goes = λ kind k. paren_ends kind o x k y ts h }

pub enclosed_leads : (o : Pos) (a : Items) (v : TypeExpr) (ts : Words) → Encloses o a (Ok v) → head_is (sign s.Arrow) ts ≡ false → (ts ≡ [] → ⊥) → Leads 0 (read (Item.behind_tuple o a.items a.tail)) ts (λ k. read (Item.maybe_mark v) λ z. k (z, ended InItself)) ts
enclosed_leads o a v ts h g f = rw (h.1, h.2, h.3) (paren_at o h.0 ts g f)

paren_stops : (o : Pos) (a : Items) (ts : Words) → ((k : WordKind) → paren_step o a.items a.tail k ≡ stuck) → head_is (sign s.Arrow) ts ≡ false → (kind : ModuleKind) (k : TypeExpr × After → P) → run kind (read (Item.behind_tuple o a.items a.tail) k) ts ≡ Err ts
paren_stops o a [] h g kind k = refl
paren_stops o a (x ∷ ts) h g kind k = read_on kind (Item.behind_tuple o a.items a.tail) k x ts ∙ ap (λ r. on kind x ts r k) (if_false _ _ _ g ∙ h x.kind)

pub enclosed_fails : (o : Pos) (a : Items) (e : Stop) (ts : Words) → Encloses o a (Err e) → head_is (sign s.Arrow) ts ≡ false → Fails (read (Item.behind_tuple o a.items a.tail)) ts e ts
enclosed_fails o a stop.Unexpected ts h g = fails_here refl (paren_stops o a ts h g)
enclosed_fails o a stop.NoMemory ts h g = fails_memory refl
enclosed_fails o a stop.Deep ts h g = fails_deep refl
enclosed_fails o a stop.NotBuilt ts h g = fails_otherwise (λ d. built d)
  where
    built : ◌≡◌ {A = Stop} stop.NotBuilt stop.Unexpected → ⊥
    built d = cc

-- ---- fields

colon_goes : (x : Name) (p : Pos) (ts : Words) → Leads 1 (read (Item.rest_of_field x)) (marked (sign s.Colon) p ∷ ts) (λ k. read Item.a_type λ a. k (field x.pos false x a)) ts
colon_goes x p ts = record { taken = omega arith; goes = λ kind k. refl }

const_goes : (x y : Name) (p : Pos) (ts : Words) → is_text x.text (codes "const") ≡ true → Leads 1 (read (Item.rest_of_field x)) (named y ∷ marked (sign s.Colon) p ∷ ts) (λ k. read Item.a_type λ a. k (field x.pos true y a)) ts
const_goes x y p ts h = record { taken = omega arith; goes = λ kind k. read_on kind (Item.rest_of_field x) k (named y) (marked (sign s.Colon) p ∷ ts) ∙ ap (λ r. on kind (named y) (marked (sign s.Colon) p ∷ ts) r k) (if_true _ _ _ h) }

field_is : {from : (TypeField → P) → P} {old new : Words} (f : FieldName) (s : Pos) (b : Bool) (x : Name) → f.pos ≡ s → f.is_const ≡ b → f.name ≡ x → Leads 1 from old (λ k. read Item.a_type λ a. k (field s b x a)) new → Leads 1 from old (type_of_field f) new
field_is f s b x i h g l = rw (i, h, g) l

pub field_leads : (x : Name) (old new : Words) (f : FieldName) → ReadsNamed x old (Ok (named_part.Field f)) new → Leads 1 (read (Item.rest_of_field x)) old (type_of_field f) new
field_leads x old new f (l, s, inl (p, a, b, e)) = field_is f x.pos false x s a b (took e (colon_goes x p new))
field_leads x old new f (l, s, inr (p, a, b, e)) = field_is f x.pos true f.name s a refl (took e (const_goes x f.name p new b))

no_field : (x : Name) (ts : Words) → head_is (sign s.Colon) ts ≡ false → (is_text x.text (codes "const") ≡ true → head_name ts ≡ None) → (kind : ModuleKind) (k : TypeField → P) → run kind (read (Item.rest_of_field x) k) ts ≡ Err ts
no_field x [] h f kind k = refl
no_field x (y ∷ ts) h f kind k = read_on kind (Item.rest_of_field x) k y ts ∙ ap (λ r. on kind y ts r k) (if_false _ _ _ h) ∙ go kind y.kind y.pos ts k (is_text x.text (codes "const")) f
  where
    go : (kind : ModuleKind) (c : WordKind) (q : Pos) (ts : Words) (k : TypeField → P) (b : Bool) → (b ≡ true → if_name c (λ n. Some n) None ≡ None)
        → on kind (record { kind = c; pos = q }) ts (if_name c (λ y. if b then takes (want (sign s.Colon) λ _. read Item.a_type λ a. done (field x.pos true (name_at q y) a)) else stuck) stuck) k ≡ Err (record { kind = c; pos = q } ∷ ts)
    go kind (WordKind.name n) q ts k true f = let d = f refl in cc
    go kind (WordKind.name n) q ts k false f = refl
    go kind (WordKind.number n) q ts k b f = refl
    go kind (WordKind.text n) q ts k b f = refl
    go kind (mark m) q ts k b f = refl

pub other_fails : (x y : Name) (old new : Words) → ReadsNamed x old (Ok (named_part.Other y)) new → Fails (read (Item.rest_of_field x)) old stop.Unexpected new
other_fails x y old new h = fails_here h.1 (no_field x old h.2 h.3)

const_stops : (x y : Name) (old new : Words) → is_text x.text (codes "const") ≡ true → head_is (sign s.Colon) new ≡ false → (kind : ModuleKind) (k : TypeField → P) → run kind (read (Item.rest_of_field x) k) (named y ∷ new) ≡ Err new
const_stops x y old new h g kind k = read_on kind (Item.rest_of_field x) k (named y) new ∙ ap (λ r. on kind (named y) new r k) (if_true _ _ _ h) ∙ (want_fails (sign s.Colon) (λ (k : TypeField → P) _. read Item.a_type λ a. k (field x.pos true y a)) (leads_same (λ k. want (sign s.Colon) λ _. read Item.a_type λ a. k (field x.pos true y a)) new) (refl, refl, g)).stops refl kind k

pub field_fails : (x : Name) (e : Stop) (old new : Words) → ReadsNamed x old (Err e) new → Fails (read (Item.rest_of_field x)) old e new
field_fails x stop.Unexpected old new h = record { stops = λ d kind k. ap (run kind (read (Item.rest_of_field x) k)) h.2 ∙ const_stops x h.0 old new h.1 h.3 kind k }
field_fails x stop.NoMemory old new h = fails_memory refl
field_fails x stop.Deep old new h = fails_deep refl
field_fails x stop.NotBuilt old new h = fails_otherwise (λ d. built d)
  where
    built : ◌≡◌ {A = Stop} stop.NotBuilt stop.Unexpected → ⊥
    built d = cc

-- ---- what the reader of types reads on to

abbrev pub unioned : (TypeExpr → P) → TypeExpr × After → P
unioned k m = read (Item.more_of_union m.1) λ xs. k (union_of m.0 xs)

abbrev pub union_with : TypeExpr → (TypeExpr → P) → List TypeExpr → P
union_with x k xs = k (union_of x xs)

abbrev pub many : Pos → List TypeExpr → (TypeExpr → P) → List TypeExpr → P
many p types k xs = k (t.Union p (types ++ xs))

abbrev pub then_more : (List TypeExpr → P) → TypeExpr → P
then_more k x = read (Item.more_of_union (ended InItself)) λ xs. k (x ∷ xs)

abbrev pub then_members : (List TypeExpr → P) → TypeExpr × After → P
then_members k m = read (Item.more_of_union m.1) λ xs. k (m.0 ∷ xs)

abbrev pub in_itself : (TypeExpr × After → P) → TypeExpr → P
in_itself k x = k (x, ended InItself)

abbrev pub then_mark : (TypeExpr → P) → TypeExpr → P
then_mark k x = read (Item.maybe_mark x) k

abbrev pub in_brace : Pos → (TypeExpr → P) → P
in_brace p k = read (Item.in_braces p) (then_mark k)

abbrev pub then_behind : Pos → (TypeExpr × After → P) → List TypeExpr × Option TypeExpr → P
then_behind p k a = read (Item.behind_tuple p a.0 a.1) k

abbrev pub then_function : Pos → List TypeExpr → Option TypeExpr → (TypeExpr × After → P) → TypeResults × After → P
then_function o xs rest k r = k (t.Function o (tuple xs rest) r.0, r.1)

abbrev pub in_row : List TypeExpr → (List TypeExpr × Option TypeExpr → P) → TypeExpr → P
in_row xs k y = item_behind y (λ r. k (xs ++ r.0, r.1))

abbrev pub packed : List TypeExpr → (List TypeExpr × Option TypeExpr → P) → List TypeExpr × Option TypeExpr → P
packed xs k r = k (xs ++ r.0, r.1)

abbrev pub as_single : (TypeResults × After → P) → TypeExpr → P
as_single k y = k (single_result y, ended InType)

abbrev pub more_tuples : Pos → List TypeTuple → (TypeResults × After → P) → List TypeExpr × Option TypeExpr → P
more_tuples p xs k a = read Item.more_results λ r. k (results p (xs ++ tuple a.0 a.1 ∷ r.0), r.1)

abbrev pub first_tuple : Pos → (TypeResults × After → P) → P
first_tuple p k = tuple_then λ a. read Item.more_results λ r. k (results p (tuple a.0 a.1 ∷ r.0), r.1)

abbrev pub returned : Pos → List TypeTuple → (TypeResults × After → P) → List TypeTuple × After → P
returned p ys k r = k (results p (ys ++ r.0), r.1)

abbrev pub then_array : Pos → (TypeExpr → P) → TypeExpr → P
then_array o k x = end_of_array o x k

abbrev pub map_end : Pos → TypeExpr → (TypeExpr → P) → TypeExpr → P
map_end p x k y = want (sign s.CloseBrace) λ _. k (t.Map p x y)

abbrev pub map_value : Pos → TypeExpr → (TypeExpr → P) → P
map_value p x k = read Item.a_type (map_end p x k)

abbrev pub map_colon : Pos → TypeExpr → (TypeExpr → P) → P
map_colon p x k = want (sign s.Colon) λ _. map_value p x k

abbrev pub map_key : Pos → (TypeExpr → P) → TypeExpr → P
map_key p k x = want (sign s.CloseBracket) λ _. map_colon p x k

abbrev pub as_record : Pos → (TypeExpr → P) → List TypeField → P
as_record o k fs = k (t.Record o fs)

abbrev pub after_mark : Pos → (TypeExpr → P) → TypeExpr → P
after_mark o k a = read (Item.more_of_union (ended InItself)) λ xs. end_of_array o (union_of a xs) k

abbrev pub then_union : Pos → (TypeExpr → P) → TypeExpr → P
then_union o k v = read (Item.maybe_mark v) (after_mark o k)

abbrev pub fields_with : List TypeField → (List TypeField → P) → List TypeField → P
fields_with xs k fs = k (xs ++ fs)

abbrev pub typed_field : FieldName → List TypeField → (List TypeField → P) → TypeExpr → P
typed_field f xs k a = read Item.more_of_fields λ fs. k (xs ++ field f.pos f.is_const f.name a ∷ fs)

abbrev pub then_fields : (List TypeField → P) → TypeField → P
then_fields k f = read Item.more_of_fields λ fs. k (f ∷ fs)

-- ---- steps of the loops

pub none_is : {A : Type 0} (o : Option A) → ((x : A) → o ≡ Some x → ⊥) → o ≡ None
none_is None f = refl
none_is (Some x) f = absurd (f x refl)

pub still : (m : Mark) (ts us : Words) → us ≡ ts → head_is m ts ≡ false → head_is m us ≡ false
still m ts us h g = ap (head_is m) h ∙ g

pub still_there : (m : Mark) (ts us : Words) → (us ≡ ts) × (head_is m ts ≡ false) × (ts ≡ [] → ⊥) → (us ≡ us) × (head_is m us ≡ false) × (us ≡ [] → ⊥)
still_there m ts us h = (refl, still m ts us h.0 h.1, λ e. h.2 (sym h.0 ∙ e))

pub union_begins : {from : (TypeExpr → P) → P} {old new : Words} (x y : TypeExpr) (a : After) (p : Pos) (types : List TypeExpr) → Leads 1 from old (λ k. read (Item.more_of_union a) λ xs. k (t.Union (place x) (x ∷ y ∷ xs))) new → p ≡ place x → types ≡ x ∷ y ∷ [] → Leads 0 from old (λ k. read (Item.more_of_union a) (many p types k)) new
union_begins x y a p types f h g = rw (h, g) (leads_less 0 f (omega arith))

pub appended : {A : Type 0} (xs all : List A) (x : A) → all ≡ xs ++ x ∷ [] → (ys : List A) → xs ++ (x ∷ ys) ≡ all ++ ys
appended xs all x h ys = sym (ap (λ z. z ++ ys) h ∙ append_assoc xs (x ∷ []) ys)

pub union_more : {from : (TypeExpr → P) → P} {old ts new : Words} (p : Pos) (types all : List TypeExpr) (a b : After) (x : TypeExpr) → Leads 0 from old (λ k. read (Item.more_of_union a) (many p types k)) ts → Leads 1 (read (Item.more_of_union a)) ts (λ k. read (Item.more_of_union b) λ xs. k (x ∷ xs)) new → all ≡ types ++ x ∷ []
    → Leads 0 from old (λ k. read (Item.more_of_union b) (many p all k)) new
union_more {new = new} p types all a b x f g h =
    let l = leads_part (many p types) f g in (let c = l.taken in record { taken = omega arith; goes = λ kind k. l.goes kind k ∙ ap (λ q. run kind (read (Item.more_of_union b) q) new) (λ i xs. k (t.Union p (appended types all x h xs i))) })

pub types_begin : {from : (List TypeExpr × Option TypeExpr → P) → P} {old ts : Words} (xs : List TypeExpr) → xs ≡ [] → Leads 0 from old (λ k. read Item.a_type λ y. item_behind y k) ts → Leads 0 from old (λ k. read Item.a_type (in_row xs k)) ts
types_begin xs h f = rw h f

pub types_more : {from : (List TypeExpr × Option TypeExpr → P) → P} {m : ℕ} {old new : Words} (xs all : List TypeExpr) (y : TypeExpr) → Leads m from old (λ k. read Item.a_type λ z. item_behind z (λ r. packed xs k (y ∷ r.0, r.1))) new → all ≡ xs ++ y ∷ [] → Leads 0 from old (λ k. read Item.a_type (in_row all k)) new
types_more {new = new} xs all y f h = let c = f.taken in record { taken = omega arith; goes = λ kind k. f.goes kind k ∙ ap (λ q. run kind (read Item.a_type q) new) (λ i z. item_behind z (λ r. k (appended xs all y h r.0 i, r.1))) }

pub items_nil : (xs : List TypeExpr) → xs ≡ [] → ◌≡◌ {A = List TypeExpr × Option TypeExpr} ([], None) (xs, None)
items_nil xs h = ap (λ (z : List TypeExpr). let v : List TypeExpr × Option TypeExpr = (z, None) in v) (sym h)

pub items_tail : (xs : List TypeExpr) (x y : TypeExpr) → y ≡ x → ◌≡◌ {A = List TypeExpr × Option TypeExpr} (xs ++ [], Some x) (xs, Some y)
items_tail xs x y h = rw (append-nil, h) refl

pub items_last : (xs all : List TypeExpr) (x : TypeExpr) → all ≡ xs ++ x ∷ [] → ◌≡◌ {A = List TypeExpr × Option TypeExpr} (xs ++ x ∷ [], None) (all, None)
items_last xs all x h = rw h refl

pub single_is : (x y : TypeResults) → y ≡ x → ◌≡◌ {A = TypeResults × After} (x, ended InType) (y, ended InType)
single_is x y h = rw h refl

pub tuples_begin : {from : (TypeResults × After → P) → P} {old new : Words} (p : Pos) (xs : List TypeTuple) → xs ≡ [] → Leads 1 from old (first_tuple p) new → Leads 1 from old (λ k. tuple_then (more_tuples p xs k)) new
tuples_begin p xs h f = rw h f

pub tuples_pushed : {from : (TypeResults × After → P) → P} {m : ℕ} {old new : Words} (p : Pos) (xs all : List TypeTuple) (x y : TypeTuple) → Leads m from old (λ k. read Item.more_results λ r. k (results p (xs ++ x ∷ r.0), r.1)) new → y ≡ x → all ≡ xs ++ y ∷ [] → Leads m from old (λ k. read Item.more_results (returned p all k)) new
tuples_pushed {new = new} p xs all x y f g h = let e : all ≡ xs ++ x ∷ [] = h ∙ ap (λ z. xs ++ z ∷ []) g in record { taken = f.taken; goes = λ kind k. f.goes kind k ∙ ap (λ q. run kind (read Item.more_results q) new) (λ i r. k (results p (appended xs all x e r.0 i), r.1)) }

pub returned_is : (p : Pos) (ys : List TypeTuple) (a : After) → ◌≡◌ {A = TypeResults × After} (results p (ys ++ []), a) (results p ys, a)
returned_is p ys a = rw append-nil refl

pub array_leads : (o : Pos) (ts : Words) → head_is (sign s.CloseBrace) ts ≡ false → head_is (sign s.OpenBracket) ts ≡ false → head_name ts ≡ None → Leads 0 (read (Item.in_braces o)) ts (λ k. read Item.a_type (then_array o k)) ts
array_leads o [] h g i = record { taken = omega arith; goes = λ kind k. refl }
array_leads o (x ∷ ts) h g i = record { taken = omega arith; goes = λ kind k. begins_as kind (Item.in_braces o) Item.a_type x ts (start_type x.pos x.kind) (λ y. want (sign s.CloseBrace) λ _. done (t.Array o y)) k refl (if_false _ _ _ h ∙ if_false _ _ _ g ∙ if_no_name x.kind _ _ i) }

-- ---- records

pub fields_start : (f : FieldName) (ts : Words) (xs : List TypeField) → xs ≡ [] → Leads 0 (fields_behind f) ts (λ k. fields_behind f (fields_with xs k)) ts
fields_start f ts xs h = rw h (leads_same (fields_behind f) ts)

pub fields_pushed : {from : (List TypeField → P) → P} {m : ℕ} {old new : Words} (xs all : List TypeField) (x y : TypeField) → Leads m from old (λ k. read Item.more_of_fields λ fs. k (xs ++ x ∷ fs)) new → y ≡ x → all ≡ xs ++ y ∷ [] → Leads m from old (λ k. read Item.more_of_fields (fields_with all k)) new
fields_pushed {new = new} xs all x y f g h = let e : all ≡ xs ++ x ∷ [] = h ∙ ap (λ z. xs ++ z ∷ []) g in record { taken = f.taken; goes = λ kind k. f.goes kind k ∙ ap (λ q. run kind (read Item.more_of_fields q) new) (λ i fs. k (appended xs all x e fs i)) }

pub fields_end_leads : (ts : Words) → head_is (sign s.Comma) ts ≡ false → Leads 0 (read Item.more_of_fields) ts (λ k. want (sign s.CloseBrace) λ _. k []) ts
fields_end_leads [] h = record { taken = omega arith; goes = λ kind k. refl }
fields_end_leads (x ∷ ts) h = record { taken = omega arith; goes = λ kind k. read_on kind Item.more_of_fields k x ts ∙ ap (λ r. on kind x ts r k) (if_false _ _ _ h) ∙ want_on kind (sign s.CloseBrace) [] k x ts }

pub comma_fields : (p : Pos) (ts : Words) → Leads 1 (read Item.more_of_fields) (marked (sign s.Comma) p ∷ ts) (read Item.next_field) ts
comma_fields p ts = record { taken = omega arith; goes = λ kind k. refl }

pub brace_ends : (p : Pos) (ts : Words) → Leads 1 (read Item.next_field) (marked (sign s.CloseBrace) p ∷ ts) (λ k. k []) ts
brace_ends p ts = record { taken = omega arith; goes = λ kind k. refl }

wants_field : (kind : ModuleKind) (c : WordKind) (q : Pos) (ts : Words) (k : List TypeField → P)
    → on kind (record { kind = c; pos = q }) ts (if_name c (λ x. takes (read (Item.rest_of_field (name_at q x)) λ f. read Item.more_of_fields λ fs. done (f ∷ fs))) stuck) k ≡ run kind (want_name λ x. read (Item.rest_of_field x) (then_fields k)) (record { kind = c; pos = q } ∷ ts)
wants_field kind (WordKind.name n) q ts k = refl
wants_field kind (WordKind.number n) q ts k = refl
wants_field kind (WordKind.text n) q ts k = refl
wants_field kind (mark m) q ts k = refl

pub field_wants : (ts : Words) → head_is (sign s.CloseBrace) ts ≡ false → Leads 0 (read Item.next_field) ts (λ k. want_name λ x. read (Item.rest_of_field x) (then_fields k)) ts
field_wants [] h = record { taken = omega arith; goes = λ kind k. refl }
field_wants (x ∷ ts) h = record { taken = omega arith; goes = λ kind k. read_on kind Item.next_field k x ts ∙ ap (λ r. on kind x ts r k) (if_false _ _ _ h) ∙ wants_field kind x.kind x.pos ts k }

pub leads_name : {G : Type 0} {n : ℕ} {from : (G → P) → P} {old mid new : Words} (x : Name) (c : Name → (G → P) → P) → Leads n from old (λ k. want_name (λ y. c y k)) mid → mid ≡ named x ∷ new → Leads (n + 1) from old (c x) new
leads_name {n = n} x c f h = let a = f.taken in (let b = ap length h in record { taken = omega (arith, a, b); goes = λ kind k. f.goes kind k ∙ ap (run kind (want_name (λ y. c y k))) h })

abbrev pub field_after : Name → (List TypeField → P) → P
field_after x k = read (Item.rest_of_field x) (then_fields k)

-- ---- a name in braces

const_step : (o : Pos) (x y : Name) (p : Pos) (ts : Words) → is_text x.text (codes "const") ≡ true → Leads 1 (read (Item.named_in_braces o x)) (named y ∷ marked (sign s.Colon) p ∷ ts) (λ k. read Item.a_type λ a. read Item.more_of_fields λ fs. as_record o k (field x.pos true y a ∷ fs)) ts
const_step o x y p ts h = record { taken = omega arith; goes = λ kind k. read_on kind (Item.named_in_braces o x) k (named y) (marked (sign s.Colon) p ∷ ts) ∙ ap (λ r. on kind (named y) (marked (sign s.Colon) p ∷ ts) r k) (if_true _ _ _ h) }

colon_step : (o : Pos) (x : Name) (p : Pos) (ts : Words) → Leads 1 (read (Item.named_in_braces o x)) (marked (sign s.Colon) p ∷ ts) (λ k. read Item.a_type λ a. read Item.more_of_fields λ fs. as_record o k (field x.pos false x a ∷ fs)) ts
colon_step o x p ts = record { taken = omega arith; goes = λ kind k. refl }

fields_are : {from : (TypeExpr → P) → P} {old new : Words} (o : Pos) (f : FieldName) (s : Pos) (b : Bool) (x : Name) → f.pos ≡ s → f.is_const ≡ b → f.name ≡ x → Leads 1 from old (λ k. read Item.a_type λ a. read Item.more_of_fields λ fs. as_record o k (field s b x a ∷ fs)) new → Leads 1 from old (λ k. fields_behind f (as_record o k)) new
fields_are o f s b x i h g l = rw (i, h, g) l

pub named_field_leads : (o : Pos) (x : Name) (old new : Words) (f : FieldName) → ReadsNamed x old (Ok (named_part.Field f)) new → Leads 1 (read (Item.named_in_braces o x)) old (λ k. fields_behind f (as_record o k)) new
named_field_leads o x old new f (l, s, inl (p, a, b, e)) = fields_are o f x.pos false x s a b (took e (colon_step o x p new))
named_field_leads o x old new f (l, s, inr (p, a, b, e)) = fields_are o f x.pos true f.name s a refl (took e (const_step o x f.name p new b))

named_const_stops : (o : Pos) (x y : Name) (new : Words) → is_text x.text (codes "const") ≡ true → head_is (sign s.Colon) new ≡ false → (kind : ModuleKind) (k : TypeExpr → P) → run kind (read (Item.named_in_braces o x) k) (named y ∷ new) ≡ Err new
named_const_stops o x y new h g kind k = read_on kind (Item.named_in_braces o x) k (named y) new ∙ ap (λ r. on kind (named y) new r k) (if_true _ _ _ h)
    ∙ (want_fails (sign s.Colon) (λ (k : TypeExpr → P) _. read Item.a_type λ a. read Item.more_of_fields λ fs. as_record o k (field x.pos true y a ∷ fs)) (leads_same (λ k. want (sign s.Colon) λ _. read Item.a_type λ a. read Item.more_of_fields λ fs. as_record o k (field x.pos true y a ∷ fs)) new) (refl, refl, g)).stops refl kind k

pub named_fails : (o : Pos) (x : Name) (e : Stop) (old new : Words) → ReadsNamed x old (Err e) new → Fails (read (Item.named_in_braces o x)) old e new
named_fails o x stop.Unexpected old new h = record { stops = λ d kind k. ap (run kind (read (Item.named_in_braces o x) k)) h.2 ∙ named_const_stops o x h.0 new h.1 h.3 kind k }
named_fails o x stop.NoMemory old new h = fails_memory refl
named_fails o x stop.Deep old new h = fails_deep refl
named_fails o x stop.NotBuilt old new h = fails_otherwise (λ d. built d)
  where
    built : ◌≡◌ {A = Stop} stop.NotBuilt stop.Unexpected → ⊥
    built d = cc

no_colon_after : (m : Mark) → is_mark (sign s.Colon) (mark m) ≡ false → after_name (mark m) ≡ true
no_colon_after (sign s.Colon) h = cc
no_colon_after m h = refl

name_stops : (o : Pos) (x : Name) (n : List ℕ) (q : Pos) (ts : Words) (kind : ModuleKind) (k : TypeExpr → P) (b : Bool) → is_text x.text (codes "const") ≡ b → (b ≡ true → ⊥) → run kind (read (Item.named_in_braces o x) k) (named (name_at q n) ∷ ts) ≡ Err (named (name_at q n) ∷ ts)
name_stops o x n q ts kind k true h f = absurd (f refl)
name_stops o x n q ts kind k false h f = read_on kind (Item.named_in_braces o x) k (named (name_at q n)) ts ∙ ap (λ r. on kind (named (name_at q n)) ts r k) (if_false _ _ _ h)

named_other : (o : Pos) (x : Name) (c : WordKind) (q : Pos) (ts : Words) (kind : ModuleKind) (k : TypeExpr → P) → is_mark (sign s.Colon) c ≡ false → (is_text x.text (codes "const") ≡ true → if_name c (λ n. Some n) None ≡ None)
    → run kind (read (Item.named_in_braces o x) k) (record { kind = c; pos = q } ∷ ts) ≡ run kind (rest_of_name x (then_union o k)) (record { kind = c; pos = q } ∷ ts)
named_other o x (mark m) q ts kind k h f = named_unfold kind o x k (record { kind = mark m; pos = q }) ts (no_colon_after m h)
named_other o x (WordKind.number n) q ts kind k h f = named_unfold kind o x k (record { kind = WordKind.number n; pos = q }) ts refl
named_other o x (WordKind.text n) q ts kind k h f = named_unfold kind o x k (record { kind = WordKind.text n; pos = q }) ts refl
named_other o x (WordKind.name n) q ts kind k h f = name_stops o x n q ts kind k (is_text x.text (codes "const")) refl (λ e. let d = f e in cc)

pub named_other_leads : (o : Pos) (x y : Name) (old new : Words) → ReadsNamed x old (Ok (named_part.Other y)) new → Leads 0 (read (Item.named_in_braces o x)) old (λ k. rest_of_name y (then_union o k)) new
named_other_leads o x y old new h = rw h.0 (stayed h.1 (goes_on old h.2 h.3))
  where
    goes_on : (ts : Words) → head_is (sign s.Colon) ts ≡ false → (is_text x.text (codes "const") ≡ true → head_name ts ≡ None) → Leads 0 (read (Item.named_in_braces o x)) ts (λ k. rest_of_name x (then_union o k)) ts
    goes_on [] g f = record { taken = omega arith; goes = λ kind k. refl }
    goes_on (z ∷ ts) g f = record { taken = omega arith; goes = λ kind k. named_other o x z.kind z.pos ts kind k g f }

pub one_of : (xs ys : List TypeExpr) (x : TypeExpr) → length xs ≡ 1 → xs ≡ ys ++ x ∷ [] → xs ≡ x ∷ []
one_of xs [] x h e = e
one_of xs (y ∷ ys) x h e = let l : 1 ≡ length ((y ∷ ys) ++ x ∷ []) = sym h ∙ ap length e in absurd (omega (arith, l, length-append ys (x ∷ [])))

pub no_tail : (o : Option TypeExpr) → false ≡ is_some o → o ≡ None
no_tail None h = refl
no_tail (Some x) h = cc

pub empty_stuck : (p : Pos) (xs ys : List TypeExpr) (rest : Option TypeExpr) (k : WordKind) → length xs ≡ 1 → xs ≡ ys → length ys ≡ 0 → paren_step p xs rest k ≡ stuck
empty_stuck p xs ys rest k h e g = let l = ap length e in absurd (omega (arith, l))

-- ---- results of bodies

abbrev pub more_bodies : Pos → List TypeTuple → (TypeResults → P) → List TypeExpr × Option TypeExpr → P
more_bodies p xs k a = read Item.more_body_results λ r. k (results p (xs ++ tuple a.0 a.1 ∷ r))

abbrev pub first_body : Pos → (TypeResults → P) → P
first_body p k = tuple_then λ a. read Item.more_body_results λ r. k (results p (tuple a.0 a.1 ∷ r))

abbrev pub bodies : Pos → List TypeTuple → (TypeResults → P) → List TypeTuple → P
bodies p ys k r = k (results p (ys ++ r))

abbrev pub only_result : (TypeResults → P) → TypeExpr → P
only_result k y = k (single_result y)

pub body_results_lead : (p : Pos) (ts : Words) → Leads 1 (read Item.body_results) (marked (sign s.OpenParen) p ∷ ts) (first_body p) ts
body_results_lead p ts = record { taken = omega arith; goes = λ kind k. refl }

pub body_result_leads : (ts : Words) → head_is (sign s.OpenParen) ts ≡ false → Leads 0 (read Item.body_results) ts (λ k. read Item.a_type (only_result k)) ts
body_result_leads [] h = record { taken = omega arith; goes = λ kind k. refl }
body_result_leads (x ∷ ts) h = record { taken = omega arith; goes = λ kind k. body_results_unfold kind k x ts h }

pub body_end_leads : (ts : Words) → head_is (sign s.Pipe) ts ≡ false → (ts ≡ [] → ⊥) → Leads 0 (read Item.more_body_results) ts (λ k. k []) ts
body_end_leads [] h f = absurd (f refl)
body_end_leads (x ∷ ts) h f = record { taken = omega arith; goes = λ kind k. body_results_end kind k x ts h }

pub body_bar_leads : (p : Pos) (ts : Words) → Leads 1 (read Item.more_body_results) (marked (sign s.Pipe) p ∷ ts) (λ k. want (sign s.OpenParen) λ _. tuple_then λ a. read Item.more_body_results λ r. k (tuple a.0 a.1 ∷ r)) ts
body_bar_leads p ts = record { taken = omega arith; goes = λ kind k. refl }

pub bodies_begin : {from : (TypeResults → P) → P} {old new : Words} (p : Pos) (xs : List TypeTuple) → xs ≡ [] → Leads 1 from old (first_body p) new → Leads 1 from old (λ k. tuple_then (more_bodies p xs k)) new
bodies_begin p xs h f = rw h f

pub bodies_pushed : {from : (TypeResults → P) → P} {m : ℕ} {old new : Words} (p : Pos) (xs all : List TypeTuple) (x y : TypeTuple) → Leads m from old (λ k. read Item.more_body_results λ r. k (results p (xs ++ x ∷ r))) new → y ≡ x → all ≡ xs ++ y ∷ [] → Leads m from old (λ k. read Item.more_body_results (bodies p all k)) new
bodies_pushed {new = new} p xs all x y f g h = let e : all ≡ xs ++ x ∷ [] = h ∙ ap (λ z. xs ++ z ∷ []) g in record { taken = f.taken; goes = λ kind k. f.goes kind k ∙ ap (λ q. run kind (read Item.more_body_results q) new) (λ i r. k (results p (appended xs all x e r i))) }

-- ---- fields of interfaces

abbrev pub next_of_interface : (List TypeField → P) → TypeField → P
next_of_interface k f = read Item.maybe_separator λ _. read Item.fields_of_interface λ fs. k (f ∷ fs)

abbrev pub interface_named : Name → (List TypeField → P) → P
interface_named x k = read (Item.rest_of_field x) (next_of_interface k)

abbrev pub behind_separator : List TypeField → (List TypeField → P) → Unit {0} → P
behind_separator all k u = read Item.fields_of_interface (fields_with all k)

pub interface_starts : (ts : Words) (xs : List TypeField) → xs ≡ [] → Leads 0 (read Item.fields_of_interface) ts (λ k. read Item.fields_of_interface (fields_with xs k)) ts
interface_starts ts xs h = rw h (leads_same (read Item.fields_of_interface) ts)

pub interface_ends : (p : Pos) (ts : Words) → Leads 1 (read Item.fields_of_interface) (marked (key w.End) p ∷ ts) (λ k. k []) ts
interface_ends p ts = record { taken = omega arith; goes = λ kind k. refl }

wants_name : (kind : ModuleKind) (c : WordKind) (q : Pos) (ts : Words) (k : List TypeField → P)
    → on kind (record { kind = c; pos = q }) ts (if_name c (λ x. takes (read (Item.rest_of_field (name_at q x)) λ f. read Item.maybe_separator λ _. read Item.fields_of_interface λ fs. done (f ∷ fs))) stuck) k ≡ run kind (want_name λ x. interface_named x k) (record { kind = c; pos = q } ∷ ts)
wants_name kind (WordKind.name n) q ts k = refl
wants_name kind (WordKind.number n) q ts k = refl
wants_name kind (WordKind.text n) q ts k = refl
wants_name kind (mark m) q ts k = refl

pub interface_wants : (ts : Words) → head_is (key w.End) ts ≡ false → Leads 0 (read Item.fields_of_interface) ts (λ k. want_name λ x. interface_named x k) ts
interface_wants [] h = record { taken = omega arith; goes = λ kind k. refl }
interface_wants (x ∷ ts) h = record { taken = omega arith; goes = λ kind k. read_on kind Item.fields_of_interface k x ts ∙ ap (λ r. on kind x ts r k) (if_false _ _ _ h) ∙ wants_name kind x.kind x.pos ts k }

-- what the next field of an interface is read up to
abbrev pub named_with : List TypeField → Name → (List TypeField → P) → P
named_with xs x k = interface_named x (fields_with xs k)

abbrev pub field_with : List TypeField → (List TypeField → P) → TypeField → P
field_with xs k = next_of_interface (fields_with xs k)

abbrev pub typed_with : List TypeField → FieldName → (List TypeField → P) → TypeExpr → P
typed_with xs f k a = next_of_interface (fields_with xs k) (field f.pos f.is_const f.name a)

pub separated : {from : (List TypeField → P) → P} {m : ℕ} {old new : Words} (xs all : List TypeField) (x y : TypeField) → Leads m from old (λ k. next_of_interface (fields_with xs k) x) new → y ≡ x → all ≡ xs ++ y ∷ [] → Leads m from old (λ k. read Item.maybe_separator (behind_separator all k)) new
separated {new = new} xs all x y f g h = let e : all ≡ xs ++ x ∷ [] = h ∙ ap (λ z. xs ++ z ∷ []) g in record { taken = f.taken; goes = λ kind k. f.goes kind k ∙ ap (λ q. run kind (read Item.maybe_separator q) new) (λ i u. read Item.fields_of_interface (λ fs. k (appended xs all x e fs i))) }

pub comma_separates : (p : Pos) (ts : Words) → Leads 1 (read Item.maybe_separator) (marked (sign s.Comma) p ∷ ts) (λ k. k tt) ts
comma_separates p ts = record { taken = omega arith; goes = λ kind k. refl }

pub semicolon_separates : (p : Pos) (ts : Words) → Leads 1 (read Item.maybe_separator) (marked (sign s.Semicolon) p ∷ ts) (λ k. k tt) ts
semicolon_separates p ts = record { taken = omega arith; goes = λ kind k. refl }

pub nothing_separates : (ts : Words) → head_is (sign s.Comma) ts ≡ false → head_is (sign s.Semicolon) ts ≡ false → (ts ≡ [] → ⊥) → Leads 0 (read Item.maybe_separator) ts (λ k. k tt) ts
nothing_separates [] h g f = absurd (f refl)
nothing_separates (x ∷ ts) h g f = record { taken = omega arith; goes = λ kind k. read_on kind Item.maybe_separator k x ts ∙ ap (λ r. on kind x ts r k) (if_false _ _ _ h ∙ if_false _ _ _ g) }

-- ---- annotations

pub no_annotation : (kind : ModuleKind) (old new : Words) → (new ≡ old) × ((is_typed kind && head_is (sign s.Colon) old) ≡ false) × (old ≡ [] → ⊥) → ReadsIn kind Item.annotation old (Ok None) new
no_annotation kind old new h = subst (λ z. ReadsIn kind Item.annotation old (Ok None) z) (sym h.0) (go old h.1 h.2)
  where
    go : (ts : Words) → (is_typed kind && head_is (sign s.Colon) ts) ≡ false → (ts ≡ [] → ⊥) → ReadsIn kind Item.annotation ts (Ok None) ts
    go [] g f = absurd (f refl)
    go (x ∷ ts) g f = (omega arith, λ k. read_on kind Item.annotation k x ts ∙ ap (λ r. on kind x ts r k) (if_false _ _ _ g))

pub no_outcome : (kind : ModuleKind) (old new : Words) → (new ≡ old) × ((is_typed kind && head_is (sign s.Colon) old) ≡ false) × (old ≡ [] → ⊥) → ReadsIn kind Item.outcome old (Ok None) new
no_outcome kind old new h = subst (λ z. ReadsIn kind Item.outcome old (Ok None) z) (sym h.0) (go old h.1 h.2)
  where
    go : (ts : Words) → (is_typed kind && head_is (sign s.Colon) ts) ≡ false → (ts ≡ [] → ⊥) → ReadsIn kind Item.outcome ts (Ok None) ts
    go [] g f = absurd (f refl)
    go (x ∷ ts) g f = (omega arith, λ k. read_on kind Item.outcome k x ts ∙ ap (λ r. on kind x ts r k) (if_false _ _ _ g))

pub fails_in_kind : (kind : ModuleKind) (j : Item) (old new : Words) (e : Stop) → (e ≡ stop.Unexpected) × (new ≡ old) × (old ≡ []) → ReadsIn kind j old (Err e) new
fails_in_kind kind j old new e h = λ d k. (meets_fails j old new e h).stops d kind k

annotation_goes : (kind : ModuleKind) (p : Pos) (ts : Words) (k : Option TypeExpr → P) → is_typed kind ≡ true → run kind (read Item.annotation k) (marked (sign s.Colon) p ∷ ts) ≡ run kind (read Item.a_type λ x. k (Some x)) ts
annotation_goes module_kind.Typed p ts k h = refl
annotation_goes module_kind.Untyped p ts k h = cc

outcome_goes : (kind : ModuleKind) (p : Pos) (ts : Words) (k : Option TypeResults → P) → is_typed kind ≡ true → run kind (read Item.outcome k) (marked (sign s.Colon) p ∷ ts) ≡ run kind (read Item.body_results λ x. k (Some x)) ts
outcome_goes module_kind.Typed p ts k h = refl
outcome_goes module_kind.Untyped p ts k h = cc

pub annotation_reads : (kind : ModuleKind) (old mid new : Words) (v : TypeExpr) → (p : Pos) × (is_typed kind ≡ true) × (old ≡ marked (sign s.Colon) p ∷ mid) → Leads 1 (read Item.a_type) mid (λ k. k v) new → ReadsIn kind Item.annotation old (Ok (Some v)) new
annotation_reads kind old mid new v h f = let a = f.taken in (let b = ap length h.2 in (omega (arith, a, b), λ k. ap (run kind (read Item.annotation k)) h.2 ∙ annotation_goes kind h.0 mid k h.1 ∙ f.goes kind (λ x. k (Some x))))

pub annotation_fails : (kind : ModuleKind) (old mid new : Words) (e : Stop) → (p : Pos) × (is_typed kind ≡ true) × (old ≡ marked (sign s.Colon) p ∷ mid) → Fails (read Item.a_type) mid e new → ReadsIn kind Item.annotation old (Err e) new
annotation_fails kind old mid new e h f = λ d k. ap (run kind (read Item.annotation k)) h.2 ∙ annotation_goes kind h.0 mid k h.1 ∙ f.stops d kind (λ x. k (Some x))

pub outcome_reads : (kind : ModuleKind) (old mid new : Words) (v : TypeResults) → (p : Pos) × (is_typed kind ≡ true) × (old ≡ marked (sign s.Colon) p ∷ mid) → Leads 1 (read Item.body_results) mid (λ k. k v) new → ReadsIn kind Item.outcome old (Ok (Some v)) new
outcome_reads kind old mid new v h f = let a = f.taken in (let b = ap length h.2 in (omega (arith, a, b), λ k. ap (run kind (read Item.outcome k)) h.2 ∙ outcome_goes kind h.0 mid k h.1 ∙ f.goes kind (λ x. k (Some x))))

pub outcome_fails : (kind : ModuleKind) (old mid new : Words) (e : Stop) → (p : Pos) × (is_typed kind ≡ true) × (old ≡ marked (sign s.Colon) p ∷ mid) → Fails (read Item.body_results) mid e new → ReadsIn kind Item.outcome old (Err e) new
outcome_fails kind old mid new e h f = λ d k. ap (run kind (read Item.outcome k)) h.2 ∙ outcome_goes kind h.0 mid k h.1 ∙ f.stops d kind (λ x. k (Some x))

-- ---- one construct too many

abbrev pub then_item : (List TypeExpr × Option TypeExpr → P) → TypeExpr → P
then_item k y = item_behind y k

abbrev pub one_tuple : Pos → (TypeResults × After → P) → List TypeExpr × Option TypeExpr → P
one_tuple p k a = read Item.more_results λ r. k (results p (tuple a.0 a.1 ∷ r.0), r.1)

abbrev pub one_body : Pos → (TypeResults → P) → List TypeExpr × Option TypeExpr → P
one_body p k a = read Item.more_body_results λ r. k (results p (tuple a.0 a.1 ∷ r))

no_atom_number : (x : WordKind) → is_atom x ≡ false → if_number x (λ n. Some n) None ≡ None
no_atom_number (mark m) h = refl
no_atom_number (WordKind.name n) h = cc
no_atom_number (WordKind.number n) h = cc
no_atom_number (WordKind.text n) h = cc

no_atom_text : (x : WordKind) → is_atom x ≡ false → if_text x (λ n. Some n) None ≡ None
no_atom_text (mark m) h = refl
no_atom_text (WordKind.name n) h = cc
no_atom_text (WordKind.number n) h = cc
no_atom_text (WordKind.text n) h = cc

no_atom_name : (x : WordKind) → is_atom x ≡ false → if_name x (λ n. Some n) None ≡ None
no_atom_name (mark m) h = refl
no_atom_name (WordKind.name n) h = cc
no_atom_name (WordKind.number n) h = cc
no_atom_name (WordKind.text n) h = cc

no_name_there : (ts : Words) → head_atom ts ≡ false → head_name ts ≡ None
no_name_there [] h = refl
no_name_there (x ∷ ts) h = no_atom_name x.kind h

no_literal : (ts : Words) → NoType ts → NoLiteral ts
no_literal [] h = record { no_brace = refl; no_nil = refl; no_true = refl; no_false = refl; no_minus = refl; no_int = refl; no_text = refl; no_name = refl }
no_literal (x ∷ ts) h = record { no_brace = h.no_brace; no_nil = h.no_nil; no_true = h.no_true; no_false = h.no_false; no_minus = h.no_minus; no_int = no_atom_number x.kind h.no_atom; no_text = no_atom_text x.kind h.no_atom; no_name = no_atom_name x.kind h.no_atom }

type_fails : (ts : Words) (e : Stop) → NoType ts → Fails (read Item.a_type) ts e ts
type_fails ts e h = fails_in unioned (type_leads ts) (fails_in in_itself (member_leads ts h.no_paren) (fails_here refl (literal_fails ts (no_literal ts h))))

-- a failure of this kind, if it is one
if_unexpected : {G : Type 0} (from : (G → P) → P) (old new : Words) (e : Stop) → (e ≡ stop.Unexpected → Fails from old e new) → Fails from old e new
if_unexpected from old new e f = record { stops = λ d kind k. (f d).stops d kind k }

pub tuple_fails : (ts : Words) (b : Symbol) (e : Stop) → Refuses s.CloseParen b ts e → Fails tuple_then ts e ts
tuple_fails ts b e h = if_unexpected tuple_then ts ts e (λ d. fails_in then_item (types_lead ts (h d).1) (type_fails ts e (h d).0))

pub braces_fails : (o : Pos) (ts : Words) (e : Stop) → Refuses s.CloseBrace s.OpenBracket ts e → Fails (read (Item.in_braces o)) ts e ts
braces_fails o ts e h = if_unexpected (read (Item.in_braces o)) ts ts e (λ d. let g = h d in fails_in (then_array o) (array_leads o ts g.1 g.2 (no_name_there ts g.0.no_atom)) (type_fails ts e g.0))

pub map_fails : (o : Pos) (ts : Words) (a b : Symbol) (e : Stop) → Refuses a b ts e → Fails (rest_of_map o) ts e ts
map_fails o ts a b e h = if_unexpected (rest_of_map o) ts ts e (λ d. fails_in (map_key o) (leads_same (rest_of_map o) ts) (type_fails ts e (h d).0))

-- Each part of a module can be ended: some words spell it.
use Rattle.std.proofs.Common.{ℕ, pos, ◌+◌, true, false, [], ◌∷◌, ◌++◌, Some, None, refl, sym, subst, append_assoc, append-nil}
use Rattle.tl_base.specs.declared.place.Pos.{Pos}
use Rattle.tl_base.specs.declared.place.ModuleKind.{ModuleKind}
use Rattle.lua_tree.specs.declared.annotation.Name.{Name}
use Rattle.lua_tree.specs.declared.annotation.TypeExpr.TheVariants as t
use Rattle.lua_tree.specs.declared.syntax.Expr.{Expr}
use Rattle.lua_tree.specs.declared.syntax.Expr.TheVariants as e
use Rattle.lua_tree.specs.declared.syntax.Entry.TheVariants as entry
use Rattle.lua_tree.specs.declared.syntax.Stat.TheVariants as stat
use Rattle.lua_lexer.specs.declared.token.Keyword.TheVariants as w
use Rattle.lua_lexer.specs.declared.token.Symbol.TheVariants as s
use Rattle.lua_parser.specs.Words.{Words, keyword, symbol, named, name_at, numeral}
use Rattle.lua_parser.specs.Grammar.Types.{InItself, InTuple, InType, field, tuple, SpellsDotted, SpellsType, SpellsMembers, SpellsMember, SpellsSimple, SpellsFields, SpellsField, SpellsTuple, SpellsItems, SpellsTuples, SpellsResults, SpellsSeparator, SpellsInterface}
use Rattle.lua_parser.specs.Grammar.Syntax.{Form, place, block, body, typed, rest_at, SpellsAnnotation, SpellsTyped, SpellsTypeds, SpellsParams, SpellsParameters, SpellsOutcome, SpellsNames, SpellsSemicolon, Spells, SpellsPrefix, SpellsArguments, SpellsList, SpellsEntries, SpellsEntry, SpellsBody, SpellsBlock, SpellsValues, SpellsStat, SpellsTargets, SpellsElse, SpellsStep, SpellsInit}
use Rattle.lua_parser.specs.Machine.Plan.{ended, joined, Item, Gives}
use Rattle.lua_parser.specs.Machine.Steps.{single_result}
use Rattle.lua_parser.proofs.Viability.Means.{Means, ended_interface, closed_params, Assigns, assigns}
use Rattle.lua_parser.proofs.Viability.Exprs.{weaken}

abbrev o : Pos
o = record { «module» = 0; line = 0; column = 0 }

abbrev pub anything : Name
anything = name_at o []

abbrev nil_words : Words
nil_words = keyword w.Nil o ∷ []

nil_member : SpellsMember InItself (t.Nil o) nil_words
nil_member = SpellsMember.simple_type (SpellsSimple.nil_type o)

nil_spelled : SpellsType (t.Nil o) nil_words
nil_spelled = SpellsType.one_member nil_member

nil_results : SpellsResults InType (single_result (t.Nil o)) nil_words
nil_results = SpellsResults.type_results nil_spelled refl

module _ (kind : ModuleKind) where
  empty_body : (n : ℕ) → SpellsBody kind n n (body [] None None (block [] None)) (symbol s.OpenParen o ∷ symbol s.CloseParen o ∷ keyword w.End o ∷ [])
  empty_body n = SpellsBody.function_body o o o SpellsParameters.no_params SpellsOutcome.no_outcome SpellsBlock.no_stats

  field_assigned : (n m : ℕ) (f : Form) (a : Expr) (us : Words) → SpellsPrefix kind f m n a us → Assigns kind m n false (e.Field (place a) a anything) [] (e.Nil o ∷ []) (us ++ symbol s.Dot o ∷ named anything ∷ symbol s.Assign o ∷ nil_words)
  field_assigned n m f a us y =
      subst (Assigns kind m n false (e.Field (place a) a anything) [] (e.Nil o ∷ [])) (append_assoc us (symbol s.Dot o ∷ named anything ∷ []) (symbol s.Assign o ∷ nil_words))
      (assigns o (SpellsTargets.last_target (SpellsPrefix.field o anything y)) (SpellsList.last (Spells.nil o)))

  pub closes : (j : Item) → (x : Gives j) × (ts : Words) × Means kind j x ts
  closes Item.a_type = (t.Nil o, nil_words, nil_spelled)
  closes Item.a_member = ((t.Nil o, ended InItself), nil_words, nil_member)
  closes Item.a_plain_member = (t.Nil o, nil_words, nil_member)
  closes (Item.negated p) = (_, numeral (pos 0) o ∷ [], SpellsSimple.negative_type p o (pos 0))
  closes (Item.more_of_union joined) = (t.Nil o ∷ [], nil_words, λ x us a. rw a.2 (subst (SpellsMembers (x ∷ t.Nil o ∷ [])) (sym (append_assoc a.0 (symbol s.Pipe a.1 ∷ []) nil_words)) (SpellsMembers.more_members a.1 a.3 (SpellsMembers.last_member nil_member) refl)))
  closes (Item.more_of_union (ended r)) = ([], [], λ x us a. rw append-nil (SpellsMembers.last_member a))
  closes (Item.more_of_name x) = (([], x), [], λ p. SpellsDotted.last (name_at p x))
  closes (Item.maybe_mark x) = (x, [], λ us m. rw append-nil (SpellsMember.simple_type m))
  closes Item.a_tuple = (([], None), [], SpellsTuple.no_items)
  closes (Item.more_of_tuple x) = ((x ∷ [], None), [], λ us m. rw append-nil (SpellsItems.last_item m))
  closes (Item.behind_tuple p xs rest) = ((t.Function p (tuple xs rest) (single_result (t.Nil o)), ended InType), symbol s.Arrow o ∷ nil_words, λ us q n. SpellsMember.function_type p q o n nil_results)
  closes Item.some_results = ((single_result (t.Nil o), ended InType), nil_words, nil_results)
  closes Item.more_results = (([], ended InTuple), [], λ p q xs rest us n. (refl, SpellsTuples.last_tuple p q n))
  closes Item.behind_bar = (([], joined), [], λ p q i xs rest us n. (symbol s.OpenParen p ∷ us ++ symbol s.CloseParen q ∷ [], i, sym (append_assoc (symbol s.OpenParen p ∷ us) (symbol s.CloseParen q ∷ []) (symbol s.Pipe i ∷ [])), SpellsTuples.last_tuple p q n))
  closes Item.body_results = (single_result (t.Nil o), nil_words, (InType, nil_results))
  closes Item.more_body_results = ([], [], λ p q xs rest us n. SpellsTuples.last_tuple p q n)
  closes (Item.in_braces p) = (t.Record p [], symbol s.CloseBrace o ∷ [], SpellsSimple.empty_record p o)
  closes (Item.named_in_braces p x) = (t.Record p (field x.pos false x (t.Nil o) ∷ []), symbol s.Colon o ∷ keyword w.Nil o ∷ symbol s.CloseBrace o ∷ [], SpellsSimple.record_type p (SpellsFields.last_field o (SpellsField.plain_field x o nil_spelled)))
  closes Item.more_of_fields = ([], symbol s.CloseBrace o ∷ [], λ f us n. SpellsFields.last_field o n)
  closes Item.next_field = ([], symbol s.CloseBrace o ∷ [], λ f us q n. SpellsFields.last_field_comma q o n)
  closes (Item.rest_of_field x) = (field x.pos false x (t.Nil o), symbol s.Colon o ∷ nil_words, SpellsField.plain_field x o nil_spelled)
  closes Item.fields_of_interface = ([], keyword w.End o ∷ [], ended_interface o SpellsInterface.no_fields)
  closes Item.maybe_separator = (tt, [], SpellsSeparator.no_separator)
  closes (Item.an_expr l n) = ((e.Nil o, n, false), nil_words, λ f. Spells.nil o)
  closes (Item.operations l h a n c) = ((a, n, c), [], λ f m us x. rw append-nil (weaken kind f x))
  closes (Item.suffixes f a n) = ((f, a, n), [], λ m us x. rw append-nil x)
  closes (Item.some_arguments n) = (([], n), symbol s.OpenParen o ∷ symbol s.CloseParen o ∷ [], SpellsArguments.no_arguments o o)
  closes (Item.rest_of_arguments n) = (([], n), symbol s.CloseParen o ∷ [], λ p. SpellsArguments.no_arguments p o)
  closes (Item.exprs n) = ((e.Nil o ∷ [], n, false), nil_words, SpellsList.last (Spells.nil o))
  closes (Item.more_exprs n c) = (([], n, c), [], λ a m us x. rw append-nil (SpellsList.last x))
  closes (Item.entries n) = (([], n), symbol s.CloseBrace o ∷ [], SpellsEntries.no_entry o)
  closes (Item.behind_entry n) = (([], n), symbol s.CloseBrace o ∷ [], λ x m us y. SpellsEntries.last_entry o y)
  closes (Item.named_or_item x n) = ((entry.Named x (e.Nil o), n), symbol s.Assign o ∷ nil_words, SpellsEntry.named_entry x o (Spells.nil o))
  closes (Item.a_body n) = ((body [] None None (block [] None), n), symbol s.OpenParen o ∷ symbol s.CloseParen o ∷ keyword w.End o ∷ [], empty_body n)
  closes (Item.params may_end) = (([], Some (rest_at o None)), symbol s.Dots o ∷ symbol s.CloseParen o ∷ [], closed_params o (SpellsParams.rest_param o SpellsAnnotation.no_annotation))
  closes Item.more_params = (([], None), symbol s.CloseParen o ∷ [], λ x us c y. closed_params o (SpellsParams.last_param y))
  closes Item.annotation = (None, [], SpellsAnnotation.no_annotation)
  closes Item.outcome = (None, [], SpellsOutcome.no_outcome)
  closes (Item.a_block outer n c) = (([], None, n), [], (SpellsBlock.no_stats, λ d. refl))
  closes (Item.return_values n) = (([], n), [], SpellsValues.no_values)
  closes Item.maybe_semicolon = (tt, [], SpellsSemicolon.no_semicolon)
  closes (Item.more_clauses n) = (([], None, n), keyword w.End o ∷ [], SpellsElse.no_else o)
  closes (Item.rest_of_for p x n) = ((stat.GenericFor p (x ∷ []) (e.Nil o ∷ []) (block [] None), n), keyword w.In o ∷ keyword w.Nil o ∷ keyword w.Do o ∷ keyword w.End o ∷ [], λ outer. SpellsStat.generic_for p o o o (SpellsNames.last_name x) (SpellsList.last (Spells.nil o)) SpellsBlock.no_stats)
  closes (Item.maybe_step n) = ((None, n), [], SpellsStep.no_step)
  closes Item.more_names = ([], [], λ x. SpellsNames.last_name x)
  closes (Item.rest_of_function p a n) = ((stat.Function p a (e.Function p (body [] None None (block [] None))), n), symbol s.OpenParen o ∷ symbol s.CloseParen o ∷ keyword w.End o ∷ [], λ outer m us y. SpellsStat.function_stat p y (empty_body n))
  closes (Item.rest_of_local p n) = ((stat.Local p (typed anything None ∷ []) [], n, false), named anything ∷ [], λ outer. SpellsStat.local_stat p (SpellsTypeds.last_typed (SpellsTyped.declared anything SpellsAnnotation.no_annotation)) SpellsInit.no_init)
  closes Item.more_typed = ([], [], λ x us y. rw append-nil (SpellsTypeds.last_typed y))
  closes (Item.maybe_init n) = (([], n, false), [], SpellsInit.no_init)
  closes (Item.behind_name outer x n) = ((stat.Call x.pos (e.Call x.pos (e.Name x.pos n x.text) []), n + 1, true), symbol s.OpenParen o ∷ symbol s.CloseParen o ∷ [], SpellsStat.call_stat (SpellsPrefix.call (SpellsPrefix.name n x) (SpellsArguments.no_arguments o o)))
  closes (Item.rest_of_stat f a n) = ((stat.Call (place a) (e.Call (place a) a []), n, true), symbol s.OpenParen o ∷ symbol s.CloseParen o ∷ [], λ outer m us y. SpellsStat.call_stat (SpellsPrefix.call y (SpellsArguments.no_arguments o o)))
  closes (Item.targets f a n) = ((e.Field (place a) a anything, [], e.Nil o ∷ [], n, false), symbol s.Dot o ∷ named anything ∷ symbol s.Assign o ∷ nil_words, λ m us y. field_assigned n m f a us y)
  closes (Item.next_target n) = ((e.Name o n [], [], e.Nil o ∷ [], n + 1, false), named anything ∷ symbol s.Assign o ∷ nil_words, assigns o (SpellsTargets.last_target (SpellsPrefix.name n anything)) (SpellsList.last (Spells.nil o)))

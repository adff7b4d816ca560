use Rattle.std.proofs.Common.{◌≡◌, ◌≤◌, ◌+◌, ◌∷◌, ◌++◌, [], arith, ap, sym, ◌∙◌, subst, map}
use Rattle.std.specs.Prelude.{Option, Some, None, IfOk}
use Rattle.std.specs.Option.{option_map}
use Rattle.std.proofs.lemmas.Option.{IfSome_then}
use Rattle.std.proofs.lemmas.List.Sums.{sum_by_push}
use Rattle.tl_types.specs.declared.types.Ty.{Ty}
use Rattle.tl_types.specs.declared.types.Ty.TheVariants as ty
use Rattle.tl_types.specs.Types.{Field}
use Rattle.tl_types.specs.Parts.{size_tuple}
use Rattle.tl_types.specs.Sizes.{type_size}
use Rattle.type_reader.specs.declared.members.Members.{Members}
use Rattle.type_reader.specs.Gathered.{Gathers, GathersMembers, nodes_of_types, nodes_of_fields, nodes_of_tuples}
use Rattle.type_reader.specs.Types.{TupleType, every, type_of, field_of, results_of, tuple_of}
use Rattle.type_reader.specs.Lookups.{names_in}
use Rattle.type_reader.proofs.Every.{every_more, every_stop, every_more_of}
use Rattle.type_reader.proofs.Gathered.{stops, stops_of, types_grow, fields_grow, tuples_grow, room_some, room_none, members_next, union_whole, function_whole, function_over}
use Rattle.type_reader.proofs.building.+building.Goals as goal

pub types_of-returns-in_default : goal.types_of-returns-in_default
types_of-returns-in_default t c =
    let f = type_of (names_in c.args.names) in
    stops f nodes_of_types types_grow c.args.types.now c.loop-e.e-index c.e-item.result c.loop-e.read None c.loop-e-test.true c.loop-e.invariant.gathered (ap f (sym c.e-item.is) ∙ sym c.in_ok-ty.ensures ∙ c.in_default.is) tt

pub types_of-returns-in_default-with_type : goal.types_of-returns-in_default-with_type
types_of-returns-in_default-with_type t c =
    let f = type_of (names_in c.args.names) in
    let read = c.loop-e.read in
    let ty = c.in-Some.ty in
    let over = room_none (c.loop-e.nodes + type_size ty) c.with_type.result c.with_type.ensures c.in_default-with_type.is in
    let large : 65536 ≤ nodes_of_types (read ++ ty ∷ []) = omega (arith, over, c.loop-e.invariant.counted, sum_by_push type_size read ty) in
    stops f nodes_of_types types_grow c.args.types.now c.loop-e.e-index c.e-item.result read (Some ty) c.loop-e-test.true c.loop-e.invariant.gathered (ap f (sym c.e-item.is) ∙ sym c.in_ok-ty.ensures ∙ c.in-Some.is) large

pub types_of-loop-e-preserved : goal.types_of-loop-e-preserved
types_of-loop-e-preserved t c =
    let f = type_of (names_in c.args.names) in
    let read = c.loop-e.read in
    let ty = c.in-Some.ty in
    let more = room_some (c.loop-e.nodes + type_size ty) c.in-Some-with_type.more c.with_type.result c.with_type.ensures c.in-Some-with_type.is in
    record {
      gathered = every_more f c.args.types.now c.loop-e.e-index c.e-item.result read ty c.loop-e-test.true c.loop-e.invariant.gathered (ap f (sym c.e-item.is) ∙ sym c.in_ok-ty.ensures ∙ c.in-Some.is) ∙ ap Some (sym c.in_ok-push.ensures.ok);
      counted = omega (arith, more.0, c.loop-e.invariant.counted, sum_by_push type_size read ty, ap nodes_of_types c.in_ok-push.ensures.ok);
    }

pub fields_of-returns-in_default : goal.fields_of-returns-in_default
fields_of-returns-in_default t c =
    let f = field_of (names_in c.args.names) in
    stops f nodes_of_fields fields_grow c.args.fields.now c.loop-field.field-index c.field-item.result c.loop-field.read None c.loop-field-test.true c.loop-field.invariant.gathered (ap f (sym c.field-item.is) ∙ sym c.in_ok-field.ensures ∙ c.in_default.is) tt

pub fields_of-returns-in_default-with_type : goal.fields_of-returns-in_default-with_type
fields_of-returns-in_default-with_type t c =
    let f = field_of (names_in c.args.names) in
    let read = c.loop-field.read in
    let field = c.in-Some.field in
    let over = room_none (c.loop-field.nodes + type_size field.ty) c.with_type.result c.with_type.ensures c.in_default-with_type.is in
    let large : 65536 ≤ nodes_of_fields (read ++ field ∷ []) = omega (arith, over, c.loop-field.invariant.counted, sum_by_push (λ (x : Field). type_size x.ty) read field) in
    stops f nodes_of_fields fields_grow c.args.fields.now c.loop-field.field-index c.field-item.result read (Some field) c.loop-field-test.true c.loop-field.invariant.gathered (ap f (sym c.field-item.is) ∙ sym c.in_ok-field.ensures ∙ c.in-Some.is) large

pub fields_of-loop-field-preserved : goal.fields_of-loop-field-preserved
fields_of-loop-field-preserved t c =
    let f = field_of (names_in c.args.names) in
    let read = c.loop-field.read in
    let field = c.in-Some.field in
    let more = room_some (c.loop-field.nodes + type_size field.ty) c.in-Some-with_type.more c.with_type.result c.with_type.ensures c.in-Some-with_type.is in
    record {
      gathered = every_more f c.args.fields.now c.loop-field.field-index c.field-item.result read field c.loop-field-test.true c.loop-field.invariant.gathered (ap f (sym c.field-item.is) ∙ sym c.in_ok-field.ensures ∙ c.in-Some.is) ∙ ap Some (sym c.in_ok-push.ensures.ok);
      counted = omega (arith, more.0, c.loop-field.invariant.counted, sum_by_push (λ (x : Field). type_size x.ty) read field, ap nodes_of_fields c.in_ok-push.ensures.ok);
    }

pub tuples_of-returns-in_default : goal.tuples_of-returns-in_default
tuples_of-returns-in_default t c =
    let g = tuple_of (names_in c.args.names) in
    let read = c.loop-tuple.read in
    let one = g c.tuple-item.result ty.Nil in
    let missing = subst (Gathers size_tuple one) c.in_default.is c.in_ok-tuple.ensures in
    stops_of (λ (p : TupleType). p ty.Nil) g (nodes_of_tuples c.args.nodes) (tuples_grow c.args.nodes) c.args.tuples.now c.loop-tuple.tuple-index c.tuple-item.result read one c.loop-tuple-test.true c.loop-tuple.invariant.gathered (ap (λ x. g x ty.Nil) (sym c.tuple-item.is))
    (IfSome_then one missing (λ x large. let e = sum_by_push size_tuple read x in omega (arith, large, e)))

pub tuples_of-returns-in_default-with_tuple : goal.tuples_of-returns-in_default-with_tuple
tuples_of-returns-in_default-with_tuple t c =
    let g = tuple_of (names_in c.args.names) in
    let read = c.loop-tuple.read in
    let tuple = c.in-Some.tuple in
    let is : g c.tuple-item.result ty.Nil ≡ Some tuple = subst (Gathers size_tuple (g c.tuple-item.result ty.Nil)) c.in-Some.is c.in_ok-tuple.ensures in
    let over = room_none (c.loop-tuple.nodes + size_tuple tuple) c.with_tuple.result c.with_tuple.ensures c.in_default-with_tuple.is in
    let large : 65536 ≤ nodes_of_tuples c.args.nodes (read ++ tuple ∷ []) = omega (arith, over, c.loop-tuple.invariant.counted, sum_by_push size_tuple read tuple) in
    stops_of (λ (p : TupleType). p ty.Nil) g (nodes_of_tuples c.args.nodes) (tuples_grow c.args.nodes) c.args.tuples.now c.loop-tuple.tuple-index c.tuple-item.result read (Some tuple) c.loop-tuple-test.true c.loop-tuple.invariant.gathered (ap (λ x. g x ty.Nil) (sym c.tuple-item.is) ∙ is) large

pub tuples_of-loop-tuple-preserved : goal.tuples_of-loop-tuple-preserved
tuples_of-loop-tuple-preserved t c =
    let g = tuple_of (names_in c.args.names) in
    let read = c.loop-tuple.read in
    let tuple = c.in-Some.tuple in
    let is : g c.tuple-item.result ty.Nil ≡ Some tuple = subst (Gathers size_tuple (g c.tuple-item.result ty.Nil)) c.in-Some.is c.in_ok-tuple.ensures in
    let more = room_some (c.loop-tuple.nodes + size_tuple tuple) c.in-Some-with_tuple.more c.with_tuple.result c.with_tuple.ensures c.in-Some-with_tuple.is in
    record {
      gathered = every_more_of (λ (p : TupleType). p ty.Nil) g c.args.tuples.now c.loop-tuple.tuple-index c.tuple-item.result read tuple c.loop-tuple-test.true c.loop-tuple.invariant.gathered (ap (λ x. g x ty.Nil) (sym c.tuple-item.is) ∙ is) ∙ ap Some (sym c.in_ok-push.ensures.ok);
      counted = omega (arith, more.0, c.loop-tuple.invariant.counted, sum_by_push size_tuple read tuple, ap (nodes_of_tuples c.args.nodes) c.in_ok-push.ensures.ok);
    }

pub members_of-returns-in-None : goal.members_of-returns-in-None
members_of-returns-in-None t c =
    let f = type_of (names_in c.args.names) in
    record {
      gathered = every_stop f c.args.types.now c.loop-e.e-index c.e-item.result c.loop-e-test.true (ap f (sym c.e-item.is) ∙ sym c.in_ok-ty.ensures ∙ c.in-None.is);
      counted = tt;
    }

pub members_of-loop-e-preserved : goal.members_of-loop-e-preserved
members_of-loop-e-preserved t c =
    let f = type_of (names_in c.args.names) in
    record {
      gathered = members_next f c.args.types.now c.loop-e.e-index c.e-item.result c.loop-e.members.kept c.add.new.self.kept c.in-Some.ty c.loop-e-test.true c.loop-e.invariant.gathered (ap f (sym c.e-item.is) ∙ sym c.in_ok-ty.ensures ∙ c.in-Some.is) c.in_ok-add-in-Some.ensures.stand;
      counted = c.in_ok-add-in-Some.ensures.counted;
    }

pub union_of-returns-in-Some : goal.union_of-returns-in-Some
union_of-returns-in-Some t c =
    let w = every (map (type_of (names_in c.args.names)) c.args.types.now) in
    let kept = c.in-Some.members.kept in
    let g : GathersMembers w (Some kept) = subst (λ (o : Option Members). GathersMembers w (option_map (λ (m : Members). m.kept) o)) c.in-Some.is c.in_ok-members.ensures.gathered in
    c.union_type.ensures ∙ union_whole w kept g

pub function_with-returns-in_ok-results-in-Some : goal.function_with-returns-in_ok-results-in-Some
function_with-returns-in_ok-results-in-Some t c =
    let params = c.args.params in
    let n = c.in-Some.nodes in
    let counted = room_some (0 + size_tuple params) n c.with_tuple.result c.with_tuple.ensures c.in-Some.is in
    let same : n ≡ size_tuple params = omega (arith, counted.0) in
    subst (λ (x : Option Ty). IfOk c.function_type.result (λ r. r ≡ x))
    (function_whole params n (results_of (names_in c.args.names) c.args.results.now) c.in_ok-results-in-Some.results same c.in_ok-results-in-Some.ensures) c.function_type.ensures

pub function_with-returns-in-None : goal.function_with-returns-in-None
function_with-returns-in-None t c =
    let params = c.args.params in
    let over = room_none (0 + size_tuple params) c.with_tuple.result c.with_tuple.ensures c.in-None.is in
    function_over params (results_of (names_in c.args.names) c.args.results.now) (omega (arith, over))

use Rattle.std.proofs.Common.{◌≡◌, take, map}
use Rattle.std.specs.Prelude.{Some}
use Rattle.tl_types.specs.declared.types.Ty.TheVariants as ty
use Rattle.type_reader.specs.Types.{every, type_of, field_of, tuple_of}
use Rattle.type_reader.specs.Lookups.{names_in}
use Rattle.type_reader.specs.Gathered.{GathersMembers, IsCounted, nodes_of_types, nodes_of_fields, nodes_of_tuples}
use Rattle.type_reader.proofs.building.+building.Given as goal

abbrev pub invariant-members_of-loop-e : goal.invariant-members_of-loop-e
invariant-members_of-loop-e l = record {
  gathered : GathersMembers (every (map (type_of (names_in l.names)) (take l.e-index l.types))) (Some l.members.kept);
  counted : IsCounted l.members.kept l.members.nodes;
}

abbrev pub invariant-types_of-loop-e : goal.invariant-types_of-loop-e
invariant-types_of-loop-e l = record {
  gathered : every (map (type_of (names_in l.names)) (take l.e-index l.types)) ≡ Some l.read;
  counted : l.nodes ≡ nodes_of_types l.read;
}

abbrev pub invariant-fields_of-loop-field : goal.invariant-fields_of-loop-field
invariant-fields_of-loop-field l = record {
  gathered : every (map (field_of (names_in l.names)) (take l.field-index l.fields)) ≡ Some l.read;
  counted : l.nodes ≡ nodes_of_fields l.read;
}

abbrev pub invariant-tuples_of-loop-tuple : goal.invariant-tuples_of-loop-tuple
invariant-tuples_of-loop-tuple l = record {
  gathered : every (map (λ t. t ty.Nil) (map (tuple_of (names_in l.names)) (take l.tuple-index l.tuples))) ≡ Some l.read;
  counted : l.nodes ≡ nodes_of_tuples l.initial.nodes l.read;
}

-- The annotations of the code, which are lent from the tree, as the definition has them.
use Rattle.std.specs.Prelude.{map}
use Rattle.type_reader.specs.declared.annotations.Annotation as code_annotation
use Rattle.type_reader.specs.declared.annotations.Annotation.TheVariants as a
use Rattle.type_reader.specs.declared.annotations.Annotations as code_annotations
use Rattle.type_reader.specs.Annotations.{Annotation, Annotations, of_type, of_results, interface, alias}

abbrev pub annotation_of : code_annotation.Annotation → Annotation
annotation_of (a.Type t) = of_type t.now
annotation_of (a.Results r) = of_results r.now
annotation_of (a.Interface p n fs) = interface p n.now fs.now
annotation_of (a.Alias p n t) = alias p n.now t.now

-- those that were collected
abbrev pub collected : code_annotations.Annotations → Annotations
collected a = map annotation_of a.items.items

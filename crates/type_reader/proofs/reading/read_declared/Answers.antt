use Rattle.std.proofs.Common.{◌≡◌, map, ap, ◌∙◌, subst}
use Rattle.type_reader.specs.Names.{Names, names_of}
use Rattle.type_reader.specs.Declarations.{own_names, types_to}
use Rattle.type_reader.specs.Declarations as declarations
use Rattle.type_reader.specs.Lent.{declared_in}
use Rattle.type_reader.specs.Seen.{annotation_of}
use Rattle.type_reader.specs.Outcomes.{IsReadOf}
use Rattle.type_reader.proofs.reading.read_declared.Goals as goal

pub returns : goal.returns
returns c =
    let known = c.args.«module».known.now in
    let ds = declared_in c.args.«module».declared.now in
    let own = c.args.«module».own.now in
    let same : names_of known own c.as_slice.result.now ≡ declarations.names_in known ds =
    ap (λ ts. names_of known own ts) c.as_slice.ensures.value
    ∙ ap (λ o. names_of known o c.in_ok-types.types.items) c.requires
    ∙ ap (λ ts. names_of known (own_names ds) ts) c.in_ok-types.ensures in
    subst (λ (n : Names). IsReadOf c.args.of.now n ds (map annotation_of c.args.annotations.now) c.read_named.result) same c.read_named.ensures

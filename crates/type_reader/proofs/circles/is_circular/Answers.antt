use Rattle.std.proofs.Common.{◌≡◌, ◌∙◌, ap, sym}
use Rattle.std.specs.Prelude.{Some}
use Rattle.type_reader.specs.Declarations.{own_names}
use Rattle.type_reader.specs.Lent.{declared_in}
use Rattle.type_reader.specs.Names.{place_in}
use Rattle.type_reader.specs.Ranks.{falls_at}
use Rattle.type_reader.proofs.Straight.{straight}
use Rattle.type_reader.proofs.circles.is_circular.Goals as goal

pub returns-then-branch : goal.returns-then-branch
returns-then-branch c =
    let ds = declared_in c.args.«module».declared.now in
    let at : place_in (own_names ds) c.args.name.now ≡ Some c.in-Some.at = ap (λ n. place_in n c.args.name.now) (sym c.requires.own) ∙ sym c.find.ensures ∙ c.in-Some.is in
    sym (straight ds c.args.graph.now.ranks.items c.args.name.now c.in-Some.at at c.requires.falling (ap (λ rs. falls_at ds rs c.in-Some.at) (sym c.as_slice.ensures.value) ∙ sym (sym c.if-branch.true ∙ c.in_ok-is_straight.ensures)))

use Rattle.std.proofs.Common.{ap, sym, ◌∙◌}
use Rattle.std.specs.Prelude.{Some}
use Rattle.type_reader.specs.Lookups.{names_in}
use Rattle.type_reader.proofs.Readings.{bodies_next}
use Rattle.type_reader.proofs.reading.added_bodies.Goals as goal

pub loop-declaration-preserved : goal.loop-declaration-preserved
loop-declaration-preserved c =
    bodies_next (names_in c.args.names) c.args.declared.now c.loop-declaration.declaration-index c.declaration-item.result c.loop-declaration.added c.in_ok-body.body.items c.loop-declaration-test.true c.declaration-item.is c.loop-declaration.invariant c.in_ok-body.ensures
    ∙ ap Some (sym c.in_ok-append.ensures.ok)

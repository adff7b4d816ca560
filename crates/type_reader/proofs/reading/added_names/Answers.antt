use Rattle.std.proofs.Common.{ap, sym, ◌∙◌}
use Rattle.std.specs.Prelude.{Some}
use Rattle.type_reader.specs.Lookups.{names_in}
use Rattle.type_reader.specs.Reading.{entry_of}
use Rattle.type_reader.specs.Lent.{declaration_of}
use Rattle.type_reader.proofs.Every.{every_more_of}
use Rattle.type_reader.proofs.reading.added_names.Goals as goal

pub loop-declaration-preserved : goal.loop-declaration-preserved
loop-declaration-preserved c =
    every_more_of (entry_of c.args.of.now (names_in c.args.names)) declaration_of c.args.declared.now c.loop-declaration.declaration-index c.declaration-item.result c.loop-declaration.added.items c.in-Some.name c.loop-declaration-test.true c.loop-declaration.invariant (ap (λ d. entry_of c.args.of.now (names_in c.args.names) (declaration_of d)) (sym c.declaration-item.is) ∙ sym c.in_ok-name.ensures ∙ c.in-Some.is)
    ∙ ap Some (sym c.in_ok-push-in-Some.ensures.items)

use Rattle.std.proofs.Common.{◌∙◌, ap, sym, option_map}
use Rattle.type_reader.specs.Names.{elsewhere}
use Rattle.type_reader.proofs.Indexing.{read}
use Rattle.type_reader.proofs.other_names.OtherNames.find.Goals as goal

pub returns-in-Some : goal.returns-in-Some
returns-in-Some c =
    ap (option_map (λ x. x.now.now)) (sym c.in-Some.is)
    ∙ read _ _ _ c.get.ensures.value (c.self.invariant (c.args.of, c.args.name))
    ∙ ap (λ k. option_map (λ x. x.ty) (elsewhere k c.args.of.now c.args.name.now)) c.self.view_is

pub returns-in-None : goal.returns-in-None
returns-in-None c =
    ap (option_map (λ x. x.now.now)) (sym c.in-None.is)
    ∙ read _ _ _ c.get.ensures.value (c.self.invariant (c.args.of, c.args.name))
    ∙ ap (λ k. option_map (λ x. x.ty) (elsewhere k c.args.of.now c.args.name.now)) c.self.view_is

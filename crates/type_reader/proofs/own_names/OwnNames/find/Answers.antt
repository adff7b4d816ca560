use Rattle.std.proofs.Common.{◌∙◌, ap}
use Rattle.std.specs.Str.{bytes_eq}
use Rattle.type_reader.specs.Names.{place_in}
use Rattle.type_reader.proofs.Texts.{position_seen}
use Rattle.type_reader.proofs.own_names.OwnNames.find.Goals as goal

pub returns : goal.returns
returns c =
    c.get_index_of.ensures.index
    ∙ position_seen (λ k. k.now) (bytes_eq c.args.name.now) c.self.inside.names.keys
    ∙ ap (λ own. place_in own c.args.name.now) c.self.view_is

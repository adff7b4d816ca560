use Rattle.std.proofs.Common.{◌∙◌, ap, not}
use Rattle.std.specs.Str.{bytes_eq}
use Rattle.std.specs.List.{list_any}
use Rattle.type_reader.proofs.Texts.{list_any_seen}
use Rattle.type_reader.proofs.own_names.OwnNames.add.Goals as goal

pub returns-clause-new : goal.returns-clause-new
returns-clause-new c =
    c.in_ok-is_new.ensures.added
    ∙ ap not (list_any_seen (λ k. k.now) (bytes_eq c.args.name.now) c.self.inside.names.keys)
    ∙ ap (λ own. not (list_any (bytes_eq c.args.name.now) own)) c.self.view_is

-- The labels of the code as those of the grammar.
use Rattle.lua_parser.specs.Grammar.Depth as depth
use Rattle.lua_parser.specs.declared.labels.Label as declared_label

abbrev pub label_of : declared_label.Label → depth.Label
label_of l = record { inside = l.inside; ends = l.ends }

-- The marks of one entry of a table constructor.
use Rattle.std.specs.Prelude.{List, ◌++◌}
use Rattle.tl_base.specs.declared.crossing.Crossing.{Crossing}
use Rattle.lua_tree.specs.View.{SeenEntry, item, named, keyed}
use Rattle.tl_rules.specs.Crossings.{marks_of}

abbrev pub seen_marks : SeenEntry → List Crossing
seen_marks (keyed k e) = marks_of k ++ marks_of e
seen_marks (named n e) = marks_of e
seen_marks (item e) = marks_of e

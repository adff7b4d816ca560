use Rattle.std.proofs.Common.{◌+◌, ◌*◌}
use Rattle.subtyping.proofs.marks.+marks.Given as goal

abbrev pub decreases-mark : goal.decreases-mark
decreases-mark l = 4 * l.levels

abbrev pub decreases-mark_all : goal.decreases-mark_all
decreases-mark_all l = 4 * l.levels + 1

abbrev pub decreases-mark_fields : goal.decreases-mark_fields
decreases-mark_fields l = 4 * l.levels + 1

abbrev pub decreases-mark_tuple : goal.decreases-mark_tuple
decreases-mark_tuple l = 4 * l.levels + 2

abbrev pub decreases-mark_func : goal.decreases-mark_func
decreases-mark_func l = 4 * l.levels + 3

-- What a list ends as, where its elements are lent for writing.
use Rattle.std.specs.Prelude.{List, ◌++◌, take, drop, length}
use Rattle.std.specs.Borrow.{Lends, Fml, RattleType, MutBor, Array}
use Rattle.tl_base.specs.contracts.lists.List.{the_row}

-- the list with these elements in the place of as many of its own; it keeps its length
abbrev pub overwritten : {A : Type 0} → List A → List A → List A
overwritten old new = take (length old) (new ++ drop (length new) old)

-- once the borrow ends, the list has the elements that were left behind it
abbrev pub LendsElements : (T : RattleType) → MutBor (List T.Denot) → MutBor (List T.Denot) → Fml
LendsElements T s r = Lends (the_row T) (Array T 0) s r (overwritten s.now)

use Rattle.std.proofs.Common.{◌++◌, take}
use Rattle.type_reader.specs.Gathered.{IsCounted, StandFor}
use Rattle.type_reader.proofs.members.Members.+add.Given as goal

abbrev pub invariant-loop-member : goal.invariant-loop-member
invariant-loop-member l = record {
  counted : IsCounted l.self.kept l.self.nodes;
  stand : StandFor l.self.kept (l.initial.self.kept ++ take l.member-index l.member-items);
}

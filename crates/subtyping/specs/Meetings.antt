-- How two types that are no unions meet: an answer at once, or parts that are to be compared.
use Rattle.std.specs.Prelude.{Bool}
use Rattle.tl_types.specs.Below.{Test, function_below, record_below, map_below}
use Rattle.subtyping.specs.declared.meet.Meeting.{Meeting}
use Rattle.subtyping.specs.declared.meet.Meeting.TheVariants as meeting

abbrev pub meeting_below : Test → Meeting → Bool
meeting_below R (meeting.Answer b) = b
meeting_below R (meeting.Functions f g) = function_below R f.now g.now
meeting_below R (meeting.Records fs gs) = record_below R fs.now gs.now
meeting_below R (meeting.Maps k v l w) = map_below R k.now v.now l.now w.now

-- Instructions one after another.
use Rattle.std.proofs.Common.{◌≡◌, ◌++◌, [], append_assoc}
use Rattle.std.proofs.lemmas.List.{append-nil}
use Rattle.lua_code.specs.Generated.{Placed}
use Rattle.code_gen.specs.Work.{Work, put_all}

pub put_none : (w : Work) → put_all [] w ≡ w
unfolding put_all
put_none w = simp append-nil

pub put_more : (c d : Placed) (w : Work) → put_all d (put_all c w) ≡ put_all (c ++ d) w
unfolding put_all
put_more c d w = simp append_assoc

use Rattle.lua_lexer.proofs.Order.{place_reached}
use Rattle.lua_lexer.proofs.theorems.places_count_line_ends.Goals as goal

pub returns : goal.returns
returns c = λ file all before rest l k e f. place_reached file all before rest l k e f

use Rattle.lua_lexer.proofs.Longest.{no_sign, one_sign}
use Rattle.lua_lexer.proofs.Maps.{match_map}
use Rattle.lua_lexer.proofs.signs.sign.Goals as goal

pub returns-in-None-of_two : goal.returns-in-None-of_two
returns-in-None-of_two c =
    match_map c.single-in-None-of_two.result
    (λ n. no_sign c.in-Some.first c.in-Some.ensures n (λ y b v e k. c.in-None-of_two.ensures y (let h = c.in-Some-front.ensures in cc)))
    (λ f k. one_sign f.0 c.in-Some.first c.in-Some.ensures (λ y b v e k. c.in-None-of_two.ensures y (let h = c.in-Some-front.ensures in cc)) k)
    c.single-in-None-of_two.ensures

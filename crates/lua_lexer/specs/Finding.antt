-- What is found at the front of a text, and what one turn of the reading does.
use Rattle.std.specs.Prelude.{◌≡◌, ℕ, ◌-◌, ◌<◌, List, [], ◌∷◌, ◌++◌, length}
use Rattle.tl_base.specs.declared.refusal.RefusalCode.{RefusalCode}
use Rattle.lua_lexer.specs.declared.token.Token.{Token}
use Rattle.lua_lexer.specs.declared.lines.Spot.{Spot}
use Rattle.lua_lexer.specs.declared.token.TokenKind.{TokenKind}
use Rattle.lua_lexer.specs.declared.pieces.Found.{Found}
use Rattle.lua_lexer.specs.declared.pieces.Found.TheVariants as f
use Rattle.lua_lexer.specs.declared.lexing.Turn.{Turn}
use Rattle.lua_lexer.specs.declared.lexing.Turn.TheVariants as t
use Rattle.lua_lexer.specs.Letters.{Text}
use Rattle.lua_lexer.specs.Lines.{spot_at, pos_at}
use Rattle.lua_lexer.specs.Pieces.{Class, Cut}
use Rattle.lua_lexer.specs.Tokens.{Means, Faults, Lexes, Refuses}
use Rattle.lua_lexer.specs.Reading.{EndsWith}

-- the token as the code makes it
abbrev pub made : ℕ → Text → Spot → TokenKind → Text → Text → Token
made file all spot kind from rest = record { kind = kind; start = length all - length from; end = length all - length rest; pos = record { «module» = file; line = spot.line; column = spot.column } }

-- a token and what follows it, or a fault and the text from its place on
abbrev pub IsFound : Text → Found → Type 0
IsFound x (f.Token kind r) = (c : Class) × Cut c x r.now × Means c x r.now kind
IsFound x (f.Fault code at) = Faults code x at.now
IsFound x f.NoMemory = Unit {0}

-- a token is put behind the tokens, and what follows it has the other tokens; or the last token is put there; or there is a fault
abbrev pub IsTurn : ℕ → Text → Text → List Token → List Token → Turn → Type 0
IsTurn file all rest old new (t.On after spot) = (one : Token) × (new ≡ old ++ one ∷ []) × ((ts : List Token) → Lexes file all after.now ts → Lexes file all rest (one ∷ ts)) × ((code : RefusalCode) (place : Text) → Refuses after.now code place → Refuses rest code place) × (spot ≡ spot_at all after.now) × EndsWith all after.now × (length after.now < length rest)
IsTurn file all rest old new t.Done = (one : Token) × (new ≡ old ++ one ∷ []) × Lexes file all rest (one ∷ [])
IsTurn file all rest old new (t.Refused refusal) = (code : RefusalCode) × (place : Text) × Refuses rest code place × (refusal ≡ record { code = code; pos = pos_at file all place })
IsTurn file all rest old new t.NoMemory = Unit {0}

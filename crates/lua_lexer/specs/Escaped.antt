-- What the code finds an escape to mean.
use Rattle.std.specs.Prelude.{◌<◌, [], ◌∷◌}
use Rattle.lua_lexer.specs.Letters.{Text}
use Rattle.lua_lexer.specs.Strings.{utf8}
use Rattle.lua_lexer.specs.declared.escapes.Escaped.{Escaped}
use Rattle.lua_lexer.specs.declared.escapes.Escaped.TheVariants as e

abbrev pub meant : Escaped → Text
meant e.Nothing = []
meant (e.Byte b) = b ∷ []
meant (e.Point c) = utf8 c

abbrev pub IsSmall : Escaped → Type 0
IsSmall (e.Point c) = c < 1114112
IsSmall _ = Unit {0}

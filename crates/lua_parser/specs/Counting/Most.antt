-- How high what ends with the last word may yet be counted, whatever follows it.
use Rattle.std.specs.Prelude.{ℕ, ◌+◌, max, List, [], ◌∷◌, Option, Some, None}
use Rattle.lua_parser.specs.declared.signs.Tuple.TheVariants.{OfMember as of_member, OfResults as of_results, OfBody as of_body}
use Rattle.lua_parser.specs.declared.signs.Sign.{Sign}
use Rattle.lua_parser.specs.declared.signs.Sign.TheVariants.{Begin as begin, Leave as leave, LeaveBody as leave_body, Grow as grow, Up as up, Note as note, Operations as operations, Suffixes as suffixes, MoreExprs as more_exprs, ReturnValues as return_values, BehindNameIn as behind_name_in, Outcome as outcome, ABlock as a_block, Path as path, MoreNames as more_names, MaybeSemicolon as maybe_semicolon, BehindName as behind_name, RestOfStat as rest_of_stat, Bar as bar, MoreBars as more_bars, MaybeMark as maybe_mark, Dots as dots, NamedInBraces as named_in_braces, BehindItems as behind_items, EndOfFunction as end_of_function, BehindBar as behind_bar}

-- how high a sign tells that what was read last is, where that is so high
abbrev pub tells : Sign → ℕ → ℕ
tells note h = h
tells (operations l) h = h
tells suffixes h = h
tells (behind_name_in m) h = h
tells path h = h
tells (behind_name d) h = h
tells rest_of_stat h = h
tells maybe_mark h = h
tells named_in_braces h = h
tells (more_bars m) h = max m h + 1
tells (behind_items of_member m) h = m + 1
tells (behind_items (of_results p) m) h = max p m + 1
tells (end_of_function p) h = max p h + 1
tells s h = 0

-- how high that is behind a sign with which no word need be taken
abbrev pub passes : Sign → ℕ → Option ℕ
passes begin h = Some h
passes leave h = Some h
passes leave_body h = Some 1
passes (grow m) h = Some (max m h + 1)
passes up h = Some (h + 1)
passes note h = Some h
passes (operations l) h = Some h
passes suffixes h = Some h
passes (more_exprs m) h = Some (max m h)
passes return_values h = Some h
passes outcome h = Some h
passes a_block h = Some 0
passes more_names h = Some h
passes maybe_semicolon h = Some 0
passes (behind_name d) h = Some h
passes rest_of_stat h = Some h
passes bar h = Some h
passes (more_bars m) h = Some (max m h + 1)
passes maybe_mark h = Some h
passes dots h = Some h
passes (behind_items of_member m) h = Some (m + 1)
passes (behind_items (of_results p) m) h = Some (max p m + 1)
passes (behind_items of_body m) h = Some h
passes (end_of_function p) h = Some (max p h + 1)
passes s h = None

-- the height of the highest that the next word may end with the last one, from what was read last; none where a word was taken
abbrev pub most_from : Option ℕ → List Sign → ℕ
most_from None ss = 0
most_from (Some h) [] = 0
most_from (Some h) (s ∷ ss) = max (tells s h) (most_from (passes s h) ss)

abbrev pub most : List Sign → ℕ → ℕ
most ss h = most_from (Some h) ss

-- the same of the word before the last
abbrev pub bars : List Sign → ℕ
bars [] = 0
bars (behind_bar p m ∷ ss) = max (max p m + 1) (bars ss)
bars (s ∷ ss) = bars ss

-- what one sign has of it
abbrev pub bar_of : Sign → ℕ
bar_of (behind_bar p m) = max p m + 1
bar_of s = 0

-- of both words
abbrev pub rise : List Sign → ℕ → ℕ
rise ss h = max (most ss h) (bars ss)

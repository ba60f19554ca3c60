-- The signs and the reserved words by name. Each is its place in its list.
use Rattle.smv_core.specs.declared.token.TokenKind.{TokenKind}
use Rattle.smv_core.specs.declared.token.TokenKind.TheVariants.{Sign, Reserved}

-- ---- signs

-- (
abbrev pub open_paren : TokenKind
open_paren = Sign 0

-- )
abbrev pub close_paren : TokenKind
close_paren = Sign 1

-- [
abbrev pub open_bracket : TokenKind
open_bracket = Sign 2

-- ]
abbrev pub close_bracket : TokenKind
close_bracket = Sign 3

-- {
abbrev pub open_brace : TokenKind
open_brace = Sign 4

-- }
abbrev pub close_brace : TokenKind
close_brace = Sign 5

-- :
abbrev pub colon : TokenKind
colon = Sign 6

-- ;
abbrev pub semicolon : TokenKind
semicolon = Sign 7

-- ,
abbrev pub comma : TokenKind
comma = Sign 8

-- .
abbrev pub dot : TokenKind
dot = Sign 9

-- ..
abbrev pub dots : TokenKind
dots = Sign 10

-- :=
abbrev pub becomes : TokenKind
becomes = Sign 11

-- =
abbrev pub equal : TokenKind
equal = Sign 12

-- ~=
abbrev pub differ : TokenKind
differ = Sign 13

-- <
abbrev pub less : TokenKind
less = Sign 14

-- <=
abbrev pub at_most : TokenKind
at_most = Sign 15

-- >
abbrev pub greater : TokenKind
greater = Sign 16

-- >=
abbrev pub at_least : TokenKind
at_least = Sign 17

-- +
abbrev pub plus : TokenKind
plus = Sign 18

-- -
abbrev pub minus : TokenKind
minus = Sign 19

-- ~
abbrev pub tilde : TokenKind
tilde = Sign 20

-- &
abbrev pub ampersand : TokenKind
ampersand = Sign 21

-- |
abbrev pub bar : TokenKind
bar = Sign 22

-- ->
abbrev pub arrow : TokenKind
arrow = Sign 23

-- <->
abbrev pub double_arrow : TokenKind
double_arrow = Sign 24

-- ?
abbrev pub question : TokenKind
question = Sign 25

-- //
abbrev pub slashes : TokenKind
slashes = Sign 26

-- ---- reserved words

abbrev pub word_abstract : TokenKind
word_abstract = Reserved 0

abbrev pub word_array : TokenKind
word_array = Reserved 1

abbrev pub word_assert : TokenKind
word_assert = Reserved 2

abbrev pub word_boolean : TokenKind
word_boolean = Reserved 3

abbrev pub word_default : TokenKind
word_default = Reserved 4

abbrev pub word_else : TokenKind
word_else = Reserved 5

abbrev pub word_F : TokenKind
word_F = Reserved 6

abbrev pub word_for : TokenKind
word_for = Reserved 7

abbrev pub word_forall : TokenKind
word_forall = Reserved 8

abbrev pub word_free : TokenKind
word_free = Reserved 9

abbrev pub word_G : TokenKind
word_G = Reserved 10

abbrev pub word_if : TokenKind
word_if = Reserved 11

abbrev pub word_in : TokenKind
word_in = Reserved 12

abbrev pub word_init : TokenKind
word_init = Reserved 13

abbrev pub word_input : TokenKind
word_input = Reserved 14

abbrev pub word_layer : TokenKind
word_layer = Reserved 15

abbrev pub word_mod : TokenKind
word_mod = Reserved 16

abbrev pub word_module : TokenKind
word_module = Reserved 17

abbrev pub word_next : TokenKind
word_next = Reserved 18

abbrev pub word_of : TokenKind
word_of = Reserved 19

abbrev pub word_ordset : TokenKind
word_ordset = Reserved 20

abbrev pub word_output : TokenKind
word_output = Reserved 21

abbrev pub word_prove : TokenKind
word_prove = Reserved 22

abbrev pub word_scalarset : TokenKind
word_scalarset = Reserved 23

abbrev pub word_struct : TokenKind
word_struct = Reserved 24

abbrev pub word_subcase : TokenKind
word_subcase = Reserved 25

abbrev pub word_switch : TokenKind
word_switch = Reserved 26

abbrev pub word_typedef : TokenKind
word_typedef = Reserved 27

abbrev pub word_U : TokenKind
word_U = Reserved 28

abbrev pub word_undefined : TokenKind
word_undefined = Reserved 29

abbrev pub word_using : TokenKind
word_using = Reserved 30

abbrev pub word_W : TokenKind
word_W = Reserved 31

abbrev pub word_X : TokenKind
word_X = Reserved 32

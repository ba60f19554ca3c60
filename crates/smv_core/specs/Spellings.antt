-- How the signs and the reserved words are spelled.
use Rattle.std.specs.Prelude.{ℕ, List, [], ◌∷◌, Option, Some, None, codes, if◌then◌else◌}
use Rattle.std.specs.Str.{bytes_eq}
use Rattle.smv_core.specs.declared.token.TokenKind.{TokenKind}
use Rattle.smv_core.specs.Signs.{open_paren, close_paren, open_bracket, close_bracket, open_brace, close_brace, colon, semicolon, comma, dot, dots, becomes, equal, differ, less, at_most, greater, at_least, plus, minus, tilde, ampersand, bar, arrow, double_arrow, question, slashes, word_abstract, word_array, word_assert, word_boolean, word_default, word_else, word_F, word_for, word_forall, word_free, word_G, word_if, word_in, word_init, word_input, word_layer, word_mod, word_module, word_next, word_of, word_ordset, word_output, word_prove, word_scalarset, word_struct, word_subcase, word_switch, word_typedef, word_U, word_undefined, word_using, word_W, word_X}

-- each sign with its bytes
abbrev pub signs : List (TokenKind × List ℕ)
signs =
    (open_paren, codes "(") ∷ (close_paren, codes ")") ∷ (open_bracket, codes "[") ∷ (close_bracket, codes "]") ∷ (open_brace, codes "{") ∷
    (close_brace, codes "}") ∷ (colon, codes ":") ∷ (semicolon, codes ";") ∷ (comma, codes ",") ∷ (dot, codes ".") ∷ (dots, codes "..") ∷
    (becomes, codes ":=") ∷ (equal, codes "=") ∷ (differ, codes "~=") ∷ (less, codes "<") ∷ (at_most, codes "<=") ∷ (greater, codes ">") ∷
    (at_least, codes ">=") ∷ (plus, codes "+") ∷ (minus, codes "-") ∷ (tilde, codes "~") ∷ (ampersand, codes "&") ∷ (bar, codes "|") ∷
    (arrow, codes "->") ∷ (double_arrow, codes "<->") ∷ (question, codes "?") ∷ (slashes, codes "//") ∷ []

-- each reserved word with its bytes
abbrev pub reserved_words : List (TokenKind × List ℕ)
reserved_words =
    (word_abstract, codes "abstract") ∷ (word_array, codes "array") ∷ (word_assert, codes "assert") ∷ (word_boolean, codes "boolean") ∷
    (word_default, codes "default") ∷ (word_else, codes "else") ∷ (word_F, codes "F") ∷ (word_for, codes "for") ∷ (word_forall, codes "forall") ∷
    (word_free, codes "free") ∷ (word_G, codes "G") ∷ (word_if, codes "if") ∷ (word_in, codes "in") ∷ (word_init, codes "init") ∷
    (word_input, codes "input") ∷ (word_layer, codes "layer") ∷ (word_mod, codes "mod") ∷ (word_module, codes "module") ∷ (word_next, codes "next") ∷
    (word_of, codes "of") ∷ (word_ordset, codes "ordset") ∷ (word_output, codes "output") ∷ (word_prove, codes "prove") ∷
    (word_scalarset, codes "scalarset") ∷ (word_struct, codes "struct") ∷ (word_subcase, codes "subcase") ∷ (word_switch, codes "switch") ∷
    (word_typedef, codes "typedef") ∷ (word_U, codes "U") ∷ (word_undefined, codes "undefined") ∷ (word_using, codes "using") ∷ (word_W, codes "W") ∷
    (word_X, codes "X") ∷ []

-- the sign or word of a list that has these bytes
abbrev pub spelled_in : List (TokenKind × List ℕ) → List ℕ → Option TokenKind
spelled_in [] bytes = None
spelled_in (entry ∷ more) bytes = if bytes_eq entry.1 bytes then Some entry.0 else spelled_in more bytes

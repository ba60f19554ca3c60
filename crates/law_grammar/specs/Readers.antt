-- What a parser reads from single tokens, and the forms that it is built in.
use Rattle.std.specs.Prelude.{ℕ, if◌then◌else◌, List, [], ◌∷◌, Option, Some, None, Ok}
use Rattle.std.specs.Str.{bytes_eq}
use Rattle.smv_core.specs.declared.token.Token.{Token}
use Rattle.smv_core.specs.declared.token.TokenKind.{TokenKind}
use Rattle.smv_core.specs.declared.tree.Word.{Word}
use Rattle.smv_core.specs.Notation.{Tokens, same_kind, found, with_place, name_of, number_of}
use Rattle.law_grammar.specs.Parsing.{Parser, and_then, bind, pure, take, fork, loop}
use Rattle.smv_core.specs.Signs.{comma}
use Rattle.law_grammar.specs.Marks.{Mark, exactly, begins}

-- the offset of this sign or reserved word
abbrev pub a_token : TokenKind → Token → Option ℕ
a_token k t = if same_kind t.kind k then Some t.at else None

abbrev pub a_name : Token → Option Word
a_name t = name_of t.at t.kind

-- the value of a number, and its offset
abbrev pub a_number : Token → Option (ℕ × ℕ)
a_number t = with_place t.at (number_of t.kind)

-- the value of one of some signs and words, and its offset
abbrev pub an_entry : {A : Type 0} → List (TokenKind × A) → Token → Option (A × ℕ)
an_entry list t = with_place t.at (found list t.kind)

-- the parser where the next token has one of the marks, and else a value
abbrev pub maybe : {A : Type 0} → List Mark → Parser A → A → Parser A
maybe xs p a = fork (begins xs) p (pure a)

abbrev pub same_word : Word → Option Word → Option Word
same_word w None = None
same_word w (Some v) = if bytes_eq v.name w.name then Some v else None

-- the name that was written before
abbrev pub a_same_name : Word → Token → Option Word
a_same_name w t = same_word w (a_name t)

-- X { ',' X }
abbrev pub read_separated : {A : Type 0} → Parser A → Parser (List A)
read_separated p = bind p (λ x. bind (loop (begins (exactly comma ∷ [])) (bind (take (a_token comma)) (λ _. p))) (λ more. pure (x ∷ more)))

-- [ X { ',' X } ], where X begins with one of the marks
abbrev pub read_separated_or_none : {A : Type 0} → List Mark → Parser A → Parser (List A)
read_separated_or_none xs p = maybe xs (read_separated p) []

-- what is read, and what is seen in the tokens ahead of it
abbrev pub noting : {A B : Type 0} → (Tokens → B) → Parser A → Parser (A × B)
noting f p ts = and_then (p ts) (λ a rest. Ok ((a, f ts), rest))

-- where the tokens begin
abbrev pub first_at : Tokens → ℕ
first_at [] = 0
first_at (t ∷ ts) = t.at

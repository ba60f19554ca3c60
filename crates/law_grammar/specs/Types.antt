-- The parser of types, rule by rule.
use Rattle.std.specs.Prelude.{ℕ, zero, suc, [], ◌∷◌}
use Rattle.smv_core.specs.declared.tree.TypeExpr.{TypeExpr}
use Rattle.smv_core.specs.declared.tree.TypeExpr.TheVariants as type
use Rattle.smv_core.specs.declared.tree.Field.{Field, roll-Field}
use Rattle.smv_core.specs.Signs.{open_brace, close_brace, colon, semicolon}
use Rattle.smv_core.specs.Signs as w
use Rattle.smv_core.specs.Grammar.{place_of}
use Rattle.law_grammar.specs.Parsing.{Parser, bind, pure, take, take_open, fork, loop}
use Rattle.law_grammar.specs.Marks.{any_name, any_number, exactly, begins}
use Rattle.law_grammar.specs.Readers.{a_token, a_name, read_separated}
use Rattle.law_grammar.specs.Expressions.{read_index, no_level}

-- the parsers for what stands inside an opened level
pub record TypeReaders : Type 0 where
  pub type : Parser TypeExpr
  pub field : Parser Field

module _ (n : ℕ) (inner : TypeReaders) where
  unfoldable pub read_enumeration : Parser TypeExpr
  read_enumeration = take_open (a_token open_brace) n (λ at. bind (read_separated (take a_name)) (λ names. bind (take (a_token close_brace)) (λ _. pure (type.Enum names at))))

  unfoldable pub read_array : Parser TypeExpr
  read_array = bind (take (a_token w.word_array)) (λ _. bind read_index (λ over. take_open (a_token w.word_of) n (λ _. bind inner.type (λ of. pure (type.Array over of)))))

  unfoldable pub read_structure : Parser TypeExpr
  read_structure = bind (take (a_token w.word_struct)) (λ _. take_open (a_token open_brace) n (λ _. bind (loop (begins (any_name ∷ [])) inner.field) (λ fields.
      bind (take (a_token close_brace)) (λ _. pure (type.Struct fields)))))

  unfoldable pub read_type : Parser TypeExpr
  read_type = fork (begins (exactly w.word_boolean ∷ any_number ∷ any_name ∷ [])) read_index
      (fork (begins (exactly open_brace ∷ [])) read_enumeration
      (fork (begins (exactly w.word_array ∷ [])) read_array read_structure))

  unfoldable pub read_field : Parser Field
  read_field = bind (read_separated (take a_name)) (λ names. bind (take (a_token colon)) (λ _. bind read_type (λ of. bind (take (a_token semicolon)) (λ _.
      pure (roll-Field (record { names = names; of = of; at = place_of names }))))))

-- the parsers where fewer levels are left than this
abbrev pub type_readers : ℕ → TypeReaders
type_readers zero = record { type = no_level; field = no_level }
type_readers (suc n) = record { type = read_type n (type_readers n); field = read_field n (type_readers n) }

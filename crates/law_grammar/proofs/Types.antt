-- The laws of types.
use Rattle.std.proofs.Common.{◌≡◌, ◌-◌, ◌<◌, ℕ, zero, suc, List, [], ◌∷◌, inl, refl, subst, arith}
use Rattle.smv_core.specs.declared.token.TokenKind.TheVariants.{Ident}
use Rattle.smv_core.specs.declared.tree.Word.{Word}
use Rattle.smv_core.specs.declared.tree.TypeExpr.TheVariants as type
use Rattle.smv_core.specs.declared.tree.Field.{roll-Field}
use Rattle.smv_core.specs.Signs.{open_brace, close_brace, colon, semicolon, comma}
use Rattle.smv_core.specs.Signs as w
use Rattle.smv_core.specs.Notation.{Tokens, ◌<|>◌}
use Rattle.smv_core.specs.Grammar as g
use Rattle.smv_core.specs.Grammar.{place_of}
use Rattle.law_grammar.specs.Lawful.{Finishes, Lawful}
use Rattle.law_grammar.specs.Marks.{Mark, any_name, any_number, exactly, stops_by}
use Rattle.law_grammar.specs.Readers.{read_separated, a_name}
use Rattle.law_grammar.specs.Parsing.{take}
use Rattle.law_grammar.specs.Types.{TypeReaders}
use Rattle.law_grammar.specs.Types as p
use Rattle.law_grammar.proofs.Second.{Second, second-one, second-then, second-either, second-other}
use Rattle.law_grammar.proofs.Forms.{leads-nothing, Begins, begins-then, begins-either, begins-wider, token-begins, opener-begins, token-lawful, level, name-begins, name-lawful, closed, next, next-begun, repeated, alternative, made, ended, separated-lawful}
use Rattle.law_grammar.proofs.Expressions.{At, index-lawful, span-begins}
use Rattle.smv_core.specs.Notation.{separated, name}

-- names with commas
pub names-lawful : {C : Type 0} {n : ℕ} → Lawful C (λ floor m. separated name) n (read_separated (take a_name)) (stops_by (λ names. exactly comma ∷ []))
names-lawful = separated-lawful closed (exactly comma ∷ []) name-lawful (λ x. refl) refl (λ x. refl)

pub names-begins : Begins (any_name ∷ []) (λ floor m. separated name)
names-begins = begins-then name-begins

abbrev pub index_marks : List Mark
index_marks = exactly w.word_boolean ∷ any_number ∷ any_name ∷ []

pub index-begins : Begins index_marks (λ floor m. g.index)
index-begins = begins-either (begins-wider (exactly w.word_boolean ∷ []) _ refl (begins-then (token-begins w.word_boolean)))
    (begins-either (begins-wider (any_number ∷ []) _ refl (begins-then span-begins)) (begins-wider (any_name ∷ []) _ refl (begins-then name-begins)))

enumeration-begins : Begins (exactly open_brace ∷ []) (At g.enumeration)
enumeration-begins = begins-then (opener-begins open_brace)

array-begins : Begins (exactly w.word_array ∷ []) (At g.array)
array-begins = begins-then (token-begins w.word_array)

structure-begins : Begins (exactly w.word_struct ∷ []) (At g.structure)
structure-begins = begins-then (token-begins w.word_struct)

last-begins : Begins (exactly w.word_array ∷ exactly w.word_struct ∷ []) (λ floor m. At g.array floor m <|> At g.structure floor m)
last-begins = begins-either (begins-wider (exactly w.word_array ∷ []) _ refl array-begins) (begins-wider (exactly w.word_struct ∷ []) _ refl structure-begins)

later-begins : Begins (exactly open_brace ∷ exactly w.word_array ∷ exactly w.word_struct ∷ []) (λ floor m. At g.enumeration floor m <|> At g.array floor m <|> At g.structure floor m)
later-begins = begins-either (begins-wider (exactly open_brace ∷ []) _ refl enumeration-begins) (begins-wider (exactly w.word_array ∷ exactly w.word_struct ∷ []) _ refl last-begins)

abbrev pub type_marks : List Mark
type_marks = exactly w.word_boolean ∷ any_number ∷ any_name ∷ exactly open_brace ∷ exactly w.word_array ∷ exactly w.word_struct ∷ []

pub type-begins : Begins type_marks (At g.type_rule)
type-begins = begins-either (begins-wider index_marks _ refl index-begins) (begins-wider (exactly open_brace ∷ exactly w.word_array ∷ exactly w.word_struct ∷ []) _ refl later-begins)

-- the first token of a type is all of it, where it is a name
pub type-second : (zs : List Mark) → Second (any_name ∷ []) zs (At g.type_rule)
type-second zs = second-either (second-either (second-other (exactly w.word_boolean ∷ []) (begins-then (token-begins w.word_boolean)) refl)
    (second-either (second-other (any_number ∷ []) (begins-then span-begins) refl) (second-then (second-one a_name) (λ x. leads-nothing _))))
    (second-other (exactly open_brace ∷ exactly w.word_array ∷ exactly w.word_struct ∷ []) later-begins refl)

pub field-begins : Begins (any_name ∷ []) (At g.field_rule)
field-begins = begins-then names-begins

-- the laws of what stands inside an opened level, where there is one
pub record TypeLaws (n : ℕ) (inner : TypeReaders) : Type 0 where
  pub type : Lawful (0 < n) (At g.type_rule) (n - 1) inner.type (stops_by closed)
  pub field : Lawful (0 < n) (At g.field_rule) (n - 1) inner.field (stops_by closed)

module _ (C : Type 0) (n : ℕ) (inner : TypeReaders) (law : TypeLaws n inner) where
  enumeration-lawful : Lawful C (At g.enumeration) n (p.read_enumeration n inner) (stops_by closed)
  unfolding p.read_enumeration
  enumeration-lawful = level open_brace refl (λ at. ended (exactly comma ∷ []) close_brace (λ names. type.Enum names at) refl refl names-lawful)

  array-lawful : Lawful C (At g.array) n (p.read_array n inner) (stops_by closed)
  unfolding p.read_array
  array-lawful = next (token-lawful w.word_array refl) (λ _. next index-lawful (λ over. level w.word_of refl (λ _. made [] (type.Array over) law.type)))

  structure-lawful : Lawful C (At g.structure) n (p.read_structure n inner) (stops_by closed)
  unfolding p.read_structure
  structure-lawful = next (token-lawful w.word_struct refl) (λ _. level open_brace refl (λ _. ended (any_name ∷ []) close_brace type.Struct refl refl
      (repeated (any_name ∷ []) closed (any_name ∷ []) law.field field-begins (λ a. refl) refl (λ a. refl))))

  pub type-lawful : Lawful C (At g.type_rule) n (p.read_type n inner) (stops_by closed)
  unfolding p.read_type
  type-lawful = alternative index_marks (exactly open_brace ∷ exactly w.word_array ∷ exactly w.word_struct ∷ []) index-lawful
      (alternative (exactly open_brace ∷ []) (exactly w.word_array ∷ exactly w.word_struct ∷ []) enumeration-lawful
      (alternative (exactly w.word_array ∷ []) (exactly w.word_struct ∷ []) array-lawful structure-lawful array-begins structure-begins refl) enumeration-begins last-begins refl) index-begins later-begins refl

  pub field-lawful : Lawful C (At g.field_rule) n (p.read_field n inner) (stops_by closed)
  unfolding p.read_field
  field-lawful = next-begun (exactly colon ∷ []) (λ names. exactly comma ∷ []) names-lawful
      (λ names. next (token-lawful colon refl) (λ _. ended [] semicolon (λ of. roll-Field (record { names = names; of = of; at = place_of names })) refl refl type-lawful))
      (λ names. begins-then (token-begins colon)) (λ names. refl)

pub type-finishes : (place : ℕ) → Finishes (At g.type_rule) place
type-finishes place = record {
  more = record { kind = w.word_boolean; at = place } ∷ [];
  value = type.Boolean;
  enough = 0;
  spelled = λ floor m z e r. inl (inl (place, r, (refl, refl), (refl, refl)));
}

field-finishes : (place : ℕ) → Finishes (At g.field_rule) place
field-finishes place =
    let x : Word = record { name = []; at = place } in
    record {
      more = record { kind = Ident []; at = place } ∷ record { kind = colon; at = place } ∷ record { kind = w.word_boolean; at = place } ∷ record { kind = semicolon; at = place } ∷ [];
      value = roll-Field (record { names = x ∷ []; of = type.Boolean; at = place });
      enough = 0;
      spelled = λ floor m z e r.
          let after : Tokens = record { kind = colon; at = place } ∷ record { kind = w.word_boolean; at = place } ∷ record { kind = semicolon; at = place } ∷ r in
          let last : Tokens = record { kind = semicolon; at = place } ∷ r in (
            x ∷ [],
            after,
            (x, after, (refl, refl), ([], after, refl, (refl, refl))),
            (
              place,
              record { kind = w.word_boolean; at = place } ∷ last,
              (refl, refl),
              (type.Boolean, last, inl (inl (place, last, (refl, refl), (refl, refl))), (place, r, (refl, refl), (refl, refl))),
            ),
          );
    }

pub type-laws : (n : ℕ) → TypeLaws n (p.type_readers n)
type-laws zero = record {
  type = record { finishes = type-finishes; law = λ c. absurd (omega arith) };
  field = record { finishes = field-finishes; law = λ c. absurd (omega arith) };
}
type-laws (suc n) =
    let x = type-laws n in
    let e : n ≡ suc n - 1 = omega arith in
    record {
      type = let P : ℕ → Type 0 = λ k. Lawful (0 < suc n) (At g.type_rule) k (p.read_type n (p.type_readers n)) (stops_by closed) in subst P e (type-lawful (0 < suc n) n (p.type_readers n) x);
      field = let P : ℕ → Type 0 = λ k. Lawful (0 < suc n) (At g.field_rule) k (p.read_field n (p.type_readers n)) (stops_by closed) in subst P e (field-lawful (0 < suc n) n (p.type_readers n) x);
    }

-- the parser of types within n levels has its law
pub types : {C : Type 0} (n : ℕ) → Lawful C (At g.type_rule) n (p.read_type n (p.type_readers n)) (stops_by closed)
types {C = C} n = type-lawful C n (p.type_readers n) (type-laws n)

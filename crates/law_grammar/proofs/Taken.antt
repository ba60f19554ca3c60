-- Each parser that is repeated takes a token.
use Rattle.std.proofs.Common.{◌≡◌, ◌<◌, ℕ, Bool, true, [], ◌∷◌, Option}
use Rattle.smv_core.specs.declared.token.Token.{Token}
use Rattle.smv_core.specs.declared.token.TokenKind.{TokenKind}
use Rattle.smv_core.specs.Signs.{open_bracket}
use Rattle.smv_core.specs.Notation.{same_kind}
use Rattle.law_grammar.specs.Parsing.{Parser, bind, take}
use Rattle.law_grammar.specs.Lawful.{Levels, Lawful}
use Rattle.law_grammar.specs.Marks.{any_name, any_number, exactly}
use Rattle.law_grammar.specs.Readers.{a_token}
use Rattle.law_grammar.specs.Expressions.{expr_readers}
use Rattle.law_grammar.specs.Expressions as e
use Rattle.law_grammar.specs.Types as t
use Rattle.law_grammar.specs.Statements as s
use Rattle.law_grammar.specs.References as r
use Rattle.law_grammar.specs.Items as i
use Rattle.law_grammar.specs.Items.{item_marks, body_marks, top_marks}
use Rattle.law_grammar.specs.Statements.{stmt_marks}
use Rattle.law_grammar.proofs.Many.{Takes}
use Rattle.law_grammar.proofs.Forms.{begins-then, token-begins, token-lawful, next}
use Rattle.law_grammar.proofs.Steps.{takes}
use Rattle.law_grammar.proofs.Expressions.{after_path, part-begins, part-lawful, signed-begins, signed-lawful, inner-laws}
use Rattle.law_grammar.proofs.Types.{field-begins, field-lawful, type-laws}
use Rattle.law_grammar.proofs.Statements.{stmt-begins, statements, arm-begins, arm-lawful, stmt-laws}
use Rattle.law_grammar.proofs.References.{in-brackets-begins, in-brackets-lawful, ref-part-begins, ref-part-lawful}
use Rattle.law_grammar.proofs.Marked.{marked-begins, marked-lawful}
use Rattle.law_grammar.proofs.Items.{item-begins}
use Rattle.law_grammar.proofs.Bodies.{item-lawful, item-laws, body-begins, bodies}
use Rattle.law_grammar.proofs.Texts.{top-begins, top-lawful}

-- a sign or word, and then what has its law: what stands behind a comma or an operator
pub led_takes : {C A : Type 0} {F : Levels A} {n : ℕ} {p : Parser A} {st : A → Option Token → Bool} (k : TokenKind) → same_kind k k ≡ true → C → Lawful C F n p st → Takes (bind (take (a_token k)) (λ _. p))
led_takes k self c f = takes (exactly k ∷ []) ((next (token-lawful k self) (λ _. f)).law c) (begins-then (token-begins k))

pub part_takes : (n : ℕ) → Takes (e.read_part n (expr_readers n))
part_takes n = takes after_path ((part-lawful (Unit {0}) n (expr_readers n) (inner-laws n)).law tt) part-begins

pub signed_takes : (n : ℕ) → Takes (e.read_signed n (expr_readers n))
signed_takes n = takes _ ((signed-lawful (Unit {0}) n (expr_readers n) (inner-laws n)).law tt) signed-begins

pub field_takes : (n : ℕ) → Takes (t.read_field n (t.type_readers n))
field_takes n = takes (any_name ∷ []) ((field-lawful (Unit {0}) n (t.type_readers n) (type-laws n)).law tt) field-begins

pub arm_takes : (n : ℕ) → 0 < n → Takes (s.read_arm n (s.stmt_readers n))
arm_takes n l = takes (any_number ∷ any_name ∷ []) ((arm-lawful n (s.stmt_readers n) (stmt-laws n)).law l) (arm-begins n (s.stmt_readers n) (stmt-laws n))

pub stmt_takes : (n : ℕ) → Takes (s.read_stmt n (s.stmt_readers n))
stmt_takes n = takes stmt_marks ((statements {C = Unit {0}} n).law tt) stmt-begins

pub in_brackets_takes : (n : ℕ) → Takes (r.read_in_brackets n)
in_brackets_takes n = takes (exactly open_bracket ∷ []) ((in-brackets-lawful {C = Unit {0}} n).law tt) in-brackets-begins

pub ref_part_takes : (n : ℕ) → Takes (r.read_ref_part n)
ref_part_takes n = takes after_path ((ref-part-lawful {C = Unit {0}} n).law tt) ref-part-begins

pub marked_takes : (n : ℕ) → Takes (i.read_marked n)
marked_takes n = takes after_path ((marked-lawful {C = Unit {0}} n).law tt) marked-begins

pub item_takes : (n : ℕ) → Takes (i.read_item n (i.item_readers n))
item_takes n = takes item_marks ((item-lawful (Unit {0}) n (i.item_readers n) (item-laws n)).law tt) item-begins

pub body_takes : (n : ℕ) → Takes (i.read_body n (i.item_readers n))
body_takes n = takes body_marks ((bodies {C = Unit {0}} n).law tt) body-begins

pub top_takes : (n : ℕ) → Takes (i.read_top n (i.item_readers n))
top_takes n = takes top_marks ((top-lawful (Unit {0}) n (i.item_readers n) (item-laws n)).law tt) top-begins

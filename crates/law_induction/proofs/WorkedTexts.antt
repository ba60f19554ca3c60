-- The worked texts, by computing what is read.
use Rattle.std.proofs.Common.{◌≡◌, ℕ, List, [], Ok, Err, Result, refl, subst}
use Rattle.std.specs.Prelude.{codes}
use Rattle.smv_core.specs.declared.token.TokenKind.{TokenKind}
use Rattle.smv_core.specs.declared.token.TokenKind.TheVariants.{Ident}
use Rattle.smv_core.specs.declared.tree.TypeExpr.{Named}
use Rattle.smv_core.specs.Types.{types_from}
use Rattle.smv_core.specs.declared.tree.Text.{Text}
use Rattle.smv_core.specs.Notation.{Tokens}
use Rattle.smv_core.specs.Spelling.{Spells}
use Rattle.law_grammar.specs.Items.{read_text}
use Rattle.law_grammar.specs.Parsing.{Halt}
use Rattle.law_grammar.specs.Worked.{laid}
use Rattle.law_grammar.proofs.Computing as grammar
use Rattle.law_grammar.specs.Laws.{IsRight}
use Rattle.law_grammar.proofs.Whole.{answered}
use Rattle.law_places.specs.Placeless.{placeless_item, placeless_stmt, placeless, placeless_type}
use Rattle.law_places.proofs.Computing as tree
use Rattle.law_exchanged.specs.Changed.{changed_item}
use Rattle.law_induction.specs.Renamed.{renamed}
use Rattle.law_induction.specs.Strengthened.{AreInductiveTops}
use Rattle.law_induction.specs.WorkedTexts.{at_index, strengthened, machine, names, names_body, type_names, MachineStrengthened, NamesStrengthened, TypeNamesRefused}

unfoldable computing : Unit {0}
unfolding grammar.computing tree.computing changed_item renamed placeless_type placeless placeless_stmt placeless_item
computing = tt

-- what is read is spelled
spelled : (n : ℕ) (ts : Tokens) (x : Text) → read_text n ts ≡ Ok x → Spells n ts x
spelled n ts x e = let P : Result Text Halt → Type 0 = λ o. IsRight n 0 ts o in subst P e (answered n 0 ts)

-- what is read of tokens, or no text
abbrev read : List TokenKind → Text
read ks = of (read_text 64 (laid 0 ks))
  where
    of : Result Text Halt → Text
    of (Ok x) = x
    of (Err h) = record { tops = [] }

abbrev i : TokenKind
i = Ident (codes "i")

abbrev below0 : TokenKind
below0 = Ident (codes "below0")

abbrev x : TokenKind
x = Ident (codes "x")

abbrev machine_read : Text
machine_read = read (machine (at_index x i))

abbrev machine_written : Text
machine_written = read (machine (strengthened i (at_index x below0) (at_index x i)))

machine-inductive : AreInductiveTops (codes "i") (codes "below0") (codes "I") (codes "p") (types_from [] machine_read.tops) machine_read.tops
unfolding computing
machine-inductive = (
  λ e. (tt, (tt, (tt, ((λ k. record { outer = []; over = Named (record { name = codes "I"; at = 60 }) 60; inner = []; split = refl; of_set = refl; named = refl; innermost = tt; apart = refl; renamable = (refl, ((refl, tt), tt)) }, tt), tt)))),
  tt,
)

pub machine-worked : MachineStrengthened
unfolding computing
machine-worked = (
  machine_read,
  machine_written,
  spelled 64 (laid 0 (machine (at_index x i))) machine_read refl,
  spelled 64 (laid 0 (machine (strengthened i (at_index x below0) (at_index x i)))) machine_written refl,
  machine-inductive,
  refl,
)

abbrev names_read : Text
names_read = read (names (names_body i))

abbrev names_written : Text
names_written = read (names (strengthened i (names_body below0) (names_body i)))

names-inductive : AreInductiveTops (codes "i") (codes "below0") (codes "I") (codes "p") (types_from [] names_read.tops) names_read.tops
unfolding computing
names-inductive = (
  λ e. absurd (cc (e)),
  (
    λ e. (
      tt,
      (
        (
          (
            λ k. absurd (cc (k)),
            (
              λ k. record {
                outer = [];
                over = Named (record { name = codes "I"; at = 52 }) 52;
                inner = [];
                split = refl;
                of_set = refl;
                named = refl;
                innermost = tt;
                apart = refl;
                renamable = (
                  ((((refl, refl), ((refl, tt), tt)), tt), ((refl, tt), tt)),
                  (((refl, refl), refl, ((((refl, tt), tt), ((refl, tt), tt)), tt)), tt),
                );
              },
              tt,
            ),
          ),
          tt,
        ),
        tt,
      ),
    ),
    tt,
  ),
)

pub names-worked : NamesStrengthened
unfolding computing
names-worked = (
  names_read,
  names_written,
  spelled 64 (laid 0 (names (names_body i))) names_read refl,
  spelled 64 (laid 0 (names (strengthened i (names_body below0) (names_body i)))) names_written refl,
  names-inductive,
  refl,
)

abbrev type_names_read : Text
type_names_read = read type_names

pub type_names-worked : TypeNamesRefused
unfolding computing
type_names-worked = (type_names_read, spelled 64 (laid 0 type_names) type_names_read refl, λ h. let p = (h.0 refl).0.0 refl in absurd (cc (p.renamable.0.0.1)))

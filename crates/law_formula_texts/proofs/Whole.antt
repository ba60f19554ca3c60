-- The theorem for texts that are spelled.
use Rattle.std.proofs.Common.{◌≤◌, ◌<◌, ◌+◌, ◌^◌, suc, List, [], ◌∷◌, ◌++◌, length, arith}
use Rattle.smv_core.specs.Values.{Name}
use Rattle.smv_core.specs.declared.token.TokenKind.{TokenKind}
use Rattle.smv_core.specs.declared.token.TokenKind.TheVariants.{Ident, Number, Sign, Reserved}
use Rattle.smv_core.specs.Notation.{Tokens}
use Rattle.law_formulas.specs.Monitors.{free_names, monitors_of}
use Rattle.law_fresh_monitors.proofs.FreeNames.{free}
use Rattle.law_fresh_monitors.proofs.Whole.{translated-exact}
use Rattle.law_formula_texts.specs.Laws.{name_in, names_of, SpelledIsExact}
use Rattle.law_formula_texts.proofs.Texts.{nowhere}
use Rattle.law_formula_texts.proofs.Counting.{once}

few-names : (ts : Tokens) → length (names_of ts) ≤ length ts
few-names [] = omega arith
few-names (t ∷ ts) = by_kind t.kind (few-names ts)
  where
    by_kind : (k : TokenKind) → length (names_of ts) ≤ length ts → length (name_in k ++ names_of ts) ≤ suc (length ts)
    by_kind (Ident bytes) h = omega (arith, h)
    by_kind (Number value) h = omega (arith, h)
    by_kind (Sign i) h = omega (arith, h)
    by_kind (Reserved i) h = omega (arith, h)

pub spelled-exact : SpelledIsExact
spelled-exact n ts ft spelled offsets small binders =
    let few = few-names ts in
    let fits : monitors_of ft.formulas + 1 + length (names_of ts) < 2 ^ 64 = omega (arith, small, few) in
    let names : List Name = free_names (names_of ts) (monitors_of ft.formulas + 1) in
    let old = nowhere n ts ft names spelled (free (names_of ts) (monitors_of ft.formulas + 1) fits).2 in
    translated-exact (names_of ts) ft fits old.0 old.1 (record { places = once n ts ft spelled offsets; binders = binders })

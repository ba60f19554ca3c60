-- The theorem for the first free names.
use Rattle.std.proofs.Common.{◌≡◌, ◌+◌, suc, ℕ, List, ◌∙◌, arith}
use Rattle.smv_core.specs.Values.{Name}
use Rattle.law_formulas.specs.Monitors.{free_names, monitors_of}
use Rattle.law_formula_trees.proofs.Units.{exact}
use Rattle.law_fresh_monitors.specs.Laws.{TranslatedIsExact}
use Rattle.law_fresh_monitors.proofs.FreeNames.{free}
use Rattle.law_fresh_monitors.proofs.OldText.{fit}
use Rattle.law_fresh_monitors.proofs.Alone.{alone}

one-more : (n : ℕ) → n + 1 ≡ suc n
one-more n = omega arith

pub translated-exact : TranslatedIsExact
translated-exact used ft small old flat spotted =
    let names : List Name = free_names used (monitors_of ft.formulas + 1) in
    let f = free used (monitors_of ft.formulas + 1) small in
    let fits = fit names ft (f.0 ∙ one-more (monitors_of ft.formulas)) old flat (alone names ft f.1 spotted) in
    exact names ft fits.0 fits.1

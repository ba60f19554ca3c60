use Rattle.std.proofs.Common.{◌≡◌, ◌++◌, ◌<◌, ℕ, List, Some, map, slice_get, get_or, length, sym, ap, subst, ◌∙◌, arith}
use Rattle.std.specs.Result.{OnOk}
use Rattle.smv_core.specs.declared.flat.Simple.{Simple}
use Rattle.law_designs.specs.Loops.{cells_of}
use Rattle.smv_loops.specs.Cells.{base, number_in}
use Rattle.smv_indexes.specs.Indexes.{index_of}
use Rattle.smv_loops.specs.Numbers.{places}
use Rattle.smv_loops.proofs.NumberLaws.{number-cells}
use Rattle.smv_loops.proofs.TableLaws.{get-inside, get-some}
use Rattle.smv_loops.proofs.cells.cells_at.Goals as goal

pub returns : goal.returns
returns c =
    let families = c.args.families.now in
    let family = c.args.family in
    let place : c.from-place.result ≡ family = c.from-place.ensures in
    let f : slice_get families family ≡ Some c.in-Some.shape.now = ap (λ (k : ℕ). slice_get families k) (sym place) ∙ get-some families c.from-place.result c.in-Some.shape.now c.in-Some.ensures.lookup.3.0 c.in-Some.ensures.lookup.1 in
    let l : family < length families = get-inside families family c.in-Some.shape.now f in
    let is = map index_of c.args.indexes.now in
    let start : get_or c.args.bases.now c.from-place.result 0 ≡ base families family = ap (λ (k : ℕ). get_or c.args.bases.now k 0) place ∙ c.requires.each family (omega (arith, l)) in
    let e : places c.as_slice.result.now is (get_or c.args.bases.now c.from-place.result 0) ≡ map (number_in families) (cells_of (slice_get families family) family is) =
    ap (λ (over : List Simple). places over is (get_or c.args.bases.now c.from-place.result 0)) c.as_slice.ensures
    ∙ ap (λ (n : ℕ). places c.in-Some.shape.now.over (is) n) start
    ∙ sym (number-cells families family c.in-Some.shape.now is f) in
    subst (λ (l : List ℕ). OnOk c.numbers.result (c.numbers.new.out.items ≡ c.args.out.now.items ++ l)) e c.numbers.ensures

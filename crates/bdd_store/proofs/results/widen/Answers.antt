use Rattle.std.proofs.Common.{◌≡◌, sym, ◌∙◌, ap, cond, subst, arith, inl, inr}
use Rattle.std.specs.Prelude.{vec_len}
use Rattle.std.proofs.lemmas.Bool.{cases_lt}
use Rattle.bdd_store.specs.declared.results.Entry.{Entry}
use Rattle.bdd_store.specs.Results.{IsResult, no_entry}
use Rattle.bdd_store.proofs.results.widen.Goals as goal

pub returns-then-is_ok : goal.returns-then-is_ok
returns-then-is_ok c d ok all =
    let was = c.args.results.now in
    let now = c.resize.new.self in
    let is_ok = sym c.is_ok.ensures.value ∙ c.if-is_ok.true in
    let len : vec_len now ≡ c.args.places = c.resize.ensures.len ∙ ap (λ t. cond t c.args.places (vec_len was)) is_ok in
    c.spread.ensures d ok (λ i lt. elim (cases_lt i (vec_len was)) [
      | inl old ↦ subst (λ (x : Entry). IsResult d x.operation x.answer) (sym (c.resize.ensures.by_index.0 i no_entry (omega (arith, lt, len, now.ok.0)) old)) (all i (omega (arith, old, was.ok.0)))
      | inr new ↦ subst (λ (x : Entry). IsResult d x.operation x.answer) (sym (c.resize.ensures.by_index.1 i no_entry is_ok new (omega (arith, lt, len, now.ok.0)))) (c.never.ensures d ok)
    ])

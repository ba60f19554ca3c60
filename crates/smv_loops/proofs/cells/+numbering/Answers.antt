use Rattle.std.proofs.Common.{◌≡◌, ℕ, ◌+◌, ◌-◌, ◌<◌, ◌≤◌, ◌++◌, List, ◌∷◌, map, sym, ap, subst, ◌∙◌, arith}
use Rattle.std.specs.List.{flat_map}
use Rattle.std.proofs.lemmas.List.{append-nil}
use Rattle.std.specs.Result.{OnOk}
use Rattle.smv_core.specs.Values.{numbers_from}
use Rattle.smv_core.specs.declared.flat.Simple.{Simple}
use Rattle.smv_indexes.specs.Indexes.{index_of}
use Rattle.smv_loops.specs.Numbers.{places, places_at, digit_places, range_places, single_places}
use Rattle.smv_loops.proofs.NumberLaws.{places-Range, places-Enum, places-Set, places-step, fixed-below, fixed-above}
use Rattle.smv_loops.proofs.cells.+numbering.Goals as goal

pub first_numbers-returns-in-Range : goal.first_numbers-returns-in-Range
first_numbers-returns-in-Range t c =
    let more = map index_of c.args.more.now in
    let i = index_of c.args.index in
    let e : places (c.args.first ∷ c.args.over.now) (i ∷ more) c.args.start ≡ range_places c.in-Range.low c.in-Range.high i c.args.over.now more c.args.start =
    ap (λ (o : Simple). places (o ∷ c.args.over.now) (i ∷ more) c.args.start) c.in-Range.is ∙ places-Range i c.args.over.now more c.args.start c.in-Range.low c.in-Range.high in
    subst (λ (l : List ℕ). OnOk c.range_numbers.result (c.range_numbers.new.out.items ≡ c.args.out.now.items ++ l)) (sym e) c.range_numbers.ensures

pub first_numbers-returns-in-Enum : goal.first_numbers-returns-in-Enum
first_numbers-returns-in-Enum t c =
    let more = map index_of c.args.more.now in
    let i = index_of c.args.index in
    let e : places (c.args.first ∷ c.args.over.now) (i ∷ more) c.args.start ≡ single_places i c.args.over.now more c.args.start =
    ap (λ (o : Simple). places (o ∷ c.args.over.now) (i ∷ more) c.args.start) c.in-Enum.is ∙ places-Enum i c.args.over.now more c.args.start c.in-Enum.list in
    subst (λ (l : List ℕ). OnOk c.single_numbers.result (c.single_numbers.new.out.items ≡ c.args.out.now.items ++ l)) (sym e) c.single_numbers.ensures

pub first_numbers-returns-in-Set : goal.first_numbers-returns-in-Set
first_numbers-returns-in-Set t c =
    let more = map index_of c.args.more.now in
    let i = index_of c.args.index in
    let e : places (c.args.first ∷ c.args.over.now) (i ∷ more) c.args.start ≡ single_places i c.args.over.now more c.args.start =
    ap (λ (o : Simple). places (o ∷ c.args.over.now) (i ∷ more) c.args.start) c.in-Set.is ∙ places-Set i c.args.over.now more c.args.start c.in-Set.set in
    subst (λ (l : List ℕ). OnOk c.single_numbers-in-Set.result (c.single_numbers-in-Set.new.out.items ≡ c.args.out.now.items ++ l)) (sym e) c.single_numbers-in-Set.ensures

pub each_number-loop-k-preserved : goal.each_number-loop-k-preserved
each_number-loop-k-preserved t c =
    let more = map index_of c.args.more.now in
    let i = index_of c.args.index in
    let l : c.args.low ≤ c.loop-k.k = omega arith in
    places-step c.args.low c.loop-k.k (places_at c.args.low i c.args.over.now more c.args.start) c.args.out.now.items c.loop-k.out.items c.numbers_at.new.out.items l c.loop-k.invariant
    (c.in_ok-numbers_at.ensures ∙ ap (λ (first : ℕ). c.loop-k.out.items ++ digit_places (c.loop-k.k - first) i c.args.over.now more c.args.start c.loop-k.k) c.from-first.ensures)

pub each_number-returns : goal.each_number-returns
each_number-returns t c =
    let n : c.loop-k.k - c.args.low ≡ c.args.high + 1 - c.args.low = omega (arith, c.loop-k.auto.k-end) in
    c.loop-k.invariant ∙ ap (λ (n : ℕ). c.args.out.now.items ++ flat_map (places_at c.args.low (index_of c.args.index) c.args.over.now (map index_of c.args.more.now) c.args.start) (numbers_from c.args.low n)) n

pub fixed_numbers-returns-then-k-first : goal.fixed_numbers-returns-then-k-first
fixed_numbers-returns-then-k-first t c =
    let out = c.args.out.now.items in
    let l : c.args.value < c.args.low = omega arith in
    sym (append-nil out) ∙ ap (λ l. out ++ l) (sym (fixed-below c.args.low c.args.high c.args.value c.args.over.now (map index_of c.args.more.now) c.args.start l))

pub fixed_numbers-returns-then-k-from : goal.fixed_numbers-returns-then-k-from
fixed_numbers-returns-then-k-from t c =
    let out = c.args.out.now.items in
    let l : c.args.low ≤ c.args.value = omega arith in
    let m : c.args.high < c.args.value = omega arith in
    sym (append-nil out) ∙ ap (λ l. out ++ l) (sym (fixed-above c.args.low c.args.high c.args.value c.args.over.now (map index_of c.args.more.now) c.args.start l m))

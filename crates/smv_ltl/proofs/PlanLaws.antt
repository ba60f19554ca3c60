-- Where an offset stands in a plan.
use Rattle.std.proofs.Common.{◌≡◌, ◌<◌, ◌≤◌, ◌+◌, ℕ, suc, List, [], ◌∷◌, ◌++◌, length, map, take, drop, get_or, append_assoc, Bool, true, false, if◌then◌else◌, nat_eq, Option, Some, None, refl, sym, ap, ◌∙◌, arith}
use Rattle.std.specs.Prelude.{option_map, option_and_then, slice_get}
use Rattle.std.specs.Option.{option_or}
use Rattle.std.proofs.lemmas.List.{at_drop_more, drop_all, drop_min, take_min, map-append}
use Rattle.smv_core.specs.Values.{Name}
use Rattle.law_formulas.specs.Formulas.{at_place}
use Rattle.law_formulas.specs.Monitors as monitors
use Rattle.law_formulas.specs.Steps.{places_of}
use Rattle.smv_parse_formulas.specs.Trees.{meant, meanings}
use Rattle.smv_parse_formulas.specs.declared.tree.Placed.{Placed}
use Rattle.smv_ltl.specs.declared.plan.Entry.{Entry}
use Rattle.smv_ltl.specs.Plans.{entry_of, watched_of, found_or, place_in}

pub found-next : (o rest : Option ℕ) (b : Bool) (n : ℕ) → option_or (found_or o b n) rest ≡ option_or o (if b then Some n else rest)
found-next (Some i) rest b n = refl
found-next None rest true n = refl
found-next None rest false n = refl

shifted : (k : ℕ) (es : List Entry) (at : ℕ) → place_in (k + 1) es at ≡ option_map suc (place_in k es at)
shifted k [] at = refl
shifted k (e ∷ es) at = by (nat_eq e.at at) (shifted (k + 1) es at)
  where
    by : (b : Bool) → place_in (k + 1 + 1) es at ≡ option_map suc (place_in (k + 1) es at) → (if b then Some (k + 1) else place_in (k + 1 + 1) es at) ≡ option_map suc (if b then Some k else place_in (k + 1) es at)
    by true h = let e : k + 1 ≡ suc k = omega arith in ap Some e
    by false h = h

-- the formula at an offset is that of the first entry there
pub found-is : (es : List Entry) (at : ℕ) → at_place (map entry_of es) at ≡ option_and_then (λ i. option_map (λ (e : Entry). watched_of e.watched) (slice_get es i)) (place_in 0 es at)
found-is [] at = refl
found-is (e ∷ es) at = by (nat_eq e.at at) (found-is es at)
  where
    of_rest : (o : Option ℕ) → option_and_then (λ i. option_map (λ (e : Entry). watched_of e.watched) (slice_get es i)) o ≡ option_and_then (λ i. option_map (λ (e : Entry). watched_of e.watched) (slice_get (e ∷ es) i)) (option_map suc o)
    of_rest None = refl
    of_rest (Some i) = refl

    by : (b : Bool) → at_place (map entry_of es) at ≡ option_and_then (λ i. option_map (λ (e : Entry). watched_of e.watched) (slice_get es i)) (place_in 0 es at) →
        (if b then Some (watched_of e.watched) else at_place (map entry_of es) at) ≡ option_and_then (λ i. option_map (λ (e : Entry). watched_of e.watched) (slice_get (e ∷ es) i)) (if b then Some 0 else place_in 1 es at)
    by true h = refl
    by false h = h ∙ of_rest (place_in 0 es at) ∙ ap (λ o. option_and_then (λ i. option_map (λ (e : Entry). watched_of e.watched) (slice_get (e ∷ es) i)) o) (sym (shifted 0 es at))

module _ (es : List Entry) (at : ℕ) where
  pub found-at : (place : ℕ) → place_in 0 es at ≡ Some place → option_map (λ (e : Entry). watched_of e.watched) (slice_get es place) ≡ at_place (map entry_of es) at
  found-at place e = sym (found-is es at ∙ ap (λ (o : Option ℕ). option_and_then (λ i. option_map (λ (x : Entry). watched_of x.watched) (slice_get es i)) o) e)

  pub found-nowhere : place_in 0 es at ≡ None → None ≡ at_place (map entry_of es) at
  found-nowhere e = sym (found-is es at ∙ ap (λ (o : Option ℕ). option_and_then (λ i. option_map (λ (x : Entry). watched_of x.watched) (slice_get es i)) o) e)

-- one entry more is noted
module _ (before after : ℕ → Option ℕ) (es : List Entry) (n : ℕ) (e : Entry) where
  pub noted-more : n < length es → e ≡ get_or es n e → ((q : ℕ) → after q ≡ found_or (before q) (nat_eq e.at q) n) → ((q : ℕ) → option_or (before q) (place_in n (drop n es) q) ≡ place_in 0 es q) →
      (q : ℕ) → option_or (after q) (place_in (n + 1) (drop (n + 1) es) q) ≡ place_in 0 es q
  noted-more lt is put told q =
      ap (λ (o : Option ℕ). option_or o (place_in (n + 1) (drop (n + 1) es) q)) (put q) ∙ found-next (before q) (place_in (n + 1) (drop (n + 1) es) q) (nat_eq e.at q) n
      ∙ ap (λ (o : Option ℕ). option_or (before q) o) (sym (at_drop_more (λ (l : List Entry). place_in n l q) es n e lt ∙ ap (λ (x : Entry). place_in n (x ∷ drop (n + 1) es) q) (sym is))) ∙ told q

or-none : (o : Option ℕ) → option_or o None ≡ o
or-none (Some i) = refl
or-none None = refl

pub noted-all : (before : ℕ → Option ℕ) (es : List Entry) (n : ℕ) → length es ≤ n → ((q : ℕ) → option_or (before q) (place_in n (drop n es) q) ≡ place_in 0 es q) → (q : ℕ) → before q ≡ place_in 0 es q
noted-all before es n le told q = sym (or-none (before q)) ∙ ap (λ (l : List Entry). option_or (before q) (place_in n l q)) (sym (drop_all n es le)) ∙ told q

-- one formula more with its monitors
pub entry-more : (es : List Entry) (e : Entry) (formulas : List Placed) (i : ℕ) (x : Placed) (left more : List Name) → i < length formulas → x ≡ get_or formulas i x →
    entry_of e ≡ (x.at, record { formula = meant x.formula; monitors = take (places_of (meant x.formula)) left }) → more ≡ drop (places_of (meant x.formula)) left →
    map entry_of (es ++ e ∷ []) ++ monitors.watched (meanings (drop (i + 1) formulas)) more ≡ map entry_of es ++ monitors.watched (meanings (drop i formulas)) left
entry-more es e formulas i x left more lt is one dropped =
    let rest = meanings (drop (i + 1) formulas) in
    ap (λ (l : List (ℕ × monitors.Watched)). l ++ monitors.watched rest more) (map-append entry_of es (e ∷ [])) ∙ append_assoc (map entry_of es) (entry_of e ∷ []) (monitors.watched rest more)
    ∙ ap (λ (y : ℕ × monitors.Watched). map entry_of es ++ (y ∷ monitors.watched rest more)) one
    ∙ ap (λ (ns : List Name). map entry_of es ++ ((x.at, record { formula = meant x.formula; monitors = take (places_of (meant x.formula)) left }) ∷ monitors.watched rest ns)) dropped
    ∙ ap (λ (l : List (ℕ × monitors.Watched)). map entry_of es ++ l) (sym (at_drop_more (λ (l : List Placed). monitors.watched (meanings l) left) formulas i x lt ∙ ap (λ (y : Placed). monitors.watched (meanings (y ∷ drop (i + 1) formulas)) left) (sym is)))

pub ruleset least = (take_min, drop_min)

pub ruleset noting = (noted-more, noted-all)

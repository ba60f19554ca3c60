-- Quantifiers.
use Rattle.std.proofs.Common.{◌≡◌, ℕ, List, [], ◌∷◌, ◌++◌, map, take, length, Bool, true, ◌&&◌, arith, refl, sym, ap, ◌∙◌, subst}
use Rattle.std.specs.List.{list_all, flat_map}
use Rattle.std.proofs.lemmas.List.{append-nil, map-append, take-map}
use Rattle.law_lists.proofs.Lists.{map-map, map_alike, append_again}
use Rattle.smv_core.specs.FlatMeaning.{Numbered}
use Rattle.smv_core.specs.Values.{Truth, conjunction, disjunction}
use Rattle.smv_core.specs.declared.flat.Simple.{Simple}
use Rattle.smv_core.specs.declared.flat.FlatExpr.{FlatExpr, All, Any}
use Rattle.law_obligations.specs.Sets.{one_of_each, parts}
use Rattle.law_obligations.specs.Places.{Place, AbsOutcome, named_in, rests_in, bind_place}
use Rattle.law_obligations.specs.May.{seen, shown, may, quantified}
use Rattle.law_obligations.specs.Mix.{Mix, mix_by, all_mix, any_mix, is_there}
use Rattle.law_obligations.specs.Combined.{unions}
use Rattle.law_obligations.proofs.MayLaws.{may-All, may-Any}
use Rattle.law_obligations.proofs.MixLaws.{mix-quantified}
use Rattle.law_obligations.proofs.QuantifierLaws.{mix-quantified-any, quantified-shown, mix-flat_map}
use Rattle.smv_spots.specs.declared.spots.Spot.{Spot}
use Rattle.smv_spots.specs.Spots.{place_in}
use Rattle.smv_conditions.specs.declared.chances.Chances.{Chances}
use Rattle.smv_conditions.specs.declared.offers.May.{May}
use Rattle.smv_conditions.specs.declared.offers.May.TheVariants.{Truths}
use Rattle.smv_conditions.specs.Keep.{KeepsConditions}
use Rattle.smv_conditions.specs.Chances.{mix_at}
use Rattle.smv_conditions.specs.Chain.{AllMade}
use Rattle.smv_conditions.specs.Offers.{Offers}
use Rattle.smv_conditions.proofs.ChainLaws.{mixes_kept}
use Rattle.smv_cells.specs.Seen.{View, IsView, outcomes}
use Rattle.smv_outcomes.specs.Outcomes.{mix_in, IsMayOf, AreTruthsAlong}
use Rattle.smv_outcomes.proofs.ExpressionLaws.{shown_offers}

-- bindings with a variable at each of these spots
abbrev pub bound_at : ℕ → List Spot → Spot → List Spot
bound_at var b q = take var b ++ q ∷ []

-- a variable that is bound to a spot is bound to its place
bound : (n : Numbered) (b : List Spot) (var : ℕ) (q : Spot) → map (place_in n) (bound_at var b q) ≡ bind_place (map (place_in n) b) var (place_in n q)
bound n b var q = map-append (place_in n) (take var b) (q ∷ []) ∙ ap (λ l. l ++ place_in n q ∷ []) (sym (take-map (place_in n) var b))

pub bound_places : (n : Numbered) (b : List Spot) (var : ℕ) (spots shown : List Spot) (none inners : List (List Spot)) (places : List Place) → map (place_in n) spots ≡ places → shown ≡ spots → none ≡ [] → inners ≡ none ++ map (bound_at var b) shown →
    map (map (place_in n)) inners ≡ map (bind_place (map (place_in n) b) var) places
bound_places n b var spots shown none inners places e f g made =
    ap (map (map (place_in n))) (made ∙ (ap (λ l. l ++ map (bound_at var b) shown) g ∙ ap (map (bound_at var b)) f))
    ∙ (map-map (map (place_in n)) (bound_at var b) spots
    ∙ (map_alike (λ q. map (place_in n) (bound_at var b q)) (λ q. bind_place (map (place_in n) b) var (place_in n q)) spots (bound n b var)
    ∙ (sym (map-map (bind_place (map (place_in n) b) var) (place_in n) spots) ∙ ap (map (bind_place (map (place_in n) b) var)) e)))

pub no_bound : (var : ℕ) (b spots : List Spot) (out : List (List Spot)) → length spots ≡ 0 → out ≡ out ++ map (bound_at var b) spots
no_bound var b [] out e = sym (append-nil out)
no_bound var b (q ∷ qs) out e = absurd (omega arith)

pub more_bound : (var : ℕ) (b qs spots : List Spot) (q : Spot) (inner pushed : List Spot) (out longer new : List (List Spot)) → spots ≡ q ∷ qs → inner ≡ bound_at var b q → pushed ≡ inner → longer ≡ out ++ pushed ∷ [] → new ≡ longer ++ map (bound_at var b) qs → new ≡ out ++ map (bound_at var b) spots
more_bound var b qs spots q inner pushed out longer new e f g h made =
    made
    ∙ (ap (λ l. l ++ map (bound_at var b) qs) (h ∙ ap (λ c. out ++ c ∷ []) (g ∙ f))
    ∙ (append_again out (map (bound_at var b) qs) (bound_at var b q) ∙ ap (λ l. out ++ map (bound_at var b) l) (sym e)))

module _ {S C : Type 0} (holds : S → C → (ℕ → Bool) → Bool) (s : S) (v : View) where
  -- the truth values under bindings are those at places
  along-places : (a : ℕ → Bool) (body shown : FlatExpr) (bs : List Place) (var : ℕ) (inners inners' : List (List Spot)) (each each' : List (Chances C)) (places : List Place) → shown ≡ body → inners' ≡ inners → each' ≡ each → map (map (place_in v.world.classes)) inners ≡ map (bind_place bs var) places →
      AreTruthsAlong holds s v shown inners' [] each → map (mix_at holds s a) each' ≡ map (mix_by seen) (map (λ p. may v.world v.kept (v.state a) body (bind_place bs var p)) places)
  unfolding AreTruthsAlong mix_in outcomes
  along-places a body shown bs var inners inners' each each' places e f d g are =
      let n : Numbered = v.world.classes in
      let there : List Place → Mix = λ c. mix_by seen (may v.world v.kept (v.state a) body c) in
      ap (map (mix_at holds s a)) d
      ∙ (sym (append-nil (map (mix_at holds s a) each))
      ∙ (are a
      ∙ (ap (map (λ b. mix_by seen (may v.world v.kept (v.state a) shown (map (place_in n) b)))) f
      ∙ (ap (λ x. map (λ b. mix_by seen (may v.world v.kept (v.state a) x (map (place_in n) b))) inners) e
      ∙ (sym (map-map there (map (place_in n)) inners) ∙ (ap (map there) g ∙ (map-map there (bind_place bs var) places ∙ sym (map-map (mix_by seen) (λ p. may v.world v.kept (v.state a) body (bind_place bs var p)) places))))))))

  along-filled : IsView v → (a : ℕ → Bool) (body : FlatExpr) (bs : List Place) (var : ℕ) (places : List Place) → list_all is_there (map (λ p. may v.world v.kept (v.state a) body (bind_place bs var p)) places) ≡ true
  along-filled view a body bs var [] = refl
  along-filled view a body bs var (p ∷ ps) = ap (λ b. b && list_all is_there (map (λ p. may v.world v.kept (v.state a) body (bind_place bs var p)) ps)) (view.filled a body (bind_place bs var p)) ∙ along-filled view a body bs var ps

-- truth values of a quantifier are shown
quantified_offers : {S C : Type 0} (holds : S → C → (ℕ → Bool) → Bool) (n : Numbered) (s : S) (a : ℕ → Bool) (z : Chances C) (join : List Truth → Truth) (at_named : List (List AbsOutcome)) (at_rests : List AbsOutcome) → mix_at holds s a z ≡ mix_by seen (quantified join at_named at_rests) →
    Offers n holds s a (Truths z) (quantified join at_named at_rests)
quantified_offers holds n s a z join at_named at_rests e =
    shown_offers holds n s a z (quantified join at_named at_rests) (flat_map (λ us. flat_map (λ vs. join (map seen (us ++ vs)) ∷ []) (parts at_rests)) (one_of_each at_named)) (quantified-shown join at_named at_rests) e

-- of the same expression
pub may_shown : {S C : Type 0} (holds : S → C → (ℕ → Bool) → Bool) (s : S) (v : View) (e d : FlatExpr) (b : List Spot) (m : May C) → e ≡ d → IsMayOf holds s v d b m → IsMayOf holds s v e b m
may_shown holds s v e d b m is h = subst (λ x. IsMayOf holds s v x b m) (sym is) h

module _ {S C : Type 0} (IsMade : S → C → Type 0) (holds : S → C → (ℕ → Bool) → Bool) (room : S → ℕ) (s1 s2 t : S) (v : View) (view : IsView v) (k : KeepsConditions IsMade holds room s1 s2) (whole body l r : FlatExpr) (var at : ℕ) (over : Simple) (b : List Spot) (named named' rests rests' : List (List Spot)) (each each' others others' : List (Chances C)) (z : Chances C)
    (e : l ≡ body) (f : r ≡ body) (en : named' ≡ named) (er : rests' ≡ rests) (de : each' ≡ each) (dl : others' ≡ others)
    (are_named : map (map (place_in v.world.classes)) named ≡ map (bind_place (map (place_in v.world.classes) b) var) (named_in v.world over)) (are_rests : map (map (place_in v.world.classes)) rests ≡ map (bind_place (map (place_in v.world.classes) b) var) (rests_in v.world over)) (made : AllMade (IsMade s1) each)
    (at_named : AreTruthsAlong holds s1 v l named' [] each) (at_rests : AreTruthsAlong holds s2 v r rests' [] others) where
  abbrev there : (ℕ → Bool) → Place → List AbsOutcome
  there a p = may v.world v.kept (v.state a) body (bind_place (map (place_in v.world.classes) b) var p)

  firsts : (a : ℕ → Bool) → map (mix_at holds s2 a) each' ≡ map (mix_by seen) (map (there a) (named_in v.world over))
  firsts a = ap (map (mix_at holds s2 a)) de ∙ (mixes_kept IsMade holds room a s1 s2 each k made ∙ along-places holds s1 v a body l (map (place_in v.world.classes) b) var named named' each each (named_in v.world over) e en refl are_named at_named)

  lasts : (a : ℕ → Bool) → unions (map (mix_at holds s2 a) others') ≡ mix_by seen (flat_map (there a) (rests_in v.world over))
  lasts a = ap unions (along-places holds s2 v a body r (map (place_in v.world.classes) b) var rests rests' others others' (rests_in v.world over) f er dl are_rests at_rests ∙ map-map (mix_by seen) (there a) (rests_in v.world over)) ∙ sym (mix-flat_map seen (there a) (rests_in v.world over))

  pub all_of_it : whole ≡ All body var over at → ((a : ℕ → Bool) → mix_at holds t a z ≡ all_mix (map (mix_at holds s2 a) each') (unions (map (mix_at holds s2 a) others'))) → IsMayOf holds t v whole b (Truths z)
  unfolding IsMayOf outcomes
  all_of_it is mix a =
      let bs : List Place = map (place_in v.world.classes) b in
      let ns : List (List AbsOutcome) = map (there a) (named_in v.world over) in
      let rs : List AbsOutcome = flat_map (there a) (rests_in v.world over) in
      let same : mix_at holds t a z ≡ mix_by seen (quantified conjunction ns rs) = mix a ∙ (ap (λ ms. all_mix ms (unions (map (mix_at holds s2 a) others'))) (firsts a) ∙ (ap (all_mix (map (mix_by seen) ns)) (lasts a) ∙ sym (mix-quantified ns rs (along-filled holds s1 v view a body bs var (named_in v.world over))))) in
      subst (λ g. Offers v.world.classes holds t a (Truths z) (may v.world v.kept (v.state a) g bs)) (sym is) (subst (Offers v.world.classes holds t a (Truths z)) (sym (may-All v.world v.kept (v.state a) body var over at bs)) (quantified_offers holds v.world.classes t a z conjunction ns rs same))

  pub any_of_it : whole ≡ Any body var over at → ((a : ℕ → Bool) → mix_at holds t a z ≡ any_mix (map (mix_at holds s2 a) each') (unions (map (mix_at holds s2 a) others'))) → IsMayOf holds t v whole b (Truths z)
  unfolding IsMayOf outcomes
  any_of_it is mix a =
      let bs : List Place = map (place_in v.world.classes) b in
      let ns : List (List AbsOutcome) = map (there a) (named_in v.world over) in
      let rs : List AbsOutcome = flat_map (there a) (rests_in v.world over) in
      let same : mix_at holds t a z ≡ mix_by seen (quantified disjunction ns rs) = mix a ∙ (ap (λ ms. any_mix ms (unions (map (mix_at holds s2 a) others'))) (firsts a) ∙ (ap (any_mix (map (mix_by seen) ns)) (lasts a) ∙ sym (mix-quantified-any ns rs (along-filled holds s1 v view a body bs var (named_in v.world over))))) in
      subst (λ g. Offers v.world.classes holds t a (Truths z) (may v.world v.kept (v.state a) g bs)) (sym is) (subst (Offers v.world.classes holds t a (Truths z)) (sym (may-Any v.world v.kept (v.state a) body var over at bs)) (quantified_offers holds v.world.classes t a z disjunction ns rs same))

-- Conditions of which one holds alone, and the values that stand under them.
use Rattle.std.proofs.Common.{◌≡◌, ℕ, List, [], ◌∷◌, map, Bool, true, false, ◌&&◌, ◌||◌, if◌then◌else◌, refl, sym, ap, subst, ◌∙◌, Some}
use Rattle.std.specs.List.{filter, list_any}
use Rattle.law_lists.proofs.Anys.{any-map}
use Rattle.smv_core.specs.FlatMeaning.{Numbered}
use Rattle.law_obligations.specs.Places.{Place, AbsOutcome}
use Rattle.law_wires.specs.Tries.{PassAlone, PassesOnce}
use Rattle.law_wires.proofs.Tests.{once}
use Rattle.bdd_store.specs.declared.Ref.{Ref}
use Rattle.bdd_store.specs.Diagram.{Diagram, IsLive, Keeps, table}
use Rattle.bdd_store.proofs.Keeping.{keeps_then}
use Rattle.smv_spots.specs.Spots.{outcome_in}
use Rattle.smv_conditions.specs.declared.offers.Offer.{Offer}
use Rattle.smv_conditions.specs.Offers.{any_offer, AreOffersMade}
use Rattle.smv_wires.specs.Wired.{whens, AreTests, HoldsAlone}

-- ---- stores that grow

pub whens_kept : (d e : Diagram) (a : ℕ → Bool) (offers : List (Offer Ref)) → Keeps d e → AreOffersMade (IsLive d) offers → whens e a offers ≡ whens d a offers
whens_kept d e a [] k made = refl
whens_kept d e a (o ∷ offers) k made = ap (λ (b : Bool). b ∷ whens e a offers) (k.tables o.when made.0 a) ∙ ap (λ (bs : List Bool). table d o.when a ∷ bs) (whens_kept d e a offers k made.1)

pub tests_kept : (n : Numbered) (d e : Diagram) (a : ℕ → Bool) (test : Place → Bool) (values : List Place) (offers : List (Offer Ref)) → Keeps d e → AreOffersMade (IsLive d) offers → AreTests n d a test values offers → AreTests n e a test values offers
tests_kept n d e a test values offers k made tests = record { outcomes = tests.outcomes; conditions = whens_kept d e a offers k made ∙ tests.conditions }

-- conditions stay made
pub all_made : (d e : Diagram) (offers : List (Offer Ref)) → Keeps d e → AreOffersMade (IsLive d) offers → AreOffersMade (IsLive e) offers
all_made d e [] k made = tt
all_made d e (o ∷ offers) k made = (k.live o.when made.0, all_made d e offers k made.1)

-- those behind the first, in a later store
pub others_made : (d e f : Diagram) (offers others : List (Offer Ref)) (offer : Offer Ref) → offers ≡ offer ∷ others → Keeps d e → Keeps e f → AreOffersMade (IsLive d) offers → AreOffersMade (IsLive f) others
others_made d e f offers others offer is k l made = all_made d f others (keeps_then d e f k l) (subst (AreOffersMade (IsLive d)) is made).1

pub alone_kept : (d e : Diagram) (a : ℕ → Bool) (offers : List (Offer Ref)) → Keeps d e → AreOffersMade (IsLive d) offers → HoldsAlone false (whens d a offers) → HoldsAlone false (whens e a offers)
alone_kept d e a offers k made alone = subst (HoldsAlone false) (sym (whens_kept d e a offers k made)) alone

-- ---- one holds alone

alone_of : (g : Place → Bool) (found : Bool) (ps : List Place) → PassAlone (λ b. b) found (map g ps) → PassAlone g found ps
alone_of g found [] h = tt
alone_of g found (p ∷ ps) h = (h.0, alone_of g (found || g p) ps h.1)

pub passes_once : (g : Place → Bool) (ps : List Place) (bs : List Bool) → bs ≡ map g ps → HoldsAlone false bs → PassesOnce g ps
passes_once g ps bs e h =
    once g ps (sym (any-map (λ b. b) g ps) ∙ (sym (ap (list_any (λ b. b)) e) ∙ h.some)) (alone_of g false ps (subst (PassAlone (λ b. b) false) e h.alone))

or_assoc : (a b c : Bool) → (a || b) || c ≡ a || (b || c)
or_assoc true b c = refl
or_assoc false b c = refl

pub alone_more : (found b : Bool) (bs : List Bool) → found && b ≡ false → HoldsAlone (found || b) bs → HoldsAlone found (b ∷ bs)
alone_more found b bs e h = record { some = sym (or_assoc found b (list_any (λ b. b) bs)) ∙ h.some; alone = (e, h.alone) }

-- found in a later store
pub alone_found : (d e : Diagram) (a : ℕ → Bool) (never : Ref) (offers : List (Offer Ref)) → Keeps d e → AreOffersMade (IsLive d) offers → table e never a ≡ false → HoldsAlone (table e never a) (whens e a offers) → HoldsAlone false (whens d a offers)
alone_found d e a never offers k made none alone = subst (λ (b : Bool). HoldsAlone b (whens d a offers)) none (subst (HoldsAlone (table e never a)) (whens_kept d e a offers k made) alone)

-- one condition more, behind those found before
pub alone_step : (d e f : Diagram) (a : ℕ → Bool) (found both either : Ref) (offers others : List (Offer Ref)) (offer : Offer Ref) → offers ≡ offer ∷ others → Keeps d e → Keeps e f → IsLive d found → AreOffersMade (IsLive d) offers → table e both a ≡ (table d found a && table d offer.when a)
    → table e both a ≡ false → table f either a ≡ (table e found a || table e offer.when a) → HoldsAlone (table f either a) (whens f a others) → HoldsAlone (table d found a) (whens d a offers)
alone_step d e f a found both either offers others offer is k l live made both_is none either_is rest =
    let parts = subst (AreOffersMade (IsLive d)) is made in
    let either_was : table f either a ≡ (table d found a || table d offer.when a) =
    either_is ∙ (ap (λ (b : Bool). b || table e offer.when a) (k.tables found live a) ∙ ap (λ (b : Bool). table d found a || b) (k.tables offer.when parts.0 a)) in
    let whens_were : whens f a others ≡ whens d a others = whens_kept d f a others (keeps_then d e f k l) parts.1 in
    subst (λ (os : List (Offer Ref)). HoldsAlone (table d found a) (whens d a os)) (sym is)
    (alone_more (table d found a) (table d offer.when a) (whens d a others) (sym both_is ∙ none)
    (subst (λ (b : Bool). HoldsAlone b (whens d a others)) either_was (subst (HoldsAlone (table f either a)) whens_were rest)))

-- ---- the value that stands under it

abbrev any_of : (AbsOutcome → Bool) → List Bool → List AbsOutcome → Bool
any_of q (b ∷ bs) (u ∷ us) = (b && q u) || any_of q bs us
any_of q _ _ = false

any_offered : (n : Numbered) (d : Diagram) (a : ℕ → Bool) (q : AbsOutcome → Bool) (offers : List (Offer Ref)) → any_offer n table d a q offers ≡ any_of q (whens d a offers) (map (λ o. outcome_in n o.outcome) offers)
unfolding any_offer
any_offered n d a q [] = refl
any_offered n d a q (o ∷ offers) = ap (λ (b : Bool). (table d o.when a && q (outcome_in n o.outcome)) || b) (any_offered n d a q offers)

any_filtered : (q : AbsOutcome → Bool) (g : Place → Bool) (ps : List Place) → any_of q (map g ps) (map (λ p. Some p) ps) ≡ list_any (λ p. q (Some p)) (filter g ps)
any_filtered q g [] = refl
any_filtered q g (p ∷ ps) = at (g p) (any_filtered q g ps)
  where
    at : (b : Bool) → any_of q (map g ps) (map (λ p. Some p) ps) ≡ list_any (λ p. q (Some p)) (filter g ps) → (b && q (Some p)) || any_of q (map g ps) (map (λ p. Some p) ps) ≡ list_any (λ p. q (Some p)) (if b then p ∷ filter g ps else filter g ps)
    at true e = ap (λ (b : Bool). q (Some p) || b) e
    at false e = e

or_none : (b : Bool) → b || false ≡ b
or_none true = refl
or_none false = refl

pub value_offered : (n : Numbered) (d : Diagram) (a : ℕ → Bool) (g : Place → Bool) (ps : List Place) (offers : List (Offer Ref)) → AreTests n d a g ps offers → (v : Place) → filter g ps ≡ v ∷ [] → (q : AbsOutcome → Bool) → any_offer n table d a q offers ≡ q (Some v)
value_offered n d a g ps offers tests v one q =
    any_offered n d a q offers
    ∙ (ap (λ (bs : List Bool). any_of q bs (map (λ o. outcome_in n o.outcome) offers)) tests.conditions
    ∙ (ap (any_of q (map g ps)) tests.outcomes
    ∙ (any_filtered q g ps ∙ (ap (list_any (λ p. q (Some p))) one ∙ or_none (q (Some v))))))

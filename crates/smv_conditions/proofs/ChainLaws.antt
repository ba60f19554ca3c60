-- Chains of conditions.
use Rattle.std.proofs.Common.{◌≡◌, ◌<◌, ◌≤◌, ◌-◌, drop, ℕ, zero, suc, List, [], ◌∷◌, ◌++◌, map, length, get_or, arith, Bool, true, false, ◌&&◌, ◌||◌, refl, sym, ap, subst, ◌∙◌}
use Rattle.std.proofs.Math.Seq.{drop-cons}
use Rattle.smv_conditions.specs.declared.chances.Chances.{Chances}
use Rattle.smv_conditions.specs.declared.chances.Join.{Join}
use Rattle.smv_conditions.specs.declared.chances.Join.TheVariants as join
use Rattle.smv_conditions.specs.Keep.{KeepsConditions}
use Rattle.smv_conditions.specs.Chances.{mix_at, AreMade}
use Rattle.law_obligations.specs.Mix.{Mix}
use Rattle.smv_conditions.specs.Chain.{joined, chain, AllMade}
use Rattle.law_obligations.proofs.MixLaws.{same_mix}

or_no : (b : Bool) → (b || false) ≡ b
or_no true = refl
or_no false = refl

and_yes : (b : Bool) → (b && true) ≡ b
and_yes true = refl
and_yes false = refl

neither_one : (x y : Bool) → ((x && true) || (y && false)) ≡ x
neither_one true y = refl
neither_one false true = refl
neither_one false false = refl

chain_one : (how : Join) (m : Mix) → chain how (m ∷ []) ≡ m
chain_one join.And m = same_mix (or_no m.no) (and_yes m.yes) (neither_one m.neither m.yes)
chain_one join.Or m = same_mix (and_yes m.no) (or_no m.yes) (neither_one m.neither m.no)
chain_one join.Implies m = refl

chain_two : (how : Join) (m n : Mix) (ms : List Mix) → chain how (m ∷ n ∷ ms) ≡ joined how m (chain how (n ∷ ms))
chain_two join.And m n ms = refl
chain_two join.Or m n ms = refl
chain_two join.Implies m n ms = refl

module _ {S C : Type 0} (IsMade : S → C → Type 0) (holds : S → C → (ℕ → Bool) → Bool) (room : S → ℕ) (a : ℕ → Bool) where
  pub mix_kept : (s t : S) (x : Chances C) → KeepsConditions IsMade holds room s t → AreMade (IsMade s) x → mix_at holds t a x ≡ mix_at holds s a x
  unfolding mix_at
  mix_kept s t x k m = same_mix (k.same x.no m.no a) (k.same x.yes m.yes a) (k.same x.neither m.neither a)

  pub mixes_kept : (s t : S) (xs : List (Chances C)) → KeepsConditions IsMade holds room s t → AllMade (IsMade s) xs → map (mix_at holds t a) xs ≡ map (mix_at holds s a) xs
  mixes_kept s t [] k m = refl
  mixes_kept s t (x ∷ xs) k m = ap (λ y. y ∷ map (mix_at holds t a) xs) (mix_kept s t x k m.0) ∙ ap (λ ys. mix_at holds s a x ∷ ys) (mixes_kept s t xs k m.1)

-- What the loop of a chain keeps, from its last part to its first: the parts that were taken are joined, over conditions that stay.
pub record Chaining {S C : Type 0} (IsMade : S → C → Type 0) (holds : S → C → (ℕ → Bool) → Bool) (room : S → ℕ) (old now : S) (how : Join) (taken : List (Chances C)) (last sum : Chances C) : Type 0 where
  pub keeps : KeepsConditions IsMade holds room old now
  pub made : AreMade (IsMade now) sum
  pub mix : (a : ℕ → Bool) → mix_at holds now a sum ≡ chain how (map (mix_at holds old a) (taken ++ last ∷ []))

module _ {S C : Type 0} (IsMade : S → C → Type 0) (holds : S → C → (ℕ → Bool) → Bool) (room : S → ℕ) where
  nothing_left : (xs : List (Chances C)) → drop (length xs) xs ≡ []
  nothing_left [] = refl
  nothing_left (x ∷ xs) = nothing_left xs

  pub chain_begun : (s : S) (how : Join) (before : List (Chances C)) (last : Chances C) → AreMade (IsMade s) last → Chaining IsMade holds room s s how (drop (length before) before) last last
  chain_begun s how before last m = record {
    keeps = record { made = λ c k. k; same = λ c k a. refl; stays = refl };
    made = m;
    mix = λ a. sym (chain_one how (mix_at holds s a last)) ∙ ap (λ l. chain how (map (mix_at holds s a) (l ++ last ∷ []))) (sym (nothing_left before));
  }

  joined_goes : (how : Join) (m : Mix) (s : S) (a : ℕ → Bool) (taken : List (Chances C)) (last : Chances C) → chain how (m ∷ map (mix_at holds s a) (taken ++ last ∷ [])) ≡ joined how m (chain how (map (mix_at holds s a) (taken ++ last ∷ [])))
  joined_goes how m s a [] last = chain_two how m (mix_at holds s a last) []
  joined_goes how m s a (x ∷ taken) last = chain_two how m (mix_at holds s a x) (map (mix_at holds s a) (taken ++ last ∷ []))

  pub kept_after : (old now new : S) → KeepsConditions IsMade holds room old now → KeepsConditions IsMade holds room now new → KeepsConditions IsMade holds room old new
  kept_after old now new j k = record { made = λ c d. k.made c (j.made c d); same = λ c d a. k.same c (j.made c d) a ∙ j.same c d a; stays = k.stays ∙ j.stays }

  pub chain_goes : (old now new : S) (how : Join) (before : List (Chances C)) (k : ℕ) (last sum x joint : Chances C) → 0 < k → k ≤ length before → x ≡ get_or before (k - 1) x → AreMade (IsMade old) x → Chaining IsMade holds room old now how (drop k before) last sum →
      KeepsConditions IsMade holds room now new → AreMade (IsMade new) joint → ((a : ℕ → Bool) → mix_at holds new a joint ≡ joined how (mix_at holds now a x) (mix_at holds now a sum)) → Chaining IsMade holds room old new how (drop (k - 1) before) last joint
  chain_goes old now new how before k last sum x joint some within e m begun k_new made is = record {
    keeps = kept_after old now new begun.keeps k_new;
    made = made;
    mix = λ a. is a
        ∙ (ap (λ y. joined how y (mix_at holds now a sum)) (mix_kept IsMade holds room a old now x begun.keeps m)
        ∙ (ap (joined how (mix_at holds old a x)) (begun.mix a)
        ∙ (sym (joined_goes how (mix_at holds old a x) old a (drop k before) last) ∙ ap (λ l. chain how (map (mix_at holds old a) (l ++ last ∷ []))) longer)));
  }
    where
      more : k ≡ suc (k - 1)
      more = omega arith

      longer : x ∷ drop k before ≡ drop (k - 1) before
      longer = ap (λ n. x ∷ drop n before) more ∙ (ap (λ y. y ∷ drop (suc (k - 1)) before) e ∙ sym (drop-cons before (k - 1) x (omega arith)))

  pub kept_same : (s : S) → KeepsConditions IsMade holds room s s
  kept_same s = record { made = λ c k. k; same = λ c k a. refl; stays = refl }

  pub chain_over : (old now : S) (how : Join) (before : List (Chances C)) (k : ℕ) (last sum : Chances C) → k ≤ 0 → Chaining IsMade holds room old now how (drop k before) last sum →
      (a : ℕ → Bool) → mix_at holds now a sum ≡ chain how (map (mix_at holds old a) (before ++ last ∷ []))
  chain_over old now how before zero last sum none done a = done.mix a
  chain_over old now how before (suc k) last sum none done a = absurd (omega arith)

  -- one of the parts, over conditions that stay
  pub one_kept : (old now : S) (xs : List (Chances C)) (i : ℕ) (d : Chances C) → i < length xs → AllMade (IsMade old) xs → KeepsConditions IsMade holds room old now → AreMade (IsMade now) (get_or xs i d)
  one_kept old now [] i d few m k = absurd (omega arith)
  one_kept old now (x ∷ xs) zero d few m k = record { no = k.made x.no m.0.no; yes = k.made x.yes m.0.yes; neither = k.made x.neither m.0.neither }
  one_kept old now (x ∷ xs) (suc i) d few m k = one_kept old now xs i d (omega arith) m.1 k

-- a row of parts, all but its last and its last
pub fronts_made : {C : Type 0} (P : C → Type 0) (each before : List (Chances C)) (last : Chances C) → each ≡ before ++ last ∷ [] → AllMade P each → AllMade P before × AreMade P last
fronts_made {C} P each before last e m = parts before (subst (λ xs. AllMade P xs) e m)
  where
    parts : (before : List (Chances C)) → AllMade P (before ++ last ∷ []) → AllMade P before × AreMade P last
    parts [] m = (tt, m.0)
    parts (x ∷ before) m = let w = parts before m.1 in ((m.0, w.0), w.1)

-- What loops over parts keep.
use Rattle.std.proofs.Common.{◌≡◌, ℕ, List, [], ◌∷◌, ◌++◌, map, length, Option, Some, None, Bool, refl, sym, ap, ◌∙◌, subst, arith}
use Rattle.std.specs.Prelude.{IfSome}
use Rattle.std.proofs.lemmas.List.{append-nil, map_push}
use Rattle.law_lists.proofs.Lists.{append_again}
use Rattle.smv_core.specs.declared.flat.DefBody.{DefBody}
use Rattle.law_obligations.specs.Gist.{Gist, nothing_alone, first_gist, first_all}
use Rattle.smv_spots.specs.declared.spots.Spot.{Spot}
use Rattle.smv_problem.specs.declared.problem.Problem.{Problem}
use Rattle.smv_conditions.specs.declared.gists.Gists.{Gists}
use Rattle.smv_conditions.specs.Keep.{KeepsConditions}
use Rattle.smv_conditions.specs.Gists.{AreGistsMade, gist_at}
use Rattle.smv_cells.specs.declared.cells.Cell.{Cell}
use Rattle.smv_cells.specs.Cells.{AreCellsMade}
use Rattle.smv_outcomes.specs.Remembered.{AreKnown, Entries}
use Rattle.smv_targets.specs.declared.targets.Target.{Target}
use Rattle.smv_targets.specs.Targets.{IsTargetMade}
use Rattle.smv_targets.proofs.AimLaws.{aim_on}
use Rattle.smv_walk_parts.specs.Parts.{AllGistsMade}
use Rattle.smv_walk_parts.proofs.FirstLaws.{gist_kept, gists_kept}
use Rattle.smv_walks.specs.declared.walks.Way.{Way}
use Rattle.smv_walks.specs.Walks.{gist_in, IsPassedOf, AreGistsOf, AreGistsAlong}
use Rattle.smv_walks.specs.Passed.{listed, gist_or_nothing}

-- what a loop over parts keeps: conditions that were made, what is known, and that what is gathered is right
pub record Gathering {S C : Type 0} (IsMade : S → C → Type 0) (holds : S → C → (ℕ → Bool) → Bool) (room : S → ℕ) (start s : S) (problem : Problem) (cells : List (Cell C)) (entries : Entries C) (t : Target C) (each : List (Gists C)) (Are : Type 0) : Type 0 where
  pub keeps : KeepsConditions IsMade holds room start s
  pub made : AllGistsMade (IsMade s) each
  pub cells_made : AreCellsMade (IsMade s) cells
  pub known : AreKnown IsMade holds s problem cells entries
  pub target_made : IsTargetMade (IsMade s) t
  pub are : Are

-- nothing alone doesn't count among several
skipped : (xs ys : List Gist) → first_all (xs ++ nothing_alone ∷ ys) ≡ first_all (xs ++ ys)
skipped [] ys = refl
skipped (x ∷ xs) ys = ap (first_gist x) (skipped xs ys)

-- of none, nothing alone
pub none_first : {S C : Type 0} (holds : S → C → (ℕ → Bool) → Bool) (s : S) (a : ℕ → Bool) (each : List (Gists C)) → length each ≡ 0 → nothing_alone ≡ first_all (map (gist_at holds s a) each)
none_first holds s a [] e = refl
none_first holds s a (x ∷ xs) e = absurd (omega arith)

-- one more of what is gathered, if it is there, where the others mean the same
module _ {S C Y : Type 0} (holds : S → C → (ℕ → Bool) → Bool) (s t : S) (a : ℕ → Bool) (h : Y → Gist) where
  one_more : (each longer : List (Gists C)) (o : Option (Gists C)) (y : Y) (all rest more : List Y) → rest ≡ y ∷ more → longer ≡ each ++ listed o → map (gist_at holds t a) each ≡ map (gist_at holds s a) each → first_all (map (gist_at holds s a) each ++ map h rest) ≡ first_all (map h all) →
      gist_or_nothing holds t a o ≡ h y → first_all (map (gist_at holds t a) longer ++ map h more) ≡ first_all (map h all)
  one_more each longer None y all rest more e d same before here =
      ap (λ l. first_all (map (gist_at holds t a) l ++ map h more)) (d ∙ append-nil each)
      ∙ (ap (λ l. first_all (l ++ map h more)) same
      ∙ (sym (skipped (map (gist_at holds s a) each) (map h more))
      ∙ (ap (λ g. first_all (map (gist_at holds s a) each ++ g ∷ map h more)) here
      ∙ (ap (λ l. first_all (map (gist_at holds s a) each ++ map h l)) (sym e) ∙ before))))
  one_more each longer (Some x) y all rest more e d same before here =
      ap first_all
      (ap (λ l. map (gist_at holds t a) l ++ map h more) d
      ∙ (ap (λ l. l ++ map h more) (map_push (gist_at holds t a) each x)
      ∙ (append_again (map (gist_at holds t a) each) (map h more) (gist_at holds t a x)
      ∙ (ap (λ g. map (gist_at holds t a) each ++ g ∷ map h more) here
      ∙ (ap (λ l. l ++ map h (y ∷ more)) same ∙ ap (λ l. map (gist_at holds s a) each ++ map h l) (sym e))))))
      ∙ before

after : {C : Type 0} (IsMade : C → Type 0) (gs : List (Gists C)) (g : Gists C) → AllGistsMade IsMade gs → AreGistsMade IsMade g → AllGistsMade IsMade (gs ++ g ∷ [])
after IsMade [] g m n = (n, tt)
after IsMade (h ∷ gs) g m n = (m.0, after IsMade gs g m.1 n)

after_some : {C : Type 0} (IsMade : C → Type 0) (gs : List (Gists C)) (o : Option (Gists C)) → AllGistsMade IsMade gs → IfSome o (λ g. AreGistsMade IsMade g) → AllGistsMade IsMade (gs ++ listed o)
after_some IsMade gs None m n = subst (AllGistsMade IsMade) (sym (append-nil gs)) m
after_some IsMade gs (Some g) m n = after IsMade gs g m n

all_kept : {S C : Type 0} (IsMade : S → C → Type 0) (holds : S → C → (ℕ → Bool) → Bool) (room : S → ℕ) (s t : S) (gs : List (Gists C)) → KeepsConditions IsMade holds room s t → AllGistsMade (IsMade s) gs → AllGistsMade (IsMade t) gs
all_kept IsMade holds room s t [] k m = tt
all_kept IsMade holds room s t (g ∷ gs) k m = (gists_kept IsMade holds room s t g k m.0, all_kept IsMade holds room s t gs k m.1)

pub gists_added : {S C : Type 0} (IsMade : S → C → Type 0) (holds : S → C → (ℕ → Bool) → Bool) (room : S → ℕ) (s t : S) (old new : List (Gists C)) (o : Option (Gists C)) → KeepsConditions IsMade holds room s t → new ≡ old ++ listed o → AllGistsMade (IsMade s) old → IfSome o (λ g. AreGistsMade (IsMade t) g) → AllGistsMade (IsMade t) new
gists_added IsMade holds room s t old new o k e m n = subst (AllGistsMade (IsMade t)) (sym e) (after_some (IsMade t) old o (all_kept IsMade holds room s t old k m) n)

module _ {S C : Type 0} (holds : S → C → (ℕ → Bool) → Bool) (s : S) (problem : Problem) (cells : List (Cell C)) (t : Target C) (way : Way) where
  pub gists_begin : (b : List Spot) (all rest : List DefBody) (each : List (Gists C)) → rest ≡ all → each ≡ [] → AreGistsOf holds s s problem cells t way b all rest each
  unfolding AreGistsOf
  gists_begin b all rest each e d z aim a = ap (λ l. first_all (map (gist_at holds s a) l ++ map (gist_in way z a b) rest)) d ∙ ap (λ l. first_all (map (gist_in way z a b) l)) e

  pub along_begins : (body : DefBody) (all rest : List (List Spot)) (each : List (Gists C)) → rest ≡ all → each ≡ [] → AreGistsAlong holds s s problem cells t way body all rest each
  unfolding AreGistsAlong
  along_begins body all rest each e d z aim a = ap (λ l. first_all (map (gist_at holds s a) l ++ map (λ b. gist_in way z a b body) rest)) d ∙ ap (λ l. first_all (map (λ b. gist_in way z a b body) l)) e

module _ {S C : Type 0} (IsMade : S → C → Type 0) (holds : S → C → (ℕ → Bool) → Bool) (room : S → ℕ) (start s t : S) (problem : Problem) (cells : List (Cell C)) (x : Target C) (way : Way) (before_it : KeepsConditions IsMade holds room start s) (k : KeepsConditions IsMade holds room s t) (cells_made : AreCellsMade (IsMade start) cells) (target_made : IsTargetMade (IsMade start) x) where
  gists_same : (a : ℕ → Bool) (gs : List (Gists C)) → AllGistsMade (IsMade s) gs → map (gist_at holds t a) gs ≡ map (gist_at holds s a) gs
  gists_same a [] m = refl
  gists_same a (g ∷ gs) m = ap (λ y. y ∷ map (gist_at holds t a) gs) (gist_kept IsMade holds room a s t g k m.0) ∙ ap (λ ys. gist_at holds s a g ∷ ys) (gists_same a gs m.1)

  pub gists_go : (b : List Spot) (part : DefBody) (all rest more : List DefBody) (each longer : List (Gists C)) (o : Option (Gists C)) → rest ≡ part ∷ more → longer ≡ each ++ listed o → AllGistsMade (IsMade s) each → AreGistsOf holds start s problem cells x way b all rest each →
      IsPassedOf holds s t problem cells x (λ z a. gist_in way z a b part) o → AreGistsOf holds start t problem cells x way b all more longer
  unfolding AreGistsOf IsPassedOf
  gists_go b part all rest more each longer o e d m before here z aim a =
      one_more holds s t a (gist_in way z a b) each longer o part all rest more e d (gists_same a each m) (before z aim a) (here z (aim_on IsMade holds room start s problem cells x z before_it cells_made target_made aim) a)

  pub along_goes : (body : DefBody) (inner shown : List Spot) (all rest more : List (List Spot)) (each longer : List (Gists C)) (o : Option (Gists C)) → rest ≡ inner ∷ more → longer ≡ each ++ listed o → shown ≡ inner → AllGistsMade (IsMade s) each → AreGistsAlong holds start s problem cells x way body all rest each →
      IsPassedOf holds s t problem cells x (λ z a. gist_in way z a shown body) o → AreGistsAlong holds start t problem cells x way body all more longer
  unfolding AreGistsAlong IsPassedOf
  along_goes body inner shown all rest more each longer o e d f m before here z aim a =
      one_more holds s t a (λ b. gist_in way z a b body) each longer o inner all rest more e d (gists_same a each m) (before z aim a)
      (here z (aim_on IsMade holds room start s problem cells x z before_it cells_made target_made aim) a ∙ ap (λ b. gist_in way z a b body) f)

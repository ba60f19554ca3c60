-- What conditions say of the parts of a definition.
use Rattle.std.proofs.Common.{◌≡◌, ℕ, List, [], map, slice_get, Option, Some, Bool, true, false, not, ◌&&◌, ◌||◌, sym, ap, ◌∙◌}
use Rattle.smv_core.specs.declared.flat.Family.{Family}
use Rattle.smv_core.specs.declared.flat.DefBody.{DefBody}
use Rattle.law_obligations.specs.Places.{is_among, AbsOutcome}
use Rattle.law_obligations.specs.Demands.{concerns_place, places_of_family}
use Rattle.smv_spots.specs.declared.spots.Spot.{Spot}
use Rattle.smv_spots.specs.Spots.{place_in}
use Rattle.smv_problem.specs.declared.problem.Problem.{Problem}
use Rattle.smv_problem_spots.specs.Worlds.{IsWorldOf}
use Rattle.smv_conditions.specs.declared.offers.Offer.{Offer}
use Rattle.smv_conditions.specs.declared.gists.Gists.{Gists}
use Rattle.smv_conditions.specs.Keep.{KeepsConditions}
use Rattle.smv_conditions.specs.Offers.{any_offer}
use Rattle.smv_conditions.specs.Gists.{AreGistsMade, gist_at}
use Rattle.law_obligations.specs.Gist.{Gist}
use Rattle.smv_cells.specs.declared.cells.Cell.{Cell}
use Rattle.smv_cells.specs.Cells.{AreCellsMade, cell_any}
use Rattle.smv_targets.specs.declared.targets.Target.{Target}
use Rattle.smv_targets.specs.declared.targets.Sense.{Sense}
use Rattle.smv_targets.specs.declared.targets.Sense.TheVariants.{Exactly, Surely}
use Rattle.smv_targets.specs.Targets.{Aim, IsTarget, IsTargetMade, IsSo, given_at}
use Rattle.smv_targets.specs.Offered.{given_test}
use Rattle.smv_targets.proofs.AimLaws.{given_means, target_on, aim_on}
use Rattle.smv_targets.proofs.TargetLaws.{read_kept}
use Rattle.smv_walks.specs.declared.walks.Way.{Way}
use Rattle.smv_walks.specs.declared.walks.Way.TheVariants.{May, Must}
use Rattle.smv_walks.specs.Walks.{everything_of, gist_in, IsGistsOf}
use Rattle.smv_walks.proofs.PartLaws.{everything_passes}
use Rattle.smv_walks.specs.Given.{gives_in, keeps_asked, nothing_in, next_in, now_in, IsSoOf}
use Rattle.smv_walks.proofs.GivenLaws.{part-gist, nothing-everything, nothing-kept}

module _ {S C : Type 0} (holds : S → C → (ℕ → Bool) → Bool) where
  -- the value before, in either sense
  given_passes : (s : S) (n_target : Target C) (sense : Sense) (z : Aim) → IsTarget holds s n_target z → (a : ℕ → Bool) (u : AbsOutcome) (before : List (Offer C)) → ((p : AbsOutcome → Bool) → any_offer z.view.world.classes holds s a p before ≡ p u) → (b : Bool) → b ≡ any_offer z.view.world.classes holds s a (given_test holds s a z.view.world.classes n_target sense) before →
      b ≡ holds s (given_at z.view.world.classes n_target sense u) a
  unfolding given_test
  given_passes s t sense z h a u before any b is = is ∙ any (given_test holds s a z.view.world.classes t sense)

  pub may_passes : (s0 s1 : S) (problem : Problem) (t : Target C) (way : Way) (before : List (Offer C)) (r : C) → way ≡ May → ((z : Aim) → IsWorldOf problem z.view.world → (a : ℕ → Bool) → holds s1 r a ≡ any_offer z.view.world.classes holds s0 a (given_test holds s0 a z.view.world.classes t Exactly) before) →
      (z : Aim) → IsWorldOf problem z.view.world → IsTarget holds s0 t z → (a : ℕ → Bool) (u : AbsOutcome) → ((p : AbsOutcome → Bool) → any_offer z.view.world.classes holds s0 a p before ≡ p u) → holds s1 r a ≡ keeps_asked way z.every u (z.value a)
  may_passes s0 s1 problem t way before r e some z w h a u any =
      given_passes s0 t Exactly z h a u before any (holds s1 r a) (some z w a) ∙ (given_means holds s0 t z h a Exactly u ∙ ap (λ way. keeps_asked way z.every u (z.value a)) (sym e))

  pub must_passes : (s0 s1 s2 : S) (problem : Problem) (t : Target C) (way : Way) (before : List (Offer C)) (c r : C) → way ≡ Must → ((z : Aim) → IsWorldOf problem z.view.world → (a : ℕ → Bool) → holds s1 c a ≡ any_offer z.view.world.classes holds s0 a (given_test holds s0 a z.view.world.classes t Surely) before) → ((a : ℕ → Bool) → holds s2 r a ≡ not (holds s1 c a)) →
      (z : Aim) → IsWorldOf problem z.view.world → IsTarget holds s0 t z → (a : ℕ → Bool) (u : AbsOutcome) → ((p : AbsOutcome → Bool) → any_offer z.view.world.classes holds s0 a p before ≡ p u) → holds s2 r a ≡ keeps_asked way z.every u (z.value a)
  must_passes s0 s1 s2 problem t way before c r e some opposite z w h a u any =
      opposite a ∙ (ap not (given_passes s0 t Surely z h a u before any (holds s1 c a) (some z w a) ∙ given_means holds s0 t z h a Surely u) ∙ ap (λ way. keeps_asked way z.every u (z.value a)) (sym e))

  -- everything, where no assignment concerns the element
  pub nothing_open : (s : S) (problem : Problem) (cells : List (Cell C)) (t : Target C) (way : Way) (family : ℕ) (next : DefBody) (indexes : List Spot) (b : Bool) (r : C) → indexes ≡ t.indexes → ((z : Aim) → b ≡ concerns_place next (map (place_in z.view.world.classes) indexes)) → b ≡ false → r ≡ everything_of t way →
      IsSoOf holds s s problem cells t family (nothing_in way family next) r
  unfolding IsSoOf
  nothing_open s problem cells t way family next indexes b r e concerned not_it is z aim element every a =
      ap (λ c. holds s c a) is
      ∙ (everything_passes holds s t way z aim.target a
      ∙ nothing-everything way family next z a (ap (concerns_place next) (sym (ap (map (place_in z.view.world.classes)) e ∙ aim.target.indexes)) ∙ (sym (concerned z) ∙ not_it)))

module _ {S C : Type 0} (IsMade : S → C → Type 0) (holds : S → C → (ℕ → Bool) → Bool) (room : S → ℕ) where
  -- a part's gist, and what Nothing stands for
  pub part_gives_it : (s0 s1 s2 s3 : S) → KeepsConditions IsMade holds room s0 s1 → KeepsConditions IsMade holds room s1 s2 → (problem : Problem) (cells : List (Cell C)) (t : Target C) (way : Way) (part : DefBody) (b : List Spot) (nothing kept r : C) (g : Gists C) → b ≡ [] → IsMade s0 nothing → AreGistsMade (IsMade s1) g →
      IsGistsOf holds s0 s1 problem cells t (λ z a. gist_in way z a b part) g → ((a : ℕ → Bool) → holds s2 kept a ≡ (holds s1 g.nothing a && holds s1 nothing a)) → ((a : ℕ → Bool) → holds s3 r a ≡ (holds s2 g.given a || holds s2 kept a)) →
      IsSo holds s0 s3 problem cells t (λ z a. gives_in way z a part (holds s0 nothing a)) r
  unfolding IsSo IsGistsOf gist_at
  part_gives_it s0 s1 s2 s3 k l problem cells t way part b nothing kept r g e nothing_made g_made are both either z aim a =
      let is : gist_at holds s1 a g ≡ gist_in way z a [] part = are z aim a ∙ ap (λ c. gist_in way z a c part) e in
      either a
      ∙ (ap (λ c. c || holds s2 kept a) (l.same g.given g_made.given a ∙ ap (λ (x : Gist). x.given) is)
      ∙ (ap (λ c. (gist_in way z a [] part).given || c) (both a ∙ (ap (λ c. c && holds s1 nothing a) (ap (λ (x : Gist). x.nothing) is) ∙ ap (λ c. (gist_in way z a [] part).nothing && c) (k.same nothing nothing_made a)))
      ∙ sym (part-gist way z a part (holds s0 nothing a))))

  -- the value before, where some does
  pub nothing_before : (s0 s1 s2 : S) → KeepsConditions IsMade holds room s0 s1 → (problem : Problem) (cells : List (Cell C)) → AreCellsMade (IsMade s0) cells → (t : Target C) → IsTargetMade (IsMade s0) t → (way : Way) (family : ℕ) (next : DefBody) (indexes every every' : List Spot) (before before' : List (Offer C)) (b : Bool) (r : C) →
      indexes ≡ t.indexes → every' ≡ every → before' ≡ before → ((z : Aim) → b ≡ concerns_place next (map (place_in z.view.world.classes) indexes)) → b ≡ true →
      ((z : Aim) → IsWorldOf problem z.view.world → map (place_in z.view.world.classes) every ≡ places_of_family z.view.world z.view.kept (slice_get z.view.world.classes.families family)) →
      ((z : Aim) → IsWorldOf problem z.view.world → (p : AbsOutcome → Bool) (a : ℕ → Bool) → any_offer z.view.world.classes holds s1 a p before ≡ cell_any z.view.world.classes holds s0 a p family (map (place_in z.view.world.classes) indexes) (map (place_in z.view.world.classes) every') cells) →
      ((z : Aim) → IsWorldOf problem z.view.world → IsTarget holds s1 t z → (a : ℕ → Bool) (u : AbsOutcome) → ((p : AbsOutcome → Bool) → any_offer z.view.world.classes holds s1 a p before' ≡ p u) → holds s2 r a ≡ keeps_asked way z.every u (z.value a)) →
      IsSoOf holds s0 s2 problem cells t family (nothing_in way family next) r
  unfolding IsSoOf
  nothing_before s0 s1 s2 k problem cells cells_made t target_made way family next indexes every every' before before' b r e f g concerned yes_it are_places read passes z aim element is_every a =
      let n = z.view.world.classes in
      let w : IsWorldOf problem z.view.world = aim.seen.world in
      let o : Option Family = slice_get n.families family in
      passes z w (target_on IsMade holds room s0 s1 t z k target_made aim.target) a (Some (z.view.state a family z.indexes)) (λ p.
      ap (any_offer n holds s1 a p) g
      ∙ (read z w p a
      ∙ (ap (λ qs. cell_any n holds s0 a p family qs (map (place_in n) every') cells) (ap (map (place_in n)) e ∙ aim.target.indexes)
      ∙ (ap (λ qs. cell_any n holds s0 a p family z.indexes qs cells) (ap (map (place_in n)) f ∙ are_places z w)
      ∙ read_kept holds s0 problem cells z.view aim.seen a p family z.indexes o element.kept (element.of_type a)))))
      ∙ nothing-kept way family next z a (ap (concerns_place next) (sym (ap (map (place_in n)) e ∙ aim.target.indexes)) ∙ (sym (concerned z) ∙ yes_it)) (ap (λ l. is_among l (z.view.state a family z.indexes)) is_every ∙ element.of_type a)

  -- `next`, by what Nothing stands for
  pub next_gives_it : (s0 s1 s2 : S) → KeepsConditions IsMade holds room s0 s1 → (problem : Problem) (cells : List (Cell C)) → AreCellsMade (IsMade s0) cells → (t : Target C) → IsTargetMade (IsMade s0) t → (way : Way) (family : ℕ) (next : DefBody) (nothing r : C) →
      IsSoOf holds s0 s1 problem cells t family (nothing_in way family next) nothing → IsSo holds s1 s2 problem cells t (λ z a. gives_in way z a next (holds s1 nothing a)) r → IsSoOf holds s0 s2 problem cells t family (next_in way family next) r
  unfolding IsSoOf IsSo next_in
  next_gives_it s0 s1 s2 k problem cells cells_made t target_made way family next nothing r anything part z aim element is_every a =
      part z (aim_on IsMade holds room s0 s1 problem cells t z k cells_made target_made aim) a ∙ ap (gives_in way z a next) (anything z aim element is_every a)

pub now_gives_it : {S C : Type 0} (holds : S → C → (ℕ → Bool) → Bool) (s0 s1 : S) (problem : Problem) (cells : List (Cell C)) (t : Target C) (way : Way) (part : DefBody) (anything r : C) → anything ≡ everything_of t way → IsSo holds s0 s1 problem cells t (λ z a. gives_in way z a part (holds s0 anything a)) r → IsSo holds s0 s1 problem cells t (now_in way part) r
unfolding IsSo now_in
now_gives_it holds s0 s1 problem cells t way part anything r e h z aim a = h z aim a ∙ ap (gives_in way z a part) (ap (λ c. holds s0 c a) e ∙ everything_passes holds s0 t way z aim.target a)

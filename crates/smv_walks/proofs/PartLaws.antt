-- The gists of parts, by those of their own parts.
use Rattle.std.proofs.Common.{◌≡◌, ℕ, List, [], map, Option, Some, None, is_none, Bool, true, false, ◌&&◌, ◌||◌, not, refl, sym, ap, ◌∙◌}
use Rattle.std.specs.Prelude.{IfSome}
use Rattle.std.proofs.lemmas.List.{append-nil}
use Rattle.law_lists.proofs.Lists.{map-map}
use Rattle.smv_core.specs.declared.flat.Simple.{Simple}
use Rattle.smv_core.specs.declared.flat.DefBody.{DefBody, Nothing, Assign, If, First, Forall}
use Rattle.smv_core.specs.declared.flat.FlatExpr.{FlatExpr}
use Rattle.law_obligations.specs.Places.{Place, World, is_among, places_in, bind_place}
use Rattle.law_obligations.specs.May.{seen, may}
use Rattle.law_obligations.specs.Results.{results}
use Rattle.law_obligations.specs.Mix.{Mix, is_filled}
use Rattle.law_obligations.specs.Gist.{Gist, gist_of, nothing_alone, if_gist, first_all, assigned_gist, matches_all}
use Rattle.law_obligations.proofs.MixLaws.{filled}
use Rattle.law_obligations.proofs.WalkLaws.{gist-if, gist-first, gist-assigned}
use Rattle.law_obligations.proofs.ResultLaws.{results-If, results-First, results-Forall}
use Rattle.smv_spots.specs.declared.spots.Spot.{Spot}
use Rattle.smv_spots.specs.Spots.{place_in}
use Rattle.smv_problem.specs.declared.problem.Problem.{Problem}
use Rattle.smv_problem_spots.specs.Worlds.{IsWorldOf}
use Rattle.smv_conditions.specs.declared.chances.Chances.{Chances}
use Rattle.smv_conditions.specs.declared.gists.Gists.{Gists}
use Rattle.smv_conditions.specs.Keep.{KeepsConditions}
use Rattle.smv_conditions.specs.Chances.{mix_at}
use Rattle.smv_conditions.specs.Gists.{AreGistsMade, gist_at}
use Rattle.smv_cells.specs.declared.cells.Cell.{Cell}
use Rattle.smv_cells.specs.Cells.{AreCellsMade}
use Rattle.smv_cells.specs.Seen.{View, IsView, IsSeen, outcomes}
use Rattle.smv_cells.proofs.SeenLaws.{keeps_trans}
use Rattle.smv_sides.specs.Outcomes.{mix_in, IsTruthOf}
use Rattle.smv_targets.specs.declared.targets.Target.{Target}
use Rattle.smv_targets.specs.Targets.{Aim, IsTarget, IsAim, IsTargetMade, IsSo}
use Rattle.smv_targets.proofs.AimLaws.{target_on, aim_on}
use Rattle.smv_walk_parts.specs.Parts.{IsMatch}
use Rattle.smv_walk_parts.proofs.FirstLaws.{gist_kept, gists_kept}
use Rattle.smv_walk_parts.specs.Elsewhere.{is_elsewhere}
use Rattle.smv_walk_parts.proofs.ElsewhereLaws.{never_matches}
use Rattle.smv_walks.specs.Passed.{gist_or_nothing}
use Rattle.smv_walks.specs.declared.walks.Way.{Way}
use Rattle.smv_walks.specs.declared.walks.Way.TheVariants.{May, Must}
use Rattle.smv_walks.specs.Walks.{asked, allowed, everything_of, right_of, gist_over, gist_in, gist_assigned, IsGistsOf, IsPassedOf, IsTaken, AreGistsOf, AreGistsAlong}
use Rattle.smv_walks.proofs.ThereLaws.{left-there, results-there, all-there, over-there}

-- everything passes where the target's condition of it holds
pub everything_passes : {S C : Type 0} (holds : S → C → (ℕ → Bool) → Bool) (s : S) (t : Target C) (way : Way) (z : Aim) → IsTarget holds s t z → (a : ℕ → Bool) → holds s (everything_of t way) a ≡ asked way (z.value a) (λ p. is_among z.every p)
everything_passes holds s t May z h a = h.always a ∙ sym (h.of_type a)
everything_passes holds s t Must z h a = h.never a ∙ sym (ap not (h.of_type a))

pub everything_made : {C : Type 0} (IsMade : C → Type 0) (t : Target C) (way : Way) → IsTargetMade IsMade t → IsMade (everything_of t way)
everything_made IsMade t May m = m.always
everything_made IsMade t Must m = m.never

pub nothing_is : (way : Way) (z : Aim) (a : ℕ → Bool) (b : List Spot) → nothing_alone ≡ gist_in way z a b Nothing
unfolding gist_in
nothing_is way z a b = refl

-- an assignment, by its left side and its right side
pub assigned_is : (way : Way) (z : Aim) → IsView z.view → (a : ℕ → Bool) (b : List Spot) (left : List FlatExpr) (value : FlatExpr) →
    assigned_gist (asked way (z.value a) (λ p. is_among z.every p)) (right_of way b value z a) (matches_all z.indexes (map (λ e. outcomes z.view a e b) left)) ≡ gist_assigned way z a b left value
unfolding right_of gist_assigned outcomes
assigned_is way z view a b left value =
    let bs : List Place = map (place_in z.view.world.classes) b in
    sym (gist-assigned z.view.world z.view.kept (z.view.state a) z.indexes (λ p. is_among z.every p) (allowed way z a) (asked way (z.value a)) value bs (map (λ e. may z.view.world z.view.kept (z.view.state a) e bs) left)
    (left-there z.view.world z.view.kept (z.view.state a) z.indexes (λ p. is_among z.every p) (allowed way z a) (λ e c. view.filled a e c) left bs))

pub assign_is : (way : Way) (z : Aim) (a : ℕ → Bool) (b : List Spot) (left shown : List FlatExpr) (value : FlatExpr) (place at : ℕ) (part : DefBody) → part ≡ Assign left value place at → shown ≡ left → gist_assigned way z a b shown value ≡ gist_in way z a b part
unfolding gist_in gist_assigned
assign_is way z a b left shown value place at part e f = ap (λ l. gist_assigned way z a b l value) f ∙ ap (gist_in way z a b) (sym e)

-- a conditional
pub if_is : (way : Way) (z : Aim) → IsView z.view → (a : ℕ → Bool) (b : List Spot) (cond : FlatExpr) (above below : DefBody) →
    if_gist (asked way (z.value a) (λ p. is_among z.every p)) (mix_in z.view a b cond) (gist_in way z a b above) (gist_in way z a b below) ≡ gist_in way z a b (If cond above below)
unfolding gist_in mix_in outcomes
if_is way z view a b cond above below =
    let bs : List Place = map (place_in z.view.world.classes) b in
    let anything : Place → Bool = λ p. is_among z.every p in
    sym (ap (gist_of (asked way (z.value a))) (results-If z.view.world z.view.kept (z.view.state a) z.indexes anything (allowed way z a) cond above below bs)
    ∙ gist-if anything (asked way (z.value a)) (may z.view.world z.view.kept (z.view.state a) cond bs) (results z.view.world z.view.kept (z.view.state a) z.indexes anything (allowed way z a) above bs) (results z.view.world z.view.kept (z.view.state a) z.indexes anything (allowed way z a) below bs)
    (results-there z.view.world z.view.kept (z.view.state a) z.indexes anything (allowed way z a) (λ e c. view.filled a e c) above bs) (results-there z.view.world z.view.kept (z.view.state a) z.indexes anything (allowed way z a) (λ e c. view.filled a e c) below bs))

-- the first of several parts
pub first_is : (way : Way) (z : Aim) → IsView z.view → (a : ℕ → Bool) (b : List Spot) (parts : List DefBody) → first_all (map (gist_in way z a b) parts) ≡ gist_in way z a b (First parts)
unfolding gist_in
first_is way z view a b parts =
    let bs : List Place = map (place_in z.view.world.classes) b in
    let anything : Place → Bool = λ p. is_among z.every p in
    let part_results : DefBody → List (Option (Place → Bool)) = λ part. results z.view.world z.view.kept (z.view.state a) z.indexes anything (allowed way z a) part bs in
    sym (ap (gist_of (asked way (z.value a))) (results-First z.view.world z.view.kept (z.view.state a) z.indexes anything (allowed way z a) parts bs)
    ∙ (gist-first anything (asked way (z.value a)) (map part_results parts) (all-there z.view.world z.view.kept (z.view.state a) z.indexes anything (allowed way z a) (λ e c. view.filled a e c) parts bs)
    ∙ ap first_all (map-map (gist_of (asked way (z.value a))) part_results parts)))

-- a part at each place of a variable
pub forall_is : (way : Way) (z : Aim) → IsView z.view → (a : ℕ → Bool) (b : List Spot) (var : ℕ) (over : Simple) (body : DefBody) (inners : List (List Spot)) →
    map (map (place_in z.view.world.classes)) inners ≡ map (bind_place (map (place_in z.view.world.classes) b) var) (places_in z.view.world over) → first_all (map (λ c. gist_in way z a c body) inners) ≡ gist_in way z a b (Forall var over body)
unfolding gist_in
forall_is way z view a b var over body inners bound =
    let n = z.view.world.classes in
    let bs : List Place = map (place_in n) b in
    let anything : Place → Bool = λ p. is_among z.every p in
    let there : List Place → Gist = λ c. gist_over way z a c body in
    let body_results : Place → List (Option (Place → Bool)) = λ p. results z.view.world z.view.kept (z.view.state a) z.indexes anything (allowed way z a) body (bind_place bs var p) in
    ap first_all (sym (map-map there (map (place_in n)) inners) ∙ (ap (map there) bound ∙ (map-map there (bind_place bs var) (places_in z.view.world over) ∙ sym (map-map (gist_of (asked way (z.value a))) body_results (places_in z.view.world over)))))
    ∙ sym (ap (gist_of (asked way (z.value a))) (results-Forall z.view.world z.view.kept (z.view.state a) z.indexes anything (allowed way z a) var over body bs)
    ∙ gist-first anything (asked way (z.value a)) (map body_results (places_in z.view.world over)) (over-there z.view.world z.view.kept (z.view.state a) z.indexes anything (allowed way z a) (λ e c. view.filled a e c) body bs var (places_in z.view.world over)))

-- an assignment that is known to be elsewhere
pub elsewhere_is : (way : Way) (z : Aim) → IsView z.view → (a : ℕ → Bool) (b : List Spot) (left : List FlatExpr) (value : FlatExpr) → is_elsewhere z.view.world z.indexes left (map (place_in z.view.world.classes) b) ≡ true → nothing_alone ≡ gist_assigned way z a b left value
unfolding outcomes
elsewhere_is way z view a b left value e =
    ap (assigned_gist (asked way (z.value a) (λ p. is_among z.every p)) (right_of way b value z a)) (sym (never_matches z.view.world z.view.kept (z.view.state a) (map (place_in z.view.world.classes) b) z.indexes left e))
    ∙ assigned_is way z view a b left value

-- a condition of two branches that are nothing alone
no_branch : (everything : Bool) (m : Mix) → is_filled m ≡ true → nothing_alone ≡ if_gist everything m nothing_alone nothing_alone
no_branch everything m = at m.no m.yes m.neither
  where
    at : (x y z : Bool) → (x || (y || z)) ≡ true → nothing_alone ≡ if_gist everything (record { no = x; yes = y; neither = z }) nothing_alone nothing_alone
    at true true true e = refl
    at true true false e = refl
    at true false true e = refl
    at true false false e = refl
    at false true true e = refl
    at false true false e = refl
    at false false true e = refl
    at false false false e = absurd (cc)

condition_filled : (v : View) → IsView v → (a : ℕ → Bool) (b : List Spot) (cond : FlatExpr) → is_filled (mix_in v a b cond) ≡ true
unfolding mix_in outcomes
condition_filled v view a b cond = filled seen (may v.world v.kept (v.state a) cond (map (place_in v.world.classes) b)) ∙ view.filled a cond (map (place_in v.world.classes) b)

module _ {S C : Type 0} (holds : S → C → (ℕ → Bool) → Bool) (problem : Problem) (cells : List (Cell C)) (t : Target C) (way : Way) (b : List Spot) where
  pub Nothing_of_it : (s0 s1 : S) (part : DefBody) → part ≡ Nothing → IsPassedOf holds s0 s1 problem cells t (λ z a. gist_in way z a b part) None
  unfolding IsPassedOf
  Nothing_of_it s0 s1 part e z aim a = nothing_is way z a b ∙ ap (gist_in way z a b) (sym e)

  pub Assign_elsewhere : (s0 s1 : S) (left shown : List FlatExpr) (value : FlatExpr) (place at : ℕ) (part : DefBody) (indexes : List Spot) (known : Bool) → part ≡ Assign left value place at → shown ≡ left → indexes ≡ t.indexes →
      ((w : World) → IsWorldOf problem w → known ≡ is_elsewhere w (map (place_in w.classes) indexes) shown (map (place_in w.classes) b)) → known ≡ true → IsPassedOf holds s0 s1 problem cells t (λ z a. gist_in way z a b part) None
  unfolding IsPassedOf
  Assign_elsewhere s0 s1 left shown value place at part indexes known e f same is so z aim a =
      let bs : List Place = map (place_in z.view.world.classes) b in
      elsewhere_is way z aim.seen.view a b shown value (ap (λ qs. is_elsewhere z.view.world qs shown bs) (sym (ap (map (place_in z.view.world.classes)) same ∙ aim.target.indexes)) ∙ (sym (is z.view.world aim.seen.world) ∙ so))
      ∙ assign_is way z a b left shown value place at part e f

  pub Assign_of_it : (s0 s1 : S) (left shown : List FlatExpr) (value : FlatExpr) (place at : ℕ) (part : DefBody) (g : Gists C) → part ≡ Assign left value place at → shown ≡ left → IsGistsOf holds s0 s1 problem cells t (λ z a. gist_assigned way z a b shown value) g → IsPassedOf holds s0 s1 problem cells t (λ z a. gist_in way z a b part) (Some g)
  unfolding IsGistsOf IsPassedOf
  Assign_of_it s0 s1 left shown value place at part g e f h z aim a = h z aim a ∙ assign_is way z a b left shown value place at part e f

  pub First_of_it : (s0 s1 s2 : S) (parts shown : List DefBody) (part : DefBody) (each each' : List (Gists C)) (o : Option (Gists C)) → part ≡ First parts → shown ≡ parts → each' ≡ each → AreGistsOf holds s0 s1 problem cells t way b shown [] each →
      ((a : ℕ → Bool) → gist_or_nothing holds s2 a o ≡ first_all (map (gist_at holds s1 a) each')) → IsPassedOf holds s0 s2 problem cells t (λ z a. gist_in way z a b part) o
  unfolding IsPassedOf AreGistsOf
  First_of_it s0 s1 s2 parts shown part each each' o e f d are made z aim a =
      made a
      ∙ (ap (λ l. first_all (map (gist_at holds s1 a) l)) d ∙ (ap first_all (sym (append-nil (map (gist_at holds s1 a) each))) ∙ (are z aim a ∙ ap (λ l. first_all (map (gist_in way z a b) l)) f))
      ∙ (first_is way z aim.seen.view a b parts ∙ ap (gist_in way z a b) (sym e)))

  pub Forall_of_it : (s0 s1 s2 : S) (var : ℕ) (over : Simple) (body shown part : DefBody) (inners inners' : List (List Spot)) (each each' : List (Gists C)) (o : Option (Gists C)) → part ≡ Forall var over body → shown ≡ body → inners' ≡ inners → each' ≡ each →
      ((z : Aim) → IsAim holds s0 problem cells t z → map (map (place_in z.view.world.classes)) inners ≡ map (bind_place (map (place_in z.view.world.classes) b) var) (places_in z.view.world over)) → AreGistsAlong holds s0 s1 problem cells t way shown inners' [] each →
      ((a : ℕ → Bool) → gist_or_nothing holds s2 a o ≡ first_all (map (gist_at holds s1 a) each')) → IsPassedOf holds s0 s2 problem cells t (λ z a. gist_in way z a b part) o
  unfolding IsPassedOf AreGistsAlong
  Forall_of_it s0 s1 s2 var over body shown part inners inners' each each' o e f i d bound are made z aim a =
      made a
      ∙ (ap (λ l. first_all (map (gist_at holds s1 a) l)) d ∙ (ap first_all (sym (append-nil (map (gist_at holds s1 a) each))) ∙ (are z aim a ∙ (ap (λ l. first_all (map (λ c. gist_in way z a c shown) l)) i ∙ ap (λ (p : DefBody). first_all (map (λ c. gist_in way z a c p) inners)) f)))
      ∙ (forall_is way z aim.seen.view a b var over body inners (bound z aim) ∙ ap (gist_in way z a b) (sym e)))

  pub taken_none : (s0 s1 : S) (cond : FlatExpr) (g h : Option (Gists C)) (both : Bool) → both ≡ (is_none g && is_none h) → both ≡ true → IsTaken holds s0 s1 problem cells t way b cond g h None
  unfolding IsTaken IsPassedOf
  taken_none s0 s1 cond None None both e f z aim a = no_branch (asked way (z.value a) (λ p. is_among z.every p)) (mix_in z.view a b cond) (condition_filled z.view aim.seen.view a b cond)
  taken_none s0 s1 cond (Some g) h both e f z aim a = absurd (cc)
  taken_none s0 s1 cond None (Some h) both e f z aim a = absurd (cc)

  pub whole_of_it : (s0 s1 : S) (part : DefBody) (o : Option (Gists C)) (g : Gists C) → IsPassedOf holds s0 s1 problem cells t (λ z a. gist_in way z a b part) o → ((a : ℕ → Bool) → gist_at holds s1 a g ≡ gist_or_nothing holds s1 a o) → IsGistsOf holds s0 s1 problem cells t (λ z a. gist_in way z a b part) g
  unfolding IsPassedOf IsGistsOf
  whole_of_it s0 s1 part o g is made z aim a = made a ∙ is z aim a

-- what is left out or was made means the same later
module _ {S C : Type 0} (IsMade : S → C → Type 0) (holds : S → C → (ℕ → Bool) → Bool) (room : S → ℕ) (s t : S) (k : KeepsConditions IsMade holds room s t) where
  pub some_kept : (o : Option (Gists C)) → IfSome o (λ g. AreGistsMade (IsMade s) g) → IfSome o (λ g. AreGistsMade (IsMade t) g)
  some_kept None m = tt
  some_kept (Some g) m = gists_kept IsMade holds room s t g k m

  pub or_kept : (a : ℕ → Bool) (o : Option (Gists C)) → IfSome o (λ g. AreGistsMade (IsMade s) g) → gist_or_nothing holds t a o ≡ gist_or_nothing holds s a o
  or_kept a None m = refl
  or_kept a (Some g) m = gist_kept IsMade holds room a s t g k m

module _ {S C : Type 0} (IsMade : S → C → Type 0) (holds : S → C → (ℕ → Bool) → Bool) (room : S → ℕ) (problem : Problem) (cells : List (Cell C)) (t : Target C) (way : Way) (b : List Spot) where
  pub assigned_of_it : (s0 s1 s2 s3 : S) → KeepsConditions IsMade holds room s0 s1 → KeepsConditions IsMade holds room s1 s2 → AreCellsMade (IsMade s0) cells → IsTargetMade (IsMade s0) t → (left : List FlatExpr) (value : FlatExpr) (indexes : List Spot) (r anything : C) (x : Chances C) (g : Gists C) → indexes ≡ t.indexes → anything ≡ everything_of t way →
      IsMade s1 r → IsSo holds s0 s1 problem cells t (right_of way b value) r → ((v : View) → IsSeen holds s1 problem cells v → IsMatch holds s2 v indexes left b x) →
      ((a : ℕ → Bool) → gist_at holds s3 a g ≡ assigned_gist (holds s2 anything a) (holds s2 r a) (mix_at holds s2 a x)) → IsGistsOf holds s0 s3 problem cells t (λ z a. gist_assigned way z a b left value) g
  unfolding IsGistsOf IsSo IsMatch
  assigned_of_it s0 s1 s2 s3 k l cells_made target_made left value indexes r anything x g e f r_made right match made z aim a =
      let later : IsAim holds s1 problem cells t z = aim_on IsMade holds room s0 s1 problem cells t z k cells_made target_made aim in
      let last : IsTarget holds s2 t z = target_on IsMade holds room s0 s2 t z (keeps_trans IsMade holds room s0 s1 s2 k l) target_made aim.target in
      let tests : List (List _) = map (λ e. outcomes z.view a e b) left in
      made a
      ∙ (ap (λ c. assigned_gist (holds s2 c a) (holds s2 r a) (mix_at holds s2 a x)) f
      ∙ (ap (λ c. assigned_gist c (holds s2 r a) (mix_at holds s2 a x)) (everything_passes holds s2 t way z last a)
      ∙ (ap (λ c. assigned_gist (asked way (z.value a) (λ p. is_among z.every p)) c (mix_at holds s2 a x)) (l.same r r_made a ∙ right z aim a)
      ∙ (ap (assigned_gist (asked way (z.value a) (λ p. is_among z.every p)) (right_of way b value z a)) (match z.view later.seen a ∙ ap (λ qs. matches_all qs tests) (ap (map (place_in z.view.world.classes)) e ∙ aim.target.indexes))
      ∙ assigned_is way z aim.seen.view a b left value))))

  pub taken_of_it : (s0 s1 s2 : S) → KeepsConditions IsMade holds room s0 s1 → IsTargetMade (IsMade s0) t → (cond : FlatExpr) (g h : Option (Gists C)) (above below k : Gists C) (x : Chances C) (anything : C) → anything ≡ everything_of t way →
      AreGistsMade (IsMade s0) above → AreGistsMade (IsMade s0) below → ((a : ℕ → Bool) → gist_at holds s0 a above ≡ gist_or_nothing holds s0 a g) → ((a : ℕ → Bool) → gist_at holds s0 a below ≡ gist_or_nothing holds s0 a h) →
      ((v : View) → IsSeen holds s0 problem cells v → IsTruthOf holds s1 v cond b x) →
      ((a : ℕ → Bool) → gist_at holds s2 a k ≡ if_gist (holds s1 anything a) (mix_at holds s1 a x) (gist_at holds s1 a above) (gist_at holds s1 a below)) → IsTaken holds s0 s2 problem cells t way b cond g h (Some k)
  unfolding IsTaken IsPassedOf IsTruthOf
  taken_of_it s0 s1 s2 k01 target_made cond g h above below k x anything o above_made below_made is_above is_below truth made z aim a =
      let at_1 : IsTarget holds s1 t z = target_on IsMade holds room s0 s1 t z k01 target_made aim.target in
      let all : Bool = asked way (z.value a) (λ p. is_among z.every p) in
      made a
      ∙ (ap (λ c. if_gist (holds s1 c a) (mix_at holds s1 a x) (gist_at holds s1 a above) (gist_at holds s1 a below)) o
      ∙ (ap (λ c. if_gist c (mix_at holds s1 a x) (gist_at holds s1 a above) (gist_at holds s1 a below)) (everything_passes holds s1 t way z at_1 a)
      ∙ (ap (λ m. if_gist all m (gist_at holds s1 a above) (gist_at holds s1 a below)) (truth z.view aim.seen a)
      ∙ (ap (λ j. if_gist all (mix_in z.view a b cond) j (gist_at holds s1 a below)) (gist_kept IsMade holds room a s0 s1 above k01 above_made ∙ is_above a)
      ∙ ap (if_gist all (mix_in z.view a b cond) (gist_or_nothing holds s0 a g)) (gist_kept IsMade holds room a s0 s1 below k01 below_made ∙ is_below a)))))

  pub If_of_it : (s0 s1 s2 s3 : S) → KeepsConditions IsMade holds room s0 s1 → KeepsConditions IsMade holds room s1 s2 → AreCellsMade (IsMade s0) cells → IsTargetMade (IsMade s0) t →
      (cond : FlatExpr) (above below left right part : DefBody) (g h k : Option (Gists C)) → part ≡ If cond above below → left ≡ above → right ≡ below → IfSome g (λ g. AreGistsMade (IsMade s1) g) →
      IsPassedOf holds s0 s1 problem cells t (λ z a. gist_in way z a b left) g → IsPassedOf holds s1 s2 problem cells t (λ z a. gist_in way z a b right) h → IsTaken holds s2 s3 problem cells t way b cond g h k → IsPassedOf holds s0 s3 problem cells t (λ z a. gist_in way z a b part) k
  unfolding IsPassedOf IsTaken
  If_of_it s0 s1 s2 s3 k01 k12 cells_made target_made cond above below left right part g h k e f d g_made are_g are_h took z aim a =
      let at_1 : IsAim holds s1 problem cells t z = aim_on IsMade holds room s0 s1 problem cells t z k01 cells_made target_made aim in
      let at_2 : IsAim holds s2 problem cells t z = aim_on IsMade holds room s0 s2 problem cells t z (keeps_trans IsMade holds room s0 s1 s2 k01 k12) cells_made target_made aim in
      let all : Bool = asked way (z.value a) (λ p. is_among z.every p) in
      took z at_2 a
      ∙ (ap (λ j. if_gist all (mix_in z.view a b cond) j (gist_or_nothing holds s2 a h)) (or_kept IsMade holds room s1 s2 k12 a g g_made ∙ (are_g z aim a ∙ ap (gist_in way z a b) f))
      ∙ (ap (if_gist all (mix_in z.view a b cond) (gist_in way z a b above)) (are_h z at_1 a ∙ ap (gist_in way z a b) d)
      ∙ (if_is way z aim.seen.view a b cond above below ∙ ap (gist_in way z a b) (sym e))))

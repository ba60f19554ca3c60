-- The assignments of statements and what statements say of a family, on statements that are made of lists and values.
use Rattle.std.proofs.Common.{◌≡◌, ℕ, ◌+◌, List, [], ◌∷◌, ◌++◌, Option, Some, Bool, true, false, not, cond, length, filter, refl, sym, ap, ◌∙◌}
use Rattle.std.specs.List.{flat_map}
use Rattle.std.proofs.lemmas.List.{append-nil, length-append}
use Rattle.std.specs.Prelude.{◌&&◌, nat_eq, if◌then◌else◌}
use Rattle.smv_core.specs.Walk.{same_kind}
use Rattle.smv_core.specs.declared.tree.Kind.{Kind}
use Rattle.smv_core.specs.declared.flat.Simple.{Simple}
use Rattle.smv_core.specs.declared.flat.FlatExpr.{FlatExpr}
use Rattle.smv_core.specs.declared.flat.FlatStmt.{FlatStmt, Assign, If, Default, Forall, Block, Block', Row_of-FlatStmt, end_of-FlatStmt, more_of-FlatStmt, items-the_row-FlatStmt, items_hidden-the_row-FlatStmt-1}
use Rattle.smv_core.specs.declared.flat.DefBody.{DefBody, Nothing}
use Rattle.smv_core.specs.declared.flat.DefBody as flat
use Rattle.law_designs.specs.Flattening.{flat_assignments, flat_assignments_in}
use Rattle.law_designs.proofs.FlatLists.{boxes}
use Rattle.law_designs.specs.WholeText.{is_one_layer}
use Rattle.law_designs.specs.Definitions.{is_nothing, joined, first_part, branches, each_value, flat_of, flats_of}
use Rattle.smv_design.specs.declared.owners.Owner.{Owner}
use Rattle.smv_design.specs.Parts.{size, sizes, kept, said}
use Rattle.smv_design.specs.declared.groups.Sides.{Sides}
use Rattle.smv_design.specs.Groups.{parts_for, same_owner, no_sides, filled, combine, or_none, one_more}
use Rattle.smv_design.specs.Told.{told, told_from}
use Rattle.smv_design.specs.Acts.{heads_in, heads_in_row, heads_in_all}
use Rattle.smv_design.proofs.OwnerLaws.{one-layer, layers-turned}
use Rattle.smv_design.proofs.GroupLaws.{filled-none, filled-step}
use mathlib.Core.Former.{Count}

abbrev stmts_of : FlatStmt → (n : Count) × Row_of-FlatStmt n
stmts_of (Block' shape row) = (_, row)
stmts_of _ = (_, end_of-FlatStmt)

-- ---- how many assignments

count-row : (n : _) (row : Row_of-FlatStmt n) → length (flat_assignments_in row) ≡ sizes (items-the_row-FlatStmt n row)
unfolding size
count-row n end_of-FlatStmt = refl
count-row n (more_of-FlatStmt part rest) = length-append (flat_assignments part) (flat_assignments_in rest) ∙ ap (λ k. size part + k) (count-row _ rest)

pub count-Assign : (kind : Kind) (family : ℕ) (left : List FlatExpr) (value : FlatExpr) (at : ℕ) → size (Assign kind family left value at) ≡ 1
unfolding size
count-Assign kind family left value at = refl

pub count-If : (test : FlatExpr) (l r : FlatStmt) → size (If test l r) ≡ size l + size r
unfolding boxes size
count-If test l r = length-append (flat_assignments l) (flat_assignments r)

pub count-Default : (l r : FlatStmt) → size (Default l r) ≡ size l + size r
unfolding boxes size
count-Default l r = length-append (flat_assignments l) (flat_assignments r)

pub count-Forall : (var : ℕ) (over : Simple) (body : FlatStmt) → size (Forall var over body) ≡ size body
unfolding boxes size
count-Forall var over body = refl

pub count-Block : (parts : List FlatStmt) → size (Block parts) ≡ sizes parts
unfolding size
count-Block parts =
    let row : (n : Count) × Row_of-FlatStmt n = stmts_of (Block parts) in
    count-row row.0 row.1 ∙ ap sizes (items_hidden-the_row-FlatStmt-1 parts)

pub ruleset counts = (count-Assign, count-If, count-Default, count-Forall, count-Block)

-- ---- their heads

module _ (layer : Option ℕ) where
  heads-row : (n : _) (k : ℕ) (row : Row_of-FlatStmt n) → heads_in_row layer k row ≡ heads_in_all layer k (items-the_row-FlatStmt n row)
  unfolding heads_in
  heads-row n k end_of-FlatStmt = refl
  heads-row n k (more_of-FlatStmt part rest) = ap (λ l. heads_in layer k part ++ l) (heads-row _ (k + size part) rest)

  pub heads-Assign : (k : ℕ) (kind : Kind) (family : ℕ) (left : List FlatExpr) (value : FlatExpr) (at : ℕ) →
      heads_in layer k (Assign kind family left value at) ≡ record { layer = layer; family = family; place = k; at = at } ∷ []
  unfolding heads_in
  heads-Assign k kind family left value at = refl

  pub heads-If : (k : ℕ) (test : FlatExpr) (l r : FlatStmt) → heads_in layer k (If test l r) ≡ heads_in layer k l ++ heads_in layer (k + size l) r
  unfolding boxes heads_in
  heads-If k test l r = refl

  pub heads-Default : (k : ℕ) (l r : FlatStmt) → heads_in layer k (Default l r) ≡ heads_in layer k l ++ heads_in layer (k + size l) r
  unfolding boxes heads_in
  heads-Default k l r = refl

  pub heads-Forall : (k var : ℕ) (over : Simple) (body : FlatStmt) → heads_in layer k (Forall var over body) ≡ heads_in layer k body
  unfolding boxes heads_in
  heads-Forall k var over body = refl

  pub heads-Block : (k : ℕ) (parts : List FlatStmt) → heads_in layer k (Block parts) ≡ heads_in_all layer k parts
  unfolding heads_in
  heads-Block k parts =
      let row : (n : Count) × Row_of-FlatStmt n = stmts_of (Block parts) in
      heads-row row.0 k row.1 ∙ ap (heads_in_all layer k) (items_hidden-the_row-FlatStmt-1 parts)

pub ruleset heads = (heads-Assign, heads-If, heads-Default, heads-Forall, heads-Block)

-- ---- parts

-- a part that was kept, as one
pub one-kept : (part : DefBody) → joined (kept part) ≡ part
one-kept Nothing = refl
one-kept (flat.Assign left value place at) = refl
one-kept (flat.If' cond l left r right) = refl
one-kept (flat.First' shape parts) = refl
one-kept (flat.Forall' var over shape body) = refl

kept-each : (var : ℕ) (over : Simple) (part : DefBody) → flat_map (λ p. kept (each_value var over p)) (kept part) ≡ kept (each_value var over part)
kept-each var over part = by (is_nothing part) refl
  where
    by : (b : Bool) → is_nothing part ≡ b → flat_map (λ p. kept (each_value var over p)) (cond b [] (part ∷ [])) ≡ kept (cond b Nothing (flat.Forall var over part))
    by true e = refl
    by false e = append-nil (kept (each_value var over part)) ∙ ap (λ b. kept (cond b Nothing (flat.Forall var over part))) e

abbrev kept_of : List DefBody → List DefBody
kept_of parts = filter (λ part. not (is_nothing part)) parts

pub more-kept : (part : DefBody) (parts : List DefBody) → kept_of (part ∷ parts) ≡ kept part ++ kept_of parts
more-kept part parts = by (is_nothing part)
  where
    by : (b : Bool) → cond (not b) (part ∷ kept_of parts) (kept_of parts) ≡ (cond b [] (part ∷ [])) ++ kept_of parts
    by true = refl
    by false = refl

-- ---- what they say

module _ (kind : Kind) (family : ℕ) where
  abbrev said_from : ℕ → List FlatStmt → List DefBody
  said_from k [] = []
  said_from k (x ∷ xs) = kept (said kind family k x) ++ said_from (k + size x) xs

  said-row : (n : _) (k : ℕ) (row : Row_of-FlatStmt n) → kept_of (flats_of kind family k row) ≡ said_from k (items-the_row-FlatStmt n row)
  unfolding said size
  said-row n k end_of-FlatStmt = refl
  said-row n k (more_of-FlatStmt part rest) =
      more-kept (said kind family k part) (flats_of kind family (k + size part) rest) ∙ ap (λ l. kept (said kind family k part) ++ l) (said-row _ (k + size part) rest)

  said-Assign : (k : ℕ) (which : Kind) (other : ℕ) (left : List FlatExpr) (value : FlatExpr) (at : ℕ) →
      said kind family k (Assign which other left value at) ≡ (if same_kind which kind && nat_eq other family then flat.Assign left value k at else Nothing)
  unfolding said
  said-Assign k which other left value at = refl

  said-If : (k : ℕ) (test : FlatExpr) (l r : FlatStmt) → said kind family k (If test l r) ≡ branches test (said kind family k l) (said kind family (k + size l) r)
  unfolding boxes said size
  said-If k test l r = refl

  said-Default : (k : ℕ) (l r : FlatStmt) → said kind family k (Default l r) ≡ first_part (said kind family (k + size l) r ∷ said kind family k l ∷ [])
  unfolding boxes said size
  said-Default k l r = refl

  said-Forall : (k var : ℕ) (over : Simple) (body : FlatStmt) → said kind family k (Forall var over body) ≡ each_value var over (said kind family k body)
  unfolding boxes said size
  said-Forall k var over body = refl

  said-Block : (k : ℕ) (acts : List FlatStmt) → said kind family k (Block acts) ≡ joined (said_from k acts)
  unfolding said
  said-Block k acts =
      let row : (n : Count) × Row_of-FlatStmt n = stmts_of (Block acts) in
      ap joined (said-row row.0 k row.1 ∙ ap (said_from k) (items_hidden-the_row-FlatStmt-1 acts))

-- ---- what they say of an owner

module _ (kind : Kind) (layer : Option ℕ) (owner : Owner) where
  abbrev is_of : Bool
  is_of = is_one_layer owner.layer layer

  told-If : (k : ℕ) (test : FlatExpr) (l r : FlatStmt) → told kind layer owner k (If test l r) ≡ branches test (told kind layer owner k l) (told kind layer owner (k + size l) r)
  unfolding told
  told-If k test l r = by is_of
    where
      by : (b : Bool) → cond b (said kind owner.family k (If test l r)) Nothing ≡ branches test (cond b (said kind owner.family k l) Nothing) (cond b (said kind owner.family (k + size l) r) Nothing)
      by true = said-If kind owner.family k test l r
      by false = refl

  told-Default : (k : ℕ) (l r : FlatStmt) → told kind layer owner k (Default l r) ≡ joined (kept (told kind layer owner (k + size l) r) ++ kept (told kind layer owner k l))
  unfolding told
  told-Default k l r = by is_of
    where
      both : (a b : DefBody) → first_part (a ∷ b ∷ []) ≡ joined (kept a ++ kept b)
      both a b = ap joined (more-kept a (b ∷ []) ∙ ap (λ l. kept a ++ l) (more-kept b [] ∙ append-nil (kept b)))

      by : (b : Bool) → cond b (said kind owner.family k (Default l r)) Nothing ≡ joined (kept (cond b (said kind owner.family (k + size l) r) Nothing) ++ kept (cond b (said kind owner.family k l) Nothing))
      by true = said-Default kind owner.family k l r ∙ both (said kind owner.family (k + size l) r) (said kind owner.family k l)
      by false = refl

  told-Forall : (k var : ℕ) (over : Simple) (body : FlatStmt) → told kind layer owner k (Forall var over body) ≡ each_value var over (told kind layer owner k body)
  unfolding told
  told-Forall k var over body = by is_of
    where
      by : (b : Bool) → cond b (said kind owner.family k (Forall var over body)) Nothing ≡ each_value var over (cond b (said kind owner.family k body) Nothing)
      by true = said-Forall kind owner.family k var over body
      by false = refl

  told-all : (b : Bool) → is_of ≡ b → (k : ℕ) (acts : List FlatStmt) → told_from kind layer owner k acts ≡ cond b (said_from kind owner.family k acts) []
  unfolding told
  told-all true e k [] = refl
  told-all false e k [] = refl
  told-all true e k (x ∷ xs) = ap (λ b. kept (cond b (said kind owner.family k x) Nothing) ++ told_from kind layer owner (k + size x) xs) e ∙ ap (λ l. kept (said kind owner.family k x) ++ l) (told-all true e (k + size x) xs)
  told-all false e k (x ∷ xs) = ap (λ b. kept (cond b (said kind owner.family k x) Nothing) ++ told_from kind layer owner (k + size x) xs) e ∙ told-all false e (k + size x) xs

  pub told-Block : (k : ℕ) (acts : List FlatStmt) → told kind layer owner k (Block acts) ≡ joined (told_from kind layer owner k acts)
  unfolding told
  told-Block k acts = by is_of refl
    where
      by : (b : Bool) → is_of ≡ b → cond b (said kind owner.family k (Block acts)) Nothing ≡ joined (told_from kind layer owner k acts)
      by true e = said-Block kind owner.family k acts ∙ ap joined (sym (told-all true e k acts))
      by false e = ap joined (sym (told-all false e k acts))

  told-Assign : (k : ℕ) (which : Kind) (family : ℕ) (left : List FlatExpr) (value : FlatExpr) (at : ℕ) →
      told kind layer owner k (Assign which family left value at) ≡ (if same_kind which kind && (is_one_layer owner.layer layer && nat_eq family owner.family) then flat.Assign left value k at else Nothing)
  unfolding told
  told-Assign k which family left value at = by is_of
    where
      by : (b : Bool) → cond b (said kind owner.family k (Assign which family left value at)) Nothing ≡ cond (same_kind which kind && (b && nat_eq family owner.family)) (flat.Assign left value k at) Nothing
      by true = said-Assign kind owner.family k which family left value at
      by false = with_kind (same_kind which kind)
        where
          with_kind : (c : Bool) → Nothing ≡ cond (c && false) (flat.Assign left value k at) Nothing
          with_kind true = refl
          with_kind false = refl

  -- ---- as the parts of a statement are made

  -- an assignment of another kind
  pub nothing-made : (k : ℕ) (which : Kind) (family : ℕ) (left : List FlatExpr) (value : FlatExpr) (at : ℕ) → same_kind which kind ≡ false → [] ≡ kept (told kind layer owner k (Assign which family left value at))
  nothing-made k which family left value at e =
      sym (ap kept (told-Assign k which family left value at) ∙ ap (λ b. kept (cond (b && (is_one_layer owner.layer layer && nat_eq family owner.family)) (flat.Assign left value k at) Nothing)) e)

  pub Assign-made : (k : ℕ) (which : Kind) (family : ℕ) (left : List FlatExpr) (value : FlatExpr) (at : ℕ) → same_kind which kind ≡ true
      → parts_for owner (record { owner = record { layer = layer; family = family }; says = flat.Assign left value k at } ∷ []) ≡ kept (told kind layer owner k (Assign which family left value at))
  Assign-made k which family left value at e =
      ap (λ b. cond (b && nat_eq family owner.family) (flat.Assign left value k at ∷ []) []) (one-layer layer owner.layer ∙ layers-turned layer owner.layer)
      ∙ by (is_one_layer owner.layer layer && nat_eq family owner.family)
      ∙ sym (ap kept (told-Assign k which family left value at) ∙ ap (λ b. kept (cond (b && (is_one_layer owner.layer layer && nat_eq family owner.family)) (flat.Assign left value k at) Nothing)) e)
    where
      by : (b : Bool) → cond b (flat.Assign left value k at ∷ []) [] ≡ kept (cond b (flat.Assign left value k at) Nothing)
      by true = refl
      by false = refl

  pub If-made : (k : ℕ) (test : FlatExpr) (l r : FlatStmt) → kept (branches test (joined (kept (told kind layer owner k l))) (joined (kept (told kind layer owner (k + size l) r)))) ≡ kept (told kind layer owner k (If test l r))
  If-made k test l r =
      ap (λ p. kept (branches test p (joined (kept (told kind layer owner (k + size l) r))))) (one-kept (told kind layer owner k l))
      ∙ ap (λ p. kept (branches test (told kind layer owner k l) p)) (one-kept (told kind layer owner (k + size l) r)) ∙ ap kept (sym (told-If k test l r))

  pub Default-made : (k : ℕ) (l r : FlatStmt) → kept (joined (kept (told kind layer owner (k + size l) r) ++ kept (told kind layer owner k l))) ≡ kept (told kind layer owner k (Default l r))
  Default-made k l r = ap kept (sym (told-Default k l r))

  pub Forall-made : (k var : ℕ) (over : Simple) (body : FlatStmt) → flat_map (λ p. kept (each_value var over p)) (kept (told kind layer owner k body)) ≡ kept (told kind layer owner k (Forall var over body))
  Forall-made k var over body = kept-each var over (told kind layer owner k body) ∙ ap kept (sym (told-Forall k var over body))

  pub Block-made : (k : ℕ) (acts : List FlatStmt) → kept (joined (told_from kind layer owner k acts)) ≡ kept (told kind layer owner k (Block acts))
  Block-made k acts = ap kept (sym (told-Block k acts))

  -- ---- as what a statement says is added to what is said

  -- an assignment of another kind
  pub none-added : (before : Sides) (is_second : Bool) (k : ℕ) (which : Kind) (family : ℕ) (left : List FlatExpr) (value : FlatExpr) (at : ℕ) → same_kind which kind ≡ false
      → before ≡ filled before is_second (kept (told kind layer owner k (Assign which family left value at)))
  none-added before is_second k which family left value at e = sym (ap (filled before is_second) (sym (nothing-made k which family left value at e)) ∙ filled-none before is_second)

  pub Assign-added : (before after : Option Sides) (is_second : Bool) (k : ℕ) (which : Kind) (family : ℕ) (left : List FlatExpr) (value : FlatExpr) (at : ℕ) → same_kind which kind ≡ true
      → after ≡ one_more before (same_owner (record { layer = layer; family = family }) owner) is_second (flat.Assign left value k at)
      → or_none after ≡ filled (or_none before) is_second (kept (told kind layer owner k (Assign which family left value at)))
  Assign-added before after is_second k which family left value at e one =
      sym (filled-none (or_none after) is_second)
      ∙ filled-step before after (record { owner = record { layer = layer; family = family }; says = flat.Assign left value k at }) owner is_second [] one
      ∙ ap (filled (or_none before) is_second) (Assign-made k which family left value at e)

  -- the sides of an `if`, each of which is as one what its branch says
  pub If-added : (sides one two : Sides) (ps qs : List DefBody) (k : ℕ) (test : FlatExpr) (l r : FlatStmt) → sides ≡ no_sides → one ≡ filled sides false ps → two ≡ filled one true qs
      → joined ps ≡ told kind layer owner k l → joined qs ≡ told kind layer owner (k + size l) r → kept (combine (Some test) two) ≡ kept (told kind layer owner k (If test l r))
  If-added sides one two ps qs k test l r none first second left right =
      ap (λ s. kept (combine (Some test) s)) (second ∙ ap (λ s. filled s true qs) (first ∙ ap (λ s. filled s false ps) none))
      ∙ ap (λ p. kept (branches test p (joined qs))) left ∙ ap (λ p. kept (branches test (told kind layer owner k l) p)) right ∙ ap kept (sym (told-If k test l r))

  -- what stands alone, as one
  pub alone : (inner all : Sides) (ps : List DefBody) (k : ℕ) (act : FlatStmt) → inner ≡ no_sides → all ≡ filled inner false ps → joined ps ≡ told kind layer owner k act → joined all.first ≡ told kind layer owner k act
  alone inner all ps k act none more says = ap (λ (s : Sides). joined s.first) (more ∙ ap (λ s. filled s false ps) none) ∙ says

  pub Default-added : (k : ℕ) (l r : FlatStmt) (first second : List DefBody) → joined first ≡ told kind layer owner k l → joined second ≡ told kind layer owner (k + size l) r
      → kept (joined (kept (joined second) ++ kept (joined first))) ≡ kept (told kind layer owner k (Default l r))
  Default-added k l r first second left right =
      ap (λ p. kept (joined (kept p ++ kept (joined first)))) right ∙ ap (λ p. kept (joined (kept (told kind layer owner (k + size l) r) ++ kept p))) left ∙ Default-made k l r

  -- ---- what a statement of a text says of an owner

  -- a statement of the definition set, and one of another
  pub told-here : (k : ℕ) (act : FlatStmt) → is_one_layer owner.layer layer ≡ true → told kind layer owner k act ≡ flat_of kind owner.family k act
  unfolding told said
  told-here k act e = ap (λ b. cond b (flat_of kind owner.family k act) Nothing) e

  pub told-elsewhere : (k : ℕ) (act : FlatStmt) → is_one_layer owner.layer layer ≡ false → told kind layer owner k act ≡ Nothing
  unfolding told
  told-elsewhere k act e = ap (λ b. cond b (said kind owner.family k act) Nothing) e

pub ruleset parts = (nothing-made, Assign-made, If-made, Default-made, Forall-made, Block-made)

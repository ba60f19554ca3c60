-- What definitions are made of.
use Rattle.std.proofs.Common.{◌≡◌, ℕ, zero, suc, ◌+◌, ◌<◌, List, [], ◌∷◌, ◌++◌, map, filter, zip, length, drop, get_or, Option, Bool, true, false, not, cond, ◌&&◌, nat_eq, add-one, subst, refl, sym, ap, ◌∙◌, arith}
use Rattle.std.specs.List.{list_any, flat_map}
use Rattle.std.proofs.Math.Seq.{drop-cons}
use Rattle.std.proofs.lemmas.List.{append_assoc, length-append}
use Rattle.std.proofs.lemmas.Bool.{or_parts}
use Rattle.smv_core.specs.Values.{numbers_from}
use Rattle.smv_core.specs.declared.tree.Kind.{Kind}
use Rattle.smv_core.specs.declared.tree.Kind.TheVariants.{Comb, Init, Next}
use Rattle.smv_core.specs.declared.flat.FlatStmt.{FlatStmt, Assign, If', Block', Default', Forall', Row_of-FlatStmt, end_of-FlatStmt, more_of-FlatStmt}
use Rattle.smv_core.specs.declared.flat.DefBody.{DefBody}
use Rattle.smv_core.specs.declared.flat.Def.{Def}
use Rattle.smv_core.specs.declared.flat.FlatText.{FlatText}
use Rattle.smv_core.specs.declared.flat.Claim.{Claim}
use Rattle.smv_core.specs.declared.flat.FlatSplit.{FlatSplit}
use Rattle.smv_core.specs.declared.flat.FlatUsing.{FlatUsing}
use Rattle.smv_core.specs.declared.flat.Design.{Design}
use Rattle.law_designs.specs.Flattening.{different, flat_assignments, flat_assignments_in}
use Rattle.law_designs.specs.WholeText.{is_one_layer, claims_of}
use Rattle.law_designs.specs.Standing.{count, Statement, statements_from, Standing, standing, standing_in}
use Rattle.law_designs.specs.Definitions.{Head, head, heads_of, is_nothing, joined, flat_of, part_of, same_definition, first_heads, def_of, splits_of, uses_of, design_of_flat_text}
use Rattle.smv_design.specs.declared.heads.Noted.{Noted}
use Rattle.smv_design.specs.declared.acts.Act.{Act}
use Rattle.smv_design.specs.declared.owners.Owner.{Owner}
use Rattle.smv_design.specs.declared.definitions.Said.{Said}
use Rattle.smv_design.specs.Parts.{size, kept}
use Rattle.smv_design.specs.Groups.{same_owner, or_none}
use Rattle.smv_design.specs.Told.{told_by}
use Rattle.smv_design.specs.Acts.{head_of, statement_of, heads_in, heads_in_row, heads_from}
use Rattle.smv_design.specs.Definitions.{owner_of, IsSame, IsSaid, AreApart, AreSaid, def_from, def_among}
use Rattle.smv_design.proofs.OwnerLaws.{one-layer}
use Rattle.smv_design.proofs.StatementLaws.{more-kept, told-here, told-elsewhere}

-- ---- what the statements of a text say of an owner

module _ (owner : Owner) (kind : Kind) where
  -- the statements of the definition set
  abbrev in_set : List Act → List Statement
  in_set acts = filter (λ (s : Statement). is_one_layer owner.layer s.layer) (map statement_of acts)

  abbrev set_says : List Act → List DefBody
  set_says acts = filter (λ part. not (is_nothing part)) (map (λ s. flat_of kind owner.family s.place s.act) (in_set acts))

  told-set : (acts : List Act) → told_by kind owner acts ≡ set_says acts
  told-set [] = refl
  told-set (a ∷ acts) = by (is_one_layer owner.layer a.layer) refl (told-set acts)
    where
      by : (b : Bool) → is_one_layer owner.layer a.layer ≡ b → told_by kind owner acts ≡ set_says acts → told_by kind owner (a ∷ acts) ≡ filter (λ part. not (is_nothing part)) (map (λ s. flat_of kind owner.family s.place s.act) (cond b (statement_of a ∷ in_set acts) (in_set acts)))
      by true e rest =
          ap (λ p. kept p ++ told_by kind owner acts) (told-here kind a.layer owner a.place a.act e) ∙ ap (λ l. kept (flat_of kind owner.family a.place a.act) ++ l) rest
          ∙ sym (more-kept (flat_of kind owner.family a.place a.act) (map (λ s. flat_of kind owner.family s.place s.act) (in_set acts)))
      by false e rest = ap (λ p. kept p ++ told_by kind owner acts) (told-elsewhere kind a.layer owner a.place a.act e) ∙ rest

  -- so what is told gives the owner's part of the definition
  pub told-part : (acts : List Act) (parts : List DefBody) → parts ≡ told_by kind owner acts → joined parts ≡ part_of kind owner.family (in_set acts)
  told-part acts parts e = ap joined (e ∙ told-set acts)

-- ---- definitions

abbrev def_with : Noted → DefBody → DefBody → DefBody → Def
def_with h init next comb = record { family = h.family; layer = h.layer; init = init; next = next; comb = comb; place = h.place; at = h.at }

def-same : (h : Noted) (i n c i' n' c' : DefBody) → i ≡ i' → n ≡ n' → c ≡ c' → def_with h i n c ≡ def_with h i' n' c'
def-same h i n c i' n' c' e f g = ap (λ p. def_with h p n c) e ∙ ap (λ p. def_with h i' p c) f ∙ ap (λ p. def_with h i' n' p) g

pub all-said : (said : Said) (acts : List Act) (heads : List Noted) → IsSaid said acts → AreSaid said (map statement_of acts) heads
all-said said acts [] is = tt
all-said said acts (h ∷ heads) is =
    let here = is (owner_of h) in
    (def-same h _ _ _ _ _ _ (told-part (owner_of h) Init acts _ here.0) (told-part (owner_of h) Next acts _ here.1) (told-part (owner_of h) Comb acts _ here.2), all-said said acts heads is)

-- of definitions that are apart, what is said of one may be taken out
still-said : (before after : Said) (statements : List Statement) (h : Noted) (heads : List Noted) → list_any (same_definition (head_of h)) (map head_of heads) ≡ false
    → ((other : Owner) → same_owner (owner_of h) other ≡ false → IsSame before after other) → AreSaid before statements heads → AreSaid after statements heads
still-said before after statements h [] apart same is = tt
still-said before after statements h (x ∷ heads) apart same is =
    let both = or_parts (same_definition (head_of h) (head_of x)) (list_any (same_definition (head_of h)) (map head_of heads)) apart in
    let other : same_owner (owner_of h) (owner_of x) ≡ false = ap (λ b. b && nat_eq h.family x.family) (one-layer h.layer x.layer) ∙ both.0 in
    let kept_same = same (owner_of x) other in
    (def-same x _ _ _ _ _ _ (ap (λ o. joined (or_none o).first) kept_same.0) (ap (λ o. joined (or_none o).first) kept_same.1) (ap (λ o. joined (or_none o).first) kept_same.2) ∙ is.0, still-said before after statements h heads both.1 same is.1)

-- one more definition
one-defined : (statements : List Statement) (defs defs' : List Def) (heads : List Noted) (i : ℕ) (h : Noted) (def : Def) (all : List Def) → drop i heads ≡ h ∷ drop (i + 1) heads → defs' ≡ defs ++ def ∷ [] → def ≡ def_among statements (head_of h)
    → defs ++ map (def_among statements) (map head_of (drop i heads)) ≡ all → defs' ++ map (def_among statements) (map head_of (drop (i + 1) heads)) ≡ all
one-defined statements defs defs' heads i h def all here new is old =
    ap (λ l. l ++ map (def_among statements) (map head_of (drop (i + 1) heads))) new ∙ append_assoc defs (def ∷ []) _ ∙ ap (λ d. defs ++ d ∷ map (def_among statements) (map head_of (drop (i + 1) heads))) is
    ∙ ap (λ l. defs ++ map (def_among statements) (map head_of l)) (sym here) ∙ old

here : (heads : List Noted) (i : ℕ) (h : Noted) → i < length heads → drop i heads ≡ get_or heads i h ∷ drop (i + 1) heads
here heads i h lt = rw (add-one, drop-cons heads i h) refl

pub next-defined : (statements : List Statement) (said said' : Said) (defs defs' : List Def) (heads : List Noted) (i : ℕ) (h : Noted) (def : Def) (all : List Def) → i < length heads → defs' ≡ defs ++ def ∷ [] → def ≡ def_from said (get_or heads i h)
    → ((other : Owner) → same_owner (owner_of (get_or heads i h)) other ≡ false → IsSame said said' other)
    → (defs ++ map (def_among statements) (map head_of (drop i heads)) ≡ all) × AreSaid said statements (drop i heads) × AreApart (drop i heads)
    → (defs' ++ map (def_among statements) (map head_of (drop (i + 1) heads)) ≡ all) × AreSaid said' statements (drop (i + 1) heads) × AreApart (drop (i + 1) heads)
next-defined statements said said' defs defs' heads i h def all lt new is others old =
    let now : Noted = get_or heads i h in
    let rest : List Noted = drop (i + 1) heads in
    let are : AreSaid said statements (now ∷ rest) = subst (AreSaid said statements) (here heads i h lt) old.1 in
    let apart : AreApart (now ∷ rest) = subst AreApart (here heads i h lt) old.2 in
    (one-defined statements defs defs' heads i now def all (here heads i h lt) new (is ∙ are.0) old.0, still-said said said' statements now rest apart.0 others are.1, apart.1)

-- ---- the first assignments

zip-both : (layer : Option ℕ) (xs ys : List Standing) (k m n : ℕ) → length xs ≡ m →
    map (λ (a, p). head a p) (zip (xs ++ ys) (numbers_from k (m + n))) ≡ map (λ (a, p). head a p) (zip xs (numbers_from k m)) ++ map (λ (a, p). head a p) (zip ys (numbers_from (k + m) n))
zip-both layer [] ys k zero n e = ap (λ l. map (λ (a, p). head a p) (zip ys l)) (ap (numbers_from k) (let f : 0 + n ≡ n = omega arith in f) ∙ ap (λ j. numbers_from j n) (let f : k ≡ k + 0 = omega arith in f))
zip-both layer [] ys k (suc m) n e = absurd (omega (arith, e))
zip-both layer (x ∷ xs) ys k zero n e = absurd (omega (arith, e))
zip-both layer (x ∷ xs) ys k (suc m) n e =
    ap (λ l. map (λ (a, p). head a p) (zip ((x ∷ xs) ++ ys) (numbers_from k l))) (let f : suc m + n ≡ suc (m + n) = omega arith in f)
    ∙ ap (λ l. head x k ∷ l) (zip-both layer xs ys (k + 1) m n (omega (arith, e)) ∙ ap (λ j. map (λ (a, p). head a p) (zip xs (numbers_from (k + 1) m)) ++ map (λ (a, p). head a p) (zip ys (numbers_from j n))) (let f : k + 1 + m ≡ k + suc m = omega arith in f))

module _ (layer : Option ℕ) where
  mutual
    long : (around : List ℕ) (act : FlatStmt) → length (standing layer around act) ≡ count act
    long around (Assign kind family left value at) = refl
    long around (If' test l (more_of-FlatStmt left end_of-FlatStmt) r (more_of-FlatStmt right end_of-FlatStmt)) =
        length-append (standing layer around left) (standing layer around right) ∙ ap (λ n. n + length (standing layer around right)) (long around left) ∙ ap (λ n. count left + n) (long around right) ∙ sym (length-append (flat_assignments left) (flat_assignments right))
    long around (Block' shape parts) = long-in around parts
    long around (Default' l (more_of-FlatStmt left end_of-FlatStmt) r (more_of-FlatStmt right end_of-FlatStmt)) =
        length-append (standing layer around left) (standing layer around right) ∙ ap (λ n. n + length (standing layer around right)) (long around left) ∙ ap (λ n. count left + n) (long around right) ∙ sym (length-append (flat_assignments left) (flat_assignments right))
    long around (Forall' var over shape (more_of-FlatStmt body end_of-FlatStmt)) = long (var ∷ around) body

    long-in : {m : _} (around : List ℕ) (parts : Row_of-FlatStmt m) → length (standing_in layer around parts) ≡ length (flat_assignments_in parts)
    long-in around end_of-FlatStmt = refl
    long-in around (more_of-FlatStmt part rest) =
        length-append (standing layer around part) (standing_in layer around rest) ∙ ap (λ n. n + length (standing_in layer around rest)) (long around part) ∙ ap (λ n. count part + n) (long-in around rest) ∙ sym (length-append (flat_assignments part) (flat_assignments_in rest))

  abbrev placed : ℕ → List Standing → ℕ → List Head
  placed k standing n = map (λ (a, p). head a p) (zip standing (numbers_from k n))

  both : (around : List ℕ) (k : ℕ) (left : FlatStmt) (xs ys : List Standing) (n m : ℕ) (ls rs : List Head) → length xs ≡ n → placed k xs n ≡ ls → placed (k + n) ys m ≡ rs → placed k (xs ++ ys) (n + m) ≡ ls ++ rs
  both around k left xs ys n m ls rs long e f = zip-both layer xs ys k n m long ∙ ap (λ l. l ++ placed (k + n) ys m) e ∙ ap (λ l. ls ++ l) f

  mutual
    unfolding heads_in size

    heads-are : (around : List ℕ) (k : ℕ) (act : FlatStmt) → placed k (standing layer around act) (count act) ≡ heads_in layer k act
    heads-are around k (Assign kind family left value at) = refl
    heads-are around k (If' test l (more_of-FlatStmt left end_of-FlatStmt) r (more_of-FlatStmt right end_of-FlatStmt)) =
        ap (placed k (standing layer around left ++ standing layer around right)) (length-append (flat_assignments left) (flat_assignments right))
        ∙ both around k left (standing layer around left) (standing layer around right) (count left) (count right) _ _ (long around left) (heads-are around k left) (heads-are around (k + count left) right)
    heads-are around k (Block' shape parts) = heads-are-in around k parts
    heads-are around k (Default' l (more_of-FlatStmt left end_of-FlatStmt) r (more_of-FlatStmt right end_of-FlatStmt)) =
        ap (placed k (standing layer around left ++ standing layer around right)) (length-append (flat_assignments left) (flat_assignments right))
        ∙ both around k left (standing layer around left) (standing layer around right) (count left) (count right) _ _ (long around left) (heads-are around k left) (heads-are around (k + count left) right)
    heads-are around k (Forall' var over shape (more_of-FlatStmt body end_of-FlatStmt)) = heads-are (var ∷ around) k body

    heads-are-in : {m : _} (around : List ℕ) (k : ℕ) (parts : Row_of-FlatStmt m) → placed k (standing_in layer around parts) (length (flat_assignments_in parts)) ≡ heads_in_row layer k parts
    heads-are-in around k end_of-FlatStmt = refl
    heads-are-in around k (more_of-FlatStmt part rest) =
        ap (placed k (standing layer around part ++ standing_in layer around rest)) (length-append (flat_assignments part) (flat_assignments_in rest))
        ∙ both around k part (standing layer around part) (standing_in layer around rest) (count part) (length (flat_assignments_in rest)) _ _ (long around part) (heads-are around k part) (heads-are-in around (k + count part) rest)

-- what was noted of the statements is what they assign
heads-all : (ss : List Statement) → flat_map (λ (s : Statement). heads_in s.layer s.place s.act) ss ≡ flat_map heads_of ss
heads-all [] = refl
heads-all (s ∷ ss) = ap (λ l. l ++ flat_map (λ (s : Statement). heads_in s.layer s.place s.act) ss) (sym (heads-are s.layer [] s.place s.act)) ∙ ap (λ l. heads_of s ++ l) (heads-all ss)

-- ---- the design

-- the definitions that are made of the first assignments
pub defs-are : (flat_text : FlatText) (acts : List Act) (heads firsts : List Noted) → map statement_of acts ≡ statements_from 0 flat_text.items → map head_of heads ≡ heads_from 0 flat_text.items
    → map head_of firsts ≡ different same_definition (map head_of heads) → map (def_among (map statement_of acts)) (map head_of firsts) ≡ map (def_of flat_text) (first_heads flat_text)
defs-are flat_text acts heads firsts statements noted first =
    ap (map (def_among (map statement_of acts))) (first ∙ ap (different same_definition) (noted ∙ heads-all (statements_from 0 flat_text.items)))
    ∙ ap (λ ss. map (def_among ss) (first_heads flat_text)) statements

abbrev design_with : FlatText → List Def → List Claim → List FlatSplit → List FlatUsing → Design
design_with flat_text defs claims splits uses = record { sets = flat_text.sets; enums = flat_text.enums; layers = flat_text.layers; families = flat_text.families; defs = defs; claims = claims; splits = splits; uses = uses }

pub design-same : (flat_text : FlatText) (defs : List Def) (claims : List Claim) (splits : List FlatSplit) (uses : List FlatUsing) → defs ≡ map (def_of flat_text) (first_heads flat_text) → claims ≡ claims_of flat_text.items → splits ≡ splits_of flat_text.items → uses ≡ uses_of flat_text.items
    → design_with flat_text defs claims splits uses ≡ design_of_flat_text flat_text
design-same flat_text defs claims splits uses e f g h =
    ap (λ l. design_with flat_text l claims splits uses) e ∙ ap (λ l. design_with flat_text (map (def_of flat_text) (first_heads flat_text)) l splits uses) f
    ∙ ap (λ l. design_with flat_text (map (def_of flat_text) (first_heads flat_text)) (claims_of flat_text.items) l uses) g ∙ ap (λ l. design_with flat_text (map (def_of flat_text) (first_heads flat_text)) (claims_of flat_text.items) (splits_of flat_text.items) l) h

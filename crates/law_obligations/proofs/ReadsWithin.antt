-- What holds of all that is made of references holds of all that an expression or a definition reads.
use Rattle.std.proofs.Common.{ℕ, List, [], ◌++◌, map, Bool, ◌||◌, if◌then◌else◌, inl, inr}
use Rattle.std.specs.List.{flat_map}
use Rattle.smv_core.specs.Assignments.{Index}
use Rattle.smv_core.specs.FlatMeaning.{flat_index}
use Rattle.smv_core.specs.declared.flat.Simple.{Simple}
use Rattle.smv_core.specs.declared.flat.FlatMember.{One, Span as SpanOf}
use Rattle.smv_core.specs.declared.flat.FlatExpr.{FlatExpr, Number, Read', Var, Loop, Constant, Not', And', Or', Implies', Iff', Compare', Within', Sum', Modulo', Choose', All', Any', List', Each', Held-FlatExpr-Each-2, None', Some', Row_of-FlatExpr, end_of-FlatExpr, more_of-FlatExpr, Row_of-FlatMember, end_of-FlatMember, more_of-FlatMember, Row_of-FlatSigned, end_of-FlatSigned, more_of-FlatSigned}
use Rattle.smv_core.specs.declared.flat.DefBody.{DefBody, Nothing, Assign, If', First', Forall', Row_of-DefBody, end_of-DefBody, more_of-DefBody}
use Rattle.law_obligations.specs.Sets.{Has}
use Rattle.law_obligations.specs.Places.{Place, bind_place}
use Rattle.law_obligations.proofs.Members.{Has-cases}
use Rattle.law_obligations.proofs.OneOfEach.{Has-from_flat_map}
use Rattle.law_obligations.specs.Reads.{indexes_read, reads, reads_each, reads_signed, reads_members, reads_held, has_counting, part_reads, parts_read}
use Rattle.law_obligations.proofs.Lookups.{Has-tested}

pub either : {X : Type 0} {P : Type 0} (xs ys : List X) {y : X} → Has (xs ++ ys) y → (Has xs y → P) → (Has ys y → P) → P
either xs ys h f g = elim (Has-cases xs ys h) [ inl l ↦ f l | inr r ↦ g r ]

module _ {X : Type 0} (places : Simple → List Place) (read : ℕ → List Index → List Place → List X) (P : X → Type 0)
    (each : (family : ℕ) (indexes : List Index) (b : List Place) (y : X) → Has (read family indexes b) y → P y) where
  mutual
    pub reads_within : (e : FlatExpr) (b : List Place) (y : X) → Has (reads places read e b) y → P y
    reads_within (Number value at) b y h = elim h [ ]
    reads_within (Read' family shape indexes at) b y h = either (read family (indexes_read indexes) b) (reads_each places read indexes b) h (each family (indexes_read indexes) b y) (each_within indexes b y)
    reads_within (Var var at) b y h = elim h [ ]
    reads_within (Loop value at) b y h = elim h [ ]
    reads_within (Constant list value at) b y h = elim h [ ]
    reads_within (Not' shape (more_of-FlatExpr e end_of-FlatExpr) at) b y h = reads_within e b y h
    reads_within (And' shape parts) b y h = each_within parts b y h
    reads_within (Or' shape parts) b y h = each_within parts b y h
    reads_within (Implies' shape parts) b y h = each_within parts b y h
    reads_within (Iff' l (more_of-FlatExpr left end_of-FlatExpr) r (more_of-FlatExpr right end_of-FlatExpr)) b y h = either (reads places read left b) (reads places read right b) h (reads_within left b y) (reads_within right b y)
    reads_within (Compare' op l (more_of-FlatExpr left end_of-FlatExpr) r (more_of-FlatExpr right end_of-FlatExpr)) b y h = either (reads places read left b) (reads places read right b) h (reads_within left b y) (reads_within right b y)
    reads_within (Within' l (more_of-FlatExpr left end_of-FlatExpr) r (more_of-FlatExpr set end_of-FlatExpr)) b y h = either (reads places read left b) (reads places read set b) h (reads_within left b y) (reads_within set b y)
    reads_within (Sum' f (more_of-FlatExpr head end_of-FlatExpr) shape more) b y h = either (reads places read head b) (reads_signed places read more b) h (reads_within head b y) (signed_within more b y)
    reads_within (Modulo' shape (more_of-FlatExpr e end_of-FlatExpr) by at) b y h = reads_within e b y h
    reads_within (Choose' c (more_of-FlatExpr cond end_of-FlatExpr) l (more_of-FlatExpr left end_of-FlatExpr) r (more_of-FlatExpr right end_of-FlatExpr)) b y h =
        either (reads places read cond b ++ reads places read left b) (reads places read right b) h
        (λ k. either (reads places read cond b) (reads places read left b) k (reads_within cond b y) (reads_within left b y)) (reads_within right b y)
    reads_within (All' shape (more_of-FlatExpr body end_of-FlatExpr) var over at) b y h = let r = Has-from_flat_map (λ p. reads places read body (bind_place b var p)) (places over) h in reads_within body (bind_place b var r.0) y r.2
    reads_within (Any' shape (more_of-FlatExpr body end_of-FlatExpr) var over at) b y h = let r = Has-from_flat_map (λ p. reads places read body (bind_place b var p)) (places over) h in reads_within body (bind_place b var r.0) y r.2
    reads_within (List' shape members at) b y h = members_within members b y h
    reads_within (Each' var over cond at) b y h = let r = Has-from_flat_map (λ p. reads_held places read cond (bind_place b var p)) (places over) h in held_within cond (bind_place b var r.0) y r.2

    each_within : {m : _} (row : Row_of-FlatExpr m) (b : List Place) (y : X) → Has (reads_each places read row b) y → P y
    each_within end_of-FlatExpr b y h = elim h [ ]
    each_within (more_of-FlatExpr e others) b y h = either (reads places read e b) (reads_each places read others b) h (reads_within e b y) (each_within others b y)

    signed_within : {m : _} (row : Row_of-FlatSigned m) (b : List Place) (y : X) → Has (reads_signed places read row b) y → P y
    signed_within end_of-FlatSigned b y h = elim h [ ]
    signed_within (more_of-FlatSigned minus e others) b y h = either (reads places read e b) (reads_signed places read others b) h (reads_within e b y) (signed_within others b y)

    members_within : {m : _} (row : Row_of-FlatMember m) (b : List Place) (y : X) → Has (reads_members places read row b) y → P y
    members_within end_of-FlatMember b y h = elim h [ ]
    members_within (more_of-FlatMember (One e) others) b y h = either (reads places read e b) (reads_members places read others b) h (reads_within e b y) (members_within others b y)
    members_within (more_of-FlatMember (SpanOf span at) others) b y h = members_within others b y h

    held_within : (cond : Held-FlatExpr-Each-2) (b : List Place) (y : X) → Has (reads_held places read cond b) y → P y
    held_within None' b y h = elim h [ ]
    held_within (Some' shape (more_of-FlatExpr cond end_of-FlatExpr)) b y h = reads_within cond b y h

  module _ (every : Simple → List Place) (counts : List Index → List Place → Bool) where
    mutual
      pub part_within : (part : DefBody) (b : List Place) (y : X) → Has (part_reads every counts places read part b) y → P y
      part_within Nothing b y h = elim h [ ]
      part_within (Assign left value place at) b y h = let t = Has-tested (counts (map flat_index left) b) h in
          either (flat_map (λ e. reads places read e b) left) (reads places read value b) t.1 (λ k. let r = Has-from_flat_map (λ e. reads places read e b) left k in reads_within r.0 b y r.2) (reads_within value b y)
      part_within (If' cond l (more_of-DefBody left end_of-DefBody) r (more_of-DefBody right end_of-DefBody)) b y h =
          either ((if has_counting every counts left b || has_counting every counts right b then reads places read cond b else []) ++ part_reads every counts places read left b) (part_reads every counts places read right b) h
          (λ k. either (if has_counting every counts left b || has_counting every counts right b then reads places read cond b else []) (part_reads every counts places read left b) k
          (λ q. reads_within cond b y (Has-tested (has_counting every counts left b || has_counting every counts right b) q).1) (part_within left b y)) (part_within right b y)
      part_within (First' shape parts) b y h = parts_within parts b y h
      part_within (Forall' var over shape (more_of-DefBody body end_of-DefBody)) b y h = let r = Has-from_flat_map (λ p. part_reads every counts places read body (bind_place b var p)) (every over) h in part_within body (bind_place b var r.0) y r.2

      parts_within : {m : _} (row : Row_of-DefBody m) (b : List Place) (y : X) → Has (parts_read every counts places read row b) y → P y
      parts_within end_of-DefBody b y h = elim h [ ]
      parts_within (more_of-DefBody part others) b y h = either (part_reads every counts places read part b) (parts_read every counts places read others b) h (part_within part b y) (parts_within others b y)

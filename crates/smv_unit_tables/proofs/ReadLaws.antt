-- Lists, one behind another; and that what is read does not depend on the places of variables.
use Rattle.std.proofs.Common.{◌≡◌, ℕ, List, [], ◌∷◌, ◌++◌, Bool, true, false, cond, ◌||◌, if◌then◌else◌, refl, ap, ◌∙◌}
use Rattle.std.specs.List.{flat_map}
use Rattle.std.proofs.lemmas.List.{append-nil, append_assoc, map-append}
use Rattle.smv_core.specs.Values.{number}
use Rattle.smv_core.specs.Assignments.{Index}
use Rattle.smv_core.specs.declared.flat.Simple.{Simple}
use Rattle.smv_core.specs.declared.flat.FlatMember.{One, Span as SpanOf}
use Rattle.smv_core.specs.declared.flat.FlatExpr.{FlatExpr, Number, Read', Var, Loop, Constant, Not', And', Or', Implies', Iff', Compare', Within', Sum', Modulo', Choose', All', Any', List', Each', Held-FlatExpr-Each-2, None', Some', Row_of-FlatExpr, end_of-FlatExpr, more_of-FlatExpr, Row_of-FlatMember, end_of-FlatMember, more_of-FlatMember, Row_of-FlatSigned, end_of-FlatSigned, more_of-FlatSigned}
use Rattle.smv_core.specs.declared.flat.DefBody.{DefBody, Nothing, Assign, If', First', Forall', Row_of-DefBody, end_of-DefBody, more_of-DefBody}
use Rattle.law_obligations.specs.Places.{Place, named, bind_place}
use Rattle.law_obligations.specs.Reads.{reads, reads_each, reads_signed, reads_members, reads_held, has_counting, have_counting, part_reads, parts_read}

pub ruleset listing = (append-nil, append_assoc, map-append)

-- each variable takes one place
abbrev pub one : Simple → List Place
one over = named (number 0) ∷ []

-- each assignment counts
abbrev pub all_count : List Index → List Place → Bool
all_count left b = true

both : {X : Type 0} {a b c d : List X} → a ≡ b → c ≡ d → a ++ c ≡ b ++ d
both {X} {a} {b} {c} {d} p q = ap (λ l. l ++ c) p ∙ ap (λ l. b ++ l) q

module _ (f : ℕ → List ℕ) where
  -- what is read is made of families alone
  abbrev pub by_family : ℕ → List Index → List Place → List ℕ
  by_family family indexes b = f family

  mutual
    pub alike : (e : FlatExpr) (b c : List Place) → reads one by_family e b ≡ reads one by_family e c
    alike (Number value at) b c = refl
    alike (Read' family shape indexes at) b c = ap (λ l. f family ++ l) (each_alike indexes b c)
    alike (Var var at) b c = refl
    alike (Loop value at) b c = refl
    alike (Constant list value at) b c = refl
    alike (Not' shape (more_of-FlatExpr e end_of-FlatExpr) at) b c = alike e b c
    alike (And' shape parts) b c = each_alike parts b c
    alike (Or' shape parts) b c = each_alike parts b c
    alike (Implies' shape parts) b c = each_alike parts b c
    alike (Iff' l (more_of-FlatExpr left end_of-FlatExpr) r (more_of-FlatExpr right end_of-FlatExpr)) b c = both (alike left b c) (alike right b c)
    alike (Compare' op l (more_of-FlatExpr left end_of-FlatExpr) r (more_of-FlatExpr right end_of-FlatExpr)) b c = both (alike left b c) (alike right b c)
    alike (Within' l (more_of-FlatExpr left end_of-FlatExpr) r (more_of-FlatExpr set end_of-FlatExpr)) b c = both (alike left b c) (alike set b c)
    alike (Sum' g (more_of-FlatExpr head end_of-FlatExpr) shape more) b c = both (alike head b c) (signed_alike more b c)
    alike (Modulo' shape (more_of-FlatExpr e end_of-FlatExpr) by at) b c = alike e b c
    alike (Choose' k (more_of-FlatExpr cond end_of-FlatExpr) l (more_of-FlatExpr left end_of-FlatExpr) r (more_of-FlatExpr right end_of-FlatExpr)) b c = both (both (alike cond b c) (alike left b c)) (alike right b c)
    alike (All' shape (more_of-FlatExpr body end_of-FlatExpr) var over at) b c = ap (λ l. l ++ []) (alike body (bind_place b var (named (number 0))) (bind_place c var (named (number 0))))
    alike (Any' shape (more_of-FlatExpr body end_of-FlatExpr) var over at) b c = ap (λ l. l ++ []) (alike body (bind_place b var (named (number 0))) (bind_place c var (named (number 0))))
    alike (List' shape members at) b c = members_alike members b c
    alike (Each' var over cond at) b c = ap (λ l. l ++ []) (held_alike cond (bind_place b var (named (number 0))) (bind_place c var (named (number 0))))

    each_alike : {m : _} (row : Row_of-FlatExpr m) (b c : List Place) → reads_each one by_family row b ≡ reads_each one by_family row c
    each_alike end_of-FlatExpr b c = refl
    each_alike (more_of-FlatExpr e others) b c = both (alike e b c) (each_alike others b c)

    signed_alike : {m : _} (row : Row_of-FlatSigned m) (b c : List Place) → reads_signed one by_family row b ≡ reads_signed one by_family row c
    signed_alike end_of-FlatSigned b c = refl
    signed_alike (more_of-FlatSigned minus e others) b c = both (alike e b c) (signed_alike others b c)

    members_alike : {m : _} (row : Row_of-FlatMember m) (b c : List Place) → reads_members one by_family row b ≡ reads_members one by_family row c
    members_alike end_of-FlatMember b c = refl
    members_alike (more_of-FlatMember (One e) others) b c = both (alike e b c) (members_alike others b c)
    members_alike (more_of-FlatMember (SpanOf span at) others) b c = members_alike others b c

    held_alike : (cond : Held-FlatExpr-Each-2) (b c : List Place) → reads_held one by_family cond b ≡ reads_held one by_family cond c
    held_alike None' b c = refl
    held_alike (Some' shape (more_of-FlatExpr cond end_of-FlatExpr)) b c = alike cond b c

mutual
  pub counting_alike : (part : DefBody) (b c : List Place) → has_counting one all_count part b ≡ has_counting one all_count part c
  counting_alike Nothing b c = refl
  counting_alike (Assign left value place at) b c = refl
  counting_alike (If' cond l (more_of-DefBody left end_of-DefBody) r (more_of-DefBody right end_of-DefBody)) b c =
      ap (λ t. t || has_counting one all_count right b) (counting_alike left b c) ∙ ap (λ t. has_counting one all_count left c || t) (counting_alike right b c)
  counting_alike (First' shape parts) b c = countings_alike parts b c
  counting_alike (Forall' var over shape (more_of-DefBody body end_of-DefBody)) b c = ap (λ t. t || false) (counting_alike body (bind_place b var (named (number 0))) (bind_place c var (named (number 0))))

  countings_alike : {m : _} (row : Row_of-DefBody m) (b c : List Place) → have_counting one all_count row b ≡ have_counting one all_count row c
  countings_alike end_of-DefBody b c = refl
  countings_alike (more_of-DefBody part others) b c =
      ap (λ t. t || have_counting one all_count others b) (counting_alike part b c) ∙ ap (λ t. has_counting one all_count part c || t) (countings_alike others b c)

module _ (f : ℕ → List ℕ) where
  indexes_alike : (left : List FlatExpr) (b c : List Place) → flat_map (λ e. reads one (by_family f) e b) left ≡ flat_map (λ e. reads one (by_family f) e c) left
  indexes_alike [] b c = refl
  indexes_alike (e ∷ left) b c = both (alike f e b c) (indexes_alike left b c)

  mutual
    pub part_alike : (part : DefBody) (b c : List Place) → part_reads one all_count one (by_family f) part b ≡ part_reads one all_count one (by_family f) part c
    part_alike Nothing b c = refl
    part_alike (Assign left value place at) b c = both (indexes_alike left b c) (alike f value b c)
    part_alike (If' cond l (more_of-DefBody left end_of-DefBody) r (more_of-DefBody right end_of-DefBody)) b c =
        both (both
        (ap (λ t. if t then reads one (by_family f) cond b else []) (ap (λ t. t || has_counting one all_count right b) (counting_alike left b c) ∙ ap (λ t. has_counting one all_count left c || t) (counting_alike right b c))
        ∙ ap (λ l. if has_counting one all_count left c || has_counting one all_count right c then l else []) (alike f cond b c))
        (part_alike left b c)) (part_alike right b c)
    part_alike (First' shape parts) b c = parts_alike parts b c
    part_alike (Forall' var over shape (more_of-DefBody body end_of-DefBody)) b c = ap (λ l. l ++ []) (part_alike body (bind_place b var (named (number 0))) (bind_place c var (named (number 0))))

    parts_alike : {m : _} (row : Row_of-DefBody m) (b c : List Place) → parts_read one all_count one (by_family f) row b ≡ parts_read one all_count one (by_family f) row c
    parts_alike end_of-DefBody b c = refl
    parts_alike (more_of-DefBody part others) b c = both (part_alike part b c) (parts_alike others b c)

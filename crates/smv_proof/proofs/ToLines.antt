-- What lines spell is read of them.
use Rattle.std.proofs.Common.{◌≡◌, ◌∙◌, ℕ, suc, ◌+◌, ◌-◌, ◌%◌, ◌<◌, ◌≤◌, List, [], ◌∷◌, ◌++◌, length, decimal, codes, slice_get, Some, None, Option, Bool, true, false, ◌&&◌, ◌||◌, not, if◌then◌else◌, nat_eq, nat_le, nat_lt, refl, sym, ap, arith, append_assoc, append-nil, length-append}
use Rattle.std.specs.List.{flat_map, list_all}
use Rattle.law_lists.proofs.Booleans.{and_both, left_of, right_of}
use Rattle.law_lists.proofs.Numbers.{nat_eq-apart, nat_le-is, nat_lt-is}
use Rattle.std.proofs.lemmas.Option.{slice_get_within}
use Rattle.smv_proof.specs.declared.proof.Node.{Node}
use Rattle.smv_proof.specs.declared.proof.KeptSet.{KeptSet}
use Rattle.smv_proof.specs.Documents.{most, last_var, is_above, is_branch, is_name, is_line, are_lines, is_set, line, node_line, set_lines}
use Rattle.smv_proof.specs.Readings.{pieces, node_with, node_of, Begun, begun_with, begun_by, grown, Reading, settled, with_line, followed, sets_from}
use Rattle.smv_proof.proofs.Pieces.{joined_by, some_pieces, pieces_cut, AreParts, line_on, parts_lack, parts_cut, lacks, decimal_lacks, number_back}

suc_not : (n : ℕ) → nat_eq (suc n) 0 ≡ false
suc_not n = nat_eq-apart (suc n) 0 (λ e. absurd (omega (arith, e)))

-- ---- one line

small_branch : (earlier : List Node) (var k : ℕ) → length earlier < most → is_branch earlier var k ≡ true → k ≤ most
small_branch earlier var k few e = by_test (nat_lt k 2) refl e
  where
    by_place : (o : Option Node) → slice_get earlier (k - 2) ≡ o → is_above var o ≡ true → k ≤ most
    by_place None g e = absurd (cc (e))
    by_place (Some node) g e = let lt = slice_get_within earlier (k - 2) node g in omega (arith, lt, few)

    by_test : (t : Bool) → nat_lt k 2 ≡ t → (t || is_above var (slice_get earlier (k - 2))) ≡ true → k ≤ most
    by_test true lt e = let small = nat_lt-is k 2 lt in omega (arith, small)
    by_test false lt e = by_place (slice_get earlier (k - 2)) refl e

-- the numbers of a line
pub record IsSmall (node : Node) : Type 0 where
  pub var : node.var ≤ most
  pub low : node.low ≤ most
  pub high : node.high ≤ most

small_line : (earlier : List Node) (node : Node) → length earlier < most → is_line earlier node ≡ true → IsSmall node
small_line earlier node few e =
    let after_even = right_of (nat_eq (node.var % 2) 0) _ e in
    let var = nat_le-is node.var last_var (left_of (nat_le node.var last_var) _ after_even) in
    let after_differ = right_of (not (nat_eq node.low node.high)) _ (right_of (nat_le node.var last_var) _ after_even) in
    record {
      var = omega (arith, var);
      low = small_branch earlier node.var node.low few (left_of (is_branch earlier node.var node.low) _ after_differ);
      high = small_branch earlier node.var node.high few (left_of (is_branch earlier node.var node.high) _ (right_of (is_branch earlier node.var node.low) _ after_differ));
    }

abbrev node_parts : Node → List (List ℕ)
node_parts node = decimal node.var ∷ decimal node.low ∷ decimal node.high ∷ []

node_back : (earlier : List Node) (node : Node) → is_line earlier node ≡ true → IsSmall node → node_of earlier (node_parts node) ≡ Some node
node_back earlier node e small =
    (λ i. node_with earlier (number_back node.var small.var i) (number_back node.low small.low i) (number_back node.high small.high i)) ∙ chosen (is_line earlier node) e
  where
    chosen : (t : Bool) → t ≡ true → (if t then Some node else None) ≡ Some node
    chosen true e = refl
    chosen false e = absurd (cc (e))

number_parts : (n : ℕ) → n ≤ most → (lacks 32 (decimal n) ≡ true) × (lacks 10 (decimal n) ≡ true)
number_parts n le = (decimal_lacks 32 n (omega arith) le, decimal_lacks 10 n (omega arith) le)

node_are : (node : Node) → IsSmall node → AreParts (node_parts node)
node_are node small =
    let v = number_parts node.var small.var in
    let l = number_parts node.low small.low in
    let h = number_parts node.high small.high in
    (v.0, v.1, (l.0, l.1, (h.0, h.1, tt)))

-- ---- line by line

sets_cons : (r : Reading) (l : List ℕ) (ls : List (List ℕ)) → (p : List ℕ) × (more : List (List ℕ)) × (ls ≡ p ∷ more) → sets_from r (l ∷ ls) ≡ followed (with_line r.sets r.begun (pieces 32 l)) (λ next. sets_from next ls)
sets_cons r l [] some = let bad : ⊥ = cc (some.2) in absurd bad
sets_cons r l (p ∷ more) some = refl

line_step : (r : Reading) (part : List ℕ) (parts : List (List ℕ)) → AreParts (part ∷ parts) → (rest : List ℕ) →
    sets_from r (pieces 10 (line (part ∷ parts) ++ rest)) ≡ followed (with_line r.sets r.begun (part ∷ parts)) (λ next. sets_from next (pieces 10 rest))
line_step r part parts are rest =
    ap (λ (bytes : List ℕ). sets_from r (pieces 10 bytes)) (line_on (part ∷ parts) rest)
    ∙ (ap (sets_from r) (pieces_cut 10 (joined_by 32 (part ∷ parts)) rest (parts_lack (part ∷ parts) are))
    ∙ (sets_cons r (joined_by 32 (part ∷ parts)) (pieces 10 rest) (some_pieces 10 rest)
    ∙ ap (λ (ps : List (List ℕ)). followed (with_line r.sets r.begun ps) (λ next. sets_from next (pieces 10 rest))) (parts_cut part parts are)))

abbrev with_lines : KeptSet → List Node → KeptSet
with_lines set nodes = record { unit = set.unit; number = set.number; root = set.root; nodes = nodes }

abbrev begun_at : KeptSet → List Node → ℕ → Begun
begun_at set nodes due = record { set = with_lines set nodes; due = due }

abbrev reading : List KeptSet → Option Begun → Reading
reading sets begun = record { sets = sets; begun = begun }

nodes_back : (done : List KeptSet) (set : KeptSet) (later earlier : List Node) (rest : List ℕ) → are_lines earlier later ≡ true → length earlier + length later ≤ most →
    followed (settled done (Some (begun_at set earlier (length later)))) (λ next. sets_from next (pieces 10 (flat_map node_line later ++ rest)))
    ≡ sets_from (reading (done ++ with_lines set (earlier ++ later) ∷ []) None) (pieces 10 rest)
nodes_back done set [] earlier rest e few = ap (λ (nodes : List Node). sets_from (reading (done ++ with_lines set nodes ∷ []) None) (pieces 10 rest)) (sym (append-nil earlier))
nodes_back done set (node ∷ later) earlier rest e few =
    let is = left_of (is_line earlier node) _ e in
    let small = small_line earlier node (omega (arith, few)) is in
    let open_one = begun_at set earlier (suc (length later)) in
    let longer : length (earlier ++ node ∷ []) ≡ length earlier + 1 = length-append earlier (node ∷ []) in
    let next = nodes_back done set later (earlier ++ node ∷ []) rest (right_of (is_line earlier node) _ e) (omega (arith, longer, few)) in
    let due : suc (length later) - 1 ≡ length later = omega arith in
    ap (λ (t : Bool). followed (if t then Some (reading (done ++ open_one.set ∷ []) None) else Some (reading done (Some open_one))) (λ next. sets_from next (pieces 10 (flat_map node_line (node ∷ later) ++ rest)))) (suc_not (length later))
    ∙ (ap (λ (bytes : List ℕ). sets_from (reading done (Some open_one)) (pieces 10 bytes)) (append_assoc (node_line node) (flat_map node_line later) rest)
    ∙ (line_step (reading done (Some open_one)) (decimal node.var) (decimal node.low ∷ decimal node.high ∷ []) (node_are node small) (flat_map node_line later ++ rest)
    ∙ (ap (λ (o : Option Node). followed (settled done (grown open_one o)) (λ next. sets_from next (pieces 10 (flat_map node_line later ++ rest)))) (node_back earlier node is small)
    ∙ (ap (λ (n : ℕ). followed (settled done (Some (begun_at set (earlier ++ node ∷ []) n))) (λ next. sets_from next (pieces 10 (flat_map node_line later ++ rest)))) due
    ∙ (next ∙ ap (λ (nodes : List Node). sets_from (reading (done ++ with_lines set nodes ∷ []) None) (pieces 10 rest)) (append_assoc earlier (node ∷ []) later))))))

-- ---- a set

abbrev set_parts : KeptSet → List (List ℕ)
set_parts set = codes "set" ∷ set.unit ∷ decimal set.number ∷ decimal set.root ∷ decimal (length set.nodes) ∷ []

name_lacks : (at : ℕ) → at < 33 → (name : List ℕ) → list_all (λ b. nat_le 33 b && nat_le b 126) name ≡ true → lacks at name ≡ true
name_lacks at small [] e = refl
name_lacks at small (b ∷ name) e =
    let le = nat_le-is 33 b (left_of (nat_le 33 b) _ (left_of (nat_le 33 b && nat_le b 126) _ e)) in
    and_both (other b le) (name_lacks at small name (right_of (nat_le 33 b && nat_le b 126) _ e))
  where
    other : (b : ℕ) → 33 ≤ b → not (nat_eq b at) ≡ true
    other b le =
        let ne : nat_eq b at ≡ false = grind (arith, le, small) in
        rw ne refl

-- what the rules say of a set
pub record IsSetOf (set : KeptSet) : Type 0 where
  pub name : is_name set.unit ≡ true
  pub number : set.number ≤ most
  pub root : set.root ≤ most
  pub count : length set.nodes ≤ most
  pub below : nat_lt set.root (length set.nodes + 2) ≡ true
  pub lines : are_lines [] set.nodes ≡ true

rules_of : (set : KeptSet) → is_set set ≡ true → IsSetOf set
rules_of set e =
    let a = right_of (is_name set.unit) _ e in
    let b = right_of (nat_le set.number most) _ a in
    let c = right_of (nat_le set.root most) _ b in
    let d = right_of (nat_le (length set.nodes) most) _ c in
    record {
      name = left_of (is_name set.unit) _ e;
      number = nat_le-is set.number most (left_of (nat_le set.number most) _ a);
      root = nat_le-is set.root most (left_of (nat_le set.root most) _ b);
      count = nat_le-is (length set.nodes) most (left_of (nat_le (length set.nodes) most) _ c);
      below = left_of (nat_lt set.root (length set.nodes + 2)) _ d;
      lines = right_of (nat_lt set.root (length set.nodes + 2)) _ d;
    }

set_are : (set : KeptSet) → IsSetOf set → AreParts (set_parts set)
set_are set is =
    let bytes = right_of (not (nat_eq (length set.unit) 0)) _ is.name in
    let n = number_parts set.number is.number in
    let r = number_parts set.root is.root in
    let k = number_parts (length set.nodes) is.count in
    (refl, refl, (name_lacks 32 (omega arith) set.unit bytes, name_lacks 10 (omega arith) set.unit bytes, (n.0, n.1, (r.0, r.1, (k.0, k.1, tt)))))

first_back : (set : KeptSet) → IsSetOf set → begun_by (set_parts set) ≡ Some (begun_at set [] (length set.nodes))
first_back set is =
    (λ i. begun_with set.unit (number_back set.number is.number i) (number_back set.root is.root i) (number_back (length set.nodes) is.count i))
    ∙ chosen (is_name set.unit && nat_lt set.root (length set.nodes + 2)) (and_both is.name is.below)
  where
    chosen : (t : Bool) → t ≡ true → (if t then Some (begun_at set [] (length set.nodes)) else None) ≡ Some (begun_at set [] (length set.nodes))
    chosen true e = refl
    chosen false e = absurd (cc (e))

pub sets_back : (sets done : List KeptSet) → list_all is_set sets ≡ true → sets_from (reading done None) (pieces 10 (flat_map set_lines sets)) ≡ Some (done ++ sets)
sets_back [] done e = ap Some (sym (append-nil done))
sets_back (set ∷ sets) done e =
    let is = rules_of set (left_of (is_set set) _ e) in
    let rest = flat_map set_lines sets in
    ap (λ (bytes : List ℕ). sets_from (reading done None) (pieces 10 bytes)) (append_assoc (line (set_parts set)) (flat_map node_line set.nodes) rest)
    ∙ (line_step (reading done None) (codes "set") (set.unit ∷ decimal set.number ∷ decimal set.root ∷ decimal (length set.nodes) ∷ []) (set_are set is) (flat_map node_line set.nodes ++ rest)
    ∙ (ap (λ (o : Option Begun). followed (settled done o) (λ next. sets_from next (pieces 10 (flat_map node_line set.nodes ++ rest)))) (first_back set is)
    ∙ (nodes_back done set set.nodes [] rest is.lines (let few = is.count in omega (arith, few))
    ∙ (sets_back sets (done ++ set ∷ []) (right_of (is_set set) _ e) ∙ ap Some (append_assoc done (set ∷ []) sets)))))

-- What is read of lines is what they spell.
use Rattle.std.proofs.Common.{◌≡◌, ◌∙◌, ℕ, zero, suc, ◌+◌, ◌-◌, List, [], ◌∷◌, ◌++◌, length, decimal, codes, Some, None, Option, Bool, true, false, ◌&&◌, if◌then◌else◌, nat_eq, nat_le, nat_lt, refl, sym, ap, subst, arith, append_assoc, append-nil, bytes_eq, length-append}
use Rattle.std.specs.List.{flat_map, list_all}
use Rattle.std.proofs.lemmas.Slice.Eq.{bytes_eq-Decides}
use Rattle.law_lists.proofs.Booleans.{and_both, left_of, right_of}
use Rattle.law_lists.proofs.Numbers.{nat_eq-is, nat_le-true}
use Rattle.law_lists.proofs.Options.{some_is}
use Rattle.smv_proof.specs.declared.proof.Node.{Node}
use Rattle.smv_proof.specs.declared.proof.KeptSet.{KeptSet}
use Rattle.smv_proof.specs.Documents.{most, is_name, is_line, are_lines, is_set, line, node_line, set_lines}
use Rattle.smv_proof.specs.Readings.{pieces, number_of, node_with, node_of, Begun, begun_with, begun_by, with_node, grown, Reading, settled, with_line, at_end, followed, sets_from}
use Rattle.smv_proof.proofs.Lists.{none_some}
use Rattle.smv_proof.proofs.Lines.{lines_more}
use Rattle.smv_proof.proofs.Pieces.{joined_by, pieces_back, line_is, number_is}

-- ---- one line

-- what was read: these parts, which spell the line, behind these lines
pub record IsNode (earlier : List Node) (parts : List (List ℕ)) (node : Node) : Type 0 where
  pub stands : is_line earlier node ≡ true
  pub spells : joined_by 32 parts ++ 10 ∷ [] ≡ node_line node

read_node : (earlier : List Node) (parts : List (List ℕ)) (node : Node) → node_of earlier parts ≡ Some node → IsNode earlier parts node
read_node earlier (var ∷ low ∷ high ∷ []) node e = by_numbers (number_of var) (number_of low) (number_of high) refl refl refl e
  where
    by_test : (v l h : ℕ) (t : Bool) → number_of var ≡ Some v → number_of low ≡ Some l → number_of high ≡ Some h → is_line earlier (record { var = v; low = l; high = h }) ≡ t →
        (if t then Some (record { var = v; low = l; high = h }) else None) ≡ Some node → IsNode earlier (var ∷ low ∷ high ∷ []) node
    by_test v l h true ev el eh is e =
        let same : record { var = v; low = l; high = h } ≡ node = some_is e in
        let nv = (number_is var v ev).0 in
        let nl = (number_is low l el).0 in
        let nh = (number_is high h eh).0 in
        subst (IsNode earlier (var ∷ low ∷ high ∷ [])) same (record {
          stands = is;
          spells = sym (line_is (var ∷ low ∷ high ∷ [])) ∙ λ i. line (nv i ∷ nl i ∷ nh i ∷ []);
        })
    by_test v l h false ev el eh is e = none_some e

    by_numbers : (v l h : Option ℕ) → number_of var ≡ v → number_of low ≡ l → number_of high ≡ h → node_with earlier v l h ≡ Some node → IsNode earlier (var ∷ low ∷ high ∷ []) node
    by_numbers (Some v) (Some l) (Some h) ev el eh e = by_test v l h (is_line earlier (record { var = v; low = l; high = h })) ev el eh refl e
    by_numbers (Some v) (Some l) None ev el eh e = none_some e
    by_numbers (Some v) None h ev el eh e = none_some e
    by_numbers None l h ev el eh e = none_some e
read_node earlier [] node e = none_some e
read_node earlier (a ∷ []) node e = none_some e
read_node earlier (a ∷ b ∷ []) node e = none_some e
read_node earlier (a ∷ b ∷ c ∷ d ∷ parts) node e = none_some e

-- ---- a set whose lines are read

pub record IsBegun (b : Begun) : Type 0 where
  pub name : is_name b.set.unit ≡ true
  pub number : nat_le b.set.number most ≡ true
  pub root : nat_le b.set.root most ≡ true
  pub count : nat_le (length b.set.nodes + b.due) most ≡ true
  pub below : nat_lt b.set.root (length b.set.nodes + b.due + 2) ≡ true
  pub lines : are_lines [] b.set.nodes ≡ true

abbrev pub first_line : KeptSet → ℕ → List ℕ
first_line set count = line (codes "set" ∷ set.unit ∷ decimal set.number ∷ decimal set.root ∷ decimal count ∷ [])

abbrev pub begun_text : Begun → List ℕ
begun_text b = first_line b.set (length b.set.nodes + b.due) ++ flat_map node_line b.set.nodes

pub record Begins (parts : List (List ℕ)) (b : Begun) : Type 0 where
  pub is_begun : IsBegun b
  pub spells : joined_by 32 parts ++ 10 ∷ [] ≡ begun_text b

read_first : (parts : List (List ℕ)) (b : Begun) → begun_by parts ≡ Some b → Begins parts b
read_first (word ∷ unit ∷ number ∷ root ∷ count ∷ []) b e = by_word (bytes_eq word (codes "set")) refl e
  where
    by_test : (n r k : ℕ) (t : Bool) → bytes_eq word (codes "set") ≡ true → number_of number ≡ Some n → number_of root ≡ Some r → number_of count ≡ Some k → (is_name unit && nat_lt r (k + 2)) ≡ t →
        (if t then Some (record { set = record { unit = unit; number = n; root = r; nodes = [] }; due = k }) else None) ≡ Some b → Begins (word ∷ unit ∷ number ∷ root ∷ count ∷ []) b
    by_test n r k true ew en er ek is e =
        let same : record { set = record { unit = unit; number = n; root = r; nodes = [] }; due = k } ≡ b = some_is e in
        let is_word : word ≡ codes "set" = (bytes_eq-Decides word (codes "set")).0 ew in
        let nn = number_is number n en in
        let nr = number_is root r er in
        let nk = number_is count k ek in
        let none : 0 + k ≡ k = omega arith in
        subst (Begins (word ∷ unit ∷ number ∷ root ∷ count ∷ [])) same (record {
          is_begun = record {
            name = left_of (is_name unit) _ is;
            number = nat_le-true n most nn.1;
            root = nat_le-true r most nr.1;
            count = nat_le-true (0 + k) most (omega (arith, nk));
            below = subst (λ (m : ℕ). nat_lt r (m + 2) ≡ true) (sym none) (right_of (is_name unit) _ is);
            lines = refl;
          };
          spells =
              sym (line_is (word ∷ unit ∷ number ∷ root ∷ count ∷ []))
              ∙ ((λ i. line (is_word i ∷ unit ∷ nn.0 i ∷ nr.0 i ∷ (nk.0 ∙ ap decimal (sym none)) i ∷ []))
              ∙ sym (append-nil (line (codes "set" ∷ unit ∷ decimal n ∷ decimal r ∷ decimal (0 + k) ∷ []))));
        })
    by_test n r k false ew en er ek is e = none_some e

    by_numbers : (n r k : Option ℕ) → bytes_eq word (codes "set") ≡ true → number_of number ≡ n → number_of root ≡ r → number_of count ≡ k → begun_with unit n r k ≡ Some b → Begins (word ∷ unit ∷ number ∷ root ∷ count ∷ []) b
    by_numbers (Some n) (Some r) (Some k) ew en er ek e = by_test n r k (is_name unit && nat_lt r (k + 2)) ew en er ek refl e
    by_numbers (Some n) (Some r) None ew en er ek e = none_some e
    by_numbers (Some n) None k ew en er ek e = none_some e
    by_numbers None r k ew en er ek e = none_some e

    by_word : (t : Bool) → bytes_eq word (codes "set") ≡ t → (if t then begun_with unit (number_of number) (number_of root) (number_of count) else None) ≡ Some b → Begins (word ∷ unit ∷ number ∷ root ∷ count ∷ []) b
    by_word true ew e = by_numbers (number_of number) (number_of root) (number_of count) ew refl refl refl e
    by_word false ew e = none_some e
read_first [] b e = none_some e
read_first (a ∷ []) b e = none_some e
read_first (a ∷ c ∷ []) b e = none_some e
read_first (a ∷ c ∷ d ∷ []) b e = none_some e
read_first (a ∷ c ∷ d ∷ f ∷ []) b e = none_some e
read_first (a ∷ c ∷ d ∷ f ∷ g ∷ h ∷ parts) b e = none_some e

flat_more : (nodes : List Node) (node : Node) → flat_map node_line (nodes ++ node ∷ []) ≡ flat_map node_line nodes ++ node_line node
flat_more [] node = append-nil (node_line node)
flat_more (x ∷ nodes) node = ap (λ (xs : List ℕ). node_line x ++ xs) (flat_more nodes node) ∙ sym (append_assoc (node_line x) (flat_map node_line nodes) (node_line node))

-- with one more line, where one is due
with_one : (b : Begun) (node : Node) (parts : List (List ℕ)) → IsBegun b → (n : ℕ) → b.due ≡ suc n → IsNode b.set.nodes parts node →
    IsBegun (record { set = with_node b.set node; due = b.due - 1 }) × (begun_text (record { set = with_node b.set node; due = b.due - 1 }) ≡ begun_text b ++ (joined_by 32 parts ++ 10 ∷ []))
with_one b node parts is n due read =
    let longer : length (b.set.nodes ++ node ∷ []) ≡ length b.set.nodes + 1 = length-append b.set.nodes (node ∷ []) in
    let same : length (b.set.nodes ++ node ∷ []) + (b.due - 1) ≡ length b.set.nodes + b.due = omega (arith, longer, due) in (
      record {
        name = is.name;
        number = is.number;
        root = is.root;
        count = subst (λ (k : ℕ). nat_le k most ≡ true) (sym same) is.count;
        below = subst (λ (k : ℕ). nat_lt b.set.root (k + 2) ≡ true) (sym same) is.below;
        lines = lines_more [] b.set.nodes node is.lines read.stands;
      },
      (λ i. first_line b.set (same i) ++ flat_more b.set.nodes node i)
          ∙ (sym (append_assoc (first_line b.set (length b.set.nodes + b.due)) (flat_map node_line b.set.nodes) (node_line node))
          ∙ ap (λ (xs : List ℕ). begun_text b ++ xs) (sym read.spells)),
    )

-- ---- what was read so far

abbrev pub open_text : Option Begun → List ℕ
open_text None = []
open_text (Some b) = begun_text b

-- a set that is open has a line due
abbrev pub IsOpen : Option Begun → Type 0
IsOpen None = Unit {0}
IsOpen (Some b) = IsBegun b × ((n : ℕ) × (b.due ≡ suc n))

abbrev pub so_far : List KeptSet → Option Begun → List ℕ
so_far sets begun = flat_map set_lines sets ++ open_text begun

pub record IsReading (r : Reading) (text : List ℕ) : Type 0 where
  pub sets : list_all is_set r.sets ≡ true
  pub is_open : IsOpen r.begun
  pub text_is : so_far r.sets r.begun ≡ text

all_more : (sets : List KeptSet) (set : KeptSet) → list_all is_set sets ≡ true → is_set set ≡ true → list_all is_set (sets ++ set ∷ []) ≡ true
all_more [] set e f = and_both f refl
all_more (x ∷ sets) set e f = and_both (left_of (is_set x) _ e) (all_more sets set (right_of (is_set x) _ e) f)

sets_more : (sets : List KeptSet) (set : KeptSet) → flat_map set_lines (sets ++ set ∷ []) ≡ flat_map set_lines sets ++ set_lines set
sets_more [] set = append-nil (set_lines set)
sets_more (x ∷ sets) set = ap (λ (xs : List ℕ). set_lines x ++ xs) (sets_more sets set) ∙ sym (append_assoc (set_lines x) (flat_map set_lines sets) (set_lines set))

-- a set of which no line is due is one
whole_set : (b : Begun) → IsBegun b → b.due ≡ 0 → (is_set b.set ≡ true) × (set_lines b.set ≡ begun_text b)
whole_set b is none =
    let same : length b.set.nodes + b.due ≡ length b.set.nodes = omega (arith, none) in (
      and_both is.name (and_both is.number (and_both is.root
          (and_both (subst (λ (k : ℕ). nat_le k most ≡ true) same is.count) (and_both (subst (λ (k : ℕ). nat_lt b.set.root (k + 2) ≡ true) same is.below) is.lines)))),
      λ i. first_line b.set (sym same i) ++ flat_map node_line b.set.nodes,
    )

read_settled : (sets : List KeptSet) (b : Begun) (r : Reading) → list_all is_set sets ≡ true → IsBegun b → settled sets (Some b) ≡ Some r → IsReading r (flat_map set_lines sets ++ begun_text b)
read_settled sets b r all is e = by_due (nat_eq b.due 0) refl e
  where
    positive : (n : ℕ) → nat_eq n 0 ≡ false → (m : ℕ) × (n ≡ suc m)
    positive zero e = absurd (cc (e))
    positive (suc m) e = (m, refl)

    by_due : (t : Bool) → nat_eq b.due 0 ≡ t → (if t then Some (record { sets = sets ++ b.set ∷ []; begun = None }) else Some (record { sets = sets; begun = Some b })) ≡ Some r → IsReading r (flat_map set_lines sets ++ begun_text b)
    by_due true none e =
        let same : record { sets = sets ++ b.set ∷ []; begun = None } ≡ r = some_is e in
        let whole = whole_set b is (nat_eq-is b.due 0 none) in
        subst (λ (q : Reading). IsReading q (flat_map set_lines sets ++ begun_text b)) same (record {
          sets = all_more sets b.set all whole.0;
          is_open = tt;
          text_is = append-nil (flat_map set_lines (sets ++ b.set ∷ [])) ∙ (sets_more sets b.set ∙ ap (λ (xs : List ℕ). flat_map set_lines sets ++ xs) whole.1);
        })
    by_due false some e =
        let same : record { sets = sets; begun = Some b } ≡ r = some_is e in
        subst (λ (q : Reading). IsReading q (flat_map set_lines sets ++ begun_text b)) same (record { sets = all; is_open = (is, positive b.due some); text_is = refl })

-- with one more line
read_line : (sets : List KeptSet) (begun : Option Begun) (parts : List (List ℕ)) (r : Reading) → list_all is_set sets ≡ true → IsOpen begun → with_line sets begun parts ≡ Some r →
    IsReading r (so_far sets begun ++ (joined_by 32 parts ++ 10 ∷ []))
read_line sets None parts r all is e = by_first (begun_by parts) refl e
  where
    by_first : (o : Option Begun) → begun_by parts ≡ o → settled sets o ≡ Some r → IsReading r (so_far sets None ++ (joined_by 32 parts ++ 10 ∷ []))
    by_first None f e = none_some e
    by_first (Some b) f e =
        let first = read_first parts b f in
        subst (IsReading r) (ap (λ (xs : List ℕ). flat_map set_lines sets ++ xs) (sym first.spells) ∙ ap (λ (xs : List ℕ). xs ++ (joined_by 32 parts ++ 10 ∷ [])) (sym (append-nil (flat_map set_lines sets))))
        (read_settled sets b r all first.is_begun e)
read_line sets (Some b) parts r all is e = by_node (node_of b.set.nodes parts) refl e
  where
    by_node : (o : Option Node) → node_of b.set.nodes parts ≡ o → settled sets (grown b o) ≡ Some r → IsReading r (so_far sets (Some b) ++ (joined_by 32 parts ++ 10 ∷ []))
    by_node None f e = none_some e
    by_node (Some node) f e =
        let one = with_one b node parts is.0 is.1.0 is.1.1 (read_node b.set.nodes parts node f) in
        subst (IsReading r) (ap (λ (xs : List ℕ). flat_map set_lines sets ++ xs) one.1 ∙ sym (append_assoc (flat_map set_lines sets) (begun_text b) (joined_by 32 parts ++ 10 ∷ [])))
        (read_settled sets (record { set = with_node b.set node; due = b.due - 1 }) r all one.0 e)

pub read_sets : (lines : List (List ℕ)) (r : Reading) (text : List ℕ) (sets : List KeptSet) → IsReading r text → sets_from r lines ≡ Some sets → (list_all is_set sets ≡ true) × (flat_map set_lines sets ≡ text ++ joined_by 10 lines)
read_sets [] r text sets is e = none_some e
read_sets (rest ∷ []) r text sets is e = at r.begun rest refl e
  where
    at : (o : Option Begun) (bytes : List ℕ) → r.begun ≡ o → at_end r.sets o bytes ≡ Some sets → (list_all is_set sets ≡ true) × (flat_map set_lines sets ≡ text ++ bytes)
    at None [] none e =
        let same : r.sets ≡ sets = some_is e in
        let text_is : flat_map set_lines r.sets ++ [] ≡ text = subst (λ (o : Option Begun). so_far r.sets o ≡ text) none is.text_is in
        subst (λ (xs : List KeptSet). (list_all is_set xs ≡ true) × (flat_map set_lines xs ≡ text ++ [])) same
        (is.sets, sym (append-nil (flat_map set_lines r.sets)) ∙ (text_is ∙ sym (append-nil text)))
    at None (b ∷ bytes) none e = none_some e
    at (Some b) bytes some e = none_some e
read_sets (l ∷ other ∷ more) r text sets is e = by_line (with_line r.sets r.begun (pieces 32 l)) refl e (λ next is_next f. read_sets (other ∷ more) next (text ++ (l ++ 10 ∷ [])) sets is_next f)
  where
    by_line : (o : Option Reading) → with_line r.sets r.begun (pieces 32 l) ≡ o → followed o (λ next. sets_from next (other ∷ more)) ≡ Some sets →
        ((next : Reading) → IsReading next (text ++ (l ++ 10 ∷ [])) → sets_from next (other ∷ more) ≡ Some sets → (list_all is_set sets ≡ true) × (flat_map set_lines sets ≡ (text ++ (l ++ 10 ∷ [])) ++ joined_by 10 (other ∷ more))) →
        (list_all is_set sets ≡ true) × (flat_map set_lines sets ≡ text ++ (l ++ 10 ∷ joined_by 10 (other ∷ more)))
    by_line None f e goes = none_some e
    by_line (Some next) f e goes =
        let read = read_line r.sets r.begun (pieces 32 l) next is.sets is.is_open f in
        let moved : so_far r.sets r.begun ++ (joined_by 32 (pieces 32 l) ++ 10 ∷ []) ≡ text ++ (l ++ 10 ∷ []) = λ i. is.text_is i ++ (pieces_back 32 l i ++ 10 ∷ []) in
        let result = goes next (subst (IsReading next) moved read) e in
        (result.0, result.1 ∙ (append_assoc text (l ++ 10 ∷ []) (joined_by 10 (other ∷ more)) ∙ ap (λ (xs : List ℕ). text ++ xs) (append_assoc l (10 ∷ []) (joined_by 10 (other ∷ more)))))

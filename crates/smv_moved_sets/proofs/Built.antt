-- The functions of the numbers of a set, line by line, where each bit is a function.
use Rattle.std.proofs.Common.{◌≡◌, ◌∙◌, ℕ, zero, suc, ◌+◌, ◌-◌, ◌*◌, ◌/◌, ◌%◌, ◌<◌, ◌≤◌, List, [], ◌∷◌, ◌++◌, length, take, slice_get, slice_index_or, Option, Some, None, Bool, true, false, ◌&&◌, ◌||◌, not, if◌then◌else◌, nat_eq, nat_lt, nat_le, refl, sym, ap, subst, arith, length-append, append-nil}
use Rattle.std.specs.List.{list_all}
use Rattle.std.proofs.lemmas.List.{get_or_append_left, get_or_push}
use Rattle.law_lists.proofs.Booleans.{left_of, right_of}
use Rattle.law_lists.proofs.Lists.{append_again}
use Rattle.law_lists.proofs.Numbers.{nat_lt-is, nat_lt-not}
use Rattle.law_lists.proofs.Options.{some_is}
use Rattle.law_lists.proofs.Places.{take_past}
use Rattle.std.proofs.lemmas.Option.{slice_get_within}
use Rattle.bdd_store.specs.declared.Ref.{Ref}
use Rattle.bdd_store.specs.Diagram.{Diagram, IsLive, IsConstant, Keeps, table, ref_at}
use Rattle.smv_proof.specs.declared.proof.Node.{Node}
use Rattle.smv_proof.specs.declared.proof.KeptSet.{KeptSet}
use Rattle.smv_proof.specs.Documents.{is_above, is_branch, is_line, are_lines, is_name, most, last_var, is_set}
use Rattle.smv_proof.specs.Meanings.{value_of, values_behind, values, meaning, is_below}
use Rattle.smv_moved_sets.specs.Seen.{seen_by}

-- the Refs of the constants and of these lines
pub record AreBuilt (old d : Diagram) (bits : List Ref) (nodes : List Node) (refs : List Ref) : Type 0 where
  pub count : length refs ≡ length nodes + 2
  pub keeps : Keeps old d
  pub live : (k : ℕ) → k < length nodes + 2 → IsLive d (ref_at refs k)
  pub tables : (k : ℕ) → k < length nodes + 2 → (a : ℕ → Bool) → table d (ref_at refs k) a ≡ slice_index_or (values (seen_by old bits a) nodes) k false

behind_one : (a : ℕ → Bool) (known : List Bool) (nodes : List Node) (node : Node) → values_behind a known (nodes ++ node ∷ []) ≡ values_behind a known nodes ++ value_of a (values_behind a known nodes) node ∷ []
behind_one a known [] node = refl
behind_one a known (x ∷ nodes) node = behind_one a (known ++ value_of a known x ∷ []) nodes node

length_behind : (a : ℕ → Bool) (known : List Bool) (nodes : List Node) → length (values_behind a known nodes) ≡ length nodes + length known
length_behind a known [] = omega arith
length_behind a known (x ∷ nodes) =
    let e = length_behind a (known ++ value_of a known x ∷ []) nodes in
    let f : length (known ++ value_of a known x ∷ []) ≡ length known + 1 = length-append known (value_of a known x ∷ []) in
    omega (arith, e, f)

-- a branch of a line is the number of something that is there
branch_there : (nodes : List Node) (var k : ℕ) → is_branch nodes var k ≡ true → k < length nodes + 2
branch_there nodes var k e = by_test (nat_lt k 2) refl e
  where
    by_place : (o : Option Node) → slice_get nodes (k - 2) ≡ o → 2 ≤ k → is_above var o ≡ true → k < length nodes + 2
    by_place None g two e = absurd (cc (e))
    by_place (Some node) g two e = let in_nodes = slice_get_within nodes (k - 2) node g in omega (arith, in_nodes, two)

    by_test : (t : Bool) → nat_lt k 2 ≡ t → (t || is_above var (slice_get nodes (k - 2))) ≡ true → k < length nodes + 2
    by_test true small e = let two = nat_lt-is k 2 small in omega (arith, two)
    by_test false large e = by_place (slice_get nodes (k - 2)) refl (nat_lt-not k 2 large) e

-- ---- at first

pub none_yet : (d : Diagram) (bits : List Ref) (no_bit one : Ref) → Keeps d d → IsLive d no_bit → IsLive d one → IsConstant d no_bit false → IsConstant d one true → AreBuilt d d bits [] (no_bit ∷ one ∷ [])
none_yet d bits no_bit one keeps live_zero live_one is_zero is_one = record {
  count = refl;
  keeps = keeps;
  live = at_two (λ (k : ℕ). IsLive d (ref_at (no_bit ∷ one ∷ []) k)) live_zero live_one;
  tables = at_two (λ (k : ℕ). (a : ℕ → Bool) → table d (ref_at (no_bit ∷ one ∷ []) k) a ≡ slice_index_or (false ∷ true ∷ []) k false) is_zero is_one;
}
  where
    at_two : (P : ℕ → Type 0) → P 0 → P 1 → (k : ℕ) → k < 2 → P k
    at_two P p q zero lt = p
    at_two P p q (suc zero) lt = q
    at_two P p q (suc (suc k)) lt = absurd (omega (arith, lt))

-- ---- one line more

-- a new function, of a line
pub record IsMade (old d e : Diagram) (bits : List Ref) (nodes : List Node) (refs : List Ref) (node : Node) (made : Ref) : Type 0 where
  pub keeps : Keeps d e
  pub live : IsLive e made
  pub low : node.low < length nodes + 2
  pub high : node.high < length nodes + 2
  pub table_is : (a : ℕ → Bool) → table e made a ≡ (if seen_by old bits a node.var then table d (ref_at refs node.high) a else table d (ref_at refs node.low) a)

module _ (old d e : Diagram) (bits : List Ref) (nodes : List Node) (refs : List Ref) (node : Node) (made : Ref) (are : AreBuilt old d bits nodes refs) (m : IsMade old d e bits nodes refs node made) where
  longer : length (nodes ++ node ∷ []) ≡ length nodes + 1
  longer = length-append nodes (node ∷ [])

  old_ref : (k : ℕ) → k < length nodes + 2 → ref_at (refs ++ made ∷ []) k ≡ ref_at refs k
  old_ref k lt = let count = are.count in get_or_append_left refs (made ∷ []) (record { place = 0 }) k (omega (arith, lt, count))

  new_ref : ref_at (refs ++ made ∷ []) (length nodes + 2) ≡ made
  new_ref = get_or_push refs made (record { place = 0 }) (length nodes + 2) are.count

  each : (P : ℕ → Type 0) → ((k : ℕ) → k < length nodes + 2 → P k) → P (length nodes + 2) → (k : ℕ) → k < length (nodes ++ node ∷ []) + 2 → P k
  each P before here k lt = by_test (nat_lt k (length nodes + 2)) refl
    where
      by_test : (t : Bool) → nat_lt k (length nodes + 2) ≡ t → P k
      by_test true less = before k (nat_lt-is k (length nodes + 2) less)
      by_test false not_less =
          let le = nat_lt-not k (length nodes + 2) not_less in
          let l = longer in
          let same : length nodes + 2 ≡ k = omega (arith, le, lt, l) in
          subst P same here

  old_value : (a : ℕ → Bool) (k : ℕ) → k < length nodes + 2 → slice_index_or (values a (nodes ++ node ∷ [])) k false ≡ slice_index_or (values a nodes) k false
  old_value a k lt =
      ap (λ (bs : List Bool). slice_index_or bs k false) (behind_one a (false ∷ true ∷ []) nodes node)
      ∙ get_or_append_left (values a nodes) (value_of a (values a nodes) node ∷ []) false k (let l = length_behind a (false ∷ true ∷ []) nodes in omega (arith, lt, l))

  new_value : (a : ℕ → Bool) → slice_index_or (values a (nodes ++ node ∷ [])) (length nodes + 2) false ≡ value_of a (values a nodes) node
  new_value a =
      ap (λ (bs : List Bool). slice_index_or bs (length nodes + 2) false) (behind_one a (false ∷ true ∷ []) nodes node)
      ∙ get_or_push (values a nodes) (value_of a (values a nodes) node) false (length nodes + 2) (length_behind a (false ∷ true ∷ []) nodes)

  new_table : (a : ℕ → Bool) → table e made a ≡ value_of (seen_by old bits a) (values (seen_by old bits a) nodes) node
  new_table a = m.table_is a ∙ by_branch (seen_by old bits a node.var)
    where
      by_branch : (t : Bool) →
          (if t then table d (ref_at refs node.high) a else table d (ref_at refs node.low) a) ≡ slice_index_or (values (seen_by old bits a) nodes) (if t then node.high else node.low) false
      by_branch true = are.tables node.high m.high a
      by_branch false = are.tables node.low m.low a

  pub refs_more : Keeps old e → AreBuilt old e bits (nodes ++ node ∷ []) (refs ++ made ∷ [])
  refs_more keeps = record {
    count = let l = longer in let count = are.count in let r : length (refs ++ made ∷ []) ≡ length refs + 1 = length-append refs (made ∷ []) in omega (arith, l, count, r);
    keeps = keeps;
    live = each (λ (k : ℕ). IsLive e (ref_at (refs ++ made ∷ []) k))
        (λ k lt. subst (IsLive e) (sym (old_ref k lt)) (m.keeps.live (ref_at refs k) (are.live k lt))) (subst (IsLive e) (sym new_ref) m.live);
    tables = each (λ (k : ℕ). (a : ℕ → Bool) → table e (ref_at (refs ++ made ∷ []) k) a ≡ slice_index_or (values (seen_by old bits a) (nodes ++ node ∷ [])) k false)
        (λ k lt a. ap (λ (r : Ref). table e r a) (old_ref k lt) ∙ (m.keeps.tables (ref_at refs k) (are.live k lt) a ∙ (are.tables k lt a ∙ sym (old_value (seen_by old bits a) k lt))))
        (λ a. ap (λ (r : Ref). table e r a) new_ref ∙ (new_table a ∙ sym (new_value (seen_by old bits a))));
  }

-- ---- by places

line_at : (earlier nodes : List Node) (i : ℕ) (node : Node) → are_lines earlier nodes ≡ true → slice_get nodes i ≡ Some node → is_line (earlier ++ take i nodes) node ≡ true
line_at earlier [] i node e g = absurd (cc (g))
line_at earlier (x ∷ nodes) zero node e g =
    subst (λ (ns : List Node). is_line ns node ≡ true) (sym (append-nil earlier)) (subst (λ (y : Node). is_line earlier y ≡ true) (some_is g) (left_of (is_line earlier x) _ e))
line_at earlier (x ∷ nodes) (suc i) node e g =
    subst (λ (ns : List Node). is_line ns node ≡ true) (append_again earlier (take i nodes) x) (line_at (earlier ++ x ∷ []) nodes i node (right_of (is_line earlier x) _ e) g)

below_at : (n : ℕ) (nodes : List Node) (i : ℕ) (node : Node) → list_all (λ (x : Node). nat_lt x.var n) nodes ≡ true → slice_get nodes i ≡ Some node → node.var < n
below_at n [] i node e g = absurd (cc (g))
below_at n (x ∷ nodes) zero node e g = subst (λ (y : Node). y.var < n) (some_is g) (nat_lt-is x.var n (left_of (nat_lt x.var n) _ e))
below_at n (x ∷ nodes) (suc i) node e g = below_at n nodes i node (right_of (nat_lt x.var n) _ e) g

-- the lines of a set, and its root
module _ (set : KeptSet) (is : is_set set ≡ true) where
  unnamed : (nat_le set.number most && (nat_le set.root most && (nat_le (length set.nodes) most && (nat_lt set.root (length set.nodes + 2) && are_lines [] set.nodes)))) ≡ true
  unnamed = right_of (is_name set.unit) _ is

  rooted : (nat_lt set.root (length set.nodes + 2) && are_lines [] set.nodes) ≡ true
  rooted = right_of (nat_le (length set.nodes) most) _ (right_of (nat_le set.root most) _ (right_of (nat_le set.number most) _ unnamed))

  pub root_in : set.root < length set.nodes + 2
  root_in = nat_lt-is set.root (length set.nodes + 2) (left_of (nat_lt set.root (length set.nodes + 2)) _ rooted)

  lines : are_lines [] set.nodes ≡ true
  lines = right_of (nat_lt set.root (length set.nodes + 2)) _ rooted

  branches : (i : ℕ) (node : Node) → slice_get set.nodes i ≡ Some node → (node.low < length (take i set.nodes) + 2) × (node.high < length (take i set.nodes) + 2)
  branches i node g =
      let line = line_at [] set.nodes i node lines g in
      let differ = right_of (not (nat_eq node.low node.high)) _ (right_of (nat_le node.var last_var) _ (right_of (nat_eq (node.var % 2) 0) _ line)) in (
        branch_there (take i set.nodes) node.var node.low (left_of (is_branch (take i set.nodes) node.var node.low) _ differ),
        branch_there (take i set.nodes) node.var node.high (left_of (is_branch (take i set.nodes) node.var node.high) _ (right_of (is_branch (take i set.nodes) node.var node.low) _ differ)),
      )

abbrev pub no_node : Node
no_node = record { var = 0; low = 0; high = 0 }

get_at : (nodes : List Node) (i : ℕ) → i < length nodes → slice_get nodes i ≡ Some (slice_index_or nodes i no_node)
get_at [] i lt = absurd (omega (arith, lt))
get_at (x ∷ nodes) zero lt = refl
get_at (x ∷ nodes) (suc i) lt = get_at nodes i (omega (arith, lt))

take_one : (nodes : List Node) (i : ℕ) (node : Node) → slice_get nodes i ≡ Some node → take (i + 1) nodes ≡ take i nodes ++ node ∷ []
take_one nodes i node g = (let more : i + 1 ≡ suc i = omega arith in ap (λ (n : ℕ). take n nodes) more) ∙ at nodes i g
  where
    at : (nodes : List Node) (i : ℕ) → slice_get nodes i ≡ Some node → take (suc i) nodes ≡ take i nodes ++ node ∷ []
    at [] i g = absurd (cc (g))
    at (x ∷ nodes) zero g = let same : x ≡ node = some_is g in λ j. same j ∷ []
    at (x ∷ nodes) (suc i) g = ap (λ (ns : List Node). x ∷ ns) (at nodes i g)

-- what holds at line i, where the lines are read from these items
pub record AtLine (d : Diagram) (count : ℕ) (set : KeptSet) (items : List Node) (i : ℕ) (refs : List Ref) : Type 0 where
  pub there : slice_get set.nodes i ≡ Some (slice_index_or items i no_node)
  pub bit : (slice_index_or items i no_node).var / 2 < count
  pub low_line : (slice_index_or items i no_node).low < length (take i set.nodes) + 2
  pub high_line : (slice_index_or items i no_node).high < length (take i set.nodes) + 2
  pub low : (slice_index_or items i no_node).low < length refs
  pub high : (slice_index_or items i no_node).high < length refs
  pub live_low : IsLive d (ref_at refs (slice_index_or items i no_node).low)
  pub live_high : IsLive d (ref_at refs (slice_index_or items i no_node).high)

pub at_line : (old : Diagram) (bits : List Ref) (d : Diagram) (set : KeptSet) (items : List Node) (i : ℕ) (refs : List Ref) → is_set set ≡ true → is_below (2 * length bits) set ≡ true → items ≡ set.nodes → i < length items → AreBuilt old d bits (take i set.nodes) refs → AtLine d (length bits) set items i refs
at_line old bits d set items i refs is below e lt are =
    let nodes_lt = subst (λ (ns : List Node). i < length ns) e lt in
    let there : slice_get set.nodes i ≡ Some (slice_index_or items i no_node) = subst (λ (ns : List Node). slice_get set.nodes i ≡ Some (slice_index_or ns i no_node)) (sym e) (get_at set.nodes i nodes_lt) in
    let kids = branches set is i (slice_index_or items i no_node) there in
    let count = are.count in
    let low = kids.0 in
    let high = kids.1 in
    let var = below_at (2 * length bits) set.nodes i (slice_index_or items i no_node) below there in
    record {
      there = there;
      bit = omega (arith, var);
      low_line = low;
      high_line = high;
      low = omega (arith, count, low);
      high = omega (arith, count, high);
      live_low = are.live (slice_index_or items i no_node).low low;
      live_high = are.live (slice_index_or items i no_node).high high;
    }

-- and behind it
pub next_line : (old d e : Diagram) (bits : List Ref) (set : KeptSet) (items : List Node) (i : ℕ) (refs : List Ref) (made : Ref) → AtLine d (length bits) set items i refs → AreBuilt old d bits (take i set.nodes) refs → Keeps old e → Keeps d e → IsLive e made →
    ((a : ℕ → Bool) → table e made a ≡ (if seen_by old bits a (slice_index_or items i no_node).var then table d (ref_at refs (slice_index_or items i no_node).high) a else table d (ref_at refs (slice_index_or items i no_node).low) a)) →
    AreBuilt old e bits (take (i + 1) set.nodes) (refs ++ made ∷ [])
next_line old d e bits set items i refs made at are all keeps live table_is =
    subst (λ (ns : List Node). AreBuilt old e bits ns (refs ++ made ∷ [])) (sym (take_one set.nodes i (slice_index_or items i no_node) at.there))
    (refs_more old d e bits (take i set.nodes) refs (slice_index_or items i no_node) made are
    (record { keeps = keeps; live = live; low = at.low_line; high = at.high_line; table_is = table_is }) all)

pub last_line : (old : Diagram) (bits : List Ref) (d : Diagram) (set : KeptSet) (i : ℕ) (refs : List Ref) → length set.nodes ≤ i → AreBuilt old d bits (take i set.nodes) refs → AreBuilt old d bits set.nodes refs
last_line old bits d set i refs le are = subst (λ (ns : List Node). AreBuilt old d bits ns refs) (take_past set.nodes i le) are

pub root_is : (old d : Diagram) (bits : List Ref) (set : KeptSet) (refs : List Ref) → is_set set ≡ true → AreBuilt old d bits set.nodes refs →
    IsLive d (ref_at refs set.root) × ((a : ℕ → Bool) → table d (ref_at refs set.root) a ≡ meaning set (seen_by old bits a))
unfolding meaning
root_is old d bits set refs is are = (are.live set.root (root_in set is), λ a. are.tables set.root (root_in set is) a)

-- a Ref that was read at a number is that of the number
pub ref_is : (refs : List Ref) (k : ℕ) (r x : Ref) → k < length refs → r ≡ slice_index_or refs k x → r ≡ ref_at refs k
ref_is refs k r x lt e = e ∙ any_default refs k x (record { place = 0 }) lt
  where
    any_default : (refs : List Ref) (k : ℕ) (x y : Ref) → k < length refs → slice_index_or refs k x ≡ slice_index_or refs k y
    any_default [] k x y lt = absurd (omega (arith, lt))
    any_default (z ∷ refs) zero x y lt = refl
    any_default (z ∷ refs) (suc k) x y lt = any_default refs k x y (omega (arith, lt))

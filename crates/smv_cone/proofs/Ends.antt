-- What a search has found when it ends.
use Rattle.std.proofs.Common.{◌≡◌, ℕ, ◌<◌, ◌≤◌, List, [], ◌∷◌, map, length, Some, None, Bool, true, false, nat_lt, nat_le, refl, sym, ap, subst, ◌∙◌, arith}
use Rattle.std.proofs.lemmas.Bool.Decides.{nat_tests}
use Rattle.std.proofs.lemmas.Option.{slice_get_within}
use Rattle.law_lists.proofs.Lists.{length_map}
use Rattle.smv_core.specs.Values.{Name}
use Rattle.smv_core.specs.declared.flat.Element.{Element}
use Rattle.smv_core.specs.declared.flat.SetInfo.{SetInfo}
use Rattle.smv_core.specs.declared.flat.FlatExpr.{Number}
use Rattle.smv_core.specs.declared.abstract_type.AbsType.{AbsType}
use Rattle.law_obligations.specs.Places.{World}
use Rattle.law_obligations.specs.Obligations.{holds}
use Rattle.law_obligations.specs.Cones.{AbsElement, same_element}
use Rattle.law_obligations.proofs.ConeFacts.{same_element-itself}
use Rattle.law_obligations.specs.Readings.{bits_of_all}
use Rattle.law_obligations.proofs.LeastCones.{same_element-is}
use Rattle.law_problems.proofs.Searches.{search-over}
use Rattle.law_problems.proofs.Orders.{no_more_bits}
use Rattle.smv_problem.specs.Written.{written, written_type, written_element}
use Rattle.smv_elements.specs.Elements.{is_full, AreInOrder, HaveSame}
use Rattle.smv_readings.specs.StateBits.{bits_of_elements}
use Rattle.smv_readings.proofs.Counts.{bits-are-those}
use Rattle.smv_spots.specs.Spots.{AreTypes}
use Rattle.smv_reads.specs.Views.{world_of}
use Rattle.law_problems.specs.FoundLaws.{HaveAll}
use Rattle.law_problems.proofs.Bits.{found-bits, cone-bits}
use Rattle.law_problems.proofs.Sorting.{sorted-written}
use Rattle.smv_cone.specs.declared.parts.Part.{Part}
use Rattle.smv_cone.specs.Parts.{outline_of, entry_of, params_of, firsts, nexts, cone_of, IsPartView}
use Rattle.smv_cone.specs.Searching.{HasLeast, HasFound, IsConeOf}

-- ---- turns

-- the search has gone on from all that is found, or too much is found
pub gone-over : (p : Part) (found : List Element) (turn : ℕ) → HasFound p found turn → length found ≤ turn → HasFound p found (length found)
gone-over p found turn f l = record {
  all = f.all;
  are_written = f.are_written;
  are_apart = f.are_apart;
  within = f.within;
  is_search = λ few. record {
    begins = (f.is_search few).begins;
    within = (f.is_search few).within;
    closed = λ k x m e. let less = slice_get_within f.all k x e in let long : length f.all ≡ length found = sym (length_map written_element f.all) ∙ ap length f.are_written in (f.is_search few).closed k x (omega (arith, less, long, l)) e;
  };
}

pub gone-full : (p : Part) (found : List Element) (turn : ℕ) → HasFound p found turn → is_full found ≡ true → HasFound p found (length found)
gone-full p found turn f full = record {
  all = f.all;
  are_written = f.are_written;
  are_apart = f.are_apart;
  within = f.within;
  is_search = λ few. absurd (both full few);
}
  where
    both : {b : Bool} → b ≡ true → b ≡ false → ⊥
    both t f = absurd (cc)

-- ---- bits

-- the bits of elements as they are written
counted : (w : World) (xs : List AbsElement) → bits_of_elements w.classes.families (map (λ (l : List Name). length l) w.classes.enums) (map (written_type w) w.classes.sets) (map written_element xs) ≡ bits_of_all w xs
unfolding written
counted w xs = bits-are-those (record { problem = record { world = w; kept = λ family indexes. false; now = []; before = []; target = holds (Number 1 0) []; guards = []; params = [] }; elements = xs })

-- the abstract forms are those of the world
pub forms-written : (w : World) (sets : List SetInfo) (types : List AbsType) → AreTypes w sets types → types ≡ map (written_type w) sets
forms-written w [] [] h = refl
forms-written w [] (t ∷ types) h = absurd h
forms-written w (info ∷ sets) [] h = absurd h
forms-written w (info ∷ sets) (t ∷ types) h = ap (λ (a : AbsType). a ∷ types) (sym (form h.0 h.1)) ∙ ap (λ (ts : List AbsType). written_type w info ∷ ts) (forms-written w sets types h.2)
  where
    form : w.classes.sizes info.name ≡ t.named → w.rests info.name ≡ t.rest → written_type w info ≡ t
    form e f = ap (λ (n : ℕ). record { named = n; rest = w.rests info.name }) e ∙ ap (λ r. record { named = t.named; rest = r }) f

module _ (p : Part) (h : IsPartView p) (least : HasLeast p) (found : List Element) (f : HasFound p found (length found)) where
  abbrev w : World
  w = world_of p.view

  long : length f.all ≡ length found
  long = sym (length_map written_element f.all) ∙ ap length f.are_written

  pub full-bits : (b : Bool) → b ≡ is_full found → b ≡ true → IsConeOf p None
  full-bits b e t =
      let full : nat_lt 1024 (length found) ≡ true = sym e ∙ t in
      let many : 1024 < length found = grind (arith, nat_tests, full) in
      let have = found-bits w f.all in
      let more = no_more_bits w f.all (cone_of p) f.are_apart f.within in
      let same = long in
      omega (arith, many, have, more, same)

  all-found : is_full found ≡ false → HaveAll f.all (cone_of p)
  all-found few = (f.within, λ x m. let same = long in search-over (nexts p) (firsts p) (cone_of p) least same_element same_element-is same_element-itself f.all (length found) (f.is_search few) (omega (arith, same)) x m)

  bits-are : is_full found ≡ false → (lists : List ℕ) → lists ≡ map (λ (l : List Name). length l) p.view.design.now.enums → bits_of_elements p.view.design.now.families lists p.view.types.now found ≡ bits_of_all w (cone_of p)
  bits-are few lists same =
      ap (λ (ls : List ℕ). bits_of_elements p.view.design.now.families ls p.view.types.now found) same
      ∙ (ap (λ (ts : List AbsType). bits_of_elements p.view.design.now.families (map (λ (l : List Name). length l) p.view.design.now.enums) ts found) (forms-written w p.view.design.now.sets p.view.types.now h.is_view.is_world.forms)
      ∙ (ap (λ (es : List Element). bits_of_elements p.view.design.now.families (map (λ (l : List Name). length l) p.view.design.now.enums) (map (written_type w) p.view.design.now.sets) es) (sym f.are_written)
      ∙ (counted w f.all ∙ cone-bits w (outline_of p) (entry_of p) (params_of p) h.is_view.are_indexed f.all f.are_apart (all-found few))))

  pub many-bits : (b : Bool) → b ≡ is_full found → b ≡ false → (lists : List ℕ) → lists ≡ map (λ (l : List Name). length l) p.view.design.now.enums →
      (few : Bool) → few ≡ nat_le (bits_of_elements p.view.design.now.families lists p.view.types.now found) 1024 → few ≡ false → IsConeOf p None
  many-bits b e t lists same few is n =
      let bits = bits-are (sym e ∙ t) lists same in
      let test : nat_le (bits_of_elements p.view.design.now.families lists p.view.types.now found) 1024 ≡ false = sym is ∙ n in
      let many : 1024 < bits_of_elements p.view.design.now.families lists p.view.types.now found = grind (arith, nat_tests, test) in
      omega (arith, many, bits)

  pub few-bits : (b : Bool) → b ≡ is_full found → b ≡ false → (lists : List ℕ) → lists ≡ map (λ (l : List Name). length l) p.view.design.now.enums →
      (few : Bool) → few ≡ nat_le (bits_of_elements p.view.design.now.families lists p.view.types.now found) 1024 → few ≡ true → (sorted : List Element) → AreInOrder sorted → HaveSame found sorted → IsConeOf p (Some sorted)
  few-bits b e t lists same few is n sorted order all =
      let bits = bits-are (sym e ∙ t) lists same in
      let test : nat_le (bits_of_elements p.view.design.now.families lists p.view.types.now found) 1024 ≡ true = sym is ∙ n in
      let some : bits_of_elements p.view.design.now.families lists p.view.types.now found ≤ 1024 = grind (arith, nat_tests, test) in (
        sorted-written w (outline_of p) (entry_of p) (params_of p) h.is_view.are_indexed f.all (all-found (sym e ∙ t)) sorted order (subst (λ (es : List Element). HaveSame es sorted) (sym f.are_written) all),
        omega (arith, some, bits),
      )

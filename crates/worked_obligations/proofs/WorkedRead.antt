-- The Tomasulo machine with its splits, as earlier passes give it.
use Rattle.std.proofs.Common.{◌≡◌, ℕ, zero, suc, List, [], ◌∷◌, length, Bool, true, not, ◌&&◌, refl, sym, ap, ◌∙◌, Some, arith}
use Rattle.std.specs.Str.{bytes_eq}
use Rattle.std.specs.List.{slice_get, list_all}
use Rattle.std.proofs.lemmas.Bool.{not-true}
use Rattle.law_lists.proofs.Options.{some_is}
use Rattle.law_lists.proofs.Booleans.{left_of, right_of}
use Rattle.smv_core.specs.Values.{Name}
use Rattle.smv_core.specs.declared.flat.Family.{Family}
use Rattle.smv_core.specs.declared.flat.Param.{Param}
use Rattle.smv_core.specs.declared.flat.FlatSplit.{FlatSplit}
use Rattle.smv_core.specs.declared.flat.FlatPair.{FlatPair}
use Rattle.law_obligations.specs.Sets.{Has, first, later}
use Rattle.law_obligations.proofs.Computing.{computing}
use Rattle.law_obligations.proofs.Members.{all-each}
use Rattle.law_obligations.proofs.OneOfEach.{get_Has}
use Rattle.law_obligations.specs.Outlines.{unit_in}
use Rattle.law_obligations.specs.Units.{units_of}
use Rattle.worked_obligations.specs.WorkedTomasulo.{word, reg, tag}
use Rattle.worked_obligations.proofs.WorkedMachine.{AllOf}
use Rattle.law_splits.specs.Variables.{IsNumbered}
use Rattle.law_splits.specs.SplitLaws.{IsIndex, IsRead, HasNamesApart}
use Rattle.law_splits.specs.Leaves.{name_of}
use Rattle.worked_obligations.specs.WorkedLeaves.{split_machine}
use Rattle.law_splits.proofs.Params.{name_same}

lookup : {X : Type 0} (P : X → Type 0) (xs : List X) {x : X} → AllOf P xs → Has xs x → P x
lookup P [] all h = elim h [ ]
lookup P (x ∷ xs) all first = all.0
lookup P (x ∷ xs) all (later h) = lookup P xs all.1 h

word_index : IsIndex split_machine word
word_index = record { is_index_type = tt; is_filled = (_, refl) }

reg_index : IsIndex split_machine reg
reg_index = record { is_index_type = tt; is_filled = (_, refl) }

tag_index : IsIndex split_machine tag
tag_index = record { is_index_type = tt; is_filled = (_, refl) }

families : AllOf (λ (f : Family). AllOf (IsIndex split_machine) f.over) split_machine.families
families = (tt, (tt, (tt, (tt, (tt, (tt, (tt, (tt, (tt, (tt, (tt, (tt, (tt, ((reg_index, tt), ((reg_index, tt), ((reg_index, tt), ((tag_index, tt), ((tag_index, tt), ((tag_index, tt), ((tag_index, tt), ((reg_index, tt), ((tag_index, tt), ((tag_index, tt), ((tag_index, tt), ((word_index, tt), tt)))))))))))))))))))))))))

bounds : AllOf (λ (s : FlatSplit). AllOf (λ (p : Param). IsIndex split_machine p.over) s.bound) split_machine.splits
bounds = ((reg_index, (word_index, tt)), ((tag_index, (tag_index, (reg_index, (word_index, tt)))), ((tag_index, (word_index, (word_index, tt))), ((reg_index, (tag_index, (word_index, tt))), tt))))

equations : AllOf (λ (s : FlatSplit). AllOf (λ (pair : FlatPair). IsNumbered (length s.bound) pair.left) s.pairs) split_machine.splits
unfolding computing
equations = ((tt, ((tt, tt), tt)), (((omega arith, tt), ((omega arith, tt), ((omega arith, tt), tt))), ((tt, ((tt, tt), ((tt, tt), tt))), (((omega arith, tt), ((omega arith, tt), tt)), tt))))

pub is_read : IsRead split_machine
is_read = record {
  families = λ f h t k. lookup (IsIndex split_machine) f.over (lookup (λ (f : Family). AllOf (IsIndex split_machine) f.over) split_machine.families families h) k;
  claims = λ claim h. elim h [ ];
  bound = λ s h p k. lookup (λ (p : Param). IsIndex split_machine p.over) s.bound (lookup (λ (s : FlatSplit). AllOf (λ (p : Param). IsIndex split_machine p.over) s.bound) split_machine.splits bounds h) k;
  numbered = λ s h pair k. lookup (λ (pair : FlatPair). IsNumbered (length s.bound) pair.left) s.pairs (lookup (λ (s : FlatSplit). AllOf (λ (pair : FlatPair). IsNumbered (length s.bound) pair.left) s.pairs) split_machine.splits equations h) k;
}

-- names that a test finds apart
abbrev differ : List FlatSplit → Name → Bool
differ ss name = list_all (λ (s : FlatSplit). not (bytes_eq name s.name)) ss

abbrev all_differ : List FlatSplit → Bool
all_differ [] = true
all_differ (s ∷ ss) = differ ss s.name && all_differ ss

other : (ss : List FlatSplit) (name : Name) (s : FlatSplit) → differ ss name ≡ true → Has ss s → name ≡ s.name → ⊥
other ss name s e h i =
    let a = not-true (bytes_eq name s.name) (all-each (λ (s : FlatSplit). not (bytes_eq name s.name)) e h) in
    let b = name_same name s.name i in cc

one_place : (ss : List FlatSplit) → all_differ ss ≡ true → (j k : ℕ) (s t : FlatSplit) → slice_get ss j ≡ Some s → slice_get ss k ≡ Some t → s.name ≡ t.name → j ≡ k
one_place [] e j k s t a b i = absurd (cc)
one_place (u ∷ ss) e zero zero s t a b i = refl
one_place (u ∷ ss) e zero (suc k) s t a b i = absurd (other ss u.name t (left_of (differ ss u.name) (all_differ ss) e) (get_Has ss k t b) (ap (λ (s : FlatSplit). s.name) (some_is a) ∙ i))
one_place (u ∷ ss) e (suc j) zero s t a b i = absurd (other ss u.name s (left_of (differ ss u.name) (all_differ ss) e) (get_Has ss j s a) (ap (λ (s : FlatSplit). s.name) (some_is b) ∙ sym i))
one_place (u ∷ ss) e (suc j) (suc k) s t a b i = ap suc (one_place ss (right_of (differ ss u.name) (all_differ ss) e) j k s t a b i)

units_differ : list_all (λ unit. differ split_machine.splits (name_of split_machine (unit_in split_machine unit))) (units_of split_machine) ≡ true
unfolding computing
units_differ = refl

splits_differ : all_differ split_machine.splits ≡ true
unfolding computing
splits_differ = refl

pub names_apart : HasNamesApart split_machine
names_apart = record {
  splits = one_place split_machine.splits splits_differ;
  units = λ unit h s k e. other split_machine.splits (name_of split_machine (unit_in split_machine unit)) s
      (all-each (λ unit. differ split_machine.splits (name_of split_machine (unit_in split_machine unit))) units_differ h) k e;
}

-- Flags of the variables on which functions of a store depend.
use Rattle.std.proofs.Common.{◌≡◌, ◌≢◌, ℕ, ◌+◌, ◌<◌, ◌≤◌, Bool, true, false, ◌⊎◌, inl, inr, List, length, set, Option, Some, None, is_none, IfSome, refl, sym, ◌∙◌, ap, arith}
use Rattle.std.proofs.lemmas.Bool.{cases_lt}
use Rattle.std.proofs.lemmas.List.{get_or-set_same, get_or-set_other}
use Rattle.bdd_store.specs.declared.Ref.{Ref}
use Rattle.bdd_store.specs.Graph.{with_at}
use Rattle.bdd_store.specs.Diagram.{Diagram, table}
use Rattle.bdd_store.proofs.Functions.{table_reads}
use Rattle.bdd_ops.specs.Functions.{depends, bit_at}
use Rattle.bdd_ops.specs.Memo.{Known, AreFlagged}
use Rattle.bdd_ops.proofs.Depends.{own, low_depends, high_depends, depends_cases, own_depends}

pub bit_here : (flags : List Bool) (w v : ℕ) (x : Bool) → w < length flags → v ≡ w → bit_at (set flags w x) v ≡ x
bit_here flags w v x lt e = ap (bit_at (set flags w x)) e ∙ get_or-set_same flags w x false lt

pub bit_other : (flags : List Bool) (w v : ℕ) (x : Bool) → v ≢ w → bit_at (set flags w x) v ≡ bit_at flags v
bit_other flags w v x ne = get_or-set_other flags w v x false ne

pub same_or_not : (v w : ℕ) → (v ≡ w) ⊎ (v ≢ w)
same_or_not v w = elim (cases_lt v w) [
  | inl lt ↦ inr (omega arith)
  | inr le ↦ elim (cases_lt w v) [ inl lt ↦ inr (omega arith) | inr is ↦ inl (omega arith) ]
]

pub bit_kept : (flags : List Bool) (w : ℕ) → w < length flags → (v : ℕ) → bit_at flags v ≡ true → bit_at (set flags w true) v ≡ true
bit_kept flags w lt v e = elim (same_or_not v w) [ inl is ↦ bit_here flags w v true lt is | inr ne ↦ bit_other flags w v true ne ∙ e ]

pub bit_only : (flags : List Bool) (w v : ℕ) → bit_at (set flags w true) v ≡ true → (bit_at flags v ≡ true) ⊎ (v ≡ w)
bit_only flags w v e = elim (same_or_not v w) [ inl is ↦ inr is | inr ne ↦ inl (sym (bit_other flags w v true ne) ∙ e) ]

pub flagged_more : (d : Diagram) (seen : Known Ref) (flags more : List Bool) → ((v : ℕ) → bit_at flags v ≡ true → bit_at more v ≡ true) → AreFlagged d seen flags → AreFlagged d seen more
flagged_more d seen flags more kept are q is v dep = kept v (are q is v dep)

-- a node f of variable w with branches lo and hi
module _ (d : Diagram) (f lo hi : Ref) (w first : ℕ) (same : w ≡ first)
    (is_lo : (a : ℕ → Bool) → table d lo a ≡ table d f (with_at a first false)) (is_hi : (a : ℕ → Bool) → table d hi a ≡ table d f (with_at a first true)) where
  lo_at : (a : ℕ → Bool) → table d lo a ≡ table d f (with_at a w false)
  lo_at a = is_lo a ∙ ap (λ y. table d f (with_at a y false)) (sym same)

  hi_at : (a : ℕ → Bool) → table d hi a ≡ table d f (with_at a w true)
  hi_at a = is_hi a ∙ ap (λ y. table d f (with_at a y true)) (sym same)

  pub dep_low : (v : ℕ) → depends d.vars (table d lo) v ≡ true → depends d.vars (table d f) v ≡ true
  dep_low = low_depends d.vars w (table d f) (table d lo) (table d hi) (table_reads d f) (table_reads d lo) (table_reads d hi) lo_at hi_at

  pub dep_high : (v : ℕ) → depends d.vars (table d hi) v ≡ true → depends d.vars (table d f) v ≡ true
  dep_high = high_depends d.vars w (table d f) (table d lo) (table d hi) (table_reads d f) (table_reads d lo) (table_reads d hi) lo_at hi_at

  pub dep_cases : (v : ℕ) → depends d.vars (table d f) v ≡ true → (v ≡ w) ⊎ (depends d.vars (table d lo) v ≡ true) ⊎ (depends d.vars (table d hi) v ≡ true)
  dep_cases = depends_cases d.vars w (table d f) (table d lo) (table d hi) (table_reads d f) (table_reads d lo) (table_reads d hi) lo_at hi_at

  pub dep_own : ((a c : ℕ → Bool) → ((v : ℕ) → w ≤ v → a v ≡ c v) → table d f a ≡ table d f c) → (((a c : ℕ → Bool) → ((v : ℕ) → w + 1 ≤ v → a v ≡ c v) → table d f a ≡ table d f c) → ⊥) → depends d.vars (table d f) w ≡ true
  dep_own = own_depends d.vars w (table d f) (table d lo) (table d hi) (table_reads d f) (table_reads d lo) (table_reads d hi) lo_at hi_at

  -- what is flagged after the own variable and the low branch, and after the high branch too
  module _ (flags one : List Bool) (from : (a c : ℕ → Bool) → ((v : ℕ) → w ≤ v → a v ≡ c v) → table d f a ≡ table d f c) (least : ((a c : ℕ → Bool) → ((v : ℕ) → w + 1 ≤ v → a v ≡ c v) → table d f a ≡ table d f c) → ⊥)
      (only_one : (v : ℕ) → bit_at one v ≡ true → (bit_at (set flags w true) v ≡ true) ⊎ (depends d.vars (table d lo) v ≡ true)) where
    pub flagged_low : (v : ℕ) → bit_at one v ≡ true → (bit_at flags v ≡ true) ⊎ (depends d.vars (table d f) v ≡ true)
    flagged_low v e = elim (only_one v e) [
      | inl before ↦ elim (bit_only flags w v before) [ inl was ↦ inl was | inr is ↦ inr (ap (depends d.vars (table d f)) is ∙ dep_own from least) ]
      | inr low ↦ inr (dep_low v low)
    ]

    pub flagged_high : (two : List Bool) → ((v : ℕ) → bit_at two v ≡ true → (bit_at one v ≡ true) ⊎ (depends d.vars (table d hi) v ≡ true)) → (v : ℕ) → bit_at two v ≡ true → (bit_at flags v ≡ true) ⊎ (depends d.vars (table d f) v ≡ true)
    flagged_high two only_two v e = elim (only_two v e) [ inl before ↦ flagged_low v before | inr high ↦ inr (dep_high v high) ]

  pub all_flagged : (flags one two : List Bool) → w < length flags → ((v : ℕ) → bit_at (set flags w true) v ≡ true → bit_at one v ≡ true) → ((v : ℕ) → bit_at one v ≡ true → bit_at two v ≡ true)
      → ((v : ℕ) → depends d.vars (table d lo) v ≡ true → bit_at one v ≡ true) → ((v : ℕ) → depends d.vars (table d hi) v ≡ true → bit_at two v ≡ true) → (v : ℕ) → depends d.vars (table d f) v ≡ true → bit_at two v ≡ true
  all_flagged flags one two lt kept_one kept_two all_one all_two v dep = elim (dep_cases v dep) [
    | inl is ↦ kept_two v (kept_one v (bit_here flags w v true lt is))
    | inr deeper ↦ elim deeper [ inl low ↦ kept_two v (all_one v low) | inr high ↦ all_two v high ]
  ]

-- the way to an assignment with value 1: what was set so far leads from F to T, and the next variable leads on to U
module _ (F T U : (ℕ → Bool) → Bool) (bits : List Bool) (w first next : ℕ) (x : Bool) (same : w ≡ first) (lt : w < length bits)
    (is_next : (a : ℕ → Bool) → U a ≡ T (with_at a first x))
    (leads : (a : ℕ → Bool) → ((v : ℕ) → v < first → a v ≡ bit_at bits v) → F a ≡ T a) where
  pub leads_on : first < next → (a : ℕ → Bool) → ((v : ℕ) → v < next → a v ≡ bit_at (set bits w x) v) → F a ≡ U a
  leads_on later a agree =
      let here : a first ≡ x = agree first later ∙ bit_here bits w first x lt (sym same) in
      leads a (λ v before. agree v (omega (arith, before, later)) ∙ bit_other bits w v x (omega (arith, before, same)))
      ∙ own T a first x here ∙ sym (is_next a)

-- a function that is constant, and not 0 everywhere
pub constant_one : (o : Option Bool) (T : (ℕ → Bool) → Bool) → is_none o ≡ false → IfSome o (λ x. (a : ℕ → Bool) → T a ≡ x) → (((a : ℕ → Bool) → T a ≡ false) → ⊥) → (a : ℕ → Bool) → T a ≡ true
constant_one None T none is some = absurd (let clash : true ≡ false = none in cc)
constant_one (Some true) T none is some = is
constant_one (Some false) T none is some = absurd (some is)

-- a function is 0 everywhere where both its branches are
pub never_both : (T lo hi : (ℕ → Bool) → Bool) (w : ℕ) → ((a : ℕ → Bool) → lo a ≡ T (with_at a w false)) → ((a : ℕ → Bool) → hi a ≡ T (with_at a w true)) → ((a : ℕ → Bool) → lo a ≡ false) → ((a : ℕ → Bool) → hi a ≡ false) → (a : ℕ → Bool) → T a ≡ false
never_both T lo hi w is_lo is_hi low high a = by_bit (a w) refl
  where
    by_bit : (x : Bool) → a w ≡ x → T a ≡ false
    by_bit true e = own T a w true e ∙ sym (is_hi a) ∙ high a
    by_bit false e = own T a w false e ∙ sym (is_lo a) ∙ low a

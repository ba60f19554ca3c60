-- Chains of instances.
use Rattle.std.proofs.Common.{◌≡◌, ℕ, zero, suc, ◌≤◌, List, true, ◌⊎◌, inl, inr, sym, subst, arith}
use Rattle.std.specs.List.{list_any}
use Rattle.std.specs.Str.{bytes_eq}
use Rattle.std.proofs.lemmas.Bool.{or_left, or_right, or_cases}
use Rattle.smv_core.specs.Values.{Name}
use Rattle.smv_mentions.specs.Scopes.{Piece, module_named}
use Rattle.smv_mentions.specs.NameFaults.{used_if_module, contains}
use Rattle.law_designs.proofs.Lists.{bytes_eq-is, bytes_eq-refl, IsAmong, any-of, of-any}

module _ (tops : List Piece) where
  -- the modules of which a module has instances
  abbrev pub uses : Name → List Name
  uses name = used_if_module (module_named tops name)

  -- a chain goes on to a module that its last one uses
  pub contains-next : (n : ℕ) (first last next : Name) → contains tops n last first ≡ true → IsAmong next (uses last) → contains tops (suc n) next first ≡ true
  contains-next zero first last next e used =
      let same : first ≡ last = bytes_eq-is first last e in
      or_right (bytes_eq first next) (list_any (contains tops zero next) (uses first)) (subst (λ x. list_any (contains tops zero next) (uses x) ≡ true) (sym same) (any-of (contains tops zero next) next (uses last) used (bytes_eq-refl next)))
  contains-next (suc n) first last next e used = by (or_cases (bytes_eq first last) (list_any (contains tops n last) (uses first)) e) (λ q there. contains-next n q last next there used)
    where
      by : (bytes_eq first last ≡ true) ⊎ (list_any (contains tops n last) (uses first) ≡ true) → ((q : Name) → contains tops n last q ≡ true → contains tops (suc n) next q ≡ true) → contains tops (suc (suc n)) next first ≡ true
      by (inl same) rest =
          or_right (bytes_eq first next) (list_any (contains tops (suc n) next) (uses first))
          (subst (λ x. list_any (contains tops (suc n) next) (uses x) ≡ true) (sym (bytes_eq-is first last same))
          (any-of (contains tops (suc n) next) next (uses last) used (or_left (bytes_eq next next) (list_any (contains tops n next) (uses next)) (bytes_eq-refl next))))
      by (inr some) rest =
          let found : (q : Name) × IsAmong q (uses first) × (contains tops n last q ≡ true) = of-any (contains tops n last) (uses first) some in
          or_right (bytes_eq first next) (list_any (contains tops (suc n) next) (uses first)) (any-of (contains tops (suc n) next) found.0 (uses first) found.1 (rest found.0 found.2))

  contains-one_more : (n : ℕ) (first last : Name) → contains tops n last first ≡ true → contains tops (suc n) last first ≡ true
  contains-one_more zero first last e = or_left (bytes_eq first last) (list_any (contains tops zero last) (uses first)) e
  contains-one_more (suc n) first last e = by (or_cases (bytes_eq first last) (list_any (contains tops n last) (uses first)) e) (λ q there. contains-one_more n q last there)
    where
      by : (bytes_eq first last ≡ true) ⊎ (list_any (contains tops n last) (uses first) ≡ true) → ((q : Name) → contains tops n last q ≡ true → contains tops (suc n) last q ≡ true) → contains tops (suc (suc n)) last first ≡ true
      by (inl same) rest = or_left (bytes_eq first last) (list_any (contains tops (suc n) last) (uses first)) same
      by (inr some) rest =
          let found : (q : Name) × IsAmong q (uses first) × (contains tops n last q ≡ true) = of-any (contains tops n last) (uses first) some in
          or_right (bytes_eq first last) (list_any (contains tops (suc n) last) (uses first)) (any-of (contains tops (suc n) last) found.0 (uses first) found.1 (rest found.0 found.2))

  contains-at-zero : (n : ℕ) (first last : Name) → contains tops zero last first ≡ true → contains tops n last first ≡ true
  contains-at-zero zero first last e = e
  contains-at-zero (suc n) first last e = contains-one_more n first last (contains-at-zero n first last e)

  -- a longer bound finds no less
  pub contains-more : (m n : ℕ) (first last : Name) → m ≤ n → contains tops m last first ≡ true → contains tops n last first ≡ true
  contains-more zero n first last le e = contains-at-zero n first last e
  contains-more (suc m) zero first last le e = absurd (omega arith)
  contains-more (suc m) (suc n) first last le e =
      let fewer : m ≤ n = omega arith in
      by (or_cases (bytes_eq first last) (list_any (contains tops m last) (uses first)) e) (λ q there. contains-more m n q last fewer there)
    where
      by : (bytes_eq first last ≡ true) ⊎ (list_any (contains tops m last) (uses first) ≡ true) → ((q : Name) → contains tops m last q ≡ true → contains tops n last q ≡ true) → contains tops (suc n) last first ≡ true
      by (inl same) rest = or_left (bytes_eq first last) (list_any (contains tops n last) (uses first)) same
      by (inr some) rest =
          let found : (q : Name) × IsAmong q (uses first) × (contains tops m last q ≡ true) = of-any (contains tops m last) (uses first) some in
          or_right (bytes_eq first last) (list_any (contains tops n last) (uses first)) (any-of (contains tops n last) found.0 (uses first) found.1 (rest found.0 found.2))

  -- a module uses one that is or contains the other
  abbrev pub Leads : ℕ → Name → Name → Type 0
  Leads n name other = (first : Name) × IsAmong first (uses name) × (contains tops n other first ≡ true)

  pub leads-next : (n : ℕ) (name last next : Name) → Leads n name last → IsAmong next (uses last) → Leads (suc n) name next
  leads-next n name last next (first, used, e) h = (first, used, contains-next n first last next e h)

  pub leads-first : (n : ℕ) (name next : Name) → IsAmong next (uses name) → Leads n name next
  leads-first n name next h = (next, h, contains-at-zero n next next (bytes_eq-refl next))

  pub leads-more : (m n : ℕ) (name other : Name) → m ≤ n → Leads m name other → Leads n name other
  leads-more m n name other le (first, used, e) = (first, used, contains-more m n first other le e)

-- The modules of a text without faults, each beside its body.
use Rattle.std.proofs.Common.{◌≡◌, ℕ, option_map, List, [], ◌∷◌, ◌++◌, flat_map, Option, Some, None, Bool, true, false, cond, not, refl, subst}
use Rattle.std.specs.Str.{bytes_eq}
use Rattle.std.specs.List.{AllByRecursion}
use Rattle.std.proofs.lemmas.Bool.{not-false}
use Rattle.law_lists.proofs.Each.{each_weaker}
use Rattle.smv_core.specs.Values.{Name, scalarset, ordset}
use Rattle.smv_core.specs.Types as tree
use Rattle.smv_core.specs.Types.{Shape, find_name, shape_of, one_value, types_from}
use Rattle.smv_core.specs.FlatOrder.{Body}
use Rattle.smv_core.specs.FlatOrder as order
use Rattle.smv_core.specs.declared.tree.Word.{Word}
use Rattle.smv_core.specs.declared.tree.Top.{Top}
use Rattle.smv_core.specs.declared.tree.Top.TheVariants.{SetType, Alias, Module as ModuleOf}
use Rattle.smv_mentions.specs.Mentions as mentions
use Rattle.smv_mentions.specs.Mentions.{Mention, declares, binds, follows, names_type, lists_constants, has_fields, instantiates}
use Rattle.smv_mentions.specs.Scopes.{Known, Piece, Constant, Own, Scope, constant_at, constants as constants_of, piece_of, known_after, pieces_from, scope_of}
use Rattle.smv_mentions.specs.NameFaults.{later, own_at, repeated, declared_words, doubled, doubled_in, is_port_if_own, formal_undeclared, formals_of, undeclared, undeclared_in}
use Rattle.law_designs.specs.Kinds.{set_type}
use Rattle.law_designs.specs.Types.{single, Types, leads, types_after}
use Rattle.law_designs.specs.References.{Module, module_of, modules_from}
use Rattle.law_designs.specs.KindFaults.{in_item, in_top, in_tops}
use Rattle.law_designs.specs.Written.{ItemIsWritten, TopIsWritten}
use Rattle.law_designs.proofs.Faultless.{empty-both, empty-three, empty-each, unplaced}
use Rattle.law_designs.proofs.LeadTypes.{CountsIndexes, TypesCount, single-counts, leads-count, Covers, single-covers, AreCovered, leads-cover}
use Rattle.law_designs.proofs.OwnFamilies.{own_in}

-- ---- names that are apart

-- a variable is no name of the module and no constant, and what is declared is no constant
abbrev pub IsApart : List (Name × Own) → List (Name × Constant) → Mention → Type 0
IsApart own constants (binds bound var) = (find_name own var.name ≡ None) × (find_name constants var.name ≡ None)
IsApart own constants (declares word what) = find_name constants word.name ≡ None
IsApart own constants _ = Unit {0}

later-none : (o : Option ℕ) (at : ℕ) → later o at ≡ [] → o ≡ None
later-none None at h = refl
later-none (Some other) at h = absurd (cc (h))

mapped-none : {X Y : Type 0} (f : X → Y) (o : Option X) → option_map f o ≡ None → o ≡ None
mapped-none f None h = refl
mapped-none f (Some x) h = absurd (cc (h))

apart-one : (scope : Scope) (m : Mention) → doubled scope m ≡ [] → IsApart scope.own scope.constants m
apart-one scope (binds bound var) h =
    let all = empty-three (later bound var.at) (later (constant_at scope var.name) var.at) (later (own_at scope var.name) var.at) h in (
      mapped-none (λ (own : Own). own.at) (find_name scope.own var.name) (later-none (own_at scope var.name) var.at all.2),
      mapped-none (λ (constant : Constant). constant.at) (find_name scope.constants var.name) (later-none (constant_at scope var.name) var.at all.1),
    )
apart-one scope (declares word what) h = mapped-none (λ (constant : Constant). constant.at) (find_name scope.constants word.name) (later-none (constant_at scope word.name) word.at h)
apart-one scope (follows o parts) h = tt
apart-one scope (names_type word) h = tt
apart-one scope (lists_constants words) h = tt
apart-one scope (has_fields words) h = tt
apart-one scope (instantiates word args) h = tt

pub piece-apart : (pieces : List Piece) (piece : Piece) → doubled_in pieces piece ≡ [] → AllByRecursion (IsApart (scope_of pieces piece).own (constants_of pieces)) piece.mentions
piece-apart pieces piece h =
    let scope = scope_of pieces piece in
    let all = empty-three (repeated [] (formals_of piece)) (repeated [] (declared_words piece.mentions)) (flat_map (doubled scope) piece.mentions) h in
    each_weaker (λ m. doubled scope m ≡ []) (IsApart scope.own scope.constants) (apart-one scope) piece.mentions (empty-each (doubled scope) piece.mentions all.2)

-- ---- modules

module _ (types : tree.Types) (modules : List (Name × Module)) (constants : List (Name × Constant)) where
  -- a module beside its body: its types are covered, its names are those that the body declares, it is written as the grammar has it and has no fault of kinds,
  -- each of its formals is a port, and its names are apart
  abbrev pub IsModule : Module → Body → Type 0
  IsModule m body =
      AreCovered m.types types
      × TypesCount m.types
      × (m.formals ≡ body.formals)
      × (m.own ≡ own_in body.items)
      × AllByRecursion ItemIsWritten body.items
      × (flat_map (in_item (record { modules = modules; constants = constants; here = m }) []) body.items ≡ [])
      × AllByRecursion (λ (word : Word). is_port_if_own (find_name m.own word.name) ≡ true) m.formals
      × AllByRecursion (IsApart m.own constants) (flat_map (mentions.in_item []) body.items)

  abbrev pub AreModules : List (Name × Module) → List (Name × Body) → Type 0
  AreModules [] [] = Unit {0}
  AreModules ((name, m) ∷ ms) ((other, body) ∷ bodies) = (name ≡ other) × IsModule m body × AreModules ms bodies
  AreModules _ _ = ⊥

  abbrev pub AreFound : Option Module → Option Body → Type 0
  AreFound None None = Unit {0}
  AreFound (Some m) (Some body) = IsModule m body
  AreFound _ _ = ⊥

  pub modules-found : (ms : List (Name × Module)) (bodies : List (Name × Body)) → AreModules ms bodies → (name : Name) → AreFound (find_name ms name) (find_name bodies name)
  modules-found [] [] h name = tt
  modules-found [] (b ∷ bodies) h name = absurd h
  modules-found (m ∷ ms) [] h name = absurd h
  modules-found ((own, m) ∷ ms) ((other, body) ∷ bodies) h name =
      subst (λ o. AreFound (cond (bytes_eq own name) (Some m) (find_name ms name)) (cond (bytes_eq o name) (Some body) (find_name bodies name))) h.0 (by_test (bytes_eq own name) (modules-found ms bodies h.2 name))
    where
      by_test : (b : Bool) → AreFound (find_name ms name) (find_name bodies name) → AreFound (cond b (Some m) (find_name ms name)) (cond b (Some body) (find_name bodies name))
      by_test true rest = h.1
      by_test false rest = rest

  pub modules-count : (ms : List (Name × Module)) (bodies : List (Name × Body)) → AreModules ms bodies → AllByRecursion (λ (name, m). TypesCount m.types) ms
  modules-count [] [] h = tt
  modules-count [] (b ∷ bodies) h = absurd h
  modules-count (m ∷ ms) [] h = absurd h
  modules-count ((own, m) ∷ ms) ((other, body) ∷ bodies) h = (h.1.1, modules-count ms bodies h.2)

-- ---- the types before a top

-- the same names, and each leads into its shape
abbrev pub AreTypes : Types → tree.Types → Type 0
AreTypes [] [] = Unit {0}
AreTypes ((name, l) ∷ kinds) ((other, shape) ∷ types) = (name ≡ other) × Covers l shape × CountsIndexes l × AreTypes kinds types
AreTypes _ _ = ⊥

pub types-append : (ks ls : Types) (ts us : tree.Types) → AreTypes ks ts → AreTypes ls us → AreTypes (ks ++ ls) (ts ++ us)
types-append [] ls [] us h k = k
types-append [] ls (t ∷ ts) us h k = absurd h
types-append (l ∷ ks) ls [] us h k = absurd h
types-append ((name, l) ∷ ks) ls ((other, shape) ∷ ts) us h k = (h.0, h.1, h.2, types-append ks ls ts us h.3 k)

pub types-count : (ks : Types) (ts : tree.Types) → AreTypes ks ts → TypesCount ks
types-count [] [] h = tt
types-count [] (t ∷ ts) h = absurd h
types-count (l ∷ ks) [] h = absurd h
types-count ((name, l) ∷ ks) ((other, shape) ∷ ts) h = (h.2, types-count ks ts h.3)

pub types-found : (ks : Types) (ts : tree.Types) → AreTypes ks ts → AreCovered ks ts
types-found [] [] h name l e = absurd (cc (e))
types-found [] (t ∷ ts) h name l e = absurd h
types-found (k ∷ ks) [] h name l e = absurd h
types-found ((own, k) ∷ ks) ((other, shape) ∷ ts) h name l e =
    subst (λ o. (s : Shape) × (cond (bytes_eq o name) (Some shape) (find_name ts name) ≡ Some s) × Covers l s) h.0 (by_test (bytes_eq own name) e (types-found ks ts h.3 name l))
  where
    by_test : (b : Bool) → cond b (Some k) (find_name ks name) ≡ Some l → (find_name ks name ≡ Some l → (s : Shape) × (find_name ts name ≡ Some s) × Covers l s) → (s : Shape) × (cond b (Some shape) (find_name ts name) ≡ Some s) × Covers l s
    by_test true e rest = let same : k ≡ l = cc in (shape, refl, subst (λ x. Covers x shape) same h.1)
    by_test false e rest = rest e

found-front : (ts us : tree.Types) (name : Name) (shape : Shape) → find_name ts name ≡ Some shape → find_name (ts ++ us) name ≡ Some shape
found-front [] us name shape e = absurd (cc (e))
found-front ((other, s) ∷ ts) us name shape e = by_test (bytes_eq other name) e (found-front ts us name shape)
  where
    by_test : (b : Bool) → cond b (Some s) (find_name ts name) ≡ Some shape → (find_name ts name ≡ Some shape → find_name (ts ++ us) name ≡ Some shape) → cond b (Some s) (find_name (ts ++ us) name) ≡ Some shape
    by_test true e rest = e
    by_test false e rest = rest e

-- what is declared before stands for the same in the whole text
found-later : (tops : List Top) (ts : tree.Types) (name : Name) (shape : Shape) → find_name ts name ≡ Some shape → find_name (types_from ts tops) name ≡ Some shape
found-later [] ts name shape e = e
found-later (SetType word false span at ∷ tops) ts name shape e = found-later tops (ts ++ (word.name, one_value (scalarset word.name)) ∷ []) name shape (found-front ts ((word.name, one_value (scalarset word.name)) ∷ []) name shape e)
found-later (SetType word true span at ∷ tops) ts name shape e = found-later tops (ts ++ (word.name, one_value (ordset word.name)) ∷ []) name shape (found-front ts ((word.name, one_value (ordset word.name)) ∷ []) name shape e)
found-later (Alias word of at ∷ tops) ts name shape e = found-later tops (ts ++ (word.name, shape_of ts of) ∷ []) name shape (found-front ts ((word.name, shape_of ts of) ∷ []) name shape e)
found-later (ModuleOf word formals body at ∷ tops) ts name shape e = found-later tops ts name shape e

-- ---- the modules of a text

module _ (types : tree.Types) (modules : List (Name × Module)) (constants : List (Name × Constant)) (pieces : List Piece) where
  ports : (piece : Piece) → undeclared_in pieces piece ≡ [] → AllByRecursion (λ (word : Word). is_port_if_own (find_name (scope_of pieces piece).own word.name) ≡ true) (formals_of piece)
  ports piece h =
      let scope = scope_of pieces piece in
      let both = empty-both (flat_map (formal_undeclared scope) (formals_of piece)) (flat_map (undeclared scope (formals_of piece)) piece.mentions) h in
      each_weaker (λ (word : Word). formal_undeclared scope word ≡ []) (λ (word : Word). is_port_if_own (find_name scope.own word.name) ≡ true)
      (λ word e. not-false (is_port_if_own (find_name scope.own word.name)) (unplaced (not (is_port_if_own (find_name scope.own word.name))) word.at e)) (formals_of piece) (empty-each (formal_undeclared scope) (formals_of piece) both.0)

  pub tops-modules : (ks : Types) (ts : tree.Types) → AreTypes ks ts → (known : Known) (tops : List Top) → types_from ts tops ≡ types → AllByRecursion TopIsWritten tops → in_tops modules constants ks tops ≡ [] →
      AllByRecursion (λ piece. undeclared_in pieces piece ≡ []) (pieces_from known tops) → constants_of pieces ≡ constants → AllByRecursion (λ piece. doubled_in pieces piece ≡ []) (pieces_from known tops) → AreModules types modules constants (modules_from ks tops) (order.modules tops)
  tops-modules ks ts are known [] whole written fine declared same apart = tt
  tops-modules ks ts are known (SetType word false span at ∷ tops) whole written fine declared same apart =
      tops-modules (ks ++ (word.name, single (set_type word.name)) ∷ []) (ts ++ (word.name, one_value (scalarset word.name)) ∷ [])
      (types-append ks ((word.name, single (set_type word.name)) ∷ []) ts ((word.name, one_value (scalarset word.name)) ∷ []) are (refl, single-covers (set_type word.name) (scalarset word.name) refl, single-counts (set_type word.name), tt))
      (known_after known (SetType word false span at)) tops whole written.1 (empty-both (in_top modules constants ks (SetType word false span at)) (in_tops modules constants (types_after ks (SetType word false span at)) tops) fine).1 declared.1 same apart.1
  tops-modules ks ts are known (SetType word true span at ∷ tops) whole written fine declared same apart =
      tops-modules (ks ++ (word.name, single (set_type word.name)) ∷ []) (ts ++ (word.name, one_value (ordset word.name)) ∷ [])
      (types-append ks ((word.name, single (set_type word.name)) ∷ []) ts ((word.name, one_value (ordset word.name)) ∷ []) are (refl, single-covers (set_type word.name) (ordset word.name) refl, single-counts (set_type word.name), tt))
      (known_after known (SetType word true span at)) tops whole written.1 (empty-both (in_top modules constants ks (SetType word true span at)) (in_tops modules constants (types_after ks (SetType word true span at)) tops) fine).1 declared.1 same apart.1
  tops-modules ks ts are known (Alias word of at ∷ tops) whole written fine declared same apart =
      let both = empty-both (in_top modules constants ks (Alias word of at)) (in_tops modules constants (types_after ks (Alias word of at)) tops) fine in
      tops-modules (ks ++ (word.name, leads ks of) ∷ []) (ts ++ (word.name, shape_of ts of) ∷ [])
      (types-append ks ((word.name, leads ks of) ∷ []) ts ((word.name, shape_of ts of) ∷ []) are (refl, leads-cover ks ts (types-found ks ts are) of written.0 both.0, leads-count ks (types-count ks ts are) of, tt))
      (known_after known (Alias word of at)) tops whole written.1 both.1 declared.1 same apart.1
  tops-modules ks ts are known (ModuleOf word formals body at ∷ tops) whole written fine declared same apart =
      let both = empty-both (in_top modules constants ks (ModuleOf word formals body at)) (in_tops modules constants ks tops) fine in (
        refl,
        (
          λ name l e.
              let own : (shape : Shape) × (find_name ts name ≡ Some shape) × Covers l shape = types-found ks ts are name l e in
              (own.0, subst (λ all. find_name all name ≡ Some own.0) whole (found-later tops ts name own.0 own.1), own.2),
          types-count ks ts are,
          refl,
          refl,
          written.0,
          both.0,
          ports (piece_of known (ModuleOf word formals body at)) declared.0,
          subst (λ cs. AllByRecursion (IsApart (module_of ks formals body).own cs) (flat_map (mentions.in_item []) body)) same (piece-apart pieces (piece_of known (ModuleOf word formals body at)) apart.0),
        ),
        tops-modules ks ts are (known_after known (ModuleOf word formals body at)) tops whole written.1 both.1 declared.1 same apart.1,
      )

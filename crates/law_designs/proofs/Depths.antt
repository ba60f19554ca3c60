-- A text without faults of names: each module is found under its name, and none contains itself.
use Rattle.std.proofs.Common.{◌≡◌, ℕ, ◌≤◌, List, [], ◌∷◌, ◌++◌, map, length, Option, Some, None, Bool, true, false, cond, refl, ap, sym, subst, ◌∙◌, true≢false, arith}
use Rattle.std.specs.Prelude.{option_map}
use Rattle.std.proofs.Common.{inl, inr}
use Rattle.std.specs.List.{flat_map, list_any}
use Rattle.std.specs.Str.{bytes_eq}
use Rattle.smv_core.specs.Values.{Name}
use Rattle.smv_core.specs.Types.{find_name}
use Rattle.smv_core.specs.FlatOrder.{Body, modules}
use Rattle.smv_core.specs.declared.tree.Word.{Word}
use Rattle.smv_core.specs.declared.tree.Text.{Text}
use Rattle.smv_core.specs.declared.tree.Top.{Top}
use Rattle.smv_core.specs.declared.tree.Top.TheVariants.{SetType, Alias, Module}
use Rattle.smv_mentions.specs.Mentions.{Mention, declares, binds, follows, names_type, lists_constants, has_fields, instantiates, in_item}
use Rattle.smv_mentions.specs.Scopes.{Known, Piece, Body as ModuleBody, piece_of, known_after, pieces_from, pieces, body_if_module, module_named}
use Rattle.smv_mentions.specs.NameFaults.{place_if, repeated, undeclared_in, doubled_in, without_main, recursive, recursive_in, used_in, used_if_module, contains}
use Rattle.smv_mentions.specs.FirstFault.{first_of, faults_at, faults_of_names, fault_of_size, first_fault}
use Rattle.law_designs.proofs.Lists.{bytes_eq-is, IsAmong, any-of}
use Rattle.law_designs.proofs.Chains.{uses, Leads, leads-more}
use Rattle.law_designs.proofs.Faultless.{empty-both, no_fault-in, none-first, unplaced}

-- ---- no fault

no_places : (number : ℕ) (places : List ℕ) → faults_at (number, places) ≡ [] → places ≡ []
no_places number [] e = refl
no_places number (at ∷ places) e = absurd (cc (e))

-- no top is declared twice, and no module contains itself
pub without-faults : (text : Text) → first_fault text ≡ None →
    (repeated [] (map (λ piece. piece.word) (pieces text)) ≡ []) × (flat_map (recursive_in (pieces text)) (pieces text) ≡ [])
without-faults text e =
    let tops : List Piece = pieces text in
    let none : faults_of_names text ≡ [] = no_fault-in (faults_of_names text) (none-first (first_of (faults_of_names text)) (fault_of_size text) e) in
    let after_7 = (empty-both (faults_at (7, flat_map (undeclared_in tops) tops)) _ none).1 in
    let at_8 = empty-both (faults_at (8, repeated [] (map (λ piece. piece.word) tops) ++ flat_map (doubled_in tops) tops)) _ after_7 in
    let after_9 = (empty-both (faults_at (9, without_main tops)) _ at_8.1).1 in
    let at_10 = empty-both (faults_at (10, flat_map (recursive_in tops) tops)) _ after_9 in (
      (empty-both (repeated [] (map (λ piece. piece.word) tops)) (flat_map (doubled_in tops) tops) (no_places 8 _ at_8.0)).0,
      no_places 10 (flat_map (recursive_in tops) tops) at_10.0,
    )

-- ---- each module is found under its name

abbrev words_from : Known → List Top → List Word
words_from known tops = map (λ piece. piece.word) (pieces_from known tops)

-- a module of a name that was seen is declared again
seen-again : (known : Known) (seen : List Name) (tops : List Top) (name : Name) (body : Body) → IsAmong name seen → find_name (modules tops) name ≡ Some body → repeated seen (words_from known tops) ≡ [] → ⊥
seen-again known seen [] name body there found e = cc (found)
seen-again known seen (SetType word ordered span at ∷ tops) name body there found e =
    seen-again (known_after known (SetType word ordered span at)) (word.name ∷ seen) tops name body (inr there) found (empty-both _ _ e).1
seen-again known seen (Alias word of at ∷ tops) name body there found e =
    seen-again (known_after known (Alias word of at)) (word.name ∷ seen) tops name body (inr there) found (empty-both _ _ e).1
seen-again known seen (Module word formals items at ∷ tops) name body there found e =
    by (bytes_eq word.name name) refl found (λ k rest. seen-again (known_after known (Module word formals items at)) (word.name ∷ seen) tops name body (inr there) k rest)
  where
    parts : (place_if (list_any (bytes_eq word.name) seen) word.at ≡ []) × (repeated (word.name ∷ seen) (words_from (known_after known (Module word formals items at)) tops) ≡ [])
    parts = empty-both (place_if (list_any (bytes_eq word.name) seen) word.at) (repeated (word.name ∷ seen) (words_from (known_after known (Module word formals items at)) tops)) e

    by : (b : Bool) → bytes_eq word.name name ≡ b → cond b (Some (record { formals = formals; items = items })) (find_name (modules tops) name) ≡ Some body
        → (find_name (modules tops) name ≡ Some body → repeated (word.name ∷ seen) (words_from (known_after known (Module word formals items at)) tops) ≡ [] → ⊥) → ⊥
    by true same k again = true≢false (sym (any-of (bytes_eq word.name) name seen there same) ∙ unplaced _ word.at parts.0)
    by false other k again = again k parts.1

-- what is said of a module under its name
abbrev IsSaid : Option ModuleBody → Body → Type 0
IsSaid None body = ⊥
IsSaid (Some found) body = found.mentions ≡ flat_map (in_item []) body.items

pub module-said : (known : Known) (seen : List Name) (tops : List Top) → repeated seen (words_from known tops) ≡ [] → (name : Name) (body : Body) → find_name (modules tops) name ≡ Some body → IsSaid (module_named (pieces_from known tops) name) body
module-said known seen [] e name body found = cc (found)
module-said known seen (SetType word ordered span at ∷ tops) e name body found =
    by (bytes_eq word.name name) refl (λ rest. module-said (known_after known (SetType word ordered span at)) (word.name ∷ seen) tops rest name body found)
  where
    rest : repeated (word.name ∷ seen) (words_from (known_after known (SetType word ordered span at)) tops) ≡ []
    rest = (empty-both (place_if (list_any (bytes_eq word.name) seen) word.at) (repeated (word.name ∷ seen) (words_from (known_after known (SetType word ordered span at)) tops)) e).1

    by : (b : Bool) → bytes_eq word.name name ≡ b → (repeated (word.name ∷ seen) (words_from (known_after known (SetType word ordered span at)) tops) ≡ [] → IsSaid (module_named (pieces_from (known_after known (SetType word ordered span at)) tops) name) body)
        → IsSaid (body_if_module (cond b (Some (piece_of known (SetType word ordered span at))) (find_name (map (λ piece. (piece.word.name, piece)) (pieces_from (known_after known (SetType word ordered span at)) tops)) name))) body
    by true same more = absurd (seen-again (known_after known (SetType word ordered span at)) (word.name ∷ seen) tops name body (inl (bytes_eq-is word.name name same)) found rest)
    by false other more = more rest
module-said known seen (Alias word of at ∷ tops) e name body found =
    by (bytes_eq word.name name) refl (λ rest. module-said (known_after known (Alias word of at)) (word.name ∷ seen) tops rest name body found)
  where
    rest : repeated (word.name ∷ seen) (words_from (known_after known (Alias word of at)) tops) ≡ []
    rest = (empty-both (place_if (list_any (bytes_eq word.name) seen) word.at) (repeated (word.name ∷ seen) (words_from (known_after known (Alias word of at)) tops)) e).1

    by : (b : Bool) → bytes_eq word.name name ≡ b → (repeated (word.name ∷ seen) (words_from (known_after known (Alias word of at)) tops) ≡ [] → IsSaid (module_named (pieces_from (known_after known (Alias word of at)) tops) name) body)
        → IsSaid (body_if_module (cond b (Some (piece_of known (Alias word of at))) (find_name (map (λ piece. (piece.word.name, piece)) (pieces_from (known_after known (Alias word of at)) tops)) name))) body
    by true same more = absurd (seen-again (known_after known (Alias word of at)) (word.name ∷ seen) tops name body (inl (bytes_eq-is word.name name same)) found rest)
    by false other more = more rest
module-said known seen (Module word formals items at ∷ tops) e name body found =
    by (bytes_eq word.name name) found (λ rest k. module-said (known_after known (Module word formals items at)) (word.name ∷ seen) tops rest name body k)
  where
    rest : repeated (word.name ∷ seen) (words_from (known_after known (Module word formals items at)) tops) ≡ []
    rest = (empty-both (place_if (list_any (bytes_eq word.name) seen) word.at) (repeated (word.name ∷ seen) (words_from (known_after known (Module word formals items at)) tops)) e).1

    by : (b : Bool) → cond b (Some (record { formals = formals; items = items })) (find_name (modules tops) name) ≡ Some body
        → (repeated (word.name ∷ seen) (words_from (known_after known (Module word formals items at)) tops) ≡ [] → find_name (modules tops) name ≡ Some body → IsSaid (module_named (pieces_from (known_after known (Module word formals items at)) tops) name) body)
        → IsSaid (body_if_module (cond b (Some (piece_of known (Module word formals items at))) (find_name (map (λ piece. (piece.word.name, piece)) (pieces_from (known_after known (Module word formals items at)) tops)) name))) body
    by true k more = let same : record { formals = formals; items = items } ≡ body = cc in ap (λ (b : Body). flat_map (in_item []) b.items) same
    by false k more = more rest k

-- the modules that it uses are those that its items name
pub uses-said : (text : Text) → first_fault text ≡ None → (name : Name) (body : Body) → find_name (modules text.tops) name ≡ Some body → uses (pieces text) name ≡ used_in (flat_map (in_item []) body.items)
uses-said text e name body found = by (module_named (pieces text) name) (module-said [] [] text.tops (without-faults text e).0 name body found)
  where
    by : (o : Option ModuleBody) → IsSaid o body → used_if_module o ≡ used_in (flat_map (in_item []) body.items)
    by None h = absurd h
    by (Some m) h = ap used_in h

-- ---- no module contains itself

-- no mention of a module leads back
not-back : (tops : List Piece) (name : Name) (mentions : List Mention) → flat_map (recursive tops name) mentions ≡ [] → (first : Name) → IsAmong first (used_in mentions) → contains tops (length tops) name first ≡ true → ⊥
not-back tops name [] e first used back = used
not-back tops name (instantiates word args ∷ more) e first (inl same) back =
    true≢false (sym back ∙ ap (contains tops (length tops) name) (sym same) ∙ unplaced (contains tops (length tops) name word.name) word.at (empty-both (recursive tops name (instantiates word args)) _ e).0)
not-back tops name (instantiates word args ∷ more) e first (inr used) back = not-back tops name more (empty-both (recursive tops name (instantiates word args)) _ e).1 first used back
not-back tops name (declares word what ∷ more) e first used back = not-back tops name more e first used back
not-back tops name (binds around word ∷ more) e first used back = not-back tops name more e first used back
not-back tops name (follows around parts ∷ more) e first used back = not-back tops name more e first used back
not-back tops name (names_type word ∷ more) e first used back = not-back tops name more e first used back
not-back tops name (lists_constants names ∷ more) e first used back = not-back tops name more e first used back
not-back tops name (has_fields fields ∷ more) e first used back = not-back tops name more e first used back

-- what is found under a name is one of the tops
found-back : (all tops : List Piece) (name : Name) → flat_map (recursive_in all) tops ≡ [] → (first : Name) → IsAmong first (used_if_module (body_if_module (find_name (map (λ piece. (piece.word.name, piece)) tops) name))) → contains all (length all) name first ≡ true → ⊥
found-back all [] name e first used back = used
found-back all (piece ∷ tops) name e first used back = by (bytes_eq piece.word.name name) refl used (λ rest k. found-back all tops name rest first k back)
  where
    parts : (recursive_in all piece ≡ []) × (flat_map (recursive_in all) tops ≡ [])
    parts = empty-both (recursive_in all piece) _ e

    by_formals : (o : Option (List Word)) → bytes_eq piece.word.name name ≡ true → IsAmong first (used_if_module (option_map (λ formals. record { formals = formals; known = piece.known; mentions = piece.mentions }) o)) → ⊥
    by_formals None same k = k
    by_formals (Some formals) same k = not-back all piece.word.name piece.mentions parts.0 first k (subst (λ n. contains all (length all) n first ≡ true) (sym (bytes_eq-is piece.word.name name same)) back)

    by : (b : Bool) → bytes_eq piece.word.name name ≡ b → IsAmong first (used_if_module (body_if_module (cond b (Some piece) (find_name (map (λ piece. (piece.word.name, piece)) tops) name))))
        → (flat_map (recursive_in all) tops ≡ [] → IsAmong first (used_if_module (body_if_module (find_name (map (λ piece. (piece.word.name, piece)) tops) name))) → ⊥) → ⊥
    by true same k more = by_formals piece.formals same k
    by false other k more = more parts.1 k

pub no-cycle : (text : Text) → first_fault text ≡ None → (n : ℕ) (name : Name) → n ≤ length (pieces text) → Leads (pieces text) n name name → ⊥
no-cycle text e n name le chain =
    let far : Leads (pieces text) (length (pieces text)) name name = leads-more (pieces text) n (length (pieces text)) name name le chain in
    found-back (pieces text) (pieces text) name (without-faults text e).1 far.0 far.1 far.2

-- ---- how many there are

pub modules-at-most : (known : Known) (tops : List Top) → length (modules tops) ≤ length (pieces_from known tops)
modules-at-most known [] = omega arith
modules-at-most known (SetType word ordered span at ∷ tops) = omega (arith, modules-at-most (known_after known (SetType word ordered span at)) tops)
modules-at-most known (Alias word of at ∷ tops) = omega (arith, modules-at-most (known_after known (Alias word of at)) tops)
modules-at-most known (Module word formals items at ∷ tops) = omega (arith, modules-at-most (known_after known (Module word formals items at)) tops)

-- What the claims of an item say is fine where what the item says is, and depends on no place.
use Rattle.std.proofs.Common.{◌≡◌, List, [], ◌∷◌, ◌++◌, map, flat_map, false, sym, subst}
use Rattle.std.specs.List.{AllByRecursion}
use Rattle.smv_core.specs.declared.tree.Word.{Word}
use Rattle.smv_core.specs.declared.tree.Item.{Item, Declare, Instance, Layer, Forall', Block', Claim, Split, Using, Act, Row_of-Item, end_of-Item, more_of-Item}
use Rattle.smv_mentions.specs.Mentions.{in_type, in_expr, in_item, in_items}
use Rattle.law_designs.proofs.Faultless.{each-front, each-behind}
use Rattle.law_places.specs.Placeless.{placeless_item, placeless_items}
use Rattle.law_inductive_texts.specs.World.{World, IsFine, AreFine}
use Rattle.law_inductive_texts.proofs.Bare.{words_bare, one-more, expr-bare, from-bare, to-bare}

module _ (w : World) where
  abbrev mutual
    -- what the claims in an item say is fine, and no variable around them has a declared name
    pub AreFineClaims : List Word → Item → Type 0
    AreFineClaims vars (Forall' word over shape items at) = (w.is_declared word.name ≡ false) × AreFineItems (vars ++ word ∷ []) items
    AreFineClaims vars (Block' shape items) = AreFineItems vars items
    AreFineClaims vars (Claim word brackets body at) = AreFine w (in_expr vars body)
    AreFineClaims vars _ = Unit {0}

    pub AreFineItems : {m : _} → List Word → Row_of-Item m → Type 0
    AreFineItems vars end_of-Item = Unit {0}
    AreFineItems vars (more_of-Item item rest) = AreFineClaims vars item × AreFineItems vars rest

  mutual
    unfolding in_item

    claims-said : (vars : List Word) (a : Item) → AreFine w (in_item vars a) → AreFineClaims vars a
    claims-said vars (Declare role names of at) h = tt
    claims-said vars (Instance names m args at) h = tt
    claims-said vars (Layer word body at) h = tt
    claims-said vars (Forall' word over shape (more_of-Item body end_of-Item) at) h =
        (h.0.1, (claims-said (vars ++ word ∷ []) body (each-behind (IsFine w) (in_type over) (in_item (vars ++ word ∷ []) body) h.1), tt))
    claims-said vars (Block' shape items) h = items-said vars items h
    claims-said vars (Claim word brackets body at) h = h.1
    claims-said vars (Split word brackets of pairs at) h = tt
    claims-said vars (Using uses proves at) h = tt
    claims-said vars (Act act) h = tt

    items-said : {m : _} (vars : List Word) (row : Row_of-Item m) → AreFine w (in_items vars row) → AreFineItems vars row
    items-said vars end_of-Item h = tt
    items-said vars (more_of-Item a rest) h = (claims-said vars a (each-front (IsFine w) (in_item vars a) (in_items vars rest) h), items-said vars rest (each-behind (IsFine w) (in_item vars a) (in_items vars rest) h))

  pub body-said : (items : List Item) → AreFine w (flat_map (in_item []) items) → AllByRecursion (AreFineClaims []) items
  body-said [] h = tt
  body-said (a ∷ items) h = (claims-said [] a (each-front (IsFine w) (in_item [] a) (flat_map (in_item []) items) h), body-said items (each-behind (IsFine w) (in_item [] a) (flat_map (in_item []) items) h))

  mutual
    unfolding placeless_item

    claims-to : (vars : List Word) (a : Item) → AreFineClaims vars a → AreFineClaims (words_bare vars) (placeless_item a)
    claims-to vars (Declare role names of at) h = tt
    claims-to vars (Instance names m args at) h = tt
    claims-to vars (Layer word body at) h = tt
    claims-to vars (Forall' word over shape items at) h = (h.0, subst (λ l. AreFineItems l (placeless_items items)) (one-more vars word) (items-to (vars ++ word ∷ []) items h.1))
    claims-to vars (Block' shape items) h = items-to vars items h
    claims-to vars (Claim word brackets body at) h = subst (AreFine w) (sym (expr-bare vars body)) (to-bare w (in_expr vars body) h)
    claims-to vars (Split word brackets of pairs at) h = tt
    claims-to vars (Using uses proves at) h = tt
    claims-to vars (Act act) h = tt

    items-to : {m : _} (vars : List Word) (row : Row_of-Item m) → AreFineItems vars row → AreFineItems (words_bare vars) (placeless_items row)
    items-to vars end_of-Item h = tt
    items-to vars (more_of-Item a rest) h = (claims-to vars a h.0, items-to vars rest h.1)

  mutual
    unfolding placeless_item

    claims-from : (vars : List Word) (a : Item) → AreFineClaims (words_bare vars) (placeless_item a) → AreFineClaims vars a
    claims-from vars (Declare role names of at) h = tt
    claims-from vars (Instance names m args at) h = tt
    claims-from vars (Layer word body at) h = tt
    claims-from vars (Forall' word over shape items at) h = (h.0, items-from (vars ++ word ∷ []) items (subst (λ l. AreFineItems l (placeless_items items)) (sym (one-more vars word)) h.1))
    claims-from vars (Block' shape items) h = items-from vars items h
    claims-from vars (Claim word brackets body at) h = from-bare w (in_expr vars body) (subst (AreFine w) (expr-bare vars body) h)
    claims-from vars (Split word brackets of pairs at) h = tt
    claims-from vars (Using uses proves at) h = tt
    claims-from vars (Act act) h = tt

    items-from : {m : _} (vars : List Word) (row : Row_of-Item m) → AreFineItems (words_bare vars) (placeless_items row) → AreFineItems vars row
    items-from vars end_of-Item h = tt
    items-from vars (more_of-Item a rest) h = (claims-from vars a h.0, items-from vars rest h.1)

  each-bare : (items : List Item) → AllByRecursion (AreFineClaims []) items → AllByRecursion (AreFineClaims []) (map placeless_item items)
  each-bare [] h = tt
  each-bare (a ∷ items) h = (claims-to [] a h.0, each-bare items h.1)

  each-whole : (items : List Item) → AllByRecursion (AreFineClaims []) (map placeless_item items) → AllByRecursion (AreFineClaims []) items
  each-whole [] h = tt
  each-whole (a ∷ items) h = (claims-from [] a h.0, each-whole items h.1)

  pub bodies-alike : (items others : List Item) → map placeless_item items ≡ map placeless_item others → AllByRecursion (AreFineClaims []) items → AllByRecursion (AreFineClaims []) others
  bodies-alike items others p h = each-whole others (subst (AllByRecursion (AreFineClaims [])) p (each-bare items h))

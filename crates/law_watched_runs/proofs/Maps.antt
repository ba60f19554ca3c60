-- Maps in a design and in one with monitors.
use Rattle.std.proofs.Common.{◌≡◌, List, [], ◌∷◌, Option, Some, None, false, Contains, sym, subst}
use Rattle.std.specs.Str.{bytes_eq}
use Rattle.smv_core.specs.Values.{Name, Value, Sizes}
use Rattle.smv_core.specs.Types.{Family}
use Rattle.smv_core.specs.FlatOrder.{TextDesign}
use Rattle.smv_core.specs.Outcome.{State}
use Rattle.smv_core.specs.Walk.{Element}
use Rattle.smv_core.specs.Allowed.{allowed}
use Rattle.smv_core.specs.Sound.{map_of, AtEachTime, Holds}
use Rattle.law_watched_runs.specs.Extended.{is_fresh, Extends, Agree, AgreeBefore, with_monitors, extended, MapsAreKept}
use Rattle.law_watched_runs.proofs.Extended.{itself-agrees, before-agrees, restrict}
use Rattle.law_watched_runs.proofs.Extended as extended
use Rattle.law_watched_runs.proofs.Extending.{old-value, extend}

module _ (fresh : List Name) (layer : Name) (sizes : Sizes) (d e : TextDesign) (extends : Extends fresh layer sizes d e) (other : Name) (f : Family) (vs : List Value) (apart : bytes_eq other layer ≡ false) (old : is_fresh fresh f.path ≡ false) where
  abbrev x : Element
  x = record { path = f.path; indexes = vs }

  same : (before after : Option State) → AgreeBefore fresh before after → (s t : State) → Agree fresh s t → allowed e sizes (Some other) x after t ≡ allowed d sizes (Some other) x before s
  same before after past s t agree =
      subst (λ types. allowed (record { types = types; families = e.families; met = e.met }) sizes (Some other) x after t ≡ allowed d sizes (Some other) x before s) (sym extends.types)
      (extended.allowed-same fresh layer sizes d.types d.families e.families d.met e.met extends.families extends.said extends.reads (Some other) apart x old before after past s t agree)

  there : (before : Option State) (run : List State) → AtEachTime (Holds d sizes (map_of other f) vs) before run → AtEachTime (Holds e sizes (map_of other f) vs) before run
  there before [] h = tt
  there before (s ∷ run) h = (subst (λ l. Contains l (s f.path vs)) (sym (same before before (before-agrees fresh before) s s (itself-agrees fresh s))) h.0, there (Some s) run h.1)

  back : (before after : Option State) → AgreeBefore fresh before after → (run : List State) → AtEachTime (Holds e sizes (map_of other f) vs) after (extended fresh layer e sizes after run) → AtEachTime (Holds d sizes (map_of other f) vs) before run
  back before after past [] h = tt
  back before after past (s ∷ run) h = (
    subst (λ l. Contains l (s f.path vs)) (same before after past s (with_monitors fresh layer e sizes after s) (old-value fresh layer sizes d e extends after s))
        (subst (Contains (allowed e sizes (Some other) x after (with_monitors fresh layer e sizes after s))) (old-value fresh layer sizes d e extends after s f.path old vs) h.0),
    back (Some s) (Some (with_monitors fresh layer e sizes after s)) (old-value fresh layer sizes d e extends after s) run h.1,
  )

pub maps-kept : MapsAreKept
maps-kept fresh layer sizes d e extends other f vs apart old = (
  λ holds run isrun. there fresh layer sizes d e extends other f vs apart old None run (holds run (restrict fresh layer sizes d e extends run isrun)),
  λ holds run isrun. back fresh layer sizes d e extends other f vs apart old None None tt run (holds (extended fresh layer e sizes None run) (extend fresh layer sizes d e extends run isrun)),
)

-- A hit of the ranges is of an entry that is there.
use Rattle.std.proofs.Common.{◌≡◌, refl, ap, sym, ◌∙◌, subst, ℕ, List, true, find, Option, Some, None, option_map, option_and_then, IsTrue, ◌==◌}
use Rattle.std.specs.Prelude.{IsSome, is_some}
use Rattle.newt_spec_graph.specs.Lists.{Among, Each}
use Rattle.newt_spec_graph.proofs.Lists.{none-some}
use Rattle.newt_spec_store.specs.Store.{Store, Soup, Entry, entry_of, soup_of, entry_at}
use Rattle.newt_spec_store.specs.Valid.{well_formed}
use Rattle.newt_spec_query.specs.Hits.{Query, Hit}
use Rattle.newt_spec_world.specs.World.{World, mounted_stores}
use Rattle.newt_laws_world.specs.Settled.{MountedApart}
use Rattle.newt_laws_hits.specs.Located.{Located}
use Rattle.newt_laws_hits.specs.Stripped.{stripped}
use Rattle.newt_laws_hits.proofs.Members.{merged-is}
use Rattle.newt_laws_hits.proofs.Origins.{origin, hit-located}
use Rattle.newt_engine_hits.specs.Searched.{IsIndexed, located_in}

-- what is located in a store is there
located-there : (s : Store) (soup uid : ℕ) (f : Located) → located_in s soup uid ≡ Some f → IsSome (entry_at soup uid s)
located-there s soup uid f = go (soup_of soup s)
  where
    entry : (p : Soup) (o : Option Entry) → option_map (λ e. record { store = s; soup = p; entry = e }) o ≡ Some f → is_some o ≡ true
    entry p None e = absurd (none-some f e)
    entry p (Some x) e = refl

    go : (o : Option Soup) → option_and_then (λ p. option_map (λ e. record { store = s; soup = p; entry = e }) (entry_of uid p)) o ≡ Some f
        → is_some (option_and_then (entry_of uid) o) ≡ true
    go None e = absurd (none-some f e)
    go (Some p) e = entry p (entry_of uid p) e

pub indexed-there : (w : World) (q : Query) → MountedApart w → Each (λ s. IsTrue (well_formed s)) (mounted_stores w) → (h : Hit) → IsIndexed w q h
    → (s : Store) → find (λ s. s.sig == h.store) (mounted_stores w) ≡ Some s → IsSome (entry_at h.soup h.uid s)
indexed-there w q apart formed h m s found =
    let stores = mounted_stores w in
    let r = origin stores (stripped q) h (subst (λ (hs : List Hit). Among hs h) (sym (merged-is stores q apart formed)) m) in
    located-there s h.soup h.uid r.at
    (sym (ap (λ (o : Option Store). option_and_then (λ s. located_in s h.soup h.uid) o) found) ∙ hit-located stores apart formed (stripped q) h r)

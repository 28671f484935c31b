-- An alias names its entry, or nothing.
use Rattle.std.proofs.Common.{arith, ◌≡◌, refl, ap, sym, ◌∙◌, subst, ℕ, suc, ◌+◌, List, [], ◌∷◌, inl, inr, Option, Some, None, option_map, option_and_then, find, ◌==◌}
use Rattle.std.specs.Prelude.{slice_get}
use Rattle.std.specs.List.{enumerate_from}
use Rattle.std.proofs.lemmas.Bool.{eqb-true}
use Rattle.newt_spec_store.specs.Store.{Store, Soup, Entry, entry_of}
use Rattle.newt_spec_world.specs.declared.command.Command.{Command}
use Rattle.newt_spec_world.specs.World.{World, Device, store_of, store_on_unit, mounted, mounted_store, on_unit, flat}
use Rattle.newt_spec_world.specs.Alias.{Alias, Spot, resolved}
use Rattle.newt_spec_world.specs.Answer.{after}
use Rattle.newt_spec_graph.specs.Lists.{Among}
use Rattle.newt_laws_changes.specs.Later.{EntryGone}
use Rattle.newt_laws_world.specs.Named.{IsNamed}
use Rattle.newt_spec_graph.proofs.Lists.{among-filter_map, some-same, none-some}
use Rattle.newt_laws_world.proofs.Units.{has-mounted, mapped}
use Rattle.newt_laws_world.proofs.Settled.{find-passes}
use Rattle.newt_laws_world.proofs.Later.{run-later, entry-gone}

among-enumerate : {X : Type 0} (k : ℕ) (us : List X) (n : ℕ) (d : X) → Among (enumerate_from k us) (n, d) → (i : ℕ) × (n ≡ k + i) × (slice_get us i ≡ Some d)
among-enumerate k [] n d m = absurd m
among-enumerate k (x ∷ us) n d (inl e) = (0, omega (arith, ap {A = ℕ × _} {B = ℕ} (λ p. p.0) e), ap {A = ℕ × _} (λ p. Some p.1) e)
among-enumerate k (x ∷ us) n d (inr m) = let r = among-enumerate (k + 1) us n d m in (suc r.0, omega (arith, r.1), r.2)

among-mounted-unit : (w : World) (u : ℕ) (s : Store) → Among (mounted w) (u, s) → mounted_store w u ≡ Some s
among-mounted-unit w u s m =
    let r = among-filter_map (λ d. option_map (λ s. (d.0, s)) (on_unit d.1)) (enumerate_from 0 w.units) (u, s) m in
    let d = mapped (λ (s : Store). (r.0.0, s)) (on_unit r.0.1) (u, s) r.2 in
    let n = among-enumerate 0 w.units r.0.0 r.0.1 r.1 in
    ap (λ k. on_unit (flat (slice_get w.units k))) (sym (ap {A = ℕ × Store} {B = ℕ} (λ p. p.0) d.2) ∙ zero-plus n.0 r.0.0 n.1)
    ∙ ap (λ o. on_unit (flat o)) n.2 ∙ d.1 ∙ ap {A = ℕ × Store} {B = Option Store} (λ p. Some p.1) d.2
  where
    zero-plus : (i n : ℕ) → n ≡ 0 + i → n ≡ i
    zero-plus i n e = omega (arith, e)

pub named-by : (w : World) (a : Alias) (spot : Spot) → resolved w a ≡ Some spot → IsNamed w a spot
named-by w a spot h = in-world (find (λ m. m.1.sig == a.store) (mounted w)) refl h
  where
    with-entry : (u : ℕ) (s : Store) (p : Soup) → mounted_store w u ≡ Some s → s.sig ≡ a.store → Among s.soups p → p.sig ≡ a.soup → (e : Entry) → entry_of a.uid p ≡ Some e
        → record { unit = u; soup = p; entry = e } ≡ spot → IsNamed w a spot
    with-entry u s p m sig n soup e found is = subst (IsNamed w a) is (record {
      on = s;
      mounted_there = m;
      sig_is = sig;
      is_soup = n;
      soup_is = soup;
      is_entry = (find-passes (λ e. e.uid == a.uid) p.entries e found).1;
      uid_is = eqb-true e.uid a.uid (find-passes (λ e. e.uid == a.uid) p.entries e found).0;
    })

    in-store : (u : ℕ) (s : Store) → mounted_store w u ≡ Some s → s.sig ≡ a.store → (o : Option Soup) → find (λ p. p.sig == a.soup) s.soups ≡ o
        → option_and_then (λ p. option_map (λ e. record { unit = u; soup = p; entry = e }) (entry_of a.uid p)) o ≡ Some spot → IsNamed w a spot
    in-store u s m sig None f k = absurd (none-some spot k)
    in-store u s m sig (Some p) f k =
        let q = find-passes (λ p. p.sig == a.soup) s.soups p f in
        let e = mapped (λ (e : Entry). record { unit = u; soup = p; entry = e }) (entry_of a.uid p) spot k in
        with-entry u s p m sig q.1 (eqb-true p.sig a.soup q.0) e.0 e.1 e.2

    in-world : (o : Option (ℕ × Store)) → find (λ m. m.1.sig == a.store) (mounted w) ≡ o
        → option_and_then (λ m. option_and_then (λ p. option_map (λ e. record { unit = m.0; soup = p; entry = e }) (entry_of a.uid p)) (find (λ p. p.sig == a.soup) m.1.soups)) o ≡ Some spot → IsNamed w a spot
    in-world None f k = absurd (none-some spot k)
    in-world (Some (u, s)) f k =
        let q = find-passes (λ m. m.1.sig == a.store) (mounted w) (u, s) f in
        in-store u s (among-mounted-unit w u s q.1) (eqb-true s.sig a.store q.0) (find (λ p. p.sig == a.soup) s.soups) refl k

pub mounted-on : (w : World) (u : ℕ) (s : Store) → mounted_store w u ≡ Some s → store_on_unit w u ≡ Some s
mounted-on w u s h = let r = (has-mounted w u s h).1 in ap (option_and_then (λ (d : Device). store_of d.media)) r.is ∙ ap store_of r.has

pub gone-for-good : (w : World) (cs : List Command) (u : ℕ) (s : Store) (a : Alias) (spot : Spot) → store_on_unit w u ≡ Some s → EntryGone a.soup a.uid s
    → resolved (after w cs) a ≡ Some spot → spot.unit ≡ u → ⊥
gone-for-good w cs u s a spot h gone is same =
    let r = run-later w cs u s h in
    let g = entry-gone a.soup a.uid s r.0 r.2 gone in
    let n = named-by (after w cs) a spot is in
    let t = some-same r.0 n.on (sym r.1 ∙ ap (store_on_unit (after w cs)) (sym same) ∙ mounted-on (after w cs) spot.unit n.on n.mounted_there) in
    g.not_there spot.soup spot.entry (subst (λ x. Among x.soups spot.soup) (sym t) n.is_soup) n.soup_is n.is_entry n.uid_is

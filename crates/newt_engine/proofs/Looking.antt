-- What a command sees of a world: the same stores that are mounted, so the same hits.
use Rattle.std.proofs.Common.{◌≡◌, ◌⊎◌, inl, inr, refl, ap, sym, ◌∙◌, subst, ℕ, zero, suc, List, [], ◌∷◌, Bool, true, false, ◌&&◌, cond, IsTrue, Option, Some, None, option_map, is_none}
use Rattle.std.specs.Prelude.{⊤, slice_get, filter_map}
use Rattle.std.specs.List.{cons_option}
use Rattle.newt_host.specs.Moments.{Moment, image}
use Rattle.newt_spec_graph.specs.Lists.{Pairs}
use Rattle.newt_spec_graph.proofs.Lists.{both-ways, none-some, some-same}
use Rattle.newt_spec_query.specs.Cursor.{Cursor}
use Rattle.newt_spec_query.specs.Hits.{hits}
use Rattle.newt_spec_store.specs.Store.{Store}
use Rattle.newt_spec_store.specs.Valid.{well_formed}
use Rattle.newt_spec_world.specs.First.{media_of}
use Rattle.newt_spec_world.specs.Step.{looks_anew, unsure_look, with_media}
use Rattle.newt_spec_world.specs.World.{World, Device, change_at, device, flat, hits_of, is_unsure, mounted_stores, on_unit, store_if_mounted, store_of, unsure_on}
use Rattle.newt_spec_world.specs.declared.command.Command.{Command}
use Rattle.newt_laws_world.specs.Cursors.{all_closed, with_cursors}
use Rattle.newt_laws_world.specs.Settled.{IsSettled, MountedApart}
use Rattle.newt_laws_world.specs.Worlds.{OnMedia}
use Rattle.newt_laws_world.proofs.Kept.{Every, Wf}
use Rattle.newt_laws_world.proofs.Settled.{AllShow, settled-from, shows-from}
use Rattle.newt_laws_world.proofs.Units.{device-other, device-same, mapped, same-or-not}
use Rattle.newt_laws_steps.specs.Meant.{MountedSure}
use Rattle.newt_laws_steps.specs.StandsFor.{seen, seen_on}
use Rattle.newt_engine.proofs.Seeing.{look-is, look-unsure}

at-unmounted : (u : ℕ) (g : Device → Device) (us : List (Option Device)) (d : Device) → flat (slice_get us u) ≡ Some d → store_if_mounted d ≡ None → store_if_mounted (g d) ≡ None
    → filter_map on_unit (change_at u g us) ≡ filter_map on_unit us
at-unmounted u g [] d e h k = refl
at-unmounted zero g (x ∷ xs) d e h k = ap (λ o. cons_option o (filter_map on_unit xs)) (ap (λ o. on_unit (option_map g o)) e ∙ k ∙ sym h ∙ sym (ap on_unit e))
at-unmounted (suc u) g (x ∷ xs) d e h k = ap (cons_option (on_unit x)) (at-unmounted u g xs d e h k)

module _ (reads : List ℕ → Option Store) (w : World) (now : Moment) (c : Command) where
  pub seen-with : (ks : List (Option Cursor)) → seen reads (with_cursors ks w) now c ≡ with_cursors ks (seen reads w now c)
  seen-with ks = go (looks_anew w c)
    where
      go : (o : Option ℕ) → seen_on reads (with_cursors ks w) now o ≡ with_cursors ks (seen_on reads w now o)
      go None = refl
      go (Some u) = refl

  pub seen-closed : IsTrue (all_closed w) → IsTrue (all_closed (seen reads w now c))
  seen-closed h = go (looks_anew w c)
    where
      go : (o : Option ℕ) → IsTrue (all_closed (seen_on reads w now o))
      go None = h
      go (Some u) = h

  pub seen-formed : ((bytes : List ℕ) (s : Store) → reads bytes ≡ Some s → IsTrue (well_formed s)) → Every Wf w → Every Wf (seen reads w now c)
  seen-formed formed all = go (looks_anew w c)
    where
      read : (blocks : ℕ) (u : ℕ) (o : Option Store) → reads (image u now) ≡ o → OnMedia Wf blocks (media_of o)
      read blocks u None e = tt
      read blocks u (Some s) e = formed (image u now) s e

      put : (u n : ℕ) (k : ⊤) (d : Device) → device (with_media w u (media_of (reads (image u now)))) n ≡ Some d → (n ≡ u) ⊎ (n ≡ u → ⊥) → OnMedia Wf d.blocks d.media
      put u n k d is (inl e) =
          let r = mapped (λ (d : Device). record d { media = media_of (reads (image u now)) }) (device w u) d
          (sym (device-same w u (λ d. record d { media = media_of (reads (image u now)) })) ∙ ap (device (with_media w u (media_of (reads (image u now))))) (sym e) ∙ is) in
          subst (λ (x : Device). OnMedia Wf x.blocks x.media) r.2 (read r.0.blocks u (reads (image u now)) refl)
      put u n k d is (inr other) = all n k d (sym (device-other w u (λ d. record d { media = media_of (reads (image u now)) }) n other) ∙ is)

      go : (o : Option ℕ) → Every Wf (seen_on reads w now o)
      go None = all
      go (Some u) = λ n k d is. put u n k d is (same-or-not n u)

  module _ (sure : MountedSure w) where
    pub seen-stores : mounted_stores (seen reads w now c) ≡ mounted_stores w
    seen-stores = go (looks_anew w c) refl
      where
        there : (u : ℕ) (o : Option Device) → device w u ≡ o → unsure_on w u ≡ true → mounted_stores (with_media w u (media_of (reads (image u now)))) ≡ mounted_stores w
        there u None e h = absurd (both-ways (ap (λ (o : Option Device). let x : Bool = elim o [ None ↦ false | Some d ↦ is_unsure d.media ] in x) (sym e) ∙ h))
        there u (Some d) e h = at-unmounted u (λ d. record d { media = media_of (reads (image u now)) }) w.units d e (ap (λ b. cond b (store_of d.media) None) off)
            (ap (λ b. cond b (store_of (media_of (reads (image u now)))) None) off)
          where
            its : is_unsure d.media ≡ true
            its = ap (λ (o : Option Device). let x : Bool = elim o [ None ↦ false | Some d ↦ is_unsure d.media ] in x) (sym e) ∙ h

            off : d.mounted ≡ false
            off = test d.mounted refl
              where
                test : (b : Bool) → d.mounted ≡ b → d.mounted ≡ false
                test false k = k
                test true k = absurd (both-ways (sym (sure u d e k) ∙ its))

        go : (o : Option ℕ) → looks_anew w c ≡ o → mounted_stores (seen_on reads w now o) ≡ mounted_stores w
        go None e = refl
        go (Some u) e = there u (device w u) refl (look-unsure w u (look-is w c u e).1)

    pub seen-apart : MountedApart w → MountedApart (seen reads w now c)
    seen-apart h = subst (λ ss. Pairs (λ (s t : Store). s.sig ≡ t.sig → ⊥) ss) (sym seen-stores) h

    pub seen-settled : (ks : List (Option Cursor)) → IsSettled (with_cursors ks w) → IsSettled (with_cursors ks (seen reads w now c))
    seen-settled ks h = settled-from (with_cursors ks (seen reads w now c)) (subst (λ ss. AllShow (λ q. hits ss q) ks) (sym seen-stores) (shows-from (with_cursors ks w) h))

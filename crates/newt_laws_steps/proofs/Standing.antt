-- What stands after any step: a mounted unit is sure, no cursor has another key than its hit, and no two mounted stores have one signature.
use Rattle.std.proofs.Common.{◌≡◌, refl, ap, sym, ◌∙◌, subst, ℕ, zero, suc, List, [], ◌∷◌, true, false, Bool, inl, inr, cond, Option, Some, None, is_none, option_map, filter_map, IsTrue}
use Rattle.std.specs.Prelude.{slice_get}
use Rattle.std.specs.List.{cons_option}
use Rattle.newt_base.specs.Refusals.{first_of}
use Rattle.newt_base.specs.declared.Refusal.{Refusal}
use Rattle.newt_spec_query.specs.Hits.{hits}
use Rattle.newt_spec_store.specs.Store.{Store}
use Rattle.newt_spec_world.specs.declared.command.Command.{Command}
use Rattle.newt_spec_world.specs.Reply.{Reply}
use Rattle.newt_spec_world.specs.World.{World, Device, Media, blank, one, two, lost, is_unsure, store_of, store_if_mounted, on_unit, device, flat, change_at, change_device, mounted_stores, hits_of, settle}
use Rattle.newt_spec_world.specs.Changed.{changed}
use Rattle.newt_spec_world.specs.Refused.{checks}
use Rattle.newt_spec_world.specs.Step.{Step, plain, found, thrown, halfway, Found, MayTurnOut, is_accepted, torn, thrown_out, either_of}
use Rattle.newt_laws_world.specs.Settled.{IsSettled, MountedApart}
use Rattle.newt_laws_world.proofs.Settled.{settle-settles, answer-settled, AllShow, shows-from, settled-from}
use Rattle.newt_laws_world.proofs.Mounted.{sigs-apart, change-sigs, row-apart, answer-apart}
use Rattle.newt_laws_world.proofs.Kept.{all-false}
use Rattle.newt_laws_steps.specs.Meant.{MountedSure}
use Rattle.newt_laws_steps.proofs.MeantAnswer.{sure-device, row-mounted, answer-mounted}
use Rattle.newt_spec_graph.proofs.Lists.{none-some}

-- ---- a unit that is not mounted, where it is known what it holds

turns-unsure : (blocks : ℕ) (m n : Media) → MayTurnOut blocks m n → is_unsure m ≡ true
turns-unsure blocks blank n h = absurd h
turns-unsure blocks (one s) n h = absurd h
turns-unsure blocks (two a b) n h = refl
turns-unsure blocks lost n h = refl

both : {A : Type 0} (b : Bool) → b ≡ true → b ≡ false → A
both b h k = cc

found-unmounted : (w : World) (u : ℕ) (v : World) (f : Found w u v) → MountedSure w → f.on.mounted ≡ false
found-unmounted w u v f sure = go f.on.mounted refl
  where
    go : (b : Bool) → f.on.mounted ≡ b → f.on.mounted ≡ false
    go false e = e
    go true e = both (is_unsure f.on.media) (turns-unsure f.on.blocks f.on.media f.holds f.may) (sure u f.on f.there e)

at-unmounted : (u : ℕ) (g : Device → Device) (us : List (Option Device)) (d : Device) → flat (slice_get us u) ≡ Some d → store_if_mounted d ≡ None → store_if_mounted (g d) ≡ None
    → filter_map on_unit (change_at u g us) ≡ filter_map on_unit us
at-unmounted u g [] d e h k = refl
at-unmounted zero g (x ∷ xs) d e h k = ap (λ o. cons_option o (filter_map on_unit xs)) (ap (λ o. on_unit (option_map g o)) e ∙ k ∙ sym h ∙ sym (ap on_unit e))
at-unmounted (suc u) g (x ∷ xs) d e h k = ap (cons_option (on_unit x)) (at-unmounted u g xs d e h k)

found-stores : (w : World) (u : ℕ) (v : World) → Found w u v → MountedSure w → mounted_stores v ≡ mounted_stores w
found-stores w u v f sure = ap mounted_stores f.is ∙ at-unmounted u (λ d. record d { media = f.holds }) w.units f.on f.there
    (ap (λ b. cond b (store_of f.on.media) None) (found-unmounted w u v f sure)) (ap (λ b. cond b (store_of f.holds) None) (found-unmounted w u v f sure))

found-sure : (w : World) (u : ℕ) (v : World) → Found w u v → MountedSure w → MountedSure v
found-sure w u v f sure = subst MountedSure (sym f.is) (sure-device w u (λ d. record d { media = f.holds }) sure (λ d e m. turns f.on.blocks f.on.media f.holds f.may))
  where
    turns : (blocks : ℕ) (m n : Media) → MayTurnOut blocks m n → is_unsure n ≡ false
    turns blocks blank n h = absurd h
    turns blocks (one s) n h = absurd h
    turns blocks (two a b) n (inl e) = ap is_unsure e
    turns blocks (two a b) n (inr e) = ap is_unsure e
    turns blocks lost n (inl e) = ap is_unsure e
    turns blocks lost n (inr e) = ap is_unsure e.2

found-settled : (w : World) (u : ℕ) (v : World) → Found w u v → MountedSure w → IsSettled w → IsSettled v
found-settled w u v f sure h = settled-from v (subst (λ (cs : List _). AllShow (hits_of v) cs) (sym (ap (λ (x : World). x.cursors) f.is))
    (subst (λ ss. AllShow (λ q. hits ss q) w.cursors) (sym (found-stores w u v f sure)) (shows-from w h)))

found-apart : (w : World) (u : ℕ) (v : World) → Found w u v → MountedSure w → MountedApart w → MountedApart v
found-apart w u v f sure h = subst (λ ss. Rattle.newt_spec_graph.specs.Lists.Pairs (λ (s t : Store). s.sig ≡ t.sig → ⊥) ss) (sym (found-stores w u v f sure)) h

-- ---- a unit that is thrown out

out-sure : (w : World) (u : ℕ) (change : Media → Media) → MountedSure w → MountedSure (settle (thrown_out w u change))
out-sure w u change sure = sure-device w u (λ d. record d { media = change d.media; mounted = false }) sure (λ d e m. both false m refl)

out-apart : (w : World) (u : ℕ) (change : Media → Media) → MountedApart w → MountedApart (settle (thrown_out w u change))
out-apart w u change h = sigs-apart (change_device w u (λ d. record d { media = change d.media; mounted = false })) w
    (change-sigs w u (λ d. record d { media = change d.media; mounted = false }) (λ d t f. absurd (none-some t f))) h

pub is-accepted : (w : World) (c : Command) → IsTrue (is_accepted w c) → first_of (checks w c) ≡ None
is-accepted w c h = go (first_of (checks w c)) h
  where
    go : (o : Option Refusal) → is_none o ≡ true → o ≡ None
    go None h = refl
    go (Some r) h = both false h refl

-- ---- any step

pub step-settled : (w : World) (c : Command) (v : World) (r : Reply) → MountedSure w → IsSettled w → Step w c v r → IsSettled v
step-settled w c v r sure h (plain none is) = subst (λ (p : World × Reply). IsSettled p.0) is (answer-settled w c h)
step-settled w c v r sure h (found {u} looks f is) = subst (λ (p : World × Reply). IsSettled p.0) is (answer-settled _ c (found-settled w u _ f sure h))
step-settled w c v r sure h (thrown {u} next is) = subst IsSettled (sym next) (settle-settles (thrown_out w u (torn w c u)))
step-settled w c v r sure h (halfway {u} moves ok next is) = subst IsSettled (sym next) (settle-settles (thrown_out (changed w c) u (either_of (Rattle.newt_spec_world.specs.World.store_on_unit w u))))

pub step-apart : (w : World) (c : Command) (v : World) (r : Reply) → MountedSure w → MountedApart w → Step w c v r → MountedApart v
step-apart w c v r sure h (plain none is) = subst (λ (p : World × Reply). MountedApart p.0) is (answer-apart w c h)
step-apart w c v r sure h (found {u} looks f is) = subst (λ (p : World × Reply). MountedApart p.0) is (answer-apart _ c (found-apart w u _ f sure h))
step-apart w c v r sure h (thrown {u} next is) = subst MountedApart (sym next) (out-apart w u (torn w c u) h)
step-apart w c v r sure h (halfway {u} moves ok next is) = subst MountedApart (sym next) (out-apart (changed w c) u (either_of (Rattle.newt_spec_world.specs.World.store_on_unit w u)) (row-apart w c h (all-false (checks w c) (is-accepted w c ok))))

pub step-sure : (w : World) (c : Command) (v : World) (r : Reply) → MountedSure w → Step w c v r → MountedSure v
step-sure w c v r sure (plain none is) = subst (λ (p : World × Reply). MountedSure p.0) is (answer-mounted w c sure)
step-sure w c v r sure (found {u} looks f is) = subst (λ (p : World × Reply). MountedSure p.0) is (answer-mounted _ c (found-sure w u _ f sure))
step-sure w c v r sure (thrown {u} next is) = subst MountedSure (sym next) (out-sure w u (torn w c u) sure)
step-sure w c v r sure (halfway {u} moves ok next is) = subst MountedSure (sym next) (out-sure (changed w c) u (either_of (Rattle.newt_spec_world.specs.World.store_on_unit w u)) (row-mounted w c sure (all-false (checks w c) (is-accepted w c ok))))
